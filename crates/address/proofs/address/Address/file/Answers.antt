use Rattle.std.proofs.Common.{drop, ap, sym, ◌∙◌}
use Rattle.std.proofs.lemmas.Str.{IsCharBoundary-from_ascii}
use Rattle.address.specs.Address.{file_of, dir_len}
use Rattle.address.proofs.UrlLemmas.{file_of-url_text_of}
use Rattle.address.proofs.address.Address.file.Goals as goal

pub range_from-requires : goal.range_from-requires
range_from-requires c = λ some. IsCharBoundary-from_ascii _ _ c.path-path.ensures.ascii c.dir_len.ensures.within

pub returns-clause-value : goal.returns-clause-value
returns-clause-value c =
    c.range_from.ensures.value ∙ ap (λ n. drop n c.path-path.result.now) c.dir_len.ensures.value
    ∙ ap (λ p. drop (dir_len p) p) c.path-path.ensures.value
    ∙ sym (file_of-url_text_of c.url.result.now c.url.ensures.http) ∙ ap file_of c.url.ensures.text
