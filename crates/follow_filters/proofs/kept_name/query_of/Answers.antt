use Rattle.std.proofs.Common.{◌≡◌, ◌+◌, ◌-◌, length, take, drop, ap, ◌∙◌}
use Rattle.std.proofs.Math.Seq.{drop-append_seam}
use Rattle.std.proofs.lemmas.List.{take_rest}
use Rattle.follow_filters.proofs.NameLemmas.{query_behind}
use Rattle.address.specs.Address.{origin_of, path_query_of, dir_of, file_of, query_of}
use Rattle.follow_filters.proofs.kept_name.query_of.Goals as goal

pub returns : goal.returns
returns c =
    let text = c.as_bytes-text.result.now in
    let page = c.args.page.now in
    let is = c.as_str.ensures.address in
    let origin = length c.origin.result.now in
    let behind = take (length text - origin) (drop origin text) in
    let path_query : behind ≡ path_query_of page =
    take_rest text origin
    ∙ ap (λ u. drop (length u) text) c.origin.ensures.value
    ∙ ap (drop (length (origin_of page))) (c.as_bytes-text.ensures.value ∙ c.as_str.ensures.value ∙ is.split)
    ∙ drop-append_seam (origin_of page) (path_query_of page) in
    take_rest behind (length c.dir.result.now + length c.file.result.now)
    ∙ ap (λ n. drop n behind) (ap (λ d. length d + length c.file.result.now) c.dir.ensures.value ∙ ap (λ f. length (dir_of page) + length f) c.file.ensures.value)
    ∙ query_behind behind (dir_of page) (file_of page) (query_of page) (path_query ∙ is.path_parts)
