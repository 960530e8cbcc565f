use Rattle.std.proofs.Common.{ap, sym, subst, ◌∙◌, string_bytes, IsUtf8}
use Rattle.std.specs.Str.Lossy.{utf8_lossy}
use Rattle.std.proofs.lemmas.Str.{IsUtf8-string_bytes, utf8_lossy-IsUtf8}
use Rattle.css_links.proofs.escape.decoded.Goals as goal

pub returns-in-Ok : goal.returns-in-Ok
returns-in-Ok c =
    sym (utf8_lossy-IsUtf8 (string_bytes c.in-Ok.text) (IsUtf8-string_bytes c.in-Ok.text))
    ∙ ap utf8_lossy (ap (λ v. v.items) c.in-Ok.ensures.ok ∙ c.in_ok-unescaped.ensures)
