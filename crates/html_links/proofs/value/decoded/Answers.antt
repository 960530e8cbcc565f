use Rattle.std.proofs.Common.{◌≡◌, ◌∙◌, length, sym, ap}
use Rattle.std.specs.Prelude.{string_bytes}
use Rattle.html_links.specs.Values.{trimmed}
use Rattle.html_links.proofs.Referencing.{trimmed_whole}
use Rattle.html_links.proofs.value.decoded.Goals as goal

pub returns-then-text-len : goal.returns-then-text-len
returns-then-text-len c =
    let text = string_bytes c.in_ok-decoded.decoded in
    let cut : c.trim-text.result.now ≡ trimmed text = c.trim-text.ensures ∙ ap trimmed c.as_str.ensures.value in
    sym (trimmed_whole text (sym (ap length cut) ∙ c.if-text-len.true ∙ c.len.ensures ∙ c.in_ok-decoded.decoded.bytes.ok.0)) ∙ ap trimmed c.in_ok-decoded.ensures.lossy
