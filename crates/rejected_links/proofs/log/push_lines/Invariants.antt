-- The text has gained the lines of the links so far, and they are of addresses.
use Rattle.std.proofs.Common.{◌≡◌, ◌++◌, string_bytes, take}
use Rattle.std.specs.Prelude.{All}
use Rattle.std.specs.List.{flat_map}
use Rattle.rejected_links.specs.Lines.{line_text}
use Rattle.rejected_links.specs.inner.Links.{seen, IsOfAddresses}
use Rattle.rejected_links.proofs.log.push_lines.Given as goal

abbrev pub invariant-loop-link : goal.invariant-loop-link
invariant-loop-link l = record {
  text : string_bytes l.text ≡ string_bytes l.initial.text ++ flat_map (λ link. line_text (seen link)) (take l.link-index l.links);
  addresses : All IsOfAddresses (take l.link-index l.links);
}
