-- What the calls say of the parts.
use Rattle.std.proofs.Common.{◌<◌, ◌^◌, subst}
use Rattle.address.specs.Address.{IsAddress}
use Rattle.mirror_index.specs.Entries.{KeptHead}
use Rattle.mirror_index.proofs.line.entry_text.Goals as goal

pub returns-clause-parts : goal.returns-clause-parts
returns-clause-parts c = record {
  address = subst IsAddress c.address.ensures c.as_str.ensures.address;
  size = c.size.ensures.fits;
  status = subst (λ (h : KeptHead). h.status < 2 ^ 16) c.head.ensures c.push_head.ensures.fits;
  mark = c.mark.ensures.is;
}
