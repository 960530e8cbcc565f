-- How the code's links are seen, and their order.
use Rattle.std.specs.Prelude.{List, All, map}
use Rattle.address.specs.Address.{IsAddress}
use Rattle.address.specs.AddressOrder.{IsAscending}
use Rattle.rejected_links.specs.declared.rejected_link.RejectedLink.{RejectedLink}
use Rattle.rejected_links.specs.Lines.{Rejected, line_text}

-- what a link of the code says
abbrev pub seen : RejectedLink → Rejected
seen link = record { reason = link.reason; target = link.target.now; page = link.page.now }

-- it leads from an address to an address
abbrev pub IsOfAddresses : RejectedLink → Type 0
IsOfAddresses link = IsAddress link.target.now × IsAddress link.page.now

-- their lines ascend, if they are of addresses
abbrev pub AreSorted : List RejectedLink → Type 0
AreSorted links = All IsOfAddresses links → IsAscending (map line_text (map seen links))
