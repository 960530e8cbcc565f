use Rattle.std.proofs.Common.{option_map, string_bytes, ap}
use Rattle.html_links.specs.Scanning.{scanned}
use Rattle.html_links.proofs.Scanning.{sheet_noted}
use Rattle.html_links.proofs.links.Scan.note_sheet.Goals as goal

pub returns : goal.returns
returns c =
    let noted = c.in_ok-note_references.ensures in
    sheet_noted (scanned c.args.self.now) (scanned c.note_references.new.self) c.args.found.items (ap (option_map string_bytes) noted.base) noted.links noted.nofollow
