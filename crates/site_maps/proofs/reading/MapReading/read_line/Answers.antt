-- What a line says is what its text says.
use Rattle.std.proofs.Common.{inl}
use Rattle.site_maps.proofs.FormLaws.{reads_line, form_utf8}
use Rattle.site_maps.proofs.reading.MapReading.read_line.Goals as goal

pub returns-in_default : goal.returns-in_default
returns-in_default c = λ above t. inl (λ s h. c.in_default.ensures.cases.0 (form_utf8 c.args.line.now s h))

pub returns-in_default-of : goal.returns-in_default-of
returns-in_default-of c = λ above t. inl (rw c.in-Ok.ensures.cases.0 at c.in_default-of.ensures)

pub returns : goal.returns
returns c =
    let form = rw c.in-Ok.ensures.cases.0 at c.in-Some.ensures in
    reads_line c.args.self.now c.add.new.self c.add.result c.args.line.now _ form c.add.ensures
