-- The entry is what its first line says, with what follows it.
use Rattle.std.proofs.Common.{◌∙◌, inl, sym, arith, rules}
use Rattle.std.specs.Str.{IsUtf8}
use Rattle.site_records.specs.Entries.{IsLine}
use Rattle.site_records.proofs.EntryLaws.{no_line, no_form, reads_entry, shorter, counted_form}
use Rattle.site_records.proofs.FormLaws.{other_version}
use Rattle.site_records.proofs.reading.RecordReading.read_entry.Goals as goal

pub returns-in_default-clause-read : goal.returns-in_default-clause-read
returns-in_default-clause-read c = inl (no_line c.args.self.now.version c.args.text.now c.in_default.ensures)

pub returns-in_default-of-clause-read : goal.returns-in_default-of-clause-read
returns-in_default-of-clause-read c =
    let h = c.in-Some.ensures in
    let a = c.in-Some.line-is in
    let b = c.in-Some.behind-is in
    let is : IsLine c.args.text.now c.in-Some.line.now c.in-Some.behind.now × IsUtf8 c.in-Some.line.now = first_of (assumption h, search (rules, h), grind (arith, h, a, b)) in
    inl (no_form c.args.self.now.version c.args.text.now c.in-Some.line.now c.in-Some.behind.now is.0 (λ s form. c.in_default-of.ensures s form.1))

pub returns-then-not-is_of-clause-read : goal.returns-then-not-is_of-clause-read
returns-then-not-is_of-clause-read c =
    let h = c.in-Some.ensures in
    let a = c.in-Some.line-is in
    let b = c.in-Some.behind-is in
    let is : IsLine c.args.text.now c.in-Some.line.now c.in-Some.behind.now × IsUtf8 c.in-Some.line.now = first_of (assumption h, search (rules, h), grind (arith, h, a, b)) in
    inl (no_form c.args.self.now.version c.args.text.now c.in-Some.line.now c.in-Some.behind.now is.0
    (other_version c.args.self.now.version c.in-Some.line.now _ c.in-Some-of.ensures (sym c.is_of.ensures ∙ c.if-not-is_of.true)))

pub add-requires : goal.add-requires
add-requires c = counted_form _ _ c.in-Some-of.ensures

pub returns-clause-read : goal.returns-clause-read
returns-clause-read c =
    let h = c.in-Some.ensures in
    let a = c.in-Some.line-is in
    let b = c.in-Some.behind-is in
    let is : IsLine c.args.text.now c.in-Some.line.now c.in-Some.behind.now × IsUtf8 c.in-Some.line.now = first_of (assumption h, search (rules, h), grind (arith, h, a, b)) in
    let yes = sym c.is_of.ensures ∙ c.if-not-is_of.false in
    reads_entry c.args.self.now c.add.new.self c.add.result c.args.text.now c.in-Some.line.now c.in-Some.behind.now _ is.0 (is.1, c.in-Some-of.ensures, yes) c.add.ensures

pub returns-clause-shorter : goal.returns-clause-shorter
returns-clause-shorter c =
    let h = c.in-Some.ensures in
    let a = c.in-Some.line-is in
    let b = c.in-Some.behind-is in
    let is : IsLine c.args.text.now c.in-Some.line.now c.in-Some.behind.now × IsUtf8 c.in-Some.line.now = first_of (assumption h, search (rules, h), grind (arith, h, a, b)) in
    shorter c.args.self.now c.add.new.self c.add.result c.args.text.now c.in-Some.line.now c.in-Some.behind.now _ is.0 c.add.ensures
