-- The bytes of a hop are there, and what follows them is looked at; or they aren't.
use Rattle.std.proofs.Common.{◌<◌, ◌-◌, IsTrue, refl, arith, rules}
use Rattle.std.specs.Str.{IsUtf8}
use Rattle.site_inputs.specs.Fields.{fields}
use Rattle.site_records.specs.EntryLines.{IsHopForm, hop}
use Rattle.site_records.specs.Entries.{IsLine, HasBytes}
use Rattle.site_records.proofs.TornLaws.{row_whole, row_short, le_test}
use Rattle.site_records.proofs.torn.+is_torn_row.Goals as goal

pub returns-in-Some-counted : goal.returns-in-Some-counted
returns-in-Some-counted t c =
    let h = c.in-Some.ensures in
    let a = c.in-Some.line-is in
    let b = c.in-Some.behind-is in
    let is : IsLine c.args.text.now c.in-Some.line.now c.in-Some.behind.now × IsUtf8 c.in-Some.line.now = first_of (assumption h, search (rules, h), grind (arith, h, a, b)) in
    let f = c.in-Some-Whole.ensures in
    let form : IsHopForm (fields c.in-Some.line.now) (hop c.in-Some-Whole.field-0-0.now c.in-Some-Whole.len) = first_of (assumption f, search (rules, f), grind (arith, f)) in
    let k = c.in-Some-counted.ensures in
    let l = c.in-Some-counted.after-is in
    let has : HasBytes c.in-Some.behind.now c.in-Some-Whole.len c.in-Some-counted.field-0-0.now c.in-Some-counted.after.now = first_of (assumption k, search (rules, k), grind (arith, k, l)) in
    let some : 0 < c.args.count = let some = c.if-count-eq0.false in omega (arith, some) in
    row_whole c.args.count (c.args.count - 1) c.args.text.now c.in-Some.line.now c.in-Some.behind.now c.in-Some-Whole.field-0-0.now c.in-Some-counted.field-0-0.now c.in-Some-counted.after.now c.in-Some-Whole.len
    (IsTrue c.is_torn_row.result) some refl is.0 (is.1, form) has c.is_torn_row.ensures

pub returns-in-None-counted : goal.returns-in-None-counted
returns-in-None-counted t c =
    let h = c.in-Some.ensures in
    let a = c.in-Some.line-is in
    let b = c.in-Some.behind-is in
    let is : IsLine c.args.text.now c.in-Some.line.now c.in-Some.behind.now × IsUtf8 c.in-Some.line.now = first_of (assumption h, search (rules, h), grind (arith, h, a, b)) in
    let f = c.in-Some-Whole.ensures in
    let form : IsHopForm (fields c.in-Some.line.now) (hop c.in-Some-Whole.field-0-0.now c.in-Some-Whole.len) = first_of (assumption f, search (rules, f), grind (arith, f)) in
    let some : 0 < c.args.count = let some = c.if-count-eq0.false in omega (arith, some) in
    row_short c.args.count c.args.text.now c.in-Some.line.now c.in-Some.behind.now c.in-Some-Whole.field-0-0.now c.in-Some-Whole.len _ some is.0 (is.1, form) c.in-None-counted.ensures
    (le_test _ c.in-Some-Whole.len)
