-- The entry that the fields say, whose line it is.
use Rattle.std.proofs.Common.{◌≡◌, List, Some, ℕ, Vec, Global, map, subst, sym}
use Rattle.std.proofs.lemmas.Result.{IfOk-weaker}
use Rattle.entry_lines.specs.Fields.{fields_text}
use Rattle.mirror_index.specs.Entries.{Entry, IsEntry, check_of, entry_fields, entry_line}
use Rattle.mirror_index.proofs.EntryLaws.{own_back}
use Rattle.mirror_index.proofs.FieldLaws.{check_spaceless}
use Rattle.mirror_index.proofs.line.read_line.Goals as goal

pub returns-in-Some-clause-back : goal.returns-in-Some-clause-back
returns-in-Some-clause-back c =
    IfOk-weaker c.if_own.result _ (λ own. (e : Entry) → IsEntry e → c.args.line.now ≡ entry_line e → own ≡ Some e)
    (λ own says e is same.
    let fields = c.in_ok-fields.ensures (entry_fields e) (check_of (fields_text (entry_fields e))) (check_spaceless (fields_text (entry_fields e))) same in
    let found = c.in_ok-said.ensures e is (subst (λ (vs : List (Vec ℕ Global)). map (λ (f : Vec ℕ Global). f.items) vs ≡ entry_fields e) (sym c.as_slice.ensures.value) fields) in
    let this : c.in-Some.entry ≡ e = cc (found, c.in-Some.is) in
    own_back c.args.line.now c.in-Some.entry e own says this same)
    c.if_own.ensures

pub returns-clause-back : goal.returns-clause-back
returns-clause-back c e is same =
    let fields = c.in_ok-fields.ensures (entry_fields e) (check_of (fields_text (entry_fields e))) (check_spaceless (fields_text (entry_fields e))) same in
    let found = c.in_ok-said.ensures e is (subst (λ (vs : List (Vec ℕ Global)). map (λ (f : Vec ℕ Global). f.items) vs ≡ entry_fields e) (sym c.as_slice.ensures.value) fields) in
    cc (found, c.in-None.is)
