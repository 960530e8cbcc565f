use Rattle.std.proofs.Common.{inl, inr, ⊎_elim, ℕ, false, List, [], ◌++◌, Option, string_bytes, refl}
use Rattle.disk_folder.specs.Disks.{Holed}
use Rattle.run_journal.specs.Written.{LeavesText}
use Rattle.run_journal.proofs.WritingLaws.{both, holed_of, passes_more, torn_of}
use Rattle.run_journal.proofs.journal.Journal.append.Goals as goal

pub returns-in-Ok-clause-lives : goal.returns-in-Ok-clause-lives
returns-in-Ok-clause-lives g c text start is_open is_placed w =
    let D = g.D.Disk in
    let name = string_bytes c.args.self.now.name in
    let old = c.args.disk.now in
    let new = c.add.new.self in
    let line = c.args.line.now in
    let is = w.stands is_open is_placed in
    let torn : (x : List ℕ) → D.kept new name x → Holed (text ++ line) x =
    holed_of (text ++ line) (D.kept new name) (c.add.ensures.torn name [] text is.made.is_opened is.made.stands (torn_of text (D.kept old name) is.made.torn)) in
    let older : (o : Option (List ℕ)) → D.stale new name o → D.left start name o = λ o was. is.older o (c.add.ensures.stale name o was) in
    let here : (o : Option (List ℕ)) → D.left new name o → LeavesText (D.left start name) (text ++ line) o = λ o left.
    ⊎_elim (λ was. inl (older o was)) (λ k. inr (k.0, k.1, torn k.0 k.2)) (c.add.ensures.crash name text o is.made.is_opened is.made.stands left) in
    record {
      passes = passes_more D.moment D.since D.left g.met.D.Disk.only_now name start old new text line w.passes c.add.ensures.time here;
      waits = λ _ waiting. both c.args.self.now.is_placed is_placed waiting;
      stands = λ _ _. record {
        made = record {
          is_opened = c.in-Ok.ensures.stays_open name is.made.is_opened;
          is_held = c.add.ensures.stays_held name is.made.is_held;
          stands = c.in-Ok.ensures.added name text is.made.is_opened is.made.stands;
          torn = torn;
        };
        older = older;
      };
    }

pub returns-in-Err-clause-lives : goal.returns-in-Err-clause-lives
returns-in-Err-clause-lives g c text start is_open is_placed w =
    let D = g.D.Disk in
    let name = string_bytes c.args.self.now.name in
    let old = c.args.disk.now in
    let new = c.add.new.self in
    let line = c.args.line.now in
    let is = w.stands is_open is_placed in
    let torn : (x : List ℕ) → D.kept new name x → Holed (text ++ line) x =
    holed_of (text ++ line) (D.kept new name) (c.add.ensures.torn name [] text is.made.is_opened is.made.stands (torn_of text (D.kept old name) is.made.torn)) in
    let here : (o : Option (List ℕ)) → D.left new name o → LeavesText (D.left start name) (text ++ line) o = λ o left.
    ⊎_elim (λ was. inl (is.older o (c.add.ensures.stale name o was))) (λ k. inr (k.0, k.1, torn k.0 k.2)) (c.add.ensures.crash name text o is.made.is_opened is.made.stands left) in
    record {
      passes = passes_more D.moment D.since D.left g.met.D.Disk.only_now name start old new text line w.passes c.add.ensures.time here;
      waits = λ now _. both false now refl;
      stands = λ now _. both false now refl;
    }
