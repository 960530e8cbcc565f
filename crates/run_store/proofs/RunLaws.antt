-- Any list of calls of an index: what is known after it, and what a crash at any moment of it leaves.
use Rattle.std.proofs.Common.{◌≡◌, ◌≤◌, ◌+◌, ◌-◌, ℕ, Bool, true, false, List, [], ◌∷◌, ◌++◌, length, take, Option, Some, None, string_bytes, refl, sym, ◌∙◌, ap, subst, arith, append_assoc, length-append}
use Rattle.std.proofs.lemmas.List.{append-nil}
use Rattle.std.proofs.Math.Seq.{take-append-add}
use Rattle.std.specs.declared.string.String.{String}
use Rattle.std.specs.declared.alloc.Global.{Global}
use Rattle.disk_folder.specs.Disks.{LeavesOnly}
use Rattle.disk_folder.proofs.Moments.{at_rest, and_then}
use Rattle.entry_lines.specs.Lines.{IsFrontOf, recovered}
use Rattle.run_store.specs.declared.index.Index.{Index}
use Rattle.run_store.specs.Indexes.{IsIndex, LeavesFront}
use Rattle.run_store.specs.Runs.{done, nothing, shut, Call, appends, syncs, entry_of, entries_of, LeavesKept, Shuts, Step, Ran}
use Rattle.run_store.proofs.Fronts.{leaves_front, leaves_more}

abbrev Entries : Type 0
Entries = List (List ℕ)

-- ---- fronts of one list, however it is split

-- a front that is not shorter than the first part
front_taken : (d x es : Entries) → IsFrontOf d x es → (n : ℕ) × (length d ≤ n) × (n ≤ length (d ++ x)) × (es ≡ take n (d ++ x))
front_taken d x es front = (length d + front.count, omega arith, omega (arith, front.no_more, length-append d x), front.is ∙ sym (take-append-add d x front.count))

taken_front : (d x es : Entries) (n : ℕ) → length d ≤ n → n ≤ length (d ++ x) → es ≡ take n (d ++ x) → IsFrontOf d x es
taken_front d x es n long short is =
    let whole : n ≡ length d + (n - length d) = omega (arith, long) in
    record {
      count = n - length d;
      no_more = omega (arith, short, length-append d x);
      is = is ∙ ap (λ (k : ℕ). take k (d ++ x)) whole ∙ take-append-add d x (n - length d);
    }

-- one that has more of it for certain is one that has less
pub front_back : (d x e y es : Entries) → e ++ y ≡ d ++ x → length d ≤ length e → IsFrontOf e y es → IsFrontOf d x es
front_back d x e y es same le front =
    let t = front_taken e y es front in
    taken_front d x es t.0 (omega (arith, le, t.1)) (subst (λ (l : Entries). t.0 ≤ length l) same t.2) (t.3 ∙ ap (λ (l : Entries). take t.0 l) same)

leaves_back : (d x e y : Entries) (c : Option (List ℕ)) → e ++ y ≡ d ++ x → length d ≤ length e → LeavesFront e y c → LeavesFront d x c
leaves_back d x e y None same le front = front
leaves_back d x e y (Some bytes) same le front = front_back d x e y (recovered bytes) same le front

-- ---- entries of calls

pub entries-append : (xs ys : List Call) → entries_of (xs ++ ys) ≡ entries_of xs ++ entries_of ys
entries-append [] ys = refl
entries-append (x ∷ xs) ys = ap (λ (l : Entries). entry_of x ++ l) (entries-append xs ys) ∙ sym (append_assoc (entry_of x) (entries_of xs) (entries_of ys))

abbrev is_sync : Call → Bool
is_sync (syncs done) = true
is_sync (syncs nothing) = false
is_sync (syncs shut) = false
is_sync (appends e ending) = false

no_sync : (call : Call) → is_sync call ≡ false → call ≡ syncs done → ⊥
no_sync call isnt is = not_both (sym isnt ∙ ap is_sync is)
  where
    not_both : false ≡ true → ⊥
    not_both h = cc h

abbrev first_or : Call → List Call → Call
first_or c [] = c
first_or c (x ∷ xs) = x

abbrev others : List Call → List Call
others [] = []
others (x ∷ xs) = xs

none_left : (xs ys : List Call) → [] ≡ xs ++ syncs done ∷ ys → ⊥
none_left [] ys is = cc is
none_left (x ∷ xs) ys is = cc is

-- what is known of a front that way
to_kept : (first : Entries) (before behind : List Call) (c : Option (List ℕ)) (d a : Entries) → LeavesFront d (a ++ entries_of behind) c → d ++ a ≡ first ++ entries_of before
    → ((xs ys : List Call) → before ≡ xs ++ syncs done ∷ ys → length (first ++ entries_of xs) ≤ length d) → length first ≤ length d → LeavesKept first before behind c
to_kept first before behind None d a front all synced longer = front
to_kept first before behind (Some bytes) d a front all synced longer =
    let t = front_taken d (a ++ entries_of behind) (recovered bytes) front in
    let every = entries_of (before ++ behind) in
    let joined : d ++ (a ++ entries_of behind) ≡ first ++ every = sym (append_assoc d a (entries_of behind)) ∙ ap (λ (l : Entries). l ++ entries_of behind) all
    ∙ append_assoc first (entries_of before) (entries_of behind) ∙ ap (λ (l : Entries). first ++ l) (sym (entries-append before behind)) in
    let short : t.0 ≤ length (first ++ every) = subst (λ (l : Entries). t.0 ≤ length l) joined t.2 in
    let whole : t.0 ≡ length first + (t.0 - length first) = omega (arith, longer, t.1) in
    record {
      count = t.0 - length first;
      no_more = omega (arith, short, length-append first every);
      is = t.3 ∙ ap (λ (l : Entries). take t.0 l) joined ∙ ap (λ (k : ℕ). take k (first ++ every)) whole ∙ take-append-add first every (t.0 - length first);
      synced = λ xs ys i. omega (arith, synced xs ys i, length-append first (entries_of xs), t.1);
    }

-- ---- an index after some calls

not_open : true ≡ false → ⊥
not_open h = cc h

module _ {D : Type 0} (opened : D → List ℕ → Type 0) (seen : D → List ℕ → Option (List ℕ) → Type 0) (named : D → List ℕ → Type 0) (kept : D → List ℕ → List ℕ → Type 0) (left : D → List ℕ → Option (List ℕ) → Type 0)
    (moment : D → ℕ) (since : D → ℕ → List ℕ → Option (List ℕ) → Type 0)
    (leaves_named : (disk : D) (n : List ℕ) (c : Option (List ℕ)) → named disk n → left disk n c → (x : List ℕ) × (c ≡ Some x) × kept disk n x)
    (counts_now : (disk : D) (t : ℕ) (n : List ℕ) (c : Option (List ℕ)) → t ≤ moment disk → left disk n c → since disk t n c)
    (only_now : (disk : D) (n : List ℕ) (c : Option (List ℕ)) → since disk (moment disk) n c → left disk n c)
    (name : List ℕ) where
  -- a crash leaves these entries and a front of the others; if it is open they are there
  record Stands (d a : Entries) (index : Index D) : Type 0 where
    same_name : string_bytes index.name ≡ name
    fronts : (c : Option (List ℕ)) → left index.disk name c → LeavesFront d a c
    known : index.is_open ≡ true → IsIndex opened seen named kept index d a

  abbrev Leaves : Index D → Index D → Entries → Entries → Type 0
  Leaves i j d a = LeavesOnly moment since name i.disk j.disk (LeavesFront d a)

  of_index : (d a : Entries) (i : Index D) → string_bytes i.name ≡ name → IsIndex opened seen named kept i d a → Stands d a i
  of_index d a i same is = record {
    same_name = same;
    fronts = λ c l. leaves_front d a (kept i.disk (string_bytes i.name)) is.are_done is.are_added is.torn c
        (leaves_named i.disk (string_bytes i.name) c is.is_named (subst (λ (n : List ℕ). left i.disk n c) (sym same) l));
    known = λ _. is;
  }

  -- after a call
  record Goes (call : Call) (d a : Entries) (i j : Index D) : Type 0 where
    d' : Entries
    a' : Entries
    stands : Stands d' a' j
    all : d' ++ a' ≡ (d ++ a) ++ entry_of call
    longer : length d ≤ length d'
    synced : call ≡ syncs done → length (d ++ a) ≤ length d'
    leaves : Leaves i j d (a ++ entry_of call)

  nothing_done : (call : Call) (d a : Entries) (i j : Index D) → Stands d a i → j ≡ i → entry_of call ≡ [] → is_sync call ≡ false → Goes call d a i j
  nothing_done call d a i j s same none isnt = subst (λ (k : Index D). Goes call d a i k) (sym same) (record {
    d' = d;
    a' = a;
    stands = s;
    all = sym (append-nil (d ++ a)) ∙ ap (λ (l : Entries). (d ++ a) ++ l) (sym none);
    longer = omega arith;
    synced = λ is. absurd (no_sync call isnt is);
    leaves = at_rest moment since left only_now name i.disk (LeavesFront d (a ++ entry_of call)) (λ c l. leaves_more d a (entry_of call) c (s.fronts c l));
  })

  passing : (d a es : Entries) (i j : Index D) → Stands d a i → i.is_open ≡ true
      → ((done_ added : Entries) → IsIndex opened seen named kept i done_ added → LeavesOnly moment since (string_bytes i.name) i.disk j.disk (LeavesFront done_ (added ++ es))) → Leaves i j d (a ++ es)
  passing d a es i j s is_open passes = subst (λ (n : List ℕ). LeavesOnly moment since n i.disk j.disk (LeavesFront d (a ++ es))) s.same_name (passes d a (s.known is_open))

  -- what a crash leaves after a call that failed
  behind : (d a : Entries) (i j : Index D) → Leaves i j d a → (c : Option (List ℕ)) → left j.disk name c → LeavesFront d a c
  behind d a i j leaves c l = leaves.each c (counts_now j.disk (moment i.disk) name c leaves.later l)

  shut_by : (call : Call) (d a : Entries) (i j : Index D) → is_sync call ≡ false → Stands d a i → Shuts opened seen named kept moment since (entry_of call) i j → Goes call d a i j
  shut_by call d a i j isnt s failed =
      let leaves = passing d a (entry_of call) i j s failed.was_open failed.passes in
      record {
        d' = d;
        a' = a ++ entry_of call;
        stands = record {
          same_name = ap (λ (n : String Global). string_bytes n) failed.same_name ∙ s.same_name;
          fronts = behind d (a ++ entry_of call) i j leaves;
          known = λ is. absurd (not_open (sym is ∙ failed.is_shut));
        };
        all = sym (append_assoc d a (entry_of call));
        longer = omega arith;
        synced = λ is. absurd (no_sync call isnt is);
        leaves = leaves;
      }

  step_goes : (call : Call) (d a : Entries) (i j : Index D) → Stands d a i → Step opened seen named kept moment since call i j → Goes call d a i j
  step_goes (appends e done) d a i j s does = record {
    d' = d;
    a' = a ++ e ∷ [];
    stands = of_index d (a ++ e ∷ []) j (ap (λ (n : String Global). string_bytes n) does.same_name ∙ s.same_name) (does.now d a (s.known does.was_open));
    all = sym (append_assoc d a (e ∷ []));
    longer = omega arith;
    synced = λ is. absurd (no_sync (appends e done) refl is);
    leaves = passing d a (e ∷ []) i j s does.was_open does.passes;
  }
  step_goes (syncs done) d a i j s does = record {
    d' = d ++ a;
    a' = [];
    stands = of_index (d ++ a) [] j (ap (λ (n : String Global). string_bytes n) does.same_name ∙ s.same_name) (does.now d a (s.known does.was_open));
    all = refl;
    longer = omega (arith, length-append d a);
    synced = λ is. omega arith;
    leaves = passing d a [] i j s does.was_open does.passes;
  }
  step_goes (appends e nothing) d a i j s same = nothing_done (appends e nothing) d a i j s same refl refl
  step_goes (syncs nothing) d a i j s same = nothing_done (syncs nothing) d a i j s same refl refl
  step_goes (appends e shut) d a i j s failed = shut_by (appends e shut) d a i j refl s failed
  step_goes (syncs shut) d a i j s failed = shut_by (syncs shut) d a i j refl s failed

  -- after any calls
  record GoesOn (calls : List Call) (d a : Entries) (i j : Index D) : Type 0 where
    d' : Entries
    a' : Entries
    stands : Stands d' a' j
    all : d' ++ a' ≡ (d ++ a) ++ entries_of calls
    longer : length d ≤ length d'
    synced : (xs ys : List Call) → calls ≡ xs ++ syncs done ∷ ys → length ((d ++ a) ++ entries_of xs) ≤ length d'
    leaves : Leaves i j d (a ++ entries_of calls)

  ran_goes : (calls : List Call) (d a : Entries) (i j : Index D) → Stands d a i → Ran opened seen named kept moment since i calls j → GoesOn calls d a i j
  ran_goes [] d a i j s same = subst (λ (k : Index D). GoesOn [] d a i k) (sym same) (record {
    d' = d;
    a' = a;
    stands = s;
    all = sym (append-nil (d ++ a));
    longer = omega arith;
    synced = λ xs ys is. absurd (none_left xs ys is);
    leaves = at_rest moment since left only_now name i.disk (LeavesFront d (a ++ [])) (λ c l. leaves_more d a [] c (s.fronts c l));
  })
  ran_goes (call ∷ calls) d a i j s ran =
      let m = ran.0 in
      let one = step_goes call d a i m s ran.1 in
      let rest = ran_goes calls one.d' one.a' m j one.stands ran.2 in
      let joined : one.d' ++ (one.a' ++ entries_of calls) ≡ d ++ (a ++ (entry_of call ++ entries_of calls)) =
      sym (append_assoc one.d' one.a' (entries_of calls)) ∙ ap (λ (l : Entries). l ++ entries_of calls) one.all
      ∙ append_assoc (d ++ a) (entry_of call) (entries_of calls) ∙ append_assoc d a (entry_of call ++ entries_of calls) in
      record {
        d' = rest.d';
        a' = rest.a';
        stands = rest.stands;
        all = rest.all ∙ ap (λ (l : Entries). l ++ entries_of calls) one.all ∙ append_assoc (d ++ a) (entry_of call) (entries_of calls);
        longer = omega (arith, one.longer, rest.longer);
        synced = first_sync call calls d a rest.d' one.d' one.a' one.all one.synced rest.longer rest.synced;
        leaves = and_then moment since name i.disk m.disk j.disk (LeavesFront d (a ++ entry_of call)) (LeavesFront one.d' (one.a' ++ entries_of calls)) (LeavesFront d (a ++ (entry_of call ++ entries_of calls)))
            one.leaves rest.leaves
            (λ c l. subst (λ (x : Entries). LeavesFront d x c) (append_assoc a (entry_of call) (entries_of calls)) (leaves_more d (a ++ entry_of call) (entries_of calls) c l))
            (λ c l. leaves_back d (a ++ (entry_of call ++ entries_of calls)) one.d' (one.a' ++ entries_of calls) c joined one.longer l);
      }
    where
      first_sync : (call : Call) (calls : List Call) (d a e d1 a1 : Entries) → d1 ++ a1 ≡ (d ++ a) ++ entry_of call → (call ≡ syncs done → length (d ++ a) ≤ length d1) → length d1 ≤ length e
          → ((xs ys : List Call) → calls ≡ xs ++ syncs done ∷ ys → length ((d1 ++ a1) ++ entries_of xs) ≤ length e)
          → (xs ys : List Call) → call ∷ calls ≡ xs ++ syncs done ∷ ys → length ((d ++ a) ++ entries_of xs) ≤ length e
      first_sync call calls d a e d1 a1 all now longer later [] ys is =
          let here : length (d ++ a) ≤ length d1 = now (ap (λ (l : List Call). first_or call l) is) in
          omega (arith, here, longer, ap (λ (l : Entries). length l) (append-nil (d ++ a)))
      first_sync call calls d a e d1 a1 all now longer later (x ∷ xs) ys is =
          let same : call ≡ x = ap (λ (l : List Call). first_or call l) is in
          let after : length ((d1 ++ a1) ++ entries_of xs) ≤ length e = later xs ys (ap others is) in
          let joined : (d1 ++ a1) ++ entries_of xs ≡ (d ++ a) ++ (entry_of x ++ entries_of xs) =
          ap (λ (l : Entries). l ++ entries_of xs) all ∙ append_assoc (d ++ a) (entry_of call) (entries_of xs) ∙ ap (λ (k : Call). (d ++ a) ++ (entry_of k ++ entries_of xs)) same in
          subst (λ (l : Entries). length l ≤ length e) joined after

  -- A crash at any moment since some of the calls had returned leaves all that was synced by then, and a front of all that was added.
  pub kept_ran : (first : Entries) (before behind_ : List Call) (start mid end : Index D) → string_bytes start.name ≡ name → IsIndex opened seen named kept start first []
      → Ran opened seen named kept moment since start before mid → Ran opened seen named kept moment since mid behind_ end
      → (c : Option (List ℕ)) → since end.disk (moment mid.disk) name c → LeavesKept first before behind_ c
  kept_ran first before behind_ start mid end same is ran more c left_ =
      let one = ran_goes before first [] start mid (of_index first [] start same is) ran in
      let two = ran_goes behind_ one.d' one.a' mid end one.stands more in
      to_kept first before behind_ c one.d' one.a' (two.leaves.each c left_) (one.all ∙ ap (λ (l : Entries). l ++ entries_of before) (append-nil first))
      (λ xs ys i. subst (λ (l : Entries). length (l ++ entries_of xs) ≤ length one.d') (append-nil first) (one.synced xs ys i)) one.longer
