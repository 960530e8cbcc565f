-- What a crash leaves of a text to which bytes are added.
use Rattle.std.proofs.Common.{◌≡◌, ◌⊎◌, inl, inr, ⊎_elim, ℕ, Bool, true, false, List, [], ◌∷◌, ◌++◌, Option, Result, Ok, Err, OnOk, string_bytes, refl, sym, ◌∙◌, subst}
use Rattle.disk_folder.proofs.Moments.{at_rest, goes_on}
use Rattle.disk_folder.specs.Disks.{AreTorn, Elapses, Holed, LeavesOnly}
use Rattle.run_journal.specs.Written.{LeavesText, Writes}
use Rattle.run_journal.specs.declared.journal.Journal.{Journal}

pub on_both : {T E : Type 0} {A B C : Type 0} (r : Result T E) → OnOk r A → OnOk r B → (A → B → C) → OnOk r C
on_both (Ok x) a b f = f a b
on_both (Err e) a b f = a

-- ---- bytes or zeros

holed_more : (bytes more left : List ℕ) → Holed bytes left → Holed (bytes ++ more) left
holed_more bytes more [] holed = tt
holed_more [] more (y ∷ left) holed = absurd holed
holed_more (x ∷ bytes) more (y ∷ left) holed = (holed.0, holed_more bytes more left holed.1)

pub leaves_more : (before : Option (List ℕ) → Type 0) (text more : List ℕ) (c : Option (List ℕ)) → LeavesText before text c → LeavesText before (text ++ more) c
leaves_more before text more c (inl was) = inl was
leaves_more before text more c (inr is) = inr (is.0, is.1, holed_more text more is.0 is.2)

pub torn_of : (text : List ℕ) (kept : List ℕ → Type 0) → ((x : List ℕ) → kept x → Holed text x) → AreTorn [] text kept
torn_of text kept all x k = record { rest = x; split = refl; holed = all x k }

pub holed_of : (text : List ℕ) (kept : List ℕ → Type 0) → AreTorn [] text kept → (x : List ℕ) → kept x → Holed text x
holed_of text kept torn x k = let is = torn x k in subst (Holed text) (sym is.split) is.holed

-- ---- moments

-- what has P at each moment has Q
pub weaker : {D : Type 0} (moment : D → ℕ) (since : D → ℕ → List ℕ → Option (List ℕ) → Type 0) (name : List ℕ) (old new : D) (P Q : Option (List ℕ) → Type 0)
    → LeavesOnly moment since name old new P → ((c : Option (List ℕ)) → P c → Q c) → LeavesOnly moment since name old new Q
weaker moment since name old new P Q run so = record {
  later = run.later;
  each = λ c s. so c (run.each c s);
  before = λ t c le s. ⊎_elim (λ was. inl was) (λ is. inr (so c is)) (run.before t c le s);
}

-- one more call
pub passes_more : {D : Type 0} (moment : D → ℕ) (since : D → ℕ → List ℕ → Option (List ℕ) → Type 0) (left : D → List ℕ → Option (List ℕ) → Type 0)
    → ((disk : D) (n : List ℕ) (c : Option (List ℕ)) → since disk (moment disk) n c → left disk n c)
    → (name : List ℕ) (start old new : D) (text line : List ℕ) → LeavesOnly moment since name start old (LeavesText (left start name) text)
    → Elapses (moment old) (moment new) (since old) (since new) (left new) → ((o : Option (List ℕ)) → left new name o → LeavesText (left start name) (text ++ line) o)
    → LeavesOnly moment since name start new (LeavesText (left start name) (text ++ line))
passes_more moment since left only_now name start old new text line run time here =
    goes_on moment since left only_now name start old new (LeavesText (left start name) (text ++ line))
    (weaker moment since name start old (LeavesText (left start name) text) (LeavesText (left start name) (text ++ line)) run (leaves_more (left start name) text line)) time here

-- ---- states

pub both : {A : Type 0} (b : Bool) → b ≡ true → b ≡ false → A
both b t f = absurd (let never : true ≡ false = sym t ∙ f in cc)

-- of a journal that is closed nothing is said but what a crash leaves
pub closed_more : {D L : Type 0} (opened held : D → List ℕ → Type 0) (seen : D → List ℕ → Option (List ℕ) → Type 0) (kept : D → List ℕ → List ℕ → Type 0) (stale left : D → List ℕ → Option (List ℕ) → Type 0)
    (moment : D → ℕ) (since : D → ℕ → List ℕ → Option (List ℕ) → Type 0) (text line : List ℕ) (start disk : D) (journal : Journal L)
    → journal.is_open ≡ false → Writes opened held seen kept stale left moment since text start disk journal → Writes opened held seen kept stale left moment since (text ++ line) start disk journal
closed_more opened held seen kept stale left moment since text line start disk journal closed is = record {
  passes = let name = string_bytes journal.name in weaker moment since name start disk (LeavesText (left start name) text) (LeavesText (left start name) (text ++ line)) is.passes (leaves_more (left start name) text line);
  waits = λ is_open _. both journal.is_open is_open closed;
  stands = λ is_open _. both journal.is_open is_open closed;
}

-- one that has no line yet
pub new_writes : {D L : Type 0} (opened held : D → List ℕ → Type 0) (seen : D → List ℕ → Option (List ℕ) → Type 0) (kept : D → List ℕ → List ℕ → Type 0) (stale left : D → List ℕ → Option (List ℕ) → Type 0)
    (moment : D → ℕ) (since : D → ℕ → List ℕ → Option (List ℕ) → Type 0) → ((disk : D) (n : List ℕ) (c : Option (List ℕ)) → since disk (moment disk) n c → left disk n c)
    → (disk : D) (journal : Journal L) → journal.is_placed ≡ false → Writes opened held seen kept stale left moment since journal.front.items disk disk journal
new_writes opened held seen kept stale left moment since only_now disk journal waits = record {
  passes = let name = string_bytes journal.name in at_rest moment since left only_now name disk (LeavesText (left disk name) journal.front.items) (λ o was. inl was);
  waits = λ _ _. (refl, λ o was. was);
  stands = λ _ placed. both journal.is_placed placed waits;
}
