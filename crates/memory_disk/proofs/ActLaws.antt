-- What is there after one more act.
use Rattle.std.proofs.Common.{◌≡◌, ◌≢◌, ◌⊎◌, inl, inr, ◌≤◌, ℕ, zero, suc, Bool, true, false, List, [], ◌∷◌, ◌++◌, Option, Some, None, Vec, length, if◌then◌else◌, refl, sym, ◌∙◌, ap, subst, arith, append_assoc}
use Rattle.std.specs.Prelude.{bytes_eq, string_bytes}
use Rattle.std.proofs.lemmas.Slice.Eq.{bytes_eq-Decides}
use Rattle.std.specs.declared.string.String.{String}
use Rattle.std.specs.declared.alloc.Global.{Global}
use Rattle.disk_folder.specs.Disks.{Elapses, Holed, IsTorn}
use Rattle.memory_disk.specs.declared.memory.Act.{Act}
use Rattle.memory_disk.specs.declared.memory.Act.TheVariants.{Put, Gone, Moved}
use Rattle.memory_disk.specs.Acts.{file_at, Stood}

pub here : (a n : List ℕ) (x y : Option (List ℕ)) → a ≡ n → (if bytes_eq a n then x else y) ≡ x
here a n x y is = ap (λ (b : Bool). if b then x else y) ((bytes_eq-Decides a n).1 is)

pub there : (a n : List ℕ) (x y : Option (List ℕ)) → n ≢ a → (if bytes_eq a n then x else y) ≡ y
there a n x y other = go (bytes_eq a n) (bytes_eq-Decides a n).0
  where
    go : (b : Bool) → (b ≡ true → a ≡ n) → (if b then x else y) ≡ y
    go true f = absurd (other (sym (f refl)))
    go false f = refl

pub put_here : (at_ : String Global) (bytes : Vec ℕ Global) (acts : List Act) (n : List ℕ) → string_bytes at_ ≡ n → file_at (Put at_ bytes ∷ acts) n ≡ Some bytes.items
put_here at_ bytes acts n is = here (string_bytes at_) n (Some bytes.items) (file_at acts n) is

pub put_there : (at_ : String Global) (bytes : Vec ℕ Global) (acts : List Act) (m n : List ℕ) → string_bytes at_ ≡ m → n ≢ m → file_at (Put at_ bytes ∷ acts) n ≡ file_at acts n
put_there at_ bytes acts m n is other = there (string_bytes at_) n (Some bytes.items) (file_at acts n) (λ same. other (same ∙ is))

pub gone_here : (at_ : String Global) (acts : List Act) (n : List ℕ) → string_bytes at_ ≡ n → file_at (Gone at_ ∷ acts) n ≡ None
gone_here at_ acts n is = here (string_bytes at_) n None (file_at acts n) is

pub gone_there : (at_ : String Global) (acts : List Act) (m n : List ℕ) → string_bytes at_ ≡ m → n ≢ m → file_at (Gone at_ ∷ acts) n ≡ file_at acts n
gone_there at_ acts m n is other = there (string_bytes at_) n None (file_at acts n) (λ same. other (same ∙ is))

pub moved_to : (from to : String Global) (bytes : Vec ℕ Global) (acts : List Act) (n : List ℕ) → string_bytes to ≡ n → file_at (Moved from to bytes ∷ acts) n ≡ Some bytes.items
moved_to from to bytes acts n is = here (string_bytes to) n (Some bytes.items) (if bytes_eq (string_bytes from) n then None else file_at acts n) is

pub moved_from : (from to : String Global) (bytes : Vec ℕ Global) (acts : List Act) (m n : List ℕ) → string_bytes to ≡ m → string_bytes from ≡ n → n ≢ m → file_at (Moved from to bytes ∷ acts) n ≡ None
moved_from from to bytes acts m n is was other =
    there (string_bytes to) n (Some bytes.items) (if bytes_eq (string_bytes from) n then None else file_at acts n) (λ same. other (same ∙ is)) ∙ here (string_bytes from) n None (file_at acts n) was

pub moved_there : (from to : String Global) (bytes : Vec ℕ Global) (acts : List Act) (m l n : List ℕ) → string_bytes to ≡ m → string_bytes from ≡ l → n ≢ l → n ≢ m → file_at (Moved from to bytes ∷ acts) n ≡ file_at acts n
moved_there from to bytes acts m l n is was no_l no_m =
    there (string_bytes to) n (Some bytes.items) (if bytes_eq (string_bytes from) n then None else file_at acts n) (λ same. no_m (same ∙ is))
    ∙ there (string_bytes from) n None (file_at acts n) (λ same. no_l (same ∙ was))

-- ---- time

pub elapses_same : (acts : List Act) → Elapses (length acts) (length acts) (λ t n c. Stood acts t n c) (λ t n c. Stood acts t n c) (λ n c. c ≡ file_at acts n)
elapses_same acts = record { later = omega arith; nothing_else = λ t n c le s. inl s; keeps = λ t n c le s. s }

pub elapses_push : (act : Act) (acts new : List Act) → new ≡ act ∷ acts → Elapses (length acts) (length new) (λ t n c. Stood acts t n c) (λ t n c. Stood new t n c) (λ n c. c ≡ file_at new n)
elapses_push act acts new is =
    subst (λ (l : List Act). Elapses (length acts) (length l) (λ t n c. Stood acts t n c) (λ t n c. Stood l t n c) (λ n c. c ≡ file_at l n)) (sym is)
    (record { later = omega arith; nothing_else = split; keeps = λ t n c le s. (suc s.0, omega (arith, s.1), s.2) })
  where
    split : (t : ℕ) (n : List ℕ) (c : Option (List ℕ)) → t ≤ length acts → Stood (act ∷ acts) t n c → Stood acts t n c ⊎ (c ≡ file_at (act ∷ acts) n)
    split t n c le (zero, fits, is_) = inr is_
    split t n c le (suc ago, fits, is_) = inl (ago, omega (arith, fits), is_)

-- ---- bytes that are added

holed_all : (bytes : List ℕ) → Holed bytes bytes
holed_all [] = tt
holed_all (x ∷ bytes) = (inl refl, holed_all bytes)

holed_front : (bytes more : List ℕ) → Holed (bytes ++ more) bytes
holed_front [] more = tt
holed_front (x ∷ bytes) more = (inl refl, holed_front bytes more)

pub torn_all : (base tail more x : List ℕ) → x ≡ (base ++ tail) ++ more → IsTorn base (tail ++ more) x
torn_all base tail more x is = record { rest = tail ++ more; split = is ∙ append_assoc base tail more; holed = holed_all (tail ++ more) }

pub torn_none : (base tail more x : List ℕ) → x ≡ base ++ tail → IsTorn base (tail ++ more) x
torn_none base tail more x is = record { rest = tail; split = is; holed = holed_front tail more }

abbrev unsome : Option (List ℕ) → List ℕ
unsome None = []
unsome (Some x) = x

pub torn_still : (base tail more x : List ℕ) (f : Option (List ℕ)) → Some (base ++ tail) ≡ f → f ≡ Some x → IsTorn base (tail ++ more) x
torn_still base tail more x f seen is = torn_none base tail more x (ap unsome (sym is ∙ sym seen))

pub torn_added : (base tail more x : List ℕ) (f : Option (List ℕ)) → Some ((base ++ tail) ++ more) ≡ f → f ≡ Some x → IsTorn base (tail ++ more) x
torn_added base tail more x f seen is = torn_all base tail more x (ap unsome (sym is ∙ sym seen))

pub named_put : (at_ : String Global) (bytes : Vec ℕ Global) (acts new : List Act) (n x : List ℕ) → new ≡ Put at_ bytes ∷ acts → file_at acts n ≡ Some x → (y : List ℕ) × (file_at new n ≡ Some y)
named_put at_ bytes acts new n x is h = subst (λ (l : List Act). (y : List ℕ) × (file_at l n ≡ Some y)) (sym is) (go (bytes_eq (string_bytes at_) n))
  where
    go : (b : Bool) → (y : List ℕ) × ((if b then Some bytes.items else file_at acts n) ≡ Some y)
    go true = (bytes.items, refl)
    go false = (x, h)

pub torn_put : (at_ : String Global) (bytes : Vec ℕ Global) (acts new : List Act) (n base tail more was x : List ℕ) → new ≡ Put at_ bytes ∷ acts → string_bytes at_ ≡ n → bytes.items ≡ was ++ more
    → Some was ≡ file_at acts n → Some (base ++ tail) ≡ file_at acts n → file_at new n ≡ Some x → IsTorn base (tail ++ more) x
torn_put at_ bytes acts new n base tail more was x is named all stood seen stands =
    let same : was ≡ base ++ tail = ap unsome (stood ∙ sym seen) in
    let now : file_at new n ≡ Some bytes.items = ap (λ (l : List Act). file_at l n) is ∙ put_here at_ bytes acts n named in
    torn_all base tail more x (ap unsome (sym stands ∙ now) ∙ all ∙ ap (λ (l : List ℕ). l ++ more) same)
