-- Fronts and backs of texts.
use Rattle.std.proofs.Common.{suc, ◌≡◌, ◌∙◌, ℕ, ◌+◌, ◌-◌, ◌<◌, true, false, ◌&&◌, List, [], ◌∷◌, ◌++◌, take, drop, length, get_or, refl, sym, ap, arith, length-drop, ⊎_elim, ◌≤◌, codes, nat_eq, bytes_eq}
use Rattle.std.proofs.Math.Bool.{and_assoc}
use Rattle.std.proofs.lemmas.Bool.Decides.{nat_tests}
use Rattle.std.proofs.lemmas.Bool.{cases_Bool, or_left}
use Rattle.std.proofs.lemmas.List.{length-map, drop_more, drop-map}
use Rattle.std.proofs.Math.Seq.{take-length}
use Rattle.std.proofs.lemmas.Slice.Eq.{bytes_eq-Decides}
use Rattle.std.specs.List.{starts_with, ends_with}
use Rattle.std.specs.Char.{to_ascii_lowercase}
use Rattle.follow_filters.specs.Domains.{is_in_domain}
use Rattle.std.specs.Str.{str_to_ascii_lowercase}

-- the rest of a slice
pub drop_slice : {X : Type 0} (xs : List X) (n : ℕ) → take (length xs - n) (drop n xs) ≡ drop n xs
drop_slice xs n = ap (λ k. take k (drop n xs)) (sym (length-drop n xs)) ∙ take-length (drop n xs)

-- a text begins with two texts if it begins with the first, and what follows with the second
pub starts_with-append : (xs p q : List ℕ) → starts_with nat_eq xs (p ++ q) ≡ (starts_with nat_eq xs p && starts_with nat_eq (drop (length p) xs) q)
starts_with-append xs [] q = refl
starts_with-append [] (x ∷ p) q = refl
starts_with-append (y ∷ xs) (x ∷ p) q = ap (λ t. nat_eq x y && t) (starts_with-append xs p q) ∙ sym (and_assoc (nat_eq x y) (starts_with nat_eq xs p) (starts_with nat_eq (drop (length p) xs) q))

-- a dot is the lower case of a dot alone
lower_dot : (b : ℕ) → nat_eq 46 (to_ascii_lowercase b) ≡ nat_eq b 46
lower_dot b = grind (arith, nat_tests)

-- a text ends in a dot and another text, in any case, if a dot and that text are at its end
pub ends_with-dot : (host domain : List ℕ) (dot : ℕ) → dot + 1 + length domain ≡ length host → ends_with nat_eq (str_to_ascii_lowercase host) (codes "." ++ str_to_ascii_lowercase domain) ≡ (nat_eq (get_or host dot 0) 46 && bytes_eq (str_to_ascii_lowercase domain) (str_to_ascii_lowercase (drop (dot + 1) host)))
ends_with-dot host domain dot size =
    let at : length (str_to_ascii_lowercase host) - length (codes "." ++ str_to_ascii_lowercase domain) ≡ dot = simp length-map (omega arith) in
    let below : dot < length host = omega arith in
    let back : drop dot (str_to_ascii_lowercase host) ≡ to_ascii_lowercase (get_or host dot 0) ∷ str_to_ascii_lowercase (drop (dot + 1) host) =
    drop-map to_ascii_lowercase dot host ∙ ap str_to_ascii_lowercase (drop_more host dot 0 below) in
    ap (λ k. bytes_eq (codes "." ++ str_to_ascii_lowercase domain) (drop k (str_to_ascii_lowercase host))) at
    ∙ ap (bytes_eq (codes "." ++ str_to_ascii_lowercase domain)) back
    ∙ ap (λ t. t && bytes_eq (str_to_ascii_lowercase domain) (str_to_ascii_lowercase (drop (dot + 1) host))) (lower_dot (get_or host dot 0))

-- a text doesn't end in a dot and a text that is as long as it
pub ends_with-long : (host domain : List ℕ) → length host ≤ length domain → ends_with nat_eq (str_to_ascii_lowercase host) (codes "." ++ str_to_ascii_lowercase domain) ≡ false
ends_with-long host domain long =
    let back = drop (length (str_to_ascii_lowercase host) - length (codes "." ++ str_to_ascii_lowercase domain)) (str_to_ascii_lowercase host) in
    ⊎_elim (λ yes.
    let sizes : length (codes "." ++ str_to_ascii_lowercase domain) ≡ length back = ap length ((bytes_eq-Decides (codes "." ++ str_to_ascii_lowercase domain) back).0 yes) in
    let size : suc (length domain) ≤ length host = omega (arith, simp (length-map, length-drop) at sizes) in
    absurd (omega arith)) (λ no. no) (cases_Bool (ends_with nat_eq (str_to_ascii_lowercase host) (codes "." ++ str_to_ascii_lowercase domain)))

-- the host is the domain
pub is_in_domain-same : (domain host : List ℕ) → str_to_ascii_lowercase host ≡ str_to_ascii_lowercase domain → is_in_domain domain host ≡ true
unfolding is_in_domain
is_in_domain-same domain host same = or_left _ _ ((bytes_eq-Decides (str_to_ascii_lowercase host) (str_to_ascii_lowercase domain)).1 same)

-- the host isn't the domain
pub is_in_domain-below : (domain host : List ℕ) → (str_to_ascii_lowercase host ≡ str_to_ascii_lowercase domain → ⊥) → is_in_domain domain host ≡ ends_with nat_eq (str_to_ascii_lowercase host) (codes "." ++ str_to_ascii_lowercase domain)
unfolding is_in_domain
is_in_domain-below domain host differ =
    ⊎_elim (λ yes. absurd (differ ((bytes_eq-Decides (str_to_ascii_lowercase host) (str_to_ascii_lowercase domain)).0 yes))) (λ no. rw no refl) (cases_Bool (bytes_eq (str_to_ascii_lowercase host) (str_to_ascii_lowercase domain)))
