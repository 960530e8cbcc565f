-- The tests say what is meant.
use Rattle.std.proofs.Common.{IsTrue, ◌≡◌, ◌∙◌, ◌⊎◌, ◌≤◌, ◌+◌, ◌-◌, ℕ, Bool, true, false, not, ◌&&◌, ◌||◌, [], ◌∷◌, ◌++◌, take, drop, length, codes, nat_eq, Option, Some, None, inl, inr, refl, sym, ap, arith, append_assoc, length-append}
use Rattle.std.proofs.lemmas.Bool.{and_parts, and_from}
use Rattle.std.proofs.lemmas.Bool.Decides.{Decides-not, Decides-and, Decides-or, Decides-eqb, leb_tells}
use Rattle.std.proofs.lemmas.Slice.Eq.{bytes_eq-Decides, starts_is, ends_is}
use Rattle.std.specs.Bool.{Decides}
use Rattle.std.specs.Prelude.{nat_le}
use Rattle.std.specs.List.{starts_with, ends_with}
use Rattle.address.specs.declared.scheme.Scheme.{Scheme}
use Rattle.address.specs.declared.scheme.Scheme.TheVariants as scheme
use Rattle.cookie_files.specs.Lines.{Cookie, Text}
use Rattle.cookie_files.specs.Matches.{Asked, DomainMatches, Goes, IsBelow, PathMatches, domain_matches, goes, is_alive, is_below, is_ip_address, is_safe, path_matches, port_matches}

-- ---- fronts and backs of texts

ends_with-Decides : (text back : Text) → Decides (ends_with nat_eq text back) ((front : Text) × (text ≡ front ++ back))
ends_with-Decides text back =
    let is = ends_is Decides-eqb text back (ends_with nat_eq text back) refl in
    (λ yes. (take (length text - length back) text, is.0 yes), λ ends. is.1 ends.0 ends.1)

starts_with-Decides : (text front : Text) → Decides (starts_with nat_eq text front) ((rest : Text) × (text ≡ front ++ rest))
starts_with-Decides text front =
    let is = starts_is Decides-eqb text front (starts_with nat_eq text front) refl in
    (λ yes. (drop (length front) text, is.0 yes), λ begins. is.1 begins.0 begins.1)

front_of : (front back : Text) → take (length front) (front ++ back) ≡ front
front_of [] back = refl
front_of (x ∷ front) back = ap (λ xs. x ∷ xs) (front_of front back)

rest_of : (front back : Text) → drop (length front) (front ++ back) ≡ back
rest_of [] back = refl
rest_of (x ∷ front) back = rest_of front back

-- ---- domains

is_below-Decides : (domain host : Text) → Decides (is_below domain host) (IsBelow domain host)
unfolding is_below
is_below-Decides domain host =
    let whole = ends_is Decides-eqb host domain (ends_with nat_eq host domain) refl in
    let front = take (length host - length domain) host in (
      λ yes.
          let both = and_parts (ends_with nat_eq host domain) (ends_with nat_eq front (codes ".")) yes in
          let before = (ends_with-Decides front (codes ".")).0 both.1 in
          (before.0, whole.0 both.0 ∙ ap (λ f. f ++ domain) before.1 ∙ append_assoc before.0 (codes ".") domain),
      λ below.
          let is : host ≡ (below.0 ++ codes ".") ++ domain = below.1 ∙ sym (append_assoc below.0 (codes ".") domain) in
          let size : length host - length domain ≡ length (below.0 ++ codes ".") =
          (let sum : length host ≡ length (below.0 ++ codes ".") + length domain = ap length is ∙ length-append (below.0 ++ codes ".") domain in omega (arith, sum)) in
          let cut : front ≡ below.0 ++ codes "." = ap (λ n. take n host) size ∙ ap (λ h. take (length (below.0 ++ codes ".")) h) is ∙ front_of (below.0 ++ codes ".") domain in
          and_from _ _ (whole.1 (below.0 ++ codes ".") is) ((ends_with-Decides front (codes ".")).1 (below.0, cut)),
    )

same-Decides : (b : Bool) → Decides b (IsTrue b)
same-Decides b = (λ yes. yes, λ yes. yes)

flat : {A B C : Type 0} (b : Bool) → Decides b (A × (B × C)) → Decides b (A × B × C)
flat b is = (λ yes. let all = is.0 yes in (all.0, all.1.0, all.1.1), λ all. is.1 (all.0, (all.1, all.2)))

pub domain_matches-Decides : (subdomains : Bool) (domain host : Text) → Decides (domain_matches subdomains domain host) (DomainMatches subdomains domain host)
unfolding domain_matches
domain_matches-Decides subdomains domain host =
    Decides-or _ _ (bytes_eq-Decides host domain)
    (flat (subdomains && (is_below domain host && not (is_ip_address host)))
    (Decides-and subdomains (is_below domain host && not (is_ip_address host)) (same-Decides subdomains)
    (Decides-and (is_below domain host) (not (is_ip_address host)) (is_below-Decides domain host) (Decides-not (is_ip_address host) (same-Decides (is_ip_address host))))))

-- ---- paths

pub path_matches-Decides : (path asked : Text) → Decides (path_matches path asked) (PathMatches path asked)
unfolding path_matches
path_matches-Decides path asked =
    let begins = starts_with nat_eq asked path in
    let rest = drop (length path) asked in
    let slash = ends_with nat_eq path (codes "/") || starts_with nat_eq rest (codes "/") in
    let whole = starts_is Decides-eqb asked path begins refl in
    let ends = Decides-or _ _ (ends_with-Decides path (codes "/")) (starts_with-Decides rest (codes "/")) in
    Decides-or _ _ (bytes_eq-Decides asked path) (
      λ yes. let both = and_parts begins slash yes in (rest, whole.0 both.0, ends.0 both.1),
      λ is.
          let behind : rest ≡ is.0 = ap (λ a. drop (length path) a) is.1 ∙ rest_of path is.0 in
          and_from begins slash (whole.1 is.0 is.1)
          (ends.1 (elim is.2 [ inl front ↦ inl front | inr more ↦ inr (more.0, behind ∙ more.1) ])),
    )

-- ---- ports, schemes and times

port_matches-Decides : (port : Option ℕ) (asked : ℕ) → Decides (port_matches port asked) ((port ≡ None) ⊎ (port ≡ Some asked))
unfolding port_matches
port_matches-Decides None asked = (λ yes. inl refl, λ is. refl)
port_matches-Decides (Some port) asked =
    let same = Decides-eqb port asked in
    (λ yes. inr (ap Some (same.0 yes)), λ is. elim is [ inl none ↦ cc | inr some ↦ same.1 (let e : port ≡ asked = cc in e) ])

is_safe-Decides : (secure : Bool) (by : Scheme) → Decides (is_safe secure by) ((secure ≡ false) ⊎ (by ≡ scheme.Https))
unfolding is_safe
is_safe-Decides secure scheme.Https = (λ yes. inr refl, λ is. refl)
is_safe-Decides true scheme.Http = (λ yes. cc, λ is. elim is [ inl plain ↦ cc | inr https ↦ cc ])
is_safe-Decides false scheme.Http = (λ yes. inl refl, λ is. refl)

nat_le-Decides : (a b : ℕ) → Decides (nat_le a b) (a ≤ b)
nat_le-Decides a b =
    elim (leb_tells a b) [
      | inl within ↦ (λ is. within.1, λ is. within.0)
      | inr over ↦ (λ is. absurd (let never = over.0 in cc), λ is. absurd (let less = over.1 in omega (arith, less, is)))
    ]

is_alive-Decides : (expiry now : ℕ) → Decides (is_alive expiry now) ((expiry ≡ 0) ⊎ (now ≤ expiry))
unfolding is_alive
is_alive-Decides expiry now = Decides-or _ _ (Decides-eqb expiry 0) (nat_le-Decides now expiry)

-- ---- cookies

pub goes-Decides : (asked : Asked) (now : ℕ) (cookie : Cookie) → Decides (goes asked now cookie) (Goes asked now cookie)
unfolding goes
goes-Decides asked now cookie =
    let all =
    Decides-and (domain_matches cookie.subdomains cookie.host asked.host) _ (domain_matches-Decides cookie.subdomains cookie.host asked.host)
    (Decides-and (path_matches cookie.path asked.path) _ (path_matches-Decides cookie.path asked.path)
    (Decides-and (port_matches cookie.port asked.port) _ (port_matches-Decides cookie.port asked.port)
    (Decides-and (is_safe cookie.secure asked.by) (is_alive cookie.expiry now) (is_safe-Decides cookie.secure asked.by) (is_alive-Decides cookie.expiry now)))) in (
      λ yes. let is = all.0 yes in record { domain = is.0; path = is.1.0; port = is.1.1.0; safe = is.1.1.1.0; alive = is.1.1.1.1 },
      λ is. all.1 (is.domain, (is.path, (is.port, (is.safe, is.alive)))),
    )
