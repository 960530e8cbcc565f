-- The order of lines is that of their links: by the reason's word, by where they lead, and by their pages.
use Rattle.std.proofs.Common.{rules, ◌≡◌, ℕ, ◌<◌, ◌==◌, true, cond, get_or, List, [], ◌∷◌, ◌++◌, zero, refl, sym, ap, ◌∙◌, subst, arith, append_assoc}
use Rattle.std.specs.Prelude.{All, ◌&&◌, bytes_eq, map, nat_lt}
use Rattle.std.specs.List.{AllByRecursion, list_all}
use Rattle.std.proofs.lemmas.Bool.{and_parts, lt-ltb, ltb-true}
use Rattle.std.proofs.lemmas.Cmp.{tied_itself, nat_cmp_total}
use Rattle.std.proofs.lemmas.List.Elements.{All-nil, All-cons, All-tail}
use Rattle.std.proofs.lemmas.List.Kept.{AllPairs-cons}
use Rattle.std.proofs.lemmas.List.Sums.{AllPass-from_list_all}
use Rattle.std.proofs.lemmas.Map.Lookups.{exact_bytes}
use Rattle.std.proofs.lemmas.Slice.Eq.{bytes_eq-Decides}
use Rattle.std.specs.Cmp.Lexicographic.{slice_cmp}
use Rattle.std.specs.List.Sorted.{IsStrictlySortedBy}
use Rattle.std.specs.Ordering.{nat_cmp, is_lt, ordering_then, ordering_reverse}
use Rattle.std.specs.declared.cmp.Ordering.{Ordering}
use Rattle.std.specs.declared.cmp.Ordering.TheVariants.{Less, Equal, Greater}
use Rattle.address.specs.Address.{AddressText, IsAddress}
use Rattle.address.specs.AddressOrder.{IsBefore, IsAscending}
use denote.Enum.Bare.{same_true}
use Rattle.rejected_links.specs.contracts.reason.Reason.{the_type}
use Rattle.rejected_links.specs.contracts.reason.ReasonOrd.TheImpl.{cmp-value as reason-cmp}
use Rattle.rejected_links.specs.contracts.reason.ReasonPartialEq.TheImpl.{eq-value as reason-eq}
use Rattle.rejected_links.specs.contracts.rejected_link.RejectedLinkOrd.TheImpl.{cmp-value as link-cmp}
use Rattle.rejected_links.specs.contracts.rejected_link.RejectedLinkPartialEq.TheImpl.{eq-value as link-eq}
use Rattle.rejected_links.specs.declared.reason.Reason.{Reason}
use Rattle.rejected_links.specs.declared.reason.Reason.TheVariants.{Blacklist, Domain, List as Directories, Parent, Regex, Rules, SpannedHost}
use Rattle.rejected_links.specs.declared.rejected_link.RejectedLink.{RejectedLink}
use Rattle.rejected_links.specs.Reasons.{word_of}
use Rattle.rejected_links.specs.Lines.{Rejected, parts_text, line_text}
use Rattle.rejected_links.specs.inner.Links.{seen, IsOfAddresses}

-- ---- texts before a tab

then_assoc : (o p q : Ordering) → ordering_then (ordering_then o p) q ≡ ordering_then o (ordering_then p q)
then_assoc Less p q = refl
then_assoc Equal p q = refl
then_assoc Greater p q = refl

lower : (m n : ℕ) → m < n → nat_cmp m n ≡ Less
lower m n lt = ap (λ b. cond b Less (cond (m == n) Equal Greater)) (lt-ltb m n lt)

higher : (m n : ℕ) → n < m → nat_cmp m n ≡ Greater
higher m n lt = nat_cmp_total.antisymm m n ∙ ap ordering_reverse (lower n m lt)

-- each byte is greater than a tab
abbrev IsAbove : List ℕ → Type 0
IsAbove text = All (λ b. 9 < b) text

-- of such texts, each before a tab, the first byte that differs decides, and else what is after the tabs
before_tab : (a b x y : List ℕ) → IsAbove a → IsAbove b → slice_cmp nat_cmp (a ++ 9 ∷ x) (b ++ 9 ∷ y) ≡ ordering_then (slice_cmp nat_cmp a b) (slice_cmp nat_cmp x y)
before_tab [] [] x y up above = refl
before_tab [] (d ∷ b) x y up above = ap (λ o. ordering_then o (slice_cmp nat_cmp x (b ++ 9 ∷ y))) (lower 9 d (above zero d (omega arith)))
before_tab (c ∷ a) [] x y up above = ap (λ o. ordering_then o (slice_cmp nat_cmp (a ++ 9 ∷ x) y)) (higher c 9 (up zero c (omega arith)))
before_tab (c ∷ a) (d ∷ b) x y up above =
    ap (ordering_then (nat_cmp c d)) (before_tab a b x y (All-tail (λ n. 9 < n) c a up) (All-tail (λ n. 9 < n) d b above))
    ∙ sym (then_assoc (nat_cmp c d) (slice_cmp nat_cmp a b) (slice_cmp nat_cmp x y))

-- what is alike in front doesn't decide
after_same : (a x y : List ℕ) → slice_cmp nat_cmp (a ++ x) (a ++ y) ≡ slice_cmp nat_cmp x y
after_same [] x y = refl
after_same (c ∷ a) x y = ap (λ o. ordering_then o (slice_cmp nat_cmp (a ++ x) (a ++ y))) (tied_itself nat_cmp_total c) ∙ after_same a x y

-- ---- a line

-- a line's end: the columns of its page
abbrev line_end : AddressText → List ℕ
line_end page = page ++ 9 ∷ (parts_text page ++ 10 ∷ [])

split_texts : (w t ot p op : List ℕ) → w ++ ((9 ∷ (t ++ 9 ∷ ot)) ++ ((9 ∷ (p ++ 9 ∷ op)) ++ 10 ∷ [])) ≡ w ++ 9 ∷ (t ++ 9 ∷ (ot ++ 9 ∷ (p ++ 9 ∷ (op ++ 10 ∷ []))))
split_texts w t ot p op =
    ap (λ x. w ++ 9 ∷ x)
    (append_assoc t (9 ∷ ot) (9 ∷ ((p ++ 9 ∷ op) ++ 10 ∷ [])) ∙ ap (λ x. t ++ 9 ∷ (ot ++ 9 ∷ x)) (append_assoc p (9 ∷ op) (10 ∷ [])))

split_line : (l : Rejected) → line_text l ≡ word_of l.reason ++ 9 ∷ (l.target ++ 9 ∷ (parts_text l.target ++ 9 ∷ line_end l.page))
split_line l = split_texts (word_of l.reason) l.target (parts_text l.target) l.page (parts_text l.page)

pass_word : (r : Reason) → list_all (nat_lt 9) (word_of r) ≡ true
pass_word Blacklist = refl
pass_word Domain = refl
pass_word Directories = refl
pass_word Parent = refl
pass_word Regex = refl
pass_word Rules = refl
pass_word SpannedHost = refl

above_word : (r : Reason) → IsAbove (word_of r)
above_word r = λ k d below. ltb-true 9 (get_or (word_of r) k d) (AllPass-from_list_all (nat_lt 9) (word_of r) (pass_word r) k d below)

above_address : (u : AddressText) → IsAddress u → IsAbove u
above_address u is = λ k d below. omega (arith, (is.plain k d below).0)

-- the order of links
abbrev pub link_cmp : Rejected → Rejected → Ordering
link_cmp l m =
    ordering_then (slice_cmp nat_cmp (word_of l.reason) (word_of m.reason)) (ordering_then (slice_cmp nat_cmp l.target m.target) (slice_cmp nat_cmp l.page m.page))

-- if two texts are the same, their columns don't decide
same_columns : (t u : AddressText) (x y : List ℕ) → t ≡ u → slice_cmp nat_cmp (parts_text t ++ 9 ∷ x) (parts_text u ++ 9 ∷ y) ≡ slice_cmp nat_cmp x y
same_columns t u x y same = subst (λ (v : AddressText). slice_cmp nat_cmp (parts_text t ++ 9 ∷ x) (parts_text v ++ 9 ∷ y) ≡ slice_cmp nat_cmp x y) same (after_same (parts_text t) (9 ∷ x) (9 ∷ y))

-- what decides of two links decides of their lines
decided : (o p q r s : Ordering) → ordering_then o (ordering_then p q) ≡ Less → (p ≡ Equal → r ≡ ordering_then q s) → ordering_then o (ordering_then p r) ≡ Less
decided Less p q r s less same = refl
decided Equal Less q r s less same = refl
decided Equal Equal q r s less same = same refl ∙ ap (λ (o : Ordering). ordering_then o s) less
decided Equal Greater q r s less same = less
decided Greater p q r s less same = less

pub line_before : (l m : Rejected) → IsAddress l.target → IsAddress m.target → IsAddress l.page → IsAddress m.page → link_cmp l m ≡ Less → IsBefore (line_text l) (line_text m)
line_before l m lt mt lp mp less =
    let targets = slice_cmp nat_cmp l.target m.target in
    let ends : Ordering = slice_cmp nat_cmp (parts_text l.target ++ 9 ∷ line_end l.page) (parts_text m.target ++ 9 ∷ line_end m.page) in
    let after : Ordering = slice_cmp nat_cmp (parts_text l.page ++ 10 ∷ []) (parts_text m.page ++ 10 ∷ []) in
    let pages : targets ≡ Equal → ends ≡ ordering_then (slice_cmp nat_cmp l.page m.page) after = λ e.
    same_columns l.target m.target (line_end l.page) (line_end m.page) (exact_bytes _ _ e)
    ∙ before_tab l.page m.page _ _ (above_address l.page lp) (above_address m.page mp) in
    ap is_lt
    (ap (λ t. slice_cmp nat_cmp t (line_text m)) (split_line l)
    ∙ ap (slice_cmp nat_cmp _) (split_line m)
    ∙ before_tab (word_of l.reason) (word_of m.reason) _ _ (above_word l.reason) (above_word m.reason)
    ∙ ap (ordering_then (slice_cmp nat_cmp (word_of l.reason) (word_of m.reason))) (before_tab l.target m.target _ _ (above_address l.target lt) (above_address m.target mt))
    ∙ decided (slice_cmp nat_cmp (word_of l.reason) (word_of m.reason)) targets (slice_cmp nat_cmp l.page m.page) ends after less pages)

-- ---- lines of links in order

module _ (R : RejectedLink → RejectedLink → Ordering) (by_links : (l m : RejectedLink) → R l m ≡ Less → link_cmp (seen l) (seen m) ≡ Less) where
  before_each : (l : RejectedLink) (links : List RejectedLink) → AllByRecursion (λ m. R l m ≡ Less) links → IsOfAddresses l → All IsOfAddresses links → All (IsBefore (line_text (seen l))) (map line_text (map seen links))
  before_each l [] before of all = All-nil (IsBefore (line_text (seen l)))
  before_each l (m ∷ links) before of all =
      let ofm : IsOfAddresses m = all zero m (omega arith) in
      All-cons (IsBefore (line_text (seen l))) (line_text (seen m)) (map line_text (map seen links))
      (line_before (seen l) (seen m) of.0 ofm.0 of.1 ofm.1 (by_links l m before.0))
      (before_each l links before.1 of (All-tail IsOfAddresses m links all))

  pub ascending_lines : (links : List RejectedLink) → IsStrictlySortedBy R links → All IsOfAddresses links → IsAscending (map line_text (map seen links))
  unfolding IsStrictlySortedBy
  ascending_lines [] sorted all = λ i j d lt lj. absurd (omega arith)
  ascending_lines (l ∷ links) sorted all =
      AllPairs-cons IsBefore (line_text (seen l)) (map line_text (map seen links))
      (before_each l links sorted.0 (all zero l (omega arith)) (All-tail IsOfAddresses l links all))
      (ascending_lines links sorted.1 (All-tail IsOfAddresses l links all))

-- reasons are in the order of their words
words_order : (r s : Reason) → reason-cmp.it r s ≡ slice_cmp nat_cmp (word_of r) (word_of s)
words_order Blacklist = elim [ Blacklist ↦ refl | Domain ↦ refl | Directories ↦ refl | Parent ↦ refl | Regex ↦ refl | Rules ↦ refl | SpannedHost ↦ refl ]
words_order Domain = elim [ Blacklist ↦ refl | Domain ↦ refl | Directories ↦ refl | Parent ↦ refl | Regex ↦ refl | Rules ↦ refl | SpannedHost ↦ refl ]
words_order Directories = elim [ Blacklist ↦ refl | Domain ↦ refl | Directories ↦ refl | Parent ↦ refl | Regex ↦ refl | Rules ↦ refl | SpannedHost ↦ refl ]
words_order Parent = elim [ Blacklist ↦ refl | Domain ↦ refl | Directories ↦ refl | Parent ↦ refl | Regex ↦ refl | Rules ↦ refl | SpannedHost ↦ refl ]
words_order Regex = elim [ Blacklist ↦ refl | Domain ↦ refl | Directories ↦ refl | Parent ↦ refl | Regex ↦ refl | Rules ↦ refl | SpannedHost ↦ refl ]
words_order Rules = elim [ Blacklist ↦ refl | Domain ↦ refl | Directories ↦ refl | Parent ↦ refl | Regex ↦ refl | Rules ↦ refl | SpannedHost ↦ refl ]
words_order SpannedHost = elim [ Blacklist ↦ refl | Domain ↦ refl | Directories ↦ refl | Parent ↦ refl | Regex ↦ refl | Rules ↦ refl | SpannedHost ↦ refl ]

-- and so are links
pub links_order : (l m : RejectedLink) → link-cmp.it l m ≡ Less → link_cmp (seen l) (seen m) ≡ Less
links_order l m less =
    ap (λ (o : Ordering). ordering_then o (ordering_then (slice_cmp nat_cmp l.target.now m.target.now) (slice_cmp nat_cmp l.page.now m.page.now))) (sym (words_order l.reason m.reason)) ∙ less

-- links that compare as equal say the same
pub links_same : (l m : RejectedLink) → link-eq.it l m ≡ true → seen l ≡ seen m
links_same l m same =
    let parts = and_parts (reason-eq.it l.reason m.reason) (bytes_eq l.target.now m.target.now && bytes_eq l.page.now m.page.now) same in
    let addresses = and_parts (bytes_eq l.target.now m.target.now) (bytes_eq l.page.now m.page.now) parts.1 in
    let reason : l.reason ≡ m.reason = same_true the_type (search rules) _ _ parts.0 in
    let target = (bytes_eq-Decides l.target.now m.target.now).0 addresses.0 in
    let page = (bytes_eq-Decides l.page.now m.page.now).0 addresses.1 in
    ap (λ (r : Reason). record { reason = r; target = l.target.now; page = l.page.now }) reason
    ∙ ap (λ (u : AddressText). record { reason = m.reason; target = u; page = l.page.now }) target
    ∙ ap (λ (u : AddressText). record { reason = m.reason; target = m.target.now; page = u }) page
