-- What a text is read as is kept for it, and for no other text.
use Rattle.std.proofs.Common.{◌≡◌, ℕ, Bool, true, false, List, Ok, Some, cond, refl, sym, ap, ◌∙◌, subst}
use Rattle.std.specs.Option.{IfSome}
use Rattle.std.specs.declared.option.Option.{Option}
use Rattle.std.specs.Cmp.Lexicographic.{bytes_decides}
use Rattle.std.specs.Str.{bytes_eq}
use Rattle.address.specs.Address.{read_address}
use Rattle.site_maps.proofs.known.KnownAddresses.read.Goals as goal

kept_or_new : (is_new : Bool) (address : List ℕ) (kept : Option (List ℕ)) (P : List ℕ → Type 0) → (is_new ≡ true → P address) → IfSome kept P → IfSome (cond is_new (Some address) kept) P
kept_or_new true address kept P new old = new refl
kept_or_new false address kept P new old = old

pub invariant_of-self-2 : goal.invariant_of-self-2
invariant_of-self-2 c = λ text.
    let P : List ℕ → Type 0 = λ address. read_address text.now ≡ Ok address in
    let given = c.args.text.now in
    subst (λ kept. IfSome kept P) (sym (c.in_ok-insert.ensures.updates.0 text))
    (kept_or_new (bytes_eq given text.now) _ _ P
    (λ same. subst (λ (t : List ℕ). read_address t ≡ Ok c.in_ok-try_clone-2.field-0) ((bytes_decides given text.now).0 same) (c.in_ok-address.ensures.value ∙ ap (λ a. Ok a) (sym c.in_ok-try_clone-2.ensures)))
    (c.self.invariant text))
