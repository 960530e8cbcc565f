-- What a pool does for an origin whose server isn't noted for bytes that nobody had requested.
use Rattle.std.proofs.Common.{◌≡◌, ◌∙◌, ℕ, Bool, true, false, List, Option, refl, sym, subst}
use Rattle.address.specs.Address.{OriginText}
use Rattle.tcp_connect.specs.Standing.{Pool, Pooling, TakesStand, MakesRoom, AddsStand, PutsDown, has_unasked, TakesKept, EntersKept, PutsKept}

-- what is taken from the open ones is taken for an origin that isn't noted
pub takes_known : {W : Type 0} (of : OriginText) (inside : Pooling W) {old : Pooling W} {text : List ℕ} (has : Bool) (taken : Option (ℕ × W)) (pool : Pool W)
    → inside ≡ old → text ≡ of → has ≡ has_unasked inside of → has ≡ false → TakesStand text inside.pool taken pool
    → TakesKept of old taken (record { pool = pool; unasked = inside.unasked })
takes_known of inside has taken pool same named is unnoted takes =
    subst (λ was. TakesKept of was taken (record { pool = pool; unasked = inside.unasked })) same (record {
      unasked = λ yes. let never : true ≡ false = sym yes ∙ sym is ∙ unnoted in absurd cc;
      known = λ _. (subst (λ t. TakesStand t inside.pool taken pool) named takes, refl);
    })

-- what enters the open ones enters for an origin that isn't noted
pub enters_known : {W : Type 0} (of : OriginText) (most : ℕ) (inside : Pooling W) {old : Pooling W} {text : List ℕ} (has : Bool) (place : Option ℕ) (ended : Option W) (pool : Pool W)
    → inside ≡ old → text ≡ of → has ≡ has_unasked inside of → has ≡ false
    → (left : Pool W) × MakesRoom text most inside.pool ended left × AddsStand text most left place pool
    → EntersKept of most old place ended (record { pool = pool; unasked = inside.unasked })
enters_known of most inside has place ended pool same named is unnoted enters =
    subst (λ was. EntersKept of most was place ended (record { pool = pool; unasked = inside.unasked })) same (record {
      unasked = λ yes. let never : true ≡ false = sym yes ∙ sym is ∙ unnoted in absurd cc;
      known = λ _. subst (λ t. (left : Pool _) × MakesRoom t most inside.pool ended left × AddsStand t most left place pool) named enters;
    })

-- what is put down among the open ones is put down for an origin that isn't noted
pub puts_known : {W : Type 0} (of : OriginText) (number : ℕ) (waiting : W) (inside : Pooling W) {old : Pooling W} (has : Bool) (back : Option W) (pool : Pool W)
    → inside ≡ old → has ≡ has_unasked inside of → has ≡ false → PutsDown number waiting inside.pool back pool
    → PutsKept of number waiting old back (record { pool = pool; unasked = inside.unasked })
puts_known of number waiting inside has back pool same is unnoted puts =
    subst (λ was. PutsKept of number waiting was back (record { pool = pool; unasked = inside.unasked })) same (record {
      unasked = λ yes. let never : true ≡ false = sym yes ∙ sym is ∙ unnoted in absurd cc;
      known = λ _. (puts, refl);
    })
