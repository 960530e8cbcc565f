-- Each turn adds one copy.
use Rattle.std.proofs.Common.{◌≡◌, ◌∙◌, ◌+◌, ◌++◌, ℕ, List, [], ◌∷◌, length, replicate, ap, arith}
use Rattle.std.proofs.lemmas.List.{length-replicate, replicate_more}
use Rattle.std.proofs.lemmas.Result.{IfOk-from_err}
use Rattle.retriever.proofs.copies.copies_of.Goals as goal

one_more : {X : Type 0} (n : ℕ) (x y : X) (xs new : List X) → new ≡ xs ++ y ∷ [] → y ≡ x → xs ≡ replicate n x → new ≡ replicate (n + 1) x
one_more n x y xs new is same so_far = is ∙ ap (λ ys. ys ++ y ∷ []) so_far ∙ ap (λ z. replicate n x ++ z ∷ []) same ∙ replicate_more n x

pub loop-preserved : goal.loop-preserved
loop-preserved g c = one_more c.loop.counter c.args.site.now c.in_ok-copied.field-0 c.loop.copies.items c.push.new.self.items c.in_ok-push.ensures.items c.in_ok-copied.ensures c.loop.invariant

pub returns : goal.returns
returns g c =
    let site = c.args.site.now in
    let last : c.loop.counter ≡ c.args.count = omega (arith, c.loop-test.false, c.loop.auto.counter-end) in
    let equal : c.loop.copies.items ≡ replicate c.args.count site = c.loop.invariant ∙ ap (λ n. replicate n site) last in
    record { count = c.loop.copies.ok.0 ∙ ap length equal ∙ length-replicate c.args.count site; equal = equal }

pub returns-in_err-copied : goal.returns-in_err-copied
returns-in_err-copied g c =
    let failed = c.from_residual.ensures.0 in
    record { count = IfOk-from_err _ _ failed; equal = IfOk-from_err _ _ failed }

pub returns-in_err-push : goal.returns-in_err-push
returns-in_err-push g c =
    let failed = c.from_residual-in_err-push.ensures.0 in
    record { count = IfOk-from_err _ _ failed; equal = IfOk-from_err _ _ failed }
