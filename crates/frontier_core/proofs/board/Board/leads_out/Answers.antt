use Rattle.std.proofs.Common.{◌≡◌, ◌∙◌, sym, true, false, refl, None, Bool}
use Rattle.frontier_core.specs.Tables.{lookup}
use Rattle.frontier_core.proofs.TableLaws.{key_held}
use Rattle.frontier_core.proofs.Options.{tested_none, tested_held}
use Rattle.frontier_core.proofs.board.Board.leads_out.Goals as goal

pub returns-then-admits : goal.returns-then-admits
returns-then-admits c =
    let entries = c.args.self.now.entries in
    let absent = λ (so : c.is_none.result ≡ true). tested_none c.find.result _ c.is_none.result (sym c.is_none.ensures) so c.find.ensures.absent in
    let there : (b : Bool) → c.is_none.result ≡ b → lookup entries c.args.target.now ≡ None → c.is_none.result ≡ true = λ b is none. elim b as (λ z. c.is_none.result ≡ z → c.is_none.result ≡ true) [
      | true ↦ (λ is. is)
      | false ↦ (λ is. (let held = tested_held c.find.result _ c.is_none.result (sym c.is_none.ensures) is c.find.ensures.held in
          let known = key_held entries held.0 held.1.0 in
          let gone : lookup entries c.args.target.now ≡ None = none in
          absurd (cc (held.1.1, known.1, gone))))
    ] is in
    ((λ so. (sym c.admits.ensures ∙ c.if-admits.true, absent so)), λ both. there c.is_none.result refl both.1)
