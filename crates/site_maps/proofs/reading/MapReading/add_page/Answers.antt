-- A page line opens its page.
use Rattle.std.proofs.Common.{refl}
use Rattle.std.proofs.lemmas.Result.{err_from_is_err_and}
use Rattle.site_maps.proofs.ReadingLaws.{fresh_of, takes_page, page_claimed}
use Rattle.site_maps.proofs.reading.MapReading.add_page.Goals as goal

pub returns-in_err-claim : goal.returns-in_err-claim
returns-in_err-claim c = λ above t.
    let p = err_from_is_err_and c.from_residual-in_err-claim.result c.from_residual-in_err-claim.ensures.1 in
    rw (p.1, p.2) (page_claimed c.args.self.now above c.args.status c.args.text.now c.in_ok-address.address _ t c.in_ok-address.ensures (c.in_err-claim.ensures (fresh_of c.args.self.now above t)))

pub returns : goal.returns
returns c = λ above t.
    let (closes, none) = c.in_ok-claim.ensures (fresh_of c.args.self.now above t) in
    takes_page c.args.self.now c.claim.new.self _ above c.args.status c.args.text.now _ t closes c.in_ok-address.ensures none refl c.new.ensures.items refl refl refl
