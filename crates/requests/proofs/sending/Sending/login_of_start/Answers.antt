-- Without credentials none are found.
use Rattle.std.proofs.Common.{◌≡◌, false, None, sym}
use Rattle.std.specs.List.{list_any}
use Rattle.requests.specs.Requests.{has_login, login_at}
use Rattle.requests.proofs.SendingLemmas.{no_login}
use Rattle.requests.proofs.sending.Sending.login_of_start.Goals as goal

pub returns-else-self : goal.returns-else-self
returns-else-self c =
    let e : list_any has_login c.self.inside.homes.items ≡ false = cc in
    let n : login_at c.self.inside.homes.items c.args.at.now ≡ None = no_login c.self.inside.homes.items c.args.at.now e in
    rw (sym c.self.view_is) (sym n)
