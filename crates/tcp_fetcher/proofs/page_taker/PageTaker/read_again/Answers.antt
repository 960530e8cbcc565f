-- What is read again has the mark and the status of the entry.
use Rattle.response_reader.specs.Limits.{limited}
use Rattle.tcp_fetcher.proofs.EarlierLaws.{answers_recorded}
use Rattle.tcp_fetcher.proofs.page_taker.PageTaker.read_again.Goals as goal

pub returns : goal.returns
returns g c =
    rw (c.again.ensures) (answers_recorded (c.args.links, limited c.args.limits) c.args.at.now c.args.page.entry c.in_ok-read.read c.in_ok-read.ensures)
