-- A leaf line states an answer.
use Rattle.site_maps.proofs.ReadingLaws.{takes_leaf}
use Rattle.site_maps.proofs.reading.MapReading.add_leaf.Goals as goal

pub returns : goal.returns
returns c =
    takes_leaf c.args.self.now c.add_answer.new.self c.add_answer.result c.args.status c.args.text.now
    c.in_ok-address.address c.in_ok-address.ensures c.add_answer.ensures
