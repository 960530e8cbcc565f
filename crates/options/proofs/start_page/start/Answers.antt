use Rattle.clap.specs.Words.{found_of, rows_of}
use Rattle.options.proofs.ReadLemmas.{started}
use Rattle.options.proofs.start_page.start.Goals as goal

pub returns : goal.returns
returns c = started (rows_of (found_of c.args.matches.now)) c.read_start.result c.page_of.result c.read_start.ensures c.page_of.ensures
