-- What the code's own type of what is requested is.
use Rattle.cookie_files.specs.Matches as matches
use Rattle.cookie_files.specs.declared.matching.Asked.{Asked}

abbrev pub asked_value : Asked → matches.Asked
asked_value asked = record { host = asked.host.now; path = asked.path.now; port = asked.port; by = asked.by }
