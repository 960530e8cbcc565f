use Rattle.std.proofs.Common.{refl}
use Rattle.std.proofs.lemmas.Str.Ascii.{trim_ascii_is}
use Rattle.html_links.specs.Values.{without_front}
use Rattle.start_lists.proofs.lines.trimmed.Goals as goal

pub returns : goal.returns
returns c = trim_ascii_is c.args.line.now _ (without_front c.args.line.now) refl c.trim_ascii.ensures.value
