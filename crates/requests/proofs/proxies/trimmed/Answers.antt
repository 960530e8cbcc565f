-- White space is left out at both ends.
use Rattle.std.proofs.Common.{drop, refl}
use Rattle.std.specs.Char.{is_ascii_whitespace}
use Rattle.std.specs.List.{prefix_len}
use Rattle.std.proofs.lemmas.Str.Ascii.{trim_ascii_is}
use Rattle.requests.proofs.proxies.trimmed.Goals as goal

pub returns : goal.returns
returns c =
    trim_ascii_is c.args.element.now _ (drop (prefix_len is_ascii_whitespace c.args.element.now) c.args.element.now) refl c.trim_ascii.ensures.value
