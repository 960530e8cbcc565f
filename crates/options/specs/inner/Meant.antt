-- What proofs alone need beside `Meant`.
use Rattle.std.specs.Borrow.{Bor}
use Rattle.clap.specs.Walk.{Text}
use Rattle.options.specs.declared.meant.Begun.{Begun}
use Rattle.options.specs.declared.meant.Begun.TheVariants as begun

-- what is known of forms, as the code has it
abbrev pub begun_in : Begun (Bor Text) → Begun Text
begun_in begun.Nothing = begun.Nothing
begun_in (begun.One form) = begun.One form.now
begun_in begun.Several = begun.Several

-- what is known of forms with one more
abbrev pub joined : Begun Text → Text → Begun Text
joined begun.Nothing form = begun.One form
joined (begun.One other) form = begun.Several
joined begun.Several form = begun.Several
