-- The limits of a run are the documented numbers.
use Rattle.std.proofs.Common.{◌≡◌, refl}
use Rattle.retriever.specs.declared.input_run.TheConstants.{MAX_INPUT}

-- bytes of input
longest_input : MAX_INPUT ≡ 1073741824
longest_input = refl
