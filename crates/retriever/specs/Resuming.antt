-- Why a record can't be resumed, and what is written of that.
use Rattle.std.specs.Prelude.{◌⊎◌, ℕ, List, ◌++◌, codes, Option}
use Rattle.std.specs.Fmt.{decimal}
use Rattle.site_inputs.specs.declared.input_fault.InputFault.TheVariants as input
use Rattle.streams.specs.declared.input.ReadInputFault.TheVariants as reading
use Rattle.retriever.specs.Parts.{IsDelivered}
use Rattle.retriever.specs.declared.resume_fault.ResumeFault.{ResumeFault}
use Rattle.retriever.specs.declared.resume_fault.ResumeFault.TheVariants.{Read, Input, Refused, Discontinued}

-- what is written, in words
abbrev pub resume_words : ResumeFault → List ℕ
resume_words (Read reading.Failed) = codes "resume read"
resume_words (Read reading.Long) = codes "resume long"
resume_words (Read reading.Memory) = codes "stopped memory"
resume_words (Input (input.Line n)) = codes "resume line " ++ decimal n
resume_words (Input (input.Address n)) = codes "resume address " ++ decimal n
resume_words (Input input.Memory) = codes "stopped memory"
resume_words Refused = codes "record not written"
resume_words Discontinued = codes "not continued"

-- 3 if the file can't be read or none may be saved, 2 for what it or the folder holds, 1 if memory ran out
abbrev pub resume_status : ResumeFault → ℕ
resume_status (Read reading.Failed) = 3
resume_status (Read reading.Long) = 2
resume_status (Read reading.Memory) = 1
resume_status (Input (input.Line n)) = 2
resume_status (Input (input.Address n)) = 2
resume_status (Input input.Memory) = 1
resume_status Refused = 3
resume_status Discontinued = 2

-- its line is delivered with its status, or that for memory that ran out
abbrev pub IsUnresumed : Option (List ℕ) → Option (List ℕ) → ResumeFault → ℕ → Type 0
IsUnresumed old new wrong status =
    IsDelivered old new (resume_words wrong ++ codes "\n") (resume_status wrong) status
    ⊎ IsDelivered old new (codes "stopped memory\n") 1 status
