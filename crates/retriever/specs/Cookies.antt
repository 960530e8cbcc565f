-- What the program writes if the cookie file that its words name can't be used.
use Rattle.std.specs.Prelude.{◌⊎◌, ◌++◌, ℕ, List, Option, codes}
use Rattle.cookie_files.specs.Faults.{cookies_status, cookies_words}
use Rattle.cookie_files.specs.declared.fault.CookieFault.{CookieFault}
use Rattle.retriever.specs.Parts.{IsDelivered, IsFaultDelivered}
use Rattle.retriever.specs.declared.fault.Fault.TheVariants as fault

-- the line of the fault is delivered with its status, or the line for memory that ran out
abbrev pub AreCookiesRefused : Option (List ℕ) → Option (List ℕ) → CookieFault → ℕ → Type 0
AreCookiesRefused before after wrong status =
    IsDelivered before after (cookies_words wrong ++ codes "\n") (cookies_status wrong) status ⊎ IsFaultDelivered before after fault.Memory status
