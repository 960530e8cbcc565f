-- The head of a response that answers what is kept (RFC 9112, section 2.1).
use Rattle.std.specs.Prelude.{◌++◌, ℕ, Option, Some, None, codes, decimal}
use Rattle.fetcher.specs.declared.outcome.Outcome.{Outcome}
use Rattle.fetcher.specs.declared.outcome.Outcome.TheVariants.{Page, Moved, Leaf, Fault}
use Rattle.earlier_answers.specs.Texts.{Text}

-- the status line, and that there is no body (RFC 9112, sections 4 and 6.2)
abbrev pub front_lines : ℕ → Text
front_lines status = codes "HTTP/1.1 " ++ (decimal status ++ codes " \r\nContent-Length: 0\r\n")

-- the head of a redirect or of a response that leads nowhere
abbrev pub head_of : Outcome → Option Text
head_of (Page status edges) = None
head_of (Moved status target) = Some (front_lines status ++ (codes "Location: " ++ (target ++ codes "\r\n\r\n")))
head_of (Leaf status) = Some (front_lines status ++ codes "\r\n")
head_of (Fault kind) = None
