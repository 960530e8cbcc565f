-- Without a line there is none that is UTF-8.
use Rattle.site_records.proofs.first_line.first_text_line.Goals as goal

pub returns-in_default : goal.returns-in_default
returns-in_default c = λ line behind is text. c.in_default.ensures line behind is
