-- The line of each fault of a cookie file, its status, and what is wrong with a line, for a person.
use Rattle.std.specs.Prelude.{◌++◌, ℕ, List, codes, decimal}
use Rattle.cookie_files.specs.Lines.{Text}
use Rattle.cookie_files.specs.declared.fault.CookieFault.{CookieFault}
use Rattle.cookie_files.specs.declared.fault.CookieLineFault.{CookieLineFault}
use Rattle.cookie_files.specs.declared.fault.CookieFault.TheVariants as fault
use Rattle.cookie_files.specs.declared.fault.CookieLineFault.TheVariants as line

-- the line that is written in place of a report
abbrev pub cookies_words : CookieFault → Text
cookies_words fault.Unread = codes "cookies read"
cookies_words fault.TooLong = codes "cookies long"
cookies_words fault.TooManyLines = codes "cookies long"
cookies_words (fault.Line number why) = codes "cookies line " ++ decimal number
cookies_words fault.Memory = codes "stopped memory"

-- the status of the run
abbrev pub cookies_status : CookieFault → ℕ
cookies_status fault.Unread = 2
cookies_status fault.TooLong = 2
cookies_status fault.TooManyLines = 2
cookies_status (fault.Line number why) = 2
cookies_status fault.Memory = 1

-- what is wrong with a line
abbrev pub why : CookieLineFault → Text
why line.Fields = codes "a cookie has seven fields, with a TAB between two"
why line.Domain = codes "the domain is no host"
why line.Subdomains = codes "the second field is neither TRUE nor FALSE"
why line.Path = codes "the path doesn't begin with a slash, or has a control character"
why line.Secure = codes "the fourth field is neither TRUE nor FALSE"
why line.Expiry = codes "the expiry is no number of seconds"
why line.Name = codes "the name is empty, or has a control character, a semicolon or an equals sign"
why line.Value = codes "the value has a control character or a semicolon"
