-- What a person reads about words that are refused.
use Rattle.std.specs.Prelude.{ℕ, List, [], Option, Some, None, ◌++◌, codes, option_map}
use Rattle.std.specs.List.{flat_map}
use Rattle.std.specs.Option.{option_map_or}
use Rattle.clap.specs.Values.{kind_text}
use Rattle.clap.specs.declared.error.ErrorKind.{ErrorKind}
use Rattle.clap.specs.declared.error.ErrorKind.TheVariants.{DisplayVersion}
use Rattle.address.specs.declared.fault.AddressFault.{AddressFault}
use Rattle.address.specs.declared.fault.AddressFault.TheVariants as refused
use Rattle.options.specs.Help.{help_text}
use Rattle.options.specs.declared.help.TheConstants.{VERSION}
use Rattle.options.specs.declared.fault.LineFault.{LineFault}
use Rattle.options.specs.declared.fault.LineFault.TheVariants as line
use Rattle.options.specs.Hints.{hint_on}

-- what a person reads: the help, name and version, or what is wrong and what is accepted instead
pub data Told : Type 0 where
  Help : Told
  Version : Told
  Correction : List ℕ → List ℕ → Told

-- ---- what is accepted

-- as words
abbrev pub accepted_words : List ℕ
accepted_words = codes "wgetr --help says which words are accepted"

-- as a start
abbrev pub accepted_start : List ℕ
accepted_start =
    codes "START is an address in full, as http://example.org/path?query, with at most 8192 bytes and a host of at most 255 (see wgetr --help)"

-- ---- what is read

-- as a proxy
abbrev pub accepted_proxy : List ℕ
accepted_proxy = codes "a proxy is host and port, as http://127.0.0.1:3128/, and --no-proxy is for none (see wgetr --help)"

-- as credentials
abbrev pub accepted_login : List ℕ
accepted_login =
    codes "--user=USER --password=PASSWORD --auth-no-challenge send both with each request to the servers of STARTs; USER has no colon (see wgetr --help)"

-- as a field
abbrev pub accepted_field : List ℕ
accepted_field =
    codes "a field is a name, a colon and a value, as Accept-Language: en, without control characters and with at most 8192 bytes (see wgetr --help)"

-- as a way there
abbrev pub accepted_way : List ℕ
accepted_way = codes "a proxy at localhost, 127.0.0.1 or [::1] is taken, and another one with --trust-proxy (see wgetr --help)"

-- what is wrong with a start that is no address; nothing if memory ran out
abbrev pub wrong_start : AddressFault → Option (List ℕ)
wrong_start refused.TooLong = Some (codes "START is too long")
wrong_start refused.NotUrl = Some (codes "START is no URL")
wrong_start refused.NotHttp = Some (codes "START isn't an http address, and an https one needs --https-proxy, a proxy that speaks TLS")
wrong_start refused.UserInfo = Some (codes "START has a user name with a colon, or it and the password are too long")
wrong_start refused.Memory = None

-- of words that request something: the version or the help
abbrev pub told_of_asked : ErrorKind → Told
told_of_asked DisplayVersion = Version
told_of_asked other = Help

-- of words for which the parser has this short text; it has none for words that request something
abbrev pub told_of_text : ErrorKind → Option (List ℕ) → Told
told_of_text why None = told_of_asked why
told_of_text why (Some wrong) = Correction wrong accepted_words

-- of words that the parser refuses
abbrev pub told_of_kind : ErrorKind → Told
told_of_kind why = told_of_text why (kind_text why)

-- of words that are no order; nothing if memory ran out
abbrev pub told_on : LineFault → Option Told
told_on (line.Words why) = Some (told_of_kind why)
told_on line.NoProxy = Some (Correction (codes "the value of --https-proxy, --http-proxy or their variable is no proxy") accepted_proxy)
told_on line.ProxyUser = Some (Correction (codes "the user name of the proxy has a colon, or it and the password are too long") accepted_proxy)
told_on line.Login = Some (Correction (codes "user name and password are only sent together and with --auth-no-challenge") accepted_login)
told_on line.Agent = Some (Correction (codes "the value of -U, --user-agent has a control character or more than 8192 bytes") accepted_field)
told_on line.Referer = Some (Correction (codes "the value of --referer has a control character or more than 8192 bytes") accepted_field)
told_on line.Header = Some (Correction (codes "a value of --header is no field that can be sent") accepted_field)
told_on line.Fields = Some (Correction (codes "the fields of a request have more than 32768 bytes") accepted_field)
told_on line.Depth =
    Some (Correction (codes "the value of -l, --level is no level") (codes "a level is inf or decimal digits, at most 1000000 (see wgetr --help)"))
told_on line.Pattern =
    Some (Correction (codes "an element of -A, --accept or -R, --reject is no pattern")
    (codes "an element is a suffix, or a pattern with *, ? and classes as [a-z], each closed (see wgetr --help)"))
told_on line.Directory =
    Some (Correction (codes "an element of -I, --include-directories or -X, --exclude-directories is no directory")
    (codes "an element is a directory, as /a or /a*/b, its classes as [a-z] closed and without / (see wgetr --help)"))
told_on line.Domain =
    Some (Correction (codes "an element of -D, --domains or --exclude-domains is no domain")
    (codes "an element is letters, digits, -, _ and dots, as example.org (see wgetr --help)"))
told_on (line.Expression at) =
    Some (Correction (codes "the value of --accept-regex or --reject-regex is no expression")
    (codes "an expression is looked for in addresses, as [?]C= or [.]pdf$ (see wgetr --help)"))
told_on line.LargeExpression =
    Some (Correction (codes "the value of --accept-regex or --reject-regex is too large")
    (codes "an expression has at most 1024 states, some for each character and repetition (see wgetr --help)"))
told_on line.Tags =
    Some (Correction (codes "an element of --follow-tags or --ignore-tags is none with a link")
    (codes "an element is a name, as a, or a name and an attribute with a link, as img/srcset (see wgetr --help)"))
told_on (line.Start why) = option_map (λ wrong. Correction wrong accepted_start) (wrong_start why)
told_on line.StartIsRobots = Some (Correction (codes "START is a robots file") (codes "START is any other page (see wgetr --help)"))
told_on line.FarProxy =
    Some (Correction (codes "the proxy is on another machine, and what is sent there for https isn't encrypted") accepted_way)
told_on line.Memory = None

-- ---- the text

-- name and version
abbrev pub version_text : List ℕ
version_text = codes "wgetr " ++ VERSION.now ++ codes "\n"

-- a word after a space
abbrev pub word_text : List ℕ → List ℕ
word_text word = codes " " ++ word

-- what is wrong, what was likely meant, in these words, and what is accepted: two lines
abbrev pub correction_text : List (List ℕ) → List ℕ → List ℕ → List ℕ → List ℕ
correction_text words wrong hint accepted =
    codes "wgetr: " ++ wrong ++ hint ++ codes ", in:" ++ flat_map word_text words ++ codes "\n" ++ accepted ++ codes "\n"

-- the lines on these words, with what was likely meant
abbrev pub told_lines : List (List ℕ) → List ℕ → Told → List ℕ
told_lines words hint Help = help_text
told_lines words hint Version = version_text
told_lines words hint (Correction wrong accepted) = correction_text words wrong hint accepted

-- the lines on words that are no order, none if memory ran out
abbrev pub advice_text : List (List ℕ) → LineFault → List ℕ
advice_text words wrong = option_map_or (told_lines words (hint_on wrong words)) (told_on wrong) []

-- the lines on a word that is no text, beside these words
abbrev pub no_text_advice : List (List ℕ) → List ℕ
no_text_advice words = correction_text words (codes "a word isn't UTF-8") [] accepted_words
