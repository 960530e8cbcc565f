-- The limits of an order, its usual numbers and the forms of the options are the documented ones.
use Rattle.std.proofs.Common.{◌≡◌, ◌∷◌, ◌||◌, [], Bool, true, Option, Some, None, bytes_eq, codes, is_some, map, refl}
use Rattle.std.specs.List.{list_all}
use Rattle.std.specs.Option.{option_eq}
use Rattle.clap.specs.Walk.{Text}
use Rattle.clap.specs.declared.error.ErrorKind.TheVariants.{DisplayHelp, DisplayVersion}
use Rattle.options.specs.Advice.{Help, Version, told_of_kind}
use Rattle.options.specs.Help.{says_of, value_name}
use Rattle.options.specs.Meant.{is_one_of, meant}
use Rattle.options.specs.Said.{heard, long_meaning, sayings, value_meaning}
use Rattle.options.specs.Table.{instead, own, summaries, table, wget}
use Rattle.options.specs.Written.{first_unread}
use Rattle.options.specs.declared.order.TheConstants.{DEFAULT_MAX_URLS, DEFAULT_PER_HOST, DEFAULT_WORKERS, MAX_WORKERS}
use Rattle.options.specs.declared.table.Instead.{Instead}
use Rattle.options.specs.declared.table.Row.{Row}

-- workers
most_workers : MAX_WORKERS ≡ 64
most_workers = refl

usual_workers : DEFAULT_WORKERS ≡ 4
usual_workers = refl

-- requests out to an origin
usual_requests : DEFAULT_PER_HOST ≡ 2
usual_requests = refl

-- addresses
usual_addresses : DEFAULT_MAX_URLS ≡ 100000
usual_addresses = refl

-- the short form, the name, and what its value is called if it has one
abbrev forms_of : Row Text → Text × Text × Option Text
forms_of row = (row.short, row.name, value_name row.kind)

-- docs/OPTIONS.md
forms : map forms_of table ≡ (codes "r", codes "recursive", None) ∷ (codes "l", codes "level", Some (codes "N")) ∷ (codes "m", codes "mirror", None)
    ∷ (codes "p", codes "page-requisites", None) ∷ ([], codes "span-requisites", None) ∷ (codes "n", codes "n", Some (codes "p"))
    ∷ (codes "np", codes "no-parent", None) ∷ (codes "H", codes "span-hosts", None) ∷ (codes "D", codes "domains", Some (codes "LIST"))
    ∷ ([], codes "exclude-domains", Some (codes "LIST")) ∷ (codes "I", codes "include-directories", Some (codes "LIST"))
    ∷ (codes "X", codes "exclude-directories", Some (codes "LIST")) ∷ (codes "A", codes "accept", Some (codes "LIST"))
    ∷ (codes "R", codes "reject", Some (codes "LIST")) ∷ ([], codes "accept-regex", Some (codes "REGEX")) ∷ ([], codes "reject-regex", Some (codes "REGEX"))
    ∷ ([], codes "ignore-case", None) ∷ (codes "L", codes "relative", None) ∷ ([], codes "follow-tags", Some (codes "LIST"))
    ∷ ([], codes "ignore-tags", Some (codes "LIST")) ∷ (codes "e", codes "execute", Some (codes "COMMAND"))
    ∷ ([], codes "no-robots", None) ∷ ([], codes "workers", Some (codes "N")) ∷ ([], codes "per-host", Some (codes "N"))
    ∷ ([], codes "no-http-keep-alive", None) ∷ (codes "U", codes "user-agent", Some (codes "AGENT")) ∷ ([], codes "header", Some (codes "LINE"))
    ∷ ([], codes "referer", Some (codes "URL")) ∷ ([], codes "no-cache", None) ∷ ([], codes "user", Some (codes "USER"))
    ∷ ([], codes "password", Some (codes "PASSWORD")) ∷ ([], codes "http-user", Some (codes "USER"))
    ∷ ([], codes "http-password", Some (codes "PASSWORD")) ∷ ([], codes "auth-no-challenge", None)
    ∷ ([], codes "load-cookies", Some (codes "FILE")) ∷ (codes "w", codes "wait", Some (codes "S"))
    ∷ ([], codes "random-wait", None) ∷ ([], codes "crawl-delay", None) ∷ (codes "t", codes "tries", Some (codes "N")) ∷ ([], codes "waitretry", Some (codes "S"))
    ∷ ([], codes "retry-connrefused", None) ∷ ([], codes "retry-on-host-error", None) ∷ ([], codes "retry-on-http-error", Some (codes "LIST"))
    ∷ (codes "T", codes "timeout", Some (codes "S")) ∷ ([], codes "dns-timeout", Some (codes "S")) ∷ ([], codes "connect-timeout", Some (codes "S")) ∷ ([], codes "read-timeout", Some (codes "S"))
    ∷ ([], codes "answer-timeout", Some (codes "S")) ∷ ([], codes "max-body", Some (codes "BYTES")) ∷ ([], codes "limit-rate", Some (codes "R")) ∷ (codes "Q", codes "quota", Some (codes "N")) ∷ (codes "4", codes "inet4-only", None) ∷ (codes "6", codes "inet6-only", None)
    ∷ ([], codes "https-proxy", Some (codes "URL")) ∷ ([], codes "trust-proxy", None)
    ∷ ([], codes "http-proxy", Some (codes "URL")) ∷ ([], codes "without-proxy", Some (codes "LIST")) ∷ ([], codes "no-proxy", None)
    ∷ ([], codes "max-urls", Some (codes "N")) ∷ ([], codes "map", None) ∷ ([], codes "record", None) ∷ ([], codes "resume", Some (codes "FILE"))
    ∷ ([], codes "retry-failed", None)
    ∷ (codes "i", codes "input-file", Some (codes "FILE")) ∷ (codes "F", codes "force-html", None) ∷ (codes "B", codes "base", Some (codes "URL"))
    ∷ (codes "P", codes "directory-prefix", Some (codes "DIR")) ∷ (codes "nd", codes "no-directories", None)
    ∷ (codes "x", codes "force-directories", None) ∷ (codes "nH", codes "no-host-directories", None) ∷ ([], codes "protocol-directories", None)
    ∷ ([], codes "cut-dirs", Some (codes "N")) ∷ ([], codes "default-page", Some (codes "NAME")) ∷ (codes "E", codes "adjust-extension", None)
    ∷ ([], codes "html-extension", None) ∷ ([], codes "restrict-file-names", Some (codes "MODES")) ∷ (codes "k", codes "convert-links", None) ∷ (codes "K", codes "backup-converted", None)
    ∷ (codes "N", codes "timestamping", None) ∷ (codes "nc", codes "no-clobber", None) ∷ (codes "c", codes "continue", None) ∷ ([], codes "delete-gone", None)
    ∷ ([], codes "no-use-server-timestamps", None) ∷ (codes "q", codes "quiet", None)
    ∷ (codes "o", codes "output-file", Some (codes "FILE")) ∷ (codes "a", codes "append-output", Some (codes "FILE")) ∷ ([], codes "rejected-log", Some (codes "FILE")) ∷ ([], codes "trace", None)
    ∷ ([], codes "save", Some (codes "FILE")) ∷ (codes "nv", codes "no-verbose", None) ∷ ([], codes "no-cookies", None) ∷ ([], codes "no-hsts", None)
    ∷ ([], codes "no-config", None) ∷ ([], codes "no-netrc", None) ∷ ([], codes "unlink", None) ∷ ([], codes "no-remove-listing", None)
    ∷ ([], codes "show-progress", None) ∷ ([], codes "no-xattr", None) ∷ ([], codes "no-strict-comments", None) ∷ ([], codes "no-follow-ftp", None)
    ∷ ([], codes "progress", Some (codes "TYPE")) ∷ ([], codes "compression", Some (codes "none")) ∷ ([], codes "regex-type", Some (codes "TYPE")) ∷ []
unfolding table
forms = refl

-- the help has a line for each option, except for the one that is a letter before others
abbrev is_said : Row Text → Bool
is_said row = bytes_eq row.name (codes "n") || is_some (says_of row.name summaries)

each_is_said : list_all is_said table ≡ true
unfolding table summaries
each_is_said = refl

-- ---- what is done in place of Wget's options

-- the form is a word that isn't read
abbrev is_unread : Instead Text → Bool
is_unread row = option_eq bytes_eq (first_unread (sayings (row.form ∷ []))) (Some row.form)

-- nothing is done in place of an option that is taken
none_is_taken : list_all is_unread instead ≡ true
unfolding instead sayings heard long_meaning value_meaning meant table wget own
none_is_taken = refl

-- and each is one of Wget's
each_is_wgets : list_all (λ row. is_one_of wget row.form) instead ≡ true
unfolding instead wget
each_is_wgets = refl

-- ---- help and version are answered by what they request

-- `-h` and `--help`
help_is_answered : told_of_kind DisplayHelp ≡ Help
help_is_answered = refl

-- `-V` and `--version`
version_is_answered : told_of_kind DisplayVersion ≡ Version
version_is_answered = refl
