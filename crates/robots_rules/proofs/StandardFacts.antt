-- The limits are the documented numbers, and the examples of RFC 9309 and its own lists of octets hold of the definitions.
use Rattle.std.proofs.Common.{◌≡◌, ◌*◌, Some, None, map, true, false, [], ◌∷◌, ◌++◌, refl, filter}
use Rattle.percent_encoding.specs.Percent.{percent_encode_byte}
use Rattle.std.specs.Prelude.{codes}
use Rattle.std.specs.List.{range_with_len}
use Rattle.robots_rules.specs.Octets.{is_unreserved, normal, normal_path}
use Rattle.robots_rules.specs.Patterns.{normal_of}
use Rattle.robots_rules.specs.Lines.{is_line_end, is_blank}
use Rattle.robots_rules.specs.Groups.{is_in_token, token_of, names_all, names_us}
use Rattle.robots_rules.specs.Delays.{delay_in}
use Rattle.robots_rules.specs.declared.seconds.TheConstants.{MAX_DELAY}
use Rattle.robots_rules.specs.declared.lines.TheConstants.{MAX_BYTES}
use Rattle.robots_rules.specs.declared.rule_set.TheConstants.{LONG_PATH}

-- bytes of a file that are used
longest_file : MAX_BYTES ≡ 512000
longest_file = refl

-- bytes of an address, and so of its path, that is brought into normal form in a buffer
longest_path : LONG_PATH ≡ 8192
longest_path = refl

-- nanoseconds of the longest delay
longest_delay : MAX_DELAY ≡ 60 * 1_000_000_000
longest_delay = refl

-- the unreserved octets (RFC 3986, section 2.3)
unreserved_octets : filter is_unreserved (range_with_len 0 256) ≡ codes "-.0123456789ABCDEFGHIJKLMNOPQRSTUVWXYZ_abcdefghijklmnopqrstuvwxyz~"
unreserved_octets = refl

-- the octets of a product token (RFC 9309, section 2.2.1)
token_octets : filter is_in_token (range_with_len 0 256) ≡ codes "-ABCDEFGHIJKLMNOPQRSTUVWXYZ_abcdefghijklmnopqrstuvwxyz"
token_octets = refl

-- CR and LF, tab and space (RFC 9309, section 2.2)
line_ends : filter is_line_end (range_with_len 0 256) ≡ 10 ∷ 13 ∷ []
line_ends = refl

blanks : filter is_blank (range_with_len 0 256) ≡ 9 ∷ 32 ∷ []
blanks = refl

-- RFC 9309, section 2.2.2: `/foo/bar/ツ` and `/foo/bar/%62%61%7A`
above_ascii : normal_of (codes "/foo/bar/" ++ 227 ∷ 131 ∷ 132 ∷ []) ≡ codes "/foo/bar/%E3%83%84"
unfolding normal percent_encode_byte
above_ascii = refl

unreserved_escapes : normal_path (codes "/foo/bar/%62%61%7A") ≡ codes "/foo/bar/baz"
unfolding normal
unreserved_escapes = refl

-- RFC 9309, section 2.2.3: `*` and `$` that mean themselves
special_octets : normal_path (codes "/path/file-with-a-*.html") ≡ normal_of (codes "/path/file-with-a-%2a.html")
unfolding normal percent_encode_byte
special_octets = refl

dollar_inside : normal_of (codes "/foo-$x$") ≡ codes "/foo-%24x$"
unfolding normal percent_encode_byte
dollar_inside = refl

-- RFC 9309, section 2.2.1: a product token is a part of the identification
tokens : token_of (codes "wget/1.21 (linux)") ≡ codes "wget"
tokens = refl

names : (names_us (codes "WGET2")) ∷ (names_us (codes "wgetr")) ∷ (names_us (codes "*")) ∷ (names_all (codes "* all")) ∷ (names_all (codes "*bot")) ∷ [] ≡ true ∷ false ∷ false ∷ true ∷ false ∷ []
names = refl

-- numbers of seconds: whole ones, fractions, more than 60, and none
seconds : map delay_in (codes "10" ∷ codes "0.5" ∷ codes ".25" ∷ codes "7." ∷ codes "1.0000000019" ∷ codes "61" ∷ codes "99999999999999999999.5" ∷ []) ≡ Some 10_000_000_000 ∷ Some 500_000_000 ∷ Some 250_000_000 ∷ Some 7_000_000_000 ∷ Some 1_000_000_001 ∷ Some 60_000_000_000 ∷ Some 60_000_000_000 ∷ []
unfolding delay_in
seconds = refl

no_seconds : map delay_in ([] ∷ codes "." ∷ codes "-1" ∷ codes "+1" ∷ codes "1e2" ∷ codes "5s" ∷ codes "1.2.3" ∷ codes "ten" ∷ []) ≡ None ∷ None ∷ None ∷ None ∷ None ∷ None ∷ None ∷ None ∷ []
unfolding delay_in
no_seconds = refl
