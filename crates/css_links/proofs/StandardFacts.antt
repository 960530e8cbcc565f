-- Samples of the standards hold of the definitions (CSS Syntax Level 3, sections 4.3 and 9; CSS Values 4, section 4.5; CSS Cascade, section 2).
use Rattle.std.proofs.Common.{◌≡◌, ℕ, List, [], ◌++◌, codes, refl}
use Rattle.std.specs.Str.Lossy.{utf8_lossy}
use Rattle.css_links.specs.Escapes.{unescaped}
use Rattle.css_links.specs.References.{present, references}
use Rattle.css_links.specs.Rewriting.{written}

-- the reference of a text without escapes
abbrev shown : List ℕ → List (List ℕ)
shown text = present (utf8_lossy text)

-- in quotes, bare, with white, in any case
urls : references (codes "a{b:url(c.png) url( 'd' ) URL(\"e f\")}") ≡ (shown (codes "c.png") ++ shown (codes "d")) ++ shown (codes "e f") ++ []
unfolding references unescaped
urls = refl

imports : references (codes "@import \"a.css\";@IMPORT/**/'b.css' print;@import url(c.css);@media \"d\"") ≡ (shown (codes "a.css") ++ shown (codes "b.css")) ++ shown (codes "c.css") ++ []
unfolding references unescaped
imports = refl

-- neither comments, other strings and functions, words that end in `url`, nor bad URLs
others : references (codes "/* url(a) */b{c:\"url(d)\" xurl(e) url (f) #url(g) @url(h) url(i j) url(k\"l)}") ≡ []
unfolding references unescaped
others = refl

-- strings directly in an image set, in any case, under both names and with escapes; none within its functions, in others and after it
sets : references (codes "a{b:image-set(\"c\" 1x, url(d) type(\"e\"), /**/'f' 2x) \"g\"} h{i:-WEBKIT-\\69 mage-set(url('j')'k') xset('l') @image-set('m') set('n')}")
    ≡ (((((shown (codes "c")) ++ shown (codes "d")) ++ shown (codes "f")) ++ shown (codes "j")) ++ shown (codes "k")) ++ []
unfolding references unescaped lib.Utf8.encode
sets = refl

escapes : references (codes "u\\72l(a\\29 b\\\\c) url(\"\\64\\\ne\\'\")") ≡ shown (codes "a)b\\c") ++ shown (codes "de'") ++ []
unfolding references unescaped lib.Utf8.encode
escapes = refl

-- what the end leaves open counts
ends : references (codes "url(a") ++ references (codes "@import 'b") ++ references (codes "url('c") ≡ shown (codes "a") ++ shown (codes "b") ++ shown (codes "c")
unfolding references unescaped
ends = refl

anew : written (codes "x(')\\\"<a>") ≡ codes "x\\28 \\27 \\29 \\5c \\22 \\3c a>"
anew = refl
