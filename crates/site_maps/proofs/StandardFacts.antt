-- Lines of a map and what they say, so that a wrong form doesn't check; and that a line says one thing.
use Rattle.std.proofs.Common.{◌≡◌, ℕ, lit≤, List, [], ◌∷◌, Option, Some, None, refl, sym, ap, ◌∙◌, ◌++◌, inl, inr, if◌then◌else◌}
use Rattle.std.specs.Prelude.{codes}
use Rattle.std.specs.Option.{option_map}
use Rattle.std.specs.Str.{bytes_eq}
use Rattle.fetcher.specs.declared.edge.EdgeKind.TheVariants.{Link, Inline, Redirect}
use Rattle.fetcher.specs.declared.fault_kind.FaultKind.TheVariants.{BodyLong}
use Rattle.site_maps.specs.declared.rule_kind.RuleKind.TheVariants.{Allow, Disallow}
use Rattle.fetcher.specs.FaultWords.{word_of}
use Rattle.fetcher.proofs.FaultLaws.{kind_of, kind_of-word_of}
use Rattle.site_maps.specs.RuleLines.{file_line}
use Rattle.site_maps.specs.Lines.{Statement, skipped, page, edge, moved, leaf, fault, robots, closed, rule, three_digits, IsForm, SaysRule}
use Rattle.site_inputs.specs.Fields.{fields}

-- each form, with one line that has it
pub record AreForms : Type 0 where
  pub page_line : IsForm (fields (codes "page 200 http://h/")) (page 200 (codes "http://h/"))
  pub last_page : IsForm (fields (codes "page 299 http://h/")) (page 299 (codes "http://h/"))
  pub link_line : IsForm (fields (codes "link http://h/a")) (edge Link (codes "http://h/a"))
  pub inline_line : IsForm (fields (codes "inline http://h/a.gif")) (edge Inline (codes "http://h/a.gif"))
  pub moved_line : IsForm (fields (codes "moved 301 http://h/ http://h/x")) (moved 301 (codes "http://h/") (codes "http://h/x"))
  pub leaf_line : IsForm (fields (codes "leaf 404 http://h/")) (leaf 404 (codes "http://h/"))
  pub last_leaf : IsForm (fields (codes "leaf 999 http://h/")) (leaf 999 (codes "http://h/"))
  pub fault_line : IsForm (fields (codes "fault body-long http://h/")) (fault BodyLong (codes "http://h/"))
  pub robots_line : IsForm (fields (codes "robots http://h/")) (robots (codes "http://h/"))
  pub closed_line : IsForm (fields (codes "robots http://h/ none")) (closed (codes "http://h/"))
  pub allow_line : SaysRule (codes "allow /a b") (rule Allow (codes " /a b"))
  pub bare_rule : SaysRule (codes "disallow") (rule Disallow [])
  pub empty_address : IsForm (fields (codes "page 200 ")) (page 200 [])

pub forms : AreForms
unfolding word_of
forms = record {
  page_line = (codes "200", refl, refl, refl);
  last_page = (codes "299", refl, refl, refl);
  link_line = refl;
  inline_line = refl;
  moved_line = (codes "301", refl, refl, refl);
  leaf_line = (codes "404", refl, refl, lit≤ tt);
  last_leaf = (codes "999", refl, refl, lit≤ tt);
  fault_line = refl;
  robots_line = refl;
  closed_line = refl;
  allow_line = (refl, inr refl);
  bare_rule = (refl, inl refl);
  empty_address = (codes "200", refl, refl, refl);
}

-- a rule line in a robots file
pub rule_in_file : file_line Allow (codes " /a b") ≡ codes "allow: /a b" ++ 10 ∷ []
rule_in_file = refl

-- ---- a line says one thing

-- what fields say, if they have a form
said_by : List (List ℕ) → Option Statement
said_by (word ∷ text ∷ []) =
    if bytes_eq word (codes "link") then Some (edge Link text)
    else (if bytes_eq word (codes "inline") then Some (edge Inline text)
    else Some (robots text))
said_by (word ∷ number ∷ text ∷ []) =
    if bytes_eq word (codes "page") then option_map (λ status. page status text) (three_digits number)
    else (if bytes_eq word (codes "leaf") then option_map (λ status. leaf status text) (three_digits number)
    else (if bytes_eq word (codes "fault") then option_map (λ kind. fault kind text) (kind_of number)
    else Some (closed number)))
said_by (word ∷ number ∷ text ∷ target ∷ []) = option_map (λ status. moved status text target) (three_digits number)
said_by _ = None

said_by-form : (fs : List (List ℕ)) (s : Statement) → IsForm fs s → said_by fs ≡ Some s
unfolding said_by
said_by-form fs skipped h = absurd h
said_by-form fs (page status text) (number, e, value, succeeds) = ap said_by e ∙ ap (option_map (λ n. page n text)) value
said_by-form fs (edge Link text) e = ap said_by e
said_by-form fs (edge Inline text) e = ap said_by e
said_by-form fs (edge Redirect text) h = absurd h
said_by-form fs (moved status text target) (number, e, value, kind) = ap said_by e ∙ ap (option_map (λ n. moved n text target)) value
said_by-form fs (leaf status text) (number, e, value, low) = ap said_by e ∙ ap (option_map (λ n. leaf n text)) value
said_by-form fs (fault kind text) e = ap said_by e ∙ ap (option_map (λ k. fault k text)) (kind_of-word_of kind)
said_by-form fs (robots text) e = ap said_by e
said_by-form fs (closed text) e = ap said_by e
said_by-form fs (rule kind rest) h = absurd h

-- fields say one thing
pub one_form : (fs : List (List ℕ)) (s t : Statement) → IsForm fs s → IsForm fs t → s ≡ t
one_form fs s t f g = let e = sym (said_by-form fs s f) ∙ said_by-form fs t g in cc
