use Rattle.std.proofs.Common.{◌≡◌, ◌+◌, ◌-◌, ◌<◌, ℕ, List, [], ◌∷◌, ◌++◌, false, map, length, get_or, sym, ap, ◌∙◌, subst, arith}
use Rattle.std.proofs.lemmas.List.{get_or-map, length-map, length_push}
use Rattle.std.specs.Cmp.Lexicographic.{slice_cmp}
use Rattle.std.specs.Ordering.{nat_cmp, is_lt}
use Rattle.std.specs.String.{string_bytes}
use denote.Ref.{Bor}
use Rattle.local_names.specs.Endings.{stem_of}
use Rattle.local_names.specs.inner.Taken.{lent_text}
use Rattle.local_names.proofs.LeastLaws.{LowSoFar, least_more}
use Rattle.local_names.proofs.NamingLaws.{map_push}
use Rattle.local_names.proofs.naming.least_stems.Goals as goal

pub loop-i-preserved : goal.loop-i-preserved
loop-i-preserved c =
    let inv = c.loop-i.invariant in
    let count = inv.count in
    let has = c.args.has_endings in
    let plain = c.args.names.now in
    let texts = map string_bytes plain in
    let names = map (stem_of has) texts in
    let one = length-map plain string_bytes in
    let long : length names ≡ length plain = length-map texts (stem_of has) ∙ one in
    let i = c.loop-i.i in
    let old = c.loop-i.least.items in
    let low = c.least_with-low.result in
    let own = c.stem_of-stem.result.now in
    let at = length plain - 1 - i in
    let place : own ≡ get_or names (length names - 1 - i) [] =
    c.stem_of-stem.ensures
    ∙ ap (stem_of has) (c.as_str.ensures.value ∙ ap string_bytes c.index-names-names.is ∙ sym (get_or-map string_bytes plain at c.index-names-names.result [] (omega arith)))
    ∙ sym (get_or-map (stem_of has) texts at [] [] (omega (arith, one)))
    ∙ ap (λ n. get_or names (n - 1 - i) []) (sym long) in
    let olds = length-map old lent_text in
    let d : Bor (List ℕ) = record { ref_ptr = (0, 0); now = [] } in
    let deref : c.deref.result.now ≡ old = c.deref.ensures.value in
    let others : 0 < i → is_lt (slice_cmp nat_cmp (get_or (map lent_text old) (i - 1) []) low.now) ≡ false = λ some.
    let at : get_or (map lent_text old) (i - 1) [] ≡ (get_or old (i - 1) d).now = get_or-map lent_text old (i - 1) d [] (omega (arith, some, count)) in
    let this : is_lt (slice_cmp nat_cmp (get_or old (length old - 1) d).now low.now) ≡ false = subst (λ (xs : List (Bor (List ℕ))). is_lt (slice_cmp nat_cmp (get_or xs (length xs - 1) d).now low.now) ≡ false) deref (c.least_with-low.ensures.others (omega (arith, some, count, ap length deref)) d) in
    subst (λ x. is_lt (slice_cmp nat_cmp x low.now) ≡ false) (sym at) (subst (λ n. is_lt (slice_cmp nat_cmp (get_or old (n - 1) d).now low.now) ≡ false) count this) in
    let pushed : map lent_text c.push.new.self.items ≡ map lent_text old ++ low.now ∷ [] = ap (map lent_text) c.in_ok-push.ensures.items ∙ map_push lent_text old low in
    let more : LowSoFar names (map lent_text old ++ low.now ∷ []) (i + 1) = least_more names (map lent_text old) i own low.now (olds ∙ count) (omega (arith, long)) place c.least_with-low.ensures.own others inv.low in
    record {
      count = ap length c.in_ok-push.ensures.items ∙ length_push old low ∙ ap (λ n. n + 1) count;
      low = subst (λ xs. LowSoFar names xs (i + 1)) (sym pushed) more;
    }

pub returns : goal.returns
returns c =
    let inv = c.loop-i.invariant in
    let count = inv.count in
    let has = c.args.has_endings in
    let texts = length-map c.args.names.now string_bytes in
    let names = length-map (map string_bytes c.args.names.now) (stem_of has) in
    let least = length-map c.loop-i.least.items lent_text in
    record {
      count = (let e : length (map lent_text c.loop-i.least.items) ≡ length (map (stem_of has) (map string_bytes c.args.names.now)) = omega (arith, texts, names, least, count) in e);
      low = λ m j below reach within. inv.low m j (omega (arith, below, texts, names)) reach within;
    }
