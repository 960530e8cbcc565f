-- A sheet that is written anew piece by piece, of which what is ready is taken now and then.
use Rattle.std.proofs.Common.{◌≡◌, ℕ, List, [], ◌∷◌, ◌++◌, refl, sym, ap, ◌∙◌, append_assoc, append-nil}
use Rattle.css_links.specs.Places.{turn}
use Rattle.css_links.specs.Rewriting.{Change, zone, Rewrite, held, white_in, anew, out_at, out_with, out_of, white_of, rewrite_step, nothing_written, rewrite_fed, closed_in, rewrite_ended, rewritten}
use Rattle.css_links.specs.Scanning.{behind}
use Rattle.css_links.specs.declared.zone.Zone.{Zone}
use Rattle.css_links.specs.declared.zone.Zone.TheVariants as zones
use Rattle.css_links.specs.declared.place.Turn.{Turn}
use Rattle.css_links.specs.declared.place.Turn.TheVariants.{At, Anew, First, With, Refer, Quote, UrlQuote, Open, Close}

at_behind : (z : Zone) (taken out held : List ℕ) (b : ℕ) → out_at z (taken ++ out) held b ≡ taken ++ out_at z out held b
at_behind zones.Outside taken out held b = append_assoc taken out (held ++ b ∷ [])
at_behind zones.Begun taken out held b = append_assoc taken out (held ++ b ∷ [])
at_behind (zones.Quoted quote) taken out held b = append_assoc taken out (held ++ b ∷ [])
at_behind zones.Unquoted taken out held b = append_assoc taken out (held ++ b ∷ [])
at_behind zones.Ended taken out held b = refl

with_behind : (z : Zone) (taken out : List ℕ) (b : ℕ) → out_with z (taken ++ out) b ≡ taken ++ out_with z out b
with_behind zones.Outside taken out b = append_assoc taken out (b ∷ [])
with_behind zones.Begun taken out b = append_assoc taken out (b ∷ [])
with_behind (zones.Quoted quote) taken out b = refl
with_behind zones.Unquoted taken out b = refl
with_behind zones.Ended taken out b = append_assoc taken out (b ∷ [])

out_behind : (change : Change) (taken : List ℕ) (w : Rewrite) (b : ℕ) (t : Turn) → out_of change (behind taken w) b t ≡ taken ++ out_of change w b t
out_behind change taken w b (At p) = at_behind (zone p) taken w.out (held w) b
out_behind change taken w b (Anew p) = append_assoc taken w.out (b ∷ [])
out_behind change taken w b (First p) = append_assoc taken w.out (b ∷ [])
out_behind change taken w b (With p) = with_behind (zone p) taken w.out b
out_behind change taken w b (Quote quote) = append_assoc taken w.out (b ∷ [])
out_behind change taken w b (UrlQuote quote) = append_assoc taken w.out (b ∷ [])
out_behind change taken w b (Open set) = append_assoc taken w.out (b ∷ [])
out_behind change taken w b Close = append_assoc taken w.out (b ∷ [])
out_behind change taken w b Refer = append_assoc taken w.out (anew change w.front.raw ++ (white_in (zone w.front.place) w.white ++ b ∷ []))

white_behind : (taken : List ℕ) (w : Rewrite) (b : ℕ) (t : Turn) → white_of (behind taken w) b t ≡ white_of w b t
white_behind taken w b (At p) = refl
white_behind taken w b (Anew p) = refl
white_behind taken w b (First p) = refl
white_behind taken w b (With p) = refl
white_behind taken w b Refer = refl
white_behind taken w b (Quote quote) = refl
white_behind taken w b (UrlQuote quote) = refl
white_behind taken w b (Open set) = refl
white_behind taken w b Close = refl

same : (v w : Rewrite) → v.front ≡ w.front → v.out ≡ w.out → v.white ≡ w.white → v ≡ w
same v w e f g = rw (e, f, g) refl

step_behind : (change : Change) (taken : List ℕ) (w : Rewrite) (b : ℕ) → rewrite_step change (behind taken w) b ≡ behind taken (rewrite_step change w b)
step_behind change taken w b = same _ _ refl (out_behind change taken w b (turn w.front.place w.front.raw b)) (white_behind taken w b (turn w.front.place w.front.raw b))

fed_behind : (change : Change) (taken : List ℕ) (w : Rewrite) (bs : List ℕ) → rewrite_fed change (behind taken w) bs ≡ behind taken (rewrite_fed change w bs)
fed_behind change taken w [] = refl
fed_behind change taken w (b ∷ bs) = ap (λ v. rewrite_fed change v bs) (step_behind change taken w b) ∙ fed_behind change taken (rewrite_step change w b) bs

fed_both : (change : Change) (w : Rewrite) (xs ys : List ℕ) → rewrite_fed change w (xs ++ ys) ≡ rewrite_fed change (rewrite_fed change w xs) ys
fed_both change w [] ys = refl
fed_both change w (b ∷ bs) ys = fed_both change (rewrite_step change w b) bs ys

-- a piece more
pub piece_more : (change : Change) (old new : Rewrite) (sheet piece taken : List ℕ) → new ≡ rewrite_fed change old piece → behind taken old ≡ rewrite_fed change nothing_written sheet
    → behind taken new ≡ rewrite_fed change nothing_written (sheet ++ piece)
piece_more change old new sheet piece taken e h =
    ap (behind taken) e ∙ sym (fed_behind change taken old piece) ∙ ap (λ w. rewrite_fed change w piece) h ∙ sym (fed_both change nothing_written sheet piece)

-- what is ready is taken
pub ready_taken : (old new : Rewrite) (taken ready : List ℕ) → ready ≡ old.out → new.front ≡ old.front → new.out ≡ [] → new.white ≡ old.white → behind (taken ++ ready) new ≡ behind taken old
ready_taken old new taken ready e f g h = same _ _ f (ap (λ xs. (taken ++ ready) ++ xs) g ∙ append-nil (taken ++ ready) ∙ ap (λ xs. taken ++ xs) e) h

-- the end of the sheet
pub rest_taken : (change : Change) (w : Rewrite) (sheet taken rest : List ℕ) → rest ≡ rewrite_ended change w → behind taken w ≡ rewrite_fed change nothing_written sheet → taken ++ rest ≡ rewritten change sheet
unfolding rewritten
rest_taken change w sheet taken rest e h =
    ap (λ xs. taken ++ xs) e ∙ sym (append_assoc taken w.out (closed_in change (zone w.front.place) w.front.raw w.white)) ∙ ap (rewrite_ended change) h
