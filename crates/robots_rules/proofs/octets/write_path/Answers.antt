use Rattle.std.proofs.Common.{◌≡◌, ℕ, ◌+◌, ◌<◌, ◌≤◌, List, [], ◌∷◌, ◌++◌, length, take, set, sym, ap, ◌∙◌, arith, append_assoc, append-nil}
use Rattle.std.proofs.lemmas.List.{take_all, take_more_set, length-set, length-append}
use Rattle.robots_rules.specs.Octets.{normal_path}
use Rattle.robots_rules.specs.inner.NormalTextView.{octets_of_text}
use Rattle.robots_rules.proofs.octets.write_path.Goals as goal

less : (n m : ℕ) → n ≤ m → (n ≡ m → ⊥) → n < m
less n m le other = grind arith

shorter : (before behind : List ℕ) (x : ℕ) → before ≡ x ∷ behind → length behind < length before
shorter before behind x is = rw is (omega arith)

-- an octet more is written
one_more : (buffer before behind whole : List ℕ) (len x : ℕ) → len < length buffer → before ≡ x ∷ behind → take len buffer ++ before ≡ whole → take (len + 1) (set buffer len x) ++ behind ≡ whole
one_more buffer before behind whole len x below is so =
    ap (λ xs. xs ++ behind) (take_more_set buffer len x below) ∙ append_assoc (take len buffer) (x ∷ []) behind ∙ ap (λ xs. take len buffer ++ xs) (sym is) ∙ so

-- the buffer is full and an octet is left
longer : (buffer before behind whole : List ℕ) (len x : ℕ) → len ≡ length buffer → before ≡ x ∷ behind → take len buffer ++ before ≡ whole → length buffer < length whole
longer buffer before behind whole len x full is so =
    let all = take_all len buffer (omega (arith, full)) in
    let sum : length buffer + length before ≡ length whole = ap (λ xs. length xs + length before) (sym all) ∙ sym (length-append (take len buffer) before) ∙ ap length so in
    let some = shorter before behind x is in
    omega (arith, sum, some)

pub loop-octet-init : goal.loop-octet-init
loop-octet-init c = record { within = omega arith; written = c.path-rest.ensures }

pub loop-octet-smaller : goal.loop-octet-smaller
loop-octet-smaller c = shorter (octets_of_text c.loop-octet.rest) (octets_of_text c.in-Some.behind) c.in-Some.octet c.in-Some.ensures

pub loop-octet-preserved : goal.loop-octet-preserved
loop-octet-preserved c =
    let below = less c.loop-octet.len (length c.loop-octet.buffer) c.loop-octet.invariant.within c.if-len-buffer.false in
    record {
      within = omega (arith, below, length-set c.loop-octet.buffer c.loop-octet.len c.in-Some.octet);
      written = one_more c.loop-octet.buffer (octets_of_text c.loop-octet.rest) (octets_of_text c.in-Some.behind) (normal_path c.args.path.now) c.loop-octet.len c.in-Some.octet below c.in-Some.ensures c.loop-octet.invariant.written;
    }

pub returns-then-len-buffer-clause-longer : goal.returns-then-len-buffer-clause-longer
returns-then-len-buffer-clause-longer c =
    let over = longer c.loop-octet.buffer (octets_of_text c.loop-octet.rest) (octets_of_text c.in-Some.behind) (normal_path c.args.path.now) c.loop-octet.len c.in-Some.octet c.if-len-buffer.true c.in-Some.ensures c.loop-octet.invariant.written in
    rw c.loop-octet.auto.buffer at over

pub returns-clause-written : goal.returns-clause-written
returns-clause-written c =
    (c.loop-octet.invariant.within, sym (append-nil (take c.loop-octet.len c.loop-octet.buffer)) ∙ ap (λ xs. take c.loop-octet.len c.loop-octet.buffer ++ xs) (sym c.in_default.ensures) ∙ c.loop-octet.invariant.written)
