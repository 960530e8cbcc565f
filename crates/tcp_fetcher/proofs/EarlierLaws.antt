-- What is received is the same without the digests of its bodies, and a page is answered by what an earlier run has of it.
use Rattle.std.proofs.Common.{◌≡◌, ◌⊎◌, ◌∙◌, ◌≤◌, ◌++◌, ℕ, suc, Bool, true, false, inl, inr, List, [], ◌∷◌, length, Option, Some, None, arith, refl, sym, ap, subst}
use Rattle.std.specs.Prelude.{IfOk, IfSome, MatchOption, OnErr, OnOk, Result, Ok, Err, option_map}
use Rattle.sha2.specs.Sha256.{sha256}
use Rattle.address.specs.Address.{AddressText}
use Rattle.answer_notes.specs.HopChains.{ChainValue}
use Rattle.body_digests.specs.Digests.{HoldsDigested}
use Rattle.body_digests.specs.declared.digesting.Digested.{Digested}
use Rattle.fetcher.specs.declared.answer.Answer.{Answer}
use Rattle.fetcher.specs.declared.fetcher.Ask.{Ask}
use Rattle.fetcher.specs.declared.outcome.Outcome.{Outcome}
use Rattle.html_links.specs.declared.rules.LinkRules.{LinkRules}
use Rattle.http_fetcher.specs.Fetching.{Fetching, StandsForOne, with_condition}
use Rattle.http_fetcher.specs.Meanings.{MayAnswerWithin}
use Rattle.mirror_index.specs.Entries.{Entry}
use Rattle.mirror_index.specs.Indexes.{HasThis}
use Rattle.mirror_index.specs.declared.entry.Mark.{Mark}
use Rattle.mirror_index.specs.declared.entry.Mark.TheVariants.{Changed, Digest}
use Rattle.part_keeper.specs.Parts.{holds_part, holds_received}
use Rattle.part_keeper.specs.declared.part.KeptPart.{KeptPart}
use Rattle.pacing.specs.Retries.{Retried}
use Rattle.run_failures.specs.declared.loss_kind.LossKind.{LossKind}
use Rattle.requests.specs.Conditions.{Condition}
use Rattle.requests.specs.Requests.{Sending}
use Rattle.response_reader.specs.Limits.{Limited}
use Rattle.retries.specs.Keeping.{MayKeep, StandsForAnswer, asks_of, is_worth_answer}
use Rattle.retries.specs.Tries.{AreTries, IsLastOf}
use Rattle.tcp_connect.specs.Connecting.{Connecting}
use Rattle.tcp_fetcher.specs.Answering.{AreMarked, HasMark, IsAnswered, IsAnsweredBy, IsLeft, IsOfEarlier, IsReceived, IsReceivedIfChanged, IsReadAgain, IsRecorded, IsRecordedIn, IsRepeatedIn, IsAnswerWith, Lasting, has_status, lasting, not_received, site_of, without_digest}
use Rattle.tcp_fetcher.specs.TcpFetching.{TcpFetching, outcome_known}
use Rattle.tcp_fetcher.specs.PartsFetching.{MayAnswerIn, PartsSite}
use Rattle.earlier_runs.specs.declared.earlier.Earlier.{Earlier}

-- what follows for a value
pub if_ok_map : {A E : Type 0} (r : Result A E) (P Q : A → Type 0) → IfOk r P → ((a : A) → P a → Q a) → IfOk r Q
if_ok_map (Ok a) P Q p follows = follows a p
if_ok_map (Err e) P Q p follows = tt

-- what follows for a value from two facts
pub if_ok_both : {A E : Type 0} (r : Result A E) (P Q S : A → Type 0) → IfOk r P → IfOk r Q → ((a : A) → P a → Q a → S a) → IfOk r S
if_ok_both (Ok a) P Q S p q follows = follows a p q
if_ok_both (Err e) P Q S p q follows = tt

-- what follows for a value that may be missing
pub if_some_map : {A : Type 0} (o : Option A) (P Q : A → Type 0) → IfSome o P → ((a : A) → P a → Q a) → IfSome o Q
if_some_map None P Q p follows = tt
if_some_map (Some a) P Q p follows = follows a p

-- what holds whatever is returned
pub on_ok : {A E P : Type 0} (r : Result A E) → P → OnOk r P
on_ok (Ok a) p = p
on_ok (Err e) p = tt

pub on_err : {A E P : Type 0} (r : Result A E) → P → OnErr r P
on_err (Ok a) p = tt
on_err (Err e) p = p

-- what may not be asked again was asked once
pub once_if_last : {F X : Type 0} (log : F → List Ask) (lost : F → Option LossKind) (Says : F → X → Type 0) (worth : X → Option LossKind → Bool) (ask : Ask) (most : ℕ) (old new : F) (told : X)
    → most ≡ 0 → IsLastOf log lost Says worth ask most old new told → log new ≡ log old ++ ask ∷ []
once_if_last log lost Says worth ask most old new told none ([], tries, few, ends) = tries.0
once_if_last log lost Says worth ask most old new told none ((earlier ∷ more), tries, few, ends) = absurd (omega (arith, few, none))

-- one condition is as good as another once there is none
pub forgotten : (condition : Option Condition) (sends : Option Sending) → with_condition None (with_condition condition sends) ≡ with_condition None sends
forgotten condition None = refl
forgotten condition (Some sends) = refl

-- an answer with a digest represents what it represents without
pub stands_without : (limits : Limited) (links : LinkRules) (at : AddressText) (answer : Answer (Digested KeptPart))
    → StandsForAnswer (HoldsDigested holds_received) limits links at answer → StandsForAnswer holds_received limits links at (without_digest answer)
stands_without limits links at answer (real, (outcome, (holds, digest)), may) = (real, (outcome, holds), may)

-- what was received is one that the site may give
pub stands_received : (limits : Limited) (links : LinkRules) (at : AddressText) (answer : Answer KeptPart)
    → StandsForAnswer holds_received limits links at answer → StandsForAnswer holds_part limits links at answer
stands_received limits links at answer (real, (outcome, (holds, received)), may) = (real, (outcome, holds), may)

module _ {C : Type 0} (lost : Fetching C → Option LossKind) (limits : Limited) (at : AddressText) (retries : Retried) (ask : Ask) where
  bare : List (Answer (Digested KeptPart) × Fetching C) → List (Answer KeptPart × Fetching C)
  bare [] = []
  bare (e ∷ es) = (without_digest e.0, e.1) ∷ bare es

  bare_length : (es : List (Answer (Digested KeptPart) × Fetching C)) → length (bare es) ≡ length es
  unfolding bare
  bare_length [] = refl
  bare_length (e ∷ es) = ap suc (bare_length es)

  tries_without : (old : Fetching C) (earlier : List (Answer (Digested KeptPart) × Fetching C)) (new : Fetching C) (answer : Answer (Digested KeptPart))
      → AreTries asks_of lost (MayKeep (HoldsDigested holds_received) limits at) (is_worth_answer retries) ask old earlier new answer
      → AreTries asks_of lost (MayKeep holds_received limits at) (is_worth_answer retries) ask old (bare earlier) new (without_digest answer)
  unfolding bare
  tries_without old [] new answer tries = (tries.0, stands_without limits old.links at answer tries.1)
  tries_without old (e ∷ es) new answer tries =
      ((tries.0.0, stands_without limits old.links at e.0 tries.0.1), tries.1, tries_without e.1 es new answer tries.2)

  -- what is received last is so without its digest
  pub last_without : (most : ℕ) (old new : Fetching C) (answer : Answer (Digested KeptPart))
      → IsLastOf asks_of lost (MayKeep (HoldsDigested holds_received) limits at) (is_worth_answer retries) ask most old new answer
      → IsLastOf asks_of lost (MayKeep holds_received limits at) (is_worth_answer retries) ask most old new (without_digest answer)
  last_without most old new answer (earlier, tries, few, inl worthless) =
      (bare earlier, tries_without old earlier new answer tries, subst (λ n. n ≤ most) (sym (bare_length earlier)) few, inl worthless)
  last_without most old new answer (earlier, tries, few, inr all) =
      (bare earlier, tries_without old earlier new answer tries, subst (λ n. n ≤ most) (sym (bare_length earlier)) few, inr (bare_length earlier ∙ all))

-- what is read again of a page's file is what was recorded
pub recorded : (limits : Limited) (links : LinkRules) (at : AddressText) (entry : Entry) (answer : Answer (Digested KeptPart)) → IsReadAgain holds_received limits links at entry answer
    → (has_status answer.outcome entry.head.status ≡ true)
    × ((not_received (without_digest answer)).body.is_received ≡ false)
    × StandsForOne holds_part (not_received (without_digest answer)) (λ real. MayAnswerWithin limits links at real.outcome real.body × AreMarked entry.mark real.body.bytes)
recorded limits links at entry answer (own, says, (real, (outcome, ((holds, received), of_body)), may)) = (says, refl, (real, (outcome, holds), (may, marked entry.mark own)))
  where
    marked : (m : Mark) → HasMark m answer.body.digest → AreMarked m real.body.bytes
    marked (Digest digest) is = sym (subst (λ (d : Option (List ℕ)). IfSome d (λ x. x ≡ sha256 real.body.bytes)) is of_body)
    marked (Changed time) is = tt

-- the same of what was read again, if anything was
pub answers_recorded : (site : PartsSite) (at : AddressText) (entry : Entry) (read : Option (Answer (Digested KeptPart)))
    → IfSome read (IsReadAgain holds_received site.1 site.0 at entry) → IfSome (option_map (λ answer. not_received (without_digest answer)) read) (IsRecordedIn site at entry)
answers_recorded site at entry None again = tt
answers_recorded site at entry (Some answer) again = recorded site.1 site.0 at entry answer again

-- what was recorded is so for what asks by these links and limits
pub recorded_by : {E : Type 0} (fetcher : Lasting) (at : AddressText) (entry : Entry) (limits : Limited) (links : LinkRules) (r : Result (Option (Answer KeptPart)) E)
    → limits ≡ fetcher.limits → links ≡ fetcher.links
    → IfOk r (λ found. IfSome found (IsRecordedIn (links, limits) at entry)) → IfOk r (λ found. IfSome found (IsRecorded fetcher at entry))
recorded_by fetcher at entry limits links r same_limits same_links again =
    subst (λ (l : LinkRules). IfOk r (λ found. IfSome found (IsRecordedIn (l, fetcher.limits) at entry))) same_links
    (subst (λ (l : Limited). IfOk r (λ found. IfSome found (IsRecordedIn (links, l) at entry))) same_limits again)

-- it is one that the site may give
pub may_recorded : (fetcher : Lasting) (at : AddressText) (entry : Entry) (answer : Answer KeptPart) → IsRecorded fetcher at entry answer → MayAnswerIn (site_of fetcher) at answer.outcome answer.body
may_recorded fetcher at entry answer (says, left, (real, kept, (may, marked))) = (real, kept, may)

module _ (fetcher : Lasting) (at : AddressText) (old new : Fetching Connecting) (answer : Answer KeptPart) where
  -- what is received over the network is answered, whatever is known
  pub answered_anew : (known : Option Earlier) → IsReceived fetcher at None old new answer → IsAnsweredBy fetcher at known old new answer
  answered_anew None received = received
  answered_anew (Some earlier) received = inl received

  -- and what is answered by what is known
  pub answered_by : (known : Option Earlier) (earlier : Earlier) → known ≡ Some earlier
      → IsReceived fetcher at None old new answer ⊎ IsOfEarlier fetcher at earlier old new answer → IsAnsweredBy fetcher at known old new answer
  answered_by known earlier is answered = subst (λ k. IsAnsweredBy fetcher at k old new answer) (sym is) answered

-- an answer of this outcome is that outcome again
pub repeated_in : (limits : Limited) (links : LinkRules) (at : AddressText) (outcome : Outcome) (answer : Answer KeptPart) → answer.outcome ≡ outcome
    → StandsForAnswer holds_received limits links at answer → IsRepeatedIn (links, limits) at outcome (not_received answer)
repeated_in limits links at outcome answer same (real, (of, (holds, received)), may) = (same, refl, (real, (of, holds), may))

-- what an earlier run received without a file is answered by what is known
pub answer_repeated : {E : Type 0} (fetcher : Lasting) (at : AddressText) (single : Fetching Connecting) (outcome : Outcome) (limits : Limited) (links : LinkRules)
    (r : Result (Option (Answer KeptPart)) E) → limits ≡ fetcher.limits → links ≡ fetcher.links → outcome_known fetcher.known at ≡ Some outcome
    → IfOk r (λ found. IfSome found (IsRepeatedIn (links, limits) at outcome))
    → IfOk r (λ found. IfSome found (IsAnswerWith fetcher at (IsAnswered fetcher at single single)))
answer_repeated fetcher at single outcome limits links r same_limits same_links known again =
    if_ok_map r _ _
    (subst (λ (l : LinkRules). IfOk r (λ found. IfSome found (IsRepeatedIn (l, fetcher.limits) at outcome))) same_links
    (subst (λ (l : Limited). IfOk r (λ found. IfSome found (IsRepeatedIn (links, l) at outcome))) same_limits again))
    (λ found is. if_some_map found _ _ is (λ a repeated. (may a repeated, inr (outcome, known, repeated, refl))))
  where
    may : (a : Answer KeptPart) → IsRepeatedIn (site_of fetcher) at outcome a → MayAnswerIn (site_of fetcher) at a.outcome a.body
    may a (same, left, (real, kept, says)) = (real, kept, says)

-- what is answered by an entry is answered by what is known
module _ (fetcher : Lasting) (at : AddressText) (old new : Fetching Connecting) (earlier : Earlier) (entry : Entry) where
  of_changed : (a : Answer KeptPart) → HasThis earlier.pages at entry → earlier.is_asked ≡ true
      → IsReceived fetcher at None old new a ⊎ IsReceivedIfChanged fetcher at entry old new a → IsReceived fetcher at None old new a ⊎ IsOfEarlier fetcher at earlier old new a
  of_changed a has asked (inl received) = inl received
  of_changed a has asked (inr changed) = inr (entry, has, inl (asked, changed))

  of_missing : (a : Answer KeptPart) → HasThis earlier.pages at entry → earlier.is_asked ≡ false
      → IsReceived fetcher at None old new a ⊎ IsLeft fetcher at entry old new a → IsReceived fetcher at None old new a ⊎ IsOfEarlier fetcher at earlier old new a
  of_missing a has unasked (inl received) = inl received
  of_missing a has unasked (inr left) = inr (entry, has, inr (unasked, left))

  pub known_changed : {E : Type 0} (r : Result (Answer KeptPart) E) → HasThis earlier.pages at entry → earlier.is_asked ≡ true
      → IfOk r (IsAnswerWith fetcher at (λ a. IsReceived fetcher at None old new a ⊎ IsReceivedIfChanged fetcher at entry old new a))
      → IfOk r (IsAnswerWith fetcher at (λ a. IsReceived fetcher at None old new a ⊎ IsOfEarlier fetcher at earlier old new a))
  known_changed r has asked answered = if_ok_map r _ _ answered (λ a told. (told.0, of_changed a has asked told.1))

  pub known_missing : {E : Type 0} (r : Result (Answer KeptPart) E) → HasThis earlier.pages at entry → earlier.is_asked ≡ false
      → IfOk r (IsAnswerWith fetcher at (λ a. IsReceived fetcher at None old new a ⊎ IsLeft fetcher at entry old new a))
      → IfOk r (IsAnswerWith fetcher at (λ a. IsReceived fetcher at None old new a ⊎ IsOfEarlier fetcher at earlier old new a))
  known_missing r has unasked answered = if_ok_map r _ _ answered (λ a told. (told.0, of_missing a has unasked told.1))

-- what is answered by pages that are known is answered by what is known
pub kept_known : {E : Type 0} (fetcher : Lasting) (at : AddressText) (old new : Fetching Connecting) (earlier : Earlier) (r : Result (Answer KeptPart) E) → fetcher.known ≡ Some earlier
    → IfOk r (IsAnswerWith fetcher at (λ a. IsReceived fetcher at None old new a ⊎ IsOfEarlier fetcher at earlier old new a))
    → IfOk r (IsAnswerWith fetcher at (IsAnswered fetcher at old new))
kept_known fetcher at old new earlier r is answered = if_ok_map r _ _ answered (λ a told. (told.0, inl (answered_by fetcher at old new a fetcher.known earlier is told.1)))

-- the same if nothing is known
pub kept_anew : {E : Type 0} (fetcher : Lasting) (at : AddressText) (old new : Fetching Connecting) (r : Result (Answer KeptPart) E)
    → IfOk r (IsAnswerWith fetcher at (IsReceived fetcher at None old new)) → IfOk r (IsAnswerWith fetcher at (IsAnswered fetcher at old new))
kept_anew fetcher at old new r answered = if_ok_map r _ _ answered (λ a told. (told.0, inl (answered_anew fetcher at old new a fetcher.known told.1)))

-- that a page was noted changes nothing of its answer
pub answered_noted : {E : Type 0} (known : Option Earlier) (inner noted : TcpFetching) (asks : List Ask) (at : AddressText) (r : Result (Answer KeptPart) E) (new : Fetching Connecting)
    → noted ≡ record inner { asks = asks }
    → IfOk r (IsAnswerWith (lasting (record noted { known = known })) at (IsAnswered (lasting (record noted { known = known })) at noted.single new))
    → IfOk r (IsAnswerWith (lasting (record inner { known = known })) at (IsAnswered (lasting (record inner { known = known })) at inner.single new))
answered_noted known inner noted asks at r new is answered =
    subst (λ (f : TcpFetching). IfOk r (IsAnswerWith (lasting (record f { known = known })) at (IsAnswered (lasting (record f { known = known })) at f.single new))) is answered

-- what is answered if a chain is known, and if none is
pub by_known : {A E : Type 0} (r : Result A E) (known : Option ChainValue) (P : A → Type 0) (Q : ChainValue → A → Type 0) (found : ChainValue) → known ≡ Some found → IfOk r (Q found)
    → IfOk r (λ x. MatchOption known (P x) (λ f. Q f x))
by_known r known P Q found is answered = subst (λ k. IfOk r (λ x. MatchOption k (P x) (λ f. Q f x))) (sym is) answered

pub by_none : {A E : Type 0} (r : Result A E) (known : Option ChainValue) (P : A → Type 0) (Q : ChainValue → A → Type 0) → known ≡ None → IfOk r P
    → IfOk r (λ x. MatchOption known (P x) (λ f. Q f x))
by_none r known P Q is answered = subst (λ k. IfOk r (λ x. MatchOption k (P x) (λ f. Q f x))) (sym is) answered
