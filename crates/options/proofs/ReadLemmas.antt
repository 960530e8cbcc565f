-- The order of what is found for each option, stage by stage.
use Rattle.std.proofs.Common.{◌≡◌, ◌≢◌, subst, ◌⊎◌, ◌∙◌, ℕ, Bool, true, false, List, [], ◌∷◌, Some, None, if◌then◌else◌, refl, sym, ap, inl, inr, ⊎_elim, Option}
use Rattle.std.specs.Prelude.{Result, Ok, Err, MatchResult, codes}
use Rattle.clap.specs.Walk.{Row, Text}
use Rattle.clap.specs.Words.{IsAmong}
use Rattle.clap.specs.declared.error.ErrorKind.{ErrorKind}
use Rattle.clap.specs.declared.error.ErrorKind.TheVariants as kinds
use Rattle.options.specs.declared.order.Order.{Order}
use Rattle.address.specs.Address.{is_robots_file}
use Rattle.address.specs.declared.fault.AddressFault.{AddressFault}
use Rattle.address.specs.declared.fault.AddressFault.TheVariants as address_fault
use Rattle.address.specs.Address.{Gives}
use Rattle.options.specs.declared.fault.LineFault.{LineFault}
use Rattle.options.specs.declared.fault.LineFault.TheVariants as fault
use Rattle.options.specs.Line.{rows, refusals}
use Rattle.follow_filters.specs.declared.limit.Limit.{Limit}
use Rattle.options.specs.Given.{is_set, level_of}
use Rattle.options.specs.Asked.{without_kind, words_refused}
use Rattle.pacing.specs.Manners.{Mannered}
use Rattle.options.specs.Manners.{manner_of}
use Rattle.pacing.specs.Retries.{Retried}
use Rattle.options.specs.Retries.{retries_of}
use Rattle.options.specs.Naming.{Naming, naming_of}
use Rattle.options.specs.Order.{Counts, proxies_of, start_of, started_at, are_good, counts_of, patterns_of, directories_of, domains_of, expressions_of, rows_taken, fields_of, login_by, login_of, password_of, user_of, order_of_rows, order_of_written, are_taken, AnswersOrder, AnswersRows, Ordered, ordered}
use Rattle.html_links.specs.declared.rules.RowSet.{RowSet}
use Rattle.requests.specs.Fields.{Sent}
use Rattle.requests.specs.Proxies.{Proxies}
use Rattle.options.specs.inner.Order.{Both, StartsAt, FailsToStart, FailsToFilter, Settles, fault_of_kind}

pub starts-at : (found : List Row) (start : List ℕ) → start_of found ≡ Ok start → is_robots_file start ≡ false → StartsAt found start
starts-at found start is page next =
    ap (λ r. started_at r next) is ∙ ap (λ b. if b then Err fault.StartIsRobots else next start) page

pub fails-robots : (found : List Row) (start : List ℕ) → start_of found ≡ Ok start → is_robots_file start ≡ true → FailsToStart found fault.StartIsRobots
fails-robots found start is robots =
    (refl, λ next. ap (λ r. started_at r next) is ∙ ap (λ b. if b then Err fault.StartIsRobots else next start) robots)

pub fails-why : (found : List Row) (why : AddressFault) → start_of found ≡ Err why → FailsToStart found (fault.Start why)
fails-why found why is = (refl, λ next. ap (λ r. started_at r next) is)

-- ---- the lists

pub fails-patterns : (found : List Row) → patterns_of found ≡ None → FailsToFilter found fault.Pattern
fails-patterns found none = λ next. rw none refl

pub fails-directories : (found : List Row) (p : Both) → patterns_of found ≡ Some p → directories_of found ≡ None → FailsToFilter found fault.Directory
fails-directories found p patterns none = λ next. rw (patterns, none) refl

pub fails-domains : (found : List Row) (p d : Both) → patterns_of found ≡ Some p → directories_of found ≡ Some d → domains_of found ≡ None → FailsToFilter found fault.Domain
fails-domains found p d patterns directories none = λ next. rw (patterns, directories, none) refl

pub fails-expressions : (found : List Row) (p d h : Both) (why : LineFault) → patterns_of found ≡ Some p → directories_of found ≡ Some d → domains_of found ≡ Some h → expressions_of found ≡ None → without_kind why ≡ fault.Expression 0 → FailsToFilter found why
fails-expressions found p d h why patterns directories domains none kind = λ next. rw (patterns, directories, domains, none, kind) refl

pub fails-tags : (found : List Row) (p d h e : Both) → patterns_of found ≡ Some p → directories_of found ≡ Some d → domains_of found ≡ Some h → expressions_of found ≡ Some e → rows_taken found ≡ None → FailsToFilter found fault.Tags
fails-tags found p d h e patterns directories domains expressions none = λ next. rw (patterns, directories, domains, expressions, none) refl

-- ---- the stages of an order

pub bad-words : (found : List Row) → are_good found ≡ false → order_of_rows found ≡ Err words_refused
unfolding order_of_rows
bad-words found words = rw words refl

pub bad-counts : (found : List Row) → are_good found ≡ true → counts_of found ≡ None → order_of_rows found ≡ Err words_refused
unfolding order_of_rows
bad-counts found words counts = rw (words, counts) refl

pub bad-manner : (found : List Row) (n : Counts) → are_good found ≡ true → counts_of found ≡ Some n → manner_of found ≡ None → order_of_rows found ≡ Err words_refused
unfolding order_of_rows
bad-manner found n words counts manner = rw (words, counts, manner) refl

pub bad-names : (found : List Row) (n : Counts) (w : Mannered) → are_good found ≡ true → counts_of found ≡ Some n → manner_of found ≡ Some w → naming_of found ≡ None → order_of_rows found ≡ Err words_refused
unfolding order_of_rows
bad-names found n w words counts manner names = rw (words, counts, manner, names) refl

pub bad-retries : (found : List Row) (n : Counts) (w : Mannered) (m : Naming) → are_good found ≡ true → counts_of found ≡ Some n → manner_of found ≡ Some w → naming_of found ≡ Some m → retries_of found ≡ None → order_of_rows found ≡ Err words_refused
unfolding order_of_rows
bad-retries found n w m words counts manner names retries = rw (words, counts, manner, names, retries) refl

pub bad-proxy : (found : List Row) (n : Counts) (w : Mannered) (m : Naming) (r : Retried) (why : LineFault) → are_good found ≡ true → counts_of found ≡ Some n → manner_of found ≡ Some w → naming_of found ≡ Some m → retries_of found ≡ Some r → proxies_of found ≡ Err why → order_of_rows found ≡ Err why
unfolding order_of_rows
bad-proxy found n w m r why words counts manner names retries proxy = rw (words, counts, manner, names, retries, proxy) refl

pub bad-fields : (found : List Row) (n : Counts) (w : Mannered) (x : Proxies) (m : Naming) (r : Retried) (why : LineFault) → are_good found ≡ true → counts_of found ≡ Some n → manner_of found ≡ Some w → naming_of found ≡ Some m → retries_of found ≡ Some r → proxies_of found ≡ Ok x → fields_of found ≡ Err why → order_of_rows found ≡ Err why
unfolding order_of_rows
bad-fields found n w x m r why words counts manner names retries proxy fields = rw (words, counts, manner, names, retries, proxy, fields) refl

pub bad-level : (found : List Row) (n : Counts) (x : Proxies) (m : Naming) (s : Sent) (w : Mannered) (r : Retried) → Settles found n x m s w r → level_of found ≡ None → order_of_rows found ≡ Err fault.Depth
unfolding order_of_rows
bad-level found n x m s w r settles level = rw (settles.words, settles.counted, settles.treated, settles.named, settles.retried, settles.proxied, settles.fielded, level) refl

pub bad-filters : (found : List Row) (n : Counts) (x : Proxies) (m : Naming) (s : Sent) (w : Mannered) (r : Retried) (l : Limit) (why : LineFault) → Settles found n x m s w r → level_of found ≡ Some l → FailsToFilter found why → order_of_rows found ≡ Err (without_kind why)
unfolding order_of_rows
bad-filters found n x m s w r l why settles level fails = rw (settles.words, settles.counted, settles.treated, settles.named, settles.retried, settles.proxied, settles.fielded, level) (fails _)

pub bad-start : (found : List Row) (n : Counts) (x : Proxies) (m : Naming) (s : Sent) (w : Mannered) (r : Retried) (l : Limit) (p d h e : List (List ℕ) × List (List ℕ)) (t : RowSet) (why : LineFault) → Settles found n x m s w r → level_of found ≡ Some l → patterns_of found ≡ Some p → directories_of found ≡ Some d → domains_of found ≡ Some h → expressions_of found ≡ Some e → rows_taken found ≡ Some t → FailsToStart found why → order_of_rows found ≡ Err why
unfolding order_of_rows
bad-start found n x m s w r l p d h e t why settles level patterns directories domains expressions taken fails = rw (settles.words, settles.counted, settles.treated, settles.named, settles.retried, settles.proxied, settles.fielded, level, patterns, directories, domains, expressions, taken) (fails.1 _)

pub good-order : (found : List Row) (n : Counts) (x : Proxies) (m : Naming) (s : Sent) (w : Mannered) (r : Retried) (l : Limit) (p d h e : List (List ℕ) × List (List ℕ)) (t : RowSet) (start : List ℕ) → Settles found n x m s w r → level_of found ≡ Some l → patterns_of found ≡ Some p → directories_of found ≡ Some d → domains_of found ≡ Some h → expressions_of found ≡ Some e → rows_taken found ≡ Some t → StartsAt found start → order_of_rows found ≡ Ok (ordered found n x m s w r l p d h e t start)
unfolding order_of_rows
good-order found n x m s w r l p d h e t start settles level patterns directories domains expressions taken starts = rw (settles.words, settles.counted, settles.treated, settles.named, settles.retried, settles.proxied, settles.fielded, level, patterns, directories, domains, expressions, taken) (starts _)

-- ---- credentials

pub login-is : (found : List Row) (unasked : Bool) (user password : Option Text) → unasked ≡ is_set (codes "auth-no-challenge") found → user ≡ user_of found → password ≡ password_of found
    → login_by unasked user password ≡ login_of found
unfolding login_of
login-is found unasked user password by user_is password_is = rw (by, user_is, password_is) refl

-- ---- refused words

no_kinds : (kind : ErrorKind) (kinds : List ErrorKind) → IsAmong kind kinds → are_taken kinds ≡ false
no_kinds kind [] among = absurd among
no_kinds kind (k ∷ kinds) among = refl

pub order_of_written-refused : (words : List Text) (kind : ErrorKind) → IsAmong kind (refusals words) → order_of_written words ≡ Err words_refused
unfolding order_of_written
order_of_written-refused words kind among = rw (no_kinds kind (refusals words) among) refl

pub order_of_written-taken : (words : List Text) (found : List Row) → refusals words ≡ [] → found ≡ rows words → order_of_written words ≡ order_of_rows found
unfolding order_of_written
order_of_written-taken words found none same = rw none (ap order_of_rows (sym same))

-- ---- the start

pub started : (found : List Row) (read : Result (List ℕ) AddressFault) (r : Result (List ℕ) LineFault) → Gives read (start_of found) → MatchResult r (λ a. (read ≡ Ok a) × (is_robots_file a ≡ false)) (λ f. ((a : List ℕ) × (read ≡ Ok a) × (is_robots_file a ≡ true) × (f ≡ fault.StartIsRobots)) ⊎ ((why : AddressFault) × (read ≡ Err why) × (why ≢ address_fault.Memory) × (f ≡ fault.Start why)) ⊎ (f ≡ fault.Memory)) → MatchResult r (λ a. StartsAt found a × (is_robots_file a ≡ false)) (λ f. FailsToStart found f ⊎ (f ≡ fault.Memory))
started found read (Ok a) gives page =
    let is : start_of found ≡ Ok a = rw page.0 at gives in
    (starts-at found a is page.1, page.1)
started found read (Err f) gives page =
    ⊎_elim
    (λ robots.
    let is : start_of found ≡ Ok robots.0 = rw robots.1 at gives in
    inl (subst (FailsToStart found) (sym robots.3) (fails-robots found robots.0 is robots.2)))
    (λ rest. ⊎_elim
    (λ bad.
    let known : (start_of found ≡ Err bad.0) ⊎ (bad.0 ≡ address_fault.Memory) = rw bad.1 at gives in
    ⊎_elim
    (λ is. inl (subst (FailsToStart found) (sym bad.3) (fails-why found bad.0 is)))
    (λ memory. absurd (bad.2 memory))
    known)
    (λ memory. inr memory)
    rest)
    page

-- what a parse that succeeds answers
pub answers-taken : (words : List Text) (found : List Row) (r : Result Order LineFault) → refusals words ≡ [] → found ≡ rows words → AnswersRows found r (order_of_rows found) → AnswersRows (rows words) r (order_of_written words)
answers-taken words found r none same says =
    subst (λ (f : List Row). AnswersRows f r (order_of_written words)) same (subst (AnswersRows found r) (sym (order_of_written-taken words found none same)) says)

-- what is answered without expressions is answered with them
pub answers-more : (found : List Row) (r : Result Order LineFault) (expected : Result Ordered LineFault) → AnswersOrder r expected → AnswersRows found r expected
answers-more found (Ok order) expected is = is
answers-more found (Err f) expected is = ⊎_elim (λ refused. inl refused) (λ memory. inr (inl memory)) is

-- the fault of a kind
fault_kind : (kind : ErrorKind) → (without_kind (fault_of_kind kind) ≡ words_refused) ⊎ (kind ≡ kinds.OutOfMemory)
fault_kind kinds.InvalidValue = inl refl
fault_kind kinds.UnknownArgument = inl refl
fault_kind kinds.InvalidSubcommand = inl refl
fault_kind kinds.NoEquals = inl refl
fault_kind kinds.ValueValidation = inl refl
fault_kind kinds.TooManyValues = inl refl
fault_kind kinds.TooFewValues = inl refl
fault_kind kinds.WrongNumberOfValues = inl refl
fault_kind kinds.ArgumentConflict = inl refl
fault_kind kinds.MissingRequiredArgument = inl refl
fault_kind kinds.MissingSubcommand = inl refl
fault_kind kinds.DisplayHelp = inl refl
fault_kind kinds.DisplayHelpOnMissingArgumentOrSubcommand = inl refl
fault_kind kinds.DisplayVersion = inl refl
fault_kind kinds.Io = inl refl
fault_kind kinds.Format = inl refl
fault_kind kinds.OutOfMemory = inr refl

-- what a parse that fails answers
pub answers-refused : (words : List Text) (kind : ErrorKind) (f : LineFault) → f ≡ fault_of_kind kind → (kind ≡ kinds.OutOfMemory) ⊎ IsAmong kind (refusals words) → (order_of_written words ≡ Err (without_kind f)) ⊎ (f ≡ fault.Memory)
answers-refused words kind f is fails = ⊎_elim
    (λ memory. inr (is ∙ ap fault_of_kind memory))
    (λ among. ⊎_elim
    (λ refused. inl (order_of_written-refused words kind among ∙ ap Err (sym (ap without_kind is ∙ refused))))
    (λ memory. inr (is ∙ ap fault_of_kind memory))
    (fault_kind kind))
    fails
