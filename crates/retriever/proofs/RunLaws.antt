-- The parts of a run result in its ending.
use Rattle.std.proofs.Common.{◌≡◌, ◌≢◌, ℕ, inl, inr, Bool, true, false, List, [], Option, Some, None, refl, sym, ap, subst, ◌∙◌}
use Rattle.std.specs.Prelude.{Ok}
use Rattle.frontier_core.specs.Machine.{IsQuiet}
use Rattle.html_links.specs.declared.rules.LinkRules.{LinkRules}
use Rattle.site_records.specs.Records.{RecordedAnswers}
use Rattle.frontier_core.specs.declared.event.Cause.TheVariants as cause
use Rattle.frontier_core.specs.declared.event.Event.{Event}
use Rattle.options.specs.Order.{order_of, ordered_by}
use Rattle.options.specs.declared.fault.LineFault.TheVariants as line
use Rattle.options.specs.declared.order.Order.{Order}
use Rattle.options.specs.declared.order.Source.{Source}
use Rattle.options.specs.declared.order.Source.TheVariants as source
use Rattle.report.specs.Trace.{trace_text}
use Rattle.retriever.specs.InputFound.{Form, EndsInFault, IsFoundOf, FindsIn}
use Rattle.retriever.specs.Order.{IsInputOrder, IsRefused}
use Rattle.retriever.specs.Parts.{IsDelivered, IsFaultDelivered}
use Rattle.retriever.specs.inner.Parts.{IsOutput, IsUnfit}
use Rattle.retriever.specs.Retrieved.{Finish, Retrieved, Stopped, Finishes, AreShown, AreEventsOf, HasStopped}
use Rattle.retriever.specs.Run.{Comes, Ending, EndsFor, Failed, Ended, Runs, ending_text, ending_status}
use Rattle.retriever.specs.Site.{IsDescribedBy, IsWrongBy, whole_of}
use Rattle.streams.specs.Streams.{IsInput}
use Rattle.retriever.specs.declared.fault.Fault.{Fault}
use Rattle.retriever.specs.declared.fault.Fault.TheVariants as fault
use Rattle.streams.specs.declared.input.ReadInputFault.TheVariants as reading

-- some bytes are what the reader has left
some_input : (known : Option (List ℕ)) → (input : List ℕ) × IsInput known input
some_input None = ([], tt)
some_input (Some bytes) = (bytes, refl)

pub ends_memory : (words : List (List ℕ)) (known : Option (List ℕ)) → EndsFor words known (Failed fault.Memory)
ends_memory words known = let (input, is) = some_input known in (input, is, tt)

-- ---- the command line

comes_refused : (words : List (List ℕ)) (input : List ℕ) (wrong : Fault) → IsRefused words wrong → Comes words input wrong
comes_refused words input (fault.Line line.Memory) refused = tt
comes_refused words input (fault.Line (line.Words kind)) (inl e) = e
comes_refused words input (fault.Line (line.Words kind)) (inr (inl e)) = cc
comes_refused words input (fault.Line (line.Words kind)) (inr (inr e)) = (let large = e.0 in cc)
comes_refused words input (fault.Line line.NoProxy) (inl e) = e
comes_refused words input (fault.Line line.NoProxy) (inr (inl e)) = cc
comes_refused words input (fault.Line line.NoProxy) (inr (inr e)) = (let large = e.0 in cc)
comes_refused words input (fault.Line line.ProxyUser) (inl e) = e
comes_refused words input (fault.Line line.ProxyUser) (inr (inl e)) = cc
comes_refused words input (fault.Line line.ProxyUser) (inr (inr e)) = (let large = e.0 in cc)
comes_refused words input (fault.Line line.Login) (inl e) = e
comes_refused words input (fault.Line line.Login) (inr (inl e)) = cc
comes_refused words input (fault.Line line.Login) (inr (inr e)) = (let large = e.0 in cc)
comes_refused words input (fault.Line line.Agent) (inl e) = e
comes_refused words input (fault.Line line.Agent) (inr (inl e)) = cc
comes_refused words input (fault.Line line.Agent) (inr (inr e)) = (let large = e.0 in cc)
comes_refused words input (fault.Line line.Referer) (inl e) = e
comes_refused words input (fault.Line line.Referer) (inr (inl e)) = cc
comes_refused words input (fault.Line line.Referer) (inr (inr e)) = (let large = e.0 in cc)
comes_refused words input (fault.Line line.Header) (inl e) = e
comes_refused words input (fault.Line line.Header) (inr (inl e)) = cc
comes_refused words input (fault.Line line.Header) (inr (inr e)) = (let large = e.0 in cc)
comes_refused words input (fault.Line line.Fields) (inl e) = e
comes_refused words input (fault.Line line.Fields) (inr (inl e)) = cc
comes_refused words input (fault.Line line.Fields) (inr (inr e)) = (let large = e.0 in cc)
comes_refused words input (fault.Line line.FarProxy) (inl e) = e
comes_refused words input (fault.Line line.FarProxy) (inr (inl e)) = cc
comes_refused words input (fault.Line line.FarProxy) (inr (inr e)) = (let large = e.0 in cc)
comes_refused words input (fault.Line line.Depth) (inl e) = e
comes_refused words input (fault.Line line.Depth) (inr (inl e)) = cc
comes_refused words input (fault.Line line.Depth) (inr (inr e)) = (let large = e.0 in cc)
comes_refused words input (fault.Line line.Pattern) (inl e) = e
comes_refused words input (fault.Line line.Pattern) (inr (inl e)) = cc
comes_refused words input (fault.Line line.Pattern) (inr (inr e)) = (let large = e.0 in cc)
comes_refused words input (fault.Line (line.Expression at)) (inl e) = e
comes_refused words input (fault.Line (line.Expression at)) (inr (inl e)) = cc
comes_refused words input (fault.Line (line.Expression at)) (inr (inr e)) = (let large = e.0 in cc)
comes_refused words input (fault.Line line.LargeExpression) (inl e) = inl e
comes_refused words input (fault.Line line.LargeExpression) (inr (inl e)) = cc
comes_refused words input (fault.Line line.LargeExpression) (inr (inr e)) = inr e.1
comes_refused words input (fault.Line line.Directory) (inl e) = e
comes_refused words input (fault.Line line.Directory) (inr (inl e)) = cc
comes_refused words input (fault.Line line.Directory) (inr (inr e)) = (let large = e.0 in cc)
comes_refused words input (fault.Line line.Domain) (inl e) = e
comes_refused words input (fault.Line line.Domain) (inr (inl e)) = cc
comes_refused words input (fault.Line line.Domain) (inr (inr e)) = (let large = e.0 in cc)
comes_refused words input (fault.Line line.Tags) (inl e) = e
comes_refused words input (fault.Line line.Tags) (inr (inl e)) = cc
comes_refused words input (fault.Line line.Tags) (inr (inr e)) = (let large = e.0 in cc)
comes_refused words input (fault.Line (line.Start why)) (inl e) = e
comes_refused words input (fault.Line (line.Start why)) (inr (inl e)) = cc
comes_refused words input (fault.Line (line.Start why)) (inr (inr e)) = (let large = e.0 in cc)
comes_refused words input (fault.Line line.StartIsRobots) (inl e) = e
comes_refused words input (fault.Line line.StartIsRobots) (inr (inl e)) = cc
comes_refused words input (fault.Line line.StartIsRobots) (inr (inr e)) = (let large = e.0 in cc)
comes_refused words input fault.NotText refused = absurd refused
comes_refused words input fault.NoSite refused = refused
comes_refused words input (fault.Read w) refused = absurd refused
comes_refused words input (fault.Input w) refused = absurd refused
comes_refused words input fault.Memory refused = tt

pub ends_refused : (words : List (List ℕ)) (known : Option (List ℕ)) (wrong : Fault) → IsRefused words wrong → EndsFor words known (Failed wrong)
ends_refused words known wrong refused = let (input, is) = some_input known in (input, is, comes_refused words input wrong refused)

-- ---- the input

pub ends_input : (words : List (List ℕ)) (known : Option (List ℕ)) (order : Order) (wrong : Fault) → IsInputOrder words order → EndsInFault (IsWrongBy order.source order.links) known wrong
    → EndsFor words known (Failed wrong)
ends_input words known order (fault.Line w) ordered told = absurd told
ends_input words known order fault.NotText ordered told = absurd told
ends_input words known order fault.NoSite ordered told = absurd told
ends_input words known order (fault.Read reading.Long) ordered (input, is, long) = (input, is, ((order, ordered), long))
ends_input words known order (fault.Read reading.Failed) ordered told = let (input, is) = some_input known in (input, is, (order, ordered))
ends_input words known order (fault.Read reading.Memory) ordered told = let (input, is) = some_input known in (input, is, tt)
ends_input words known order (fault.Input w) ordered (input, is, within, bad) = (input, is, (order, ordered, within, bad))
ends_input words known order fault.Memory ordered told = ends_memory words known

-- what an order and the reader result in instead of a retrieval is the run's
pub ends_unfit : (words : List (List ℕ)) (known : Option (List ℕ)) (order : Order) (wrong : Fault) → order_of words ≡ Ok (ordered_by order) → IsUnfit order known wrong → EndsFor words known (Failed wrong)
ends_unfit words known order wrong says (inl (live, is)) = let (input, among) = some_input known in (input, among, subst (λ (w : Fault). Comes words input w) (sym is) (ordered_by order, says, live))
ends_unfit words known order wrong says (inr (not, told)) = ends_input words known order wrong (says, not) told

-- ---- the retrieval

-- an input describes no site on the network
told_not_live : (order : Order) (known : Option (List ℕ)) (text : List ℕ) (status : ℕ) → IsOutput (IsDescribedBy order.source order.links) order known text status → order.source ≢ source.Live
told_not_live order known text status (site, (input, is, within, told), output) = λ live. subst (λ (s : Source). IsDescribedBy s order.links input site) live told

-- what is written of the retrieval is the text of its ending
pub ends_output : (words : List (List ℕ)) (known : Option (List ℕ)) (order : Order) (text : List ℕ) (status : ℕ) → order_of words ≡ Ok (ordered_by order)
    → IsOutput (IsDescribedBy order.source order.links) order known text status
    → (ending : Ending) × EndsFor words known ending × (text ≡ ending_text ending) × (status ≡ ending_status ending)
ends_output words known order text status says (site, (input, is, within, told), output) = (
  Ended (trace_text output.shown) output.finish,
  (input, is, (order, (says, told_not_live order known text status (site, (input, is, within, told), output)), output.shown, refl, (within, site, told, output.finishes))),
  output.text_is,
  output.status_is,
)

-- what is delivered of an ending's text is the ending's
delivered : (before after : Option (List ℕ)) (text : List ℕ) (wanted status : ℕ) (ending : Ending) → text ≡ ending_text ending → wanted ≡ ending_status ending → IsDelivered before after text wanted status
    → IsDelivered before after (ending_text ending) (ending_status ending) status
delivered before after text wanted status ending is is_status told =
    subst (λ (n : ℕ). IsDelivered before after (ending_text ending) n status) is_status (subst (λ (t : List ℕ). IsDelivered before after t wanted status) is told)

pub runs_output : (words : List (List ℕ)) (known before after : Option (List ℕ)) (order : Order) (text : List ℕ) (wanted status : ℕ) → order_of words ≡ Ok (ordered_by order)
    → IsOutput (IsDescribedBy order.source order.links) order known text wanted → IsDelivered before after text wanted status → Runs words known before after status
runs_output words known before after order text wanted status says output told =
    let (ending, ends, is, is_status) = ends_output words known order text wanted says output in
    record { ending = ending; ends = ends; written = delivered before after text wanted status ending is is_status told }

-- the line of a fault is that of a run that ends with it
pub runs_refused : (words : List (List ℕ)) (known before after : Option (List ℕ)) (wrong : Fault) (status : ℕ) → EndsFor words known (Failed wrong) → IsFaultDelivered before after wrong status
    → Runs words known before after status
runs_refused words known before after wrong status ends (inl told) = record { ending = Failed wrong; ends = ends; written = told }
runs_refused words known before after wrong status ends (inr told) = record { ending = Failed fault.Memory; ends = ends_memory words known; written = told }

-- ---- by the order

-- what is found of a site, without the events
found_of : (order : Order) (site : RecordedAnswers) (shown : List Event) (finish : Finish) → Finishes order site shown finish → IsFoundOf order site finish
found_of order site shown (Retrieved lines) (are, named, events) = (are, named)
found_of order site shown (Stopped cause.Full) (many, events) = many
found_of order site shown (Stopped cause.Memory) finishes = tt
found_of order site shown (Stopped cause.Mismatch) (several, none) = several
found_of order site shown (Stopped cause.Quota) never = never

-- no events are shown that aren't ordered
unshown : (b : Bool) (AreSuch : List Event → Type 0) (shown : List Event) → AreShown b AreSuch shown → b ≡ false → shown ≡ []
unshown true AreSuch shown are is = (let other : true ≡ false = is in cc)
unshown false AreSuch shown are is = are

none_unordered : (order : Order) (site : RecordedAnswers) (shown : List Event) (finish : Finish) → Finishes order site shown finish → order.trace ≡ false → shown ≡ []
none_unordered order site shown (Retrieved lines) (are, named, events) = unshown order.trace (AreEventsOf order.workers order.plan (whole_of site) IsQuiet) shown events
none_unordered order site shown (Stopped cause.Full) (many, events) = unshown order.trace (AreEventsOf order.workers order.plan (whole_of site) (HasStopped cause.Full)) shown events
none_unordered order site shown (Stopped cause.Memory) (inl none) = λ is. none
none_unordered order site shown (Stopped cause.Memory) (inr events) = unshown order.trace (AreEventsOf order.workers order.plan (whole_of site) (HasStopped cause.Memory)) shown events
none_unordered order site shown (Stopped cause.Mismatch) (several, none) = λ is. none
none_unordered order site shown (Stopped cause.Quota) never = absurd never

module _ (form : Form) (order : Order) (known before after : Option (List ℕ)) where
  finds_output : (text : List ℕ) (wanted status : ℕ) → IsOutput form.describes order known text wanted → IsDelivered before after text wanted status → FindsIn form order known before after status
  finds_output text wanted status (site, describes, output) told = record {
    ending = Ended (trace_text output.shown) output.finish;
    ends = (
      (λ off. ap (λ (events : List Event). trace_text events) (none_unordered order site output.shown output.finish output.finishes off)),
      site,
      describes,
      found_of order site output.shown output.finish output.finishes,
    );
    written = delivered before after text wanted status (Ended (trace_text output.shown) output.finish) output.text_is output.status_is told;
  }

  finds_fault : (wrong : Fault) (status : ℕ) → EndsInFault form.has_fault known wrong → IsFaultDelivered before after wrong status → FindsIn form order known before after status
  finds_fault wrong status describes (inl told) = record { ending = Failed wrong; ends = describes; written = told }
  finds_fault wrong status describes (inr told) = record { ending = Failed fault.Memory; ends = tt; written = told }

-- the form that is read, by the source
abbrev form_by : Source → LinkRules → Form
form_by s links = record { describes = IsDescribedBy s links; has_fault = IsWrongBy s links }

-- the same by the order's source
pub finds_told : (s : Source) (order : Order) (known before after : Option (List ℕ)) (text : List ℕ) (wanted status : ℕ) → order.source ≡ s
    → IsOutput (IsDescribedBy order.source order.links) order known text wanted → IsDelivered before after text wanted status
    → FindsIn (form_by s order.links) order known before after status
finds_told s order known before after text wanted status is output told =
    finds_output (form_by s order.links) order known before after text wanted status
    (subst (λ (x : Source). IsOutput (IsDescribedBy x order.links) order known text wanted) is output) told

pub finds_unfit : (s : Source) (order : Order) (known before after : Option (List ℕ)) (wrong : Fault) (status : ℕ) → order.source ≡ s → (s ≢ source.Live) → IsUnfit order known wrong
    → IsFaultDelivered before after wrong status → FindsIn (form_by s order.links) order known before after status
finds_unfit s order known before after wrong status is other (inl (live, none)) told = absurd (other (sym is ∙ live))
finds_unfit s order known before after wrong status is other (inr (not, describes)) told =
    finds_fault (form_by s order.links) order known before after wrong status
    (subst (λ (x : Source). EndsInFault (IsWrongBy x order.links) known wrong) is describes) told
