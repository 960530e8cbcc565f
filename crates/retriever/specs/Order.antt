-- What the words of a run order of a site that its input describes, or what is wrong with them.
use Rattle.std.specs.Prelude.{◌≡◌, ◌≢◌, ◌⊎◌, ℕ, List, Ok, Err}
use Rattle.options.specs.Asked.{without_kind}
use Rattle.options.specs.Order.{Ordered, order_of, ordered_by, seeks_in}
use Rattle.options.specs.Sought.{IsUnsaid}
use Rattle.options.specs.declared.order.Order.{Order}
use Rattle.options.specs.declared.order.Source.TheVariants as source
use Rattle.retriever.specs.declared.fault.Fault.{Fault}
use Rattle.retriever.specs.declared.fault.Fault.TheVariants as fault

-- the words order exactly this, of a site that isn't on the network
abbrev pub IsInputOrder : List (List ℕ) → Order → Type 0
IsInputOrder words order = (order_of words ≡ Ok (ordered_by order)) × (order.source ≢ source.Live)

-- the words order something of a site that the input describes
abbrev pub AreForInput : List (List ℕ) → Type 0
AreForInput words = (order : Order) × IsInputOrder words order

-- the words order exactly this, of a site on the network
abbrev pub IsLiveOrder : List (List ℕ) → Order → Type 0
IsLiveOrder words order = (order_of words ≡ Ok (ordered_by order)) × (order.source ≡ source.Live)

-- the words order something of a site on the network
abbrev pub AreForLive : List (List ℕ) → Type 0
AreForLive words = (ordered : Ordered) × (order_of words ≡ Ok ordered) × (ordered.source ≡ source.Live)

-- the fault is the one of the words, unless memory ran out or an expression would cost too much
abbrev pub IsRefused : List (List ℕ) → Fault → Type 0
IsRefused words (fault.Line wrong) = (order_of words ≡ Err (without_kind wrong)) ⊎ IsUnsaid (seeks_in words) wrong
IsRefused words fault.NoSite = AreForLive words
IsRefused words _ = ⊥
