-- The join of the groups: where each event keeps each group, every run is controlled.
use Rattle.std.proofs.Common.{List}
use Rattle.tss_base.specs.declared.operand.Task.{Task}
use Rattle.tss_base.specs.declared.machine.Machine.{Machine}
use Rattle.tss_base.specs.declared.event.Event.{Event}
use Rattle.tss_base.specs.Image.{ImageState}
use Rattle.tss_protocol.specs.State.{State, initial_state}
use Rattle.tss_protocol.specs.UnitMachine.{IsEnabled, after_event}
use Rattle.tss_protocol.specs.Needs.{round_after_event, round_of}
use Rattle.tss_protocol.specs.Run.{IsRun}
use Rattle.tss_phases.specs.Orderly.{KeepsOrder}
use Rattle.tss_phases.proofs.OrderlyEvents.{orderly-after_event, orderly_at_first}
use Rattle.tss_control.specs.Chains.{HasChains}
use Rattle.tss_control.specs.Entries.{HasEntries, HasRetirement}
use Rattle.tss_control.specs.Readers.{Arrivals, arrivals_after_event, arrivals_from, no_arrivals, HasReaders}
use Rattle.tss_control.specs.Holders.{HasHolders}
use Rattle.tss_control.specs.Control.{IsControlled}
use Rattle.tss_control.proofs.GroundworkRuns.{ground_of_runs}
use Rattle.tss_control.proofs.GroundworkEmpty.{IsControlled-bare, IsBare-initial_state}
use Rattle.tss_control.proofs.rounds.Facts.{Facts, facts_of}

-- what a group says of a round, of those that have come, and of a state
abbrev GroupFact : Type 1
GroupFact = List Task → Arrivals → State → Type 0

-- the event keeps the group in this state, where it keeps operands in order
abbrev pub IsKept : (m : Machine) (S : State) → Facts m S → Event → GroupFact → Type 0
IsKept m S facts e X =
    IsEnabled m S e
    → KeepsOrder S e
    → X (round_after_event m S facts.ts e) (arrivals_after_event S facts.g e) (after_event m S e)

-- and in each controlled state
abbrev IsGroupKept : Event → GroupFact → Type 0
IsGroupKept e X = (m : Machine) (S : State) (facts : Facts m S) → IsKept m S facts e X

-- the event keeps each group, and operands in order
pub record AreGroupsKept (e : Event) : Type 0 where
  pub order : (m : Machine) (S : State) → Facts m S → IsEnabled m S e → KeepsOrder S e
  pub chains : IsGroupKept e (λ ts g S. HasChains ts S)
  pub entries : IsGroupKept e (λ ts g S. HasEntries ts S)
  pub retirement : IsGroupKept e (λ ts g S. HasRetirement S)
  pub readers : IsGroupKept e HasReaders
  pub holders : IsGroupKept e HasHolders

-- then the state after it is controlled
pub IsControlled-event : (e : Event) → AreGroupsKept e → IsGroupKept e IsControlled
IsControlled-event e k m S facts on order = record {
  orderly = orderly-after_event m S facts.control.orderly e on order;
  chains = k.chains m S facts on order;
  entries = k.entries m S facts on order;
  retirement = k.retirement m S facts on order;
  readers = k.readers m S facts on order;
  holders = k.holders m S facts on order;
}

-- so where each event does, every run is controlled
pub controlled_of_runs : ((e : Event) → AreGroupsKept e)
    → (m : Machine) (i : ImageState) (es : List Event) (S : State) → IsRun m i es S
    → IsControlled (round_of m (initial_state i) es) (arrivals_from m (initial_state i) no_arrivals es) S
controlled_of_runs kept m i es S run =
    (ground_of_runs (λ m all ts g S. IsControlled ts g S) (λ m all ts g S e ground h on.
    let facts = facts_of m all ts g S ground h in
    IsControlled-event e (kept e) m S facts on ((kept e).order m S facts on))
    (λ m i. IsControlled-bare (initial_state i) (IsBare-initial_state i) no_arrivals (orderly_at_first i))
    m i es S run).1
