-- Every run is controlled.
use Rattle.std.proofs.Common.{List}
use Rattle.tss_base.specs.declared.machine.Machine.{Machine}
use Rattle.tss_base.specs.declared.event.Event.{Event}
use Rattle.tss_base.specs.Image.{ImageState}
use Rattle.tss_protocol.specs.State.{State, initial_state}
use Rattle.tss_protocol.specs.Needs.{round_of}
use Rattle.tss_protocol.specs.Run.{IsRun}
use Rattle.tss_control.specs.Readers.{arrivals_from, no_arrivals}
use Rattle.tss_control.specs.Control.{IsControlled}
use Rattle.tss_control.specs.Controlled.{RoundLaw, ControlLaw, OneMessageLaw}
use Rattle.tss_program_order.specs.Refinement.{SizesLaw}
use Rattle.tss_names.specs.Tasks.{spawned_tasks}
use Rattle.tss_names.proofs.TableLemmas.{tables_of_runs}
use Rattle.tss_names.proofs.MessageLemmas.{messages_of_runs}
use Rattle.tss_control.proofs.rounds.MessageCounts.{few_messages, few_ready}
use Rattle.tss_control.proofs.GroundworkRuns.{HasGroundwork-Run}
use Rattle.tss_control.proofs.holders.KeepsOrder.{keeps_order}
use Rattle.tss_control.proofs.ChainsEvents.{keeps_chains}
use Rattle.tss_control.proofs.EntriesEvents.{keeps_entries, keeps_retirement}
use Rattle.tss_control.proofs.ReadersEvents.{keeps_readers}
use Rattle.tss_control.proofs.HoldersEvents.{keeps_holders}
use Rattle.tss_control.proofs.GroundworkJoin.{AreGroupsKept, controlled_of_runs}
use Rattle.tss_control.proofs.rounds.Facts.{Facts, facts_of}

-- each event keeps each group
pub keeps_groups : (e : Event) → AreGroupsKept e
keeps_groups e = record {
  order = λ m S facts on. keeps_order m S facts e;
  chains = λ m S facts. keeps_chains m S facts e;
  entries = λ m S facts. keeps_entries m S facts e;
  retirement = λ m S facts. keeps_retirement m S facts e;
  readers = λ m S facts. keeps_readers m S facts e;
  holders = λ m S facts. keeps_holders m S facts e;
}

-- so every run is controlled
pub IsControlled-Run : (m : Machine) (i : ImageState) (es : List Event) (S : State) → IsRun m i es S
    → IsControlled (round_of m (initial_state i) es) (arrivals_from m (initial_state i) no_arrivals es) S
IsControlled-Run = controlled_of_runs keeps_groups

-- what lemmas need of its state
abbrev pub Facts-Run : (m : Machine) (i : ImageState) (es : List Event) (S : State) → IsRun m i es S → Facts m S
Facts-Run m i es S run =
    facts_of m (spawned_tasks m i es) (round_of m (initial_state i) es)
    (arrivals_from m (initial_state i) no_arrivals es) S (HasGroundwork-Run m i es S run)
    (IsControlled-Run m i es S run)

-- ---- laws

-- the round is known
pub round_of_runs : RoundLaw
round_of_runs m i es S accepted admissible run = (HasGroundwork-Run m i es S run).known

-- the state is controlled
pub control_of_runs : ControlLaw
control_of_runs m i es S accepted admissible run = IsControlled-Run m i es S run

-- no operand has two messages
pub one_message_of_runs : OneMessageLaw
one_message_of_runs m i es S accepted admissible run o = ((IsControlled-Run m i es S run).orderly o).alone

-- the counts stay within their sizes
pub sizes_of_runs : SizesLaw
sizes_of_runs m i es S accepted admissible run =
    let facts = Facts-Run m i es S run in
    let tables = tables_of_runs m i es S accepted admissible run in
    let bounds = messages_of_runs m i es S accepted admissible run in
    record {
      messages = few_messages m i es S facts bounds;
      slots = tables.slots;
      ready = few_ready m i es S facts bounds;
      workers = tables.workers;
      entries = tables.entries;
      versions = tables.versions;
      buffers = tables.buffers;
    }
