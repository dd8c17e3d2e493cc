-- Events that change nothing of which readers speak: ack, start, exec, idle, copy and gone.
use Rattle.std.proofs.Common.{◌≡◌, ℕ, List, ap}
use Rattle.tss_base.specs.declared.operand.OpName.{OpName}
use Rattle.tss_base.specs.declared.operand.Task.{Task}
use Rattle.tss_base.specs.declared.machine.Machine.{Machine}
use Rattle.tss_base.specs.declared.event.Event.TheVariants as event
use Rattle.tss_protocol.specs.State.{State}
use Rattle.tss_protocol.specs.UnitMachine.{after_event}
use Rattle.tss_phases.specs.Phase.{look_ups, phase_at}
use Rattle.tss_phases.proofs.QuietEvents.{look_ups-ack, look_ups-exec, look_ups-idle, look_ups-copy, look_ups-gone}
use Rattle.tss_phases.proofs.StartEvent.{look_ups-start}
use Rattle.tss_locality.proofs.LeftFields.{Leaves-after_event}
use Rattle.tss_control.specs.Readers.{Arrivals, HasReaders}
use Rattle.tss_control.proofs.rounds.ReadersStates.{SameLinks, HasReaders-same}
use Rattle.tss_control.proofs.readers.Links.{links-ack, links-start, links-exec, links-idle, links-copy, links-gone}

-- the same versions, links and look-ups
same_links : (S T : State) → T.versions ≡ S.versions → T.mail.links ≡ S.mail.links
    → ((q : OpName) → look_ups T q ≡ look_ups S q) → SameLinks S T
same_links S T versions links looked = record {
  versions = versions;
  links = links;
  flight = λ a. λ i. (looked a i).station;
  phases = λ a. ap phase_at (looked a);
}

module _ (m : Machine) (ts : List Task) (g : Arrivals) (S : State) (h : HasReaders ts g S) where
  -- ack
  pub HasReaders-ack : (o : OpName) → HasReaders ts g (after_event m S (event.Ack o))
  HasReaders-ack o =
      let T = after_event m S (event.Ack o) in
      HasReaders-same ts g S T (same_links S T (λ i. (Leaves-after_event m S (event.Ack o) i).versions)
      (links-ack m S o) (look_ups-ack m S o)) h

  -- start
  pub HasReaders-start : (w : ℕ) → HasReaders ts g (after_event m S (event.Start w))
  HasReaders-start w =
      let T = after_event m S (event.Start w) in
      HasReaders-same ts g S T (same_links S T (λ i. (Leaves-after_event m S (event.Start w) i).versions)
      (links-start m S w) (look_ups-start m S w)) h

  -- exec
  pub HasReaders-exec : (w : ℕ) → HasReaders ts g (after_event m S (event.Exec w))
  HasReaders-exec w =
      let T = after_event m S (event.Exec w) in
      HasReaders-same ts g S T (same_links S T (λ i. (Leaves-after_event m S (event.Exec w) i).versions)
      (links-exec m S w) (look_ups-exec m S w)) h

  -- idle
  pub HasReaders-idle : (v : OpName) → HasReaders ts g (after_event m S (event.Idle v))
  HasReaders-idle v =
      let T = after_event m S (event.Idle v) in
      HasReaders-same ts g S T (same_links S T (λ i. (Leaves-after_event m S (event.Idle v) i).versions)
      (links-idle m S v) (look_ups-idle m S v)) h

  -- copy
  pub HasReaders-copy : (b : ℕ) → HasReaders ts g (after_event m S (event.Copy b))
  HasReaders-copy b =
      let T = after_event m S (event.Copy b) in
      HasReaders-same ts g S T (same_links S T (λ i. (Leaves-after_event m S (event.Copy b) i).versions)
      (links-copy m S b) (look_ups-copy m S b)) h

  -- gone
  pub HasReaders-gone : (v : OpName) → HasReaders ts g (after_event m S (event.Gone v))
  HasReaders-gone v =
      let T = after_event m S (event.Gone v) in
      HasReaders-same ts g S T (same_links S T (λ i. (Leaves-after_event m S (event.Gone v) i).versions)
      (links-gone m S v) (look_ups-gone m S v)) h
