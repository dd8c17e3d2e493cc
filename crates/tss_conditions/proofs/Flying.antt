-- What ready, link and bye find follows from the laws.
use Rattle.std.proofs.Common.{◌≡◌, ℕ, Bool, true, false, length, Option, Some, None, refl, sym, ap, ◌∙◌, arith}
use Rattle.std.proofs.Common.{true≢false}
use Rattle.std.specs.Prelude.{slice_get, is_some}
use Rattle.std.specs.FinMap.{get}
use Rattle.std.proofs.lemmas.Option.{same_Some}
use Rattle.tss_base.specs.declared.operand.OpName.{OpName}
use Rattle.tss_base.specs.declared.machine.Machine.{Machine}
use Rattle.tss_base.specs.declared.event.Event.TheVariants as event
use Rattle.tss_protocol.specs.Mail.{Source}
use Rattle.tss_protocol.specs.State.{State, OperandState, Flying}
use Rattle.tss_protocol.specs.Stations.{operand_at, is_complete, after_ready}
use Rattle.tss_protocol.specs.Counts.{all_slots}
use Rattle.tss_protocol.specs.UnitMachine.{is_enabled, IsEnabled, after_event, without, ready_message_taken, queue_with}
use Rattle.tss_phases.specs.Phase.{look_ups}
use Rattle.tss_phases.proofs.Records.{task_of_record}
use Rattle.tss_phases.proofs.PhaseLemmas.{phase_leaving}
use Rattle.tss_phases.proofs.OrderlyLemmas.{telling_stands, leaving_stands}
use Rattle.tss_control.specs.Runners.{is_late}
use Rattle.tss_control.proofs.rounds.Facts.{Facts}
use Rattle.tss_control.proofs.GroundworkControl.{sizes_of_runs}
use Rattle.tss_control.proofs.holders.Order.{ready_in}
use Rattle.tss_conditions.specs.Flying.{IsInFlight, ReadyLaw, LinkLaw, IsParting, ByeLaw}
use Rattle.tss_conditions.proofs.Known.{reached_after, facts_reached}
use Rattle.tss_conditions.proofs.Taking.{queued_more}

module _ (m : Machine) (S : State) (facts : Facts m S) where
  open facts use {ground, control as h}

  -- a record is that of an operand in flight
  abbrev flies_with : (o : OpName) (r : OperandState) → operand_at S.flight o ≡ Some r → IsInFlight S o
  flies_with o r e =
      let x = task_of_record S.flight o r e in
      record {
        flying = x.0;
        there = x.1;
        number = (ground.numbers.flight o.task x.0 x.1).number;
        operand = r;
        place = x.2;
      }

  -- a task with an operand that was told nothing isn't complete
  incomplete : (x : Flying) (k : ℕ) (r : OperandState) → slice_get x.operands k ≡ Some r → r.source ≡ None
      → is_complete x ≡ false
  incomplete x k r at untold = by (is_complete x) refl
    where
      by : (b : Bool) → is_complete x ≡ b → is_complete x ≡ false
      by false e = e
      by true e =
          absurd (true≢false (sym (ready_in x.operands k r e at) ∙ ap (λ (s : Option Source). is_some s) untold))

  link_of : (o next : OpName) → get S.mail.links o ≡ Some next → IsInFlight S o
  link_of o next e = let r = h.holders.records o next e in flies_with o r.0 r.1

  bye_of : (o : OpName) (promised : Bool) → get S.mail.byes o ≡ Some promised → IsParting S o
  bye_of o promised e =
      let l = look_ups S o in
      let stands = leaving_stands l promised (h.orderly o) e in
      let k = stands.1.0.1 in
      let s = stands.0 in
      let leaving = phase_leaving l promised s.decoding s.opening s.using s.telling s.releasing e in
      let late = h.holders.runners.late o k.kept k.there (ap is_late leaving) in
      let x = task_of_record S.flight o k.kept k.there in
      record {
        flies = flies_with o k.kept k.there;
        finished = ap (λ (x : Flying). x.stage) (same_Some x.0 late.0 (sym x.1 ∙ late.1)) ∙ late.2;
        source = stands.1.0.0;
        told = k.told;
        stays = k.stays;
      }

-- ---- room in the queue

module _ (m : Machine) (S : State) (o : OpName) (s : Source) (there : get S.mail.readies o ≡ Some s) where
  queue_readied : (after_event m S (event.Ready o)).queue
      ≡ queue_with S.queue o.task (after_ready S.flight o s).queued
  unfolding after_event
  queue_readied = ap (λ x. (ready_message_taken (without S (event.Ready o)) o x).queue) there

  ready_on : IsEnabled m S (event.Ready o)
  unfolding is_enabled
  ready_on = ap is_some there

pub ready_tells : ReadyLaw
ready_tells m i S o s r there =
    let facts = facts_reached m i S r in
    let k = (telling_stands (look_ups S o) s (facts.control.orderly o) there).1.0 in
    let x = task_of_record S.flight o k.kept k.there in
    let next = reached_after m i S (event.Ready o) r (ready_on m S o s there) in
    let T = after_event m S (event.Ready o) in
    let ready = (sizes_of_runs m i next.reachable.0 T r.accepted r.admissible next.reachable.1).ready in
    let queue = ap length (queue_readied m S o s there) in
    record {
      flies = flies_with m S facts o k.kept k.there;
      untold = k.told;
      stays = k.stays;
      waits = (facts.ground.stages.waiting o.task x.0 x.1).1 (incomplete m S facts x.0 o.place k.kept x.2 k.told);
      queue = queued_more S.queue o.task (after_ready S.flight o s).queued (all_slots m) (omega (arith, ready, queue));
    }

pub link_flies : LinkLaw
link_flies m i S o next r there = link_of m S (facts_reached m i S r) o next there

pub bye_parts : ByeLaw
bye_parts m i S o promised r there = bye_of m S (facts_reached m i S r) o promised there
