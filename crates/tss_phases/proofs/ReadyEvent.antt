-- What a ready does to phases: its operand goes from told to ready, and with a held link the next one is told.
use Rattle.std.proofs.Common.{◌≡◌, ◌≢◌, true, false, cond, Some, None, refl, sym, ap, ◌∙◌, inl, inr}
use Rattle.std.specs.Prelude.{◌||◌, slice_get}
use Rattle.std.specs.FinMap.{get, insert}
use Rattle.tss_base.specs.declared.operand.OpName.{OpName}
use Rattle.tss_base.specs.declared.machine.Machine.{Machine}
use Rattle.tss_base.specs.declared.event.Event.TheVariants as event
use Rattle.tss_base.specs.declared.marks.LinkState.{LinkState}
use Rattle.tss_base.specs.declared.marks.LinkState.TheVariants as link
use Rattle.tss_base.specs.declared.marks.Farewell.TheVariants as farewell
use Rattle.tss_maps.proofs.Keys.{nat_order, decide_key}
use Rattle.tss_protocol.specs.Names.{same_name}
use Rattle.tss_protocol.specs.Mail.{Source}
use Rattle.tss_protocol.specs.State.{State, OperandState, Flying}
use Rattle.tss_protocol.specs.Stations.{operand_at, operand_after_ready, task_after_ready, awaited, is_complete}
use Rattle.tss_protocol.specs.Stations.{sent_by_ready, Woken, woken_by, woken_in, after_ready}
use Rattle.tss_protocol.specs.UnitMachine.{after_event, without, queue_with, ready_message_taken}
use Rattle.tss_phases.specs.Phase.{Told, Ready, LookUps, look_ups, record_phase, phase_at, phase_of}
use Rattle.tss_phases.specs.Alone.{IsAlone}
use Rattle.tss_phases.specs.Told.{tells, phase_told, WaitsIfTold}
use Rattle.tss_phases.proofs.Received.{own_name, other_name, received_all, look_ups-sent, missing, missing_other}
use Rattle.tss_phases.proofs.Received.{look_ups-without}
use Rattle.tss_phases.proofs.News.{AreNews, untold}
use Rattle.tss_phases.proofs.PhaseLemmas.{phase_silent, phase_telling, silent_station}
use Rattle.tss_phases.proofs.AloneLemmas.{silent_but_telling}
use Rattle.tss_phases.proofs.SettlingLemmas.{name_from_test}
use Rattle.tss_phases.proofs.ToldPhases.{phase_news, not_told}
use Rattle.tss_phases.proofs.Records.{operand_in, task_of_record, record_put, record_beside_put, awaited_operands}
use Rattle.tss_phases.proofs.Records.{own_record, other_record}
use Rattle.tss_phases.proofs.Tests.{or_false}

-- ---- what a ready sends

-- it sends news
pub news_ready : (l : LinkState) (source : Source) → AreNews (sent_by_ready l source)
news_ready link.Nothing source = tt
news_ready (link.Held next) source = (tt, tt)
news_ready link.Passed source = tt

-- whom it tells: the next operand of a held link
pub ready_tells : (l : LinkState) (source : Source) (q : OpName) → tells (sent_by_ready l source) q ≡ true
    → l ≡ link.Held q
ready_tells link.Nothing source q e = absurd (cc)
ready_tells (link.Held next) source q e = ap link.Held (sym (name_from_test q next (or_false (same_name q next) e)))
ready_tells link.Passed source q e = absurd (cc)

-- and that one it tells
pub ready_tells_next : (l : LinkState) (source : Source) (q : OpName) → l ≡ link.Held q
    → tells (sent_by_ready l source) q ≡ true
ready_tells_next l source q e =
    ap (λ l. tells (sent_by_ready l source) q) e ∙ (λ i. own_name q i || false)

-- ---- what it does to phases

module _ (m : Machine) (S : State) (o : OpName) (source : Source) (r : OperandState)
    (there : get S.mail.readies o ≡ Some source) (kept : operand_at S.flight o ≡ Some r) where
  -- the task in flight that has the operand
  abbrev woken_task : Flying
  woken_task = (task_of_record S.flight o r kept).0

  woken : after_ready S.flight o source ≡ record {
    flight = insert S.flight o.task (awaited (task_after_ready woken_task o.place r source));
    sent = sent_by_ready r.link source;
    queued = is_complete (task_after_ready woken_task o.place r source);
  }
  woken =
      let t = task_of_record S.flight o r kept in
      ap (woken_in S.flight o source) t.1 ∙ ap (woken_by S.flight o source t.0) t.2

  -- what is looked up after a ready
  look_ups-ready : (q : OpName) → look_ups (after_event m S (event.Ready o)) q
      ≡ received_all (sent_by_ready r.link source) q (record (missing (event.Ready o) q (look_ups S q)) {
        station = operand_at (after_ready S.flight o source).flight q;
      })
  unfolding after_event
  look_ups-ready q =
      let T = without S (event.Ready o) in
      let w = after_ready S.flight o source in
      ap (λ x. look_ups (ready_message_taken T o x) q) there
      ∙ look_ups-sent (record T { flight = w.flight; queue = queue_with T.queue o.task w.queued }) w.sent q
      ∙ ap (λ (l : LookUps). received_all w.sent q (record l { station = operand_at w.flight q }))
      (look_ups-without S (event.Ready o) q)
      ∙ (λ i. received_all (woken i).sent q (record (missing (event.Ready o) q (look_ups S q)) {
        station = operand_at w.flight q;
      }))

  -- the operand's record
  pub ready_record : operand_at (after_ready S.flight o source).flight o ≡ Some (operand_after_ready r source)
  ready_record =
      let t = task_of_record S.flight o r kept in
      let y = task_after_ready t.0 o.place r source in
      ap (λ (w : Woken). operand_at w.flight o) woken
      ∙ record_put S.flight o.task (awaited y) o refl
      ∙ ap (λ rs. slice_get rs o.place) (awaited_operands y)
      ∙ own_record t.0 o (operand_after_ready r source) r t.2

  -- that of any other stays as it was
  pub ready_record_other : (q : OpName) → q ≢ o
      → operand_at (after_ready S.flight o source).flight q ≡ operand_at S.flight q
  ready_record_other q apart =
      let t = task_of_record S.flight o r kept in
      let y = task_after_ready t.0 o.place r source in
      ap (λ (w : Woken). operand_at w.flight q) woken
      ∙ elim (decide_key nat_order q.task o.task) [
        | inl same ↦ record_put S.flight o.task (awaited y) q same
            ∙ ap (λ rs. slice_get rs q.place) (awaited_operands y)
            ∙ other_record t.0 o (operand_after_ready r source) q apart same
            ∙ sym (operand_in S.flight q t.0 (ap (get S.flight) same ∙ t.1))
        | inr other ↦ record_beside_put S.flight o.task (awaited y) q other
      ]

  -- of its operand: the ready is gone, the record has what it was told, and it may be told again
  pub look_ups-ready-own : look_ups (after_event m S (event.Ready o)) o
      ≡ received_all (sent_by_ready r.link source) o (record (look_ups S o) {
        telling = None;
        station = Some (operand_after_ready r source);
      })
  look_ups-ready-own =
      look_ups-ready o
      ∙ (λ i. received_all (sent_by_ready r.link source) o (record (look_ups S o) {
        telling = cond (own_name o i) None (get S.mail.readies o);
        station = ready_record i;
      }))

  -- of another operand: it may be told
  pub look_ups-ready-other : (q : OpName) → q ≢ o → look_ups (after_event m S (event.Ready o)) q
      ≡ received_all (sent_by_ready r.link source) q (look_ups S q)
  look_ups-ready-other q apart =
      look_ups-ready q
      ∙ (λ i. received_all (sent_by_ready r.link source) q
      (record (missing_other (event.Ready o) q (look_ups S q) (other_name q o apart) i) {
        station = ready_record_other q apart i;
      }))

  -- before it, its operand is told
  pub told_before : IsAlone S o → phase_of S o ≡ Told
  told_before alone =
      let s = silent_but_telling (look_ups S o) source alone there in
      phase_telling (look_ups S o) source s.decoding s.opening s.using there

  -- after it, it is ready
  pub phase_of-ready : IsAlone S o → r.farewell ≡ farewell.Nothing
      → WaitsIfTold S (sent_by_ready r.link source) o → phase_of (after_event m S (event.Ready o)) o ≡ Ready
  phase_of-ready alone stays waits =
      let ms = sent_by_ready r.link source in
      let k = operand_after_ready r source in
      let l : LookUps = record (look_ups S o) { telling = None } in
      let silent = silent_but_telling (look_ups S o) source alone there in
      ap phase_at look_ups-ready-own
      ∙ ap phase_at (untold ms o (record l { station = Some k }) (news_ready r.link source)
      (not_told ms o (look_ups S o) Told (told_before alone) (λ e. cc) waits))
      ∙ phase_silent (record l { station = Some k }) (silent_station l (Some k) silent)
      ∙ ap (λ f. record_phase f (Some source)) stays

  -- another operand is told, or stays as it was
  pub phase_of-ready-other : (q : OpName) → q ≢ o → WaitsIfTold S (sent_by_ready r.link source) q
      → phase_of (after_event m S (event.Ready o)) q
      ≡ phase_told (tells (sent_by_ready r.link source) q) (phase_of S q)
  phase_of-ready-other q apart waits =
      let ms = sent_by_ready r.link source in
      ap phase_at (look_ups-ready-other q apart)
      ∙ phase_news ms q (look_ups S q) (news_ready r.link source) waits
