-- Operands stay in order where one is ready, is linked or says farewell, and where a task finishes.
use Rattle.std.proofs.Common.{◌≡◌, ◌≢◌, Bool, true, false, Some, None, refl, sym, ◌∙◌, subst, inl, inr}
use Rattle.std.specs.Prelude.{◌&&◌, not, if◌then◌else◌}
use Rattle.std.specs.FinMap.{get}
use Rattle.tss_base.specs.declared.operand.OpName.{OpName}
use Rattle.tss_base.specs.declared.machine.Machine.{Machine}
use Rattle.tss_base.specs.declared.event.Event.TheVariants as event
use Rattle.tss_base.specs.declared.marks.Farewell.{Farewell}
use Rattle.tss_base.specs.declared.marks.Farewell.TheVariants as farewell
use Rattle.tss_maps.proofs.Keys.{nat_order, decide_key}
use Rattle.tss_protocol.specs.Mail.{Source}
use Rattle.tss_protocol.specs.State.{State, OperandState, Flying}
use Rattle.tss_protocol.specs.Stations.{operand_at, has_passed, operand_after_ready, operand_after_bye, remaining_tasks}
use Rattle.tss_protocol.specs.Stations.{sent_by_ready, sent_by_link}
use Rattle.tss_protocol.specs.UnitMachine.{after_event}
use Rattle.tss_phases.specs.Phase.{Told, LookUps, look_ups}
use Rattle.tss_phases.specs.Alone.{IsSilent}
use Rattle.tss_phases.specs.Orderly.{IsOrderly, AreOrderly, TellWaiting}
use Rattle.tss_phases.proofs.News.{untold}
use Rattle.tss_phases.proofs.PhaseLemmas.{phase_telling, same_station, silent_station}
use Rattle.tss_phases.proofs.ToldPhases.{not_told}
use Rattle.tss_phases.proofs.LeavingTasks.{remaining_beside}
use Rattle.tss_phases.proofs.ReadyEvent.{news_ready, look_ups-ready-own, look_ups-ready-other}
use Rattle.tss_phases.proofs.LinkEvent.{news_link, linked_task, look_ups-link, link_untold, linked_record}
use Rattle.tss_phases.proofs.LinkEvent.{linked_record_other, link_station_other}
use Rattle.tss_phases.proofs.ByeEvent.{parted_task, look_ups-bye-own, look_ups-bye-other, parted_record}
use Rattle.tss_phases.proofs.ByeEvent.{parted_record_other}
use Rattle.tss_phases.proofs.OrderlyLemmas.{orderly_ready, orderly_promised, orderly_left, orderly_news, telling_stands}
use Rattle.tss_phases.proofs.OrderlyLemmas.{leaving_stands, taken_by_record, at_and_beside}
use Rattle.tss_phases.proofs.OrderlyRecords.{orderly_remaining, orderly_linked}

-- ---- ready

module _ (m : Machine) (S : State) (o : OpName) (source : Source) (there : get S.mail.readies o ≡ Some source)
    (orderly : AreOrderly S)
    (waits : (r : OperandState) → operand_at S.flight o ≡ Some r → TellWaiting S (sent_by_ready r.link source)) where
  ready_own : IsOrderly (look_ups (after_event m S (event.Ready o)) o)
  ready_own =
      let stands = telling_stands (look_ups S o) source (orderly o) there in
      let s = stands.0 in
      let h = stands.1.0 in
      let r = h.kept in
      let k = operand_after_ready r source in
      let l : LookUps = record (look_ups S o) { telling = None; station = Some k } in
      let before = phase_telling (look_ups S o) source s.decoding s.opening s.using there in
      let silent = not_told (sent_by_ready r.link source) o (look_ups S o) Told before (λ e. cc) (waits r h.there o) in
      subst IsOrderly
      (sym (look_ups-ready-own m S o source r there h.there
      ∙ untold (sent_by_ready r.link source) o l (news_ready r.link source) silent))
      (orderly_ready l (silent_station (record (look_ups S o) { telling = None }) (Some k) s)
      ((source, record { kept = k; there = refl; told = refl; stays = h.stays }), stands.1.1))

  -- ready
  pub orderly-ready : AreOrderly (after_event m S (event.Ready o))
  orderly-ready =
      let h = (telling_stands (look_ups S o) source (orderly o) there).1.0 in
      let r = h.kept in
      at_and_beside (λ q. IsOrderly (look_ups (after_event m S (event.Ready o)) q)) o ready_own
      (λ q apart. subst IsOrderly (sym (look_ups-ready-other m S o source r there h.there q apart))
      (orderly_news (sent_by_ready r.link source) q (look_ups S q) (orderly q) (news_ready r.link source)
      (waits r h.there q)))

-- ---- link

module _ (m : Machine) (S : State) (o next : OpName) (r : OperandState) (there : get S.mail.links o ≡ Some next)
    (kept : operand_at S.flight o ≡ Some r) (orderly : AreOrderly S)
    (waits : TellWaiting S (sent_by_link r.source next)) where
  -- the task with the linked operand
  abbrev task_linked : Flying
  task_linked = linked_task m S o next r there kept

  linked_own : IsOrderly (look_ups (after_event m S (event.Link o)) o)
  linked_own =
      let ms = sent_by_link r.source next in
      let k = operand_at (remaining_tasks S.flight o.task task_linked) o in
      subst IsOrderly
      (sym (look_ups-link m S o next r there kept o
      ∙ untold ms o (record (look_ups S o) { station = k }) (news_link r.source next)
      (link_untold m S o next r there kept (waits o))))
      (orderly_remaining S.flight o.task task_linked o (look_ups S o) refl
      (subst (λ k. IsOrderly (record (look_ups S o) { station = k })) (sym (linked_record m S o next r there kept))
      (orderly_linked (look_ups S o) r next kept (orderly o))))

  linked_station_orderly : (q : OpName) → q ≢ o
      → IsOrderly (record (look_ups S q) { station = operand_at (remaining_tasks S.flight o.task task_linked) q })
  linked_station_orderly q apart = elim (decide_key nat_order q.task o.task) [
    | inl same ↦ orderly_remaining S.flight o.task task_linked q (look_ups S q) same
        (subst (λ k. IsOrderly (record (look_ups S q) { station = k }))
        (sym (linked_record_other m S o next r there kept q apart same)) (orderly q))
    | inr other ↦ subst (λ k. IsOrderly (record (look_ups S q) { station = k }))
        (sym (remaining_beside S.flight o.task task_linked q other)) (orderly q)
  ]

  linked_other : (q : OpName) → q ≢ o → IsOrderly (look_ups (after_event m S (event.Link o)) q)
  linked_other q apart =
      let ms = sent_by_link r.source next in
      let k = operand_at (remaining_tasks S.flight o.task task_linked) q in
      let taken = taken_by_record (look_ups S o) r (orderly o) kept in
      let same = same_station (look_ups S q) k (link_station_other m S o next r there kept taken q apart) in
      subst IsOrderly (sym (look_ups-link m S o next r there kept q))
      (orderly_news ms q (record (look_ups S q) { station = k }) (linked_station_orderly q apart)
      (news_link r.source next) (λ t. same ∙ waits q t))

  -- link
  pub orderly-link : AreOrderly (after_event m S (event.Link o))
  orderly-link =
      at_and_beside (λ q. IsOrderly (look_ups (after_event m S (event.Link o)) q)) o linked_own linked_other

-- ---- bye

module _ (m : Machine) (S : State) (o : OpName) (promised : Bool) (there : get S.mail.byes o ≡ Some promised)
    (orderly : AreOrderly S) where
  parted_state : (l : LookUps) (r : OperandState) (s : Source) (f : Farewell) (b : Bool) → IsSilent l
      → r.source ≡ Some s → l.ahead ≡ false → f ≡ (if b then farewell.Promised else farewell.Left)
      → IsOrderly (record l { station = Some (record r { farewell = f }) })
  parted_state l r s f true silent told taken e =
      orderly_promised (record l { station = Some (record r { farewell = f }) }) (record r { farewell = f }) s
      (silent_station l (Some (record r { farewell = f })) silent) refl e told taken
  parted_state l r s f false silent told taken e =
      orderly_left (record l { station = Some (record r { farewell = f }) }) (record r { farewell = f }) s
      (silent_station l (Some (record r { farewell = f })) silent) refl e told taken

  parted_own : IsOrderly (look_ups (after_event m S (event.Bye o)) o)
  parted_own =
      let stands = leaving_stands (look_ups S o) promised (orderly o) there in
      let h = stands.1.0.1 in
      let r = h.kept in
      let l : LookUps = record (look_ups S o) { leaving = None } in
      let y = parted_task m S o promised r there h.there in
      let k = operand_after_bye r promised in
      subst IsOrderly (sym (look_ups-bye-own m S o promised r there h.there))
      (orderly_remaining S.flight o.task y o l refl
      (subst (λ k. IsOrderly (record l { station = k })) (sym (parted_record m S o promised r there h.there))
      (parted_state l r stands.1.0.0 k.farewell (promised && not (has_passed r.link)) stands.0 h.told stands.1.1 refl)))

  parted_other : (q : OpName) → q ≢ o → IsOrderly (look_ups (after_event m S (event.Bye o)) q)
  parted_other q apart =
      let h = (leaving_stands (look_ups S o) promised (orderly o) there).1.0.1 in
      let r = h.kept in
      let y = parted_task m S o promised r there h.there in
      subst IsOrderly (sym (look_ups-bye-other m S o promised r there h.there q apart))
      (elim (decide_key nat_order q.task o.task) [
        | inl same ↦ orderly_remaining S.flight o.task y q (look_ups S q) same
            (subst (λ k. IsOrderly (record (look_ups S q) { station = k }))
            (sym (parted_record_other m S o promised r there h.there q apart same)) (orderly q))
        | inr other ↦ subst (λ k. IsOrderly (record (look_ups S q) { station = k }))
            (sym (remaining_beside S.flight o.task y q other)) (orderly q)
      ])

  -- bye
  pub orderly-bye : AreOrderly (after_event m S (event.Bye o))
  orderly-bye =
      at_and_beside (λ q. IsOrderly (look_ups (after_event m S (event.Bye o)) q)) o parted_own parted_other
