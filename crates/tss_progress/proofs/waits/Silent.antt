-- A state without messages: an operand in flight that isn't ready waits, and one whose task has finished or left has
-- released its version.
use Rattle.std.proofs.Common.{◌≡◌, Bool, true, false, Option, Some, None, refl, sym, ap, ◌∙◌, inl, inr, arith}
use Rattle.std.proofs.Common.{true≢false}
use Rattle.std.specs.Prelude.{◌==◌, not, is_some, nat_lt, slice_get}
use Rattle.std.specs.FinMap.{get}
use Rattle.std.proofs.lemmas.Bool.{or_from, eqb-true, le-ltb, not-true}
use Rattle.std.proofs.lemmas.Option.{none-some, same_Some}
use Rattle.tss_base.specs.declared.operand.OpName.{OpName}
use Rattle.tss_base.specs.declared.operand.Operand.{Operand}
use Rattle.tss_base.specs.declared.operand.Task.{Task}
use Rattle.tss_base.specs.declared.machine.Machine.{Machine}
use Rattle.tss_base.specs.declared.marks.Stage.{Stage}
use Rattle.tss_base.specs.declared.marks.Stage.TheVariants as stage
use Rattle.tss_base.specs.declared.marks.Farewell.{Farewell}
use Rattle.tss_base.specs.declared.marks.Farewell.TheVariants as farewell
use Rattle.tss_maps.proofs.Entries.{absent_empty}
use Rattle.tss_model.specs.Access.{operands_of}
use Rattle.tss_protocol.specs.Mail.{Source, StorageName, is_silent, message_count}
use Rattle.tss_protocol.specs.State.{State, OperandState, Flying}
use Rattle.tss_protocol.specs.Stations.{operand_at, is_ready, has_finished}
use Rattle.tss_protocol.specs.Needs.{is_in_inbox, is_past_by, is_past}
use Rattle.tss_locality.proofs.Flights.{record_in, from_mapped}
use Rattle.tss_phases.specs.Phase.{Phase, Ahead, Decoding, Sent, Waiting, Told, Ready, Releasing, Leaving, Promised}
use Rattle.tss_phases.specs.Phase.{Left, LookUps, inbox_has, is_ahead, record_phase, station_phase, look_ups, phase_of}
use Rattle.tss_phases.specs.Phase.{has_released}
use Rattle.tss_phases.specs.Orderly.{FitsPhase, WasTold}
use Rattle.tss_phases.specs.Openers.{open_opener}
use Rattle.tss_phases.proofs.PhaseLemmas.{phase_silent}
use Rattle.tss_phases.proofs.Shown.{is_still}
use Rattle.tss_phases.proofs.OrderlyLemmas.{left_by_absence}
use Rattle.tss_control.specs.Members.{operand_among}
use Rattle.tss_control.specs.Runners.{is_late}
use Rattle.tss_control.proofs.rounds.Spawned.{of_spawned}
use Rattle.tss_progress.proofs.progress.CalmStates.{IsCalm}
use Rattle.tss_progress.proofs.progress.Phases.{HasLetGo}
use Rattle.tss_control.proofs.rounds.Facts.{Facts}

-- ---- no message

-- no message under way
pub record HasNoMessage (S : State) : Type 0 where
  pub decodes : (o : OpName) → get S.mail.decodes o ≡ None
  pub calm : IsCalm S

-- where the mail is silent there is none
pub no_message : (S : State) → is_silent S.mail ≡ true → HasNoMessage S
no_message S silent =
    let none = eqb-true (message_count S.mail) 0 silent in
    record {
      decodes = λ o. absent_empty S.mail.decodes o (omega (arith, none));
      calm = record {
        opens = λ o. absent_empty S.mail.opens o (omega (arith, none));
        uses = λ o. absent_empty S.mail.uses o (omega (arith, none));
        readies = λ o. absent_empty S.mail.readies o (omega (arith, none));
        links = λ o. absent_empty S.mail.links o (omega (arith, none));
        releases = λ o. absent_empty S.mail.releases o (omega (arith, none));
        byes = λ o. absent_empty S.mail.byes o (omega (arith, none));
        idles = λ v. absent_empty S.mail.idles v (omega (arith, none));
        nacks = λ v. absent_empty S.mail.nacks v (omega (arith, none));
        retires = λ v. absent_empty S.mail.retires v (omega (arith, none));
      };
    }

-- ---- phases

still_record : (f : Farewell) (s : Option Source) → is_still (record_phase f s) ≡ true
still_record farewell.Nothing None = refl
still_record farewell.Nothing (Some s) = refl
still_record farewell.Promised s = refl
still_record farewell.Left s = refl

still_station : (r : Option OperandState) (ahead : Bool) → is_still (station_phase r ahead) ≡ true
still_station None true = refl
still_station None false = refl
still_station (Some r) ahead = still_record r.farewell r.source

-- one whose release was sent has released
still_late : (p : Phase) → is_still p ≡ true → is_late p ≡ true → has_released p ≡ true
still_late Releasing s l = absurd (true≢false (sym s))
still_late Leaving s l = refl
still_late Promised s l = refl
still_late Left s l = refl
still_late other s l = absurd (true≢false (sym l))

not_told : (l : LookUps) (r : OperandState) → WasTold l → l.station ≡ Some r → is_ready r ≡ false → ⊥
not_told l r told there unready =
    let same = same_Some told.0 r (sym told.1 ∙ there) in
    true≢false (sym (ap is_some told.2.1) ∙ ap is_ready same ∙ unready)

-- one that has a record and isn't ready waits
unready_waits : (p : Phase) (l : LookUps) (r : OperandState) → is_still p ≡ true → FitsPhase p l → l.station ≡ Some r
    → is_ready r ≡ false → p ≡ Waiting
unready_waits Ahead l r s h there unready = absurd (none-some r (sym h.0 ∙ there))
unready_waits Waiting l r s h there unready = refl
unready_waits Ready l r s h there unready =
    absurd (not_told l r (h.0.1.kept, h.0.1.there, (h.0.0, h.0.1.told)) there unready)
unready_waits Promised l r s h there unready = absurd (not_told l r h.0 there unready)
unready_waits Left l r s (inl absent, taken) there unready = absurd (none-some r (sym absent ∙ there))
unready_waits Left l r s (inr told, taken) there unready = absurd (not_told l r told there unready)
unready_waits other l r s h there unready = absurd (true≢false (sym s))

-- who has released a version doesn't hold it, nor waits for it
pub released_open : (s : Option StorageName) (p : Phase) → has_released p ≡ true → open_opener s p ≡ false
released_open s Ahead e = absurd (true≢false (sym e))
released_open s Decoding e = absurd (true≢false (sym e))
released_open s Sent e = absurd (true≢false (sym e))
released_open s Waiting e = absurd (true≢false (sym e))
released_open s Told e = absurd (true≢false (sym e))
released_open s Ready e = absurd (true≢false (sym e))
released_open s Releasing e = absurd (true≢false (sym e))
released_open None Leaving e = refl
released_open (Some s) Leaving e = refl
released_open None Promised e = refl
released_open (Some s) Promised e = refl
released_open None Left e = refl
released_open (Some s) Left e = refl

is_finished_stage : (s : Stage) → has_finished s ≡ true → s ≡ stage.Finished
is_finished_stage stage.Waiting e = absurd (true≢false (sym e))
is_finished_stage stage.Queued e = absurd (true≢false (sym e))
is_finished_stage stage.Running e = absurd (true≢false (sym e))
is_finished_stage stage.Finished e = refl

module _ (m : Machine) (S : State) (facts : Facts m S) (silent : HasNoMessage S) where
  open facts use {ts, ground, control}

  -- each phase is still
  still : (o : OpName) → is_still (phase_of S o) ≡ true
  still o =
      ap is_still (phase_silent (look_ups S o) (record {
        decoding = silent.decodes o;
        opening = silent.calm.opens o;
        using = silent.calm.uses o;
        telling = silent.calm.readies o;
        releasing = silent.calm.releases o;
        leaving = silent.calm.byes o;
      }))
      ∙ still_station (operand_at S.flight o) (is_ahead S o.task)

  -- an operand in flight that isn't ready waits
  pub waits_unready : (o : OpName) (r : OperandState) → operand_at S.flight o ≡ Some r → is_ready r ≡ false
      → phase_of S o ≡ Waiting
  waits_unready o r at unready =
      unready_waits (phase_of S o) (look_ups S o) r (still o) (control.orderly o).fits at unready

  -- ---- tasks that have finished or left

  flying_record : (q : OpName) (p : Operand) (x : Flying) → operand_among ts q ≡ Some p → get S.flight q.task ≡ Some x
      → (r : OperandState) × (operand_at S.flight q ≡ Some r)
  flying_record q p x among there =
      let of = ground.known.operands q p among in
      let flying = ground.numbers.flight q.task x there in
      let task = same_Some of.task x.task (sym of.spawned ∙ flying.task) in
      let k = from_mapped (λ (r : OperandState). r.operand) x.operands q.place p
      (ap (λ rs. slice_get rs q.place) flying.operands
      ∙ ap (λ t. slice_get (operands_of t) q.place) (sym task) ∙ of.place) in
      (k.0, ap (record_in q.place) there ∙ k.1)

  -- their operands have released their versions
  pub past_released : HasLetGo S → (q : OpName) (p : Operand) → operand_among ts q ≡ Some p → is_past S q.task ≡ true
      → has_released (phase_of S q) ≡ true
  past_released gone q p among past = by (get S.flight q.task) refl past
    where
      apart : (t : Option Task) → S.inbox ≡ t → not (is_in_inbox t q.task) ≡ true → inbox_has S.inbox q.task ≡ false
      apart None e h = ap (λ t. inbox_has t q.task) e
      apart (Some t) e h = ap (λ t. inbox_has t q.task) e ∙ not-true (t.number == q.task) h

      by : (x : Option Flying) → get S.flight q.task ≡ x → is_past_by S q.task x ≡ true
          → has_released (phase_of S q) ≡ true
      by None e h =
          let low = of_spawned S ts ground.round q p among in
          ap has_released (left_by_absence (look_ups S q) (control.orderly q) (ap (record_in q.place) e)
          (or_from (nat_lt S.main.spawned q.task) (inbox_has S.inbox q.task) (le-ltb S.main.spawned q.task low)
          (apart S.inbox refl h)))
      by (Some x) e h =
          let r = flying_record q p x among e in
          still_late (phase_of S q) (still q) (gone q r.0 r.1 (x, e, is_finished_stage x.stage h))
