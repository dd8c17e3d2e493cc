-- A state in which no event is enabled is finished: the oldest task in flight has a decode that may happen, and without
-- a task in flight nothing is left.
use Rattle.std.proofs.Common.{◌≡◌, ℕ, ◌≤◌, Bool, true, false, Option, Some, None, refl, sym, ap, ◌∙◌, inl, inr, arith}
use Rattle.std.proofs.Common.{true≢false}
use Rattle.std.specs.FinMap.{get}
use Rattle.std.proofs.lemmas.Bool.{cases_eq}
use Rattle.tss_base.specs.declared.operand.OpName.{OpName}
use Rattle.tss_base.specs.declared.operand.Operand.{Operand}
use Rattle.tss_base.specs.declared.machine.Machine.{Machine}
use Rattle.tss_base.specs.declared.event.Event.{Event}
use Rattle.tss_base.specs.declared.event.Event.TheVariants as event
use Rattle.tss_base.specs.declared.marks.Farewell.{Farewell}
use Rattle.tss_base.specs.declared.marks.Farewell.TheVariants as farewell
use Rattle.tss_base.specs.Machine.{IsAdmissible}
use Rattle.tss_maps.specs.Ordered.{least}
use Rattle.tss_maps.proofs.Keys.{nat_order, below_from_less}
use Rattle.tss_maps.proofs.Entries.{absent_empty}
use Rattle.tss_maps.proofs.OrderedLemmas.{IsLeast, least_some, least_none}
use Rattle.tss_protocol.specs.Names.{operand_name}
use Rattle.tss_protocol.specs.Mail.{Source}
use Rattle.tss_protocol.specs.State.{State, OperandState, Flying}
use Rattle.tss_protocol.specs.Stations.{operand_at}
use Rattle.tss_protocol.specs.Result.{is_finished}
use Rattle.tss_protocol.specs.UnitMachine.{IsEnabled}
use Rattle.tss_phases.specs.Phase.{Decoding, record_phase, station_phase, is_ahead, look_ups, phase_of}
use Rattle.tss_phases.proofs.PhaseLemmas.{phase_silent}
use Rattle.tss_phases.proofs.Shown.{is_still}
use Rattle.tss_progress.proofs.progress.Choice.{IsStuck, enabled_or_stuck}
use Rattle.tss_progress.proofs.progress.Stuck.{IsQuiet, quiet_when_stuck}
use Rattle.tss_progress.proofs.progress.Phases.{HasLetGo}
use Rattle.tss_progress.proofs.progress.Oldest.{some_decoding}
use Rattle.tss_progress.proofs.progress.Room.{decode_enabled}
use Rattle.tss_progress.proofs.progress.Drained.{HaveHolders, finished_when_stuck}
use Rattle.tss_control.proofs.rounds.Facts.{Facts}

-- ---- the decode of an operand

still_record : (f : Farewell) (s : Option Source) → is_still (record_phase f s) ≡ true
still_record farewell.Nothing None = refl
still_record farewell.Nothing (Some s) = refl
still_record farewell.Promised s = refl
still_record farewell.Left s = refl

still_station : (r : Option OperandState) (ahead : Bool) → is_still (station_phase r ahead) ≡ true
still_station None true = refl
still_station None false = refl
still_station (Some r) ahead = still_record r.farewell r.source

module _ (m : Machine) (S : State) (facts : Facts m S) (quiet : IsQuiet S) where
  -- an operand that is to be decoded has its decode under way
  decode_there : (o : OpName) → phase_of S o ≡ Decoding → (p : Operand) × (get S.mail.decodes o ≡ Some p)
  decode_there o decoding = by (get S.mail.decodes o) refl
    where
      by : (d : Option Operand) → get S.mail.decodes o ≡ d → (p : Operand) × (get S.mail.decodes o ≡ Some p)
      by (Some p) e = (p, e)
      by None e =
          let silent = phase_silent (look_ups S o) (record {
            decoding = e;
            opening = quiet.opens o;
            using = quiet.uses o;
            telling = quiet.readies o;
            releasing = quiet.releases o;
            leaving = quiet.byes o;
          }) in
          absurd (true≢false (sym (still_station (operand_at S.flight o) (is_ahead S o.task))
          ∙ ap is_still (sym silent ∙ decoding)))

-- ---- progress

module _ (m : Machine) (S : State) (facts : Facts m S) (gone : HasLetGo S) (buffers : HaveHolders S)
    (fit : IsAdmissible m) where
  -- a task in flight has something to do
  flight_moves : IsStuck m S → IsQuiet S → (n : ℕ) → IsLeast S.flight n → ⊥
  flight_moves stuck quiet n h =
      let from : (k : ℕ) (y : Flying) → get S.flight k ≡ Some y → n ≤ k = λ k y e. elim (cases_eq k n) [
        | inl same ↦ omega (arith, same)
        | inr other ↦ let below = below_from_less n k (h.others k y e other) in omega (arith, below)
      ] in
      let some = some_decoding m S facts quiet gone n h.there.0 h.there.1 from in
      let p = decode_there m S facts quiet (operand_name n some.0) some.3 in
      true≢false (sym (decode_enabled m S facts quiet gone n h.there.0 h.there.1 from
      (operand_name n some.0) p.0 refl p.1 fit)
      ∙ stuck (event.Decode (operand_name n some.0)))

  finished_by : IsStuck m S → IsQuiet S → (n : Option ℕ) → least S.flight ≡ n → is_finished S ≡ true
  finished_by stuck quiet None e =
      finished_when_stuck m S facts quiet
      (λ k. absent_empty S.flight k (least_none nat_order S.flight e)) buffers fit stuck
  finished_by stuck quiet (Some n) e = absurd (flight_moves stuck quiet n (least_some nat_order S.flight n e))

  -- a state that isn't finished has an enabled event
  pub goes_on : is_finished S ≡ false → (e : Event) × IsEnabled m S e
  goes_on unfinished = elim (enabled_or_stuck m S) [
    | inl some ↦ some
    | inr stuck ↦
        absurd (true≢false
        (sym (finished_by stuck (quiet_when_stuck m S facts stuck fit) (least S.flight) refl)
        ∙ unfinished))
  ]
