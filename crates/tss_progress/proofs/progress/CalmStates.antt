-- A state with no message but decodes, acks and gones: no reader of a produced version waits, and a produced version
-- with a successor has a reader that hasn't released it.
use Rattle.std.proofs.Common.{◌≡◌, ℕ, suc, ◌+◌, Bool, true, false, List, [], ◌∷◌, length, Option, Some, None, refl, sym}
use Rattle.std.proofs.Common.{ap, ◌∙◌, inl, inr, arith, true≢false}
use Rattle.std.specs.Prelude.{◌==◌, ◌&&◌, cond, is_none}
use Rattle.std.specs.FinMap.{get}
use Rattle.std.proofs.lemmas.Bool.{and_from, eq-eqb}
use Rattle.std.proofs.lemmas.Option.{none-some}
use Rattle.tss_base.specs.declared.operand.OpName.{OpName}
use Rattle.tss_base.specs.declared.operand.Operand.{Operand}
use Rattle.tss_base.specs.declared.machine.Machine.{Machine}
use Rattle.tss_base.specs.declared.marks.LinkState.TheVariants as link
use Rattle.tss_base.specs.declared.marks.Farewell.{Farewell}
use Rattle.tss_base.specs.declared.marks.Farewell.TheVariants as farewell
use Rattle.tss_base.specs.declared.marks.Follow.{Follow}
use Rattle.tss_maps.proofs.Keys.{name_order}
use Rattle.tss_maps.proofs.Sums.{count_none}
use Rattle.tss_protocol.specs.Names.{same_name}
use Rattle.tss_protocol.specs.Mail.{Source}
use Rattle.tss_protocol.specs.State.{State, OperandState, Version}
use Rattle.tss_protocol.specs.Stations.{operand_at}
use Rattle.tss_phases.specs.Phase.{Phase, Ahead, Decoding, Waiting, Told, Ready, Promised}
use Rattle.tss_phases.specs.Phase.{Left, is_ahead, record_phase, station_phase, look_ups, phase_of, has_released}
use Rattle.tss_phases.proofs.PhaseLemmas.{phase_decoding, phase_silent}
use Rattle.tss_control.specs.Members.{operand_among, registered_of, opening_reader, uses_of, total}
use Rattle.tss_control.specs.Readers.{Has, oldest_of, released_among, Holds, AreChained}
use Rattle.tss_control.specs.Holders.{link_fits}
use Rattle.tss_control.proofs.rounds.Spawned.{among_object}
use Rattle.tss_control.proofs.rounds.Facts.{Facts}

-- no message of an operand but its decode or its ack, and none of a version's asking
pub record IsCalm (S : State) : Type 0 where
  pub opens : (o : OpName) → get S.mail.opens o ≡ None
  pub uses : (o : OpName) → get S.mail.uses o ≡ None
  pub readies : (o : OpName) → get S.mail.readies o ≡ None
  pub links : (o : OpName) → get S.mail.links o ≡ None
  pub releases : (o : OpName) → get S.mail.releases o ≡ None
  pub byes : (o : OpName) → get S.mail.byes o ≡ None
  pub idles : (v : OpName) → get S.mail.idles v ≡ None
  pub nacks : (v : OpName) → get S.mail.nacks v ≡ None
  pub retires : (v : OpName) → get S.mail.retires v ≡ None

-- ---- phases

-- the phases of such a state
abbrev pub is_calm : Phase → Bool
is_calm Ahead = true
is_calm Decoding = true
is_calm Waiting = true
is_calm Ready = true
is_calm Promised = true
is_calm Left = true
is_calm p = false

calm_record : (f : Farewell) (s : Option Source) → is_calm (record_phase f s) ≡ true
calm_record farewell.Nothing None = refl
calm_record farewell.Nothing (Some s) = refl
calm_record farewell.Promised s = refl
calm_record farewell.Left s = refl

calm_station : (r : Option OperandState) (ahead : Bool) → is_calm (station_phase r ahead) ≡ true
calm_station None true = refl
calm_station None false = refl
calm_station (Some r) ahead = calm_record r.farewell r.source

-- those that hold a link
calm_holder : (p : Phase) (b : OpName) → is_calm p ≡ true → link_fits p (link.Held b) ≡ true → p ≡ Waiting
calm_holder Waiting b c l = refl
calm_holder Told b c l = absurd (true≢false (sym c))
calm_holder other b c l = absurd (true≢false (sym l))

-- ---- numbers

-- readers that have all released a version are all counted
released_all : (S : State) (xs : List OpName) → ((a : OpName) → Has a xs → has_released (phase_of S a) ≡ true)
    → released_among S xs ≡ length xs
released_all S [] released = refl
released_all S (a ∷ xs) released =
    ap (λ b. cond {A = ℕ} b (suc (released_among S xs)) (released_among S xs)) (released a (inl refl))
    ∙ ap suc (released_all S xs (λ b h. released b (inr h)))

first_of_three : (a b c r : ℕ) → a ≡ r → b ≡ 0 → c ≡ 0 → a + b + c ≡ r
first_of_three a b c r d e f = omega (arith, d, e, f)

module _ (m : Machine) (S : State) (facts : Facts m S) (calm : IsCalm S) where
  open facts use {all, ts, g, ground, control}

  -- each operand is in such a phase
  pub calm_phase : (o : OpName) → is_calm (phase_of S o) ≡ true
  calm_phase o = by (get S.mail.decodes o) refl
    where
      by : (d : Option Operand) → get S.mail.decodes o ≡ d → is_calm (phase_of S o) ≡ true
      by (Some p) e = ap is_calm (phase_decoding (look_ups S o) p e)
      by None e =
          ap is_calm (phase_silent (look_ups S o) (record {
            decoding = e;
            opening = calm.opens o;
            using = calm.uses o;
            telling = calm.readies o;
            releasing = calm.releases o;
            leaving = calm.byes o;
          }))
          ∙ calm_station (operand_at S.flight o) (is_ahead S o.task)

  -- an operand in flight is one of the round
  pub flying_operand : (o : OpName) (r : OperandState) → operand_at S.flight o ≡ Some r
      → (p : Operand) × (operand_among ts o ≡ Some p)
  flying_operand o r at =
      let x = ground.round.within.named.records o r at in
      let p = among_object ts o x.0 x.1 in
      (p.0, p.1)

  -- ---- readers

  holder_waits : (a b : OpName) → Holds S a b → phase_of S a ≡ Waiting
  holder_waits a b holds =
      let p = flying_operand a holds.0 holds.1 in
      let fits = (control.holders.links a p.0 holds.0 p.1 holds.1).fits in
      calm_holder (phase_of S a) b (calm_phase a) (ap (link_fits (phase_of S a)) (sym holds.2) ∙ fits)

  none_waits : (xs : List OpName) → AreChained S xs
      → ((a : OpName) → oldest_of xs ≡ Some a → phase_of S a ≡ Waiting → ⊥)
      → (b : OpName) → Has b xs → phase_of S b ≡ Waiting → ⊥
  none_waits [] chained first b has waits = has
  none_waits (a ∷ []) chained first b (inl same) waits = first a refl (ap (phase_of S) same ∙ waits)
  none_waits (a ∷ []) chained first b (inr has) waits = has
  none_waits (c ∷ a ∷ xs) chained first b (inr has) waits = none_waits (a ∷ xs) chained.1 first b has waits
  none_waits (c ∷ a ∷ xs) chained first b (inl same) waits = elim (chained.0.waits (ap (phase_of S) same ∙ waits)) [
    | inl linking ↦ none-some c (sym (calm.links a) ∙ linking)
    | inr holds ↦ none_waits (a ∷ xs) chained.1 first a (inl refl) (holder_waits a c holds)
  ]

  -- no reader of a produced version waits
  pub no_reader_waits : (v : OpName) (y : Version) → get S.versions v ≡ Some y → y.produced ≡ true
      → (b : OpName) → Has b (g v) → phase_of S b ≡ Waiting → ⊥
  no_reader_waits v y there produced =
      let h = control.readers.versions v y there in
      none_waits (g v) h.chained
      (λ a first waits. true≢false (sym produced ∙ (h.first a first).0 waits))

  -- ---- versions

  -- no version asks
  pub nobody_asks : (v : OpName) (y : Version) → get S.versions v ≡ Some y → y.asked ≡ None
  nobody_asks v y there = by y.asked refl
    where
      by : (a : Option ℕ) → y.asked ≡ a → y.asked ≡ None
      by None e = e
      by (Some count) e = absurd (elim (ground.asking.asking v count (y, there, e)) [
        | inl idle ↦ none-some idle.0 (sym (calm.idles v) ∙ idle.1)
        | inr (inl nack) ↦ none-some tt (sym (calm.nacks v) ∙ nack)
        | inr (inr retire) ↦ none-some tt (sym (calm.retires v) ∙ retire)
      ])

  -- all readers of a version have registered
  pub total_registered : (v : OpName) (y : Version) → get S.versions v ≡ Some y → total S v ≡ y.registered
  total_registered v y there =
      first_of_three (registered_of (get S.versions v)) (opening_reader (get S.mail.opens v)) (uses_of S.mail.uses v)
      y.registered (ap registered_of there) (ap opening_reader (calm.opens v))
      (count_none name_order (λ o w. same_name w v) S.mail.uses
      (λ o w e. absurd (none-some w (sym (calm.uses o) ∙ e))))

  -- all its readers have released it
  abbrev pub AllReleased : OpName → Type 0
  AllReleased v = (a : OpName) → Has a (g v) → has_released (phase_of S a) ≡ true

  -- so it counts as many
  pub all_released : (v : OpName) (y : Version) → get S.versions v ≡ Some y → AllReleased v
      → y.released ≡ y.registered
  all_released v y there released =
      let readers = control.readers.versions v y there in
      readers.released ∙ released_all S (g v) released ∙ sym readers.registered

  -- a produced version with a successor has one that hasn't
  pub none_released_behind : (v : OpName) (y : Version) (f : Follow) → get S.versions v ≡ Some y → y.successor ≡ Some f
      → y.produced ≡ true → AllReleased v → ⊥
  none_released_behind v y f there next produced released =
      let last = ((control.chains.linked v y there).followed f next).last in
      let same = all_released v y there released ∙ sym (last ∙ total_registered v y there) in
      true≢false (sym (and_from (y.produced && (y.released == f.last)) (is_none y.asked)
      (and_from y.produced (y.released == f.last) produced (eq-eqb y.released f.last same))
      (ap is_none (nobody_asks v y there)))
      ∙ (control.retirement.settled v y there).dies f next)
