-- Operands in a quiet state: each task in flight waits, and each of its operands is to be decoded, waits or is ready.
-- No reader of a produced version waits.
use Rattle.std.proofs.Common.{◌≡◌, ℕ, suc, ◌<◌, ◌≤◌, ◌⊎◌, Bool, true, false, List, [], ◌∷◌, Option, Some, None, refl}
use Rattle.std.proofs.Common.{sym, ap, ◌∙◌, inl, inr, arith, true≢false}
use Rattle.std.specs.Prelude.{◌==◌, nat_lt, slice_get}
use Rattle.std.specs.List.{list_all, list_any}
use Rattle.std.specs.FinMap.{get}
use Rattle.std.proofs.lemmas.Bool.{and_cases, or_from, le-ltb}
use Rattle.std.proofs.lemmas.Bool.Decides.{nat_tests}
use Rattle.std.proofs.lemmas.Option.{none-some, same_Some}
use Rattle.tss_base.specs.declared.operand.OpName.{OpName}
use Rattle.tss_base.specs.declared.operand.Task.{Task}
use Rattle.tss_base.specs.declared.machine.Machine.{Machine}
use Rattle.tss_base.specs.declared.marks.Stage.{Stage}
use Rattle.tss_base.specs.declared.marks.Stage.TheVariants as stage
use Rattle.tss_protocol.specs.Names.{operand_name}
use Rattle.tss_protocol.specs.State.{State, OperandState, Flying}
use Rattle.tss_protocol.specs.Stations.{operand_at, has_left, has_finished}
use Rattle.tss_locality.proofs.Flights.{record_in}
use Rattle.tss_phases.specs.Phase.{Phase, Ahead, Decoding, Sent, Waiting, Told, Ready, Releasing, Leaving, Promised}
use Rattle.tss_phases.specs.Phase.{Left, inbox_has, look_ups, phase_of}
use Rattle.tss_phases.proofs.Shown.{left_shows, ahead_shows}
use Rattle.tss_phases.proofs.OrderlyLemmas.{left_by_absence}
use Rattle.tss_control.specs.Runners.{IsAtStage, is_late}
use Rattle.tss_progress.proofs.progress.CalmStates.{is_calm, calm_phase, flying_operand}
use Rattle.tss_progress.proofs.progress.Stuck.{IsQuiet, calm_of}
use Rattle.tss_control.proofs.rounds.Facts.{Facts}

-- the operands of a finished task have let go
abbrev pub HasLetGo : State → Type 0
HasLetGo S =
    (o : OpName) (r : OperandState) → operand_at S.flight o ≡ Some r → IsAtStage S.flight o.task stage.Finished
    → is_late (phase_of S o) ≡ true

-- ---- phases

calm_late : (p : Phase) → is_calm p ≡ true → is_late p ≡ true → (p ≡ Promised) ⊎ (p ≡ Left)
calm_late Releasing c l = absurd (true≢false (sym c))
calm_late Leaving c l = absurd (true≢false (sym c))
calm_late Promised c l = inl refl
calm_late Left c l = inr refl
calm_late other c l = absurd (true≢false (sym l))

-- an operand in flight whose task waits
abbrev Stands : Phase → Type 0
Stands p = (p ≡ Decoding) ⊎ ((p ≡ Waiting) ⊎ (p ≡ Ready))

stands_by : (p : Phase) → is_calm p ≡ true → (p ≡ Ahead → ⊥) → (is_late p ≡ true → ⊥) → Stands p
stands_by Ahead c a l = absurd (a refl)
stands_by Decoding c a l = inl refl
stands_by Sent c a l = absurd (true≢false (sym c))
stands_by Waiting c a l = inr (inl refl)
stands_by Told c a l = absurd (true≢false (sym c))
stands_by Ready c a l = inr (inr refl)
stands_by Releasing c a l = absurd (true≢false (sym c))
stands_by Leaving c a l = absurd (true≢false (sym c))
stands_by Promised c a l = absurd (l refl)
stands_by Left c a l = absurd (l refl)

-- ---- plain facts

-- not all of a list pass a test
pub fails_somewhere : {X : Type 0} (t : X → Bool) (xs : List X) → list_all t xs ≡ false
    → (k : ℕ) × (x : X) × (slice_get xs k ≡ Some x) × (t x ≡ false)
fails_somewhere t [] e = absurd (true≢false e)
fails_somewhere t (x ∷ xs) e = elim (and_cases (t x) (list_all t xs) e) [
  | inl here ↦ (0, x, refl, here)
  | inr there ↦ let f = fails_somewhere t xs there in (suc f.0, f.1, f.2, f.3)
]

different : (a b : ℕ) → a < b → (b == a) ≡ false
different a b h = grind (arith, nat_tests)

module _ (m : Machine) (S : State) (facts : Facts m S) (quiet : IsQuiet S) where
  open facts use {all, ground, control}

  -- each operand is calm
  calm : (o : OpName) → is_calm (phase_of S o) ≡ true
  calm = calm_phase m S facts (calm_of S quiet)

  -- ---- tasks in flight

  not_left : (o : OpName) (r : OperandState) → operand_at S.flight o ≡ Some r → has_left r.farewell ≡ false
      → phase_of S o ≡ Left → ⊥
  not_left o r at stays left = elim (left_shows (look_ups S o) left).1 [
    | inl absent ↦ none-some r (sym absent.0 ∙ at)
    | inr there ↦
        true≢false (sym (ap has_left there.2)
        ∙ ap (λ (r : OperandState). has_left r.farewell) (same_Some there.0 r (sym there.1 ∙ at)) ∙ stays)
  ]

  not_promised : (o : OpName) (r : OperandState) → operand_at S.flight o ≡ Some r → phase_of S o ≡ Promised → ⊥
  not_promised o r at promised =
      let p = flying_operand m S facts (calm_of S quiet) o r at in
      let next = (control.holders.links o p.0 r p.1 at).promised promised in
      none-some next.0 (sym (quiet.links o) ∙ next.1)

  -- none has finished
  none_finished : HasLetGo S → (n : ℕ) (x : Flying) → get S.flight n ≡ Some x → x.stage ≡ stage.Finished → ⊥
  none_finished gone n x there finished =
      elim (and_cases (has_finished x.stage) (list_all (λ r. has_left r.farewell) x.operands)
      (ground.stages.staying n x there)) [
        | inl not ↦ true≢false (sym (ap has_finished finished) ∙ not)
        | inr some ↦
            let f = fails_somewhere (λ r. has_left r.farewell) x.operands some in
            let o = operand_name n f.0 in
            let at : operand_at S.flight o ≡ Some f.1 = ap (record_in f.0) there ∙ f.2 in
            elim (calm_late (phase_of S o) (calm o) (gone o f.1 at (x, there, finished))) [
              | inl promised ↦ not_promised o f.1 at promised
              | inr left ↦ not_left o f.1 at f.3 left
            ]
      ]

  -- so each waits
  pub all_wait : HasLetGo S → (n : ℕ) (x : Flying) → get S.flight n ≡ Some x → x.stage ≡ stage.Waiting
  all_wait gone n x there = by x.stage refl
    where
      by : (s : Stage) → x.stage ≡ s → x.stage ≡ stage.Waiting
      by stage.Waiting e = e
      by stage.Queued e =
          absurd (true≢false (sym (ground.stages.queued n x there e) ∙ ap (list_any (λ k. k == n)) quiet.queue))
      by stage.Running e =
          let w = ground.stages.running n x there e in
          absurd (none-some w.1 (sym (quiet.workers w.0) ∙ w.2))
      by stage.Finished e = absurd (none_finished gone n x there e)

  -- and its operands are to be decoded, wait or are ready
  pub stands : HasLetGo S → (o : OpName) (r : OperandState) → operand_at S.flight o ≡ Some r → Stands (phase_of S o)
  stands gone o r at =
      stands_by (phase_of S o) (calm o)
      (λ ahead. none-some r (sym (ahead_shows (look_ups S o) ahead).1.0 ∙ at))
      (λ late. let x = control.holders.runners.late o r at late in none_finished gone o.task x.0 x.1 x.2)

  -- ---- tasks before those in flight

  -- an operand of a task before all that are in flight has left
  pub left_before : (n : ℕ) (x : Flying) → get S.flight n ≡ Some x
      → ((k : ℕ) (y : Flying) → get S.flight k ≡ Some y → n ≤ k)
      → (q : OpName) → q.task < n → phase_of S q ≡ Left
  left_before n x there least q before =
      left_by_absence (look_ups S q) (control.orderly q) (ap (record_in q.place) (absent (get S.flight q.task) refl))
      (or_from (nat_lt S.main.spawned q.task) (inbox_has S.inbox q.task)
      (le-ltb S.main.spawned q.task (omega (arith, before, few))) (apart S.inbox refl))
    where
      few : n ≤ S.main.spawned
      few =
          let own = ground.round.flying n x there in
          let below = ground.round.numbers own.1.0 x.task own.1.1 in
          let same = own.0 in
          omega (arith, below, same)

      absent : (y : Option Flying) → get S.flight q.task ≡ y → get S.flight q.task ≡ None
      absent None e = e
      absent (Some y) e = let late = least q.task y e in absurd (omega (arith, late, before))

      apart : (t : Option Task) → S.inbox ≡ t → inbox_has S.inbox q.task ≡ false
      apart None e = ap (λ t. inbox_has t q.task) e
      apart (Some t) e =
          let above = ground.round.below t e n x there in
          ap (λ t. inbox_has t q.task) e ∙ different q.task t.number (omega (arith, above, before))
