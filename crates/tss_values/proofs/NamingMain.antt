-- The objects of the round stay named in program order, and the round has each spawned task from its oldest on.
use Rattle.std.proofs.Common.{◌≡◌, ◌⊎◌, inl, inr, ℕ, suc, ◌+◌, ◌-◌, ◌<◌, ◌≤◌, false, List, [], ◌∷◌, ◌++◌, append-nil}
use Rattle.std.proofs.Common.{Option, Some, None, Result, Ok, Err, refl, sym, ap, subst, ◌∙◌, arith}
use Rattle.std.specs.Prelude.{is_some, option_to_list}
use Rattle.std.proofs.lemmas.Bool.{cases_lt, cases_order}
use Rattle.std.proofs.lemmas.Option.{none-some, same_Some}
use Rattle.tss_base.specs.declared.operand.OpName.{OpName}
use Rattle.tss_base.specs.declared.operand.Operand.{Operand}
use Rattle.tss_base.specs.declared.operand.Task.{Task}
use Rattle.tss_base.specs.declared.ending.Trap.{Trap}
use Rattle.tss_base.specs.declared.machine.Machine.{Machine}
use Rattle.tss_base.specs.declared.event.Event.{Event}
use Rattle.tss_base.specs.declared.event.Event.TheVariants as event
use Rattle.tss_base.specs.Image.{ImageState}
use Rattle.tss_model.specs.Memory.{frozen}
use Rattle.tss_model.specs.Spawn.{spawn_of}
use Rattle.tss_model.specs.MainStep.{MainState, Flat, Call, Spawn, Barrier, spawn_call}
use Rattle.tss_model.specs.MainStep.{spawn_on}
use Rattle.tss_model.specs.InOrder.{Started, flat_stepped, started_at, started_in, end_of_started}
use Rattle.tss_protocol.specs.State.{State}
use Rattle.tss_protocol.specs.MainEvent.{call_next}
use Rattle.tss_protocol.specs.Needs.{round_after_main, round_after_event}
use Rattle.tss_protocol.specs.UnitMachine.{IsEnabled, after_event}
use Rattle.tss_locality.specs.Rounds.{IsTaskOf, IsRounded, IsIn}
use Rattle.tss_locality.proofs.Subjects.{arrival_task}
use Rattle.tss_locality.proofs.RoundObjects.{arrival_operand, in_longer, last_of_longer}
use Rattle.tss_locality.proofs.RunRounds.{IsRounded-after_event}
use Rattle.tss_control.specs.Members.{operand_among}
use Rattle.tss_names.specs.Tasks.{task_at, with_spawned, spawned_by_main, spawned_after_event}
use Rattle.tss_program_order.specs.MainInOrder.{FollowsInOrder, IsCutOff, steps_taken, flat_beside, started_next}
use Rattle.tss_program_order.specs.MainInOrder.{inbox_with}
use Rattle.tss_program_order.proofs.FlatNames.{Has}
use Rattle.tss_program_order.proofs.FlatNumbers.{numbers_rise, spawned_rises, step_one}
use Rattle.tss_program_order.proofs.FlatOrder.{steps_taken-on, flat_stepped-ended, started_at-by, trapped_next}
use Rattle.tss_program_order.proofs.FlatOrder.{trapped_after}
use Rattle.tss_program_order.proofs.FlatPieces.{NoneAfter}
use Rattle.tss_program_order.proofs.FlatStarts.{task_started-by, started-number}
use Rattle.tss_program_order.proofs.FlatUnnamed.{unnamed_back}
use Rattle.tss_control.proofs.rounds.Spawned.{IsLonger-spawn, from_operand_among}
use Rattle.tss_program_order.proofs.MainEvent.{main_on-enabled, HasEpochBeside, epoch_beside, follows_main}
use Rattle.tss_values.proofs.NamingLemmas.{done_taken}
use Rattle.tss_names.proofs.NumberLemmas.{from_task_at, number_within}
use Rattle.tss_program_order.proofs.RunKeeps.{HasGround, is_main, after_event-kept}
use Rattle.tss_names.proofs.SpawnLemmas.{IsNext-spawn_of, spawns_main}
use Rattle.tss_values.proofs.Values.{HasHome, HasMain, HasNaming, IsLive}
use Rattle.tss_values.proofs.ValuesMain.{in_has, follows_home}
use Rattle.tss_control.proofs.rounds.Facts.{Basis, Facts}
use Rattle.tss_values.proofs.MembersBefore.{live_before}
use Rattle.tss_values.proofs.UndecodedOperands.{undecoded_at}
use Rattle.tss_values.proofs.RoundSteps.{RoundGoesOn, round_goes_on}
use Rattle.tss_control.proofs.GroundworkMain.{KeepsControl, kept_main}
use Rattle.tss_control.proofs.entries.OfVersions.{entry_of_member}
use Rattle.tss_phases.specs.Phase.{is_decoded}
use Rattle.tss_phases.proofs.MainEvent.{phase_of-main}
use Rattle.tss_protocol.specs.Mail.{Mail}
use Rattle.tss_base.specs.declared.range.Range.{Range}
use Rattle.std.specs.FinMap.{get}

-- ---- the round

module _ (m : Machine) (i : ImageState) (S : State) (basis : Basis m S)
    (naming : HasNaming m i basis.all basis.ts S) where
  open basis use {all, ts, ground}

  -- the round has each spawned task from its oldest on
  abbrev AreAmong : List Task → List Task → Type 0
  AreAmong all ts =
      (n : ℕ) (t : Task) (o : OpName) (p : Operand)
      → task_at all n ≡ Some t
      → operand_among ts o ≡ Some p
      → o.task ≤ n
      → IsTaskOf ts t

  -- an operand of a new round that is of no new task was in the round before
  abbrev WasBefore : List Task → Type 0
  WasBefore us =
      (o : OpName) (p : Operand)
      → operand_among us o ≡ Some p
      → o.task ≤ S.main.spawned
      → operand_among ts o ≡ Some p

  -- both are so of a round after main's event
  abbrev IsRoundAfter : List Task → List Task → Type 0
  IsRoundAfter all us = AreAmong all us × WasBefore us

  still : IsRoundAfter all ts
  still = (naming.among, λ o p among low. among)

  among_more : (t : Task) → t.number ≡ suc S.main.spawned → AreAmong (t ∷ all) (ts ++ t ∷ [])
  among_more t number n u o p at among low =
      elim (from_task_at t all n u at) [
        | inl new ↦ subst (IsTaskOf (ts ++ t ∷ [])) new.1 (last_of_longer ts t)
        | inr old ↦
            let within = number_within all n u old in
            elim (from_operand_among ts t o p among) [
              | inl before ↦ in_longer ts t u (naming.among n u o p old before low)
              | inr after ↦
                  let same = arrival_task t o p after in
                  absurd (omega (arith, same, number, low, within.1, ground.numbers.spawned))
            ]
      ]

  round_by_spawn : (r : Result Task ℕ)
      → spawn_of (spawn_call S.main.registers) S.home S.main.epoch m.limits S.main.spawned ≡ r
      → IsRoundAfter (with_spawned all (spawn_on S.main r).1) (ts ++ option_to_list (spawn_on S.main r).1)
  round_by_spawn (Err n) e = subst (IsRoundAfter all) (sym (append-nil ts)) still
  round_by_spawn (Ok t) e =
      let next = IsNext-spawn_of (spawn_call S.main.registers) S.home S.main.epoch m.limits S.main.spawned t e in (
        among_more t next.number,
        λ o p among low. (IsLonger-spawn S ts t ground.round next.number).back o p low among,
      )

  round_by_call : (c : Option Call) → IsRoundAfter (spawned_by_main m S all c) (round_after_main m S ts c)
  round_by_call (Some Spawn) =
      round_by_spawn (spawn_of (spawn_call S.main.registers) S.home S.main.epoch m.limits S.main.spawned) refl
  round_by_call (Some Barrier) =
      (λ n t o p at among. absurd (none-some p among), λ o p among. absurd (none-some p among))
  round_by_call other = still

  -- ---- where program order is cut off

  module _ (place : ℕ) (c : Started) (trap : Trap) (before : place < steps_taken S.main)
      (start : started_at i m.limits place ≡ Some c) (trapped : (end_of_started i m.limits c).trap ≡ Some trap) where
    none_after : (k : ℕ) (s : Started) → started_at i m.limits k ≡ Some s → k ≤ place
    none_after k s at = elim (cases_lt place k) [
      | inl later ↦
          absurd (none-some s (ap (started_in (frozen i) m.limits)
          (sym (trapped_after i m.limits place c trap k start trapped later)) ∙ at))
      | inr low ↦ low
    ]

    number_before : (k : ℕ) (s : Started) → started_at i m.limits k ≡ Some s → s.task.number ≤ c.task.number
    number_before k s at = elim (cases_order k place) [
      | inl here ↦
          let same = same_Some s c (sym at ∙ ap (started_at i m.limits) here ∙ start) in
          let number = ap (λ (s : Started). s.task.number) same in
          omega (arith, number)
      | inr (inl older) ↦ let rises = numbers_rise i m.limits k place s c at start older in omega (arith, rises)
      | inr (inr later) ↦ let low = none_after k s at in absurd (omega (arith, low, later))
    ]

    -- all that is named then stays named
    stays_cut : (o : OpName) (p : Operand) (k j : ℕ) (s : Started) → operand_among ts o ≡ Some p
        → IsLive S o p.object → started_at i m.limits k ≡ Some s → s.task.number ≡ o.task → k < j
        → Has (flat_stepped i m.limits j).main.epoch p.object
    stays_cut o p k j s among live at number less = elim (cases_lt (suc place) j) [
      | inl after ↦
          let low = none_after k s at in
          let count : j ≡ suc place + (j - suc place) = omega (arith, after) in
          let ending = trapped_next i m.limits place c trap (started_at-by i m.limits place c start) trapped in
          let same =
          ap (flat_stepped i m.limits) count
          ∙ flat_stepped-ended i m.limits (suc place) (j - suc place) (ap is_some ending) in
          subst (λ (f : Flat). Has f.main.epoch p.object) (sym same)
          (naming.named o p k (suc place) s among live at number (omega (arith, low)) (omega (arith, before)))
      | inr early ↦ naming.named o p k j s among live at number less (omega (arith, early, before))
    ]

-- ---- main's event

module _ (m : Machine) (i : ImageState) (S : State) (facts : Facts m S) (code : HasGround i S)
    (few : NoneAfter S.main.spawned S.main.pieces) (home : HasHome m i facts.ts S)
    (main : HasMain m i facts.all S) (naming : HasNaming m i facts.all facts.ts S) where
  open facts use {basis, all, ts, ground, control}

  module _ (on : IsEnabled m S event.Main) where
    abbrev T : State
    T = after_event m S event.Main

    abbrev us : List Task
    us = round_after_event m S ts event.Main

    after : AreAmong m i S basis naming (spawned_after_event m S all event.Main) us
        × WasBefore m i S basis naming us
    after = round_by_call m i S basis naming (call_next m S)

    -- what is said of the objects of the new round
    abbrev AreNamed : Type 0
    AreNamed =
        (o : OpName) (p : Operand) (k j : ℕ) (s : Started)
        → operand_among us o ≡ Some p
        → IsLive T o p.object
        → started_at i m.limits k ≡ Some s
        → s.task.number ≡ o.task
        → k < j
        → j ≤ steps_taken T.main
        → Has (flat_stepped i m.limits j).main.epoch p.object

    kept : KeepsControl S T
    unfolding after_event
    kept = kept_main m S (call_next m S)

    -- an operand acts on its object after the event as it did before
    live_main : (o : OpName) (x : Range) → IsLive T o x → IsLive S o x
    live_main o x (inl early) = inl (sym (ap is_decoded (phase_of-main m S o on)) ∙ early)
    live_main o x (inr (inl (inl y))) = inr (inl (inl (y.0, ap (λ vs. get vs o) (sym kept.versions) ∙ y.1, y.2)))
    live_main o x (inr (inl (inr c))) =
        inr (inl (inr (c.0, ap (λ (m : Mail). get m.opens o) (sym kept.mail) ∙ c.1, c.2)))
    live_main o x (inr (inr e)) = inr (inr (e.0, ap (λ es. get es x.base) (sym kept.entries) ∙ e.1, e.2, e.3))

    -- its object is named after the event
    round : IsRounded T us
    round = IsRounded-after_event m S ts ground.round event.Main on

    named_old : (o : OpName) (p : Operand) → operand_among ts o ≡ Some p
        → ((t : Task) → S.inbox ≡ Some t → T.inbox ≡ Some t) → IsLive S o p.object → IsIn p.object T.main.epoch
    named_old o p among inbox (inl early) = elim (undecoded_at m S basis control.orderly o p among early) [
      | inl a ↦ round.named.arriving a.0 (inbox a.0 a.1) o.place p a.2
      | inr decode ↦ round.named.decoding o p (ap (λ (m : Mail). get m.decodes o) kept.mail ∙ decode)
    ]
    named_old o p among inbox (inr (inl member)) =
        let f = entry_of_member m S facts o p among o member in
        subst (λ x. IsIn x T.main.epoch) f.object
        (round.named.entered p.object.base f.entry (ap (λ es. get es p.object.base) kept.entries ∙ f.there))
    named_old o p among inbox (inr (inr e)) =
        subst (λ x. IsIn x T.main.epoch) e.3
        (round.named.entered p.object.base e.0 (ap (λ es. get es p.object.base) kept.entries ∙ e.1))

    named_after : (o : OpName) (p : Operand) → operand_among us o ≡ Some p → IsLive T o p.object
        → IsIn p.object T.main.epoch
    named_after o p among live = by (round_goes_on m ts S on)
      where
        by : RoundGoesOn ts us S T → IsIn p.object T.main.epoch
        by (inl r) =
            named_old o p (ap (λ us. operand_among us o) (sym r.list) ∙ among) (λ t at. r.inbox ∙ at)
            (live_main o p.object live)
        by (inr (inl r)) =
            elim (from_operand_among ts r.task o p (ap (λ us. operand_among us o) (sym r.list) ∙ among)) [
              | inl old ↦
                  named_old o p old (λ t at. absurd (none-some t (sym r.empty ∙ at))) (live_main o p.object live)
              | inr new ↦ round.named.arriving r.task r.inbox o.place p (arrival_operand r.task o p new)
            ]
        by (inr (inr r)) = absurd (none-some p (ap (λ us. operand_among us o) (sym r.list) ∙ among))

    named_cut : IsCutOff i m.limits S.main → AreNamed
    named_cut cut o p k j s among live start number less low =
        let done = done_taken S.main in
        let before : cut.place < steps_taken S.main = omega (arith, cut.before, done) in
        let early =
        number_before m i S basis naming cut.place cut.started cut.trap before cut.start cut.trapped k s
        start in
        stays_cut m i S basis naming cut.place cut.started cut.trap before cut.start cut.trapped o p k j s
        (after.1 o p among (omega (arith, early, cut.number, number))) (live_main o p.object live) start number less

    module _ (same : S.main ≡ (flat_beside i m.limits S.main).main) where
      follows : FollowsInOrder m i S
      follows = follows_home m i S basis code few home main same

      still_on : is_some S.main.ending ≡ false
      still_on = main_on-enabled m S on

      abbrev K : ℕ
      K = steps_taken S.main

      abbrev J : ℕ
      J = steps_taken T.main

      abbrev spawned_by : ℕ → ℕ
      spawned_by k = (flat_stepped i m.limits k).main.spawned

      spawned_here : S.main.spawned ≡ spawned_by K
      spawned_here = ap (λ (s : MainState). s.spawned) same

      beside : HasEpochBeside m i S code still_on follows few T.main
      beside = epoch_beside m i S code still_on follows few

      -- the objects that are acted on are named where main stands after the event
      named_end : (o : OpName) (p : Operand) → operand_among us o ≡ Some p → IsLive T o p.object
          → Has (flat_stepped i m.limits J).main.epoch p.object
      named_end o p among live =
          subst (λ named. Has named p.object) (sym beside.0)
          (in_has p.object T.main.epoch (named_after o p among live))

      from_rising : (j l : ℕ) → j ≤ l → spawned_by j ≤ spawned_by l
      from_rising j l low =
          let count : l ≡ j + (l - j) = omega (arith, low) in
          let rises = spawned_rises i m.limits j (l - j) in
          omega (arith, rises, ap spawned_by count)

      spawned_start : (o : Option Started) → started_next m i S ≡ o → (t : Task) → Some t ≡ inbox_with o None
          → spawned_by (suc K) ≡ suc (spawned_by K)
      spawned_start None e t box = absurd (none-some t (sym box))
      spawned_start (Some z) e t box =
          step_one i m.limits K z.task
          (task_started-by i m.limits K z (ap (started_at i m.limits) (steps_taken-on S.main still_on) ∙ e))

      -- after the first of its steps no task is started
      settled : (j : ℕ) → K < j → j ≤ J → spawned_by J ≡ spawned_by j
      settled j later low =
          elim (spawns_main m all S on) [
            | inl none ↦
                let count = ap (λ f. f.spawned) none.front in
                let first = from_rising K j (omega (arith, later)) in
                let last = from_rising j J low in
                omega (arith, count, beside.1, spawned_here, first, last)
            | inr one ↦
                let count = ap (λ f. f.spawned) one.front in
                let start =
                spawned_start (started_next m i S) refl one.task
                (sym (ap (λ f. f.inbox) one.front) ∙ (follows_main m i S code still_on follows few).inbox
                ∙ ap (inbox_with (started_next m i S)) one.empty) in
                let first = from_rising (suc K) j (omega (arith, later)) in
                let last = from_rising j J low in
                omega (arith, count, beside.1, spawned_here, start, first, last)
          ]

      named_follow : AreNamed
      named_follow o p k j s among live start number less low = elim (cases_lt K j) [
        | inl later ↦
            let count : J ≡ j + (J - j) = omega (arith, low) in
            unnamed_back i m.limits p.object j (J - j) (ap spawned_by (sym count) ∙ settled j later low)
            (subst (λ l. Has (flat_stepped i m.limits l).main.epoch p.object) count (named_end o p among live))
        | inr early ↦
            let first = started-number i m.limits k s start in
            let one = step_one i m.limits k s.task (task_started-by i m.limits k s start) in
            let rises = from_rising (suc k) K (omega (arith, less, early)) in
            naming.named o p k j s
            (after.1 o p among (omega (arith, first, one, rises, spawned_here, number))) (live_main o p.object live)
            start number less early
      ]

    HasNaming-main : HasNaming m i (spawned_after_event m S all event.Main) us T
    HasNaming-main =
        record { named = by main.follows; among = after.0 }
      where
        by : (S.main ≡ (flat_beside i m.limits S.main).main) ⊎ IsCutOff i m.limits S.main → AreNamed
        by (inl same) = named_follow same
        by (inr cut) = named_cut cut

  -- an event that leaves main
  HasNaming-other : (e : Event) → is_main e ≡ false → IsEnabled m S e → HasNaming m i all ts (after_event m S e)
  HasNaming-other e other on = record {
    named = λ o p k j s among live start number less low.
        naming.named o p k j s among (live_before m S facts e other on o p.object live) start number less
        (subst (λ s. j ≤ steps_taken s) (after_event-kept m S e other).main low);
    among = naming.among;
  }

  -- every event keeps them named
  pub HasNaming-after_event : (e : Event) → IsEnabled m S e
      → HasNaming m i (spawned_after_event m S all e) (round_after_event m S ts e) (after_event m S e)
  HasNaming-after_event event.Main on = HasNaming-main on
  HasNaming-after_event e on = HasNaming-other e refl on
