-- No task waits needlessly where no message is under way.
use Rattle.std.proofs.Common.{◌≡◌, ℕ, suc, Bool, true, false, List, [], ◌∷◌, Some, refl, sym, ap, ◌∙◌}
use Rattle.std.specs.Prelude.{◌||◌, not, option_map, slice_get}
use Rattle.std.specs.declared.cmp.Ordering.{Ordering}
use Rattle.std.specs.List.{list_all}
use Rattle.std.specs.FinMap.{FinMap, get, entries, values}
use Rattle.std.proofs.lemmas.Bool.{and_from, or_left, or_right}
use Rattle.std.proofs.lemmas.List.Folds.{list_all-map}
use Rattle.std.proofs.lemmas.Option.{slice_get-map}
use Rattle.tss_base.specs.declared.machine.Machine.{Machine}
use Rattle.tss_base.specs.declared.marks.Stage.{Stage}
use Rattle.tss_base.specs.declared.marks.Stage.TheVariants as stage
use Rattle.tss_maps.proofs.Keys.{IsKeyOrder, nat_order}
use Rattle.tss_maps.proofs.OrderedLemmas.{get_from_place}
use Rattle.tss_protocol.specs.Names.{operand_name}
use Rattle.tss_protocol.specs.Mail.{is_silent}
use Rattle.tss_protocol.specs.State.{State, OperandState, Flying}
use Rattle.tss_protocol.specs.Stations.{operand_at, is_ready}
use Rattle.tss_protocol.specs.Needs.{runs_or_finished, is_past, is_in_queue, needed_tasks, waits_rightly}
use Rattle.tss_protocol.specs.Needs.{HasNoFalseWait}
use Rattle.tss_locality.proofs.Flights.{record_in}
use Rattle.tss_progress.proofs.progress.Phases.{HasLetGo, fails_somewhere}
use Rattle.tss_names.proofs.ListLemmas.{AreRising}
use Rattle.tss_control.proofs.rounds.RoundTasks.{among_tasks}
use Rattle.tss_progress.proofs.waits.Silent.{HasNoMessage, no_message, waits_unready}
use Rattle.tss_progress.proofs.waits.Operands.{none_waits}
use Rattle.tss_control.proofs.rounds.Facts.{Facts}

-- ---- tests of all values

-- a list all of whose elements pass a test
all_by_place : {X : Type 0} (test : X → Bool) (xs : List X)
    → ((k : ℕ) (x : X) → slice_get xs k ≡ Some x → test x ≡ true) → list_all test xs ≡ true
all_by_place test [] each = refl
all_by_place test (x ∷ xs) each =
    and_from (test x) (list_all test xs) (each 0 x refl) (all_by_place test xs (λ k y at. each (suc k) y at))

-- a map all of whose values do
all_values : {K X : Type 0} {R : K → K → Ordering} → IsKeyOrder R → (test : X → Bool) (m : FinMap R X)
    → ((k : K) (x : X) → get m k ≡ Some x → test x ≡ true) → list_all test (values m) ≡ true
all_values {K} {X} order test m each =
    list_all-map test (λ (e : K × X). e.1) (entries m)
    ∙ all_by_place (λ (e : K × X). test e.1) (entries m)
    (λ i e at. each e.0 e.1 (get_from_place order m i e.0 e.1 at))

-- ---- the law

module _ (m : Machine) (S : State) (facts : Facts m S) (gone : HasLetGo S) (rise : AreRising facts.ts) where
  open facts use {ts, ground}

  module _ (silent : HasNoMessage S) (n : ℕ) (x : Flying) (flies : get S.flight n ≡ Some x) where
    -- one that waits needs a task that hasn't finished
    needs_one : x.stage ≡ stage.Waiting → list_all (is_past S) (needed_tasks ts x.task) ≡ true → ⊥
    needs_one waits past =
        let f = fails_somewhere is_ready x.operands ((ground.stages.waiting n x flies).0 waits) in
        let own = ground.round.flying n x flies in
        let flying = ground.numbers.flight n x flies in
        let place = sym (ap (λ ps. slice_get ps f.0) flying.operands)
        ∙ slice_get-map (λ (r : OperandState). r.operand) x.operands f.0
        ∙ ap (option_map (λ (r : OperandState). r.operand)) f.2 in
        let o = operand_name x.task.number f.0 in
        let at : operand_at S.flight o ≡ Some f.1 = ap (record_in f.0) (ap (get S.flight) own.0 ∙ flies) ∙ f.2 in
        none_waits m S facts silent gone rise own.1.0 x.task own.1.1 past o f.1.operand refl place
        (among_tasks ts ground.round.one own.1.0 x.task own.1.1 f.0 f.1.operand place)
        (waits_unready m S facts silent o f.1 at f.3)

    abbrev runs : Bool
    runs = runs_or_finished x.stage

    abbrev needs_more : Bool
    needs_more = not (list_all (is_past S) (needed_tasks ts x.task))

    abbrev queued : Bool
    queued = is_in_queue S x.task.number

    by_need : x.stage ≡ stage.Waiting → (b : Bool) → list_all (is_past S) (needed_tasks ts x.task) ≡ b
        → (runs || needs_more || queued) ≡ true
    by_need waits true e = absurd (needs_one waits e)
    by_need waits false e = or_left (runs || needs_more) queued (or_right runs needs_more (ap not e))

    by_stage : (s : Stage) → x.stage ≡ s → (runs || needs_more || queued) ≡ true
    by_stage stage.Waiting e = by_need e (list_all (is_past S) (needed_tasks ts x.task)) refl
    by_stage stage.Queued e =
        or_right (runs || needs_more) queued
        (ap (is_in_queue S) (ground.round.flying n x flies).0 ∙ ground.stages.queued n x flies e)
    by_stage stage.Running e =
        or_left (runs || needs_more) queued (or_left runs needs_more (ap runs_or_finished e))
    by_stage stage.Finished e =
        or_left (runs || needs_more) queued (or_left runs needs_more (ap runs_or_finished e))

    waits_right : waits_rightly S ts x ≡ true
    waits_right = by_stage x.stage refl

  -- no task in flight waits needlessly
  pub no_false_wait : HasNoFalseWait S ts
  no_false_wait = by (is_silent S.mail) refl
    where
      by : (b : Bool) → is_silent S.mail ≡ b
          → (not (is_silent S.mail) || list_all (waits_rightly S ts) (values S.flight)) ≡ true
      by false e =
          or_left (not (is_silent S.mail)) (list_all (waits_rightly S ts) (values S.flight)) (ap not e)
      by true e =
          or_right (not (is_silent S.mail)) (list_all (waits_rightly S ts) (values S.flight))
          (all_values nat_order (waits_rightly S ts) S.flight
          (λ n x flies. waits_right (no_message S e) n x flies))
