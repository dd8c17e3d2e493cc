-- Workers follow the tasks of program order in every run that has the values.
use Rattle.std.proofs.Common.{◌≡◌, ◌⊎◌, inl, inr, ℕ, ◌<◌, ◌≤◌, sym, ap, ◌∙◌, arith}
use Rattle.std.proofs.lemmas.Bool.{cases_order}
use Rattle.std.proofs.lemmas.Option.{none-some, same_Some}
use Rattle.tss_base.specs.declared.machine.Machine.{Machine}
use Rattle.tss_base.specs.Image.{ImageState}
use Rattle.tss_model.specs.MainStep.{MainState}
use Rattle.tss_model.specs.InOrder.{Started, started_at, end_of_started}
use Rattle.tss_program_order.specs.MainInOrder.{steps_taken, flat_beside, IsCutOff}
use Rattle.tss_program_order.specs.Refinement.{RunsToEnd, WorkerBytesLaw}
use Rattle.tss_names.specs.Tasks.{spawned_tasks}
use Rattle.tss_program_order.proofs.FlatNumbers.{number_there, one_place}
use Rattle.tss_program_order.proofs.FlatStarts.{started-number}
use Rattle.tss_control.proofs.GroundworkRuns.{HasGroundwork-Run}
use Rattle.tss_names.proofs.NumberLemmas.{number_within}
use Rattle.tss_program_order.proofs.StoreFollows.{runs-follows}
use Rattle.tss_values.proofs.Values.{Starts}
use Rattle.tss_values.proofs.ValuesJoin.{HaveValues}

module _ (m : Machine) (i : ImageState) (main : MainState) (n : ℕ) (some : 0 < n) (few : n ≤ main.spawned)
    (ends : (k : ℕ) → 0 < k → k < n → RunsToEnd i m.limits k) where
  cut_before : (cut : IsCutOff i m.limits main) → cut.started.task.number < n → ⊥
  cut_before cut less =
      let number = started-number i m.limits cut.place cut.started cut.start in
      let e = ends cut.started.task.number (omega (arith, number)) less in
      let place = one_place i m.limits cut.place e.0 cut.started e.1 cut.start e.2 (sym e.3) in
      let same = same_Some cut.started e.1 (sym cut.start ∙ ap (started_at i m.limits) place ∙ e.2) in
      none-some cut.trap
      (sym e.4 ∙ ap (λ (s : Started). (end_of_started i m.limits s).trap) (sym same) ∙ cut.trapped)

  -- program order starts a spawned task where all before it run to their ends
  started_in_order : (main ≡ (flat_beside i m.limits main).main) ⊎ IsCutOff i m.limits main
      → (s : Started) × Starts m i n s
  started_in_order (inl same) =
      let spawned = ap (λ (s : MainState). s.spawned) same in
      let h = number_there i m.limits n (steps_taken main) some (omega (arith, few, spawned)) in
      (h.started, (h.place, h.start, h.number))
  started_in_order (inr cut) = elim (cases_order n cut.started.task.number) [
    | inl here ↦ (cut.started, (cut.place, cut.start, sym here))
    | inr (inl before) ↦
        let number = started-number i m.limits cut.place cut.started cut.start in
        let h = number_there i m.limits n cut.place some (omega (arith, before, number)) in
        (h.started, (h.place, h.start, h.number))
    | inr (inr after) ↦ absurd (cut_before cut after)
  ]

-- each worker stands where program order has its task
pub workers_of_values : HaveValues → WorkerBytesLaw
workers_of_values have m i es S accepted admissible run w b there ends =
    let values = have m i es S accepted admissible run in
    let ground = HasGroundwork-Run m i es S run in
    let busy = ground.stages.workers w b there in
    let within = number_within (spawned_tasks m i es) b.task.number b.task busy.task in
    let spawned = ground.numbers.spawned in
    let s = started_in_order m i S.main b.task.number (omega (arith, within.0)) (omega (arith, within.1, spawned)) ends
    values.main.follows in
    runs-follows m i S b (values.workers.runs w b s.0 there s.1).0
