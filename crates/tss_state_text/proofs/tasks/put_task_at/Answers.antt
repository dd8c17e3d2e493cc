-- The task is the one that is shown.
use Rattle.std.proofs.Common.{Bor, sym, ap, ◌∙◌}
use Rattle.std.specs.Prelude.{option_and_then, option_map}
use Rattle.tss_base.specs.declared.operand.Task.{Task}
use Rattle.tss_base.specs.declared.marks.Stage.{Stage}
use Rattle.tss_stations.specs.Reading.{found_in}
use Rattle.tss_text.proofs.PieceLemmas.{same_text}
use Rattle.tss_state_text.proofs.ShownTexts.{nothing_put}
use Rattle.tss_state_text.proofs.TaskLemmas.{task_text_at, no_task_at}
use Rattle.tss_state_text.proofs.tasks.put_task_at.Goals as goal

pub put_flying-requires : goal.put_flying-requires
put_flying-requires g c =
    let flight = c.args.p.now.state.flight in
    let number = sym c.task_at.ensures.number ∙ ap (option_map (λ (t : Bor Task × Stage). t.0.now.number)) c.in-Some.is in
    let task = ap (option_map (λ (t : Bor Task × Stage). (t.0.now, t.1))) (sym c.in-Some.is) ∙ c.task_at.ensures.task in
    sym (task ∙ ap (option_and_then (found_in flight)) number)

pub returns-in-Some : goal.returns-in-Some
returns-in-Some g c =
    let flight = c.args.p.now.state.flight in
    let number = sym c.task_at.ensures.number ∙ ap (option_map (λ (t : Bor Task × Stage). t.0.now.number)) c.in-Some.is in
    same_text (task_text_at flight c.args.i c.in-Some.task.now.number number) c.put_flying.ensures

pub returns-in-None : goal.returns-in-None
returns-in-None g c =
    let flight = c.args.p.now.state.flight in
    let number = sym c.task_at.ensures.number ∙ ap (option_map (λ (t : Bor Task × Stage). t.0.now.number)) c.in-None.is in
    same_text (no_task_at flight c.args.i number) (nothing_put g.K.Sink c.args.to.now)
