-- A bank copies where it has a job.
use Rattle.std.proofs.Common.{◌∙◌, sym, ap, length, slice_get}
use Rattle.std.specs.FinMap.{get}
use Rattle.std.specs.Prelude.{is_some}
use Rattle.tss_protocol.specs.UnitMachine.{is_enabled}
use Rattle.tss_pipeline.specs.State.{copies_from}
use Rattle.tss_pipeline.proofs.worker_rows.CopyLemmas.{copy_here, no_copy_here, job_there, at_place, test_less, test_not_less}
use Rattle.tss_pipeline.proofs.units.Units.can_copy.Goals as goal

pub returns-in-Some : goal.returns-in-Some
unfolding is_enabled
returns-in-Some c =
    let u = c.args.self.now in
    let bank = c.in-Some.bank.now in
    let found = at_place c.deref.result.now c.args.b bank
    (test_less c.args.b (length c.deref.result.now) c.in-Some.ensures.lookup.0)
    c.in-Some.ensures.lookup.1 in
    let there = ap (λ bs. slice_get bs c.args.b) (sym c.deref.ensures.value) ∙ found in
    c.is_some.ensures
    ∙ job_there bank.renaming bank.engine bank.job (c.requires.placed.own c.args.b bank there).engine
    ∙ ap is_some (sym (copy_here u.banks.items c.args.b bank there))

pub returns-in-None : goal.returns-in-None
unfolding is_enabled
returns-in-None c =
    sym (ap is_some (ap (λ bs. get (copies_from 0 bs) c.args.b) (sym c.deref.ensures.value)
    ∙ no_copy_here c.deref.result.now c.args.b
    (test_not_less c.args.b (length c.deref.result.now) c.in-None.ensures.lookup.0)))
