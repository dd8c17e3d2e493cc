-- The storage is that of the operand.
use Rattle.std.proofs.Common.{◌≡◌, ◌<◌, length, get_or, Some, sym, ◌∙◌, subst, arith}
use Rattle.std.proofs.lemmas.Option.{same_Some}
use Rattle.tss_base.specs.declared.operand.Mode.TheVariants as mode
use Rattle.tss_stations.specs.declared.operand_view.OperandView.{OperandView}
use Rattle.tss_pipeline.specs.Beginning.{IsStored}
use Rattle.tss_pipeline.specs.Fit.{ground_of}
use Rattle.tss_pipeline.proofs.worker_rows.StorageLemmas.{taken_there}
use Rattle.tss_pipeline.proofs.units.Units.storage_at.Goals as goal

pub storage_of-requires-clause-held : goal.storage_of-requires-clause-held
storage_of-requires-clause-held c =
    let t = c.args.task.now in
    let few = c.requires.place in
    let most = c.requires.count in
    let within : c.args.place < length c.args.task.now.operands = omega (arith, few, most) in
    c.requires.held c.args.place (get_or t.operands c.args.place
    (record { object = record { base = 0; len = 0 }; mode = mode.Input })) c.in-Some.view
    (taken_there t.count t.operands c.args.place
    (record { object = record { base = 0; len = 0 }; mode = mode.Input }) few within)
    (sym c.in-Some.ensures.exact)

pub returns-in-Some : goal.returns-in-Some
returns-in-Some c = λ o v at seen.
    let t = c.args.task.now in
    let few = c.requires.place in
    let most = c.requires.count in
    let within : c.args.place < length c.args.task.now.operands = omega (arith, few, most) in
    let its = get_or t.operands c.args.place (record { object = record { base = 0; len = 0 }; mode = mode.Input }) in
    let is : its ≡ o = same_Some its o
    (sym (taken_there t.count t.operands c.args.place
    (record { object = record { base = 0; len = 0 }; mode = mode.Input }) few within) ∙ at) in
    let view = same_Some c.in-Some.view v (c.in-Some.ensures.exact ∙ seen) in
    subst (λ o. IsStored (ground_of c.args.self.now) o v.storage (Some c.storage_of.result)) is
    (subst (λ (v : OperandView). IsStored (ground_of c.args.self.now) its v.storage (Some c.storage_of.result)) view
    c.storage_of.ensures)
