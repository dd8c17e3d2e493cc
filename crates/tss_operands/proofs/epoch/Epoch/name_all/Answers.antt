-- Each operand's object can be named after those before it.
use Rattle.std.proofs.Common.{ap, sym, subst, ◌∙◌, get_or, refl, arith}
use Rattle.std.proofs.lemmas.List.{length-map, take_all}
use Rattle.tss_model.specs.Access.{operands_of}
use Rattle.tss_model.specs.Spawn.{name_object, name_objects, objects_of, no_operand}
use Rattle.tss_operands.specs.Naming.{CanName, EpochState}
use Rattle.tss_operands.proofs.NamingLemmas.{CanName-operand, name_objects-operand}
use Rattle.tss_operands.proofs.epoch.Epoch.name_all.Goals as goal

pub loop-operand-init : goal.loop-operand-init
loop-operand-init c = refl

pub name-requires : goal.name-requires
name-requires c =
    let os = operands_of c.args.task.now in
    let e = c.args.self.now in
    let i = c.loop-operand.operand-index in
    subst (λ (x : EpochState). CanName x (get_or os i no_operand).object) (sym c.loop-operand.invariant)
    (CanName-operand e.limit e.objects os c.requires.apart i no_operand c.loop-operand-test.true)

pub loop-operand-preserved : goal.loop-operand-preserved
loop-operand-preserved c =
    let os = operands_of c.args.task.now in
    let e = c.args.self.now in
    let i = c.loop-operand.operand-index in
    c.name.ensures
    ∙ ap (λ (x : EpochState). record x { objects = name_object x.objects (get_or os i no_operand).object })
    c.loop-operand.invariant
    ∙ ap (λ xs. record e { objects = xs })
    (sym (name_objects-operand e.limit e.objects os c.requires.apart i no_operand c.loop-operand-test.true))

pub returns : goal.returns
returns c =
    let os = operands_of c.args.task.now in
    let e = c.args.self.now in
    let i = c.loop-operand.operand-index in
    c.loop-operand.invariant
    ∙ ap (λ xs. record e { objects = name_objects e.objects xs })
    (take_all i (objects_of os) (omega (arith, length-map os (λ o. o.object), c.loop-operand-test.false)))
