-- There is room for an object that isn't named yet, and it goes to its place.
use Rattle.std.proofs.Common.{arith, ap, sym, subst, ◌∙◌, ◌<◌, length}
use Rattle.std.proofs.lemmas.List.Sorted.{length_permutation}
use Rattle.tss_model.specs.Spawn.{overlaps}
use Rattle.tss_operands.specs.Naming.{is_named}
use Rattle.tss_operands.specs.Placed.{EndsBefore}
use Rattle.tss_operands.proofs.PlacedLemmas.{AreKept-name}
use Rattle.tss_operands.proofs.epoch.Epoch.name.Goals as goal

pub unreachable-requires : goal.unreachable-requires
unreachable-requires c =
    let spare = subst (λ e. length e.objects < e.limit) (sym c.self.view_is)
    (c.requires.room (sym c.has.ensures ∙ c.if-has.false)) in
    let as_many = length_permutation c.self.inside.named.items c.self.inside.by_base.items c.self.invariant.same in
    omega (arith, c.self.invariant.base_fits, c.in-Err.ensures.full)

pub invariant_of-self : goal.invariant_of-self
invariant_of-self c =
    let object = c.args.object in
    let fresh = sym c.has.ensures ∙ c.if-has.false in
    AreKept-name c.self.inside.limit c.self.inside.named.items c.self.inside.by_base.items _ _ c.self.invariant
    object c.ended_by-place.result
    (subst (λ xs. EndsBefore xs object.base c.ended_by-place.result) c.as_slice.ensures.value c.ended_by-place.ensures)
    c.requires.some
    (ap (λ e. overlaps e.objects object) c.self.view_is ∙ c.requires.apart)
    (ap (λ e. is_named e.objects object) c.self.view_is ∙ fresh)
    (subst (λ e. length e.objects < e.limit) (sym c.self.view_is) (c.requires.room fresh))
    _ _ c.push_reserved.ensures.items c.in-Ok.ensures.items
    _ _ c.push_reserved.ensures.capacity c.in-Ok.ensures.capacity
