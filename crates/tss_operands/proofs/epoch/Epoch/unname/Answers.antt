-- The object where the search stops leaves both lists, if it has the base.
use Rattle.std.proofs.Common.{◌≡◌, None, is_some, sym, ap, ◌∙◌, subst, rules}
use Rattle.std.specs.Slice.{IsItemAt}
use Rattle.std.proofs.lemmas.Fn.{filter_same}
use Rattle.tss_model.specs.Spawn.{named_at, unnamed}
use Rattle.tss_operands.specs.Placed.{EndsBefore}
use Rattle.tss_operands.proofs.UnnamingLemmas.{found_other, found_past, found_there, item_at, seen_left, seen_same, AreKept-unname}
use Rattle.tss_operands.proofs.epoch.Epoch.unname.Goals as goal
use Rattle.tss_operands.proofs.epoch.Epoch.unname.Goals.{in_default-via-in-Some+else-object-base, in_default-via-in_default}

pub returns-in_default-clause-named : goal.returns-in_default-clause-named
returns-in_default-clause-named c =
    let named = c.self.inside.named.items in
    let objects = c.self.inside.by_base.items in
    let base = c.args.base in
    let place = c.ended_by-place.result in
    let split = subst (λ xs. EndsBefore xs base place) c.as_slice.ensures.value c.ended_by-place.ensures in
    let none : named_at named base ≡ None =
    elim c.in_default.branch [
      | in_default-via-in-Some+else-object-base w ↦
          found_other named objects c.deref.result.now base place c.deref.ensures.value c.self.invariant.same
          c.self.invariant.placed split w.in-Some.object w.in-Some.ensures.lookup w.if-object-base.false
      | in_default-via-in_default w ↦
          found_past named objects c.deref.result.now base place c.deref.ensures.value c.self.invariant.same
          c.self.invariant.placed split
          (subst (IsItemAt c.deref.result.now place) w.in_default.is c.get.ensures.lookup)
    ] in
    sym (ap (λ e. is_some (named_at e.objects base)) (sym c.self.view_is) ∙ ap is_some none)

pub returns-in_default-clause-left : goal.returns-in_default-clause-left
returns-in_default-clause-left c =
    let named = c.self.inside.named.items in
    let objects = c.self.inside.by_base.items in
    let base = c.args.base in
    let place = c.ended_by-place.result in
    let split = subst (λ xs. EndsBefore xs base place) c.as_slice.ensures.value c.ended_by-place.ensures in
    let none : named_at named base ≡ None =
    elim c.in_default.branch [
      | in_default-via-in-Some+else-object-base w ↦
          found_other named objects c.deref.result.now base place c.deref.ensures.value c.self.invariant.same
          c.self.invariant.placed split w.in-Some.object w.in-Some.ensures.lookup w.if-object-base.false
      | in_default-via-in_default w ↦
          found_past named objects c.deref.result.now base place c.deref.ensures.value c.self.invariant.same
          c.self.invariant.placed split
          (subst (IsItemAt c.deref.result.now place) w.in_default.is c.get.ensures.lookup)
    ] in
    seen_same c.args.self.now base (subst (λ e. named_at e.objects base ≡ None) c.self.view_is none)

pub invariant_of-self : goal.invariant_of-self
invariant_of-self c =
    let named = c.self.inside.named.items in
    let objects = c.self.inside.by_base.items in
    let base = c.args.base in
    let place = c.ended_by-place.result in
    let there = item_at c.deref.result.now objects place base c.in-Some.object c.deref.ensures.value
    c.in-Some.ensures.lookup c.if-object-base.true in
    let left : c.retain.new.self.items ≡ unnamed named base =
    filter_same _ _ _ (λ x b f' k. search rules) _ _ c.retain.ensures.filtered in
    AreKept-unname c.self.inside.limit named objects _ _ c.self.invariant base place there.0 there.1
    c.retain.new.self.items c.remove.new.self.items left c.remove.ensures.items
    _ _ c.retain.ensures.capacity c.remove.ensures.capacity

pub returns-clause-named : goal.returns-clause-named
returns-clause-named c =
    let named = c.self.inside.named.items in
    let objects = c.self.inside.by_base.items in
    let base = c.args.base in
    let place = c.ended_by-place.result in
    let split = subst (λ xs. EndsBefore xs base place) c.as_slice.ensures.value c.ended_by-place.ensures in
    let found = found_there named objects c.deref.result.now base place c.deref.ensures.value c.self.invariant.same
    c.self.invariant.placed split c.in-Some.object c.in-Some.ensures.lookup c.if-object-base.true in
    sym (ap (λ e. is_some (named_at e.objects base)) (sym c.self.view_is) ∙ ap is_some found)

pub returns-clause-left : goal.returns-clause-left
returns-clause-left c =
    let named = c.self.inside.named.items in
    let base = c.args.base in
    let left : c.retain.new.self.items ≡ unnamed named base =
    filter_same _ _ _ (λ x b f' k. search rules) _ _ c.retain.ensures.filtered in
    seen_left c.self.inside.limit named c.retain.new.self.items base c.args.self.now c.self.view_is left
