-- What a task sees after a store.
use Rattle.std.proofs.Common.{refl, sym, ap}
use Rattle.tss_model.specs.Memory.{Memory}
use Rattle.tss_model.specs.Core.{low_bytes}
use Rattle.tss_steps.proofs.ByteLemmas.{put_bytes-byte}
use Rattle.tss_steps.proofs.ViewLemmas.{scratch_stored, scratch_left, beyond_stored, beyond_left, width_some, access_range}
use Rattle.tss_steps.proofs.PlaceLemmas.{beside_address}
use Rattle.tss_inorder.specs.Home.{home_terms}
use Rattle.tss_inorder.proofs.views.HomeTaskView.store.Goals as goal

pub returns-then-contains-clause-bytes : goal.returns-then-contains-clause-bytes
returns-then-contains-clause-bytes c =
    let v = c.args.self.now in
    let t = home_terms v.code.now v.space.now.ranges v.operands.now in
    scratch_stored t t v.space.now.ranges v.operands.now refl refl v.scratch.now v.space.now
    c.args.at c.args.width c.args.value c.put.new.self c.put.ensures.len (sym c.if-contains.ensures.exact) c.put.ensures.exact

pub returns-then-contains-clause-leaves : goal.returns-then-contains-clause-leaves
returns-then-contains-clause-leaves c =
    let v = c.args.self.now in
    let t = home_terms v.code.now v.space.now.ranges v.operands.now in
    record {
      left =
          scratch_left t t v.space.now.ranges v.operands.now refl refl v.scratch.now v.space.now
          c.args.at c.args.width c.args.value c.put.new.self (sym c.if-contains.ensures.exact) (width_some c.args.width c.requires) c.put.ensures.exact;
      same = record { ranges = refl; reference = refl; scratch_reference = refl };
    }

pub returns-clause-bytes : goal.returns-clause-bytes
returns-clause-bytes c =
    let v = c.args.self.now in
    let t = home_terms v.code.now v.space.now.ranges v.operands.now in
    let u = home_terms v.code.now c.set_number.new.self.ranges v.operands.now in
    beyond_stored t u v.space.now.ranges v.operands.now refl (λ i. home_terms v.code.now (c.set_number.ensures i).ranges v.operands.now)
    v.scratch.now v.space.now c.args.at c.args.width c.args.value c.set_number.new.self
    (λ a low high. beside_address v.space.now.ranges (access_range c.args.at c.args.width) (c.in_ok-found.found).writable a v.ground.beside
    c.in_ok-found.ensures.found.within low high)
    c.in_ok-found.ensures.granted c.set_number.ensures
    (put_bytes-byte v.space.now c.args.at (low_bytes c.args.width c.args.value))

pub returns-clause-leaves : goal.returns-clause-leaves
returns-clause-leaves c =
    let v = c.args.self.now in
    let t = home_terms v.code.now v.space.now.ranges v.operands.now in
    let u = home_terms v.code.now c.set_number.new.self.ranges v.operands.now in
    record {
      left =
          beyond_left t u v.space.now.ranges v.operands.now refl (λ i. home_terms v.code.now (c.set_number.ensures i).ranges v.operands.now)
          v.scratch.now v.space.now c.args.at c.args.width c.args.value c.set_number.new.self
          (λ a low high. beside_address v.space.now.ranges (access_range c.args.at c.args.width) (c.in_ok-found.found).writable a v.ground.beside
          c.in_ok-found.ensures.found.within low high)
          c.in_ok-found.ensures.granted c.set_number.ensures (width_some c.args.width c.requires);
      same = record { ranges = ap (λ (m : Memory). m.ranges) c.set_number.ensures; reference = refl; scratch_reference = refl };
    }
