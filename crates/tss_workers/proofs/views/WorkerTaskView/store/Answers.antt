-- What a task sees after a store.
use Rattle.std.proofs.Common.{Option, refl, sym, subst}
use Rattle.tss_model.specs.Core.{Write}
use Rattle.tss_steps.proofs.ViewLemmas.{scratch_stored, width_some}
use Rattle.tss_workers.specs.Spots.{operands_at, spot_terms, stores_of}
use Rattle.tss_workers.specs.Working.{TaskLeaves}
use Rattle.tss_workers.proofs.SightLemmas.{stores_there, stored_there, left_there, may_not_there, may_not_elsewhere, store_refused, writes_nothing, same_sight}
use Rattle.tss_workers.proofs.views.WorkerTaskView.store.Goals as goal

pub returns-then-contains-clause-bytes : goal.returns-then-contains-clause-bytes
returns-then-contains-clause-bytes c =
    let v = c.args.self.now in
    let t = spot_terms v.code.now v.space.now.ranges v.spots.now in
    scratch_stored t t v.space.now.ranges (operands_at v.spots.now) refl refl v.scratch.now (stores_of v.space.now v.buffers.now)
    c.args.at c.args.width c.args.value c.put.new.self c.put.ensures.len (sym c.if-contains.ensures.exact) c.put.ensures.exact

pub returns-then-not-writes-clause-exact : goal.returns-then-not-writes-clause-exact
returns-then-not-writes-clause-exact c =
    let v = c.args.self.now in
    let some = width_some c.args.width c.requires in
    let outside = sym c.if-contains.ensures.exact in
    let refused = may_not_there v.code.now v.space.now v.buffers.now v.spots.now v.workable v.scratch.now c.args.at c.args.width some outside
    c.in-Some.i c.spot_in.result c.spot_in.ensures.there c.spot_in.ensures.inside (sym c.if-not-writes.ensures) in
    store_refused v.code.now v.space.now v.buffers.now v.spots.now v.workable v.scratch.now c.args.at c.args.width some outside refused

pub returns-then-not-writes-clause-bytes : goal.returns-then-not-writes-clause-bytes
returns-then-not-writes-clause-bytes c =
    let v = c.args.self.now in
    let some = width_some c.args.width c.requires in
    let outside = sym c.if-contains.ensures.exact in
    let refused = may_not_there v.code.now v.space.now v.buffers.now v.spots.now v.workable v.scratch.now c.args.at c.args.width some outside
    c.in-Some.i c.spot_in.result c.spot_in.ensures.there c.spot_in.ensures.inside (sym c.if-not-writes.ensures) in
    same_sight v.code.now v.space.now v.buffers.now v.spots.now v.workable v.scratch.now c.args.at c.args.width some outside refused c.args.value

pub returns-then-not-writes-clause-leaves : goal.returns-then-not-writes-clause-leaves
returns-then-not-writes-clause-leaves c =
    let v = c.args.self.now in
    let some = width_some c.args.width c.requires in
    let outside = sym c.if-contains.ensures.exact in
    let refused = may_not_there v.code.now v.space.now v.buffers.now v.spots.now v.workable v.scratch.now c.args.at c.args.width some outside
    c.in-Some.i c.spot_in.result c.spot_in.ensures.there c.spot_in.ensures.inside (sym c.if-not-writes.ensures) in
    subst (λ (w : Option Write). TaskLeaves v w v)
    (sym (writes_nothing v.code.now v.space.now v.buffers.now v.spots.now v.workable v.scratch.now c.args.at c.args.width some outside refused c.args.value))
    (record {
      left = record { terms = refl; scratch = refl; beyond = refl };
      same = record {
        ranges = refl;
        sizes = record { banks = refl; each = refl; bytes = refl };
        reference = refl;
        buffers_reference = refl;
        scratch_reference = refl;
      };
    })

pub returns-else-not-writes-clause-exact : goal.returns-else-not-writes-clause-exact
returns-else-not-writes-clause-exact c =
    let v = c.args.self.now in
    stores_there v.code.now v.space.now v.buffers.now v.spots.now v.workable v.scratch.now c.args.at c.args.width
    (width_some c.args.width c.requires) (sym c.if-contains.ensures.exact)
    c.in-Some.i c.spot_in.result c.spot_in.ensures.there c.spot_in.ensures.inside (sym c.if-not-writes.ensures) c.args.value

pub returns-else-not-writes-clause-bytes : goal.returns-else-not-writes-clause-bytes
returns-else-not-writes-clause-bytes c =
    let v = c.args.self.now in
    stored_there v.code.now v.space.now v.buffers.now v.spots.now v.workable v.scratch.now c.args.at c.args.width
    (width_some c.args.width c.requires) (sym c.if-contains.ensures.exact)
    c.in-Some.i c.spot_in.result c.spot_in.ensures.there c.spot_in.ensures.inside (sym c.if-not-writes.ensures) c.args.value
    c.put_in-self.new.space c.put_in-self.new.buffers c.put_in-self.ensures.ranges c.put_in-self.ensures.exact c.put_in-self.ensures.bytes

pub returns-else-not-writes-clause-leaves : goal.returns-else-not-writes-clause-leaves
returns-else-not-writes-clause-leaves c =
    let v = c.args.self.now in
    record {
      left =
          left_there v.code.now v.space.now v.buffers.now v.spots.now v.workable v.scratch.now c.args.at c.args.width
          (width_some c.args.width c.requires) (sym c.if-contains.ensures.exact)
          c.in-Some.i c.spot_in.result c.spot_in.ensures.there c.spot_in.ensures.inside (sym c.if-not-writes.ensures) c.args.value
          c.put_in-self.new.space c.put_in-self.new.buffers c.put_in-self.ensures.ranges c.put_in-self.ensures.exact;
      same = record {
        ranges = c.put_in-self.ensures.ranges;
        sizes = c.put_in-self.ensures.sizes;
        reference = refl;
        buffers_reference = refl;
        scratch_reference = refl;
      };
    }

pub returns-in-None-clause-exact : goal.returns-in-None-clause-exact
returns-in-None-clause-exact c =
    let v = c.args.self.now in
    let some = width_some c.args.width c.requires in
    let outside = sym c.if-contains.ensures.exact in
    let refused = may_not_elsewhere v.code.now v.space.now v.buffers.now v.spots.now v.workable v.scratch.now c.args.at c.args.width some outside
    (c.in-None.ensures.none refl) in
    store_refused v.code.now v.space.now v.buffers.now v.spots.now v.workable v.scratch.now c.args.at c.args.width some outside refused

pub returns-in-None-clause-bytes : goal.returns-in-None-clause-bytes
returns-in-None-clause-bytes c =
    let v = c.args.self.now in
    let some = width_some c.args.width c.requires in
    let outside = sym c.if-contains.ensures.exact in
    let refused = may_not_elsewhere v.code.now v.space.now v.buffers.now v.spots.now v.workable v.scratch.now c.args.at c.args.width some outside
    (c.in-None.ensures.none refl) in
    same_sight v.code.now v.space.now v.buffers.now v.spots.now v.workable v.scratch.now c.args.at c.args.width some outside refused c.args.value

pub returns-in-None-clause-leaves : goal.returns-in-None-clause-leaves
returns-in-None-clause-leaves c =
    let v = c.args.self.now in
    let some = width_some c.args.width c.requires in
    let outside = sym c.if-contains.ensures.exact in
    let refused = may_not_elsewhere v.code.now v.space.now v.buffers.now v.spots.now v.workable v.scratch.now c.args.at c.args.width some outside
    (c.in-None.ensures.none refl) in
    subst (λ (w : Option Write). TaskLeaves v w v)
    (sym (writes_nothing v.code.now v.space.now v.buffers.now v.spots.now v.workable v.scratch.now c.args.at c.args.width some outside refused c.args.value))
    (record {
      left = record { terms = refl; scratch = refl; beyond = refl };
      same = record {
        ranges = refl;
        sizes = record { banks = refl; each = refl; bytes = refl };
        reference = refl;
        buffers_reference = refl;
        scratch_reference = refl;
      };
    })
