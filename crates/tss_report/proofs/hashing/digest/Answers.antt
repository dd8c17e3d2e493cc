-- What each range adds is taken.
use Rattle.std.proofs.Common.{sym, ◌∙◌, arith}
use Rattle.tss_report.proofs.DigestLemmas.{is_at, none_at, within, readable, nothing_hashed, range_hashed, all_hashed}
use Rattle.tss_report.proofs.hashing.digest.Goals as goal

pub loop-range-init : goal.loop-range-init
loop-range-init c = nothing_hashed c.args.space.now c.new-hasher.result c.new-hasher.ensures

pub hashed_bytes-requires : goal.hashed_bytes-requires
hashed_bytes-requires c =
    readable c.args.space.now
    (is_at c.args.space.now c.loop-range.i c.in-Some.range c.in-Some.writable c.in-Some.ensures.exact)

pub overflow_add-i : goal.overflow_add-i
overflow_add-i c =
    let there = within c.args.space.now
    (is_at c.args.space.now c.loop-range.i c.in-Some.range c.in-Some.writable c.in-Some.ensures.exact) in
    let few = c.range_at.ensures.ranges.few in
    omega (arith, there, few)

pub loop-range-smaller : goal.loop-range-smaller
loop-range-smaller c =
    let there = within c.args.space.now
    (is_at c.args.space.now c.loop-range.i c.in-Some.range c.in-Some.writable c.in-Some.ensures.exact) in
    omega (arith, there)

pub loop-range-preserved : goal.loop-range-preserved
loop-range-preserved c =
    let m = c.args.space.now in
    let at = is_at m c.loop-range.i c.in-Some.range c.in-Some.writable c.in-Some.ensures.exact in
    range_hashed m c.hashed_bytes.result.now c.loop-range.invariant at c.hashed_bytes.ensures c.update.ensures

pub returns : goal.returns
returns c =
    let m = c.args.space.now in
    let end = none_at m c.loop-range.i (sym c.in_default.is ∙ c.range_at.ensures.exact) in
    c.finalize.ensures _ (all_hashed m c.loop-range.hasher c.loop-range.i c.loop-range.invariant end)
