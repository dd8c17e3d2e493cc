-- Each range that can be written is the one in which its bytes lie.
use Rattle.std.proofs.Common.{◌≡◌, ℕ, ◌+◌, ◌<◌, length, drop, Option, Some, refl, sym, ap, subst, ◌∙◌, arith}
use Rattle.std.specs.Prelude.{fold, slice_get, IsSome}
use Rattle.std.proofs.lemmas.Option.{slice_get_within}
use Rattle.std.proofs.lemmas.List.{at_drop_all}
use Rattle.tss_model.specs.Memory.{MemoryRange, Memory, range_of, put_bytes}
use Rattle.tss_inorder.specs.Restarts.{with_range}
use Rattle.tss_inorder.proofs.RestartLemmas.{range_there, range_past, range_found, length-bytes_of, copied_next, with_range-written, with_range-kept, with_range-ranges}
use Rattle.tss_inorder.proofs.copying.copy_writable.Goals.{then-writable, else-writable}
use Rattle.tss_inorder.proofs.copying.copy_writable.Goals as goal

pub bytes-requires : goal.bytes-requires
bytes-requires c some =
    let ranges = c.args.from.now.ranges in
    let there = range_there (slice_get ranges c.loop-range.i) c.in-Some.range c.in-Some.writable c.in-Some.ensures.exact in
    subst (λ (o : Option _). IsSome o)
    (sym (range_found ranges c.in-Some.ensures.ranges c.loop-range.i (record { range = c.in-Some.range; writable = c.in-Some.writable }) there some)) refl

pub copy_in-requires : goal.copy_in-requires
copy_in-requires c some =
    let ranges = c.args.from.now.ranges in
    let there = range_there (slice_get ranges c.loop-range.i) c.in-Some.range c.in-Some.writable c.in-Some.ensures.exact in
    let long : length c.bytes.result.now ≡ c.in-Some.range.len = ap length c.bytes.ensures ∙ length-bytes_of c.args.from.now c.in-Some.range in
    let same : c.loop-range.space.ranges ≡ ranges = c.loop-range.invariant.ranges ∙ sym c.requires in
    (λ j. range_of (same j) (record { base = c.in-Some.range.base; len = long j }))
    ∙ range_found ranges c.in-Some.ensures.ranges c.loop-range.i (record { range = c.in-Some.range; writable = c.in-Some.writable }) there
    (subst (λ (n : ℕ). 0 < n) long some)
    ∙ ap Some c.if-writable.true

pub loop-range-smaller : goal.loop-range-smaller
loop-range-smaller c =
    let ranges = c.args.from.now.ranges in
    let there = range_there (slice_get ranges c.loop-range.i) c.in-Some.range c.in-Some.writable c.in-Some.ensures.exact in
    let within : c.loop-range.i < length ranges = slice_get_within ranges c.loop-range.i (record { range = c.in-Some.range; writable = c.in-Some.writable }) there in
    omega (arith, within)

pub loop-range-preserved : goal.loop-range-preserved
loop-range-preserved c =
    let from = c.args.from.now in
    let r = c.in-Some.range in
    let m : MemoryRange = record { range = r; writable = c.in-Some.writable } in
    let there = range_there (slice_get from.ranges c.loop-range.i) r c.in-Some.writable c.in-Some.ensures.exact in
    let within : c.loop-range.i < length from.ranges = slice_get_within from.ranges c.loop-range.i m there in
    let step : c.if-writable.space ≡ with_range from c.loop-range.space m = elim c.if-writable.branch [
      | then-writable w ↦ w.space-is ∙ w.copy_in.ensures ∙ ap (put_bytes c.loop-range.space r.base) w.bytes.ensures ∙ with_range-written from c.loop-range.space r c.in-Some.writable w.if-writable.true
      | else-writable w ↦ w.space-is ∙ with_range-kept from c.loop-range.space r c.in-Some.writable w.if-writable.false
    ] in
    record {
      within = omega (arith, within);
      copied =
          ap (λ (s : Memory). fold (with_range from) s (drop (c.loop-range.i + 1) from.ranges)) step
          ∙ sym (copied_next from c.loop-range.space from.ranges c.loop-range.i m there)
          ∙ c.loop-range.invariant.copied;
      ranges =
          ap (λ (s : Memory). s.ranges) step
          ∙ with_range-ranges from c.loop-range.space r c.in-Some.writable
          ∙ c.loop-range.invariant.ranges;
    }

pub returns-in_default-clause-copied : goal.returns-in_default-clause-copied
returns-in_default-clause-copied c =
    let from = c.args.from.now in
    sym (at_drop_all (fold (with_range from) c.loop-range.space) from.ranges c.loop-range.i (range_past from.ranges c.loop-range.i c.in_default.ensures.exact))
    ∙ c.loop-range.invariant.copied
