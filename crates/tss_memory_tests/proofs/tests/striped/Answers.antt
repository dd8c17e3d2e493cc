-- One segment more lies at the end of those before.
use Rattle.std.proofs.Common.{◌≡◌, ◌+◌, ◌≤◌, List, length, sym, ap, subst, ◌∙◌, arith, rules}
use Rattle.tss_base.specs.Image.{SegmentState}
use Rattle.tss_memory_tests.proofs.StripedLemmas.{AreStriped, AreStriped-more}
use Rattle.tss_memory_tests.proofs.tests.striped.Goals as goal

pub loop-k-preserved : goal.loop-k-preserved
loop-k-preserved g c =
    let s = c.new.result in
    let len : length s.bytes ≡ c.args.len = ap (λ (x : SegmentState). length x.bytes) c.new.ensures ∙ search rules in
    let some : 4 ≤ c.args.len = search rules in
    let limit : c.loop-k.at + c.args.len ≤ 0x4010000 = omega (arith, c.loop-k.invariant.are.end) in
    record {
      count = search rules;
      are =
          subst (λ (xs : List SegmentState). AreStriped xs (c.loop-k.at + c.args.len)) (sym c.in_ok-push.ensures.items)
          (AreStriped-more c.loop-k.segments.items c.loop-k.at c.loop-k.invariant.are s (c.loop-k.at + c.args.len)
          (ap (λ (x : SegmentState). x.base) c.new.ensures) (ap (λ (x : SegmentState). x.code) c.new.ensures)
          (omega arith) (omega arith) limit);
    }
