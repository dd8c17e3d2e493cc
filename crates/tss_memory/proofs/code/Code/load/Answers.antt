-- The segments are in address order.
use Rattle.std.proofs.Common.{ℕ, ◌+◌, ◌*◌, ◌≤◌, List, subst, sym}
use Rattle.tss_base.specs.declared.addresses.TheConstants.{END_PC}
use Rattle.tss_base.specs.Image.{SegmentState}
use Rattle.tss_memory.specs.Segments.{AreApart, AreKept}
use Rattle.tss_memory.proofs.code.Code.load.Goals as goal

pub kept_from-requires-clause-apart : goal.kept_from-requires-clause-apart
kept_from-requires-clause-apart c = subst AreApart (sym c.as_slice-2.ensures.value) c.in_ok-segments.ensures.apart

pub invariant_of-result : goal.invariant_of-result
invariant_of-result c =
    let segments = c.in_ok-segments.segments.items in
    let kept = c.in_ok-kept.kept.items in
    let same = c.as_slice-2.ensures.value in
    let facts = c.in_ok-kept.ensures in
    record {
      apart = c.in_ok-segments.ensures.apart;
      within =
          subst (λ (n : ℕ). c.kept_words-start.result.0 + 4 * n ≤ END_PC) (sym facts.count) c.kept_words-start.ensures;
      each = subst (λ (ss : List SegmentState). AreKept ss c.kept_words-start.result.0 kept) same facts.kept;
    }
