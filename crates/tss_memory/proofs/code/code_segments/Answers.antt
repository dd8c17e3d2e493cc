-- One more segment, which is code or isn't. What is left of segments in address order is in address order.
use Rattle.std.proofs.Common.{◌≤◌, List, [], ◌∷◌, ◌++◌, cond, take, subst, sym, ap, ◌∙◌, rules}
use Rattle.std.specs.Prelude.{filter}
use Rattle.std.proofs.lemmas.List.{append-nil, take_all}
use Rattle.std.proofs.lemmas.List.Kept.{AllPairs-filter}
use Rattle.tss_base.specs.Image.{SegmentState, segment_end}
use Rattle.tss_memory.specs.Segments.{AreApart}
use Rattle.tss_memory.proofs.LoadLemmas.{code_more}
use Rattle.tss_memory.proofs.code.code_segments.Goals as goal
use Rattle.tss_memory.proofs.code.code_segments.Goals.{then-code+in_ok-copy_of+in_ok-push, else-code}

pub loop-i-preserved : goal.loop-i-preserved
loop-i-preserved c =
    let segments = c.args.image.now.segments in
    let s = c.segment-segment.result.now in
    let kept : List SegmentState = filter (λ s. s.code) (take c.loop-i.i segments) in
    let more = code_more segments c.loop-i.i s c.segment-segment.ensures in
    elim c.if-code.branch [
      | then-code+in_ok-copy_of+in_ok-push w ↦
          (λ t. (w.segments-is t).items) ∙ w.in_ok-push.ensures.items
          ∙ (λ t. c.loop-i.invariant t ++ w.in_ok-copy_of.ensures t ∷ [])
          ∙ sym (more ∙ ap (λ b. kept ++ cond b (s ∷ []) []) (sym c.code.ensures ∙ w.if-code.true))
      | else-code w ↦
          (λ t. (w.segments-is t).items) ∙ c.loop-i.invariant
          ∙ sym (more ∙ ap (λ b. kept ++ cond b (s ∷ []) []) (sym c.code.ensures ∙ w.if-code.false) ∙ append-nil kept)
    ]

pub returns-clause-apart : goal.returns-clause-apart
returns-clause-apart c =
    let apart = AllPairs-filter (λ s t. segment_end s ≤ t.base)
    (λ s. s.code) c.args.image.now.segments c.count-i-end.ensures.accepted.ordered in
    let all = take_all c.loop-i.i c.args.image.now.segments (search rules) in
    subst AreApart (sym (c.loop-i.invariant ∙ ap (filter (λ s. s.code)) all)) apart
