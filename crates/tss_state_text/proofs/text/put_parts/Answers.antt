-- The parts go out one after another.
use Rattle.std.proofs.Common.{◌≡◌, ◌+◌, ap, ◌∙◌, arith}
use Rattle.tss_model.specs.Memory.{loaded}
use Rattle.tss_text.proofs.PieceLemmas.{none_put, more_put, failed_put, all_put}
use Rattle.tss_state_text.specs.StateText.{part_text}
use Rattle.tss_state_text.proofs.ItemLemmas.{parts_from, part_at, all_left, none_left, parts_next}
use Rattle.tss_state_text.proofs.text.put_parts.Goals as goal

pub loop-part-init : goal.loop-part-init
loop-part-init g c =
    none_put g.K.Sink c.args.to.now _ _ (all_left (loaded c.args.image.now) c.args.p.now.machine c.args.p.now.state)

pub returns-in_err-put_part : goal.returns-in_err-put_part
returns-in_err-put_part g c =
    let before = loaded c.args.image.now in
    let m = c.args.p.now.machine in
    let s = c.args.p.now.state in
    let i = c.loop-part.part-index in
    let put = failed_put c.loop-part.invariant (part_text before m s (part_at i)) (parts_from before m s (i + 1))
    (parts_next before m s i (omega arith)) c.in_err-put_part.ensures c.from_residual.ensures.0 in
    record { text = put; same_sink = put.same_sink }

pub loop-part-preserved : goal.loop-part-preserved
loop-part-preserved g c =
    let before = loaded c.args.image.now in
    let m = c.args.p.now.machine in
    let s = c.args.p.now.state in
    let i = c.loop-part.part-index in
    more_put c.loop-part.invariant (part_text before m s (part_at i)) (parts_from before m s (i + 1))
    (parts_next before m s i (omega arith)) c.in_ok-put_part.ensures

pub returns : goal.returns
returns g c =
    let before = loaded c.args.image.now in
    let m = c.args.p.now.machine in
    let s = c.args.p.now.state in
    let end : c.loop-part.part-index ≡ 19 = omega arith in
    let put = all_put c.loop-part.invariant (ap (parts_from before m s) end ∙ none_left before m s) in
    record { text = put; same_sink = put.same_sink }
