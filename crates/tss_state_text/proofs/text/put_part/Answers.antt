-- The items go out one after another.
use Rattle.std.proofs.Common.{◌+◌, ◌∙◌, arith}
use Rattle.tss_model.specs.Memory.{loaded}
use Rattle.tss_text.proofs.PieceLemmas.{none_put, more_put, failed_put, all_put}
use Rattle.tss_state_lines.proofs.Ranges.{texts_from, all_texts, no_texts, texts_next}
use Rattle.tss_state_text.specs.Items.{item_count, item_text}
use Rattle.tss_state_text.proofs.ItemLemmas.{part_items}
use Rattle.tss_state_text.proofs.text.put_part.Goals as goal

pub loop-i-init : goal.loop-i-init
loop-i-init g c =
    let before = loaded c.args.image.now in
    let m = c.args.p.now.machine in
    let s = c.args.p.now.state in
    let count = item_count m s c.args.part in
    none_put g.K.Sink c.args.to.now _ _
    (part_items before m s c.args.part ∙ all_texts (item_text before m s c.args.part) 0 count count (omega arith))

pub returns-in_err-put_item : goal.returns-in_err-put_item
returns-in_err-put_item g c =
    let m = c.args.p.now.machine in
    let s = c.args.p.now.state in
    let item = item_text (loaded c.args.image.now) m s c.args.part in
    let count = item_count m s c.args.part in
    let i = c.loop-i.i in
    let end = c.item_count-i-end.ensures in
    failed_put c.loop-i.invariant (item i) (texts_from item count (i + 1)) (texts_next item count i (omega (arith, end)))
    c.in_err-put_item.ensures c.from_residual.ensures.0

pub loop-i-preserved : goal.loop-i-preserved
loop-i-preserved g c =
    let m = c.args.p.now.machine in
    let s = c.args.p.now.state in
    let item = item_text (loaded c.args.image.now) m s c.args.part in
    let count = item_count m s c.args.part in
    let i = c.loop-i.i in
    let end = c.item_count-i-end.ensures in
    more_put c.loop-i.invariant (item i) (texts_from item count (i + 1)) (texts_next item count i (omega (arith, end)))
    c.in_ok-put_item.ensures

pub returns : goal.returns
returns g c =
    let m = c.args.p.now.machine in
    let s = c.args.p.now.state in
    let item = item_text (loaded c.args.image.now) m s c.args.part in
    let end = c.item_count-i-end.ensures in
    all_put c.loop-i.invariant (no_texts item (item_count m s c.args.part) c.loop-i.i (omega (arith, end)))
