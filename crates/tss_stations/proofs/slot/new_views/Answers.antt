-- Each operand is known as at first.
use Rattle.std.proofs.Common.{rules, of_calls, arith, ◌≡◌, sym, ◌∙◌, map, length, get_or}
use Rattle.std.proofs.lemmas.List.{same_lists, length-map, get_or-map}
use Rattle.tss_model.specs.Spawn.{no_operand}
use Rattle.tss_stations.specs.Views.{new_view}
use Rattle.tss_stations.proofs.slot.new_views.Goals as goal

pub returns : goal.returns
returns c =
    let os = c.args.operands in
    let many : length os ≡ 7 = omega arith in
    same_lists _ _ (c.map.ensures.items.long ∙ omega (arith, many, length-map os new_view))
    (λ k d within.
    let (p, q, call) = c.map.ensures.items.at k no_operand d (omega (arith, c.map.ensures.items.long)) in
    let read : get_or c.map.result k d ≡ new_view (get_or os k no_operand) = search (rules, of_calls) in
    read ∙ sym (get_or-map new_view os k no_operand d (omega (arith, c.map.ensures.items.long, many))))
