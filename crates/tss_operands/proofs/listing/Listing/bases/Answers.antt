-- Each place's base, also of those that are free.
use Rattle.std.proofs.Common.{rules, of_calls, arith, ◌≡◌, ap, sym, ◌∙◌, map, take, get_or}
use Rattle.std.proofs.lemmas.List.{same_lists, length-map, get_or-map}
use Rattle.tss_base.specs.declared.operand.Operand.{Operand}
use Rattle.tss_model.specs.Spawn.{no_operand, seven}
use Rattle.tss_operands.proofs.ListingLemmas.{length-items, map-seven}
use Rattle.tss_operands.proofs.listing.Listing.bases.Goals as goal

pub returns : goal.returns
returns c =
    let items = c.self.inside.items in
    let base = λ (o : Operand). o.object.base in
    let many = length-items c.self.inside.count items c.self.invariant in
    let mapped : c.map.result ≡ map base items =
    same_lists _ _ (c.map.ensures.items.long ∙ omega (arith, many, length-map items base))
    (λ k d within.
    let (p, q, call) = c.map.ensures.items.at k no_operand d (omega (arith, c.map.ensures.items.long)) in
    let read : get_or c.map.result k d ≡ base (get_or items k no_operand) = search (rules, of_calls) in
    read ∙ sym (get_or-map base items k no_operand d (omega (arith, c.map.ensures.items.long, many)))) in
    mapped ∙ ap (map base) c.self.invariant.rest ∙ map-seven base no_operand (take c.self.inside.count items)
    ∙ ap (λ os. seven 0 (map base os)) c.self.view_is
