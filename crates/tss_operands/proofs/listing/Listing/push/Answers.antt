-- The places after the new one stay free.
use Rattle.std.proofs.Common.{arith, ◌<◌, subst, sym, length}
use Rattle.std.proofs.lemmas.List.{length-take}
use Rattle.tss_operands.proofs.ListingLemmas.{IsListing-push, length-items}
use Rattle.tss_operands.proofs.listing.Listing.push.Goals as goal

pub invariant_of-self : goal.invariant_of-self
invariant_of-self c =
    let count = c.self.inside.count in
    let items = c.self.inside.items in
    let room = subst (λ os. length os < 7) (sym c.self.view_is) c.requires in
    IsListing-push count items c.self.invariant c.args.operand
    (omega (arith, length-take count items, length-items count items c.self.invariant, c.self.invariant.few))
