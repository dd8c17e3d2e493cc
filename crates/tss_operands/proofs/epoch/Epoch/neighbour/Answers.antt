-- It is the object at the place where the search stops, and the objects are the named ones.
use Rattle.std.proofs.Common.{◌≡◌, subst, sym, ap, ◌∙◌, option_copied}
use Rattle.std.specs.Prelude.{slice_get}
use Rattle.std.proofs.lemmas.List.Sorted.{IsPermutation-sym}
use Rattle.tss_operands.specs.Placed.{EndsBefore, IsNeighbour}
use Rattle.tss_operands.proofs.PlacedLemmas.{copied_at, neighbour_at, IsNeighbour-IsPermutation}
use Rattle.tss_operands.proofs.epoch.Epoch.neighbour.Goals as goal

pub returns : goal.returns
returns c =
    let objects = c.self.inside.by_base.items in
    let named = c.self.inside.named.items in
    let at = c.args.at in
    let place = c.ended_by-place.result in
    let read : option_copied c.get.result ≡ slice_get objects place =
    copied_at c.deref.result.now place c.get.result c.get.ensures.lookup
    ∙ ap (λ xs. slice_get xs place) c.deref.ensures.value in
    let found = neighbour_at objects at place c.self.invariant.placed
    (subst (λ xs. EndsBefore xs at place) c.as_slice.ensures.value c.ended_by-place.ensures) in
    subst (λ e. IsNeighbour e.objects at (option_copied c.get.result)) c.self.view_is
    (IsNeighbour-IsPermutation objects named at _ (IsPermutation-sym named objects c.self.invariant.same)
    (subst (IsNeighbour objects at) (sym read) found))
