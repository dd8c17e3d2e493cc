-- The mark of a buffer.
use Rattle.std.proofs.Common.{◌≡◌, Bool, true, false, List, ℕ, refl, ap, sym, ◌∙◌}
use Rattle.std.specs.Prelude.{is_some}
use Rattle.std.proofs.lemmas.List.{get_or_default}
use Rattle.tss_buffers.specs.Block.{where_set}
use Rattle.tss_buffers.proofs.SeenLemmas.{seen_get, mark_fits}
use Rattle.tss_buffers.proofs.buffers.Buffers.is_set.Goals as goal

is_some-where_set : (b : Bool) (bytes : List ℕ) → is_some (where_set b bytes) ≡ b
is_some-where_set true bytes = refl
is_some-where_set false bytes = refl

pub returns : goal.returns
returns c =
    let b = c.self.inside in
    let seen = seen_get b.banks b.each b.object_bytes b.set.items b.bytes.items c.self.invariant c.args.self.now c.self.view_is
    c.args.bank c.args.place c.requires c.number_of.result c.number_of.ensures in
    let within = mark_fits b.banks b.each b.object_bytes b.set.items b.bytes.items c.self.invariant c.args.self.now c.self.view_is
    c.args.bank c.args.place c.requires c.number_of.result c.number_of.ensures in
    c.index.ensures
    ∙ sym (get_or_default b.set.items c.number_of.result false c.index.result.now within)
    ∙ sym (ap is_some seen ∙ is_some-where_set _ _)
