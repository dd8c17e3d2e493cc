-- A name is known where it has a place.
use Rattle.std.proofs.Common.{refl, ap, ◌∙◌}
use Rattle.std.specs.Prelude.{position, is_some}
use Rattle.tss_outside.specs.MemFiles.{has_name, is_known}
use Rattle.tss_outside.proofs.FileLemmas.{placed_or_not}
use Rattle.tss_outside.proofs.mem_files.MemFiles.knows.Goals as goal

pub returns : goal.returns
returns c =
    c.is_some.ensures
    ∙ ap is_some (c.place_of.ensures ∙ ap (position (has_name c.args.name.now)) c.as_slice.ensures.value)
    ∙ placed_or_not c.self.inside.files.items c.args.name.now _ refl
    ∙ ap (λ s. is_known s c.args.name.now) c.self.view_is
