-- Banks that have no version.
use Rattle.std.proofs.Common.{◌≡◌, ℕ, None, sym, ap, ◌∙◌}
use Rattle.std.specs.FinMap.{get, empty, get-empty}
use Rattle.std.proofs.lemmas.Option.{none-some}
use Rattle.tss_base.specs.declared.operand.OpName.{OpName}
use Rattle.tss_base.specs.Names.{name_cmp, Named}
use Rattle.tss_versions.specs.declared.kept.Kept.{Kept}
use Rattle.tss_versions.specs.Known.{AreNumbered}

module _ (vs : Named Kept) (none : vs ≡ empty) where
  -- under no name there is one
  pub none_there : (v : OpName) → get vs v ≡ None
  none_there v = ap (λ (m : Named Kept). get m v) none ∙ get-empty name_cmp v

  -- all have these numbers
  pub none_numbered : (places buffers : ℕ) → AreNumbered places buffers vs
  none_numbered places buffers v x there = absurd (none-some x (sym (none_there v) ∙ there))
