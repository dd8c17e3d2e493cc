-- No two names hold one place: what a name that takes a free place, and one that gives its place back, leave of that.
use Rattle.std.proofs.Common.{ℕ, Some, sym, ap, ◌∙◌, inl, inr}
use Rattle.std.specs.FinMap.{insert, remove, empty, get-empty}
use Rattle.std.proofs.lemmas.Option.{none-some}
use Rattle.tss_base.specs.declared.operand.OpName.{OpName}
use Rattle.tss_base.specs.Names.{name_cmp, Named}
use Rattle.tss_maps.proofs.Keys.{name_order}
use Rattle.tss_maps.proofs.Changes.{from_inserted, from_removed}
use Rattle.tss_renaming.specs.Holding.{AreApart, IsFree}

-- where no name holds a place
pub apart_empty : AreApart empty
apart_empty o q p e g = absurd (none-some p (sym (get-empty name_cmp o) ∙ e))

module _ (places : Named ℕ) (o : OpName) (apart : AreApart places) where
  -- a name that takes a free place
  pub apart_inserted : (size p : ℕ) → IsFree places size p → AreApart (insert places o p)
  apart_inserted size p free x y q ex ey = elim (from_inserted name_order places o p x q ex) [
    | inl new ↦ elim (from_inserted name_order places o p y q ey) [
      | inl also ↦ new.0 ∙ sym also.0
      | inr old ↦ absurd (free.free y (old.1 ∙ ap Some new.1))
    ]
    | inr was ↦ elim (from_inserted name_order places o p y q ey) [
      | inl new ↦ absurd (free.free x (was.1 ∙ ap Some new.1))
      | inr old ↦ apart x y q was.1 old.1
    ]
  ]

  -- a name that gives its place back
  pub apart_removed : AreApart (remove places o)
  apart_removed x y q ex ey =
      apart x y q (from_removed name_order places o x q ex).1 (from_removed name_order places o y q ey).1
