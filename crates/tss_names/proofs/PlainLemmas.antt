-- Plain facts of options, numbers and maps.
use Rattle.std.proofs.Common.{◌≡◌, ◌≢◌, true, Option, Some, None, inl, inr, refl, sym, ap, ◌∙◌, true≢false}
use Rattle.std.specs.Prelude.{is_some}
use Rattle.std.specs.FinMap.{get, remove}
use Rattle.std.proofs.lemmas.Option.{none-some}
use Rattle.tss_base.specs.declared.operand.OpName.{OpName}
use Rattle.tss_base.specs.Names.{Named}
use Rattle.tss_maps.proofs.Keys.{name_order, decide_key}
use Rattle.tss_maps.proofs.Changes.{at_removed, beside_removed}
pub use Rattle.tss_protocol.proofs.DrainedStates.{none_from_test, zero_from_test}

-- a test that finds a name in a set
pub some_unit : (o : Option (Unit {0})) → is_some o ≡ true → o ≡ Some tt
some_unit None e = absurd (true≢false (sym e))
some_unit (Some u) e = refl

-- where nothing stood, nothing stands after a removal
pub still_none : {X : Type 0} (m : Named X) (k q : OpName) → get m q ≡ None → get (remove m k) q ≡ None
still_none m k q none = elim (decide_key name_order q k) [
  | inl same ↦ ap (get (remove m k)) same ∙ at_removed name_order m k
  | inr other ↦ beside_removed name_order m k q other ∙ none
]

-- a key at which something stands isn't one at which nothing does
pub name_apart : {X : Type 0} (m : Named X) (q k : OpName) (x : X) → get m q ≡ Some x → get m k ≡ None → q ≢ k
name_apart m q k x there none same = none-some x (sym none ∙ ap (get m) (sym same) ∙ there)
