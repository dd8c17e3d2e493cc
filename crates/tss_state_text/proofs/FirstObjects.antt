-- The first object that is there for the names that hold places of a bank.
use Rattle.std.proofs.Common.{◌≡◌, ℕ, ◌+◌, ◌<◌, ◌≤◌, true, false, drop, Option, Some, None, refl, sym, ap, ◌∙◌, arith}
use Rattle.std.specs.Prelude.{is_some}
use Rattle.std.specs.FinMap.{keys, len}
use Rattle.std.proofs.Math.ListN.{drop_of_length-le}
use Rattle.std.proofs.lemmas.List.{drop_more}
use Rattle.std.proofs.lemmas.Option.{none-some, slice_get_within, get_or_from_slice_get}
use Rattle.tss_base.specs.declared.operand.OpName.{OpName}
use Rattle.tss_base.specs.Names.{Named}
use Rattle.tss_maps.specs.Ordered.{key_at}
use Rattle.tss_maps.proofs.Keys.{name_order}
use Rattle.tss_maps.proofs.OrderedLemmas.{some_key_at}
use Rattle.tss_pipeline.specs.BankParts.{names_at}
use Rattle.tss_state_text.specs.StateText.{bank_names, first_of, first_for}
use Rattle.tss_state_text.proofs.BankLemmas.{names_same, key_count}
use Rattle.tss_state_text.proofs.ShownTexts.{name_place}

-- what isn't there is none
pub none_there : {X : Type 0} (o : Option X) → is_some o ≡ false → o ≡ None
none_there None e = refl
none_there (Some x) e = absurd (cc)

module _ {X : Type 0} (f : OpName → Option X) (b : ℕ) (held : Named ℕ) where
  -- the answers from a place on are that of its name, or those after it
  from_place : (i : ℕ) (v : OpName) → key_at (names_at b held) i ≡ Some v →
      first_for f (drop i (keys (bank_names b held))) ≡ first_of (f v) (first_for f (drop (i + 1) (keys (bank_names b held))))
  from_place i v at =
      let there = sym (name_place b held i) ∙ at in
      ap (first_for f) (drop_more (keys (bank_names b held)) i v (slice_get_within (keys (bank_names b held)) i v there))
      ∙ ap (λ k. first_of (f k) (first_for f (drop (i + 1) (keys (bank_names b held)))))
      (get_or_from_slice_get (keys (bank_names b held)) i v v there)

  -- where its name has none, those after it
  pub next_names : (i : ℕ) (v : OpName) → key_at (names_at b held) i ≡ Some v → f v ≡ None →
      first_for f (drop i (keys (bank_names b held))) ≡ first_for f (drop (i + 1) (keys (bank_names b held)))
  next_names i v at none =
      from_place i v at ∙ ap (λ o. first_of o (first_for f (drop (i + 1) (keys (bank_names b held))))) none

  -- where it has one, that one
  pub first_here : (i : ℕ) (v : OpName) (o : Option X) → key_at (names_at b held) i ≡ Some v → o ≡ f v → is_some o ≡ true →
      o ≡ first_for f (drop i (keys (bank_names b held)))
  first_here i v None at e some = absurd (not_both some)
    where
      not_both : false ≡ true → ⊥
      not_both h = cc
  first_here i v (Some x) at e some =
      sym (from_place i v at ∙ ap (λ o. first_of o (first_for f (drop (i + 1) (keys (bank_names b held))))) (sym e))

  -- at the end there is none
  pub no_names : (i : ℕ) → len (names_at b held) ≤ i → first_for f (drop i (keys (bank_names b held))) ≡ None
  no_names i past =
      let count = ap len (names_same b held) ∙ key_count (bank_names b held) in
      ap (first_for f) (drop_of_length-le (keys (bank_names b held)) (omega (arith, past, count)))

  -- below the count there is a name
  pub name_there : (i : ℕ) → i < len (names_at b held) → key_at (names_at b held) i ≡ None → ⊥
  name_there i h none =
      let t = some_key_at name_order (names_at b held) i h in
      none-some t.0 (sym none ∙ t.1)
