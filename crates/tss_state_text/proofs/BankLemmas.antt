-- The parts of a state that stand in one bank, as the readers have them.
use Rattle.std.proofs.Common.{◌≡◌, ℕ, true, false, Bool, length, Option, Some, None, refl, sym, ap, ◌∙◌}
use Rattle.std.specs.Prelude.{◌==◌, option_map, slice_get, option_and_then}
use Rattle.std.specs.FinMap.{FinMap, get, entries, keys, len, len-entries}
use Rattle.std.specs.declared.cmp.Ordering.{Ordering}
use Rattle.std.proofs.lemmas.List.{length-map}
use Rattle.tss_base.specs.declared.machine.Sizes.{Sizes}
use Rattle.tss_base.specs.Names.{Named, Numbered}
use Rattle.tss_maps.proofs.Keys.{IsKeyOrder}
use Rattle.tss_maps.proofs.OrderedLemmas.{key_at-entries, get_from_place}
use Rattle.tss_banks.specs.Collected.{collected}
use Rattle.tss_protocol.specs.Names.{bank_of}
use Rattle.tss_protocol.specs.State.{Entry, Version}
use Rattle.tss_pipeline.specs.BankParts.{value_if, value_at, entries_at, names_at, versions_at}
use Rattle.tss_state_text.specs.StateText.{kept_if, bank_entries, bank_names, bank_versions}

kept_same : {X : Type 0} (x : X) (b : Bool) → value_if x b ≡ kept_if x b
kept_same x true = refl
kept_same x false = refl

pub entries_same : (sizes : Sizes) (b : ℕ) (es : Numbered Entry) → entries_at sizes b es ≡ bank_entries sizes b es
entries_same sizes b es = λ i. collected (λ base e. kept_same e (bank_of sizes e.object == b) i) es

pub names_same : (b : ℕ) (held : Named ℕ) → names_at b held ≡ bank_names b held
names_same b held = λ i. collected (λ n bank. kept_same bank (bank == b) i) held

pub versions_same : (sizes : Sizes) (b : ℕ) (vs : Named Version) → versions_at sizes b vs ≡ bank_versions sizes b vs
versions_same sizes b vs = λ i. collected (λ v x. kept_same x (bank_of sizes x.object == b) i) vs

module _ {K X : Type 0} {R : K → K → Ordering} where
  -- there are as many keys as entries
  pub key_count : (m : FinMap R X) → len m ≡ length (keys m)
  key_count m = len-entries m ∙ sym (length-map (entries m) (λ (e : K × X). e.0))

  value_by : (order : IsKeyOrder R) (m : FinMap R X) (i : ℕ) (o : Option (K × X)) → slice_get (entries m) i ≡ o →
      option_and_then (get m) (option_map (λ (e : K × X). e.0) o) ≡ option_map (λ (e : K × X). e.1) o
  value_by order m i None at = refl
  value_by order m i (Some (k, x)) at = get_from_place order m i k x at

  -- what stands under the key at a place is what stands at the place
  pub value_at-entries : (order : IsKeyOrder R) (m : FinMap R X) (i : ℕ) →
      value_at m i ≡ option_map (λ e. e.1) (slice_get (entries m) i)
  value_at-entries order m i =
      ap (option_and_then (get m)) (key_at-entries order m i) ∙ value_by order m i (slice_get (entries m) i) refl
