-- Whether an operand on an object is to be decoded, by the decodes in order.
use Rattle.std.proofs.Common.{◌≡◌, ◌≢◌, ℕ, ◌<◌, ◌≤◌, Bool, true, false, not, length, Option, Some, None, sym, ap, ◌∙◌, arith}
use Rattle.std.specs.Prelude.{slice_get, option_and_then}
use Rattle.std.specs.FinMap.{get, keys}
use Rattle.std.proofs.lemmas.Option.{none-some, slice_get_within}
use Rattle.tss_base.specs.declared.operand.OpName.{OpName}
use Rattle.tss_base.specs.declared.operand.Operand.{Operand}
use Rattle.tss_base.specs.declared.range.Range.{Range}
use Rattle.tss_base.specs.Names.{Named}
use Rattle.tss_maps.specs.Sums.{count_of}
use Rattle.tss_maps.specs.Ordered.{key_at}
use Rattle.tss_maps.proofs.Keys.{name_order}
use Rattle.tss_maps.proofs.OrderedLemmas.{key_from_get}
use Rattle.tss_maps.proofs.Sums.{counted, count_none}
use Rattle.tss_banks.proofs.BankCounts.{same_number, other_number}
use Rattle.tss_protocol.specs.MainEvent.{is_operand_on, has_no_decode}
use Rattle.tss_pipeline.specs.Emptiness.{decode_at}

module _ (decodes : Named Operand) where
  -- an operand at a place stands under a name
  from_name : (o : Option OpName) (p : Operand) → option_and_then (get decodes) o ≡ Some p
      → (n : OpName) × (get decodes n ≡ Some p)
  from_name None p e = absurd (none-some p e)
  from_name (Some n) p e = (n, e)

  -- and the other way round
  place_of_decode : (o : OpName) (p : Operand) → get decodes o ≡ Some p
      → (i : ℕ) × (i < length (keys decodes)) × (decode_at decodes i ≡ Some p)
  unfolding key_at
  place_of_decode o p e =
      let t = key_from_get name_order decodes o p e in
      (t.0, slice_get_within (keys decodes) t.0 o t.1, ap (option_and_then (get decodes)) t.1 ∙ e)

module _ (object : Range) (decodes : Named Operand) where
  abbrev on_it : OpName → Operand → Bool
  on_it o p = is_operand_on object p

  some_number : (n : ℕ) → 1 ≤ n → n ≢ 0
  some_number n h e = omega (arith, h, e)

  -- one is on the object
  pub decode_found : (i : ℕ) (p : Operand) → decode_at decodes i ≡ Some p → is_operand_on object p ≡ true
      → true ≡ not (has_no_decode object decodes)
  decode_found i p at on =
      let t = from_name decodes (slice_get (keys decodes) i) p at in
      let most = counted name_order on_it decodes t.0 p t.1 on in
      sym (ap not (other_number (count_of on_it decodes) 0 (some_number (count_of on_it decodes) most)))

  -- none is
  pub decode_nowhere : (i : ℕ) → length (keys decodes) ≤ i
      → ((k : ℕ) (p : Operand) → k < i → decode_at decodes k ≡ Some p → is_operand_on object p ≡ false)
      → false ≡ not (has_no_decode object decodes)
  decode_nowhere i all each =
      sym (ap not (same_number (count_of on_it decodes) 0 (count_none name_order on_it decodes (λ o p e.
      let t = place_of_decode decodes o p e in
      let low = t.1 in
      each t.0 p (omega (arith, low, all)) t.2))))
