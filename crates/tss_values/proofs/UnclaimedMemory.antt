-- An address that the test finds claimed by nobody lies in no object that is claimed.
use Rattle.std.proofs.Common.{Ordering, ◌≡◌, ℕ, zero, suc, Bool, true, false, List, [], ◌∷◌, Some, ap, ◌∙◌}
use Rattle.std.specs.Prelude.{slice_get, option_map, ◌||◌}
use Rattle.std.specs.List.{list_any}
use Rattle.std.specs.FinMap.{FinMap, get, entries, values}
use Rattle.std.proofs.lemmas.Bool.{or_parts, or_left, or_right, both_ways}
use Rattle.std.proofs.lemmas.Option.{none-some, same_Some, slice_get-map}
use Rattle.tss_base.specs.declared.operand.Operand.{Operand}
use Rattle.tss_maps.proofs.Keys.{IsKeyOrder, nat_order, name_order}
use Rattle.tss_maps.proofs.OrderedLemmas.{place_from_get}
use Rattle.tss_model.specs.Memory.{covers}
use Rattle.tss_model.specs.Access.{operands_of}
use Rattle.tss_protocol.specs.State.{State, Entry}
use Rattle.tss_program_order.specs.Refinement.{inbox_claims, is_claimed}
use Rattle.tss_values.proofs.Values.{IsUnclaimed}
use Rattle.tss_values.proofs.LiveObjects.{inside_covers}

-- an element that passes a test is found
any_from : {X : Type 0} (test : X → Bool) (xs : List X) (k : ℕ) (x : X) → slice_get xs k ≡ Some x → test x ≡ true
    → list_any test xs ≡ true
any_from test [] k x at passes = absurd (none-some x at)
any_from test (y ∷ ys) zero x at passes =
    or_left (test y) (list_any test ys) (ap test (same_Some y x at) ∙ passes)
any_from test (y ∷ ys) (suc k) x at passes = or_right (test y) (list_any test ys) (any_from test ys k x at passes)

-- so is a value of a map
any_value : {K X : Type 0} {R : K → K → Ordering} → IsKeyOrder R → (test : X → Bool) (m : FinMap R X) (k : K) (x : X)
    → get m k ≡ Some x → test x ≡ true → list_any test (values m) ≡ true
any_value {K} {X} order test m k x at passes =
    let p = place_from_get order m k x at in
    any_from test (values m) p.0 x
    (slice_get-map (λ (e : K × X). e.1) (entries m) p.0 ∙ ap (option_map (λ (e : K × X). e.1)) p.1) passes

module _ (S : State) (a : ℕ) (free : is_claimed S a ≡ false) where
  parts : (list_any (λ (e : Entry). covers e.object a) (values S.entries) || inbox_claims S.inbox a ≡ false)
      × (list_any (λ (o : Operand). covers o.object a) (values S.mail.decodes) ≡ false)
  parts = or_parts _ _ free

  early : (list_any (λ (e : Entry). covers e.object a) (values S.entries) ≡ false) × (inbox_claims S.inbox a ≡ false)
  early = or_parts _ _ parts.0

  -- it lies in no object that is claimed
  pub unclaimed : IsUnclaimed S a
  unclaimed = record {
    entered = λ b e at inside.
        both_ways (list_any (λ (e : Entry). covers e.object a) (values S.entries)) early.0
        (any_value nat_order (λ (e : Entry). covers e.object a) S.entries b e at (inside_covers e.object a inside));
    arriving = λ t there j p at inside.
        both_ways (inbox_claims S.inbox a) early.1
        (ap (λ i. inbox_claims i a) there
        ∙ any_from (λ (q : Operand). covers q.object a) (operands_of t) j p at (inside_covers p.object a inside));
    decoding = λ o p at inside.
        both_ways (list_any (λ (o : Operand). covers o.object a) (values S.mail.decodes)) parts.1
        (any_value name_order (λ (o : Operand). covers o.object a) S.mail.decodes o p at
        (inside_covers p.object a inside));
  }
