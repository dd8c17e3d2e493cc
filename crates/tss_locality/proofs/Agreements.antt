-- Agreement of maps and of optional values: what an insertion or a removal leaves, two changes in turn, and agreement
-- on less.
use Rattle.std.proofs.Common.{◌≡◌, Option, Some, None, refl, sym, ap, ◌∙◌, subst, inl, inr}
use Rattle.std.specs.declared.cmp.Ordering.{Ordering}
use Rattle.std.specs.FinMap.{FinMap, get, insert, remove}
use Rattle.std.proofs.lemmas.Option.{none-some, same_Some}
use Rattle.tss_maps.proofs.Keys.{IsKeyOrder, decide_key}
use Rattle.tss_maps.proofs.Changes.{beside_inserted, beside_removed, at_inserted, at_removed, from_inserted}
use Rattle.tss_maps.proofs.Changes.{from_removed}
use Rattle.tss_locality.specs.Agreement.{Beyond, AgreeAt, ClosedAt, SameFor}

module _ {K X : Type 0} {R : K → K → Ordering} where
  -- a map agrees with itself
  pub agree_same : (A : K → Type 0) (m : FinMap R X) → AgreeAt A m m
  agree_same A m q a = refl

  -- two changes in turn
  pub agree_then : (A : K → Type 0) (l m n : FinMap R X) → AgreeAt A l m → AgreeAt A m n → AgreeAt A l n
  agree_then A l m n first second q a = second q a ∙ first q a

  -- agreement on less
  pub agree_less : (A B : K → Type 0) (m n : FinMap R X) → ((q : K) → B q → A q) → AgreeAt A m n → AgreeAt B m n
  agree_less A B m n less same q b = same q (less q b)

module _ {K X : Type 0} {R : K → K → Ordering} (order : IsKeyOrder R) (P : K → Type 0) (m : FinMap R X) (k : K) where
  -- an insertion at a key of P
  pub agree_inserted : (v : X) → P k → AgreeAt (Beyond P) m (insert m k v)
  agree_inserted v p q out = beside_inserted order m k v q (λ same. out (subst P (sym same) p))

  -- a removal at a key of P
  pub agree_removed : P k → AgreeAt (Beyond P) m (remove m k)
  agree_removed p q out = beside_removed order m k q (λ same. out (subst P (sym same) p))

module _ {K X : Type 0} {R : K → K → Ordering} (order : IsKeyOrder R) (P : K → Type 0) (Q : X → Type 0)
    (m : FinMap R X) (k : K) where
  -- what is inserted is of the kind, where its key is one of these
  pub closed_put : (v : X) → ClosedAt P Q m → (P k → Q v) → ClosedAt P Q (insert m k v)
  closed_put v c of_kind q x p e = elim (from_inserted order m k v q x e) [
    | inl new ↦ subst Q (sym new.1) (of_kind (subst P new.0 p))
    | inr old ↦ c q x p old.1
  ]

  -- what is inserted is of the kind
  pub closed_inserted : (v : X) → ClosedAt P Q m → Q v → ClosedAt P Q (insert m k v)
  closed_inserted v c of_kind = closed_put v c (λ p. of_kind)

  -- a removal
  pub closed_removed : ClosedAt P Q m → ClosedAt P Q (remove m k)
  closed_removed c q x p e = c q x p (from_removed order m k q x e).1

module _ {X : Type 0} (A : X → Type 0) where
  -- the same value
  pub same_for : (a : Option X) → SameFor A a a
  same_for a x in_a = (λ e. e, λ e. e)

  -- two values that are equal
  same_for_equal : (a b : Option X) → b ≡ a → SameFor A a b
  same_for_equal a b e x in_a = (λ there. e ∙ there, λ there. sym e ∙ there)

  -- a value of another kind
  abbrev pub IsOther : Option X → Type 0
  IsOther a = (x : X) → A x → a ≡ Some x → ⊥

  -- no value
  pub other_none : IsOther None
  other_none x in_a e = absurd (none-some x e)

  -- a value that isn't of this kind
  pub other_some : (y : X) → (A y → ⊥) → IsOther (Some y)
  other_some y out x in_a e = out (subst A (sym (same_Some y x e)) in_a)

  -- values of another kind both before and after
  pub same_for_other : (a b : Option X) → IsOther a → IsOther b → SameFor A a b
  same_for_other a b before after x in_a = (λ e. absurd (before x in_a e), λ e. absurd (after x in_a e))

module _ {K X : Type 0} {R : K → K → Ordering} (order : IsKeyOrder R) (A : X → Type 0) (m : FinMap R X) (k : K)
    (other : IsOther A (get m k)) where
  -- where a value of another kind stood, another such value is put
  pub same_for_inserted : (v : X) → (A v → ⊥) → (q : K) → SameFor A (get m q) (get (insert m k v) q)
  same_for_inserted v out q = elim (decide_key order q k) [
    | inl same ↦
        same_for_other A (get m q) (get (insert m k v) q)
        (subst (IsOther A) (ap (get m) (sym same)) other)
        (subst (IsOther A) (sym (ap (get (insert m k v)) same ∙ at_inserted order m k v)) (other_some A v out))
    | inr apart ↦ same_for_equal A (get m q) (get (insert m k v) q) (beside_inserted order m k v q apart)
  ]

  -- or it is removed
  pub same_for_removed : (q : K) → SameFor A (get m q) (get (remove m k) q)
  same_for_removed q = elim (decide_key order q k) [
    | inl same ↦
        same_for_other A (get m q) (get (remove m k) q)
        (subst (IsOther A) (ap (get m) (sym same)) other)
        (subst (IsOther A) (sym (ap (get (remove m k)) same ∙ at_removed order m k)) (other_none A))
    | inr apart ↦ same_for_equal A (get m q) (get (remove m k) q) (beside_removed order m k q apart)
  ]
