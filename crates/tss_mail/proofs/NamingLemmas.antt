-- The name at a place, table by table.
use Rattle.std.proofs.Common.{◌≡◌, ℕ, zero, suc, ◌+◌, ◌-◌, ◌<◌, ◌≤◌, List, [], ◌∷◌, ◌++◌, length, get_or, drop, map, Some, None, sym, ap, ◌∙◌, inl, inr, arith, option_map}
use Rattle.std.specs.Prelude.{slice_get}
use Rattle.std.proofs.Math.Seq.{drop-cons, drop-length}
use Rattle.std.proofs.lemmas.List.{length-map}
use Rattle.std.proofs.lemmas.Option.{none-some, slice_get_cases}
use Rattle.std.specs.FinMap.{len, keys, entries, len-entries}
use Rattle.tss_base.specs.declared.operand.OpName.{OpName}
use Rattle.tss_base.specs.Names.{Named}
use Rattle.tss_maps.specs.Ordered.{key_at}
use Rattle.tss_mail.specs.Kinds.{kind_at, event_of}
use Rattle.tss_mail.specs.Kept.{Letters}
use Rattle.tss_mail.proofs.Naming.{names_from}

-- among the first of two lists
at_first : {A B : Type 0} (f : A → B) (xs : List A) (rest : List B) (i : ℕ) (x : A) → slice_get xs i ≡ Some x →
    slice_get (map f xs ++ rest) i ≡ Some (f x)
at_first f [] rest i x e = absurd (none-some x e)
at_first f (y ∷ xs) rest zero x e = ap (option_map f) e
at_first f (y ∷ xs) rest (suc i) x e = at_first f xs rest i x e

-- among the second
at_second : {A B : Type 0} (f : A → B) (xs : List A) (rest : List B) (i : ℕ) → length xs ≤ i →
    slice_get (map f xs ++ rest) i ≡ slice_get rest (i - length xs)
at_second f [] rest i h = let e : i ≡ i - 0 = omega arith in ap (slice_get rest) e
at_second f (y ∷ xs) rest zero h = absurd (omega (arith, h))
at_second f (y ∷ xs) rest (suc i) h =
    let e : i - length xs ≡ suc i - suc (length xs) = omega arith in
    at_second f xs rest i (omega (arith, h)) ∙ ap (slice_get rest) e

len_keys : {X : Type 0} (m : Named X) → length (keys m) ≡ len m
len_keys m = length-map (entries m) (λ e. e.0) ∙ sym (len-entries m)

module _ (ts : List Letters) (number : ℕ) (now : Letters) (h : number < length ts) (read : now ≡ get_or ts number now) where
  rest_is : names_from number (drop number ts)
      ≡ map (event_of (kind_at number)) (keys now.entries) ++ names_from (suc number) (drop (suc number) ts)
  rest_is =
      ap (names_from number) (drop-cons ts number now h)
      ∙ ap (λ t. map (event_of (kind_at number)) (keys t.entries) ++ names_from (suc number) (drop (suc number) ts)) (sym read)

  -- the name is of this table
  pub named_here : (i : ℕ) (o : OpName) → key_at now.entries i ≡ Some o →
      slice_get (names_from number (drop number ts)) i ≡ Some (event_of (kind_at number) o)
  unfolding key_at
  named_here i o e =
      ap (λ es. slice_get es i) rest_is
      ∙ at_first (event_of (kind_at number)) (keys now.entries) (names_from (suc number) (drop (suc number) ts)) i o e

  -- there are fewer in this table
  pub past_here : (i : ℕ) → key_at now.entries i ≡ None → len now.entries ≤ i
  unfolding key_at
  past_here i e = elim ((slice_get_cases (keys now.entries) i).1) [
    | inl there ↦ absurd (none-some there.0 (sym e ∙ there.2))
    | inr past ↦ let n = len_keys now.entries in let p = past.0 in omega (arith, n, p)
  ]

  -- the name is of a later table
  pub named_later : (i : ℕ) → key_at now.entries i ≡ None →
      slice_get (names_from (suc number) (drop (suc number) ts)) (i - len now.entries)
      ≡ slice_get (names_from number (drop number ts)) i
  named_later i e =
      let n = len_keys now.entries in
      let past = past_here i e in
      let same : i - length (keys now.entries) ≡ i - len now.entries = ap (λ m. i - m) n in
      sym (ap (λ es. slice_get es i) rest_is
      ∙ at_second (event_of (kind_at number)) (keys now.entries) (names_from (suc number) (drop (suc number) ts)) i (omega (arith, n, past))
      ∙ ap (slice_get (names_from (suc number) (drop (suc number) ts))) same)

-- after the last table no name is left
pub none_left : (ts : List Letters) (number i : ℕ) → number ≡ length ts →
    slice_get (names_from number (drop number ts)) i ≡ None
none_left ts number i e = ap (λ n. slice_get (names_from number (drop n ts)) i) e ∙ ap (λ us. slice_get (names_from number us) i) (drop-length ts)
