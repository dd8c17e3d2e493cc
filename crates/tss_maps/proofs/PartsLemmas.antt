-- The keys of the entries of a finite map that pass a test.
use Rattle.std.proofs.Common.{◌≡◌, Bool, true, false, cond, List, [], ◌∷◌, Some, None, refl, sym, ap, ◌∙◌}
use Rattle.std.specs.Prelude.{T, ◌&&◌}
use Rattle.std.specs.declared.cmp.Ordering.{Ordering}
use Rattle.std.specs.declared.cmp.Ordering.TheVariants.{Less, Equal, Greater}
use Rattle.std.specs.Ordering.{eq_by_cmp, is_eq, is_lt}
use Rattle.std.specs.FinMap.{FinMap, get, entries, entries_sorted, get-entries, get-from_entries}
use Rattle.std.specs.FinMap.Entries.{find, below_all, is_sorted}
use Rattle.tss_maps.specs.Parts.{keys_in, keys_where, key_where}
use Rattle.tss_maps.proofs.Keys.{IsKeyOrder}

first : (a b : Bool) → T (a && b) → T a
first true b p = tt
first false b p = absurd p

second : (a b : Bool) → T (a && b) → T b
second true b p = p
second false b p = absurd p

less : (r : Ordering) → T (is_lt r) → is_eq r ≡ false
less Less p = refl
less Equal p = absurd p
less Greater p = absurd p

tied : (r : Ordering) → is_eq r ≡ true → r ≡ Equal
tied Less e = absurd (cc)
tied Equal e = refl
tied Greater e = absurd (cc)

module _ {K X : Type 0} {R : K → K → Ordering} (order : IsKeyOrder R) (p : K → X → Bool) where
  -- a key below all others isn't among them
  none_below : (k : K) (es : List (K × X)) → T (below_all R k es) → find R k (keys_in p es) ≡ None
  none_below k [] h = refl
  none_below k (e ∷ es) h =
      let rest = none_below k es (second (is_lt (R k e.0)) (below_all R k es) h) in
      let apart = less (R k e.0) (first (is_lt (R k e.0)) (below_all R k es) h) in
      elim (p e.0 e.1) as (λ b. find R k (cond b ((e.0, tt) ∷ keys_in p es) (keys_in p es)) ≡ None) [
        | true ↦ ap (λ b. cond b (Some tt) (find R k (keys_in p es))) apart ∙ rest
        | false ↦ rest
      ]

  -- the first entry of a list, at its own key, where that is below all others
  at_first : (k : K) (e : K × X) (es : List (K × X)) → T (below_all R e.0 es) → k ≡ e.0 → eq_by_cmp R k e.0 ≡ true
      → find R k (cond (p e.0 e.1) ((e.0, tt) ∷ keys_in p es) (keys_in p es)) ≡ cond (p k e.1) (Some tt) None
  at_first k e es h same t =
      elim (p e.0 e.1) as (λ b. find R k (cond b ((e.0, tt) ∷ keys_in p es) (keys_in p es)) ≡ cond b (Some tt) None) [
        | true ↦ ap (λ b. cond b (Some tt) (find R k (keys_in p es))) t
        | false ↦ ap (λ q. find R q (keys_in p es)) same ∙ none_below e.0 es h
      ] ∙ ap (λ q. cond (p q e.1) (Some tt) None) (sym same)

  find-keys_in : (k : K) (es : List (K × X)) → T (is_sorted R es)
      → find R k (keys_in p es) ≡ key_where p k (find R k es)
  find-keys_in k [] h = refl
  find-keys_in k (e ∷ es) h =
      let rest = find-keys_in k es (second (below_all R e.0 es) (is_sorted R es) h) in
      elim (eq_by_cmp R k e.0) as (λ t. eq_by_cmp R k e.0 ≡ t
      → find R k (cond (p e.0 e.1) ((e.0, tt) ∷ keys_in p es) (keys_in p es))
      ≡ key_where p k (cond t (Some e.1) (find R k es))) [
        | true ↦ λ t. at_first k e es (first (below_all R e.0 es) (is_sorted R es) h)
            (order.exact k e.0 (tied (R k e.0) t)) t
        | false ↦ λ t. elim (p e.0 e.1) as (λ b. find R k (cond b ((e.0, tt) ∷ keys_in p es) (keys_in p es))
            ≡ key_where p k (find R k es)) [
              | true ↦ ap (λ b. cond b (Some tt) (find R k (keys_in p es))) t ∙ rest
              | false ↦ rest
            ]
      ] refl

  -- what stands at a key
  pub get-keys_where : (m : FinMap R X) (k : K) → get (keys_where p m) k ≡ key_where p k (get m k)
  unfolding keys_where
  get-keys_where m k =
      get-from_entries order.total (keys_in p (entries m)) k
      ∙ find-keys_in k (entries m) (entries_sorted m)
      ∙ ap (key_where p k) (sym (get-entries m k))
