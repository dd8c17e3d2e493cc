-- The first version of some banks, and that of one bank more.
use Rattle.std.proofs.Common.{◌≡◌, ℕ, ◌+◌, ◌<◌, Bool, true, false, cond, Option, Some, None, refl, sym, ap, ◌∙◌, inl, inr, ◌⊎◌, arith}
use Rattle.std.specs.Prelude.{◌==◌, option_map, option_and_then}
use Rattle.std.specs.Ordering.{is_lt}
use Rattle.std.specs.declared.cmp.Ordering.{Ordering}
use Rattle.std.specs.declared.cmp.Ordering.TheVariants.{Less, Equal, Greater}
use Rattle.std.specs.FinMap.{get}
use Rattle.std.proofs.lemmas.Option.{none-some, same_Some}
use Rattle.std.proofs.lemmas.Bool.Decides.{nat_tests}
use Rattle.tss_base.specs.declared.operand.OpName.{OpName}
use Rattle.tss_base.specs.declared.machine.Sizes.{Sizes}
use Rattle.tss_base.specs.Names.{Named, name_cmp}
use Rattle.tss_maps.proofs.Keys.{name_order, turned}
use Rattle.tss_banks.proofs.CollectedLemmas.{get-collected}
use Rattle.tss_protocol.specs.Names.{bank_of}
use Rattle.tss_protocol.specs.State.{Version}
use Rattle.tss_versions.specs.declared.version_view.VersionView.{VersionView}
use Rattle.tss_pipeline.specs.BankParts.{value_if, versions_at}
use Rattle.tss_state_text.specs.Versions.{is_above, next_entry, shown, earlier}
use Rattle.tss_state_text.proofs.NextEntries.{IsFirst, IsAbove, next_is_first, one_first}

-- ---- a bank's versions

module _ (sizes : Sizes) (vs : Named Version) (b : ℕ) where
  chosen_by : (k : OpName) (x : Version) (o : Option Version) → option_and_then (λ (y : Version). value_if y (bank_of sizes y.object == b)) o ≡ Some x
      → (o ≡ Some x) × ((bank_of sizes x.object == b) ≡ true)
  chosen_by k x None e = absurd (none-some x e)
  chosen_by k x (Some y) e = by (bank_of sizes y.object == b) refl e
    where
      by : (t : Bool) → (bank_of sizes y.object == b) ≡ t → value_if y t ≡ Some x → (Some y ≡ Some x) × ((bank_of sizes x.object == b) ≡ true)
      by true t e = (e, ap (λ (z : Version). bank_of sizes z.object == b) (sym (same_Some y x e)) ∙ t)
      by false t e = absurd (none-some x e)

  -- a version of the bank is one of all, and of the bank
  pub from_bank : (k : OpName) (x : Version) → get (versions_at sizes b vs) k ≡ Some x →
      (get vs k ≡ Some x) × ((bank_of sizes x.object == b) ≡ true)
  from_bank k x there =
      chosen_by k x (get vs k) (sym (get-collected name_order (λ v (y : Version). value_if y (bank_of sizes y.object == b)) vs k) ∙ there)

  -- and the other way round
  pub to_bank : (k : OpName) (x : Version) → get vs k ≡ Some x → (bank_of sizes x.object == b) ≡ true →
      get (versions_at sizes b vs) k ≡ Some x
  to_bank k x there of =
      get-collected name_order (λ v (y : Version). value_if y (bank_of sizes y.object == b)) vs k
      ∙ ap (option_and_then (λ (y : Version). value_if y (bank_of sizes y.object == b))) there
      ∙ ap (value_if x) of

-- ---- the earlier of two

-- the earlier of two entries, where there are any
abbrev pub earlier_entry : Option (OpName × Version) → Option (OpName × Version) → Option (OpName × Version)
earlier_entry None o = o
earlier_entry (Some a) None = Some a
earlier_entry (Some a) (Some b) = Some (cond (is_lt (name_cmp b.0 a.0)) b a)

-- that of two versions that are shown
pub shown_earlier : (a b : Option VersionView) →
    option_map shown (earlier a b) ≡ earlier_entry (option_map shown a) (option_map shown b)
shown_earlier None b = refl
shown_earlier (Some a) None = refl
shown_earlier (Some a) (Some b) = by (is_lt (name_cmp b.name a.name))
  where
    by : (t : Bool) → Some (shown (cond t b a)) ≡ Some (cond t (shown b) (shown a))
    by true = refl
    by false = refl

-- ---- banks one after another

-- a version above the name, of one of the banks before
pub record IsBefore (sizes : Sizes) (last : Option OpName) (b : ℕ) (k : OpName) (x : Version) : Type 0 where
  pub above : is_above last k ≡ true
  pub bank : bank_of sizes x.object < b

module _ (sizes : Sizes) (vs : Named Version) (last : Option OpName) where
  -- there is none of no bank
  pub first_of_none : IsFirst vs (IsBefore sizes last 0) None
  first_of_none k x there q = let h = q.bank in absurd (omega (arith, h))

  same_bank : (n b : ℕ) → (n == b) ≡ true → n ≡ b
  same_bank n b e = grind (arith, nat_tests)

  bank_same : (n b : ℕ) → n ≡ b → (n == b) ≡ true
  bank_same n b e = grind (arith, nat_tests)

  one_more : (n b : ℕ) → n < b + 1 → (n < b) ⊎ (n ≡ b)
  one_more n b h = grind arith

  module _ (b : ℕ) where
    below_next : (k : OpName) (x : Version) → IsBefore sizes last b k x → IsBefore sizes last (b + 1) k x
    below_next k x q = let h = q.bank in record { above = q.above; bank = omega (arith, h) }

    here_next : (k : OpName) (x : Version) → is_above last k ≡ true → (bank_of sizes x.object == b) ≡ true →
        IsBefore sizes last (b + 1) k x
    here_next k x up of = let same = same_bank (bank_of sizes x.object) b of in record { above = up; bank = omega (arith, same) }

    -- of one bank more: by what stands in that bank, and what stood in those before
    with_bank : (a n : Option (OpName × Version)) → IsFirst vs (IsBefore sizes last b) a →
        IsFirst (versions_at sizes b vs) (IsAbove (versions_at sizes b vs) last) n →
        IsFirst vs (IsBefore sizes last (b + 1)) (earlier_entry a n)
    with_bank None None first next = λ k x there q. elim (one_more (bank_of sizes x.object) b q.bank) [
      | inl before ↦ first k x there (record { above = q.above; bank = before })
      | inr here ↦ next k x (to_bank sizes vs b k x there (bank_same _ _ here)) q.above
    ]
    with_bank None (Some n) first next =
        let t = from_bank sizes vs b n.0 n.1 next.0 in (
          t.0,
          here_next n.0 n.1 next.1 t.1,
          λ k x there q. elim (one_more (bank_of sizes x.object) b q.bank) [
            | inl before ↦ absurd (first k x there (record { above = q.above; bank = before }))
            | inr here ↦ next.2 k x (to_bank sizes vs b k x there (bank_same _ _ here)) q.above
          ],
        )
    with_bank (Some a) None first next = (
      first.0,
      below_next a.0 a.1 first.1,
      λ k x there q. elim (one_more (bank_of sizes x.object) b q.bank) [
        | inl before ↦ first.2 k x there (record { above = q.above; bank = before })
        | inr here ↦ absurd (next k x (to_bank sizes vs b k x there (bank_same _ _ here)) q.above)
      ],
    )
    with_bank (Some a) (Some n) first next = by (name_cmp n.0 a.0) refl
      where
        t : (get vs n.0 ≡ Some n.1) × ((bank_of sizes n.1.object == b) ≡ true)
        t = from_bank sizes vs b n.0 n.1 next.0

        through : (k p q : OpName) → name_cmp k p ≡ Less → (q ≡ p) ⊎ (name_cmp p q ≡ Less) → name_cmp k q ≡ Less
        through k p q up (inl same) = ap (name_cmp k) same ∙ up
        through k p q up (inr more) = name_order.total.trans k p q up more

        first_is : name_cmp a.0 n.0 ≡ Less → IsFirst vs (IsBefore sizes last (b + 1)) (Some a)
        first_is up = (
          first.0,
          below_next a.0 a.1 first.1,
          λ k x there q. elim (one_more (bank_of sizes x.object) b q.bank) [
            | inl before ↦ first.2 k x there (record { above = q.above; bank = before })
            | inr here ↦ inr (through a.0 n.0 k up (next.2 k x (to_bank sizes vs b k x there (bank_same _ _ here)) q.above))
          ],
        )

        next_is : name_cmp n.0 a.0 ≡ Less → IsFirst vs (IsBefore sizes last (b + 1)) (Some n)
        next_is up = (
          t.0,
          here_next n.0 n.1 next.1 t.1,
          λ k x there q. elim (one_more (bank_of sizes x.object) b q.bank) [
            | inl before ↦ inr (through n.0 a.0 k up (first.2 k x there (record { above = q.above; bank = before })))
            | inr here ↦ next.2 k x (to_bank sizes vs b k x there (bank_same _ _ here)) q.above
          ],
        )

        same_is : n.0 ≡ a.0 → IsFirst vs (IsBefore sizes last (b + 1)) (Some a)
        same_is same = (
          first.0,
          below_next a.0 a.1 first.1,
          λ k x there q. elim (one_more (bank_of sizes x.object) b q.bank) [
            | inl before ↦ first.2 k x there (record { above = q.above; bank = before })
            | inr here ↦ of_name k (next.2 k x (to_bank sizes vs b k x there (bank_same _ _ here)) q.above)
          ],
        )
          where
            of_name : (k : OpName) → (k ≡ n.0) ⊎ (name_cmp n.0 k ≡ Less) → (k ≡ a.0) ⊎ (name_cmp a.0 k ≡ Less)
            of_name k (inl is) = inl (is ∙ same)
            of_name k (inr up) = inr (ap (λ q. name_cmp q k) (sym same) ∙ up)

        by : (o : Ordering) → name_cmp n.0 a.0 ≡ o → IsFirst vs (IsBefore sizes last (b + 1)) (Some (cond (is_lt o) n a))
        by Less e = next_is e
        by Equal e = same_is (name_order.exact n.0 a.0 e)
        by Greater e = first_is (turned name_order n.0 a.0 Greater e)

    -- the first of the banks before and of this one
    pub first_with : (a : Option (OpName × Version)) → IsFirst vs (IsBefore sizes last b) a →
        IsFirst vs (IsBefore sizes last (b + 1)) (earlier_entry a (next_entry (versions_at sizes b vs) last))
    first_with a first =
        with_bank a (next_entry (versions_at sizes b vs) last) first (next_is_first (versions_at sizes b vs) last)

  -- of all banks it is the next entry
  pub first_of_all : (banks : ℕ) (a : Option (OpName × Version)) → ((x : Version) → bank_of sizes x.object < banks) →
      IsFirst vs (IsBefore sizes last banks) a → a ≡ next_entry vs last
  first_of_all banks a each first =
      one_first vs (IsBefore sizes last banks) a (next_entry vs last) first (by (next_entry vs last) (next_is_first vs last))
    where
      by : (o : Option (OpName × Version)) → IsFirst vs (IsAbove vs last) o → IsFirst vs (IsBefore sizes last banks) o
      by None none = λ k x there q. none k x there q.above
      by (Some e) is = (is.0, record { above = is.1; bank = each e.1 }, λ k x there q. is.2 k x there q.above)
