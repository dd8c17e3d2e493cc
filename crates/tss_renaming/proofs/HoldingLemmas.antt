-- The places out of a pool are those that the names hold, after each change.
use Rattle.std.proofs.Common.{◌≡◌, ℕ, ◌+◌, ◌<◌, Option, None, Some, sym, ap, ◌∙◌, inl, inr, arith, refl}
use Rattle.std.specs.Prelude.{IfSome}
use Rattle.std.specs.FinMap.{get, insert, remove, empty, get-empty, len-empty}
use Rattle.std.specs.Ordering.{nat_cmp}
use Rattle.std.proofs.lemmas.Option.{none-some, same_Some}
use Rattle.tss_base.specs.declared.operand.OpName.{OpName}
use Rattle.tss_base.specs.Names.{name_cmp}
use Rattle.tss_maps.proofs.Keys.{nat_order, name_order}
use Rattle.tss_maps.proofs.Changes.{apart_absent, at_inserted, beside_inserted, beside_removed, from_inserted, from_removed}
use Rattle.tss_maps.proofs.Entries.{len_added, len_removed}
use Rattle.tss_tables.specs.Table.{TableState}
use Rattle.tss_tokens.specs.Pool.{PoolState}
use Rattle.tss_renaming.specs.Holding.{AreHeld, IsFree, HoldsAlone}
use Rattle.tss_renaming.proofs.ApartLemmas.{apart_empty, apart_inserted, apart_removed}

-- no place is held
pub held_empty : (number size : ℕ)
    → AreHeld (record { number = number; size = size; out = empty }) (record { size = size; entries = empty })
held_empty number size = record {
  room = refl;
  count = len-empty nat_cmp (Unit {0}) ∙ sym (len-empty name_cmp ℕ);
  out = λ o p e. absurd (none-some p (sym (get-empty name_cmp o) ∙ e));
  held = λ p e. absurd (none-some tt (sym (get-empty nat_cmp p) ∙ e));
  apart = apart_empty;
}

module _ (pool : PoolState) (names : TableState name_cmp ℕ) (kept : AreHeld pool names) (name : OpName) where
  -- a place that isn't out is free
  pub free_place : (p : ℕ) → p < pool.size → get pool.out p ≡ None → IsFree names.entries pool.size p
  free_place p within free = record {
    within = within;
    free = λ q e. none-some tt (sym free ∙ (kept.out q p e).0);
  }

  -- the place of a name is held by no other
  pub held_alone : (r : Option ℕ) → r ≡ get names.entries name → IfSome r (HoldsAlone names.entries pool.size name)
  held_alone None e = tt
  held_alone (Some p) e = record {
    within = (kept.out name p (sym e)).1;
    alone = λ q there. kept.apart q name p there (sym e);
  }

  -- a free place is taken
  pub held_taken : (p : ℕ) → p < pool.size → get pool.out p ≡ None → get names.entries name ≡ None
      → AreHeld (record pool { out = insert pool.out p tt }) (record names { entries = insert names.entries name p })
  held_taken p within free fresh = record {
    room = kept.room;
    count =
        len_added nat_order pool.out p tt free ∙ ap (λ n. n + 1) kept.count
        ∙ sym (len_added name_order names.entries name p fresh);
    out = λ o q e. elim (from_inserted name_order names.entries name p o q e) [
      | inl new ↦
          let same = new.1 in
          (ap (get (insert pool.out p tt)) same ∙ at_inserted nat_order pool.out p tt, omega (arith, same, within))
      | inr was ↦
          let before = kept.out o q was.1 in (
            beside_inserted nat_order pool.out p tt q (apart_absent pool.out q p tt before.0 free) ∙ before.0,
            before.1,
          )
    ];
    held = λ q e. elim (from_inserted nat_order pool.out p tt q tt e) [
      | inl new ↦ (name, at_inserted name_order names.entries name p ∙ ap Some (sym new.0))
      | inr was ↦
          let by = kept.held q was.1 in (
            by.0,
            beside_inserted name_order names.entries name p by.0 (apart_absent names.entries by.0 name q by.1 fresh)
                ∙ by.1,
          )
    ];
    apart = apart_inserted names.entries name kept.apart pool.size p (free_place p within free);
  }

  -- the place of a name is given back
  pub held_given : (p : ℕ) → get names.entries name ≡ Some p
      → AreHeld (record pool { out = remove pool.out p }) (record names { entries = remove names.entries name })
  held_given p there = record {
    room = kept.room;
    count =
        let less = len_removed nat_order pool.out p tt (kept.out name p there).0 in
        let fewer = len_removed name_order names.entries name p there in
        let same = kept.count in
        omega (arith, less, fewer, same);
    out = λ o q e.
        let was = from_removed name_order names.entries name o q e in
        let before = kept.out o q was.1 in (
          beside_removed nat_order pool.out p q
              (λ same. was.0 (kept.apart o name q was.1 (there ∙ ap Some (sym same)))) ∙ before.0,
          before.1,
        );
    held = λ q e.
        let was = from_removed nat_order pool.out p q tt e in
        let by = kept.held q was.1 in (
          by.0,
          beside_removed name_order names.entries name by.0
              (λ same. was.0 (same_Some q p (sym by.1 ∙ ap (get names.entries) same ∙ there))) ∙ by.1,
        );
    apart = apart_removed names.entries name kept.apart;
  }
