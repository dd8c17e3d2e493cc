-- A bank has fewer versions than places while one of them is still to be opened.
use Rattle.std.proofs.Common.{◌≡◌, ◌+◌, ◌<◌, ◌≤◌, Bool, true, false, [], Some, None, refl, ap, ◌∙◌, arith}
use Rattle.std.specs.Prelude.{◌==◌}
use Rattle.std.specs.declared.cmp.Ordering.{Ordering}
use Rattle.std.specs.FinMap.{FinMap, get, insert, remove}
use Rattle.std.proofs.lemmas.Bool.{eq-eqb}
use Rattle.tss_base.specs.declared.operand.OpName.{OpName}
use Rattle.tss_base.specs.declared.machine.Machine.{Machine}
use Rattle.tss_base.specs.Image.{ImageState}
use Rattle.tss_maps.specs.Sums.{one_if, count_of}
use Rattle.tss_maps.proofs.Keys.{IsKeyOrder, name_order}
use Rattle.tss_maps.proofs.Changes.{at_inserted, beside_inserted, beside_removed, apart_absent}
use Rattle.tss_maps.proofs.Entries.{map_induction}
use Rattle.tss_maps.proofs.Sums.{sum_added, sum_removed, sum_empty}
use Rattle.tss_protocol.specs.Names.{bank_of}
use Rattle.tss_protocol.specs.Mail.{OpenContents}
use Rattle.tss_protocol.specs.State.{State, Version, initial_state}
use Rattle.tss_names.proofs.RunLemmas.{kept_after}
use Rattle.tss_names.proofs.TableLemmas.{StaysWithinBanks, StaysWithinBanks-after_event, StaysWithinBanks-initial_state}
use Rattle.tss_conditions.specs.Reached.{Reached}
use Rattle.tss_conditions.specs.Opening.{versions_in}
use Rattle.tss_conditions.proofs.Known.{facts_reached}

module _ {K X Y : Type 0} {R : K → K → Ordering} (order : IsKeyOrder R) (p : K → X → Bool) (q : K → Y → Bool) where
  -- each entry that passes the first test has one beside it that passes the second
  abbrev HasBeside : FinMap R X → FinMap R Y → Type 0
  HasBeside m n =
      (k : K) (x : X) → get m k ≡ Some x → p k x ≡ true → (y : Y) × (get n k ≡ Some y) × (q k y ≡ true)

  more_beside : (m : FinMap R X) (k : K) (v : X) → get m k ≡ None
      → ((n : FinMap R Y) → HasBeside m n → count_of p m ≤ count_of q n)
      → (n : FinMap R Y) → HasBeside (insert m k v) n → count_of p (insert m k v) ≤ count_of q n
  more_beside m k v new before n beside = by (p k v) refl
    where
      added : count_of p (insert m k v) ≡ count_of p m + one_if (p k v)
      added = sum_added order (λ k x. one_if (p k x)) m k v new

      kept : (j : K) (x : X) → get m j ≡ Some x → get (insert m k v) j ≡ Some x
      kept j x e = beside_inserted order m k v j (apart_absent m j k x e new) ∙ e

      by : (b : Bool) → p k v ≡ b → count_of p (insert m k v) ≤ count_of q n
      by false e =
          let rest = before n (λ j x at passes. beside j x (kept j x at) passes) in
          let none = ap one_if e in
          let more = added in
          omega (arith, rest, none, more)
      by true e =
          let y = beside k v (at_inserted order m k v) e in
          let rest = before (remove n k)
          (λ j x at passes.
          let z = beside j x (kept j x at) passes in
          (z.0, beside_removed order n k j (apart_absent m j k x at new) ∙ z.1, z.2)) in
          let one = ap one_if e in
          let more = added in
          let less = sum_removed order (λ k x. one_if (q k x)) n k y.0 y.1 in
          let its = ap one_if y.2 in
          omega (arith, rest, one, more, less, its)

  -- so no more pass the first than the second
  count_beside : (m : FinMap R X) (n : FinMap R Y) → HasBeside m n → count_of p m ≤ count_of q n
  count_beside =
      map_induction order (λ m. (n : FinMap R Y) → HasBeside m n → count_of p m ≤ count_of q n)
      (λ n beside. let none = sum_empty order (λ k x. one_if (p k x)) in omega (arith, none)) more_beside

-- while one is to be opened, the versions of its bank are fewer than the places
pub few_versions : (m : Machine) (i : ImageState) (S : State) → Reached m i S → (o : OpName) (c : OpenContents)
    → get S.mail.opens o ≡ Some c
    → versions_in m.sizes (bank_of m.sizes c.operand.object) S.versions < m.sizes.versions
few_versions m i S r o c there =
    let places = (facts_reached m i S r).ground.places in
    let bank = bank_of m.sizes c.operand.object in
    let own = places.opens o c there in
    let within = (kept_after StaysWithinBanks StaysWithinBanks-after_event m r.reachable.0 [] (initial_state i) S
    (StaysWithinBanks-initial_state m i) r.reachable.1).places bank in
    let less = sum_removed name_order (λ v b. one_if (b == bank)) S.places o bank own.0 in
    let one = ap one_if (eq-eqb bank bank refl) in
    let few = count_beside name_order (λ v (x : Version). bank_of m.sizes x.object == bank) (λ v b. b == bank)
    S.versions (remove S.places o)
    (λ v x at passes. (
      bank_of m.sizes x.object,
      beside_removed name_order S.places o v (apart_absent S.versions v o x at own.1) ∙ (places.versions v x at).0,
      passes,
    )) in
    omega (arith, within, less, one, few)
