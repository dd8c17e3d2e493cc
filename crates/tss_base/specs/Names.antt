-- The order of operands' names, by task and then by place, and finite maps under names and under numbers.
use Rattle.std.specs.Prelude.{◌≡◌}
use Rattle.std.proofs.Common.{refl}
use Rattle.std.specs.declared.cmp.Ordering.{Ordering}
use Rattle.std.specs.declared.cmp.Ordering.TheVariants.{Less, Equal, Greater}
use Rattle.std.specs.Ordering.{nat_cmp, on, then_cmp, ordering_then}
use Rattle.std.specs.Cmp.{IsTotalOrder, nat_cmp_total, then_total, on_total}
use Rattle.std.specs.FinMap.{FinMap, IsAntisymmetric, nat_cmp-IsAntisymmetric}
use Rattle.tss_base.specs.declared.operand.OpName.{OpName}

abbrev pub name_cmp : OpName → OpName → Ordering
name_cmp = then_cmp (on (λ (o : OpName). o.task) nat_cmp) (on (λ (o : OpName). o.place) nat_cmp)

-- what stands under names
abbrev pub Named : Type 0 → Type 0
Named X = FinMap name_cmp X

-- what stands under numbers
abbrev pub Numbered : Type 0 → Type 0
Numbered X = FinMap nat_cmp X

pub name_cmp_total : IsTotalOrder name_cmp
name_cmp_total =
    then_total (on_total (λ (o : OpName). o.task) nat_cmp_total) (on_total (λ (o : OpName). o.place) nat_cmp_total)

-- two orders in turn tie only where both do
then_ties : (a b : Ordering) → ordering_then a b ≡ Equal → (a ≡ Equal) × (b ≡ Equal)
then_ties Less b e = absurd (cc)
then_ties Equal b e = (refl, e)
then_ties Greater b e = absurd (cc)

-- only equal names tie
pub name_cmp-IsAntisymmetric : IsAntisymmetric name_cmp
name_cmp-IsAntisymmetric x y e =
    let ties = then_ties (nat_cmp x.task y.task) (nat_cmp x.place y.place) e in
    λ i. record {
      task = nat_cmp-IsAntisymmetric x.task y.task ties.0 i;
      place = nat_cmp-IsAntisymmetric x.place y.place ties.1 i;
    }
