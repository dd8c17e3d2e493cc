-- The first operand of the line tells whether it has one of an earlier task, since names are ordered by their tasks
-- first.
use Rattle.std.proofs.Common.{◌≡◌, ℕ, ◌<◌, ◌≤◌, Bool, true, false, Some, None, refl, sym, ap, ◌∙◌, arith, inl, inr}
use Rattle.std.specs.Prelude.{nat_lt}
use Rattle.std.specs.declared.cmp.Ordering.{Ordering}
use Rattle.std.specs.declared.cmp.Ordering.TheVariants.{Less, Equal, Greater}
use Rattle.std.specs.Ordering.{nat_cmp, ordering_then}
use Rattle.std.specs.FinMap.{nat_cmp-IsAntisymmetric}
use Rattle.std.proofs.lemmas.Bool.Decides.{nat_tests}
use Rattle.std.proofs.lemmas.Option.{none-some}
use Rattle.tss_base.specs.declared.operand.OpName.{OpName}
use Rattle.tss_base.specs.Names.{name_cmp, Named}
use Rattle.tss_maps.specs.Ordered.{least}
use Rattle.tss_maps.proofs.Keys.{name_order, below_from_less, decide_key}
use Rattle.tss_maps.proofs.Sums.{counted}
use Rattle.tss_maps.proofs.Entries.{absent_empty}
use Rattle.tss_maps.proofs.OrderedLemmas.{least_some, least_none}
use Rattle.tss_protocol.specs.Renaming.{has_earlier}
use Rattle.tss_protocol.proofs.TurnLemmas.{turn_comes}

task_by : (a b : ℕ) (r s : Ordering) → nat_cmp a b ≡ r → ordering_then r s ≡ Less → a ≤ b
task_by a b Less s e less = let below = below_from_less a b e in omega (arith, below)
task_by a b Equal s e less = let same = nat_cmp-IsAntisymmetric a b e in omega (arith, same)
task_by a b Greater s e less = absurd (cc)

-- of two names in order, the first isn't of a later task
pub tasks_in_order : (p q : OpName) → name_cmp p q ≡ Less → p.task ≤ q.task
tasks_in_order p q less = task_by p.task q.task (nat_cmp p.task q.task) (nat_cmp p.place q.place) refl less

module _ (line : Named (Unit {0})) (o : OpName) where
  -- in an empty line there is none
  pub earlier_none : least line ≡ None → false ≡ has_earlier o line
  earlier_none e =
      let nothing = least_none name_order line e in
      sym (turn_comes o line (λ p there before. none-some tt (sym (absent_empty line p nothing) ∙ there)))

  module _ (first : OpName) (e : least line ≡ Some first) where
    later : first.task < o.task → true ≡ has_earlier o line
    later before =
        let there = (least_some name_order line first e).there in
        let test : nat_lt first.task o.task ≡ true = grind (arith, nat_tests, before) in
        let some = counted name_order (λ p x. nat_lt p.task o.task) line first there.0 there.1 test in
        grind (arith, nat_tests, some)

    none_before : o.task ≤ first.task → false ≡ has_earlier o line
    none_before last = sym (turn_comes o line (λ p there before. elim (decide_key name_order p first) [
      | inl same ↦ let task = ap (λ (p : OpName). p.task) same in absurd (omega (arith, task, before, last))
      | inr apart ↦
          let above = tasks_in_order first p ((least_some name_order line first e).others p tt there apart) in
          absurd (omega (arith, above, before, last))
    ]))

    by_test : (b : Bool) → nat_lt first.task o.task ≡ b → b ≡ has_earlier o line
    by_test true t = later (grind (arith, nat_tests, t))
    by_test false t = none_before (grind (arith, nat_tests, t))

    -- in another the first tells
    pub earlier_first : nat_lt first.task o.task ≡ has_earlier o line
    earlier_first = by_test (nat_lt first.task o.task) refl
