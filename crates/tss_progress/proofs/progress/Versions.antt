-- Versions in a quiet state: one whose readers have all left doesn't stay.
use Rattle.std.proofs.Common.{◌≡◌, ℕ, ◌<◌, Bool, true, false, Option, Some, None, refl, sym, ap, ◌∙◌, subst, inl, inr}
use Rattle.std.proofs.Common.{arith, true≢false}
use Rattle.std.specs.Prelude.{◌==◌, ◌&&◌, not, is_none}
use Rattle.std.specs.FinMap.{get}
use Rattle.std.proofs.lemmas.Bool.{and_from}
use Rattle.std.proofs.lemmas.Bool.Decides.{nat_tests}
use Rattle.std.proofs.lemmas.Option.{none-some, same_Some}
use Rattle.tss_base.specs.declared.range.Range.{Range}
use Rattle.tss_base.specs.declared.operand.OpName.{OpName}
use Rattle.tss_base.specs.declared.machine.Machine.{Machine}
use Rattle.tss_base.specs.declared.marks.Follow.{Follow}
use Rattle.tss_protocol.specs.State.{State, Entry, Version}
use Rattle.tss_protocol.specs.Versions.{is_count}
use Rattle.tss_phases.specs.Phase.{Left, phase_of, has_released}
use Rattle.tss_control.specs.Members.{total, IsVersionOf}
use Rattle.tss_control.specs.Entries.{IsLeaving}
use Rattle.tss_control.specs.Readers.{Has}
use Rattle.tss_progress.proofs.progress.CalmStates.{AllReleased, nobody_asks, total_registered, all_released}
use Rattle.tss_progress.proofs.progress.CalmStates.{none_released_behind}
use Rattle.tss_progress.proofs.progress.Stuck.{IsQuiet, calm_of}
use Rattle.tss_control.proofs.rounds.Facts.{Facts}

-- ---- numbers

same_test : (a b : ℕ) → a ≡ b → (a == b) ≡ true
same_test a b e = grind (arith, nat_tests)

less_test : (a b : ℕ) → a < b → (a == b) ≡ false
less_test a b h = grind (arith, nat_tests)

module _ (m : Machine) (S : State) (facts : Facts m S) (quiet : IsQuiet S) where
  open facts use {g, control}

  -- its readers have left
  abbrev pub AllLeft : OpName → Type 0
  AllLeft v = (a : OpName) → Has a (g v) → phase_of S a ≡ Left

  left_released : (v : OpName) → AllLeft v → AllReleased m S facts (calm_of S quiet) v
  left_released v left a has = ap has_released (left a has)

  -- ---- a version that stays has readers that haven't left

  -- a produced version with a successor
  pub none_behind : (v : OpName) (y : Version) (f : Follow) → get S.versions v ≡ Some y → y.successor ≡ Some f
      → y.produced ≡ true → AllLeft v → ⊥
  none_behind v y f there next produced left =
      none_released_behind m S facts (calm_of S quiet) v y f there next produced
      (left_released v left)

  -- an entry's latest version was refused for fewer readers
  refused_before : (b : ℕ) (e : Entry) (y : Version) → get S.entries b ≡ Some e → get S.versions e.latest ≡ Some y
      → y.object.base ≡ b → e.sent ≡ total S e.latest → (r : Option ℕ) → y.refused ≡ r
      → is_count r y.registered ≡ false
  refused_before b e y entry there base sent None is = refl
  refused_before b e y entry there base sent (Some k) is =
      let cause = control.retirement.refused e.latest y k there is in
      let one = same_Some cause.0 e (sym cause.1 ∙ ap (get S.entries) base ∙ entry) in
      elim cause.2 [
        | inl other ↦ absurd (other (ap (λ (e : Entry). e.latest) one))
        | inr fewer ↦
            less_test k y.registered
            (subst (λ n. k < n) (ap (λ (e : Entry). e.sent) one ∙ sent
            ∙ total_registered m S facts (calm_of S quiet) e.latest y there) fewer)
      ]

  -- a produced version that is alone
  pub none_alone : (b : ℕ) (e : Entry) (y : Version) → get S.entries b ≡ Some e → get S.versions e.latest ≡ Some y
      → y.object.base ≡ b → e.sent ≡ total S e.latest → y.successor ≡ None → y.predecessor ≡ None
      → y.produced ≡ true → AllLeft e.latest → ⊥
  none_alone b e y entry there base sent last oldest produced left =
      let same = same_test y.released y.registered
      (all_released m S facts (calm_of S quiet) e.latest y there (left_released e.latest left)) in
      let fresh = refused_before b e y entry there base sent y.refused refl in
      let two = and_from y.produced (y.released == y.registered) produced same in
      let three = and_from (y.produced && (y.released == y.registered)) (is_none y.predecessor) two
      (ap is_none oldest) in
      let four = and_from (y.produced && (y.released == y.registered) && is_none y.predecessor) (is_none y.asked) three
      (ap is_none (nobody_asks m S facts (calm_of S quiet) e.latest y there)) in
      true≢false (sym (and_from (y.produced && (y.released == y.registered) && is_none y.predecessor && is_none y.asked)
      (not (is_count y.refused y.registered)) four (ap not fresh))
      ∙ (control.retirement.settled e.latest y there).asks last)

  -- ---- entries

  nothing_leaves : (x : Range) (v : OpName) → IsLeaving S x v → ⊥
  nothing_leaves x v (inl may) = none-some tt (sym (quiet.retires v) ∙ may.0)
  nothing_leaves x v (inr (inl copy)) = none-some copy.1 (sym (quiet.copies copy.0) ∙ copy.2)
  nothing_leaves x v (inr (inr gone)) = none-some gone.0 (sym (quiet.gones v) ∙ gone.1)

  -- each entry is live
  pub nothing_retires : (b : ℕ) (e : Entry) → get S.entries b ≡ Some e → e.retiring ≡ false
  nothing_retires b e entry = by e.retiring refl
    where
      by : (r : Bool) → e.retiring ≡ r → e.retiring ≡ false
      by false is = is
      by true is = absurd (nothing_leaves e.object e.latest (control.entries.retiring b e entry is).leaving)

  -- its latest version is registered
  pub latest_version : (b : ℕ) (e : Entry) → get S.entries b ≡ Some e → IsVersionOf S e.object e.latest
  latest_version b e entry = elim (control.entries.live b e entry (nothing_retires b e entry)).member [
    | inl version ↦ version
    | inr opening ↦ absurd (none-some opening.0 (sym (quiet.opens e.latest) ∙ opening.1))
  ]
