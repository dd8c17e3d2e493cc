-- Single bytes of an object, and operands that aren't decoded: they are in the inbox, or their decode is under way, and
-- come behind those on their object that are decoded.
use Rattle.std.proofs.Common.{◌≡◌, ℕ, ◌+◌, ◌-◌, ◌<◌, ◌≤◌, ◌⊎◌, inl, inr, Bool, true, false, Option, Some, None, refl}
use Rattle.std.proofs.Common.{sym, ap, ◌∙◌, arith, true≢false}
use Rattle.std.specs.Prelude.{is_some, unwrap_or, nat_lt, ◌||◌, get_or, slice_get}
use Rattle.std.specs.FinMap.{get}
use Rattle.std.proofs.lemmas.Bool.{cases_lt, cases_order, eqb-true}
use Rattle.std.proofs.lemmas.Bool.Decides.{nat_tests}
use Rattle.std.proofs.lemmas.List.FromFn.{get_or-map-range_with_len}
use Rattle.tss_base.specs.declared.range.Range.{Range}
use Rattle.tss_base.specs.declared.operand.OpName.{OpName}
use Rattle.tss_base.specs.declared.operand.Operand.{Operand}
use Rattle.tss_base.specs.declared.operand.Task.{Task}
use Rattle.tss_base.specs.declared.machine.Machine.{Machine}
use Rattle.tss_model.specs.Memory.{Memory, byte_at, bytes_of}
use Rattle.tss_protocol.specs.Names.{bank_of}
use Rattle.tss_protocol.specs.Needs.{is_in_inbox}
use Rattle.tss_protocol.specs.State.{State}
use Rattle.tss_phases.specs.Phase.{inbox_has, is_ahead, look_ups, phase_of, is_decoded}
use Rattle.tss_phases.specs.Orderly.{AreOrderly}
use Rattle.tss_control.specs.Members.{operand_among}
use Rattle.tss_names.specs.Tasks.{IsUndecoded, task_at}
use Rattle.tss_control.proofs.rounds.Spawned.{of_spawned}
use Rattle.tss_control.proofs.rounds.EntriesQuiet.{decoded_from}
use Rattle.tss_control.proofs.rounds.EntriesNames.{one_operand, decoded_apart}
use Rattle.tss_control.proofs.rounds.Facts.{Basis}
use Rattle.tss_values.proofs.Values.{IsInside}
use Rattle.std.proofs.lemmas.Option.{same_Some}
use Rattle.tss_model.specs.Access.{operands_of}

-- ---- bytes

-- memories that have the same bytes of an object have the same at each of its addresses
pub byte_of : (m n : Memory) (x : Range) → bytes_of m x ≡ bytes_of n x → (a : ℕ) → IsInside x a
    → byte_at m a ≡ byte_at n a
byte_of m n x same a inside =
    let small : a - x.base < x.len = omega (arith, inside.0, inside.1) in
    let back : x.base + (a - x.base) ≡ a = omega (arith, inside.0) in
    sym (get_or-map-range_with_len (byte_at m) x.base x.len (a - x.base) a 0 small back)
    ∙ ap (λ bs. get_or bs (a - x.base) 0) same
    ∙ get_or-map-range_with_len (byte_at n) x.base x.len (a - x.base) a 0 small back

-- two values that are there are one where they are the same beside a default
pub there_same : (p q : Option ℕ) → is_some p ≡ true → is_some q ≡ true → unwrap_or p 0 ≡ unwrap_or q 0 → p ≡ q
there_same None q e d same = absurd (true≢false (sym e))
there_same (Some a) None e d same = absurd (true≢false (sym d))
there_same (Some a) (Some b) e d same = ap Some same

-- an address lies in an object, or doesn't
pub decide_inside : (x : Range) (a : ℕ) → IsInside x a ⊎ (IsInside x a → ⊥)
decide_inside x a = elim (cases_lt a x.base) [
  | inl below ↦ inr (λ h. omega (arith, below, h.0))
  | inr low ↦ elim (cases_lt a (x.base + x.len)) [
    | inl high ↦ inl (low, high)
    | inr above ↦ inr (λ h. omega (arith, above, h.1))
  ]
]

-- ---- what isn't decoded

in_inbox_by : (spawned n : ℕ) (inbox : Option Task) → n ≤ spawned → (nat_lt spawned n || inbox_has inbox n) ≡ true
    → is_in_inbox inbox n ≡ true
in_inbox_by spawned n inbox few ahead =
    let low : nat_lt spawned n ≡ false = grind (arith, nat_tests) in
    by inbox (sym (ap (λ b. b || inbox_has inbox n) low) ∙ ahead)
  where
    by : (inbox : Option Task) → inbox_has inbox n ≡ true → is_in_inbox inbox n ≡ true
    by None e = absurd (true≢false (sym e))
    by (Some t) e = e

module _ (m : Machine) (S : State) (basis : Basis m S) (orderly : AreOrderly S) where
  open basis use {all, ts, ground}

  -- an operand of the round that isn't decoded is in the inbox, or its decode is under way
  undecoded : (o : OpName) (p : Operand) → operand_among ts o ≡ Some p → is_decoded (phase_of S o) ≡ false
      → IsUndecoded S o p
  undecoded o p among early = by (get S.mail.decodes o) refl
    where
      by : (d : Option Operand) → get S.mail.decodes o ≡ d → IsUndecoded S o p
      by (Some d) at =
          let of = (ground.gateway.decodes o d at).2 in
          inr (at ∙ ap Some (one_operand all o d p of (ground.known.operands o p among)))
      by None none = by_ahead (is_ahead S o.task) refl
        where
          by_ahead : (b : Bool) → is_ahead S o.task ≡ b → IsUndecoded S o p
          by_ahead true e =
              inl (in_inbox_by S.main.spawned o.task S.inbox (of_spawned S ts ground.round o p among) e)
          by_ahead false e = absurd (true≢false (sym (decoded_from (look_ups S o) (orderly o) none e) ∙ early))

  -- it stands in the inbox's task, or its decode is under way
  pub undecoded_at : (o : OpName) (p : Operand) → operand_among ts o ≡ Some p → is_decoded (phase_of S o) ≡ false
      → ((t : Task) × (S.inbox ≡ Some t) × (slice_get (operands_of t) o.place ≡ Some p))
      ⊎ (get S.mail.decodes o ≡ Some p)
  undecoded_at o p among early = elim (undecoded o p among early) [
    | inl arriving ↦ inl (by S.inbox refl arriving)
    | inr decoding ↦ inr decoding
  ]
    where
      by : (inbox : Option Task) → S.inbox ≡ inbox → is_in_inbox inbox o.task ≡ true
          → (t : Task) × (inbox ≡ Some t) × (slice_get (operands_of t) o.place ≡ Some p)
      by None e has = absurd (true≢false (sym has))
      by (Some t) e has =
          let number : t.number ≡ o.task = eqb-true t.number o.task has in
          let of = ground.known.operands o p among in
          let same =
          same_Some of.task t (sym of.spawned ∙ ap (task_at all) (sym number) ∙ (ground.numbers.inbox t e).task) in
          (t, refl, ap (λ (t : Task). slice_get (operands_of t) o.place) (sym same) ∙ of.place)

  -- it comes behind each operand on its object that is decoded
  pub decoded_older : (v o : OpName) (q p : Operand) → operand_among ts v ≡ Some q → operand_among ts o ≡ Some p
      → q.object ≡ p.object → is_decoded (phase_of S v) ≡ true → is_decoded (phase_of S o) ≡ false → v.task < o.task
  decoded_older v o q p from to same done early =
      elim (cases_order v.task o.task) [
        | inl one ↦
            let is = ground.known.single v o q p from to same one in
            absurd (true≢false (sym done ∙ ap (λ o. is_decoded (phase_of S o)) is ∙ early))
        | inr (inl before) ↦ before
        | inr (inr after) ↦
            let still = ground.decodes o v p q (ground.known.operands o p to) (ground.known.operands v q from)
            (undecoded o p to early) after (ap (λ (x : Range). bank_of m.sizes x) (sym same)) in
            absurd (decoded_apart S orderly v q done still)
      ]
