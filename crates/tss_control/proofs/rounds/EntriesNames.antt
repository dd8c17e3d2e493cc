-- What is known of the names of a round: their operands, their objects, and that they have been decoded.
use Rattle.std.proofs.Common.{◌≡◌, ◌≢◌, ℕ, ◌<◌, ◌≤◌, ◌⊎◌, inl, inr, Bool, true, false, List, [], ◌∷◌, Option, Some}
use Rattle.std.proofs.Common.{None, refl, sym, ap, ◌∙◌, subst, arith, true≢false}
use Rattle.std.proofs.lemmas.Bool.Decides.{nat_tests}
use Rattle.std.specs.Prelude.{slice_get, nat_lt, ◌||◌, ◌==◌}
use Rattle.std.specs.FinMap.{get}
use Rattle.std.proofs.lemmas.Option.{none-some, same_Some}
use Rattle.tss_base.specs.declared.range.Range.{Range}
use Rattle.tss_base.specs.declared.operand.OpName.{OpName}
use Rattle.tss_base.specs.declared.operand.Operand.{Operand}
use Rattle.tss_base.specs.declared.operand.Task.{Task}
use Rattle.tss_base.specs.declared.machine.Machine.{Machine}
use Rattle.tss_maps.proofs.Changes.{decide_get}
use Rattle.tss_model.specs.Access.{operands_of}
use Rattle.tss_protocol.specs.Names.{bank_of}
use Rattle.tss_protocol.specs.Needs.{is_in_inbox}
use Rattle.tss_protocol.specs.State.{State, Entry}
use Rattle.tss_phases.specs.Phase.{look_ups, phase_of, inbox_has, is_ahead, is_decoded}
use Rattle.tss_phases.specs.Orderly.{AreOrderly}
use Rattle.tss_phases.proofs.Tests.{not_both}
use Rattle.tss_locality.specs.Agreement.{operand_in}
use Rattle.tss_locality.specs.Rounds.{object_or, object_in}
use Rattle.tss_locality.proofs.RoundObjects.{finds_own}
use Rattle.tss_names.specs.Tasks.{taken_by, IsTaken, IsOperandOf, HasTaskNumbers, IsUndecoded}
use Rattle.tss_names.specs.Names.{IsDecoded}
use Rattle.tss_control.specs.Members.{first_there, operand_among, IsMember}
use Rattle.tss_control.specs.Chains.{HasChains}
use Rattle.tss_control.specs.Entries.{HasEntries}
use Rattle.tss_control.proofs.rounds.EntriesQuiet.{decoded_shows, decoded_from}
use Rattle.tss_control.proofs.rounds.Facts.{Basis}

-- ---- operands and objects

-- an operand of a name with this object
abbrev pub HasOperandOn : Option Operand → Range → Type 0
HasOperandOn q x = (p : Operand) × (q ≡ Some p) × (p.object ≡ x)

among_by : (p q : Option Operand) (x : Option Range) (y : Range) → (x ≡ Some y → HasOperandOn q y)
    → object_or p x ≡ Some y → HasOperandOn (first_there p q) y
among_by None q x y rest e = rest e
among_by (Some p) q x y rest e = (p, refl, same_Some p.object y e)

-- a name with an object has an operand on it
pub operand_of_object : (ts : List Task) (o : OpName) (x : Range) → object_in ts o ≡ Some x
    → HasOperandOn (operand_among ts o) x
operand_of_object [] o x e = absurd (none-some x e)
operand_of_object (t ∷ ts) o x e =
    among_by (operand_in (Some t) o) (operand_among ts o) (object_in ts o) x (operand_of_object ts o x) e

object_by : (p q : Option Operand) (x : Option Range) (s : Operand) → (q ≡ Some s → x ≡ Some s.object)
    → first_there p q ≡ Some s → object_or p x ≡ Some s.object
object_by None q x s rest e = rest e
object_by (Some p) q x s rest e = ap (λ (o : Option Operand). object_or o None) e

-- and the other way round
pub object_of_operand : (ts : List Task) (o : OpName) (p : Operand) → operand_among ts o ≡ Some p
    → object_in ts o ≡ Some p.object
object_of_operand [] o p e = absurd (none-some p e)
object_of_operand (t ∷ ts) o p e =
    object_by (operand_in (Some t) o) (operand_among ts o) (object_in ts o) p (object_of_operand ts o p) e

-- a name has one operand among the spawned tasks
pub one_operand : (all : List Task) (o : OpName) (p q : Operand) → IsOperandOf all o p → IsOperandOf all o q → p ≡ q
one_operand all o p q a b =
    let task = same_Some a.task b.task (sym a.spawned ∙ b.spawned) in
    same_Some p q (sym a.place ∙ ap (λ t. slice_get (operands_of t) o.place) task ∙ b.place)

-- ---- names that have been decoded

not_above : (a b : ℕ) → a ≤ b → nat_lt b a ≡ false
not_above a b e = grind (arith, nat_tests)

not_number : (a b : ℕ) → (a ≡ b → ⊥) → (a == b) ≡ false
not_number a b e = grind (arith, nat_tests)

module _ (m : Machine) (all : List Task) (S : State) (numbers : HasTaskNumbers m all S) where
  taken_by_inbox : (n : ℕ) (inbox : Option Task) → S.inbox ≡ inbox → 1 ≤ n → n ≤ taken_by inbox S.main.spawned
      → (nat_lt S.main.spawned n || inbox_has inbox n) ≡ false
  taken_by_inbox n None e one taken =
      ap (λ b. b || false) (not_above n S.main.spawned taken)
  taken_by_inbox n (Some t) e one taken =
      let newest = (numbers.inbox t e).number in
      (λ i. not_above n S.main.spawned (omega (arith, taken)) i
      || not_number t.number n (λ same. omega (arith, one, taken, newest, same)) i)

  -- a task that was taken isn't ahead
  taken_ahead : (n : ℕ) → IsTaken S n → is_ahead S n ≡ false
  taken_ahead n taken = taken_by_inbox n S.inbox refl taken.0 taken.1

  -- a name that is used is of an operand that has been decoded
  pub name_decoded : AreOrderly S → (q : OpName) → IsDecoded all S q → is_decoded (phase_of S q) ≡ true
  name_decoded orderly q d = decoded_from (look_ups S q) (orderly q) d.2 (taken_ahead q.task d.0)

in_inbox_ahead : (inbox : Option Task) (n : ℕ) → is_in_inbox inbox n ≡ true → inbox_has inbox n ≡ true
in_inbox_ahead None n e = absurd (true≢false (sym e))
in_inbox_ahead (Some t) n e = e

or_true : (a b : Bool) → b ≡ true → (a || b) ≡ true
or_true true b e = refl
or_true false b e = e

-- it isn't still to be decoded
pub decoded_apart : (S : State) → AreOrderly S → (q : OpName) (p : Operand) → is_decoded (phase_of S q) ≡ true
    → IsUndecoded S q p → ⊥
decoded_apart S orderly q p d (inl waits) =
    let ahead = (decoded_shows (look_ups S q) (orderly q) d).1 in
    not_both (is_ahead S q.task)
    (or_true (nat_lt S.main.spawned q.task) (inbox_has S.inbox q.task) (in_inbox_ahead S.inbox q.task waits))
    ahead
decoded_apart S orderly q p d (inr sent) =
    let none = (decoded_shows (look_ups S q) (orderly q) d).0 in
    none-some p (sym none ∙ sent)

below_or_not : (a b : ℕ) → (a < b) ⊎ (b ≤ a)
below_or_not a b = grind (arith, nat_tests)

module _ (m : Machine) (S : State) (basis : Basis m S) (orderly : AreOrderly S) where
  open basis use {all, ts, ground}

  -- an operand whose decode is under way is of the round
  pub decode_among : (o : OpName) (p : Operand) → get S.mail.decodes o ≡ Some p → operand_among ts o ≡ Some p
  decode_among o p there =
      let x = ground.round.within.named.mail.decodes o p there in
      let q = operand_of_object ts o x.0 x.1 in
      let same = one_operand all o q.0 p (ground.known.operands o q.0 q.1) (ground.gateway.decodes o p there).2 in
      q.1 ∙ ap Some same

  -- an entry at the base of its object is of that object
  pub object_of_entry : HasEntries ts S → (o : OpName) (p : Operand) → get S.mail.decodes o ≡ Some p → (e : Entry)
      → get S.entries p.object.base ≡ Some e → e.object ≡ p.object
  object_of_entry h o p there e at = finds_own S ts ground.round o p e there at

  -- what has been decoded of its object is of no later task
  pub none_later : (o q : OpName) (p r : Operand) → get S.mail.decodes o ≡ Some p → operand_among ts q ≡ Some r
      → r.object ≡ p.object → is_decoded (phase_of S q) ≡ true → q.task ≤ o.task
  none_later o q p r there at same d = elim (below_or_not o.task q.task) [
    | inl later ↦
        absurd (decoded_apart S orderly q r d
        (ground.decodes o q p r (ground.known.operands o p (decode_among o p there)) (ground.known.operands q r at)
        (inr there) later (ap (bank_of m.sizes) (sym same))))
    | inr before ↦ before
  ]

  -- a member of an object has an operand on it, and has been decoded
  pub member_operand : HasChains ts S → (x : Range) (v : OpName) → IsMember S x v
      → HasOperandOn (operand_among ts v) x × (is_decoded (phase_of S v) ≡ true)
  member_operand chains x v (inl y) =
      let p = chains.opener v y.0 y.1 in (
        (p.0, p.1, p.2 ∙ y.2),
        name_decoded m all S ground.numbers orderly v (ground.names.versions v y.0 y.1).0.0,
      )
  member_operand chains x v (inr c) = (
    (c.0.operand, (chains.opens v c.0 c.1).operand, c.2),
    name_decoded m all S ground.numbers orderly v (ground.names.mail.opens v c.0 c.1).0,
  )

  -- nothing is there yet of the name of a decode
  module _ (o : OpName) (p : Operand) (there : get S.mail.decodes o ≡ Some p) where
    -- no name that is used is it
    pub not_decoded : IsDecoded all S o → ⊥
    not_decoded d = none-some p (sym d.2 ∙ there)

    -- no version
    pub no_version : get S.versions o ≡ None
    no_version = elim (decide_get S.versions o) [
      | inl none ↦ none
      | inr y ↦ absurd (not_decoded (ground.names.versions o y.0 y.1).0.0)
    ]

    -- no open
    pub no_open : get S.mail.opens o ≡ None
    no_open = elim (decide_get S.mail.opens o) [
      | inl none ↦ none
      | inr c ↦ absurd (not_decoded (ground.names.mail.opens o c.0 c.1).0)
    ]

    -- no use
    pub no_use : get S.mail.uses o ≡ None
    no_use = elim (decide_get S.mail.uses o) [
      | inl none ↦ none
      | inr v ↦ absurd (not_decoded (ground.names.mail.uses o v.0 v.1).0)
    ]

    -- and none that is directed to it
    pub no_use_of : (q v : OpName) → get S.mail.uses q ≡ Some v → v ≢ o
    no_use_of q v at same = not_decoded (subst (IsDecoded all S) same (ground.names.mail.uses q v at).1)

    -- it isn't the latest of an entry
    pub no_latest : (b : ℕ) (e : Entry) → get S.entries b ≡ Some e → e.latest ≢ o
    no_latest b e at same = not_decoded (subst (IsDecoded all S) same (ground.names.entries b e at))
