-- What stands at home: the events that leave it, and what they leave of entries, opens, and of what is decoded.
use Rattle.std.proofs.Common.{◌≡◌, ℕ, Bool, true, false, List, Some, None, refl, sym, ap, ◌∙◌, inl, inr, subst}
use Rattle.std.specs.Prelude.{nat_lt, ◌||◌}
use Rattle.std.specs.FinMap.{get}
use Rattle.tss_base.specs.declared.range.Range.{Range}
use Rattle.tss_base.specs.declared.operand.OpName.{OpName}
use Rattle.tss_base.specs.declared.operand.Operand.{Operand}
use Rattle.tss_base.specs.declared.operand.Task.{Task}
use Rattle.tss_base.specs.declared.machine.Machine.{Machine}
use Rattle.tss_base.specs.declared.event.Event.{Event}
use Rattle.tss_base.specs.Image.{ImageState}
use Rattle.tss_model.specs.Memory.{bytes_of}
use Rattle.tss_protocol.specs.Mail.{OpenContents}
use Rattle.tss_protocol.specs.State.{State, Entry}
use Rattle.tss_protocol.specs.UnitMachine.{after_event}
use Rattle.tss_phases.specs.Phase.{inbox_has, is_ahead, is_decoded, phase_of}
use Rattle.tss_phases.specs.Orderly.{AreOrderly}
use Rattle.tss_control.specs.Members.{operand_among}
use Rattle.tss_program_order.specs.MainInOrder.{flat_beside}
use Rattle.tss_protocol.proofs.FrontLemmas.{is_of_front, KeepsFront-after_event}
use Rattle.tss_control.proofs.rounds.EntriesQuiet.{decoded_before}
use Rattle.tss_values.proofs.Values.{IsFirstAhead, HasHome, IsInside, IsLoose, IsUnclaimed}
use Rattle.std.proofs.lemmas.Option.{none-some}
use Rattle.tss_maps.proofs.Changes.{decide_get}

-- what is left
pub record KeepsHome (ts : List Task) (S T : State) : Type 0 where
  pub home : T.home ≡ S.home
  pub main : T.main ≡ S.main
  pub entries : (b : ℕ) → get T.entries b ≡ None → get S.entries b ≡ None
  pub unclaimed : (a : ℕ) → IsUnclaimed T a → IsUnclaimed S a
  pub opens : (o : OpName) (c : OpenContents) → get T.mail.opens o ≡ Some c → get S.mail.opens o ≡ Some c
  pub decoded : (o : OpName) (p : Operand) → operand_among ts o ≡ Some p
      → is_decoded (phase_of T o) ≡ is_decoded (phase_of S o)

-- the first operand that isn't decoded is the same
first_kept : (ts : List Task) (S T : State) → KeepsHome ts S T → (x : Range) (o : OpName) (p : Operand)
    → IsFirstAhead ts T x o p → IsFirstAhead ts S x o p
first_kept ts S T k x o p f = record {
  operand = f.operand;
  object = f.object;
  ahead = sym (k.decoded o p f.operand) ∙ f.ahead;
  first = λ q r e on ahead. f.first q r e on (k.decoded q r e ∙ ahead);
}

-- so what stands at home is right
pub home_kept : (m : Machine) (i : ImageState) (ts : List Task) (S T : State) → KeepsHome ts S T → HasHome m i ts S
    → HasHome m i ts T
home_kept m i ts S T k h = record {
  ahead = λ x o p s none first starts.
      ap (λ b. bytes_of b x) k.home ∙ h.ahead x o p s (k.entries x.base none) (first_kept ts S T k x o p first) starts;
  beside = λ a e free.
      let main = k.main in
      ap (λ b. get b.bytes a) k.home
      ∙ h.beside a (sym main ∙ e ∙ ap (λ c. (flat_beside i m.limits c).main) main) (k.unclaimed a free)
      ∙ ap (λ c. get (flat_beside i m.limits c).memory.bytes a) (sym main);
  opening = λ o c s at first reads starts.
      ap (λ b. bytes_of b c.operand.object) k.home ∙ h.opening o c s (k.opens o c at) first reads starts;
}

-- ---- what is claimed

-- entries stay, of the same objects
abbrev pub EntriesStay : State → State → Type 0
EntriesStay S T =
    (b : ℕ) (e : Entry) → get S.entries b ≡ Some e
    → (f : Entry) × (get T.entries b ≡ Some f) × (f.object ≡ e.object)

-- so one that isn't there wasn't
pub stay_absent : (S T : State) → EntriesStay S T → (b : ℕ) → get T.entries b ≡ None → get S.entries b ≡ None
stay_absent S T stay b none = elim (decide_get S.entries b) [
  | inl before ↦ before
  | inr e ↦ let f = stay b e.0 e.1 in absurd (none-some f.0 (sym none ∙ f.1))
]

-- and nobody claims less
pub stay_loose : (S T : State) → EntriesStay S T → (a : ℕ) → IsLoose T a → IsLoose S a
stay_loose S T stay a loose b e at inside =
    let f = stay b e at in loose b f.0 f.1 (subst (λ x. IsInside x a) (sym f.2) inside)

-- where the inbox and the decodes are left
pub stay_unclaimed : (S T : State) → EntriesStay S T → T.inbox ≡ S.inbox → T.mail.decodes ≡ S.mail.decodes → (a : ℕ)
    → IsUnclaimed T a → IsUnclaimed S a
stay_unclaimed S T stay inbox decodes a free = record {
  entered = stay_loose S T stay a free.entered;
  arriving = λ t there j p at inside. free.arriving t (inbox ∙ there) j p at inside;
  decoding = λ o p at inside. free.decoding o p (ap (λ ds. get ds o) decodes ∙ at) inside;
}

-- so it is with an event behind the gateway
pub later_unclaimed : (m : Machine) (S : State) (e : Event) → is_of_front e ≡ false → EntriesStay S (after_event m S e)
    → (a : ℕ) → IsUnclaimed (after_event m S e) a → IsUnclaimed S a
later_unclaimed m S e later stay =
    let k = KeepsFront-after_event m S e later in
    stay_unclaimed S (after_event m S e) stay (λ i. (k.front i).inbox) (λ i. (k.front i).decodes)

-- ---- what is decoded

same_tests : (a b : Bool) → (a ≡ true → b ≡ true) → (b ≡ true → a ≡ true) → a ≡ b
same_tests true b f g = sym (f refl)
same_tests false true f g = g refl
same_tests false false f g = refl

-- an event behind the gateway leaves what is decoded
pub decoded_kept : (m : Machine) (S : State) (e : Event) → is_of_front e ≡ false → AreOrderly S
    → AreOrderly (after_event m S e) → (o : OpName)
    → is_decoded (phase_of (after_event m S e) o) ≡ is_decoded (phase_of S o)
decoded_kept m S e later before after o =
    let T = after_event m S e in
    let k = KeepsFront-after_event m S e later in
    let decodes : get T.mail.decodes o ≡ get S.mail.decodes o = λ i. get (k.front i).decodes o in
    let ahead : is_ahead T o.task ≡ is_ahead S o.task =
    λ i. nat_lt (k.front i).spawned o.task || inbox_has (k.front i).inbox o.task in
    same_tests (is_decoded (phase_of T o)) (is_decoded (phase_of S o)) (decoded_before S T before after o decodes ahead)
    (decoded_before T S after before o (sym decodes) (sym ahead))
