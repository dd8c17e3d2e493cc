-- What stands at home after an event that writes there only in objects that have an entry, and not in one whose first
-- version is being opened.
use Rattle.std.proofs.Common.{◌≡◌, ℕ, List, Option, Some, None, sym, ap, ◌∙◌, subst, false}
use Rattle.std.specs.Prelude.{unwrap_or}
use Rattle.std.specs.FinMap.{get}
use Rattle.tss_base.specs.declared.range.Range.{Range}
use Rattle.tss_base.specs.declared.operand.OpName.{OpName}
use Rattle.tss_base.specs.declared.operand.Operand.{Operand}
use Rattle.tss_base.specs.declared.operand.Task.{Task}
use Rattle.tss_base.specs.declared.machine.Machine.{Machine}
use Rattle.tss_base.specs.Image.{ImageState}
use Rattle.tss_model.specs.Memory.{byte_at, bytes_of}
use Rattle.tss_protocol.specs.Mail.{OpenContents}
use Rattle.tss_protocol.specs.State.{State}
use Rattle.tss_phases.specs.Phase.{is_decoded, phase_of}
use Rattle.tss_control.specs.Members.{operand_among}
use Rattle.tss_program_order.specs.MainInOrder.{flat_beside}
use Rattle.tss_program_order.proofs.FlatLoads.{same_bytes}
use Rattle.tss_values.proofs.Values.{IsFirstAhead, HasHome, IsInside, IsLoose, IsUnclaimed}
use Rattle.tss_values.proofs.LiveObjects.{undecoded_named, entry_inside}
use Rattle.tss_control.proofs.rounds.Facts.{Basis}
use Rattle.tss_phases.specs.Orderly.{AreOrderly}
use Rattle.std.proofs.lemmas.Option.{none-some}

-- home has the same at an address
abbrev pub SameByte : State → State → ℕ → Type 0
SameByte S T a = get T.home.bytes a ≡ get S.home.bytes a

-- what is left
pub record LeavesHome (ts : List Task) (S T : State) : Type 0 where
  pub main : T.main ≡ S.main
  pub entries : (b : ℕ) → get T.entries b ≡ None → get S.entries b ≡ None
  pub unclaimed : (a : ℕ) → IsUnclaimed T a → IsUnclaimed S a
  pub opens : (o : OpName) (c : OpenContents) → get T.mail.opens o ≡ Some c → get S.mail.opens o ≡ Some c
  pub decoded : (o : OpName) (p : Operand) → operand_among ts o ≡ Some p
      → is_decoded (phase_of T o) ≡ is_decoded (phase_of S o)
  pub loose : (a : ℕ) → IsLoose S a → SameByte S T a
  pub opening : (o : OpName) (c : OpenContents) → get S.mail.opens o ≡ Some c → c.follows ≡ None → (a : ℕ)
      → IsInside c.operand.object a → SameByte S T a

-- bytes of an object that are the same one by one
pub bytes_same : (S T : State) (x : Range) → ((a : ℕ) → IsInside x a → SameByte S T a)
    → bytes_of T.home x ≡ bytes_of S.home x
bytes_same S T x each =
    same_bytes (byte_at T.home) (byte_at S.home) x.base x.len
    (λ a low high.
    let inside : IsInside x a = (low, high) in
    ap (λ (o : Option ℕ). unwrap_or o 0) (each a inside))

module _ (m : Machine) (i : ImageState) (S T : State) (basis : Basis m S) (orderly : AreOrderly S)
    (k : LeavesHome basis.ts S T) (h : HasHome m i basis.ts S) where
  open basis use {ts}

  first_before : (x : Range) (o : OpName) (p : Operand) → IsFirstAhead ts T x o p → IsFirstAhead ts S x o p
  first_before x o p f = record {
    operand = f.operand;
    object = f.object;
    ahead = sym (k.decoded o p f.operand) ∙ f.ahead;
    first = λ q r e on ahead. f.first q r e on (k.decoded q r e ∙ ahead);
  }

  -- the object of an operand that isn't decoded is left where it has no entry
  absent_same : (o : OpName) (p : Operand) → operand_among ts o ≡ Some p → is_decoded (phase_of S o) ≡ false
      → get S.entries p.object.base ≡ None → (a : ℕ) → IsInside p.object a → SameByte S T a
  absent_same o p among early none a inside =
      k.loose a (λ b e at within.
      none-some e (sym none
      ∙ entry_inside m S basis p.object (undecoded_named m S basis orderly o p among early) a b e at within inside))

  -- what stands at home is right after it
  pub home_left : HasHome m i ts T
  home_left = record {
    ahead = λ x o p s none first starts.
        let before = first_before x o p first in
        let same = absent_same o p before.operand before.ahead
        (ap (λ (x : Range). get S.entries x.base) before.object ∙ k.entries x.base none) in
        bytes_same S T x (λ a inside. same a (subst (λ x. IsInside x a) (sym before.object) inside))
        ∙ h.ahead x o p s (k.entries x.base none) before starts;
    beside = λ a e free.
        let main = k.main in
        let before = k.unclaimed a free in
        k.loose a before.entered
        ∙ h.beside a (sym main ∙ e ∙ ap (λ c. (flat_beside i m.limits c).main) main) before
        ∙ ap (λ c. get (flat_beside i m.limits c).memory.bytes a) (sym main);
    opening = λ o c s at first reads starts.
        let old = k.opens o c at in
        bytes_same S T c.operand.object (λ a inside. k.opening o c old first a inside)
        ∙ h.opening o c s old first reads starts;
  }
