-- What is held for names of a round: buffers in the bank of their object, and counts of readers below what a word has.
use Rattle.std.proofs.Common.{◌≡◌, ◌-◌, ◌/◌, ◌<◌, Some, refl, sym, ap, ◌∙◌, arith, mod-lt}
use Rattle.std.specs.Prelude.{◌^◌, ◌/◌}
use Rattle.std.specs.FinMap.{get}
use Rattle.std.proofs.lemmas.Option.{same_Some}
use Rattle.tss_base.specs.declared.range.Range.{Range}
use Rattle.tss_base.specs.declared.operand.OpName.{OpName}
use Rattle.tss_base.specs.declared.operand.Operand.{Operand}
use Rattle.tss_base.specs.declared.machine.Machine.{Machine}
use Rattle.tss_base.specs.declared.machine.Key.TheVariants as key
use Rattle.tss_base.specs.Image.{ImageState}
use Rattle.tss_base.specs.Machine.{IsAdmissible}
use Rattle.tss_protocol.specs.Names.{bank_of}
use Rattle.tss_protocol.specs.State.{State}
use Rattle.tss_names.specs.UseCounts.{most_operands}
use Rattle.tss_names.proofs.MessageLemmas.{more_times}
use Rattle.tss_control.specs.Members.{operand_among}
use Rattle.tss_control.proofs.rounds.EntriesNames.{one_operand}
use Rattle.tss_values.specs.Buffers.{HasBuffer}
use Rattle.tss_conditions.specs.Reached.{Reached}
use Rattle.tss_conditions.proofs.Known.{facts_reached, buffers_reached, banks_reached}

-- a run has fewer operands than a word counts
pub few_operands : (m : Machine) → IsAdmissible m → most_operands m < 2 ^ 32 - 1
few_operands m admissible =
    let tasks = (admissible.limits key.MaxTasks m.limits.max_tasks refl).1 in
    let operands = (admissible.limits key.MaxOperands m.limits.max_operands refl).1 in
    let more = more_times m.limits.max_tasks 65536 m.limits.max_operands tasks in
    omega (arith, more, operands)

-- the bank of an object is one of the machine's
pub bank_below : (m : Machine) → IsAdmissible m → (x : Range) → bank_of m.sizes x < m.sizes.banks
bank_below m admissible x =
    mod-lt (x.base / 64) (admissible.sizes key.Banks m.sizes.banks refl).0

module _ (m : Machine) (i : ImageState) (S : State) (r : Reached m i S) where
  -- a buffer is held in the bank of its holder's object
  pub held_in_bank : (v b : OpName) (p : Operand) → HasBuffer S v b
      → operand_among (facts_reached m i S r).ts v ≡ Some p → get S.buffers b ≡ Some (bank_of m.sizes p.object)
  held_in_bank v b p has among =
      let facts = facts_reached m i S r in
      let buffers = buffers_reached m i S r in
      let held = buffers.held v b has in
      let own = buffers.own v b has in
      let of = banks_reached m i S r b held.0 held.1 in
      let one = one_operand facts.all b of.0 own.1 of.1 (facts.ground.known.operands b own.1 own.3) in
      let same = same_Some own.0 p (sym own.2 ∙ among) in
      held.1
      ∙ ap Some (of.2 ∙ ap (λ (q : Operand). bank_of m.sizes q.object) one
      ∙ ap (bank_of m.sizes) (own.4 ∙ ap (λ (q : Operand). q.object) same))
