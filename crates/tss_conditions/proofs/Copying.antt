-- What copy finds follows from the laws.
use Rattle.std.proofs.Common.{◌≡◌, ℕ, ◌<◌, ◌≤◌, true, Some, refl, sym, ap, ◌∙◌, inr, arith}
use Rattle.std.specs.FinMap.{get}
use Rattle.std.proofs.lemmas.Option.{same_Some}
use Rattle.tss_base.specs.declared.range.Range.{Range}
use Rattle.tss_base.specs.declared.operand.OpName.{OpName}
use Rattle.tss_base.specs.declared.operand.Mode.TheVariants.{Output}
use Rattle.tss_base.specs.declared.operand.Operand.{Operand}
use Rattle.tss_base.specs.declared.machine.Key.TheVariants as key
use Rattle.tss_base.specs.declared.machine.Machine.{Machine}
use Rattle.tss_base.specs.Image.{ImageState}
use Rattle.tss_model.specs.Memory.{memory_ranges, range_of}
use Rattle.tss_model.specs.Access.{writes}
use Rattle.tss_protocol.specs.Names.{bank_of}
use Rattle.tss_protocol.specs.State.{State, CopyState}
use Rattle.tss_program_order.proofs.RunKeeps.{HasGround-run}
use Rattle.tss_program_order.proofs.FlatOperands.{IsFit}
use Rattle.tss_control.specs.Members.{operand_among}
use Rattle.tss_control.proofs.rounds.EntriesNames.{operand_of_object}
use Rattle.tss_control.proofs.rounds.Facts.{Facts}
use Rattle.tss_values.specs.Buffers.{HasBuffer}
use Rattle.tss_values.proofs.returns.Copy.{copy_object}
use Rattle.tss_conditions.specs.Reached.{Reached}
use Rattle.tss_conditions.specs.Copying.{CopyLaw}
use Rattle.tss_conditions.proofs.Known.{facts_reached, buffers_reached, operands_reached, outputs_reached, room_reached}
use Rattle.tss_conditions.proofs.Copies.{left_run}
use Rattle.tss_conditions.proofs.Holding.{held_in_bank, bank_below}
use Rattle.tss_conditions.proofs.Running.{set_by}

module _ (m : Machine) (i : ImageState) (S : State) (r : Reached m i S) (b : ℕ) (c : CopyState)
    (there : get S.copies b ≡ Some c) where
  abbrev facts : Facts m S
  facts = facts_reached m i S r

  -- its version's operand
  opener : (p : Operand) × (operand_among facts.ts c.version ≡ Some p) × (p.object ≡ c.object)
  opener = operand_of_object facts.ts c.version c.object (copy_object m S facts.basis b c there)

  bank : bank_of m.sizes c.object ≡ b
  bank = (facts.ground.places.copied b c there).1

  number : b < m.sizes.banks
  number =
      let own = bank in
      let below = bank_below m r.admissible c.object in
      omega (arith, below, own)

  has : HasBuffer S c.version c.buffer
  has = inr (inr (inr (b, c, there, refl, refl)))

  buffer : get S.buffers c.buffer ≡ Some (bank_of m.sizes c.object)
  buffer =
      held_in_bank m i S r c.version c.buffer opener.0 has opener.1
      ∙ ap (λ (x : Range). Some (bank_of m.sizes x)) opener.2

  -- the operand for which its buffer was taken writes the object
  output : (q : Operand) × (operand_among facts.ts c.buffer ≡ Some q) × (q.mode ≡ Output)
  output = outputs_reached m i S r c.buffer (bank_of m.sizes c.object) buffer

  output_object : output.0.object ≡ c.object
  output_object =
      let own = (buffers_reached m i S r).own c.version c.buffer has in
      let first = same_Some own.0 opener.0 (sym own.2 ∙ opener.1) in
      let second = same_Some output.0 own.1 (sym output.1 ∙ own.3) in
      let taken = ap (λ (q : Operand). q.object) second in
      let same = ap (λ (q : Operand). q.object) first in
      taken ∙ (own.4 ∙ (same ∙ opener.2))

  fit_of : (o : OpName) (p : Operand) → operand_among facts.ts o ≡ Some p → IsFit m.limits (memory_ranges i) p
  fit_of o p among =
      let of = facts.ground.known.operands o p among in
      operands_reached m i S r o.task of.task of.spawned o.place p of.place

  within : range_of S.home.ranges c.object ≡ Some true
  within =
      let fit = fit_of c.buffer output.0 output.1 in
      let ground = HasGround-run m i r.reachable.0 S r.reachable.1 in
      let at = ap (range_of S.home.ranges) (sym output_object) in
      let image = ap (λ ranges. range_of ranges output.0.object) ground.ranges in
      at ∙ (image ∙ (fit.placed ∙ ap Some (fit.written (ap writes output.2))))

  short : c.object.len ≤ m.limits.object_bytes
  short =
      let few = (fit_of c.version opener.0 opener.1).short in
      let same = ap (λ (x : Range). x.len) opener.2 in
      omega (arith, few, same)

pub copying : CopyLaw
copying m i S b c r there = record {
  number = number m i S r b c there;
  bank = bank m i S r b c there;
  place = ((facts_reached m i S r).ground.places.copied b c there).0;
  buffer = buffer m i S r b c there ∙ ap Some (bank m i S r b c there);
  set =
      set_by m S c.buffer (r.admissible.limits key.ObjectBytes m.limits.object_bytes refl).0
      ((room_reached m i S r).copies b c there);
  within = within m i S r b c there;
  short = short m i S r b c there;
  moved = left_run m i r.reachable.0 S r.accepted r.admissible r.reachable.1 b c there;
}
