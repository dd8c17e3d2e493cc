-- Every enabled event fits, by the laws.
use Rattle.std.proofs.Common.{◌≡◌, ℕ, true, List, [], ◌∷◌, Option, Some, refl, arith}
use Rattle.std.specs.Prelude.{◌&&◌, nat_lt, nat_le, is_some, is_none}
use Rattle.std.specs.FinMap.{get}
use Rattle.std.proofs.lemmas.Bool.{and_parts, and_from, lt-ltb, le-leb, ltb-true}
use Rattle.std.proofs.lemmas.Option.{slice_get_within}
use Rattle.tss_base.specs.declared.operand.OpName.{OpName}
use Rattle.tss_base.specs.declared.operand.Operand.{Operand}
use Rattle.tss_base.specs.declared.machine.Machine.{Machine}
use Rattle.tss_base.specs.declared.machine.Key.TheVariants as key
use Rattle.tss_base.specs.declared.event.Event.{Event}
use Rattle.tss_base.specs.declared.event.Event.TheVariants as event
use Rattle.tss_base.specs.Event.{fits, name_fits, worker_fits}
use Rattle.tss_base.specs.Machine.{IsAdmissible}
use Rattle.tss_model.specs.Access.{operands_of}
use Rattle.tss_protocol.specs.State.{State, Busy}
use Rattle.tss_protocol.specs.Workers.{can_start, can_exec, can_finish}
use Rattle.tss_protocol.specs.UnitMachine.{is_enabled, IsEnabled, can_decode_message, can_open_message, can_use_message}
use Rattle.tss_names.specs.Tasks.{IsOperandOf}
use Rattle.tss_names.specs.Names.{IsDecoded}
use Rattle.tss_names.proofs.NumberLemmas.{number_within}
use Rattle.tss_phases.proofs.Tests.{something, both}
use Rattle.tss_control.proofs.rounds.Facts.{Facts}
use Rattle.tss_conditions.specs.Fitting.{FittingLaw}
use Rattle.tss_conditions.proofs.Known.{facts_reached}
use Rattle.tss_conditions.proofs.Holding.{bank_below}

module _ (m : Machine) (S : State) (admissible : IsAdmissible m) (facts : Facts m S) where
  open facts use {all, ground}

  -- a name of an operand of a spawned task fits
  operand_fits : (o : OpName) (p : Operand) → IsOperandOf all o p → name_fits o ≡ true
  operand_fits o p of =
      let within = number_within all o.task of.task of.spawned in
      let low = within.0 in
      let high = within.1 in
      let many = ground.numbers.spawned in
      let few = ground.numbers.few in
      let tasks = (admissible.limits key.MaxTasks m.limits.max_tasks refl).1 in
      let place = slice_get_within (operands_of of.task) o.place p of.place in
      let operands = (ground.numbers.each o.task of.task of.spawned).operands in
      let most = (admissible.limits key.MaxOperands m.limits.max_operands refl).1 in
      and_from (nat_le 1 o.task && nat_le o.task 65536) (nat_lt o.place 7)
      (and_from (nat_le 1 o.task) (nat_le o.task 65536) (le-leb 1 o.task low)
      (le-leb o.task 65536 (omega (arith, high, many, few, tasks))))
      (lt-ltb o.place 7 (omega (arith, place, operands, most)))

  -- so does a name that is used
  decoded_fits : (o : OpName) → IsDecoded all S o → name_fits o ≡ true
  decoded_fits o d = operand_fits o d.1.0 d.1.1

  busy_fits : (w : ℕ) (b : Busy) → get S.workers w ≡ Some b → worker_fits w ≡ true
  busy_fits w b at =
      let own = (ground.stages.workers w b at).number in
      let few = (admissible.sizes key.Workers m.sizes.workers refl).1 in
      lt-ltb w 64 (omega (arith, own, few))

  start_fits : (w : ℕ) (x : Option Busy) (queue : List ℕ) → can_start m.sizes.workers w x queue ≡ true
      → worker_fits w ≡ true
  start_fits w x [] on = absurd (cc)
  start_fits w x (t ∷ ts) on =
      let own = ltb-true w m.sizes.workers (and_parts (nat_lt w m.sizes.workers) (is_none x) on).0 in
      let few = (admissible.sizes key.Workers m.sizes.workers refl).1 in
      lt-ltb w 64 (omega (arith, own, few))

  all_fit : (e : Event) → IsEnabled m S e → fits e ≡ true
  unfolding is_enabled
  all_fit event.Main on = refl
  all_fit event.Take on = refl
  all_fit (event.Decode o) on =
      let x = something (can_decode_message m S o) (get S.mail.decodes o) refl on in
      operand_fits o x.0 (ground.gateway.decodes o x.0 x.1).2
  all_fit (event.Ack o) on =
      let x = something is_some (get S.mail.acks o) refl on in
      decoded_fits o (ground.names.mail.acks o x.0 x.1)
  all_fit (event.Open o) on =
      let x = something (can_open_message S) (get S.mail.opens o) refl on in
      decoded_fits o (ground.names.mail.opens o x.0 x.1).0
  all_fit (event.Use o) on =
      let x = something (can_use_message S) (get S.mail.uses o) refl on in
      decoded_fits o (ground.names.mail.uses o x.0 x.1).0
  all_fit (event.Ready o) on =
      let x = something is_some (get S.mail.readies o) refl on in
      decoded_fits o (ground.names.mail.readies o x.0 x.1).0.0
  all_fit (event.Link o) on =
      let x = something is_some (get S.mail.links o) refl on in
      decoded_fits o (ground.names.mail.links o x.0 x.1).0.0
  all_fit (event.Start w) on = start_fits w (get S.workers w) S.queue on
  all_fit (event.Exec w) on =
      let b = something can_exec (get S.workers w) refl on in busy_fits w b.0 b.1
  all_fit (event.Finish w) on =
      let b = something can_finish (get S.workers w) refl on in busy_fits w b.0 b.1
  all_fit (event.Release o) on =
      let x = something is_some (get S.mail.releases o) refl on in
      decoded_fits o (ground.names.mail.releases o x.0 x.1).0.0
  all_fit (event.Bye o) on =
      let x = something is_some (get S.mail.byes o) refl on in
      decoded_fits o (ground.names.mail.byes o x.0 x.1).0
  all_fit (event.Idle v) on =
      let x = something is_some (get S.mail.idles v) refl on in
      decoded_fits v (ground.names.mail.idles v x.0 x.1).0
  all_fit (event.Nack v) on =
      let x = something is_some (get S.mail.nacks v) refl on in
      decoded_fits v (ground.names.mail.nacks v x.0 x.1).0
  all_fit (event.Retire v) on =
      let x = something is_some (get S.mail.retires v) refl (both (is_some (get S.mail.retires v)) _ on).0 in
      decoded_fits v (ground.names.mail.retires v x.0 x.1).0
  all_fit (event.Copy b) on =
      let c = something is_some (get S.copies b) refl on in
      let own = (ground.places.copied b c.0 c.1).1 in
      let below = bank_below m admissible (c.0).object in
      let few = (admissible.sizes key.Banks m.sizes.banks refl).1 in
      lt-ltb b 64 (omega (arith, own, below, few))
  all_fit (event.Gone v) on =
      let x = something is_some (get S.mail.gones v) refl on in
      decoded_fits v (ground.names.mail.gones v x.0 x.1).0.0

pub event_fits : FittingLaw
event_fits m i S e r on = all_fit m S r.admissible (facts_reached m i S r) e on
