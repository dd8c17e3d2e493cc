-- An operand of the round that program order starts finds its object as the last writer before it left it.
use Rattle.std.proofs.Common.{◌≡◌, ◌<◌, Some, sym, subst, arith, inl, inr}
use Rattle.tss_base.specs.declared.operand.OpName.{OpName}
use Rattle.tss_base.specs.declared.operand.Operand.{Operand}
use Rattle.tss_base.specs.declared.machine.Machine.{Machine}
use Rattle.tss_base.specs.Image.{ImageState}
use Rattle.tss_model.specs.InOrder.{Started}
use Rattle.tss_protocol.specs.State.{State}
use Rattle.tss_control.specs.Members.{operand_among, NoWriterBetween}
use Rattle.tss_program_order.proofs.FlatNumbers.{number_there}
use Rattle.tss_program_order.proofs.FlatStarts.{started-number}
use Rattle.tss_names.proofs.NumberLemmas.{number_within}
use Rattle.tss_values.proofs.Values.{Starts, HasMain, HasNaming, IsLive, IsKnown, IsGood, bytes_before, bytes_after}
use Rattle.tss_values.proofs.stored.Settled.{FindsLeft}
use Rattle.tss_values.proofs.NamingLemmas.{runs_on, found_between}
use Rattle.tss_control.proofs.rounds.Facts.{Basis}

module _ (m : Machine) (i : ImageState) (S : State) (basis : Basis m S) (main : HasMain m i basis.all S)
    (naming : HasNaming m i basis.all basis.ts S) where
  open basis use {all, ts, ground}

  -- where program order starts a task of the round, it has started each older one before
  started_older : (v w : OpName) (q : Operand) (s : Started) → operand_among ts v ≡ Some q
      → (starts : Starts m i w.task s) → v.task < w.task
      → (t : Started) × (first : Starts m i v.task t) × (first.0 < starts.0)
  started_older v w q s from starts less =
      let known = ground.known.operands v q from in
      let some = number_within all v.task known.task known.spawned in
      let number = started-number i m.limits starts.0 s starts.1 in
      let n =
      number_there i m.limits v.task starts.0 (omega (arith, some.0)) (omega (arith, number, starts.2, less)) in
      (n.started, (n.place, n.start, n.number), n.before)

  -- it finds there what one left that still acts on the object
  pub found_left : (v w : OpName) (q p : Operand) (s : Started) → operand_among ts v ≡ Some q → IsLive S v q.object
      → IsKnown m i ts w p s → q.object ≡ p.object → v.task < w.task → NoWriterBetween ts p.object v w
      → (t : Started) × Starts m i v.task t × IsGood m i t q × (bytes_after m i t q ≡ bytes_before s p)
  found_left v w q p s from live known same less none =
      let t = started_older v w q s from known.starts less in (
        t.0,
        t.1,
        λ writer. runs_on m i S basis main naming v t.0 known.starts.0 s t.1 known.starts.1 t.2,
        sym (found_between m i S basis main naming v w q p t.0 s from live known.operand same less
            (subst (λ x. NoWriterBetween ts x v w) (sym same) none) t.1 known.starts),
      )

  -- so it does where that is a version
  pub finds_left : FindsLeft m i ts S
  finds_left v w q p s from member known same less none =
      found_left v w q p s from (inr (inl member)) known same less none
