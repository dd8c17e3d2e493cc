-- What operands hold after a bye: the operand has left, or awaits its link, and its task may leave.
use Rattle.std.proofs.Common.{◌≡◌, ◌≢◌, Bool, true, false, Option, Some, None, refl, sym, ap, ◌∙◌, subst, inl, inr}
use Rattle.std.proofs.Common.{true≢false}
use Rattle.std.specs.Prelude.{◌&&◌, not, if◌then◌else◌, is_some}
use Rattle.std.specs.FinMap.{get}
use Rattle.std.proofs.lemmas.Option.{none-some}
use Rattle.tss_base.specs.declared.operand.OpName.{OpName}
use Rattle.tss_base.specs.declared.operand.Mode.{Mode}
use Rattle.tss_base.specs.declared.operand.Mode.TheVariants.{Input, Output, Inout}
use Rattle.tss_base.specs.declared.operand.Operand.{Operand}
use Rattle.tss_base.specs.declared.machine.Machine.{Machine}
use Rattle.tss_base.specs.declared.event.Event.TheVariants as event
use Rattle.tss_base.specs.declared.marks.Farewell.{Farewell}
use Rattle.tss_base.specs.declared.marks.Farewell.TheVariants as farewell
use Rattle.tss_base.specs.declared.marks.LinkState.{LinkState}
use Rattle.tss_base.specs.declared.marks.LinkState.TheVariants as link
use Rattle.tss_maps.proofs.Keys.{nat_order, name_order, decide_key}
use Rattle.tss_model.specs.Access.{writes}
use Rattle.tss_protocol.specs.Mail.{StorageName, Source}
use Rattle.tss_protocol.specs.State.{State, OperandState, Flying, Version}
use Rattle.tss_protocol.specs.Stations.{operand_at, operand_after_bye, has_passed, remaining_tasks}
use Rattle.tss_protocol.specs.UnitMachine.{is_enabled, IsEnabled, after_event}
use Rattle.tss_phases.specs.Phase.{Phase, Ahead, Decoding, Sent, Waiting, Told, Ready, Releasing, Leaving, Promised}
use Rattle.tss_phases.specs.Phase.{Left, LookUps, look_ups, phase_at, phase_of, is_ahead}
use Rattle.tss_phases.specs.Alone.{IsSilent}
use Rattle.tss_phases.specs.Leaving.{phase_parted}
use Rattle.tss_phases.specs.Openers.{version_opener, opener_by, open_opener}
use Rattle.tss_phases.specs.Orderly.{FitsPhase, IsOrderly, AreOrderly}
use Rattle.tss_phases.proofs.Tests.{something}
use Rattle.tss_phases.proofs.Shown.{promised_shows}
use Rattle.tss_phases.proofs.PhaseLemmas.{silent_station}
use Rattle.tss_phases.proofs.LeavingTasks.{remaining_beside}
use Rattle.tss_phases.proofs.OrderlyLemmas.{leaving_stands, orderly_promised, orderly_left, taken_by_record}
use Rattle.tss_phases.proofs.ByeEvent.{parted_task, look_ups-bye-own, look_ups-bye-other, parted_record}
use Rattle.tss_phases.proofs.ByeEvent.{parted_record_other, leaving_before, phase_of-bye, phase_of-bye-other}
use Rattle.tss_locality.proofs.LeftFields.{Leaves-after_event}
use Rattle.tss_control.specs.Members.{operand_among}
use Rattle.tss_control.specs.Holders.{IsTrue, PromiseFits, HasHolders}
use Rattle.tss_control.proofs.readers.Links.{links-bye}
use Rattle.tss_control.proofs.rounds.Spawned.{among_object}
use Rattle.tss_control.proofs.holders.Fits.{Holding, HasOpened, HasCome, HoldsIn}
use Rattle.tss_control.proofs.holders.Turns.{holding_remaining}
use Rattle.tss_control.proofs.holders.Leaves.{holding_parted}
use Rattle.tss_control.proofs.holders.Frames.{IsChangedHolder, holding_there, holding_after, holders_kept}
use Rattle.tss_control.proofs.holders.RunnerEvents.{HasRunners-after_event}
use Rattle.tss_control.proofs.holders.KeepsOrder.{AreOrderly-controlled}
use Rattle.tss_control.proofs.rounds.Facts.{Facts}

-- ---- records

-- an operand in order that is neither ahead nor has left has a record
pub record_stands : (l : LookUps) → IsOrderly l → phase_at l ≢ Ahead → phase_at l ≢ Left
    → (r : OperandState) × (l.station ≡ Some r)
record_stands l orderly ahead left = by (phase_at l) orderly.fits ahead left
  where
    by : (p : Phase) → FitsPhase p l → p ≢ Ahead → p ≢ Left → (r : OperandState) × (l.station ≡ Some r)
    by Ahead f a b = absurd (a refl)
    by Decoding f a b = (f.0.kept, f.0.there)
    by Sent f a b = (f.0.kept, f.0.there)
    by Waiting f a b = (f.0.kept, f.0.there)
    by Told f a b = (f.0.kept, f.0.there)
    by Ready f a b = (f.0.1.kept, f.0.1.there)
    by Releasing f a b = (f.0.1.kept, f.0.1.there)
    by Leaving f a b = (f.0.1.kept, f.0.1.there)
    by Promised f a b = (f.0.0, f.0.1)
    by Left f a b = absurd (b refl)

-- one with a record isn't ahead
not_ahead_by_record : (l : LookUps) (r : OperandState) → IsOrderly l → l.station ≡ Some r → phase_at l ≢ Ahead
not_ahead_by_record l r orderly kept e =
    let f : FitsPhase Ahead l = subst (λ p. FitsPhase p l) e orderly.fits in none-some r (sym f.0 ∙ kept)

-- ---- openers

-- the opener of a version that parts without a promise
opener_left : (y : Version) (mode : Mode) → version_opener y mode Leaving ≡ true → version_opener y mode Left ≡ true
opener_left y mode opens = by y.produced opens
  where
    leaving_opens : (s : Option StorageName) → open_opener s Leaving ≡ true → ⊥
    leaving_opens None e = true≢false (sym e)
    leaving_opens (Some s) e = true≢false (sym e)

    produced : (mode : Mode) → opener_by y mode Left true ≡ true
    produced Input = refl
    produced Output = refl
    produced Inout = refl

    by : (b : Bool) → opener_by y mode Leaving b ≡ true → opener_by y mode Left b ≡ true
    by true e = produced mode
    by false e = absurd (leaving_opens y.storage e)

-- a reader may part with one
opener_promised : (y : Version) → version_opener y Input Leaving ≡ true → version_opener y Input Promised ≡ true
opener_promised y opens = by y.produced opens
  where
    leaving_opens : (s : Option StorageName) → open_opener s Leaving ≡ true → ⊥
    leaving_opens None e = true≢false (sym e)
    leaving_opens (Some s) e = true≢false (sym e)

    by : (b : Bool) → opener_by y Input Leaving b ≡ true → opener_by y Input Promised b ≡ true
    by true e = refl
    by false e = absurd (leaving_opens y.storage e)

-- a promise is of a reader's link, and while it is under way
module _ (k : Option OpName) (x : LinkState) (b : Bool) (fits : PromiseFits k x b) where
  no_promise : (x ≡ link.Nothing) × (k ≡ None) → b ≡ false
  no_promise none = by b fits
    where
      nothing_passed : link.Nothing ≡ link.Passed → ⊥
      nothing_passed e = cc

      by : (b : Bool) → PromiseFits k x b → b ≡ false
      by false f = refl
      by true (inl f) = absurd (nothing_passed (sym none.0 ∙ f.0))
      by true (inr f) = absurd (none-some f.1.0 (sym none.1 ∙ f.1.1))

  still_promised : (next : OpName) → k ≡ Some next → phase_parted (b && not (has_passed x)) ≡ Promised
  still_promised next there = by b fits
    where
      by : (b : Bool) → PromiseFits k x b → phase_parted (b && not (has_passed x)) ≡ Promised
      by false f = absurd (none-some next (sym f.1 ∙ there))
      by true (inl f) = absurd (none-some next (sym f.1 ∙ there))
      by true (inr f) = ap (λ x. phase_parted (not (has_passed x))) f.0

-- ---- bye

module _ (m : Machine) (S : State) (facts : Facts m S) (o : OpName) (promised : Bool) (r : OperandState)
    (there : get S.mail.byes o ≡ Some promised) (kept : operand_at S.flight o ≡ Some r)
    (silent : IsSilent (record (look_ups S o) { leaving = None })) (source : (s : Source) × (r.source ≡ Some s))
    (on : IsEnabled m S (event.Bye o)) where
  open facts use {all, ts, g, ground, control as h}

  abbrev Parted : State
  Parted = after_event m S (event.Bye o)

  abbrev task : Flying
  task = parted_task m S o promised r there kept

  versions : Parted.versions ≡ S.versions
  versions = λ i. (Leaves-after_event m S (event.Bye o) i).versions

  links_left : (q : OpName) → get Parted.mail.links q ≡ get S.mail.links q
  links_left q = ap (λ ls. get ls q) (links-bye m S o)

  in_order : AreOrderly Parted
  in_order = AreOrderly-controlled m S facts (event.Bye o) on

  taken : is_ahead S o.task ≡ false
  taken = taken_by_record (look_ups S o) r (h.orderly o) kept

  -- ---- its operand

  at_leaving : phase_of S o ≡ Leaving
  at_leaving = leaving_before m S o promised r there kept (h.orderly o).alone

  at_parted : phase_of Parted o ≡ phase_parted (promised && not (has_passed r.link))
  at_parted = phase_of-bye m S o promised r there kept (h.orderly o).alone taken

  parted_orderly : (f : Farewell) (b : Bool) → f ≡ (if b then farewell.Promised else farewell.Left)
      → IsOrderly (record (look_ups S o) { leaving = None; station = Some (record r { farewell = f }) })
  parted_orderly f true e =
      let k : OperandState = record r { farewell = f } in
      orderly_promised (record (look_ups S o) { leaving = None; station = Some k }) k source.0
      (silent_station (record (look_ups S o) { leaving = None }) (Some k) silent) refl e source.1 taken
  parted_orderly f false e =
      let k : OperandState = record r { farewell = f } in
      orderly_left (record (look_ups S o) { leaving = None; station = Some k }) k source.0
      (silent_station (record (look_ups S o) { leaving = None }) (Some k) silent) refl e source.1 taken

  own_holds : (p : Operand) → HoldsIn g S o p → HoldsIn g Parted o p
  own_holds p was =
      let T = IsTrue g Parted o p in
      let O = HasOpened Parted o in
      let C = HasCome g Parted o in
      let l : LookUps = record (look_ups S o) { leaving = None } in
      let k = operand_after_bye r promised in
      let next = get S.mail.links o in
      let own : Holding T O C (writes p.mode) (record l { station = Some k }) next =
      holding_parted T O C (writes p.mode) (look_ups S o) next
      (holding_there ts g S Parted versions h.orderly o p was) promised there at_leaving silent r kept in
      let record_there = sym (parted_record m S o promised r there kept) in
      holding_after ts g S Parted versions h.orderly o p
      (record l { station = operand_at (remaining_tasks S.flight o.task task) o }) next
      (look_ups-bye-own m S o promised r there kept) (links_left o)
      (holding_remaining T O C (writes p.mode) S.flight o.task task o l next refl
      (subst (λ k. IsOrderly (record l { station = k })) record_there
      (parted_orderly k.farewell (promised && not (has_passed r.link)) refl))
      (subst (λ k. Holding T O C (writes p.mode) (record l { station = k }) next) record_there own))

  own_opener : (y : Version) (p : Operand) → operand_among ts o ≡ Some p
      → version_opener y p.mode (phase_of S o) ≡ true → version_opener y p.mode (phase_of Parted o) ≡ true
  own_opener y p at opens =
      let links = h.holders.links o p r at kept in
      ap (version_opener y p.mode) at_parted
      ∙ by p.mode (promised && not (has_passed r.link))
      (λ x. ap (λ b. b && not (has_passed r.link))
      (no_promise (get S.mail.links o) r.link promised (links.promise promised there) (links.writer x)))
      (ap (version_opener y p.mode) (sym at_leaving) ∙ opens)
    where
      by : (mode : Mode) (b : Bool) → (writes mode ≡ true → b ≡ false) → version_opener y mode Leaving ≡ true
          → version_opener y mode (phase_parted b) ≡ true
      by mode false never e = opener_left y mode e
      by Input true never e = opener_promised y e
      by Output true never e = absurd (true≢false (never refl))
      by Inout true never e = absurd (true≢false (never refl))

  -- where its link is under way its task stays
  own_record : (next : OpName) → get Parted.mail.links o ≡ Some next
      → (k : OperandState) × (operand_at Parted.flight o ≡ Some k) × (phase_of Parted o ≡ Left → ⊥)
  own_record next e =
      let named = ground.round.within.named.mail.byes o promised there in
      let p = among_object ts o named.0 named.1 in
      let links = h.holders.links o p.0 r p.1 kept in
      let waits = at_parted ∙ still_promised (get S.mail.links o) r.link promised (links.promise promised there) next
      (sym (links_left o) ∙ e) in
      let shown = (promised_shows (look_ups Parted o) waits).1 in
      (shown.0, shown.1, λ left. promised_left (sym waits ∙ left))
    where
      promised_left : Promised ≡ Left → ⊥
      promised_left e = cc

  own_changed : IsChangedHolder ts g S Parted o
  own_changed = record {
    holds = λ p at was. own_holds p was;
    opener = λ y p e at opens. own_opener y p at opens;
    records = own_record;
  }

  -- ---- the other operands of its task

  other_changed : (q : OpName) → q ≢ o → q.task ≡ o.task → IsChangedHolder ts g S Parted q
  other_changed q apart same =
      let phase = phase_of-bye-other m S o promised r there kept taken q apart in
      let record_there = sym (parted_record_other m S o promised r there kept q apart same) in
      record {
        holds = λ p at was.
            let T = IsTrue g Parted q p in
            let O = HasOpened Parted q in
            let C = HasCome g Parted q in
            let l = look_ups S q in
            let next = get S.mail.links q in
            holding_after ts g S Parted versions h.orderly q p
            (record l { station = operand_at (remaining_tasks S.flight o.task task) q }) next
            (look_ups-bye-other m S o promised r there kept q apart) (links_left q)
            (holding_remaining T O C (writes p.mode) S.flight o.task task q l next same
            (subst (λ k. IsOrderly (record l { station = k })) record_there (h.orderly q))
            (subst (λ k. Holding T O C (writes p.mode) (record l { station = k }) next) record_there
            (holding_there ts g S Parted versions h.orderly q p was)));
        opener = λ y p e at opens. ap (version_opener y p.mode) phase ∙ opens;
        records = λ next e.
            let k = h.holders.records q next (sym (links_left q) ∙ e) in
            let left = λ (left : phase_of Parted q ≡ Left). k.2 (sym phase ∙ left) in
            let ahead = not_ahead_by_record (look_ups S q) k.0 (h.orderly q) k.1 in
            let stands = record_stands (look_ups Parted q) (in_order q) (λ e. ahead (sym phase ∙ e)) left in
            (stands.0, stands.1, left);
      }

  holders_parted : HasHolders ts g Parted
  holders_parted =
      holders_kept ts g S Parted versions h.orderly
      (HasRunners-after_event m all S ground.numbers ground.stages h.orderly h.holders.runners (event.Bye o) on tt)
      (λ q. elim (decide_key name_order q o) [
        | inl same ↦ inr (subst (IsChangedHolder ts g S Parted) (sym same) own_changed)
        | inr apart ↦ elim (decide_key nat_order q.task o.task) [
          | inl same ↦ inr (other_changed q apart same)
          | inr other ↦ inl (record {
            looked =
                look_ups-bye-other m S o promised r there kept q apart
                ∙ ap (λ k. record (look_ups S q) { station = k })
                (remaining_beside S.flight o.task task q other);
            links = links_left q;
          })
        ]
      ])
      h.holders

module _ (m : Machine) (S : State) (facts : Facts m S) where
  open facts use {ts, g, control as h}

  -- bye
  pub HasHolders-bye : (o : OpName) → IsEnabled m S (event.Bye o) → HasHolders ts g (after_event m S (event.Bye o))
  unfolding is_enabled
  HasHolders-bye o on =
      let p = something is_some (get S.mail.byes o) refl on in
      let s = leaving_stands (look_ups S o) p.0 (h.orderly o) p.1 in
      let k = s.1.0.1 in
      holders_parted m S facts o p.0 k.kept p.1 k.there s.0 (s.1.0.0, k.told) on
