-- What operands hold after a finish: those of the task let their versions go.
use Rattle.std.proofs.Common.{◌≡◌, ◌≢◌, ◌⊎◌, ℕ, zero, suc, ◌+◌, Bool, true, false, cond, List, [], ◌∷◌, ◌++◌, Option}
use Rattle.std.proofs.Common.{Some, None, refl, sym, ap, ◌∙◌, subst, inl, inr, true≢false, arith}
use Rattle.std.specs.Prelude.{slice_get, option_map}
use Rattle.std.specs.FinMap.{get}
use Rattle.std.proofs.lemmas.Option.{none-some, same_Some, slice_get-map}
use Rattle.tss_base.specs.declared.operand.OpName.{OpName}
use Rattle.tss_base.specs.declared.operand.Mode.{Mode}
use Rattle.tss_base.specs.declared.operand.Mode.TheVariants.{Input, Output, Inout}
use Rattle.tss_base.specs.declared.operand.Operand.{Operand}
use Rattle.tss_base.specs.declared.machine.Machine.{Machine}
use Rattle.tss_base.specs.declared.event.Event.TheVariants as event
use Rattle.tss_maps.proofs.Keys.{nat_order, decide_key}
use Rattle.tss_model.specs.Access.{operands_of, writes}
use Rattle.tss_protocol.specs.Names.{operand_name, same_name}
use Rattle.tss_protocol.specs.Mail.{StorageName, Source, ReleaseContents, Message, Release}
use Rattle.tss_protocol.specs.State.{State, OperandState, Flying, Busy, Version}
use Rattle.tss_protocol.specs.Stations.{operand_at, release_of, releases_from, remaining_tasks}
use Rattle.tss_protocol.specs.Workers.{can_finish}
use Rattle.tss_protocol.specs.UnitMachine.{is_enabled, IsEnabled, after_event}
use Rattle.tss_phases.specs.Phase.{Ready, Releasing, Ahead, Left, LookUps, look_ups}
use Rattle.tss_phases.specs.Openers.{version_opener, opener_by, produced_opener, open_opener}
use Rattle.tss_phases.specs.Orderly.{AreReady}
use Rattle.tss_phases.proofs.Tests.{something}
use Rattle.tss_phases.proofs.Shown.{ready_shows}
use Rattle.tss_phases.proofs.Received.{own_name, received_all, received_other}
use Rattle.tss_phases.proofs.Records.{operand_in, task_of_record}
use Rattle.tss_phases.proofs.OrderlyLemmas.{fits_at, orderly_releasing, same_informed}
use Rattle.tss_phases.proofs.FinishEvent.{finished_task, apart_further, releases_other, look_ups-finish}
use Rattle.tss_phases.proofs.FinishEvent.{look_ups-finish-beyond, look_ups-finish-other, phase_of-finish}
use Rattle.tss_locality.proofs.LeftFields.{Leaves-after_event}
use Rattle.tss_control.specs.Members.{operand_among}
use Rattle.tss_control.specs.Holders.{IsTrue, HasHolders}
use Rattle.tss_control.proofs.readers.Links.{links-finish}
use Rattle.tss_control.proofs.holders.Fits.{Holding, HasOpened, HasCome}
use Rattle.tss_control.proofs.holders.Turns.{holding_remaining}
use Rattle.tss_control.proofs.holders.Leaves.{holding_finished}
use Rattle.tss_control.proofs.holders.Parted.{record_stands}
use Rattle.tss_control.proofs.holders.Frames.{IsSameHolder, IsChangedHolder, holding_there, holding_after, holders_kept}
use Rattle.tss_control.proofs.holders.RunnerEvents.{HasRunners-after_event}
use Rattle.tss_control.proofs.holders.KeepsOrder.{keeps_order, AreOrderly-controlled}
use Rattle.tss_control.proofs.rounds.Facts.{Facts}

-- ---- the releases of a task's operands

-- what an operand's release says
abbrev its_release : OperandState → Source → ReleaseContents
its_release r s = record { version = s.version; producer = writes r.operand.mode }

other_release : (task place : ℕ) (r : OperandState) (s : Option Source) (ms : List Message) (q : OpName) (l : LookUps)
    → q ≢ operand_name task place
    → received_all (release_of (operand_name task place) r s ++ ms) q l ≡ received_all ms q l
other_release task place r None ms q l apart = refl
other_release task place r (Some s) ms q l apart =
    ap (received_all ms q) (received_other (Release (operand_name task place) (its_release r s)) q l apart)

own_release : (task place : ℕ) (r : OperandState) (s : Option Source) (source : Source) (rs : List OperandState)
    (q : OpName) (l : LookUps) → s ≡ Some source → q ≡ operand_name task place
    → received_all (release_of (operand_name task place) r s ++ releases_from task (suc place) rs) q l
    ≡ record l { releasing = Some (its_release r source) }
own_release task place r None source rs q l told same = absurd (none-some source told)
own_release task place r (Some s) source rs q l told same =
    let here : q.place ≡ place = ap (λ (p : OpName). p.place) same in
    let own = ap (λ p. same_name p (operand_name task place)) same ∙ own_name (operand_name task place) in
    (λ i. received_all (releases_from task (suc place) rs) q (record l {
      releasing = cond (own i) (Some (its_release r s)) l.releasing;
    }))
    ∙ releases_other task (suc place) rs q (record l { releasing = Some (its_release r s) }) (inr (omega (arith, here)))
    ∙ ap (λ s. record l { releasing = Some (its_release r s) }) (same_Some s source told)

-- an operand that was told something has its release after them
release_sent : (task place : ℕ) (rs : List OperandState) (j : ℕ) (r : OperandState) (source : Source) (q : OpName)
    (l : LookUps) → slice_get rs j ≡ Some r → r.source ≡ Some source → q.task ≡ task → q.place ≡ place + j
    → received_all (releases_from task place rs) q l ≡ record l { releasing = Some (its_release r source) }
release_sent task place [] j r source q l at told same here = absurd (none-some r at)
release_sent task place (x ∷ rs) zero r source q l at told same here =
    own_release task place x x.source source rs q l (ap (λ (r : OperandState). r.source) (same_Some x r at) ∙ told)
    (λ i. record { task = same i; place = first here i })
    ∙ ap (λ r. record l { releasing = Some (its_release r source) }) (same_Some x r at)
  where
    first : q.place ≡ place + 0 → q.place ≡ place
    first e = omega (arith, e)
release_sent task place (x ∷ rs) (suc j) r source q l at told same here =
    other_release task place x x.source (releases_from task (suc place) rs) q l (apart_further task q place j here)
    ∙ release_sent task (suc place) rs j r source q l at told same (omega (arith, here))

-- ---- openers

-- the opener of a version may let it go where it is ready
opener_releasing : (y : Version) (mode : Mode) → version_opener y mode Ready ≡ true
    → version_opener y mode Releasing ≡ true
opener_releasing y mode opens = by y.produced opens
  where
    produced : (mode : Mode) → produced_opener mode Ready ≡ true → produced_opener mode Releasing ≡ true
    produced Input e = refl
    produced Output e = absurd (true≢false (sym e))
    produced Inout e = absurd (true≢false (sym e))

    opened : (s : Option StorageName) → open_opener s Ready ≡ true → open_opener s Releasing ≡ true
    opened None e = absurd (true≢false (sym e))
    opened (Some s) e = refl

    by : (b : Bool) → opener_by y mode Ready b ≡ true → opener_by y mode Releasing b ≡ true
    by true e = produced mode e
    by false e = opened y.storage e

-- ---- finish

module _ (m : Machine) (S : State) (facts : Facts m S) where
  open facts use {all, ts, g, ground, control as h}

  -- the record of an operand of the round has its operand
  pub its_operand : (q : OpName) (r : OperandState) (p : Operand) → operand_at S.flight q ≡ Some r
      → operand_among ts q ≡ Some p → r.operand ≡ p
  its_operand q r p kept at =
      let x = task_of_record S.flight q r kept in
      let is = ground.known.operands q p at in
      let flies = ground.numbers.flight q.task x.0 x.1 in
      let one = same_Some x.0.task is.task (sym flies.task ∙ is.spawned) in
      same_Some r.operand p
      (sym (ap (option_map (λ (r : OperandState). r.operand)) x.2)
      ∙ sym (slice_get-map (λ (r : OperandState). r.operand) x.0.operands q.place)
      ∙ ap (λ (ps : List Operand). slice_get ps q.place) (flies.operands ∙ ap operands_of one)
      ∙ is.place)

  module _ (w : ℕ) (b : Busy) (x : Flying) (busy : get S.workers w ≡ Some b)
      (flying : get S.flight b.task.number ≡ Some x) (ready : AreReady S b.task.number)
      (on : IsEnabled m S (event.Finish w)) where
    abbrev Finished : State
    Finished = after_event m S (event.Finish w)

    abbrev done : Flying
    done = finished_task m S w b x busy flying

    versions : Finished.versions ≡ S.versions
    versions = λ i. (Leaves-after_event m S (event.Finish w) i).versions

    links_left : (q : OpName) → get Finished.mail.links q ≡ get S.mail.links q
    links_left q = ap (λ ls. get ls q) (links-finish m S w)

    record_before : (q : OpName) → q.task ≡ b.task.number → operand_at S.flight q ≡ slice_get x.operands q.place
    record_before q same = operand_in S.flight q x (ap (get S.flight) same ∙ flying)

    task_changed : (q : OpName) (r : OperandState) → q.task ≡ b.task.number → slice_get x.operands q.place ≡ Some r
        → IsChangedHolder ts g S Finished q
    task_changed q r same at =
        let kept = record_before q same ∙ at in
        let is_ready = ready q r same kept in
        let l = look_ups S q in
        let shown = ready_shows l is_ready in
        let s = shown.0 in
        let source = shown.1.0 in
        let k = shown.1.1 in
        let told = ap (λ (r : OperandState). r.source) (same_Some r k.kept (sym kept ∙ k.there)) ∙ k.told in
        let c = its_release r source in
        let lets : LookUps = record l { releasing = Some c } in
        let phase = phase_of-finish m S w b x busy flying q same is_ready in
        record {
          holds = λ p among was.
              let T = IsTrue g Finished q p in
              let O = HasOpened Finished q in
              let C = HasCome g Finished q in
              let next = get S.mail.links q in
              let there = record_before q same in
              holding_after ts g S Finished versions h.orderly q p
              (record lets { station = operand_at (remaining_tasks S.flight b.task.number done) q }) next
              (look_ups-finish m S w b x busy flying q
              ∙ release_sent b.task.number 0 x.operands q.place r source q
              (record l { station = operand_at (remaining_tasks S.flight b.task.number done) q }) at told same
              (omega arith))
              (links_left q)
              (holding_remaining T O C (writes p.mode) S.flight b.task.number done q lets next same
              (orderly_releasing (record lets { station = slice_get x.operands q.place }) c (record {
                decoding = s.decoding;
                opening = s.opening;
                using = s.using;
                telling = s.telling;
                releasing = refl;
                leaving = s.leaving;
              }) refl (same_informed l (record lets { station = slice_get x.operands q.place }) (sym there) refl
              (fits_at l Ready (h.orderly q) is_ready)))
              (subst (λ k. Holding T O C (writes p.mode) (record lets { station = k }) next) there
              (holding_finished T O C (writes p.mode) l next
              (holding_there ts g S Finished versions h.orderly q p was) is_ready s r source kept told c refl
              (ap (λ (p : Operand). writes p.mode) (its_operand q r p kept among)))));
          opener = λ y p e among opens.
              ap (version_opener y p.mode) phase
              ∙ opener_releasing y p.mode (ap (version_opener y p.mode) (sym is_ready) ∙ opens);
          records = λ next e.
              let stands = record_stands (look_ups Finished q)
              (AreOrderly-controlled m S facts (event.Finish w) on q)
              (λ a. releasing_ahead (sym phase ∙ a)) (λ a. releasing_left (sym phase ∙ a)) in
              (stands.0, stands.1, λ a. releasing_left (sym phase ∙ a));
        }
      where
        releasing_ahead : Releasing ≡ Ahead → ⊥
        releasing_ahead e = cc

        releasing_left : Releasing ≡ Left → ⊥
        releasing_left e = cc

    task_kept : (q : OpName) → q.task ≡ b.task.number → (r : Option OperandState) → slice_get x.operands q.place ≡ r
        → IsSameHolder ts g S Finished q ⊎ IsChangedHolder ts g S Finished q
    task_kept q same None at = inl (record {
      looked = look_ups-finish-beyond m S w b x busy flying q same at;
      links = links_left q;
    })
    task_kept q same (Some r) at = inr (task_changed q r same at)

    holders_finished : HasHolders ts g Finished
    holders_finished =
        holders_kept ts g S Finished versions h.orderly
        (HasRunners-after_event m all S ground.numbers ground.stages h.orderly h.holders.runners (event.Finish w) on
        (keeps_order m S facts (event.Finish w)))
        (λ q. elim (decide_key nat_order q.task b.task.number) [
          | inl same ↦ task_kept q same (slice_get x.operands q.place) refl
          | inr other ↦ inl (record {
            looked = look_ups-finish-other m S w b x busy flying q other;
            links = links_left q;
          })
        ])
        h.holders

  -- finish
  pub HasHolders-finish : (w : ℕ) → IsEnabled m S (event.Finish w) → HasHolders ts g (after_event m S (event.Finish w))
  unfolding is_enabled
  HasHolders-finish w on =
      let b = something can_finish (get S.workers w) refl on in
      let f = keeps_order m S facts (event.Finish w) b.0 b.1 in
      holders_finished w b.0 f.0.0 b.1 f.0.1 f.1 on
