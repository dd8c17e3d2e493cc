-- No false wait: in a state without messages a task that waits needs one that hasn't finished.
use Rattle.std.proofs.Common.{◌≡◌, ◌≢◌, ℕ, ◌<◌, ◌⊎◌, Bool, true, false, Option, Some, None, refl, sym, ap, ◌∙◌, subst}
use Rattle.std.proofs.Common.{inl, inr, arith, true≢false}
use Rattle.std.specs.Prelude.{slice_get}
use Rattle.std.specs.List.{list_all}
use Rattle.std.specs.FinMap.{get}
use Rattle.std.proofs.lemmas.Bool.{cases_order}
use Rattle.std.proofs.lemmas.Option.{same_Some}
use Rattle.tss_base.specs.declared.range.Range.{Range}
use Rattle.tss_base.specs.declared.operand.OpName.{OpName}
use Rattle.tss_base.specs.declared.operand.Mode.{Mode}
use Rattle.tss_base.specs.declared.operand.Mode.TheVariants.{Input, Output, Inout}
use Rattle.tss_base.specs.declared.operand.Operand.{Operand}
use Rattle.tss_base.specs.declared.operand.Task.{Task}
use Rattle.tss_base.specs.declared.machine.Machine.{Machine}
use Rattle.tss_base.specs.declared.marks.Follow.{Follow}
use Rattle.tss_model.specs.Access.{operands_of, writes}
use Rattle.tss_protocol.specs.Mail.{StorageName}
use Rattle.tss_protocol.specs.State.{State, Version}
use Rattle.tss_protocol.specs.Needs.{is_past, needed_tasks}
use Rattle.tss_phases.specs.Phase.{Waiting, phase_of, has_released}
use Rattle.tss_phases.specs.Openers.{open_opener, opener_by}
use Rattle.tss_control.specs.Members.{operand_among, IsOn, IsWriterOn, NoWriterBetween}
use Rattle.tss_control.specs.Readers.{Has}
use Rattle.tss_progress.proofs.progress.CalmStates.{no_reader_waits, none_released_behind}
use Rattle.tss_progress.proofs.progress.Phases.{HasLetGo}
use Rattle.tss_names.proofs.ListLemmas.{AreRising}
use Rattle.tss_control.proofs.rounds.RoundTasks.{only_reads, writer_passes, reader_passes}
use Rattle.tss_progress.proofs.waits.Silent.{HasNoMessage, released_open, past_released}
use Rattle.tss_control.proofs.rounds.Facts.{Facts}

-- an operand that only reads is an input
input_of : (p : Mode) → writes p ≡ false → p ≡ Input
input_of Input e = refl
input_of Output e = absurd (true≢false e)
input_of Inout e = absurd (true≢false e)

input_not : (p q : Mode) → p ≡ Input → p ≡ q → writes q ≡ true → ⊥
input_not p q is same w = true≢false (sym w ∙ ap writes (sym same ∙ is))

module _ (m : Machine) (S : State) (facts : Facts m S) where
  open facts use {basis, all, ts, g, control}

  -- a version that an input opened is produced
  produced_by_input : (v : OpName) (y : Version) → get S.versions v ≡ Some y → IsOn ts y.object Input v
      → y.produced ≡ true
  produced_by_input v y there on = by y.produced refl y.storage refl
    where
      by : (b : Bool) → y.produced ≡ b → (s : Option StorageName) → y.storage ≡ s → y.produced ≡ true
      by true e s is = e
      by false e None is =
          let inout = ((control.chains.storages v y there).waits is).1 in
          let same = same_Some on.operand inout.operand (sym on.there ∙ inout.there) in
          absurd (input_not on.operand.mode Inout on.is_mode (ap (λ (p : Operand). p.mode) same ∙ inout.is_mode) refl)
      by false e (Some s) is =
          let readers = control.readers.versions v y there in
          let waits = (readers.first v (readers.opener on)).1 e in
          let opener = control.holders.openers v y on.operand there on.there in
          absurd (true≢false (sym opener
          ∙ ap (opener_by y on.operand.mode (phase_of S v)) e
          ∙ (λ i. open_opener (is i) (waits i))))

  -- so one that isn't is a writer's
  writer_opened : (v : OpName) (y : Version) → get S.versions v ≡ Some y → y.produced ≡ false → IsWriterOn ts y.object v
  writer_opened v y there unmade =
      let p = control.chains.opener v y there in
      record { operand = p.0; there = p.1; object = p.2; writer = by p.0 p.1 p.2 (writes p.0.mode) refl }
    where
      by : (p : Operand) → operand_among ts v ≡ Some p → p.object ≡ y.object → (b : Bool) → writes p.mode ≡ b
          → writes p.mode ≡ true
      by p at object true e = e
      by p at object false e =
          absurd (true≢false (sym (produced_by_input v y there (record {
            operand = p;
            there = at;
            object = object;
            is_mode = input_of p.mode e;
          })) ∙ unmade))

  -- and its opener hasn't released it
  opener_holds : (v : OpName) (y : Version) → get S.versions v ≡ Some y → y.produced ≡ false
      → has_released (phase_of S v) ≡ true → ⊥
  opener_holds v y there unmade released =
      let p = control.chains.opener v y there in
      let opener = control.holders.openers v y p.0 there p.1 in
      true≢false (sym opener
      ∙ ap (opener_by y p.0.mode (phase_of S v)) unmade
      ∙ released_open y.storage (phase_of S v) released)

  module _ (silent : HasNoMessage S) (gone : HasLetGo S) (rise : AreRising ts) (k : ℕ) (t : Task)
      (there : slice_get ts k ≡ Some t) (past : list_all (is_past S) (needed_tasks ts t) ≡ true)
      (o : OpName) (p : Operand) (own : o.task ≡ t.number) (place : slice_get (operands_of t) o.place ≡ Some p)
      (among : operand_among ts o ≡ Some p) where
    -- the last writer before it has released
    writer_released : (x : Range) → x ≡ p.object → (p.mode ≢ Output) → (v : OpName) → IsWriterOn ts x v
        → v.task < o.task → NoWriterBetween ts x v o → has_released (phase_of S v) ≡ true
    writer_released x object reads v w before alone =
        past_released m S facts silent gone v w.operand w.there
        (writer_passes m S basis rise k t there (is_past S) past o p own place reads v
        (subst (λ x. IsWriterOn ts x v) object w) before (subst (λ x. NoWriterBetween ts x v o) object alone))

    -- and so have the readers since, where it is an inout
    reader_released : (x : Range) → x ≡ p.object → p.mode ≡ Inout → (a : OpName) → IsOn ts x Input a → a.task < o.task
        → NoWriterBetween ts x a o → has_released (phase_of S a) ≡ true
    reader_released x object inout a on before alone =
        past_released m S facts silent gone a on.operand on.there
        (reader_passes m S basis rise k t there (is_past S) past o p own place inout a
        (subst (λ x. IsOn ts x Input a) object on) before (subst (λ x. NoWriterBetween ts x a o) object alone))

    -- ---- an input

    own_produced : (v : OpName) (y : Version) → get S.versions v ≡ Some y → v ≡ o → y.object ≡ p.object → p.mode ≡ Input
        → y.produced ≡ true
    own_produced v y at same object input =
        produced_by_input v y at (record {
          operand = p;
          there = ap (operand_among ts) same ∙ among;
          object = sym object;
          is_mode = input;
        })

    reader_by : p.mode ≡ Input → phase_of S o ≡ Waiting → (v : OpName) (y : Version) → get S.versions v ≡ Some y
        → Has o (g v) → (b : Bool) → y.produced ≡ b → ⊥
    reader_by input waits v y at has true e =
        no_reader_waits m S facts silent.calm v y at e o has waits
    reader_by input waits v y at has false e =
        let arrival = (control.readers.versions v y at).each o has in
        let same = same_Some arrival.on.operand p (sym arrival.on.there ∙ among) in
        let object = sym arrival.on.object ∙ ap (λ (p : Operand). p.object) same in
        elim arrival.younger [
          | inl mine ↦ true≢false (sym (own_produced v y at mine object input) ∙ e)
          | inr before ↦
              opener_holds v y at e (writer_released y.object object (λ output. differs input output) v
              (writer_opened v y at e) before arrival.alone)
        ]
      where
        differs : (p.mode ≡ Input) → (p.mode ≡ Output) → ⊥
        differs i o = input_not p.mode Output i o refl

    -- ---- an inout

    -- the readers of the version before its own
    readers_before : p.mode ≡ Inout → (q : OpName) (z : Version) → get S.versions q ≡ Some z → z.object ≡ p.object
        → q.task < o.task → NoWriterBetween ts z.object q o → (a : OpName) → Has a (g q)
        → has_released (phase_of S a) ≡ true
    readers_before inout q z at object older alone a has =
        let arrival = (control.readers.versions q z at).each a has in
        let writer : IsWriterOn ts z.object o =
        record { operand = p; there = among; object = sym object; writer = ap writes inout } in
        elim (cases_order a.task o.task) [
          | inl same ↦ absurd (only_reads m S basis z.object a o arrival.on writer (sym same))
          | inr (inl before) ↦
              reader_released z.object object inout a arrival.on before (since arrival.younger)
          | inr (inr later) ↦ absurd (arrival.alone o older later writer)
        ]
      where
        since : (q ≡ a) ⊎ (q.task < a.task) → NoWriterBetween ts z.object a o
        since (inl same) = subst (λ a. NoWriterBetween ts z.object a o) same alone
        since (inr before) = λ w late early writes. alone w (omega (arith, before, late)) early writes

    over_by : p.mode ≡ Inout → (q : OpName) (z : Version) (f : Follow) → get S.versions q ≡ Some z
        → z.successor ≡ Some f → z.object ≡ p.object → q.task < o.task → NoWriterBetween ts z.object q o
        → (b : Bool) → z.produced ≡ b → ⊥
    over_by inout q z f at next object older alone true e =
        none_released_behind m S facts silent.calm q z f at next e
        (readers_before inout q z at object older alone)
    over_by inout q z f at next object older alone false e =
        opener_holds q z at e (writer_released z.object object (λ output. differs inout output) q
        (writer_opened q z at e) older alone)
      where
        differs : (p.mode ≡ Inout) → (p.mode ≡ Output) → ⊥
        differs i o = cc

    writer_by : phase_of S o ≡ Waiting → writes p.mode ≡ true → ⊥
    writer_by waits w =
        let v = control.holders.waiting_writer o p among w waits in
        let storage = control.chains.storages o v.0 v.1 in
        let over = storage.over.0 v.2 in
        let after = (control.chains.linked o v.0 v.1).after over.0 over.3 in
        let inout = (storage.waits v.2).1 in
        let same = same_Some inout.operand p (sym inout.there ∙ among) in
        let object = after.object ∙ sym inout.object ∙ ap (λ (p : Operand). p.object) same in
        let z = same_Some over.1 after.version (sym over.4 ∙ after.there) in
        let f = same_Some over.2 after.follow (sym over.5 ∙ ap (λ (y : Version). y.successor) z ∙ after.link) in
        let alone = (control.chains.storages over.0 after.version after.there).alone after.follow after.link
        (ap (λ (f : Follow). f.how) (sym f) ∙ over.6) in
        over_by (ap (λ (p : Operand). p.mode) (sym same) ∙ inout.is_mode) over.0 after.version after.follow after.there
        after.link object after.older (subst (λ b. NoWriterBetween ts after.version.object over.0 b) after.back alone)
        after.version.produced refl

    -- ---- either

    -- no operand waits where all tasks that its task needs have finished or left
    pub none_waits : phase_of S o ≡ Waiting → ⊥
    none_waits waits = by (writes p.mode) refl
      where
        by : (b : Bool) → writes p.mode ≡ b → ⊥
        by true w = writer_by waits w
        by false r =
            let v = control.holders.waiting_reader o p among r waits in
            reader_by (input_of p.mode r) waits v.0 v.1 v.2 v.3 v.1.produced refl
