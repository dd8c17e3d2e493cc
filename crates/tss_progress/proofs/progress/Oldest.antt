-- The oldest task in flight of a quiet state: all that was before it has left, so none of its operands waits, and one
-- is still to be decoded.
use Rattle.std.proofs.Common.{◌≡◌, ℕ, ◌<◌, ◌≤◌, ◌⊎◌, Bool, true, false, Option, Some, None, refl, sym, ap, ◌∙◌, subst}
use Rattle.std.proofs.Common.{inl, inr, arith, true≢false}
use Rattle.std.specs.Prelude.{slice_get, is_some}
use Rattle.std.specs.FinMap.{get}
use Rattle.std.proofs.lemmas.Bool.{cases_order}
use Rattle.std.proofs.lemmas.Option.{none-some, same_Some}
use Rattle.tss_base.specs.declared.range.Range.{Range}
use Rattle.tss_base.specs.declared.operand.OpName.{OpName}
use Rattle.tss_base.specs.declared.operand.Mode.{Mode}
use Rattle.tss_base.specs.declared.operand.Mode.TheVariants.{Input, Output, Inout}
use Rattle.tss_base.specs.declared.operand.Operand.{Operand}
use Rattle.tss_base.specs.declared.machine.Machine.{Machine}
use Rattle.tss_base.specs.declared.marks.Follow.{Follow}
use Rattle.tss_model.specs.Access.{writes}
use Rattle.tss_protocol.specs.Names.{operand_name}
use Rattle.tss_protocol.specs.Mail.{StorageName}
use Rattle.tss_protocol.specs.State.{State, OperandState, Flying, Version}
use Rattle.tss_protocol.specs.Stations.{operand_at, is_ready}
use Rattle.tss_locality.proofs.Flights.{record_in}
use Rattle.tss_phases.specs.Phase.{Decoding, Waiting, Ready, Left, look_ups, phase_of}
use Rattle.tss_phases.specs.Openers.{open_opener, opener_by}
use Rattle.tss_phases.proofs.Shown.{ready_shows}
use Rattle.tss_control.specs.Members.{operand_among, IsOn, IsWriterOn}
use Rattle.tss_control.specs.Chains.{IsFollowed}
use Rattle.tss_control.specs.Readers.{Has}
use Rattle.tss_progress.proofs.progress.CalmStates.{flying_operand, no_reader_waits}
use Rattle.tss_progress.proofs.progress.Stuck.{IsQuiet, calm_of}
use Rattle.tss_progress.proofs.progress.Versions.{AllLeft, none_behind}
use Rattle.tss_progress.proofs.progress.Phases.{HasLetGo, fails_somewhere, all_wait, stands, left_before}
use Rattle.tss_control.proofs.rounds.Facts.{Facts}

-- ---- modes

input_from_test : (p : Mode) → writes p ≡ false → p ≡ Input
input_from_test Input e = refl
input_from_test Output e = absurd (true≢false e)
input_from_test Inout e = absurd (true≢false e)

not_inout : (p : Mode) → writes p ≡ false → p ≡ Inout → ⊥
not_inout p reads same = true≢false (sym (ap writes same) ∙ reads)

not_input : (p : Mode) → writes p ≡ true → p ≡ Input → ⊥
not_input p w same = true≢false (sym w ∙ ap writes same)

open_not_left : (s : Option StorageName) → open_opener s Left ≡ false
open_not_left None = refl
open_not_left (Some s) = refl

module _ (m : Machine) (S : State) (facts : Facts m S) (quiet : IsQuiet S) where
  open facts use {ts, g, ground, control}

  -- a version whose opener has left is produced
  pub produced_when_left : (v : OpName) (y : Version) → get S.versions v ≡ Some y → phase_of S v ≡ Left
      → y.produced ≡ true
  produced_when_left v y there left = by y.produced refl
    where
      by : (b : Bool) → y.produced ≡ b → y.produced ≡ true
      by true e = e
      by false e =
          let p = control.chains.opener v y there in
          let opener = control.holders.openers v y p.0 there p.1 in
          absurd (true≢false (sym opener ∙ ap (opener_by y p.0.mode (phase_of S v)) e ∙ ap (open_opener y.storage) left
          ∙ open_not_left y.storage))

  -- a version that follows another one is a writer's
  follower_writes : (v q : OpName) (y : Version) → get S.versions v ≡ Some y → y.predecessor ≡ Some q
      → IsWriterOn ts y.object v
  follower_writes v q y there behind =
      let p = control.chains.opener v y there in
      record { operand = p.0; there = p.1; object = p.2; writer = by (writes p.0.mode) refl }
    where
      by : (b : Bool) → writes (control.chains.opener v y there).0.mode ≡ b
          → writes (control.chains.opener v y there).0.mode ≡ true
      by true e = e
      by false e =
          let p = control.chains.opener v y there in
          let on : IsOn ts y.object Input v =
          record { operand = p.0; there = p.1; object = p.2; is_mode = input_from_test p.0.mode e } in
          absurd (none-some q (sym ((control.chains.storages v y there).input on) ∙ behind))

  -- a reader of a version isn't of the task that writes its object next
  reader_apart : (x : Range) (a s : OpName) → IsOn ts x Input a → IsWriterOn ts x s → a.task ≡ s.task → ⊥
  reader_apart x a s on writer task =
      let one = ground.known.single a s on.operand writer.operand on.there writer.there
      (on.object ∙ sym writer.object) task in
      let same = same_Some on.operand writer.operand (sym on.there ∙ ap (operand_among ts) one ∙ writer.there) in
      not_input writer.operand.mode writer.writer (ap (λ (p : Operand). p.mode) (sym same) ∙ on.is_mode)

  module _ (gone : HasLetGo S) (n : ℕ) (x : Flying) (flies : get S.flight n ≡ Some x)
      (least : (k : ℕ) (y : Flying) → get S.flight k ≡ Some y → n ≤ k) where
    -- operands of earlier tasks have left
    pub past : (q : OpName) → q.task < n → phase_of S q ≡ Left
    past q before = left_before m S facts quiet n x flies least q before

    -- readers of a version that is followed by a task up to the oldest have left
    readers_left : (v : OpName) (y : Version) (f : Follow) → get S.versions v ≡ Some y → y.successor ≡ Some f
        → IsFollowed S v y f → f.version.task ≤ n → AllLeft m S facts quiet v
    readers_left v y f there next followed upto a has =
        let arrival = (control.readers.versions v y there).each a has in
        let writer = subst (λ x. IsWriterOn ts x f.version) followed.object
        (follower_writes f.version v followed.version followed.there followed.back) in
        elim (cases_order a.task f.version.task) [
          | inl same ↦ absurd (reader_apart y.object a f.version arrival.on writer same)
          | inr (inl before) ↦ past a (omega (arith, before, upto))
          | inr (inr later) ↦ absurd (arrival.alone f.version followed.younger later writer)
        ]

    -- no version is followed by a task up to the oldest
    pub none_followed : (v : OpName) (y : Version) (f : Follow) → get S.versions v ≡ Some y → y.successor ≡ Some f
        → f.version.task ≤ n → ⊥
    none_followed v y f there next upto =
        let followed = (control.chains.linked v y there).followed f next in
        let younger = followed.younger in
        let left = past v (omega (arith, younger, upto)) in
        none_behind m S facts quiet v y f there next (produced_when_left v y there left)
        (readers_left v y f there next followed upto)

    -- nor follows one of them another
    pub none_follows : (v q : OpName) (y : Version) → get S.versions v ≡ Some y → y.predecessor ≡ Some q
        → v.task ≤ n → ⊥
    none_follows v q y there behind upto =
        let after = (control.chains.linked v y there).after q behind in
        none_followed q after.version after.follow after.there after.link
        (subst (λ (o : OpName). o.task ≤ n) (sym after.back) upto)

    -- ---- operands of the oldest task

    writer_waits : (o : OpName) (p : Operand) → operand_among ts o ≡ Some p → o.task ≡ n → writes p.mode ≡ true
        → phase_of S o ≡ Waiting → ⊥
    writer_waits o p among own w waits =
        let v = control.holders.waiting_writer o p among w waits in
        let over = (control.chains.storages o v.0 v.1).over.0 v.2 in
        none_follows o over.0 v.0 v.1 over.3 (omega (arith, own))

    own_version : (o : OpName) (p : Operand) (y : Version) → operand_among ts o ≡ Some p → writes p.mode ≡ false
        → get S.versions o ≡ Some y → phase_of S o ≡ Waiting → (s : Option StorageName) → y.storage ≡ s
        → y.produced ≡ false → ⊥
    own_version o p y among reads there waits None e unproduced =
        let inout = ((control.chains.storages o y there).waits e).1 in
        let same = same_Some inout.operand p (sym inout.there ∙ among) in
        not_inout p.mode reads (ap (λ (p : Operand). p.mode) (sym same) ∙ inout.is_mode)
    own_version o p y among reads there waits (Some s) e unproduced =
        let opener = control.holders.openers o y p there among in
        true≢false (sym opener ∙ ap (opener_by y p.mode (phase_of S o)) unproduced
        ∙ (λ i. open_opener (e i) (waits i)))

    reader_by : (o v : OpName) (p : Operand) (y : Version) → operand_among ts o ≡ Some p → o.task ≡ n
        → writes p.mode ≡ false → phase_of S o ≡ Waiting → get S.versions v ≡ Some y → Has o (g v)
        → (v ≡ o) ⊎ (v.task < o.task) → y.produced ≡ false → ⊥
    reader_by o v p y among own reads waits there has (inl same) unproduced =
        own_version o p y among reads (ap (get S.versions) (sym same) ∙ there) waits y.storage refl unproduced
    reader_by o v p y among own reads waits there has (inr before) unproduced =
        true≢false (sym (produced_when_left v y there (past v (omega (arith, before, own)))) ∙ unproduced)

    reader_waits : (o : OpName) (p : Operand) → operand_among ts o ≡ Some p → o.task ≡ n → writes p.mode ≡ false
        → phase_of S o ≡ Waiting → ⊥
    reader_waits o p among own reads waits =
        let v = control.holders.waiting_reader o p among reads waits in
        let arrival = (control.readers.versions v.0 v.1 v.2).each o v.3 in
        by v.0 v.1 v.2 v.3 arrival.younger v.1.produced refl
      where
        by : (v : OpName) (y : Version) → get S.versions v ≡ Some y → Has o (g v) → (v ≡ o) ⊎ (v.task < o.task)
            → (b : Bool) → y.produced ≡ b → ⊥
        by v y there has younger true e =
            no_reader_waits m S facts (calm_of S quiet) v y there e o has waits
        by v y there has younger false e = reader_by o v p y among own reads waits there has younger e

    none_waiting : (o : OpName) (p : Operand) → operand_among ts o ≡ Some p → o.task ≡ n → phase_of S o ≡ Waiting → ⊥
    none_waiting o p among own waits = by (writes p.mode) refl
      where
        by : (b : Bool) → writes p.mode ≡ b → ⊥
        by true e = writer_waits o p among own e waits
        by false e = reader_waits o p among own e waits

    -- the record of an operand of the task
    pub own_record : (o : OpName) (r : OperandState) → o.task ≡ n → slice_get x.operands o.place ≡ Some r
        → operand_at S.flight o ≡ Some r
    own_record o r own at = ap (record_in o.place) (ap (get S.flight) own ∙ flies) ∙ at

    -- each is to be decoded or ready
    pub decodes_or_ready : (o : OpName) (r : OperandState) → o.task ≡ n → slice_get x.operands o.place ≡ Some r
        → (phase_of S o ≡ Decoding) ⊎ (phase_of S o ≡ Ready)
    decodes_or_ready o r own at =
        let record_at = own_record o r own at in
        let p = flying_operand m S facts (calm_of S quiet) o r record_at in
        elim (stands m S facts quiet gone o r record_at) [
          | inl decoding ↦ inl decoding
          | inr (inl waits) ↦ absurd (none_waiting o p.0 p.1 own waits)
          | inr (inr ready) ↦ inr ready
        ]

    -- one that is ready has been told
    pub ready_told : (o : OpName) (r : OperandState) → o.task ≡ n → slice_get x.operands o.place ≡ Some r
        → phase_of S o ≡ Ready → is_ready r ≡ true
    ready_told o r own at ready =
        let shows = (ready_shows (look_ups S o) ready).1 in
        let same = same_Some shows.1.kept r (sym shows.1.there ∙ own_record o r own at) in
        ap (λ (r : OperandState). is_some r.source) (sym same) ∙ ap is_some shows.1.told

    -- and one of them isn't
    pub some_decoding : (k : ℕ) × (r : OperandState) × (slice_get x.operands k ≡ Some r)
        × (phase_of S (operand_name n k) ≡ Decoding)
    some_decoding =
        let waits = all_wait m S facts quiet gone n x flies in
        let f = fails_somewhere is_ready x.operands ((ground.stages.waiting n x flies).0 waits) in (
          f.0,
          f.1,
          f.2,
          elim (decodes_or_ready (operand_name n f.0) f.1 refl f.2) [
            | inl decoding ↦ decoding
            | inr ready ↦ absurd (true≢false (sym (ready_told (operand_name n f.0) f.1 refl f.2 ready) ∙ f.3))
          ],
        )
