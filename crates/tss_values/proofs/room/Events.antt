-- Every event leaves room in the buffers that are set.
use Rattle.std.proofs.Common.{◌≡◌, ◌⊎◌, inl, inr, ℕ, Bool, true, false, List, [], ◌∷◌, ◌++◌, length, Option, Some, None}
use Rattle.std.proofs.Common.{refl, sym, ap, subst, ◌∙◌, arith}
use Rattle.std.specs.Prelude.{◌==◌, is_some, option_to_list}
use Rattle.std.specs.List.{list_any}
use Rattle.std.specs.FinMap.{get, get-empty}
use Rattle.std.specs.Ordering.{nat_cmp}
use Rattle.std.proofs.lemmas.Bool.{and_parts, or_left}
use Rattle.std.proofs.lemmas.Bool.Decides.{nat_tests}
use Rattle.std.proofs.lemmas.Option.{none-some, same_Some}
use Rattle.tss_base.specs.declared.operand.OpName.{OpName}
use Rattle.tss_base.specs.declared.operand.Mode.{Mode}
use Rattle.tss_base.specs.declared.operand.Mode.TheVariants.{Input, Output, Inout}
use Rattle.tss_base.specs.declared.operand.Operand.{Operand}
use Rattle.tss_base.specs.declared.operand.Task.{Task}
use Rattle.tss_base.specs.declared.machine.Machine.{Machine}
use Rattle.tss_base.specs.declared.event.Event.{Event}
use Rattle.tss_base.specs.declared.event.Event.TheVariants as event
use Rattle.tss_base.specs.declared.marks.Stage.TheVariants as stage
use Rattle.tss_base.specs.declared.marks.Follow.{Follow}
use Rattle.tss_base.specs.Names.{Named, Numbered, name_cmp}
use Rattle.tss_base.specs.Image.{ImageState}
use Rattle.tss_maps.proofs.Keys.{nat_order, decide_key}
use Rattle.tss_maps.proofs.Changes.{from_inserted, from_removed, beside_inserted}
use Rattle.tss_model.specs.Access.{operands_of, reads}
use Rattle.tss_model.specs.MainStep.{Call, ExitCall, Spawn, Barrier, Print, Await, Unknown, main_call}
use Rattle.tss_protocol.specs.Mail.{StorageName, Home, Buffer, OpenContents, ReleaseContents, GoneContents}
use Rattle.tss_protocol.specs.State.{State, Flying, Busy, Version, CopyState, initial_state}
use Rattle.tss_protocol.specs.Stations.{storages_of}
use Rattle.tss_protocol.specs.Buffers.{buffer_bytes, copies_after_retire, new_copy, is_last_piece, copies_after_copy}
use Rattle.tss_protocol.specs.MainEvent.{call_next}
use Rattle.tss_protocol.specs.Needs.{round_after_main, round_after_event}
use Rattle.tss_protocol.specs.UnitMachine.{IsEnabled, is_enabled, after_event, without, open_message_taken}
use Rattle.tss_protocol.specs.UnitMachine.{use_message_taken, release_message_taken, retire_version, start_task}
use Rattle.tss_protocol.specs.UnitMachine.{after_start, after_exec, after_copy, gone_message_taken, stores_of}
use Rattle.tss_locality.proofs.LeftFields.{Leaves-after_event}
use Rattle.tss_phases.specs.Phase.{look_ups}
use Rattle.tss_phases.proofs.OrderlyLemmas.{opening_stands}
use Rattle.tss_phases.proofs.Records.{task_of_record}
use Rattle.tss_control.specs.Members.{operand_among}
use Rattle.tss_values.specs.Buffers.{HasBuffers}
use Rattle.tss_control.specs.Chains.{FollowsAs}
use Rattle.tss_control.specs.Runners.{is_late}
use Rattle.tss_control.specs.Holders.{IsOwnOrRead}
use Rattle.tss_names.proofs.UnreadyTasks.{unready}
use Rattle.tss_control.proofs.rounds.Spawned.{operand_among-more}
use Rattle.tss_control.proofs.rounds.ReleaseFacts.{releases_facts}
use Rattle.tss_values.proofs.Values.{IsRoomy, IsSet, HasRoom}
use Rattle.tss_values.proofs.room.Settle.{AreRoomy, roomy_drop}
use Rattle.tss_values.proofs.room.Versions.{roomy_used, roomy_released, roomy_nacked, roomy_opened}
use Rattle.tss_values.proofs.room.Stores.{space_started, space_made, size_executed, bytes_beside_gone}
use Rattle.tss_values.proofs.room.Begun.{BegunIn, BeginsNone, begins_same, begins-ready, begins-link, begins-bye}
use Rattle.tss_values.proofs.room.Begun.{begins-finish, begins-take}
use Rattle.tss_values.proofs.room.Start.{begun_late, produced_set, place_of, queued_storage}
use Rattle.tss_control.proofs.rounds.Facts.{Facts}

module _ (m : Machine) (S : State) (facts : Facts m S) (room : HasRoom m facts.ts S) where
  open facts use {all, ts, g, ground, control}

  -- the buffers of versions that are set or produced have room
  roomy_now : AreRoomy (IsSet ts S) (IsRoomy m S) S.versions
  roomy_now v x e b at (inl set) = room.versions v x b e at set
  roomy_now v x e b at (inr made) =
      room.versions v x b e at (produced_set m S facts v x e made)

  -- ---- frames

  -- a state with such versions and copies, where no buffer gets shorter, and no version is set anew
  module _ (us : List Task) (T : State) where
    room_with : ((b : OpName) → IsRoomy m S b → IsRoomy m T b) → AreRoomy (IsSet ts S) (IsRoomy m S) T.versions
        → ((v : OpName) → IsSet us T v → (y : Version) → get T.versions v ≡ Some y → IsSet ts S v)
        → ((k : ℕ) (c : CopyState) → get T.copies k ≡ Some c → IsRoomy m S c.buffer) → HasRoom m us T
    room_with long versions sets copies = record {
      versions = λ v y b e at set. long b (versions v y e b at (inl (sets v set y e)));
      copies = λ k c e. long c.buffer (copies k c e);
    }

    long_same : T.contents ≡ S.contents → (b : OpName) → IsRoomy m S b → IsRoomy m T b
    long_same same b long =
        let e = ap (λ (c : Named (List ℕ)). length (buffer_bytes c b)) same in omega (arith, e, long)

    versions_same : T.versions ≡ S.versions → AreRoomy (IsSet ts S) (IsRoomy m S) T.versions
    versions_same same = subst (AreRoomy (IsSet ts S) (IsRoomy m S)) (sym same) roomy_now

    copies_same : T.copies ≡ S.copies → (k : ℕ) (c : CopyState) → get T.copies k ≡ Some c → IsRoomy m S c.buffer
    copies_same same k c e = room.copies k c (ap (λ (x : Numbered CopyState). get x k) (sym same) ∙ e)

  -- the round is the same, and no task begins
  sets_before : (T : State) → BeginsNone S.flight T.flight → (v : OpName) → IsSet ts T v → (y : Version)
      → get T.versions v ≡ Some y → IsSet ts S v
  sets_before T none v (inl p) y e = inl p
  sets_before T none v (inr begun) y e = inr (none v.task begun)

  begins_as : (T : State) → T.flight ≡ S.flight → BeginsNone S.flight T.flight
  begins_as T same = subst (BeginsNone S.flight) (sym same) (begins_same S.flight)

  -- versions, contents and copies are the same
  room_calm : (T : State) → T.contents ≡ S.contents → T.versions ≡ S.versions → T.copies ≡ S.copies
      → BeginsNone S.flight T.flight → HasRoom m ts T
  room_calm T contents versions copies none =
      room_with ts T (long_same ts T contents) (versions_same ts T versions) (sets_before T none)
      (copies_same ts T copies)

  -- other versions
  room_versions : (T : State) → T.contents ≡ S.contents → T.copies ≡ S.copies → T.flight ≡ S.flight
      → AreRoomy (IsSet ts S) (IsRoomy m S) T.versions → HasRoom m ts T
  room_versions T contents copies flight versions =
      room_with ts T (long_same ts T contents) versions (sets_before T (begins_as T flight))
      (copies_same ts T copies)

  -- ---- main

  -- an operand of the round stays in a longer one
  main_operand : (c : Option Call) (v : OpName) (p q : Operand) → operand_among ts v ≡ Some p
      → operand_among (round_after_main m S ts c) v ≡ Some q → operand_among ts v ≡ Some q
  main_operand None v p q old new = new
  main_operand (Some ExitCall) v p q old new = new
  main_operand (Some Spawn) v p q old new = by (main_call m.limits S.home S.main Spawn).1 new
    where
      by : (t : Option Task) → operand_among (ts ++ option_to_list t) v ≡ Some q → operand_among ts v ≡ Some q
      by None new = old ∙ sym (none_more ts p old) ∙ new
        where
          none_more : (us : List Task) (p : Operand) → operand_among us v ≡ Some p
              → operand_among (us ++ []) v ≡ Some p
          none_more us p e = ap (λ ws. operand_among ws v) (nothing us) ∙ e
            where
              nothing : (us : List Task) → us ++ [] ≡ us
              nothing [] = refl
              nothing (u ∷ us) = ap (λ ws. u ∷ ws) (nothing us)
      by (Some t) new = old ∙ sym (operand_among-more ts t v p old) ∙ new
  main_operand (Some Barrier) v p q old new = absurd (none-some q new)
  main_operand (Some Print) v p q old new = new
  main_operand (Some Await) v p q old new = new
  main_operand (Some (Unknown n)) v p q old new = new

  room-main : HasRoom m (round_after_event m S ts event.Main) (after_event m S event.Main)
  room-main =
      let T = after_event m S event.Main in
      let left = Leaves-after_event m S event.Main in
      let us = round_after_event m S ts event.Main in
      let same : T.versions ≡ S.versions = λ i. (left i).versions in
      room_with us T (long_same us T (λ i. (left i).contents)) (versions_same us T (λ i. (left i).versions))
      (λ v set y e. by_set v set y (ap (λ (x : Named Version). get x v) (sym same) ∙ e))
      (copies_same us T (λ i. (left i).copies))
    where
      by_set : (v : OpName) → IsSet (round_after_event m S ts event.Main) (after_event m S event.Main) v → (y : Version)
          → get S.versions v ≡ Some y → IsSet ts S v
      by_set v (inl p) y e =
          let q = control.chains.opener v y e in
          inl (p.0, main_operand (call_next m S) v q.0 p.0 q.1 p.1, p.2)
      by_set v (inr begun) y e =
          let same : (after_event m S event.Main).flight ≡ S.flight =
          λ i. (Leaves-after_event m S event.Main i).flight in
          inr (subst (λ (f : Numbered Flying). BegunIn f v.task) same begun)

  -- ---- events that leave versions, contents and copies

  room-take : HasRoom m ts (after_event m S event.Take)
  room-take =
      let left = Leaves-after_event m S event.Take in
      room_calm (after_event m S event.Take) (λ i. (left i).contents) (λ i. (left i).versions) (λ i. (left i).copies)
      (begins-take m S all ground.numbers)

  room-decode : (o : OpName) → HasRoom m ts (after_event m S (event.Decode o))
  room-decode o =
      let left = Leaves-after_event m S (event.Decode o) in
      let T = after_event m S (event.Decode o) in
      room_calm T (λ i. (left i).contents) (λ i. (left i).versions) (λ i. (left i).copies)
      (begins_as T (λ i. (left i).flight))

  room-ack : (o : OpName) → HasRoom m ts (after_event m S (event.Ack o))
  room-ack o =
      let left = Leaves-after_event m S (event.Ack o) in
      let T = after_event m S (event.Ack o) in
      room_calm T (λ i. (left i).contents) (λ i. (left i).versions) (λ i. (left i).copies)
      (begins_as T (λ i. (left i).flight))

  room-ready : (o : OpName) → HasRoom m ts (after_event m S (event.Ready o))
  room-ready o =
      let left = Leaves-after_event m S (event.Ready o) in
      room_calm (after_event m S (event.Ready o)) (λ i. (left i).contents) (λ i. (left i).versions)
      (λ i. (left i).copies) (begins-ready m S o)

  room-link : (o : OpName) → HasRoom m ts (after_event m S (event.Link o))
  room-link o =
      let left = Leaves-after_event m S (event.Link o) in
      room_calm (after_event m S (event.Link o)) (λ i. (left i).contents) (λ i. (left i).versions)
      (λ i. (left i).copies) (begins-link m S o)

  room-finish : (w : ℕ) → HasRoom m ts (after_event m S (event.Finish w))
  room-finish w =
      let left = Leaves-after_event m S (event.Finish w) in
      room_calm (after_event m S (event.Finish w)) (λ i. (left i).contents) (λ i. (left i).versions)
      (λ i. (left i).copies) (begins-finish m S control.holders.runners w)

  room-bye : (o : OpName) → HasRoom m ts (after_event m S (event.Bye o))
  room-bye o =
      let left = Leaves-after_event m S (event.Bye o) in
      room_calm (after_event m S (event.Bye o)) (λ i. (left i).contents) (λ i. (left i).versions)
      (λ i. (left i).copies) (begins-bye m S o)

  room-idle : (v : OpName) → HasRoom m ts (after_event m S (event.Idle v))
  room-idle v =
      let left = Leaves-after_event m S (event.Idle v) in
      let T = after_event m S (event.Idle v) in
      room_calm T (λ i. (left i).contents) (λ i. (left i).versions) (λ i. (left i).copies)
      (begins_as T (λ i. (left i).flight))

  -- ---- events of versions

  -- an open's version isn't set where it is to have a buffer
  output_unset : (o : OpName) (c : OpenContents) → get S.mail.opens o ≡ Some c → operand_among ts o ≡ Some (c.operand)
      → c.operand.mode ≡ Output → IsSet ts S o → ⊥
  output_unset o c e among output (inl p) =
      let same = same_Some p.0 c.operand (sym p.1 ∙ among) in
      apart (sym (ap reads output) ∙ ap (λ (q : Operand). reads q.mode) (sym same) ∙ p.2)
    where
      apart : false ≡ true → ⊥
      apart e = cc
  output_unset o c e among output (inr begun) =
      let untold = (opening_stands (look_ups S o) c (control.orderly o) e).1.0 in
      let x = task_of_record S.flight o untold.kept untold.there in
      let waits = (ground.stages.waiting o.task x.0 x.1).1
      (unready (x.0).operands o.place untold.kept x.2 untold.told) in
      by x.0 waits (begun x.0 x.1)
    where
      by : (x : Flying) → x.stage ≡ stage.Waiting → (x.stage ≡ stage.Running) ⊎ (x.stage ≡ stage.Finished) → ⊥
      by x waits (inl e) = cc
      by x waits (inr e) = cc

  home_unbuffered : (s : Option StorageName) (b : OpName) → s ≡ Some Home → s ≡ Some (Buffer b) → ⊥
  home_unbuffered s b e f = cc

  none_unbuffered : (s : Option StorageName) (b : OpName) → s ≡ None → s ≡ Some (Buffer b) → ⊥
  none_unbuffered s b e f = cc

  open_fresh : (o : OpName) (c : OpenContents) → get S.mail.opens o ≡ Some c → (b : OpName)
      → c.storage ≡ Some (Buffer b) → IsSet ts S o → ⊥
  open_fresh o c e b at set = by c.follows refl
    where
      by : (f : Option Follow) → c.follows ≡ f → ⊥
      by None first = home_unbuffered c.storage b (((control.chains.opens o c e).first first).storage) at
      by (Some f) after = by_way f (((control.chains.opens o c e).after f after).way)
        where
          by_way : (f : Follow) → FollowsAs o c f → ⊥
          by_way f (inl over) = none_unbuffered c.storage b over.2 at
          by_way f (inr beside) = output_unset o c e (control.chains.opens o c e).operand beside.0 set

  opened : (o : OpName) (x : Option OpenContents) → get S.mail.opens o ≡ x
      → AreRoomy (IsSet ts S) (IsRoomy m S) (open_message_taken (without S (event.Open o)) o x).versions
  opened o None e = roomy_now
  opened o (Some c) e =
      roomy_opened (IsSet ts S) (IsRoomy m S) S.versions roomy_now o c (open_fresh o c e)
      (λ first. ((control.chains.opens o c e).first first).storage)

  room-open : (o : OpName) → HasRoom m ts (after_event m S (event.Open o))
  unfolding after_event
  room-open o =
      let left = Leaves-after_event m S (event.Open o) in
      room_versions (after_event m S (event.Open o)) (λ i. (left i).contents) (λ i. (left i).copies)
      (λ i. (left i).flight) (opened o (get S.mail.opens o) refl)

  used : (o : OpName) (v : Option OpName)
      → AreRoomy (IsSet ts S) (IsRoomy m S) (use_message_taken (without S (event.Use o)) o v).versions
  used o None = roomy_now
  used o (Some v) = roomy_used (IsSet ts S) (IsRoomy m S) S.versions roomy_now o v

  room-use : (o : OpName) → HasRoom m ts (after_event m S (event.Use o))
  unfolding after_event
  room-use o =
      let left = Leaves-after_event m S (event.Use o) in
      room_versions (after_event m S (event.Use o)) (λ i. (left i).contents) (λ i. (left i).copies)
      (λ i. (left i).flight) (used o (get S.mail.uses o))

  release_sets : (o : OpName) (c : ReleaseContents) → get S.mail.releases o ≡ Some c → c.producer ≡ true
      → IsSet ts S c.version
  release_sets o c e produces =
      let r = releases_facts ts g S ground.round control.orderly control.holders o c e in
      let own = subst (λ w. IsOwnOrRead g o w c.version) (sym r.producer ∙ produces) r.own in
      subst (IsSet ts S) (sym own)
      (inr (begun_late m S facts o r.operand r.among (ap is_late r.phase)))

  released : (o : OpName) (x : Option ReleaseContents) → get S.mail.releases o ≡ x
      → AreRoomy (IsSet ts S) (IsRoomy m S) (release_message_taken (without S (event.Release o)) o x).versions
  released o None e = roomy_now
  released o (Some c) e =
      roomy_released (IsSet ts S) (IsRoomy m S) S.versions roomy_now o c (release_sets o c e)

  room-release : (o : OpName) → HasRoom m ts (after_event m S (event.Release o))
  unfolding after_event
  room-release o =
      let left = Leaves-after_event m S (event.Release o) in
      room_versions (after_event m S (event.Release o)) (λ i. (left i).contents) (λ i. (left i).copies)
      (λ i. (left i).flight) (released o (get S.mail.releases o) refl)

  room-nack : (v : OpName) → HasRoom m ts (after_event m S (event.Nack v))
  unfolding after_event
  room-nack v =
      room_versions (after_event m S (event.Nack v)) refl refl refl
      (roomy_nacked (IsSet ts S) (IsRoomy m S) S.versions roomy_now v)

  -- ---- retire and copy

  there_tt : (x : Option (Unit {0})) → is_some x ≡ true → x ≡ Some tt
  there_tt None e = absurd (cc)
  there_tt (Some x) e = refl

  -- a version that retires is produced
  retires_produced : (v : OpName) (x : Version) → get S.mail.retires v ≡ Some tt → get S.versions v ≡ Some x
      → x.produced ≡ true
  retires_produced v x e there =
      let asks = ground.asking.retires v e in
      let same = same_Some asks.1.0 x (sym asks.1.1 ∙ there) in
      (control.retirement.asked v x asks.0 there (ap (λ (z : Version). z.asked) (sym same) ∙ asks.1.2)).produced

  copies_retired : (bank : ℕ) (v : OpName) (x : Version) → get S.versions v ≡ Some x → x.produced ≡ true
      → (s : Option StorageName) → x.storage ≡ s → (k : ℕ) (c : CopyState)
      → get (copies_after_retire S.copies bank v x.object s) k ≡ Some c → IsRoomy m S c.buffer
  copies_retired bank v x there made None at k c e = room.copies k c e
  copies_retired bank v x there made (Some Home) at k c e = room.copies k c e
  copies_retired bank v x there made (Some (Buffer n)) at k c e =
      elim (from_inserted nat_order S.copies bank (new_copy v x.object n) k c e) [
        | inl new ↦
            subst (λ (c : CopyState). IsRoomy m S c.buffer) (sym new.1) (roomy_now v x there n at (inr made))
        | inr old ↦ room.copies k c old.1
      ]

  retired : (v : OpName) → get S.mail.retires v ≡ Some tt → (x : Option Version) → get S.versions v ≡ x
      → HasRoom m ts (retire_version m (without S (event.Retire v)) v x)
  retired v e None there = room_calm _ refl refl refl (begins_same S.flight)
  retired v e (Some x) there =
      room_with ts (retire_version m (without S (event.Retire v)) v (Some x))
      (λ b long. long) (roomy_drop (IsSet ts S) (IsRoomy m S) S.versions v roomy_now)
      (sets_before (retire_version m (without S (event.Retire v)) v (Some x)) (begins_same S.flight))
      (copies_retired _ v x there (retires_produced v x e there) x.storage refl)

  room-retire : (v : OpName) → IsEnabled m S (event.Retire v) → HasRoom m ts (after_event m S (event.Retire v))
  unfolding is_enabled after_event
  room-retire v on =
      retired v (there_tt (get S.mail.retires v) (and_parts (is_some (get S.mail.retires v)) _ on).0)
      (get S.versions v) refl

  copies_copied : (bank : ℕ) (x : CopyState) → get S.copies bank ≡ Some x → (last : Bool) (k : ℕ) (c : CopyState)
      → get (copies_after_copy S.copies bank x last) k ≡ Some c → IsRoomy m S c.buffer
  copies_copied bank x there true k c e = room.copies k c (from_removed nat_order S.copies bank k c e).1
  copies_copied bank x there false k c e = elim (from_inserted nat_order S.copies bank _ k c e) [
    | inl new ↦ subst (λ (c : CopyState). IsRoomy m S c.buffer) (sym new.1) (room.copies bank x there)
    | inr old ↦ room.copies k c old.1
  ]

  copied : (bank : ℕ) (x : Option CopyState) → get S.copies bank ≡ x → HasRoom m ts (after_copy S bank x)
  copied bank None there = room_calm S refl refl refl (begins_same S.flight)
  copied bank (Some x) there =
      room_with ts (after_copy S bank (Some x)) (λ b long. long) roomy_now
      (sets_before (after_copy S bank (Some x)) (begins_same S.flight))
      (copies_copied bank x there (is_last_piece x))

  room-copy : (bank : ℕ) → HasRoom m ts (after_event m S (event.Copy bank))
  unfolding after_event
  room-copy bank = copied bank (get S.copies bank) refl

  -- ---- gone

  -- the freed buffer is of no version
  gone_apart : HasBuffers ts S → (v : OpName) (c : GoneContents) → get S.mail.gones v ≡ Some c → (w : OpName)
      (y : Version) (b : OpName) → get S.versions w ≡ Some y → y.storage ≡ Some (Buffer b) → c.buffer ≡ Some b → ⊥
  gone_apart buffers v c e w y b there stored freed =
      let one = buffers.one v w b (inr (inr (inl (c, e, freed)))) (inr (inl (y, there, stored))) in
      none-some c (sym (ground.places.versions w y there).2 ∙ ap (get S.mail.gones) (sym one) ∙ e)

  gone_uncopied : HasBuffers ts S → (v : OpName) (c : GoneContents) → get S.mail.gones v ≡ Some c → (k : ℕ)
      (x : CopyState) → get S.copies k ≡ Some x → c.buffer ≡ Some (x.buffer) → ⊥
  gone_uncopied buffers v c e k x there freed =
      let one = buffers.one v x.version x.buffer (inr (inr (inl (c, e, freed))))
      (inr (inr (inr (k, x, there, refl, refl)))) in
      (ground.places.gones v c e).1 (k, x, there, sym one)

  left_roomy : (T : State) (b : OpName) → buffer_bytes T.contents b ≡ buffer_bytes S.contents b → IsRoomy m S b
      → IsRoomy m T b
  left_roomy T b same long = let e = ap (λ (bs : List ℕ). length bs) same in omega (arith, e, long)

  gone : HasBuffers ts S → (v : OpName) (x : Option GoneContents) → get S.mail.gones v ≡ x
      → HasRoom m ts (gone_message_taken (without S (event.Gone v)) v x)
  gone buffers v None e = room_calm _ refl refl refl (begins_same S.flight)
  gone buffers v (Some c) e =
      let T = gone_message_taken (without S (event.Gone v)) v (Some c) in
      record {
        versions = λ w y b there stored set.
            left_roomy T b (bytes_beside_gone S.contents c.buffer b (gone_apart buffers v c e w y b there stored))
            (room.versions w y b there stored (sets_before T (begins_same S.flight) w set y there));
        copies = λ k x there.
            left_roomy T x.buffer
            (bytes_beside_gone S.contents c.buffer x.buffer (gone_uncopied buffers v c e k x there))
            (room.copies k x there);
      }

  room-gone : HasBuffers ts S → (v : OpName) → HasRoom m ts (after_event m S (event.Gone v))
  unfolding after_event
  room-gone buffers v = gone buffers v (get S.mail.gones v) refl

  -- ---- exec

  executed : (w : ℕ) (b : Option Busy) → HasRoom m ts (after_exec m S w b)
  executed w None = room_calm S refl refl refl (begins_same S.flight)
  executed w (Some x) =
      let T = after_exec m S w (Some x) in
      room_with ts T
      (λ b long. let e = size_executed S.code m.limits m.sizes.quantum x (stores_of S) b in omega (arith, e, long))
      roomy_now (sets_before T (begins_same S.flight)) room.copies

  room-exec : (w : ℕ) → HasRoom m ts (after_event m S (event.Exec w))
  unfolding after_event
  room-exec w = executed w (get S.workers w)

  -- ---- start

  module _ (w t : ℕ) (queue : List ℕ) (x : Flying) (flies : get S.flight t ≡ Some x)
      (queued : x.stage ≡ stage.Queued) where
    -- no buffer gets shorter
    long_started : (b : OpName) → IsRoomy m S b → IsRoomy m (start_task m S w t queue (Some x)) b
    long_started b long = space_started m.limits (stores_of S) (operands_of x.task) (storages_of x) b long

    output_made : (v : OpName) (y : Version) (p : Operand) (b : OpName) → get S.versions v ≡ Some y
        → operand_among ts v ≡ Some p → y.storage ≡ Some (Buffer b) → v.task ≡ t → (mode : Mode) → p.mode ≡ mode
        → IsRoomy m (start_task m S w t queue (Some x)) b
    output_made v y p b there among stored own Input is =
        long_started b (room.versions v y b there stored (inl (p, among, ap reads is)))
    output_made v y p b there among stored own Output is =
        let here = ap (get S.flight) own ∙ flies in
        space_made m.limits (stores_of S) (operands_of x.task) (storages_of x) v.place p b
        (place_of m S facts v p x among here)
        (queued_storage m S facts v y p b x there among is stored here queued) (ap reads is)
    output_made v y p b there among stored own Inout is =
        long_started b (room.versions v y b there stored (inl (p, among, ap reads is)))

    set_started : (v : OpName) (y : Version) (b : OpName) → get S.versions v ≡ Some y → y.storage ≡ Some (Buffer b)
        → IsSet ts (start_task m S w t queue (Some x)) v → IsRoomy m (start_task m S w t queue (Some x)) b
    set_started v y b there stored (inl p) = long_started b (room.versions v y b there stored (inl p))
    set_started v y b there stored (inr begun) = elim (decide_key nat_order v.task t) [
      | inl same ↦
          let p = control.chains.opener v y there in
          output_made v y p.0 b there p.1 stored same (p.0).mode refl
      | inr apart ↦ long_started b (room.versions v y b there stored (inr (λ z at.
          begun z (beside_inserted nat_order S.flight t (record x { stage = stage.Running }) v.task apart ∙ at))))
    ]

    room_started : HasRoom m ts (start_task m S w t queue (Some x))
    room_started = record {
      versions = set_started;
      copies = λ k c e. long_started c.buffer (room.copies k c e);
    }

  starts : (w : ℕ) (queue : List ℕ) → S.queue ≡ queue → HasRoom m ts (after_start m S w queue)
  starts w [] e = room_calm S refl refl refl (begins_same S.flight)
  starts w (t ∷ queue) e =
      let at = control.holders.runners.queued t
      (ap (λ ns. list_any (λ k. k == t) ns) e ∙ or_left (t == t) (list_any (λ k. k == t) queue) (itself t)) in
      subst (HasRoom m ts) (sym (ap (start_task m S w t queue) at.1)) (room_started w t queue at.0 at.1 at.2)
    where
      itself : (n : ℕ) → (n == n) ≡ true
      itself n = grind (arith, nat_tests)

  room-start : (w : ℕ) → HasRoom m ts (after_event m S (event.Start w))
  unfolding after_event
  room-start w = starts w S.queue refl

  -- ---- all events

  -- every event leaves room
  pub HasRoom-after_event : HasBuffers ts S → (e : Event) → IsEnabled m S e
      → HasRoom m (round_after_event m S ts e) (after_event m S e)
  HasRoom-after_event buffers event.Main on = room-main
  HasRoom-after_event buffers event.Take on = room-take
  HasRoom-after_event buffers (event.Decode o) on = room-decode o
  HasRoom-after_event buffers (event.Ack o) on = room-ack o
  HasRoom-after_event buffers (event.Open o) on = room-open o
  HasRoom-after_event buffers (event.Use o) on = room-use o
  HasRoom-after_event buffers (event.Ready o) on = room-ready o
  HasRoom-after_event buffers (event.Link o) on = room-link o
  HasRoom-after_event buffers (event.Start w) on = room-start w
  HasRoom-after_event buffers (event.Exec w) on = room-exec w
  HasRoom-after_event buffers (event.Finish w) on = room-finish w
  HasRoom-after_event buffers (event.Release o) on = room-release o
  HasRoom-after_event buffers (event.Bye o) on = room-bye o
  HasRoom-after_event buffers (event.Idle v) on = room-idle v
  HasRoom-after_event buffers (event.Nack v) on = room-nack v
  HasRoom-after_event buffers (event.Retire v) on = room-retire v on
  HasRoom-after_event buffers (event.Copy b) on = room-copy b
  HasRoom-after_event buffers (event.Gone v) on = room-gone buffers v

-- at first there is no version and no copy
pub HasRoom-initial_state : (m : Machine) (ts : List Task) (i : ImageState) → HasRoom m ts (initial_state i)
HasRoom-initial_state m ts i = record {
  versions = λ v y b e at set. absurd (none-some y (sym (get-empty name_cmp v) ∙ e));
  copies = λ k c e. absurd (none-some c (sym (get-empty nat_cmp k) ∙ e));
}
