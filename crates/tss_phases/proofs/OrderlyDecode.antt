-- Operands stay in order where a task is taken, and where an operand is decoded.
use Rattle.std.proofs.Common.{◌≡◌, ℕ, ◌≤◌, false, cond, Option, Some, None, refl, sym, ap, ◌∙◌, subst, inl, inr, arith}
use Rattle.std.proofs.Common.{nat_lt}
use Rattle.std.specs.Prelude.{◌||◌, slice_get, option_map}
use Rattle.std.specs.FinMap.{get}
use Rattle.std.proofs.lemmas.Bool.Decides.{nat_tests}
use Rattle.std.proofs.lemmas.Option.{slice_get-map}
use Rattle.tss_base.specs.declared.operand.OpName.{OpName}
use Rattle.tss_base.specs.declared.operand.Mode.{Mode}
use Rattle.tss_base.specs.declared.operand.Mode.TheVariants.{Input, Output, Inout}
use Rattle.tss_base.specs.declared.operand.Operand.{Operand}
use Rattle.tss_base.specs.declared.operand.Task.{Task}
use Rattle.tss_base.specs.declared.machine.Machine.{Machine}
use Rattle.tss_base.specs.declared.event.Event.TheVariants as event
use Rattle.tss_base.specs.declared.marks.How.TheVariants.{Beside, Over}
use Rattle.tss_maps.proofs.Keys.{nat_order, decide_key}
use Rattle.tss_model.specs.Access.{operands_of}
use Rattle.tss_protocol.specs.Mail.{Home, Buffer, OpenContents, Open, Use}
use Rattle.tss_protocol.specs.State.{State, Entry}
use Rattle.tss_protocol.specs.Stations.{operand_at, new_operand, entered, flight_after_take}
use Rattle.tss_protocol.specs.Renaming.{decode_message, live_message, follows_latest}
use Rattle.tss_protocol.specs.UnitMachine.{after_event, after_take}
use Rattle.tss_phases.specs.Phase.{LookUps, look_ups}
use Rattle.tss_phases.specs.Alone.{IsSilent}
use Rattle.tss_phases.specs.Orderly.{IsUntold, IsOrderly, AreOrderly, TakesSpawned}
use Rattle.tss_phases.proofs.Received.{own_name, received}
use Rattle.tss_phases.proofs.Shown.{ahead_shows}
use Rattle.tss_phases.proofs.Records.{record_put}
use Rattle.tss_phases.proofs.TakeEvent.{decodes_own, decodes_beyond, look_ups-take, look_ups-take-other, inbox_is_ahead}
use Rattle.tss_phases.proofs.DecodeEvent.{look_ups-decode-own, look_ups-decode-other}
use Rattle.tss_phases.proofs.OrderlyLemmas.{orderly_decoding, orderly_opening, orderly_using, orderly_absent}
use Rattle.tss_phases.proofs.OrderlyLemmas.{decoding_stands, same_untold, ahead_by_test, at_and_beside}

-- ---- take

not_beyond : (n k : ℕ) → k ≤ n → (nat_lt n k || false) ≡ false
not_beyond n k h = grind (arith, nat_tests)

module _ (m : Machine) (S : State) (orderly : AreOrderly S) (t : Task) (inbox : S.inbox ≡ Some t)
    (spawned : t.number ≤ S.main.spawned) where
  -- what is looked up of an operand of the task but its decode
  abbrev pub taken_look_ups : OpName → LookUps
  taken_look_ups q = record (look_ups S q) {
    station = operand_at (flight_after_take S.flight t) q;
    ahead = nat_lt S.main.spawned q.task || false;
  }

  silent_before : (q : OpName) → q.task ≡ t.number → IsSilent (look_ups S q)
  silent_before q same =
      (ahead_shows (look_ups S q)
      (ahead_by_test (look_ups S q) (orderly q) (inbox_is_ahead m S t inbox q same))).0

  -- the record of an operand of the task after a take
  pub new_record : (q : OpName) → q.task ≡ t.number
      → operand_at (flight_after_take S.flight t) q ≡ option_map new_operand (slice_get (operands_of t) q.place)
  new_record q same =
      record_put S.flight t.number (entered t) q same ∙ slice_get-map new_operand (operands_of t) q.place

  -- its task has been taken
  pub not_ahead : (q : OpName) → q.task ≡ t.number → (nat_lt S.main.spawned q.task || false) ≡ false
  not_ahead q same = not_beyond S.main.spawned q.task (omega (arith, same, spawned))

  taken_own : (q : OpName) → q.task ≡ t.number → (x : Option Operand) → slice_get (operands_of t) q.place ≡ x
      → IsOrderly (look_ups (after_event m S event.Take) q)
  taken_own q same None at =
      let s = silent_before q same in
      let l = taken_look_ups q in
      subst IsOrderly
      (sym (look_ups-take m S t inbox q
      ∙ decodes_beyond t.number 0 (operands_of t) q.place q l at same (omega arith)))
      (orderly_absent l (record {
        decoding = s.decoding;
        opening = s.opening;
        using = s.using;
        telling = s.telling;
        releasing = s.releasing;
        leaving = s.leaving;
      }) (new_record q same ∙ ap (option_map new_operand) at) (not_ahead q same))
  taken_own q same (Some o) at =
      let s = silent_before q same in
      let l = taken_look_ups q in
      subst IsOrderly
      (sym (look_ups-take m S t inbox q
      ∙ decodes_own t.number 0 (operands_of t) q.place o q l at same (omega arith)))
      (orderly_decoding (record l { decoding = Some o }) o (record {
        decoding = refl;
        opening = s.opening;
        using = s.using;
        telling = s.telling;
        releasing = s.releasing;
        leaving = s.leaving;
      }) refl (
        record {
          kept = new_operand o;
          there = new_record q same ∙ ap (option_map new_operand) at;
          told = refl;
          stays = refl;
        },
        not_ahead q same,
      ))

  taken : AreOrderly (after_event m S event.Take)
  taken q = elim (decide_key nat_order q.task t.number) [
    | inl same ↦ taken_own q same (slice_get (operands_of t) q.place) refl
    | inr other ↦ subst IsOrderly (sym (look_ups-take-other m S t inbox q other)) (orderly q)
  ]

module _ (m : Machine) (S : State) (orderly : AreOrderly S) where
  -- take
  pub orderly-take : TakesSpawned S → AreOrderly (after_event m S event.Take)
  unfolding after_event
  orderly-take spawned = by S.inbox refl
    where
      by : (x : Option Task) → S.inbox ≡ x → AreOrderly (after_take S S.inbox)
      by None e = subst AreOrderly (λ i. after_take S (sym e i)) orderly
      by (Some t) e = taken m S orderly t e (spawned t e)

-- ---- decode

opened : (o : OpName) (c : OpenContents) (l : LookUps) → IsSilent l → IsUntold l → IsOrderly (received (Open o c) o l)
opened o c l s h =
    let k : LookUps = record l { opening = Some c } in
    subst (λ b. IsOrderly (record l { opening = cond b (Some c) l.opening })) (sym (own_name o))
    (orderly_opening k c (record {
      decoding = s.decoding;
      opening = refl;
      using = s.using;
      telling = s.telling;
      releasing = s.releasing;
      leaving = s.leaving;
    }) refl (same_untold l k refl refl h))

used : (o v : OpName) (l : LookUps) → IsSilent l → IsUntold l → IsOrderly (received (Use o v) o l)
used o v l s h =
    let k : LookUps = record l { using = Some v } in
    subst (λ b. IsOrderly (record l { using = cond b (Some v) l.using })) (sym (own_name o))
    (orderly_using k v (record {
      decoding = s.decoding;
      opening = s.opening;
      using = refl;
      telling = s.telling;
      releasing = s.releasing;
      leaving = s.leaving;
    }) refl (same_untold l k refl refl h))

decoded_live : (o : OpName) (operand : Operand) (e : Entry) (mode : Mode) (l : LookUps) → IsSilent l → IsUntold l
    → IsOrderly (received (live_message o operand e mode) o l)
decoded_live o operand e Input l s h = used o e.latest l s h
decoded_live o operand e Output l s h =
    let follows = Some (follows_latest e Beside) in
    opened o (record { operand = operand; storage = Some (Buffer o); follows = follows }) l s h
decoded_live o operand e Inout l s h =
    opened o (record { operand = operand; storage = None; follows = Some (follows_latest e Over) }) l s h

decoded : (o : OpName) (operand : Operand) (entry : Option Entry) (l : LookUps) → IsSilent l → IsUntold l
    → IsOrderly (received (decode_message o operand entry) o l)
decoded o operand None l s h = opened o (record { operand = operand; storage = Some Home; follows = None }) l s h
decoded o operand (Some e) l s h = decoded_live o operand e operand.mode l s h

-- decode
pub orderly-decode : (m : Machine) (S : State) (o : OpName) (operand : Operand)
    → get S.mail.decodes o ≡ Some operand → AreOrderly S → AreOrderly (after_event m S (event.Decode o))
orderly-decode m S o operand there orderly =
    let l : LookUps = record (look_ups S o) { decoding = None } in
    let stands = decoding_stands (look_ups S o) operand (orderly o) there in
    at_and_beside (λ q. IsOrderly (look_ups (after_event m S (event.Decode o)) q)) o
    (subst IsOrderly (sym (look_ups-decode-own m S o operand there))
    (decoded o operand (get S.entries operand.object.base) l stands.0
    (same_untold (look_ups S o) l refl refl stands.1)))
    (λ q apart. subst IsOrderly (sym (look_ups-decode-other m S o operand there q apart)) (orderly q))
