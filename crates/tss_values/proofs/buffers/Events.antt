-- Every event leaves one holder for each buffer, and so does every run.
use Rattle.std.proofs.Common.{◌≡◌, inl, inr, ℕ, true, ◌&&◌, List, [], ◌∷◌, ◌++◌, append-nil, Option, Some, None, Result}
use Rattle.std.proofs.Common.{Ok, Err, refl, sym, ◌∙◌, subst}
use Rattle.std.specs.Prelude.{◌==◌, is_none, option_to_list}
use Rattle.std.proofs.lemmas.Bool.{and_parts}
use Rattle.std.proofs.lemmas.Option.{none-some}
use Rattle.std.specs.Ordering.{nat_cmp}
use Rattle.std.specs.FinMap.{len, get-empty}
use Rattle.tss_base.specs.declared.operand.OpName.{OpName}
use Rattle.tss_base.specs.declared.operand.Task.{Task}
use Rattle.tss_base.specs.declared.machine.Machine.{Machine}
use Rattle.tss_base.specs.declared.event.Event.{Event}
use Rattle.tss_base.specs.declared.event.Event.TheVariants as event
use Rattle.tss_base.specs.Names.{name_cmp}
use Rattle.tss_base.specs.Image.{ImageState}
use Rattle.tss_maps.proofs.Entries.{absent_empty}
use Rattle.tss_model.specs.MainStep.{MainState, Call, Spawn, Barrier, main_call}
use Rattle.tss_model.specs.MainStep.{spawn_call, spawn_on}
use Rattle.tss_model.specs.Spawn.{spawn_of}
use Rattle.tss_protocol.specs.State.{State, initial_state}
use Rattle.tss_protocol.specs.MainEvent.{has_no_task, has_no_object, is_drained, call_next, may_call, main_by}
use Rattle.tss_protocol.specs.MainEvent.{after_call}
use Rattle.tss_protocol.specs.Mail.{is_silent}
use Rattle.tss_protocol.specs.Needs.{round_after_main, round_after_event, round_of}
use Rattle.tss_protocol.specs.Run.{IsRun}
use Rattle.tss_protocol.specs.UnitMachine.{IsEnabled, is_enabled, after_event}
use Rattle.tss_locality.specs.Rounds.{IsRounded}
use Rattle.tss_values.specs.Buffers.{HasBuffer, HasBuffers}
use Rattle.tss_control.specs.Readers.{no_arrivals}
use Rattle.tss_control.specs.Control.{IsControlled}
use Rattle.tss_names.proofs.PlainLemmas.{zero_from_test}
use Rattle.tss_names.proofs.SpawnLemmas.{IsNext-spawn_of}
use Rattle.tss_phases.proofs.OrderlyEvents.{orderly_at_first}
use Rattle.tss_control.proofs.GroundworkRuns.{ground_of_runs}
use Rattle.tss_control.proofs.GroundworkJoin.{IsControlled-event}
use Rattle.tss_control.proofs.GroundworkControl.{keeps_groups}
use Rattle.tss_control.proofs.GroundworkEmpty.{IsControlled-bare, IsBare-initial_state}
use Rattle.tss_control.proofs.rounds.Spawned.{IsLonger, IsLonger-spawn}
use Rattle.tss_values.proofs.buffers.Kept.{HasBuffers-same}
use Rattle.tss_values.proofs.buffers.Quiet.{HasBuffers-quiet, HasBuffers-use, HasBuffers-idle, HasBuffers-retire}
use Rattle.tss_values.proofs.buffers.Quiet.{HasBuffers-copy, HasBuffers-gone}
use Rattle.tss_values.proofs.buffers.Released.{HasBuffers-release, HasBuffers-nack}
use Rattle.tss_values.proofs.buffers.Opened.{HasBuffers-open}
use Rattle.tss_values.proofs.buffers.Decoded.{HasBuffers-decode}
use Rattle.tss_control.proofs.rounds.Facts.{Facts, facts_of}

-- ---- main

-- a longer round knows the same operands
buffers_longer : (last : ℕ) (ts us : List Task) (S : State) → IsLonger last ts us → HasBuffers ts S → HasBuffers us S
buffers_longer last ts us S long h = record {
  held = h.held;
  one = h.one;
  own = λ v b t.
      let f = h.own v b t in
      (f.0, f.1, long.still v f.0 f.2, long.still b f.1 f.3, f.4, f.5);
}

-- where no buffer is held nobody has one
buffers_empty : (ts us : List Task) (S : State) → len S.buffers ≡ 0 → HasBuffers ts S → HasBuffers us S
buffers_empty ts us S empty h =
    let none : (v b : OpName) → HasBuffer S v b → ⊥ = λ v b t.
    let f = h.held v b t in
    none-some f.0 (sym (absent_empty S.buffers b empty) ∙ f.1) in
    record {
      held = λ v b t. absurd (none v b t);
      one = λ v w b t u. absurd (none v b t);
      own = λ v b t. absurd (none v b t);
    }

no_buffers : (S : State) → is_drained S ≡ true → len S.buffers ≡ 0
no_buffers S drained =
    let outer = and_parts (has_no_task S && has_no_object S) (is_silent S.mail) drained in
    let inner = and_parts (has_no_task S) (has_no_object S) outer.0 in
    let e = len S.entries == 0 in
    let p = len S.places == 0 in
    let b = len S.buffers == 0 in
    let v = len S.versions == 0 in
    let o4 = and_parts (e && p && b && v) (len S.copies == 0) inner.1 in
    let o3 = and_parts (e && p && b) v o4.0 in
    zero_from_test (len S.buffers) (and_parts (e && p) b o3.0).1

module _ (m : Machine) (ts : List Task) (S : State) (round : IsRounded S ts) (h : HasBuffers ts S) where
  by_spawn : (x : Result Task ℕ)
      → spawn_of (spawn_call S.main.registers) S.home S.main.epoch m.limits S.main.spawned ≡ x
      → HasBuffers (ts ++ option_to_list (spawn_on S.main x).1) S
  by_spawn (Err n) e = subst (λ us. HasBuffers us S) (sym (append-nil ts)) h
  by_spawn (Ok t) e =
      let next = IsNext-spawn_of (spawn_call S.main.registers) S.home S.main.epoch m.limits S.main.spawned t e in
      buffers_longer S.main.spawned ts (ts ++ t ∷ []) S (IsLonger-spawn S ts t round next.number) h

  by_call : (c : Option Call) → may_call S c ≡ true → HasBuffers (round_after_main m S ts c) S
  by_call (Some Spawn) may =
      by_spawn (spawn_of (spawn_call S.main.registers) S.home S.main.epoch m.limits S.main.spawned) refl
  by_call (Some Barrier) may = buffers_empty ts [] S (no_buffers S may) h
  by_call other may = h

  same_main : (us : List Task) (d : MainState × Option Task) → HasBuffers us S → HasBuffers us (after_call S d)
  same_main us (x, None) k =
      HasBuffers-same us S _
      (record { opens = refl; versions = λ w z e. (z, e, refl); gones = refl; copies = refl; buffers = refl }) k
  same_main us (x, Some t) k =
      HasBuffers-same us S _
      (record { opens = refl; versions = λ w z e. (z, e, refl); gones = refl; copies = refl; buffers = refl }) k

  by_main : (us : List Task) (c : Option Call) → HasBuffers us S → HasBuffers us (main_by m S c)
  by_main us None k =
      HasBuffers-same us S _
      (record { opens = refl; versions = λ w z e. (z, e, refl); gones = refl; copies = refl; buffers = refl }) k
  by_main us (Some call) k = same_main us (main_call m.limits S.home S.main call) k

  -- main
  HasBuffers-main : IsEnabled m S event.Main
      → HasBuffers (round_after_event m S ts event.Main) (after_event m S event.Main)
  unfolding is_enabled after_event
  HasBuffers-main on =
      by_main (round_after_event m S ts event.Main) (call_next m S)
      (by_call (call_next m S) (and_parts (is_none S.main.ending && is_none S.trap) (may_call S (call_next m S)) on).1)

-- ---- all events

module _ (m : Machine) (S : State) (facts : Facts m S) where
  open facts use {all, ts, ground}

  -- by the event
  HasBuffers-after_event : HasBuffers ts S → (e : Event) → IsEnabled m S e
      → HasBuffers (round_after_event m S ts e) (after_event m S e)
  HasBuffers-after_event h event.Main on = HasBuffers-main m ts S ground.round h on
  HasBuffers-after_event h (event.Decode o) on = HasBuffers-decode m S facts h o
  HasBuffers-after_event h (event.Open o) on = HasBuffers-open m S facts h o on
  HasBuffers-after_event h (event.Use o) on = HasBuffers-use m ts S h o
  HasBuffers-after_event h (event.Release o) on = HasBuffers-release m S facts h o on
  HasBuffers-after_event h (event.Idle v) on = HasBuffers-idle m ts S h v
  HasBuffers-after_event h (event.Nack v) on = HasBuffers-nack m S facts h v on
  HasBuffers-after_event h (event.Retire v) on = HasBuffers-retire m ts S h v on
  HasBuffers-after_event h (event.Copy b) on = HasBuffers-copy m ts S h b
  HasBuffers-after_event h (event.Gone v) on = HasBuffers-gone m ts S h all ground.places v on
  HasBuffers-after_event h e on = HasBuffers-quiet m ts S h e tt

-- the first state has no buffer
HasBuffers-initial_state : (i : ImageState) → HasBuffers [] (initial_state i)
HasBuffers-initial_state i =
    let none : (v b : OpName) → HasBuffer (initial_state i) v b → ⊥ = λ v b t. elim t [
      | inl q ↦ none-some q.0 (sym (get-empty name_cmp v) ∙ q.1)
      | inr (inl q) ↦ none-some q.0 (sym (get-empty name_cmp v) ∙ q.1)
      | inr (inr (inl q)) ↦ none-some q.0 (sym (get-empty name_cmp v) ∙ q.1)
      | inr (inr (inr q)) ↦ none-some q.1 (sym (get-empty nat_cmp q.0) ∙ q.2)
    ] in
    record {
      held = λ v b t. absurd (none v b t);
      one = λ v w b t u. absurd (none v b t);
      own = λ v b t. absurd (none v b t);
    }

-- ---- all runs

-- each buffer has one holder in every run
pub HasBuffers-Run : (m : Machine) (i : ImageState) (es : List Event) (S : State) → IsRun m i es S
    → HasBuffers (round_of m (initial_state i) es) S
HasBuffers-Run m i es S run =
    (ground_of_runs (λ m all ts g S. IsControlled ts g S × HasBuffers ts S)
    (λ m all ts g S e ground h on. (
      IsControlled-event e (keeps_groups e) m S (facts_of m all ts g S ground h.0) on
          ((keeps_groups e).order m S (facts_of m all ts g S ground h.0) on),
      HasBuffers-after_event m S (facts_of m all ts g S ground h.0) h.1 e on,
    ))
    (λ m i. (
      IsControlled-bare (initial_state i) (IsBare-initial_state i) no_arrivals (orderly_at_first i),
      HasBuffers-initial_state i,
    ))
    m i es S run).1.1
