-- The round after an event of main: a spawn adds its task, a barrier ends the round, and the other calls leave it.
use Rattle.std.proofs.Common.{◌≡◌, ℕ, suc, true, List, [], ◌∷◌, ◌++◌, append-nil, Option, Some, None, refl, sym, ap}
use Rattle.std.proofs.Common.{◌∙◌, subst, inl, inr, arith}
use Rattle.std.specs.Prelude.{option_to_list, ◌&&◌, is_none, slice_get, Result, Ok, Err}
use Rattle.std.proofs.lemmas.Bool.{and_parts}
use Rattle.std.proofs.lemmas.Option.{none-some, same_Some}
use Rattle.tss_base.specs.declared.range.Range.{Range}
use Rattle.tss_base.specs.declared.operand.OpName.{OpName}
use Rattle.tss_base.specs.declared.operand.Operand.{Operand}
use Rattle.tss_base.specs.declared.operand.Task.{Task}
use Rattle.tss_base.specs.declared.machine.Machine.{Machine}
use Rattle.tss_base.specs.declared.event.Event.{Event}
use Rattle.tss_base.specs.declared.event.Event.TheVariants as event
use Rattle.tss_model.specs.Access.{operands_of}
use Rattle.tss_model.specs.MainStep.{MainState, Call, ExitCall, Spawn, Barrier, Print, Await, Unknown, main_refused}
use Rattle.tss_model.specs.MainStep.{main_stretch, spawn_call, spawn_on, spawn_done, print_call, print_range}
use Rattle.tss_model.specs.MainStep.{awaited_object, main_call}
use Rattle.tss_model.specs.Spawn.{spawn_of, objects_of, name_objects}
use Rattle.tss_protocol.specs.State.{State}
use Rattle.tss_protocol.specs.MainEvent.{is_drained, flat_of, call_next, may_call, after_call, main_by}
use Rattle.tss_protocol.specs.UnitMachine.{is_enabled, IsEnabled, after_event}
use Rattle.tss_protocol.specs.Needs.{round_after_call, round_after_main, round_after_event}
use Rattle.tss_locality.specs.Agreement.{operand_in}
use Rattle.tss_locality.specs.Objects.{HasObjects}
use Rattle.tss_locality.specs.Rounds.{object_in, AreSeparate, IsNumberOf, AreInUse, IsRounded}
use Rattle.tss_locality.proofs.MainCalls.{calls_stretch, calls_print}
use Rattle.tss_locality.proofs.GrownObjects.{IsWithinObjects-grown}
use Rattle.tss_locality.proofs.FewerObjects.{nothing_there, empty_drained, none_decodes, IsWithinObjects-drained}
use Rattle.tss_locality.proofs.SeparateObjects.{still_named, newly_named}
use Rattle.tss_locality.proofs.SpawnedTasks.{in_objects, accepted_number, accepted_separate}
use Rattle.tss_locality.proofs.Subjects.{arrival_task}
use Rattle.tss_locality.proofs.RoundObjects.{in_longer, last_of_longer, found_in_round, object_in-more, object_in-new}
use Rattle.tss_locality.proofs.RoundObjects.{from_longer}
use Rattle.tss_locality.proofs.RoundFrames.{within_main, main_round}
use Rattle.tss_locality.proofs.RoundAwaits.{await_round}

module _ (m : Machine) (S : State) (ts : List Task) (r : IsRounded S ts) where
  -- ---- an accepted spawn

  module _ (x : MainState) (t : Task) (number : t.number ≡ suc S.main.spawned)
      (spawned : x.spawned ≡ suc S.main.spawned)
      (epoch : x.epoch ≡ name_objects S.main.epoch (objects_of (operands_of t)))
      (separate : AreSeparate (name_objects S.main.epoch (objects_of (operands_of t)))) (empty : S.inbox ≡ None) where
    more_in_use : AreInUse (name_objects S.main.epoch (objects_of (operands_of t)))
        (record S { main = x; inbox = Some t })
    more_in_use = record {
      arriving = λ u there j p at.
          let same = same_Some t u there in
          newly_named p.object S.main.epoch (objects_of (operands_of t))
          (in_objects (operands_of t) j p (ap (λ t. slice_get (operands_of t) j) same ∙ at));
      decoding = λ o p e.
          still_named p.object S.main.epoch (objects_of (operands_of t)) (r.named.decoding o p e);
      entered = λ b e at.
          still_named e.object S.main.epoch (objects_of (operands_of t)) (r.named.entered b e at);
    }

    -- no name of the new task has an object yet
    new_name : (o : OpName) (p : Operand) → operand_in (Some t) o ≡ Some p → (y : Option Range) → object_in ts o ≡ y →
        object_in ts o ≡ None
    new_name o p at None e = e
    new_name o p at (Some y) e =
        let f = found_in_round ts o y e in
        let old : o.task ≡ f.task.number = arrival_task f.task o f.operand f.arrives in
        let low = r.numbers f.place f.task f.there in
        let new : o.task ≡ t.number = arrival_task t o p at in
        absurd (omega (arith, old, low, new, number))

    has_objects : HasObjects (object_in (ts ++ t ∷ [])) (Some t)
    has_objects o p at = object_in-new ts t o p (new_name o p at (object_in ts o) refl) at

    one_more : (j k : ℕ) (u v : Task) → slice_get (ts ++ t ∷ []) j ≡ Some u → slice_get (ts ++ t ∷ []) k ≡ Some v →
        u.number ≡ v.number → u ≡ v
    one_more j k u v at there same = elim (from_longer ts t j u at) [
      | inl old ↦ elim (from_longer ts t k v there) [
        | inl older ↦ r.one j k u v old older same
        | inr new ↦
            let low = r.numbers j u old in
            let high = ap (λ (t : Task). t.number) new in
            absurd (omega (arith, low, high, same, number))
      ]
      | inr new ↦ elim (from_longer ts t k v there) [
        | inl older ↦
            let low = r.numbers k v older in
            let high = ap (λ (t : Task). t.number) new in
            absurd (omega (arith, low, high, same, number))
        | inr newer ↦ sym new ∙ newer
      ]
    ]

    spawn_round : IsRounded (record S { main = x; inbox = Some t }) (ts ++ t ∷ [])
    spawn_round = record {
      numbers = λ k u there. elim (from_longer ts t k u there) [
        | inl old ↦ let low = r.numbers k u old in omega (arith, low, spawned)
        | inr new ↦ let same = ap (λ (t : Task). t.number) new in omega (arith, same, number, spawned)
      ];
      one = one_more;
      named = subst (λ epoch. AreInUse epoch (record S { main = x; inbox = Some t })) (sym epoch) more_in_use;
      separate = subst AreSeparate (sym epoch) separate;
      arrived = λ u there.
          subst (IsNumberOf (ts ++ t ∷ []) x.spawned) (same_Some t u there) (number ∙ sym spawned, last_of_longer ts t);
      flying = λ n y there. let h = r.flying n y there in (h.0, in_longer ts t y.task h.1);
      below = λ u there n y at.
          let h = r.flying n y at in
          let low = r.numbers h.1.0 y.task h.1.1 in
          let same = ap (λ (t : Task). t.number) (same_Some t u there) in
          omega (arith, low, number, same, h.0);
      busy = λ w b there. in_longer ts t b.task (r.busy w b there);
      within = within_main (object_in (ts ++ t ∷ [])) S x S.home (Some t) has_objects
          (IsWithinObjects-grown (object_in ts) (object_in (ts ++ t ∷ [])) (object_in-more ts t) S r.within);
    }

  spawned_round : S.inbox ≡ None → (o : Result Task ℕ) →
      spawn_of (spawn_call S.main.registers) S.home S.main.epoch m.limits S.main.spawned ≡ o →
      IsRounded (after_call S (spawn_on S.main o)) (ts ++ option_to_list (spawn_on S.main o).1)
  spawned_round empty (Err n) there =
      subst (IsRounded (record S { main = main_refused S.main n })) (sym (append-nil ts))
      (main_round m S ts r (main_refused S.main n) S.home (record { spawned = refl; epoch = refl }))
  spawned_round empty (Ok t) there =
      let call = spawn_call S.main.registers in
      spawn_round (spawn_done S.main t) t
      (accepted_number call S.home S.main.epoch m.limits S.main.spawned t there) refl refl
      (accepted_separate call S.home S.main.epoch m.limits S.main.spawned t there r.separate) empty

  none_from_test : (i : Option Task) → is_none i ≡ true → i ≡ None
  none_from_test None e = refl
  none_from_test (Some t) e = absurd (cc)

  none_inbox : (i : Option Task) → is_none i ≡ true → (t : Task) → i ≡ Some t → ⊥
  none_inbox i e t there = none-some t (sym (none_from_test i e) ∙ there)

  -- a drained state after a barrier
  barrier_round : (x : MainState) → x.spawned ≡ S.main.spawned → x.epoch ≡ [] → is_drained S ≡ true →
      IsRounded (record S { main = x }) []
  barrier_round x spawned epoch drained = record {
    numbers = λ k t there. absurd (none-some t there);
    named = record {
      arriving = λ t there. absurd (none_inbox S.inbox (empty_drained S drained).inbox t there);
      decoding = λ o p e.
          absurd (nothing_there S.mail.decodes (none_decodes (object_in []) S (empty_drained S drained)) o p e);
      entered = λ b e at. absurd (nothing_there S.entries (empty_drained S drained).entries b e at);
    };
    one = λ j k t u there. absurd (none-some t there);
    separate = subst AreSeparate (sym epoch) (record { some = λ x h. absurd h; one = λ x y h. absurd h });
    arrived = λ t there. absurd (none_inbox S.inbox (empty_drained S drained).inbox t there);
    flying = λ n y there. absurd (nothing_there S.flight (empty_drained S drained).flight n y there);
    below = λ t there. absurd (none_inbox S.inbox (empty_drained S drained).inbox t there);
    busy = λ w b there. absurd (nothing_there S.workers (empty_drained S drained).workers w b there);
    within = IsWithinObjects-drained (object_in []) (record S { main = x }) drained;
  }

  called_round : (call : Call) → may_call S (Some call) ≡ true →
      IsRounded (after_call S (main_call m.limits S.home S.main call))
      (round_after_call ts call (main_call m.limits S.home S.main call))
  called_round ExitCall on =
      main_round m S ts r (main_call m.limits S.home S.main ExitCall).0 S.home (record { spawned = refl; epoch = refl })
  called_round Spawn on =
      spawned_round (none_from_test S.inbox on)
      (spawn_of (spawn_call S.main.registers) S.home S.main.epoch m.limits S.main.spawned) refl
  called_round Barrier on = barrier_round (main_call m.limits S.home S.main Barrier).0 refl refl on
  called_round Print on =
      main_round m S ts r (print_call m.limits S.home S.main (print_range S.main.registers)) S.home
      (calls_print m.limits S.home S.main (print_range S.main.registers))
  called_round Await on = await_round m S ts r (awaited_object S.main) refl on
  called_round (Unknown n) on =
      main_round m S ts r (main_call m.limits S.home S.main (Unknown n)).0 S.home
      (record { spawned = refl; epoch = refl })

  main_by_round : (call : Option Call) → may_call S call ≡ true →
      IsRounded (main_by m S call) (round_after_main m S ts call)
  main_by_round None on =
      let f = main_stretch S.code m.limits m.sizes.quantum (flat_of S) in
      main_round m S ts r f.main f.memory
      (calls_stretch S.code m.limits S.main m.sizes.quantum (flat_of S) (record { spawned = refl; epoch = refl }))
  main_by_round (Some call) on = called_round call on

  pub main_event_round : IsEnabled m S event.Main →
      IsRounded (after_event m S event.Main) (round_after_event m S ts event.Main)
  unfolding after_event is_enabled
  main_event_round on =
      main_by_round (call_next m S)
      (and_parts (is_none S.main.ending && is_none S.trap) (may_call S (call_next m S)) on).1
