-- What becomes of the round with main's event: it stays, it has one more task, or it is over in a drained state. Main
-- that is cut off from program order doesn't stand in it.
use Rattle.std.proofs.Common.{◌≡◌, ℕ, suc, ◌+◌, ◌-◌, nat_le, nat_lt, ◌⊎◌, inl, inr, true, ◌&&◌, List, [], ◌∷◌, ◌++◌}
use Rattle.std.proofs.Common.{append-nil, Option, Some, None, is_none, Result, Ok, Err, refl, ap, ◌∙◌, arith}
use Rattle.std.specs.Prelude.{is_some, option_to_list}
use Rattle.std.proofs.lemmas.Bool.{and_parts, leb-true, ltb-true}
use Rattle.tss_base.specs.declared.range.Range.{Range}
use Rattle.tss_base.specs.declared.operand.Task.{Task}
use Rattle.tss_base.specs.declared.machine.Machine.{Machine}
use Rattle.tss_base.specs.declared.event.Event.TheVariants as event
use Rattle.tss_base.specs.Range.{end_of}
use Rattle.tss_base.specs.Image.{ImageState}
use Rattle.tss_model.specs.Memory.{covers}
use Rattle.tss_model.specs.Spawn.{spawn_of}
use Rattle.tss_model.specs.MainStep.{MainState, Flat, Call, Spawn, Barrier, spawn_call}
use Rattle.tss_model.specs.MainStep.{spawn_on}
use Rattle.tss_model.specs.InOrder.{flat_stepped}
use Rattle.tss_protocol.specs.State.{State}
use Rattle.tss_protocol.specs.MainEvent.{call_next, may_call, after_call, main_by, is_drained}
use Rattle.tss_protocol.specs.Needs.{round_after_main, round_after_event}
use Rattle.tss_protocol.specs.UnitMachine.{IsEnabled, is_enabled, after_event}
use Rattle.tss_program_order.specs.MainInOrder.{IsCutOff, steps_taken, flat_beside}
use Rattle.tss_program_order.proofs.FlatOrder.{trapped_next, started_at-by, flat_stepped-ended}
use Rattle.tss_names.proofs.SpawnLemmas.{IsNext-spawn_of}
use Rattle.tss_values.proofs.MainEndings.{EndsItself, no_task_trap}
use Rattle.tss_values.proofs.NamingLemmas.{done_taken}
use Rattle.tss_values.proofs.Values.{IsInside}

-- ---- what becomes of the round

-- it stays, with the inbox
pub record RoundStays (ts us : List Task) (S T : State) : Type 0 where
  pub list : us ≡ ts
  pub inbox : T.inbox ≡ S.inbox

-- it has one more task, which main has put into the empty inbox
pub record RoundGrows (ts us : List Task) (S T : State) : Type 0 where
  pub task : Task
  pub list : us ≡ ts ++ task ∷ []
  pub empty : S.inbox ≡ None
  pub inbox : T.inbox ≡ Some task
  pub number : task.number ≡ suc S.main.spawned
  pub home : T.home ≡ S.home

-- or it is over, in a drained state
pub record RoundEnds (us : List Task) (S T : State) : Type 0 where
  pub list : us ≡ []
  pub drained : is_drained S ≡ true
  pub inbox : T.inbox ≡ S.inbox

-- one of these
abbrev pub RoundGoesOn : List Task → List Task → State → State → Type 0
RoundGoesOn ts us S T = RoundStays ts us S T ⊎ (RoundGrows ts us S T ⊎ RoundEnds us S T)

no_inbox : (o : Option Task) → is_none o ≡ true → o ≡ None
no_inbox None e = refl
no_inbox (Some t) e = absurd (cc)

-- an address that an object covers lies in it
pub covers_inside : (x : Range) (a : ℕ) → covers x a ≡ true → IsInside x a
covers_inside x a e =
    let p = and_parts (nat_le x.base a) (nat_lt a (end_of x)) e in
    (leb-true x.base a p.0, ltb-true a (end_of x) p.1)

module _ (m : Machine) (ts : List Task) (S : State) where
  goes_on_spawn : (r : Result Task ℕ)
      → spawn_of (spawn_call S.main.registers) S.home S.main.epoch m.limits S.main.spawned ≡ r
      → S.inbox ≡ None
      → RoundGoesOn ts (ts ++ option_to_list (spawn_on S.main r).1) S (after_call S (spawn_on S.main r))
  goes_on_spawn (Err n) e empty = inl (record { list = append-nil ts; inbox = refl })
  goes_on_spawn (Ok t) e empty = inr (inl (record {
    task = t;
    list = refl;
    empty = empty;
    inbox = refl;
    number = (IsNext-spawn_of (spawn_call S.main.registers) S.home S.main.epoch m.limits S.main.spawned t e).number;
    home = refl;
  }))

  goes_on_call : (c : Option Call) → may_call S c ≡ true → RoundGoesOn ts (round_after_main m S ts c) S (main_by m S c)
  goes_on_call (Some Spawn) may =
      goes_on_spawn (spawn_of (spawn_call S.main.registers) S.home S.main.epoch m.limits S.main.spawned) refl
      (no_inbox S.inbox may)
  goes_on_call (Some Barrier) may = inr (inr (record { list = refl; drained = may; inbox = refl }))
  goes_on_call other may = inl (record { list = refl; inbox = refl })

  -- after main's event
  pub round_goes_on : IsEnabled m S event.Main
      → RoundGoesOn ts (round_after_event m S ts event.Main) S (after_event m S event.Main)
  unfolding after_event is_enabled
  round_goes_on on =
      goes_on_call (call_next m S)
      (and_parts (is_none S.main.ending && is_none S.trap) (may_call S (call_next m S)) on).1

-- where program order is cut off main doesn't stand in it
pub cut_off_apart : (i : ImageState) (m : Machine) (s : MainState) → EndsItself s → IsCutOff i m.limits s
    → s ≡ (flat_beside i m.limits s).main → ⊥
cut_off_apart i m s own cut same =
    let ending = trapped_next i m.limits cut.place cut.started cut.trap
    (started_at-by i m.limits cut.place cut.started cut.start) cut.trapped in
    let done = done_taken s in
    let count : steps_taken s ≡ suc cut.place + (steps_taken s - suc cut.place) = omega (arith, done, cut.before) in
    no_task_trap s own cut.started.task.number cut.trap
    (ap (λ (x : MainState). x.ending) same
    ∙ ap (λ l. (flat_stepped i m.limits l).main.ending) count
    ∙ ap (λ (f : Flat). f.main.ending)
    (flat_stepped-ended i m.limits (suc cut.place) (steps_taken s - suc cut.place) (ap is_some ending))
    ∙ ending)
