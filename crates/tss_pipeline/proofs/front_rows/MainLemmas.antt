-- Main's event: a stretch, or a call and the task that it spawns.
use Rattle.std.proofs.Common.{◌≡◌, ℕ, Bool, true, false, Option, Some, None, option_map, refl, sym, ap, ◌∙◌, true≢false}
use Rattle.std.specs.Prelude.{◌&&◌, is_none}
use Rattle.std.specs.Option.{is_some, IfSome}
use Rattle.std.proofs.lemmas.Option.{none-some}
use Rattle.tss_base.specs.declared.operand.Task.{Task}
use Rattle.tss_base.specs.declared.event.Event.TheVariants as event
use Rattle.tss_model.specs.Memory.{Memory}
use Rattle.tss_model.specs.Registers.{register_at}
use Rattle.tss_model.specs.MainStep.{Call, ExitCall, Spawn, Barrier, Print, Await, Unknown, MainState, call_of, main_call, main_stretch, next_call}
use Rattle.tss_protocol.specs.MainEvent as protocol
use Rattle.tss_protocol.specs.UnitMachine.{is_enabled, after_event}
use Rattle.tss_steps.specs.Limited.{LimitedMain, flat_of}
use Rattle.tss_gateway.specs.Seen.{GatewayState}
use Rattle.tss_pipeline.specs.declared.units.Units.{Units}
use Rattle.tss_pipeline.specs.State.{state_of}
use Rattle.tss_pipeline.specs.Fit.{AreSized, IsFit}
use Rattle.tss_pipeline.specs.Does.{May, Does}
use Rattle.tss_pipeline.proofs.places.Grounds.{does_elsewhere}

last_true : (a b c : Bool) → (a && b && c) ≡ true → c ≡ true
last_true true true c e = e
last_true true false c e = absurd (true≢false (sym e))
last_true false b c e = absurd (true≢false (sym e))

none_there : {X : Type 0} (x : Option X) → is_none x ≡ true → x ≡ None
none_there None e = refl
none_there (Some x) e = absurd (true≢false (sym e))

no_call : (number : Option ℕ) → is_some number ≡ false → option_map call_of number ≡ None
no_call None e = refl
no_call (Some n) e = absurd (true≢false e)

some_call : (number : Option ℕ) (r : ℕ) → is_some number ≡ true → IfSome number (λ n. n ≡ r)
    → option_map call_of number ≡ Some (call_of r)
some_call None r e is = absurd (true≢false (sym e))
some_call (Some n) r e is = ap (λ n. Some (call_of n)) is

module _ (u : Units) (fit : IsFit u) (may : May event.Main u) (number : Option ℕ)
    (next : (memory : Memory) → option_map call_of number ≡ next_call u.code u.main.limits (flat_of u.main memory)) where
  call_is : option_map call_of number ≡ protocol.call_next u.machine (state_of u)
  call_is = next u.space ∙ ap (λ l. next_call u.code l (flat_of u.main u.space)) fit.sized.limits

  sized : (main : LimitedMain) → main.limits ≡ u.main.limits → (gateway : GatewayState)
      → gateway.window ≡ u.gateway.window → (space : Memory)
      → AreSized (record u { main = main; gateway = gateway; space = space })
  sized main limits gateway window space = record {
    limits = limits ∙ fit.sized.limits;
    window = window ∙ fit.sized.window;
    stations = fit.sized.stations;
    queue = fit.sized.queue;
    workers = fit.sized.workers;
    mail = fit.sized.mail;
    banks = fit.sized.banks;
    buffer_banks = fit.sized.buffer_banks;
    buffers = fit.sized.buffers;
    object_bytes = fit.sized.object_bytes;
  }

  -- ---- a stretch

  module _ (none : is_some number ≡ false) (main : LimitedMain) (space : Memory)
      (exact : flat_of main space
      ≡ main_stretch u.code u.main.limits u.machine.sizes.quantum (flat_of u.main u.space))
      (limits : main.limits ≡ u.main.limits) where
    after_stretch : state_of (record u { main = main; space = space })
        ≡ protocol.after_main u.machine (state_of u)
    after_stretch =
        ap (protocol.with_flat (state_of u))
        (exact ∙ ap (λ l. main_stretch u.code l u.machine.sizes.quantum (flat_of u.main u.space)) fit.sized.limits)
        ∙ ap (protocol.main_by u.machine (state_of u)) (sym (no_call number none) ∙ call_is)

    stretch_event : state_of (record u { main = main; space = space })
        ≡ after_event u.machine (state_of u) event.Main
    unfolding after_event
    stretch_event = after_stretch

    pub does_stretch : Does event.Main u (record u { main = main; space = space })
    does_stretch =
        does_elsewhere event.Main u (record u { main = main; space = space }) fit may refl stretch_event
        (sized main limits u.gateway refl space) refl

  -- ---- a call

  module _ (some : is_some number ≡ true)
      (is : IfSome number (λ n. n ≡ register_at u.main.main.registers 17)) (main : LimitedMain) (task : Option Task)
      (exact : (main.main, task)
      ≡ main_call u.main.limits u.space u.main.main (call_of (register_at u.main.main.registers 17)))
      (limits : main.limits ≡ u.main.limits) where
    calls : protocol.call_next u.machine (state_of u) ≡ Some (call_of (register_at u.main.main.registers 17))
    calls = sym call_is ∙ some_call number (register_at u.main.main.registers 17) some is

    after_call : protocol.after_call (state_of u) (main.main, task)
        ≡ protocol.after_main u.machine (state_of u)
    after_call =
        ap (protocol.after_call (state_of u))
        (exact
        ∙ ap (λ l. main_call l u.space u.main.main (call_of (register_at u.main.main.registers 17))) fit.sized.limits)
        ∙ ap (protocol.main_by u.machine (state_of u)) (sym calls)

    may_main : protocol.can_main u.machine (state_of u) ≡ true
    unfolding is_enabled
    may_main = may

    may_call : protocol.may_call (state_of u) (Some (call_of (register_at u.main.main.registers 17))) ≡ true
    may_call =
        ap (protocol.may_call (state_of u)) (sym calls)
        ∙ last_true (is_none u.main.main.ending) (is_none (state_of u).trap)
        (protocol.may_call (state_of u) (protocol.call_next u.machine (state_of u))) may_main

    call_event : (new : Units) → state_of new ≡ protocol.after_call (state_of u) (main.main, task)
        → state_of new ≡ after_event u.machine (state_of u) event.Main
    unfolding after_event
    call_event new e = e ∙ after_call

    -- no task is spawned
    pub does_call : task ≡ None → Does event.Main u (record u { main = main })
    does_call none =
        does_elsewhere event.Main u (record u { main = main }) fit may refl
        (call_event (record u { main = main })
        (ap (λ t. protocol.after_call (state_of u) (main.main, t)) (sym none)))
        (sized main limits u.gateway refl u.space) refl

    -- one is spawned, and goes to the inbox
    module _ (t : Task) (spawned : task ≡ Some t) where
      inbox_by : (call : Call) → (main.main, task) ≡ main_call u.main.limits u.space u.main.main call
          → protocol.may_call (state_of u) (Some call) ≡ true → u.gateway.inbox ≡ None
      inbox_by ExitCall e m = absurd (none-some t (sym (ap (λ (p : MainState × Option Task). p.1) e) ∙ spawned))
      inbox_by Spawn e m = none_there u.gateway.inbox m
      inbox_by Barrier e m = absurd (none-some t (sym (ap (λ (p : MainState × Option Task). p.1) e) ∙ spawned))
      inbox_by Print e m = absurd (none-some t (sym (ap (λ (p : MainState × Option Task). p.1) e) ∙ spawned))
      inbox_by Await e m = absurd (none-some t (sym (ap (λ (p : MainState × Option Task). p.1) e) ∙ spawned))
      inbox_by (Unknown n) e m = absurd (none-some t (sym (ap (λ (p : MainState × Option Task). p.1) e) ∙ spawned))

      pub inbox_empty : u.gateway.inbox ≡ None
      inbox_empty = inbox_by (call_of (register_at u.main.main.registers 17)) exact may_call

      pub does_spawn : (gateway : GatewayState) → gateway ≡ record (u.gateway) { inbox = Some t }
          → Does event.Main u (record u { main = main; gateway = gateway })
      does_spawn gateway accepted =
          does_elsewhere event.Main u (record u { main = main; gateway = gateway }) fit may refl
          (call_event (record u { main = main; gateway = gateway })
          ((λ i. state_of (record u { main = main; gateway = accepted i }))
          ∙ ap (λ t. protocol.after_call (state_of u) (main.main, t)) (sym spawned)))
          (sized main limits gateway (ap (λ (g : GatewayState). g.window) accepted) u.space) refl
