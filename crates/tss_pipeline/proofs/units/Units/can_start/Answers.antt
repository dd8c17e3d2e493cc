-- A task may start where the worker is idle and a task is queued.
use Rattle.std.proofs.Common.{◌≡◌, ℕ, suc, arith, List, [], ◌∷◌, length, Bool, true, false, ◌&&◌, nat_lt, Option, Some, None, option_map, refl, sym, ap, ◌∙◌}
use Rattle.std.specs.Prelude.{is_none}
use Rattle.std.proofs.lemmas.Bool.Decides.{nat_tests}
use Rattle.std.specs.FinMap.{get}
use Rattle.tss_maps.proofs.MappedLemmas.{get-mapped}
use Rattle.tss_workers.specs.Seen.{busy_of}
use Rattle.tss_protocol.specs.State.{Busy}
use Rattle.tss_protocol.specs.Workers.{can_start}
use Rattle.tss_protocol.specs.UnitMachine.{is_enabled}
use Rattle.tss_pipeline.proofs.units.Units.can_start.Goals as goal

-- a worker of which the definitions know less is idle as well
none_of : {X Y : Type 0} (f : X → Y) (o : Option X) → is_none o ≡ is_none (option_map f o)
none_of f None = refl
none_of f (Some x) = refl

positive : (n : ℕ) → true ≡ nat_lt 0 (suc n)
positive n = grind (arith, nat_tests)

queued : (n w : ℕ) (busy : Option Busy) (q : List ℕ) (b : Bool) → b ≡ (nat_lt w n && is_none busy) → b ≡ true
    → nat_lt 0 (length q) ≡ can_start n w busy q
queued n w busy [] b is on = refl
queued n w busy (t ∷ ts) b is on = sym (positive (length ts)) ∙ sym on ∙ is

idle : (n w : ℕ) (busy : Option Busy) (q : List ℕ) (b : Bool) → b ≡ (nat_lt w n && is_none busy) → b ≡ false
    → b ≡ can_start n w busy q
idle n w busy [] b is off = off
idle n w busy (t ∷ ts) b is off = is

pub returns-then-is_free : goal.returns-then-is_free
unfolding is_enabled
returns-then-is_free c =
    let u = c.args.self.now in
    let w = c.args.w in
    ap (nat_lt 0) c.len.ensures
    ∙ queued u.machine.sizes.workers w (option_map busy_of (get u.workers.entries w)) u.queue.tasks c.is_free.result
    (c.is_free.ensures ∙ ap (λ b. nat_lt w u.machine.sizes.workers && b) (none_of busy_of (get u.workers.entries w)))
    c.if-is_free.true
    ∙ ap (λ o. can_start u.machine.sizes.workers w o u.queue.tasks) (sym (get-mapped busy_of u.workers.entries w))

pub returns-else-is_free : goal.returns-else-is_free
unfolding is_enabled
returns-else-is_free c =
    let u = c.args.self.now in
    let w = c.args.w in
    idle u.machine.sizes.workers w (option_map busy_of (get u.workers.entries w)) u.queue.tasks c.is_free.result
    (c.is_free.ensures ∙ ap (λ b. nat_lt w u.machine.sizes.workers && b) (none_of busy_of (get u.workers.entries w)))
    c.if-is_free.false
    ∙ ap (λ o. can_start u.machine.sizes.workers w o u.queue.tasks) (sym (get-mapped busy_of u.workers.entries w))
