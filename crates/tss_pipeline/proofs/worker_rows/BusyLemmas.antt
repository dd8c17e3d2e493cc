-- What is known of a busy worker of the units.
use Rattle.std.proofs.Common.{◌≡◌, ℕ, zero, suc, ◌<◌, ◌≤◌, Bool, true, false, true≢false, List, [], ◌∷◌, length, take, Option, Some, None, option_map, refl, sym, ap, ◌∙◌, subst, arith}
use Rattle.std.specs.FinMap.{get, remove}
use Rattle.std.proofs.lemmas.Option.{none-some, same_Some}
use Rattle.std.proofs.lemmas.List.{length-map}
use Rattle.tss_base.specs.declared.bounds.TheConstants.{MAX_OPERANDS}
use Rattle.tss_base.specs.declared.machine.Machine.{Machine}
use Rattle.tss_base.specs.declared.machine.Key.TheVariants as key
use Rattle.tss_base.specs.declared.event.Event.TheVariants as event
use Rattle.tss_base.specs.Names.{Numbered}
use Rattle.tss_maps.proofs.MappedLemmas.{get-mapped}
use Rattle.tss_protocol.specs.Mail.{Mail, posted_all}
use Rattle.tss_protocol.specs.State.{State, Busy, Flying, HeldTrap}
use Rattle.tss_protocol.specs.Stations.{flight_after_finish}
use Rattle.tss_protocol.specs.Workers.{can_exec, can_finish, trap_after_finish}
use Rattle.tss_protocol.specs.UnitMachine.{is_enabled, after_event, after_finish}
use Rattle.tss_protocol.specs.Counts.{message_limit}
use Rattle.tss_stations.specs.declared.slot.Slot.{Slot}
use Rattle.tss_stations.specs.Views.{state_of, flying_of, flight_of}
use Rattle.tss_mail.specs.Letters.{mail_of}
use Rattle.tss_workers.specs.declared.running.Worker.{Worker}
use Rattle.tss_workers.specs.declared.workers.Finished.{Finished}
use Rattle.tss_workers.specs.Seen.{busy_of}
use Rattle.tss_conditions.specs.Posting.{MayPostAll, finish_sends}
use Rattle.tss_conditions.specs.Running.{IsRunning}
use Rattle.tss_conditions.proofs.Running.{is_running}
use Rattle.tss_conditions.proofs.Posting.{may_post}
use Rattle.tss_pipeline.specs.declared.units.Units.{Units}
use Rattle.tss_pipeline.specs.Does.{May}
use Rattle.tss_pipeline.specs.Fit.{IsFit}
use Rattle.tss_pipeline.specs.State as pipeline

-- a test that passes doesn't fail
pub passes_not : (b : Bool) → b ≡ true → b ≡ false → ⊥
passes_not b on off = true≢false (sym on ∙ off)

-- ---- which worker is busy

finish_busy : (o : Option Worker) → can_finish (option_map busy_of o) ≡ true → (x : Worker) × (o ≡ Some x)
finish_busy None on = absurd (true≢false (sym on))
finish_busy (Some x) on = (x, refl)

exec_busy : (o : Option Worker) → can_exec (option_map busy_of o) ≡ true → (x : Worker) × (o ≡ Some x)
exec_busy None on = absurd (true≢false (sym on))
exec_busy (Some x) on = (x, refl)

-- what finish tells of it
abbrev pub ended : Worker → Finished
ended x = record { task = x.task.number; trap = x.trap }

pub ended_is : (o : Option Worker) (x : Worker) (f : Finished) → o ≡ Some x → option_map ended o ≡ Some f → ended x ≡ f
ended_is o x f there e = same_Some (ended x) f (ap (option_map ended) (sym there) ∙ e)

-- ---- how many operands

take_short : {X : Type 0} (n : ℕ) (xs : List X) → length (take n xs) ≤ n
take_short zero xs = omega arith
take_short (suc n) [] = omega arith
take_short (suc n) (x ∷ xs) = let less = take_short n xs in omega (arith, less)

flying_short : (s : Slot) → length (flying_of s).operands ≤ (flying_of s).task.count
flying_short s =
    let same = length-map (take s.task.count s.operands) state_of in
    let less = take_short s.task.count s.operands in
    omega (arith, same, less)

short_in : (o : Option Slot) (y : Flying) → option_map flying_of o ≡ Some y → length y.operands ≤ y.task.count
short_in None y e = absurd (none-some y e)
short_in (Some s) y e = subst (λ (y : Flying). length y.operands ≤ y.task.count) (same_Some (flying_of s) y e)
    (flying_short s)

-- a task in flight has records for at most the operands that it counts
pub few_records : (slots : Numbered Slot) (n : ℕ) (y : Flying) → get (flight_of slots) n ≡ Some y
    → length y.operands ≤ y.task.count
few_records slots n y e = short_in (get slots n) y (sym (get-mapped flying_of slots n) ∙ e)

module _ (u : Units) (fit : IsFit u) (w : ℕ) where
  -- exec and finish may happen where the worker is busy
  pub finish_test : May (event.Finish w) u → can_finish (option_map busy_of (get u.workers.entries w)) ≡ true
  unfolding is_enabled
  finish_test may = ap can_finish (sym (get-mapped busy_of u.workers.entries w)) ∙ may

  pub exec_test : May (event.Exec w) u → can_exec (option_map busy_of (get u.workers.entries w)) ≡ true
  unfolding is_enabled
  exec_test may = ap can_exec (sym (get-mapped busy_of u.workers.entries w)) ∙ may

  pub finish_worker : May (event.Finish w) u → (x : Worker) × (get u.workers.entries w ≡ Some x)
  finish_worker may = finish_busy (get u.workers.entries w) (finish_test may)

  pub exec_worker : May (event.Exec w) u → (x : Worker) × (get u.workers.entries w ≡ Some x)
  exec_worker may = exec_busy (get u.workers.entries w) (exec_test may)

  module _ (x : Worker) (there : get u.workers.entries w ≡ Some x) where
    -- what the definitions have there
    pub busy_there : get (pipeline.state_of u).workers w ≡ Some (busy_of x)
    busy_there = get-mapped busy_of u.workers.entries w ∙ ap (option_map busy_of) there

    pub runs : IsRunning u.machine (pipeline.state_of u) w (busy_of x)
    runs = is_running u.machine fit.reached.image (pipeline.state_of u) w (busy_of x) fit.reached.reached busy_there

    pub worker_within : w < u.workers.size
    worker_within = subst (λ n. w < n) (sym fit.sized.workers) runs.worker

    -- it has no more operands than a task may have
    pub few_operands : x.task.count ≤ MAX_OPERANDS
    few_operands =
        let few = runs.may.proper.few in
        let most = (fit.reached.reached.admissible.limits key.MaxOperands u.machine.limits.max_operands refl).1 in
        omega (arith, few, most)

    pub few_in_flight : (y : Flying) → get (flight_of u.stations.slots) x.task.number ≡ Some y
        → length y.operands ≤ MAX_OPERANDS
    few_in_flight y at =
        let short = few_records u.stations.slots x.task.number y at in
        let same : y ≡ runs.flying = same_Some y runs.flying (sym at ∙ runs.there) in
        let count = ap (λ (y : Flying). y.task.count) same ∙ ap (λ t. t.count) runs.task in
        let few = few_operands in
        omega (arith, short, count, few)

    -- its releases may be posted
    pub may_release : May (event.Finish w) u → MayPostAll u.mail.size (mail_of u.mail)
        (flight_after_finish (flight_of u.stations.slots) x.task.number).sent
    may_release may =
        let post = may_post u.machine fit.reached.image (pipeline.state_of u) (event.Finish w) fit.reached.reached
        may in
        let sent = ap (finish_sends (pipeline.state_of u)) busy_there in
        subst (λ n. MayPostAll n (mail_of u.mail) (flight_after_finish (flight_of u.stations.slots) x.task.number).sent)
        (sym fit.sized.mail)
        (subst (MayPostAll (message_limit u.machine) (mail_of u.mail)) sent
        (record { fresh = post.fresh; room = post.room }))

-- the definitions' state after a finish
pub finished_state : (m : Machine) (S : State) (w : ℕ) (b : Busy) → get S.workers w ≡ Some b
    → (flight : Numbered Flying) (workers : Numbered Busy) (mail : Mail) (trap : Option HeldTrap)
    → flight ≡ (flight_after_finish S.flight b.task.number).part
    → workers ≡ remove S.workers w
    → mail ≡ posted_all S.mail (flight_after_finish S.flight b.task.number).sent
    → trap ≡ trap_after_finish S.trap b.task.number b.trap
    → record S { flight = flight; workers = workers; mail = mail; trap = trap } ≡ after_event m S (event.Finish w)
unfolding after_event
finished_state m S w b busy flight workers mail trap f s n t =
    (λ i. record S { flight = f i; workers = s i; mail = n i; trap = t i }) ∙ ap (after_finish S w) (sym busy)
