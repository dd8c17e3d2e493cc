-- Main stays in program order, and each task of program order is the one of its number that main has spawned.
use Rattle.std.proofs.Common.{◌≡◌, ◌⊎◌, inl, inr, ℕ, suc, ◌+◌, ◌<◌, Bool, true, false, List, [], ◌∷◌, length, Option}
use Rattle.std.proofs.Common.{Some, None, refl, sym, ap, subst, ◌∙◌, arith}
use Rattle.std.specs.Prelude.{cond, ◌==◌, nat_le}
use Rattle.std.proofs.lemmas.Bool.{and_from, or_left, or_right, both_ways, cases_order, le-leb, lt-ltb, eqb-true}
use Rattle.std.proofs.lemmas.Option.{none-some, same_Some}
use Rattle.tss_base.specs.declared.range.Range.{Range}
use Rattle.tss_base.specs.declared.operand.Task.{Task}
use Rattle.tss_base.specs.declared.machine.Machine.{Machine}
use Rattle.tss_base.specs.declared.event.Event.{Event}
use Rattle.tss_base.specs.declared.event.Event.TheVariants as event
use Rattle.tss_base.specs.Image.{ImageState}
use Rattle.tss_model.specs.Access.{Loads, touches}
use Rattle.tss_model.specs.InOrder.{Started, started_at, started_in}
use Rattle.tss_model.specs.MainStep.{MainState}
use Rattle.tss_model.specs.Spawn.{same_range}
use Rattle.tss_protocol.specs.State.{State}
use Rattle.tss_protocol.specs.UnitMachine.{IsEnabled, after_event}
use Rattle.tss_protocol.specs.MainEvent.{call_next}
use Rattle.tss_locality.specs.Rounds.{IsIn}
use Rattle.tss_names.specs.Tasks.{task_at, spawned_by_main, spawned_after_event}
use Rattle.tss_program_order.specs.MainInOrder.{MayLoad, FollowsInOrder, IsCutOff, flat_beside, started_next}
use Rattle.tss_program_order.specs.MainInOrder.{inbox_with}
use Rattle.tss_program_order.proofs.FlatLoads.{byte_range, main_granted}
use Rattle.tss_program_order.proofs.FlatNames.{Has, same_range-refl, covers-touch}
use Rattle.tss_program_order.proofs.FlatNumbers.{one_place, numbers_rise}
use Rattle.tss_program_order.proofs.FlatOrder.{trapped_after}
use Rattle.tss_program_order.proofs.FlatPieces.{NoneAfter}
use Rattle.tss_program_order.proofs.MainEvent.{main_on-enabled, follows_main, main_rises, cut_off_rises}
use Rattle.tss_program_order.proofs.RunKeeps.{HasGround, is_main, after_event-kept}
use Rattle.tss_names.proofs.SpawnLemmas.{SpawnsAtMostOne, SpawnsOne, spawns_main}
use Rattle.tss_values.proofs.Values.{Starts, HasHome, HasMain, IsInside, IsUnclaimed}
use Rattle.tss_control.proofs.rounds.Facts.{Basis}

-- a member of a list is had by it
pub in_has : (x : Range) (xs : List Range) → IsIn x xs → Has xs x
in_has x [] none = absurd none
in_has x (y ∷ ys) (inl same) =
    or_left (same_range x y) _ (subst (λ z. same_range x z ≡ true) (sym same) (same_range-refl x))
in_has x (y ∷ ys) (inr later) = or_right (same_range x y) _ (in_has x ys later)

module _ (m : Machine) (i : ImageState) (S : State) (basis : Basis m S) (code : HasGround i S)
    (few : NoneAfter S.main.spawned S.main.pieces) (home : HasHome m i basis.ts S)
    (main : HasMain m i basis.all S) where
  open basis use {all, ts, ground}

  -- ---- main in program order

  -- main may load at no address of a named object
  unloaded : (a : ℕ) → MayLoad S.home.ranges S.main.epoch a → (x : Range) → IsIn x S.main.epoch → IsInside x a → ⊥
  unloaded a may x named inside =
      both_ways (touches S.main.epoch (byte_range a))
      (main_granted S.home.ranges S.main.epoch Loads (byte_range a) may).1
      (covers-touch S.main.epoch x a (in_has x S.main.epoch named)
      (and_from (nat_le x.base a) _ (le-leb x.base a inside.0) (lt-ltb a (x.base + x.len) inside.1)))

  -- so nobody claims where it may
  unclaimed : (a : ℕ) → MayLoad S.home.ranges S.main.epoch a → IsUnclaimed S a
  unclaimed a may = record {
    entered = λ b e at. unloaded a may e.object (ground.round.named.entered b e at);
    arriving = λ t at j p of. unloaded a may p.object (ground.round.named.arriving t at j p of);
    decoding = λ o p at. unloaded a may p.object (ground.round.named.decoding o p at);
  }

  -- and it has the bytes of program order there
  pub follows_home : S.main ≡ (flat_beside i m.limits S.main).main → FollowsInOrder m i S
  follows_home same = record { main = same; home = λ a may. home.beside a same (unclaimed a may) }

  -- what is said of main
  abbrev IsInOrder : MainState → Type 0
  IsInOrder s = (s ≡ (flat_beside i m.limits s).main) ⊎ IsCutOff i m.limits s

  -- main's event leaves it in program order
  follows-main : IsEnabled m S event.Main → IsInOrder (after_event m S event.Main).main
  follows-main on = by main.follows
    where
      by : IsInOrder S.main → IsInOrder (after_event m S event.Main).main
      by (inl same) = (follows_main m i S code (main_on-enabled m S on) (follows_home same) few).main
      by (inr cut) = inr (cut_off_rises i m.limits S.main (after_event m S event.Main).main (main_rises m S) cut)

  -- the others leave main alone
  follows-other : (e : Event) → is_main e ≡ false → IsInOrder (after_event m S e).main
  follows-other e other = subst IsInOrder (sym (after_event-kept m S e other).main) main.follows

  -- every event does
  pub follows-after_event : (e : Event) → IsEnabled m S e → IsInOrder (after_event m S e).main
  follows-after_event event.Main on = follows-main on
  follows-after_event e on = follows-other e refl

  -- ---- the tasks of program order

  -- of a number, each task of program order is the spawned one
  abbrev AreSame : List Task → Type 0
  AreSame us = (n : ℕ) (t : Task) (s : Started) → task_at us n ≡ Some t → Starts m i n s → s.task ≡ t

  -- once program order is cut off it starts no later task
  pub none_later : IsCutOff i m.limits S.main → (n : ℕ) → S.main.spawned < n → (s : Started) → Starts m i n s → ⊥
  none_later cut n later s starts = by (cases_order cut.place starts.0)
    where
      number : cut.started.task.number < s.task.number
      number = omega (arith, cut.number, later, starts.2)

      by : (cut.place ≡ starts.0) ⊎ ((cut.place < starts.0) ⊎ (starts.0 < cut.place)) → ⊥
      by (inl here) =
          let one = same_Some cut.started s (sym cut.start ∙ ap (started_at i m.limits) here ∙ starts.1) in
          let same = ap (λ (x : Started). x.task.number) one in
          omega (arith, same, number)
      by (inr (inl before)) =
          none-some s
          (sym (ap (started_in _ m.limits)
          (trapped_after i m.limits cut.place cut.started cut.trap starts.0 cut.start cut.trapped before)) ∙ starts.1)
      by (inr (inr after)) =
          let less = numbers_rise i m.limits starts.0 cut.place s cut.started starts.1 cut.start after in
          omega (arith, less, number)

  -- the task that main spawns is that of program order
  spawned_same : IsEnabled m S event.Main → (us : List Task) (q : SpawnsOne m all us S (after_event m S event.Main))
      → (n : ℕ) → n ≡ suc S.main.spawned → (s : Started) → Starts m i n s → s.task ≡ q.task
  spawned_same on us q n number s starts = by main.follows
    where
      by_start : S.main ≡ (flat_beside i m.limits S.main).main → (o : Option Started) → started_next m i S ≡ o
          → Some (q.task) ≡ inbox_with o S.inbox → s.task ≡ q.task
      by_start same None e box = absurd (none-some q.task (sym (box ∙ q.empty)))
      by_start same (Some z) e box =
          let is = same_Some q.task z.task box in
          let place = one_place i m.limits starts.0 S.main.registers.done s z starts.1 e
          (starts.2 ∙ number ∙ sym q.next.number ∙ ap (λ (t : Task). t.number) is) in
          let one = same_Some s z (sym starts.1 ∙ ap (started_at i m.limits) place ∙ e) in
          ap (λ (x : Started). x.task) one ∙ sym is

      by : IsInOrder S.main → s.task ≡ q.task
      by (inl same) =
          by_start same (started_next m i S) refl
          (sym (ap (λ f. f.inbox) q.front)
          ∙ (follows_main m i S code (main_on-enabled m S on) (follows_home same) few).inbox)
      by (inr cut) = absurd (none_later cut n (omega (arith, number)) s starts)

  same-spawned : IsEnabled m S event.Main → (us : List Task) → SpawnsAtMostOne m all us S (after_event m S event.Main)
      → AreSame us
  same-spawned on us (inl q) = subst AreSame (sym q.list) main.same
  same-spawned on us (inr q) = subst AreSame (sym q.list) more
    where
      more : AreSame (q.task ∷ all)
      more n t s e starts = by (n == suc (length all)) refl e
        where
          by : (b : Bool) → (n == suc (length all)) ≡ b → cond b (Some (q.task)) (task_at all n) ≡ Some t → s.task ≡ t
          by true here e =
              let number = eqb-true n (suc (length all)) here ∙ ap suc (sym ground.numbers.spawned) in
              spawned_same on us q n number s starts ∙ same_Some q.task t e
          by false other e = main.same n t s e starts

  -- every event leaves them so
  pub same-after_event : (e : Event) → IsEnabled m S e → AreSame (spawned_after_event m S all e)
  same-after_event event.Main on =
      same-spawned on (spawned_by_main m S all (call_next m S)) (spawns_main m all S on)
  same-after_event e on = main.same
