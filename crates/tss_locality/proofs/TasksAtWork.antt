-- What holds of each worker's task holds after every event, where it holds of each task in flight.
use Rattle.std.proofs.Common.{◌≡◌, ℕ, List, [], ◌∷◌, Option, Some, None, refl, sym, ap, ◌∙◌, subst, inl, inr}
use Rattle.std.specs.FinMap.{get, insert, get-empty}
use Rattle.std.specs.Ordering.{nat_cmp}
use Rattle.std.proofs.lemmas.Option.{none-some}
use Rattle.tss_base.specs.declared.operand.Task.{Task}
use Rattle.tss_base.specs.declared.machine.Machine.{Machine}
use Rattle.tss_base.specs.declared.event.Event.{Event}
use Rattle.tss_base.specs.declared.event.Event.TheVariants as event
use Rattle.tss_base.specs.Names.{Numbered}
use Rattle.tss_base.specs.Image.{ImageState}
use Rattle.tss_maps.proofs.Keys.{nat_order}
use Rattle.tss_maps.proofs.Changes.{from_inserted, from_removed}
use Rattle.tss_protocol.specs.State.{Flying, Busy, State, initial_state}
use Rattle.tss_protocol.specs.Workers.{busy_at_start, exec_stretch, busy_after}
use Rattle.tss_protocol.specs.UnitMachine.{stores_of, start_task, after_start, after_exec, after_finish, after_event}
use Rattle.tss_locality.proofs.LeftFields.{Leaves-after_event}

-- this holds of each worker's task
abbrev pub AllBusy : (Task → Type 0) → Numbered Busy → Type 0
AllBusy Q workers = (w : ℕ) (b : Busy) → get workers w ≡ Some b → Q b.task

-- no worker is busy at first
pub AllBusy-initial_state : (Q : Task → Type 0) (i : ImageState) → AllBusy Q (initial_state i).workers
AllBusy-initial_state Q i w b e = absurd (none-some b (sym (get-empty nat_cmp w) ∙ e))

module _ (Q : Task → Type 0) (m : Machine) (S : State) (all : AllBusy Q S.workers)
    (flying : (n : ℕ) (x : Flying) → get S.flight n ≡ Some x → Q x.task) where
  busy_put : (w : ℕ) (b : Busy) → Q b.task → AllBusy Q (insert S.workers w b)
  busy_put w b p q x e = elim (from_inserted nat_order S.workers w b q x e) [
    | inl new ↦ subst (λ (b : Busy). Q b.task) (sym new.1) p
    | inr old ↦ all q x old.1
  ]

  start_task_busy : (w t : ℕ) (ts : List ℕ) (x : Option Flying) → get S.flight t ≡ x →
      AllBusy Q (start_task m S w t ts x).workers
  start_task_busy w t ts None there = all
  start_task_busy w t ts (Some x) there = busy_put w (busy_at_start x) (flying t x there)

  start_busy : (w : ℕ) (queue : List ℕ) → AllBusy Q (after_start m S w queue).workers
  start_busy w [] = all
  start_busy w (t ∷ ts) = start_task_busy w t ts (get S.flight t) refl

  exec_busy : (w : ℕ) (b : Option Busy) → get S.workers w ≡ b → AllBusy Q (after_exec m S w b).workers
  exec_busy w None there = all
  exec_busy w (Some b) there =
      busy_put w (busy_after b (exec_stretch S.code m.limits m.sizes.quantum b (stores_of S))) (all w b there)

  finish_busy : (w : ℕ) (b : Option Busy) → AllBusy Q (after_finish S w b).workers
  finish_busy w None q x e = all q x e
  finish_busy w (Some b) q x e = all q x (from_removed nat_order S.workers w q x e).1

  same_busy : (T : State) → T.workers ≡ S.workers → AllBusy Q T.workers
  same_busy T same w b e = all w b (ap (λ c. get c w) (sym same) ∙ e)

  -- after every event
  pub AllBusy-after_event : (e : Event) → AllBusy Q (after_event m S e).workers
  unfolding after_event
  AllBusy-after_event (event.Start w) = start_busy w S.queue
  AllBusy-after_event (event.Exec w) = exec_busy w (get S.workers w) refl
  AllBusy-after_event (event.Finish w) = finish_busy w (get S.workers w)
  AllBusy-after_event e = same_busy (after_event m S e) (λ i. (Leaves-after_event m S e i).workers)
