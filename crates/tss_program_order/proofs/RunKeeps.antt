-- What each event of the unit machine keeps, every run keeps: the code and the ranges of memory are those of the image.
use Rattle.std.proofs.Common.{◌≡◌, ◌⊎◌, inl, inr, ℕ, Bool, true, false, Option, Some, None, List, [], ◌∷◌, refl, sym}
use Rattle.std.proofs.Common.{ap, subst, ◌∙◌, nat_le}
use Rattle.std.specs.Prelude.{cond}
use Rattle.std.specs.FinMap.{get, insert}
use Rattle.std.proofs.lemmas.Bool.{cond-true, cond-false}
use Rattle.std.proofs.lemmas.Option.{none-some, same_Some}
use Rattle.tss_base.specs.declared.operand.OpName.{OpName}
use Rattle.tss_base.specs.declared.operand.Operand.{Operand}
use Rattle.tss_base.specs.declared.operand.Task.{Task}
use Rattle.tss_base.specs.declared.machine.Limits.{Limits}
use Rattle.tss_base.specs.declared.machine.Machine.{Machine}
use Rattle.tss_base.specs.declared.event.Event.{Event}
use Rattle.tss_base.specs.declared.event.Event.TheVariants as event
use Rattle.tss_base.specs.Image.{SegmentState, ImageState}
use Rattle.tss_base.specs.declared.causes.TheConstants.{BUDGET_SPENT}
use Rattle.tss_model.specs.Memory.{MemoryRange, scratch_range, covers, zeros, zeroed, loaded, frozen, memory_ranges}
use Rattle.tss_model.specs.Memory.{code_word}
use Rattle.tss_model.specs.Registers.{trap_of}
use Rattle.tss_model.specs.Access.{Actor, TaskActor, operands_of, reads}
use Rattle.tss_model.specs.Core.{Write, Stepped, Executed, Called, Ended, Trapped, Touched, core_step}
use Rattle.tss_model.specs.TaskRun.{TaskState, is_over, task_byte, task_write, task_on, task_step, task_stretch}
use Rattle.tss_model.specs.TaskRun.{task_trapped}
use Rattle.tss_model.specs.MainStep.{MainState, Call, main_call}
use Rattle.tss_protocol.specs.Mail.{StorageName, Home, Buffer, Source, OpenContents, ReleaseContents, IdleContents}
use Rattle.tss_protocol.specs.Mail.{GoneContents}
use Rattle.tss_protocol.specs.State.{State, Flying, Busy, Version, CopyState, initial_state}
use Rattle.tss_protocol.specs.MainEvent.{flat_of, call_next, after_call, main_by}
use Rattle.tss_protocol.specs.Stations.{storages_of}
use Rattle.tss_protocol.specs.Workers.{Stores, task_state_of, Placed, placed_in, placed_at, worker_byte, storage_write}
use Rattle.tss_protocol.specs.Workers.{write_in, worker_write, output_zeroed, outputs_zeroed}
use Rattle.tss_protocol.specs.UnitMachine.{is_enabled, IsEnabled, after_event, after_take, decode_message_taken}
use Rattle.tss_protocol.specs.UnitMachine.{open_message_taken, use_message_taken, ready_message_taken}
use Rattle.tss_protocol.specs.UnitMachine.{link_message_taken, bye_message_taken, start_task, after_start, after_exec}
use Rattle.tss_protocol.specs.UnitMachine.{after_finish, release_message_taken, idle_message_taken, retire_version}
use Rattle.tss_protocol.specs.UnitMachine.{after_copy, gone_message_taken, stores_of, without}
use Rattle.tss_protocol.specs.Run.{after_events, IsRun}
use Rattle.tss_program_order.proofs.FlatMain.{main_stretch-leaves}
use Rattle.tss_program_order.proofs.FlatSteps.{repeated-keeps}

-- ---- every run

-- what each enabled event keeps stays through a list of events
pub after_events-keeps : (P : State → Type 0) (m : Machine)
    → ((S : State) (e : Event) → IsEnabled m S e → P S → P (after_event m S e))
    → (es : List Event) (S T : State) → P S → after_events m S es ≡ Some T → P T
unfolding after_events
after_events-keeps P m kept [] S T p e = subst P (same_Some S T e) p
after_events-keeps P m kept (x ∷ es) S T p e =
    by (is_enabled m S x) refl (λ on. after_events-keeps P m kept es (after_event m S x) T (kept S x on p)) e
  where
    by : (b : Bool) → is_enabled m S x ≡ b → (IsEnabled m S x → after_events m (after_event m S x) es ≡ Some T → P T)
        → cond b (after_events m (after_event m S x) es) None ≡ Some T → P T
    by true on go e = go on e
    by false off go e = absurd (none-some T e)

-- ---- the code and the ranges of memory

-- an event changes neither
pub record SameGround (S T : State) : Type 0 where
  pub code : T.code ≡ S.code
  pub ranges : T.home.ranges ≡ S.home.ranges

-- nor main
pub record SameMain (S T : State) : Type 0 where
  pub main : T.main ≡ S.main
  pub ground : SameGround S T

still : (S T : State) → T.code ≡ S.code → T.home ≡ S.home → T.main ≡ S.main → SameMain S T
still S T code home main = record { main = main; ground = record { code = code; ranges = λ i. (home i).ranges } }

-- a change of home that keeps its ranges
rewritten : (S T : State) → T.code ≡ S.code → T.home.ranges ≡ S.home.ranges → T.main ≡ S.main → SameMain S T
rewritten S T code ranges main = record { main = main; ground = record { code = code; ranges = ranges } }

-- ---- main

-- it is main's event
abbrev pub is_main : Event → Bool
is_main event.Main = true
is_main e = false

-- it is main's, or it isn't
cases_main : (e : Event) → (e ≡ event.Main) ⊎ (is_main e ≡ false)
cases_main event.Main = inl refl
cases_main e = inr refl

main_by-ground : (m : Machine) (S : State) (c : Option Call) → SameGround S (main_by m S c)
main_by-ground m S None =
    record { code = refl; ranges = (main_stretch-leaves S.code m.limits m.sizes.quantum (flat_of S)).ranges }
main_by-ground m S (Some call) = by (main_call m.limits S.home S.main call)
  where
    by : (p : MainState × Option Task) → SameGround S (after_call S p)
    by (main, None) = record { code = refl; ranges = refl }
    by (main, Some t) = record { code = refl; ranges = refl }

-- ---- workers

-- the ranges of a store's home
abbrev HasRanges : List MemoryRange → Stores → Type 0
HasRanges ranges s = s.home.ranges ≡ ranges

output_zeroed-ranges : (limits : Limits) (s : Stores) (o : Operand) (storage : StorageName)
    → HasRanges s.home.ranges (output_zeroed limits s o storage)
output_zeroed-ranges limits s o Home = by (reads o.mode)
  where
    by : (b : Bool) → HasRanges s.home.ranges (cond b s (record s { home = zeroed s.home o.object }))
    by true = refl
    by false = refl
output_zeroed-ranges limits s o (Buffer n) = by (reads o.mode)
  where
    by : (b : Bool)
        → HasRanges s.home.ranges (cond b s (record s { contents = insert s.contents n (zeros limits.object_bytes) }))
    by true = refl
    by false = refl

-- zeros at outputs change no range
pub outputs_zeroed-ranges : (limits : Limits) (s : Stores) (os : List Operand) (ss : List StorageName)
    → HasRanges s.home.ranges (outputs_zeroed limits s os ss)
outputs_zeroed-ranges limits s [] ss = refl
outputs_zeroed-ranges limits s (o ∷ os) [] = refl
outputs_zeroed-ranges limits s (o ∷ os) (storage ∷ ss) =
    output_zeroed-ranges limits (outputs_zeroed limits s os ss) o storage ∙ outputs_zeroed-ranges limits s os ss

storage_write-ranges : (s : Stores) (p : Option Placed) (w : Write) → HasRanges s.home.ranges (write_in s p w)
storage_write-ranges s None w = refl
storage_write-ranges s (Some p) w = by p.storage
  where
    by : (storage : StorageName) → HasRanges s.home.ranges (storage_write s p.object storage w)
    by Home = refl
    by (Buffer n) = refl

module _ (placed : List Placed) (ranges : List MemoryRange) where
  task_on-ranges : (s : TaskState Stores) (x : Stepped) → HasRanges ranges s.memory
      → HasRanges ranges (task_on (worker_write placed) s x).memory
  task_on-ranges s (Executed r None) h = h
  task_on-ranges s (Executed r (Some w)) h = by (covers scratch_range w.at) refl
    where
      by : (b : Bool) → covers scratch_range w.at ≡ b
          → HasRanges ranges (task_write (worker_write placed) s (Some w)).memory
      by true inside = ap (λ (x : TaskState Stores). x.memory.home.ranges) (cond-true _ _ _ inside) ∙ h
      by false outside =
          ap (λ (x : TaskState Stores). x.memory.home.ranges) (cond-false _ _ _ outside)
          ∙ storage_write-ranges s.memory (placed_at placed w.at) w ∙ h
  task_on-ranges s Called h = h
  task_on-ranges s Ended h = h
  task_on-ranges s (Trapped t) h = h
  task_on-ranges s Touched h = h

  task_step-ranges : (budget : ℕ) (code : List SegmentState) (actor : Actor) (s : TaskState Stores)
      → HasRanges ranges s.memory
      → HasRanges ranges (task_step (worker_byte placed) (worker_write placed) budget code actor s).memory
  unfolding task_step
  task_step-ranges budget code actor s h = by (is_over s) (nat_le budget s.registers.done)
    where
      next : TaskState Stores
      next = task_on (worker_write placed) s
          (core_step actor (task_byte (worker_byte placed) s) (code_word code) s.registers)

      by : (o b : Bool)
          → HasRanges ranges (cond o s (cond b (task_trapped s (trap_of s.registers BUDGET_SPENT 0)) next)).memory
      by true b = h
      by false true = h
      by false false =
          task_on-ranges s (core_step actor (task_byte (worker_byte placed) s) (code_word code) s.registers) h

start_task-kept : (m : Machine) (S : State) (w t : ℕ) (ts : List ℕ) (x : Option Flying)
    → SameMain S (start_task m S w t ts x)
start_task-kept m S w t ts None = still S S refl refl refl
start_task-kept m S w t ts (Some x) =
    rewritten S _ refl (outputs_zeroed-ranges m.limits (stores_of S) (operands_of x.task) (storages_of x)) refl

after_start-kept : (m : Machine) (S : State) (w : ℕ) (q : List ℕ) → SameMain S (after_start m S w q)
after_start-kept m S w [] = still S S refl refl refl
after_start-kept m S w (t ∷ ts) = start_task-kept m S w t ts (get S.flight t)

-- a stretch changes none
pub after_exec-kept : (m : Machine) (S : State) (w : ℕ) (b : Option Busy) → SameMain S (after_exec m S w b)
after_exec-kept m S w None = still S S refl refl refl
after_exec-kept m S w (Some b) =
    rewritten S _ refl (stretched (placed_in (operands_of b.task) b.storages)) refl
  where
    stretched : (placed : List Placed) → HasRanges S.home.ranges
        (task_stretch (worker_byte placed) (worker_write placed) m.limits.task_budget S.code
        (TaskActor S.home.ranges (operands_of b.task)) m.sizes.quantum (task_state_of b (stores_of S))).memory
    stretched placed =
        repeated-keeps (λ (s : TaskState Stores). HasRanges S.home.ranges s.memory)
        (task_step (worker_byte placed) (worker_write placed) m.limits.task_budget S.code
        (TaskActor S.home.ranges (operands_of b.task)))
        (task_step-ranges placed S.home.ranges m.limits.task_budget S.code
        (TaskActor S.home.ranges (operands_of b.task)))
        m.sizes.quantum (task_state_of b (stores_of S)) refl

-- ---- the other events

module _ (m : Machine) (S : State) where
  take-kept : (t : Option Task) → SameMain S (after_take S t)
  take-kept None = still S S refl refl refl
  take-kept (Some t) = still S _ refl refl refl

  decode-kept : (o : OpName) (x : Option Operand)
      → SameMain S (decode_message_taken m (without S (event.Decode o)) o x)
  decode-kept o None = still S _ refl refl refl
  decode-kept o (Some x) = still S _ refl refl refl

  open-kept : (o : OpName) (x : Option OpenContents)
      → SameMain S (open_message_taken (without S (event.Open o)) o x)
  open-kept o None = still S _ refl refl refl
  open-kept o (Some x) = still S _ refl refl refl

  use-kept : (o : OpName) (x : Option OpName) → SameMain S (use_message_taken (without S (event.Use o)) o x)
  use-kept o None = still S _ refl refl refl
  use-kept o (Some x) = still S _ refl refl refl

  ready-kept : (o : OpName) (x : Option Source) → SameMain S (ready_message_taken (without S (event.Ready o)) o x)
  ready-kept o None = still S _ refl refl refl
  ready-kept o (Some x) = still S _ refl refl refl

  link-kept : (o : OpName) (x : Option OpName) → SameMain S (link_message_taken (without S (event.Link o)) o x)
  link-kept o None = still S _ refl refl refl
  link-kept o (Some x) = still S _ refl refl refl

  release-kept : (o : OpName) (x : Option ReleaseContents)
      → SameMain S (release_message_taken (without S (event.Release o)) o x)
  release-kept o None = still S _ refl refl refl
  release-kept o (Some x) = still S _ refl refl refl

  bye-kept : (o : OpName) (x : Option Bool) → SameMain S (bye_message_taken (without S (event.Bye o)) o x)
  bye-kept o None = still S _ refl refl refl
  bye-kept o (Some x) = still S _ refl refl refl

  idle-kept : (o : OpName) (x : Option IdleContents)
      → SameMain S (idle_message_taken (without S (event.Idle o)) o x)
  idle-kept o None = still S _ refl refl refl
  idle-kept o (Some x) = still S _ refl refl refl

  gone-kept : (o : OpName) (x : Option GoneContents)
      → SameMain S (gone_message_taken (without S (event.Gone o)) o x)
  gone-kept o None = still S _ refl refl refl
  gone-kept o (Some x) = still S _ refl refl refl

  retire-kept : (o : OpName) (x : Option Version)
      → SameMain S (retire_version m (without S (event.Retire o)) o x)
  retire-kept o None = still S _ refl refl refl
  retire-kept o (Some x) = still S _ refl refl refl

  finish-kept : (w : ℕ) (x : Option Busy) → SameMain S (after_finish S w x)
  finish-kept w None = still S _ refl refl refl
  finish-kept w (Some x) = still S _ refl refl refl

  copy-kept : (b : ℕ) (x : Option CopyState) → SameMain S (after_copy S b x)
  copy-kept b None = still S _ refl refl refl
  copy-kept b (Some x) = rewritten S _ refl refl refl

  -- no event but main's changes main, the code or the ranges of memory
  pub after_event-kept : (e : Event) → is_main e ≡ false → SameMain S (after_event m S e)
  unfolding after_event
  after_event-kept event.Main other = absurd (cc)
  after_event-kept event.Take other = take-kept S.inbox
  after_event-kept (event.Decode o) other = decode-kept o (get S.mail.decodes o)
  after_event-kept (event.Ack o) other = still S _ refl refl refl
  after_event-kept (event.Open o) other = open-kept o (get S.mail.opens o)
  after_event-kept (event.Use o) other = use-kept o (get S.mail.uses o)
  after_event-kept (event.Ready o) other = ready-kept o (get S.mail.readies o)
  after_event-kept (event.Link o) other = link-kept o (get S.mail.links o)
  after_event-kept (event.Start w) other = after_start-kept m S w S.queue
  after_event-kept (event.Exec w) other = after_exec-kept m S w (get S.workers w)
  after_event-kept (event.Finish w) other = finish-kept w (get S.workers w)
  after_event-kept (event.Release o) other = release-kept o (get S.mail.releases o)
  after_event-kept (event.Bye o) other = bye-kept o (get S.mail.byes o)
  after_event-kept (event.Idle o) other = idle-kept o (get S.mail.idles o)
  after_event-kept (event.Nack o) other = still S _ refl refl refl
  after_event-kept (event.Retire o) other = retire-kept o (get S.versions o)
  after_event-kept (event.Copy b) other = copy-kept b (get S.copies b)
  after_event-kept (event.Gone o) other = gone-kept o (get S.mail.gones o)

  -- and main's changes neither of the last two
  pub after_event-ground : (e : Event) → SameGround S (after_event m S e)
  unfolding after_event
  after_event-ground e = elim (cases_main e) [
    | inl same ↦ subst (λ (e : Event). SameGround S (after_event m S e)) (sym same) (main_by-ground m S (call_next m S))
    | inr other ↦ (after_event-kept e other).ground
  ]

-- in every state that a run leaves they are those of the image
pub record HasGround (i : ImageState) (S : State) : Type 0 where
  pub code : S.code ≡ frozen i
  pub ranges : S.home.ranges ≡ memory_ranges i

-- the first state has it
HasGround-initial_state : (i : ImageState) → HasGround i (initial_state i)
unfolding loaded
HasGround-initial_state i = record { code = refl; ranges = refl }

-- each event keeps it
HasGround-event : (m : Machine) (i : ImageState) (S : State) (e : Event) → HasGround i S
    → HasGround i (after_event m S e)
HasGround-event m i S e ground =
    let same = after_event-ground m S e in
    record { code = same.code ∙ ground.code; ranges = same.ranges ∙ ground.ranges }

-- it is so after every run
pub HasGround-run : (m : Machine) (i : ImageState) (es : List Event) (S : State) → IsRun m i es S → HasGround i S
HasGround-run m i es S run =
    after_events-keeps (HasGround i) m (λ S e on ground. HasGround-event m i S e ground) es (initial_state i) S
    (HasGround-initial_state i) run

-- ---- main over a run

-- what an event of main keeps of main, every run keeps
pub main_keeps : (P : MainState → Type 0) (m : Machine)
    → ((S : State) → P S.main → P (after_event m S event.Main).main)
    → (es : List Event) (S T : State) → P S.main → after_events m S es ≡ Some T → P T.main
main_keeps P m kept es S T p e =
    after_events-keeps (λ (S : State). P S.main) m (λ S e on p. elim (cases_main e) [
      | inl same ↦ subst (λ (e : Event). P (after_event m S e).main) (sym same) (kept S p)
      | inr other ↦ subst P (sym (after_event-kept m S e other).main) p
    ]) es S T p e
