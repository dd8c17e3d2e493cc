-- A worker's start and its stretches leave the buffers of copies, home where no object has an entry, where the first
-- version of an object is being opened, and in objects that are copied home, or have come there.
use Rattle.std.proofs.Common.{◌≡◌, ℕ, true, false, List, [], ◌∷◌, Option, Some, None, inl, refl, sym, ap, ◌∙◌, arith}
use Rattle.std.proofs.Common.{inr, subst}
use Rattle.std.specs.Prelude.{slice_get}
use Rattle.std.specs.FinMap.{get}
use Rattle.std.proofs.lemmas.Bool.{false_from_ne_true}
use Rattle.std.proofs.lemmas.Option.{same_Some}
use Rattle.tss_base.specs.declared.range.Range.{Range}
use Rattle.tss_base.specs.declared.operand.OpName.{OpName}
use Rattle.tss_base.specs.declared.operand.Operand.{Operand}
use Rattle.tss_base.specs.declared.operand.Task.{Task}
use Rattle.tss_base.specs.declared.machine.Machine.{Machine}
use Rattle.tss_base.specs.declared.event.Event.TheVariants as event
use Rattle.tss_base.specs.declared.marks.Stage.TheVariants as stage
use Rattle.tss_base.specs.Image.{ImageState}
use Rattle.tss_model.specs.Memory.{covers}
use Rattle.tss_model.specs.Access.{writes, operands_of}
use Rattle.tss_protocol.specs.Names.{operand_name}
use Rattle.tss_protocol.specs.Mail.{StorageName, Source, OpenContents}
use Rattle.tss_protocol.specs.State.{State, Flying, Busy, CopyState}
use Rattle.tss_protocol.specs.Stations.{storages_of}
use Rattle.tss_protocol.specs.Buffers.{buffer_bytes}
use Rattle.tss_protocol.specs.Workers.{Stores}
use Rattle.tss_protocol.specs.UnitMachine.{stores_of, after_event, start_task, after_start, after_exec}
use Rattle.tss_locality.specs.Rounds.{object_in}
use Rattle.tss_control.specs.Members.{IsVersionOf}
use Rattle.tss_control.specs.Entries.{IsGoingHome}
use Rattle.tss_names.proofs.QueueLemmas.{in_queue, at_front}
use Rattle.tss_names.proofs.StageLemmas.{queued≢finished}
use Rattle.tss_values.proofs.storages.Beside.{copy_elsewhere, going_apart}
use Rattle.tss_values.proofs.storages.Shares.{HoldsStorage}
use Rattle.tss_program_order.proofs.StoreBytes.{covers_parts}
use Rattle.tss_program_order.proofs.StoreViews.{AreUnseen, outputs_zeroed-unseen, exec_stretch-unseen, home_unseen}
use Rattle.tss_program_order.proofs.StoreViews.{buffer_unseen}
use Rattle.tss_values.proofs.Values.{IsInside, IsLoose}
use Rattle.tss_values.proofs.workers.Apart.{held}
use Rattle.tss_values.proofs.workers.Hold.{IsHeld, writes_own, holder_named}
use Rattle.tss_values.proofs.workers.Runs.{worker_holds, worker_separate}
use Rattle.tss_values.proofs.WorkerFacts.{WorkerFacts}
use Rattle.tss_values.proofs.LiveObjects.{inside_covers, one_covered, member_named, going_named}
use Rattle.tss_control.proofs.entries.OfVersions.{entry_of_version}

-- home has the same at an address
abbrev SameThere : State → Stores → ℕ → Type 0
SameThere S x a = get x.home.bytes a ≡ get S.home.bytes a

-- what is left
pub record LeavesAway (ts : List Task) (S : State) (x : Stores) : Type 0 where
  pub loose : (a : ℕ) → IsLoose S a → SameThere S x a
  pub opening : (o : OpName) (c : OpenContents) → get S.mail.opens o ≡ Some c → c.follows ≡ None → (a : ℕ)
      → IsInside c.operand.object a → SameThere S x a
  pub going : (y : Range) (v : OpName) → object_in ts v ≡ Some y → IsGoingHome S y v → (a : ℕ) → covers y a ≡ true
      → SameThere S x a
  pub copies : (bank : ℕ) (c : CopyState) → get S.copies bank ≡ Some c
      → buffer_bytes x.contents c.buffer ≡ buffer_bytes S.contents c.buffer

-- nothing is changed
away_itself : (ts : List Task) (S : State) → LeavesAway ts S (stores_of S)
away_itself ts S = record {
  loose = λ a each. refl;
  opening = λ o c at first a inside. refl;
  going = λ y v named going a inside. refl;
  copies = λ bank c at. refl;
}

module _ (m : Machine) (i : ImageState) (S : State) (work : WorkerFacts m i S) where
  open work use {facts, basis, buffers, all, ts, g, ground, control}

  -- ---- an operand that writes what it holds

  module _ (o : OpName) (p : Operand) (s : Source) (holds : HoldsStorage ts g S o p s) (writer : writes p.mode ≡ true)
    where
      -- where no entry's object lies, its own doesn't
      loose_apart : (a : ℕ) → IsLoose S a → covers p.object a ≡ false
      loose_apart a free =
          false_from_ne_true (covers p.object a) (λ inside.
          let e = entry_of_version m S facts s.version holds.told.version holds.told.there in
          free holds.told.version.object.base e.entry e.there
          (subst (λ x. IsInside x a) (sym (e.object ∙ holds.told.object)) (covers_parts p.object a inside)))

      -- nor is one whose first version is being opened
      opening_apart : (d : OpName) (c : OpenContents) → get S.mail.opens d ≡ Some c → c.follows ≡ None → (a : ℕ)
          → IsInside c.operand.object a → covers p.object a ≡ false
      opening_apart d c at first a within =
          false_from_ne_true (covers p.object a) (λ inside.
          let opens = control.chains.opens d c at in
          let same = one_covered m S basis p.object c.operand.object (holder_named m S facts o p s holds)
          (member_named m S facts d c.operand opens.operand d (inr (c, at, refl))) a inside
          (inside_covers c.operand.object a within) in
          let own = writes_own m S facts buffers o p s holds writer in
          let version : IsVersionOf S c.operand.object o =
          (holds.told.version, ap (get S.versions) (sym own) ∙ holds.told.there, holds.told.object ∙ same) in
          let low = opens.behind o version in
          let high = (opens.first first).first o (inl version) in
          absurd (omega (arith, low, high)))

      -- nor is one that goes home
      going_beside : (y : Range) (v : OpName) → object_in ts v ≡ Some y → IsGoingHome S y v → (a : ℕ)
          → covers y a ≡ true → covers p.object a ≡ false
      going_beside y v named going a within =
          false_from_ne_true (covers p.object a) (λ inside.
          let same = one_covered m S basis y p.object (going_named m S facts v y named going)
          (holder_named m S facts o p s holds) a within inside in
          going_apart ts g S ground.round control buffers o p s holds writer m all ground y v going
          same)

  -- ---- a task that holds all that it was told

  module _ (n : ℕ) (os : List Operand) (ss : List StorageName)
      (holding : (k : ℕ) (p : Operand) (storage : StorageName) → slice_get os k ≡ Some p
      → slice_get ss k ≡ Some storage → IsHeld ts g S n k p storage) where
    -- home is left at an address beside the objects that it writes
    home_away : (a : ℕ) → ((o : OpName) (p : Operand) (s : Source) → HoldsStorage ts g S o p s → writes p.mode ≡ true
        → covers p.object a ≡ false) → AreUnseen m.limits (λ (s : Stores). get s.home.bytes a) os ss
    home_away a each k p storage at told writer =
        let h = holding k p storage at told in
        home_unseen m.limits a p.object storage (λ e. each (operand_name n k) p h.source h.holds writer)

    -- and so are the buffers of copies
    copy_away : (bank : ℕ) (c : CopyState) → get S.copies bank ≡ Some c
        → AreUnseen m.limits (λ (s : Stores). buffer_bytes s.contents c.buffer) os ss
    copy_away bank c there k p storage at told writer =
        let h = holding k p storage at told in
        buffer_unseen m.limits c.buffer p.object storage (λ e.
        (copy_elsewhere ts g S ground.round control buffers (operand_name n k) p h.source h.holds writer m all ground
        bank c there 0).buffer c.buffer (h.told ∙ e) refl)

    -- so where what is unseen is left, so is all this
    away_from : (x : Stores)
        → ((a : ℕ) → AreUnseen m.limits (λ (s : Stores). get s.home.bytes a) os ss → SameThere S x a)
        → ((b : OpName) → AreUnseen m.limits (λ (s : Stores). buffer_bytes s.contents b) os ss
        → buffer_bytes x.contents b ≡ buffer_bytes S.contents b)
        → LeavesAway ts S x
    away_from x home buffer = record {
      loose = λ a each. home a (home_away a (λ o p s holds writer. loose_apart o p s holds writer a each));
      opening = λ d c at first a inside.
          home a (home_away a (λ o p s holds writer. opening_apart o p s holds writer d c at first a inside));
      going = λ y v named going a inside.
          home a (home_away a (λ o p s holds writer. going_beside o p s holds writer y v named going a inside));
      copies = λ bank c at. buffer c.buffer (copy_away bank c at);
    }

  -- ---- exec

  exec_by : (w : ℕ) (b : Option Busy) → get S.workers w ≡ b → LeavesAway ts S (stores_of (after_exec m S w b))
  exec_by w None e = away_itself ts S
  exec_by w (Some b) e =
      let separate = worker_separate m i S work w b e in
      let count = (ground.stages.workers w b e).storages in
      away_from b.task.number (operands_of b.task) b.storages
      (worker_holds m i S work w b e)
      (stores_of (after_exec m S w (Some b)))
      (λ a unseen.
      exec_stretch-unseen m.limits (λ (s : Stores). get s.home.bytes a) S.code m.sizes.quantum b (stores_of S)
      separate count unseen)
      (λ n unseen.
      exec_stretch-unseen m.limits (λ (s : Stores). buffer_bytes s.contents n) S.code m.sizes.quantum b (stores_of S)
      separate count unseen)

  -- a stretch leaves it
  pub away_exec : (w : ℕ) → LeavesAway ts S (stores_of (after_event m S (event.Exec w)))
  unfolding after_event
  away_exec w = exec_by w (get S.workers w) refl

  -- ---- start

  module _ (w n : ℕ) (rest : List ℕ) (queue : S.queue ≡ n ∷ rest) where
    queued : in_queue n S.queue ≡ true
    queued = ap (in_queue n) queue ∙ at_front n rest

    unfinished : (x : Flying) → get S.flight n ≡ Some x → x.stage ≡ stage.Finished → ⊥
    unfinished x flies e =
        let r = control.holders.runners.queued n queued in
        queued≢finished (sym r.2 ∙ ap (λ (x : Flying). x.stage) (same_Some r.0 x (sym r.1 ∙ flies)) ∙ e)

    by_task : (x : Option Flying) → get S.flight n ≡ x → LeavesAway ts S (stores_of (start_task m S w n rest x))
    by_task None e = away_itself ts S
    by_task (Some x) e =
        away_from n (operands_of x.task) (storages_of x)
        (held m S facts buffers n x e ((ground.stages.queue n queued).complete x e)
        (unfinished x e))
        (stores_of (start_task m S w n rest (Some x)))
        (λ a unseen.
        outputs_zeroed-unseen m.limits (λ (s : Stores). get s.home.bytes a) (stores_of S) (operands_of x.task)
        (storages_of x) unseen)
        (λ b unseen.
        outputs_zeroed-unseen m.limits (λ (s : Stores). buffer_bytes s.contents b) (stores_of S) (operands_of x.task)
        (storages_of x) unseen)

  by_queue : (w : ℕ) (q : List ℕ) → S.queue ≡ q → LeavesAway ts S (stores_of (after_start m S w q))
  by_queue w [] queue = away_itself ts S
  by_queue w (n ∷ rest) queue = by_task w n rest queue (get S.flight n) refl

  -- a start leaves it
  pub away_start : (w : ℕ) → LeavesAway ts S (stores_of (after_event m S (event.Start w)))
  unfolding after_event
  away_start w = by_queue w S.queue refl
