-- Two operands of the round on one object with no writer between: in program order the later task finds what the
-- earlier one leaves.
use Rattle.std.proofs.Common.{◌≡◌, ℕ, suc, ◌+◌, ◌-◌, ◌<◌, ◌≤◌, ◌⊎◌, inl, inr, Bool, true, false, ◌&&◌, Option, Some}
use Rattle.std.proofs.Common.{None, List, [], ◌∷◌, length, refl, sym, ap, ◌∙◌, arith, true≢false, cond}
use Rattle.std.specs.Prelude.{slice_get, option_map}
use Rattle.std.proofs.lemmas.Bool.{and_parts, cases_lt, cases_order}
use Rattle.std.proofs.lemmas.Option.{none-some, same_Some, slice_get-map}
use Rattle.tss_base.specs.declared.range.Range.{Range}
use Rattle.tss_base.specs.declared.operand.OpName.{OpName}
use Rattle.tss_base.specs.declared.operand.Operand.{Operand}
use Rattle.tss_base.specs.declared.operand.Task.{Task}
use Rattle.tss_base.specs.declared.ending.Trap.{Trap}
use Rattle.tss_base.specs.declared.machine.Machine.{Machine}
use Rattle.tss_base.specs.Image.{ImageState}
use Rattle.tss_model.specs.Memory.{frozen, bytes_of}
use Rattle.tss_model.specs.Access.{writes, operands_of}
use Rattle.tss_model.specs.Spawn.{same_range, objects_of}
use Rattle.tss_model.specs.MainStep.{MainState}
use Rattle.tss_model.specs.InOrder.{Started, is_executed, flat_stepped, started_at, started_in, end_of_started}
use Rattle.tss_protocol.specs.Names.{operand_name}
use Rattle.tss_protocol.specs.State.{State}
use Rattle.tss_control.specs.Members.{operand_among, IsWriterOn, NoWriterBetween}
use Rattle.tss_names.specs.Tasks.{task_at}
use Rattle.tss_program_order.specs.MainInOrder.{steps_taken, flat_beside, IsCutOff}
use Rattle.tss_program_order.proofs.FlatNames.{Has, Has-at, same_range-equal}
use Rattle.tss_program_order.proofs.FlatNaming.{writes_object, IsUnbroken, left_stays, unwritten_left}
use Rattle.tss_program_order.proofs.FlatNumbers.{number_there, numbers_rise, one_place, spawned_rises, step_one}
use Rattle.tss_program_order.proofs.FlatOrder.{trapped_after, started_at-by}
use Rattle.tss_program_order.proofs.FlatStarts.{started-number, task_started-by}
use Rattle.tss_names.proofs.NumberLemmas.{at_newest, still_at}
use Rattle.tss_control.proofs.rounds.Spawned.{of_spawned}
use Rattle.tss_names.proofs.ListLemmas.{from_any}
use Rattle.tss_control.proofs.rounds.RoundTasks.{among_tasks}
use Rattle.tss_values.proofs.Values.{Starts, RunsOut, bytes_before, bytes_after, HasMain, HasNaming, IsLive}
use Rattle.tss_control.proofs.rounds.Facts.{Basis}

-- each number up to those spawned is that of a task
task_there : (ts : List Task) (n : ℕ) → 1 ≤ n → n ≤ length ts → (t : Task) × (task_at ts n ≡ Some t)
task_there [] n low high = absurd (omega (arith, low, high))
task_there (u ∷ ts) n low high = elim (cases_lt (length ts) n) [
  | inl new ↦ (u, at_newest u ts n (omega (arith, new, high)))
  | inr old ↦ let t = task_there ts n low old in (t.0, still_at u ts n t.0 t.1)
]

-- main has taken a step for each completed instruction at least
pub done_taken : (s : MainState) → s.registers.done ≤ steps_taken s
done_taken s = by (is_executed s.ending)
  where
    by : (b : Bool) → s.registers.done ≤ cond b s.registers.done (suc s.registers.done)
    by true = omega arith
    by false = omega arith

module _ (m : Machine) (i : ImageState) (S : State) (basis : Basis m S) (main : HasMain m i basis.all S)
    (naming : HasNaming m i basis.all basis.ts S) where
  open basis use {all, ts, ground}

  -- ---- where tasks of the round are started

  taken_by : (q : OpName) (l : ℕ) (t : Started) → started_at i m.limits l ≡ Some t → t.task.number ≡ q.task
      → q.task ≤ S.main.spawned → (S.main ≡ (flat_beside i m.limits S.main).main) ⊎ IsCutOff i m.limits S.main
      → l < steps_taken S.main
  taken_by q l t start number few (inl same) =
      let first = started-number i m.limits l t start in
      let spawned = ap (λ (s : MainState). s.spawned) same in
      let n = number_there i m.limits q.task (steps_taken S.main) (omega (arith, first, number))
      (omega (arith, few, spawned)) in
      let here = one_place i m.limits l n.place t n.started start n.start (number ∙ sym n.number) in
      omega (arith, here, n.before)
  taken_by q l t start number few (inr cut) = elim (cases_lt cut.place l) [
    | inl later ↦
        absurd (none-some t (ap (started_in (frozen i) m.limits)
        (sym (trapped_after i m.limits cut.place cut.started cut.trap l cut.start cut.trapped later)) ∙ start))
    | inr before ↦ let done = done_taken S.main in omega (arith, before, cut.before, done)
  ]

  -- before main's place in program order
  started_before : (q : OpName) (r : Operand) (l : ℕ) (t : Started) → operand_among ts q ≡ Some r
      → started_at i m.limits l ≡ Some t → t.task.number ≡ q.task → l < steps_taken S.main
  started_before q r l t among start number =
      taken_by q l t start number (of_spawned S ts ground.round q r among) main.follows

  -- the task of program order is the one of the round
  started_task : (o : OpName) (p : Operand) (s : Started) → operand_among ts o ≡ Some p → Starts m i o.task s
      → slice_get (operands_of s.task) o.place ≡ Some p
  started_task o p s among starts =
      let k = ground.known.operands o p among in
      ap (λ (t : Task). slice_get (operands_of t) o.place) (main.same o.task k.task s k.spawned starts) ∙ k.place

  -- its object is one of its task
  has_object : (o : OpName) (p : Operand) (s : Started) → operand_among ts o ≡ Some p → Starts m i o.task s
      → Has (objects_of (operands_of s.task)) p.object
  has_object o p s among starts =
      Has-at (objects_of (operands_of s.task)) o.place p.object
      (slice_get-map (λ (o : Operand). o.object) (operands_of s.task) o.place
      ∙ ap (option_map (λ (o : Operand). o.object)) (started_task o p s among starts))

  -- a started task that writes an object, from the round's oldest on, has an operand of the round that does
  writer_started : (x : Range) (o : OpName) (p : Operand) (n : ℕ) (s : Started) → operand_among ts o ≡ Some p
      → o.task ≤ n → n ≤ S.main.spawned → Starts m i n s → writes_object (operands_of s.task) x ≡ true
      → (q : OpName) × IsWriterOn ts x q × (q.task ≡ n)
  writer_started x o p n s among from few starts wrote =
      let first = started-number i m.limits starts.0 s starts.1 in
      let t = task_there all n (omega (arith, first, starts.2)) (omega (arith, few, ground.numbers.spawned)) in
      let same = main.same n t.0 s t.1 starts in
      let k = naming.among n t.0 o p t.1 among from in
      let number = (ground.numbers.each n t.0 t.1).number in
      let f = from_any (λ (o : Operand). writes o.mode && same_range o.object x) (operands_of t.0)
      (ap (λ (t : Task). writes_object (operands_of t) x) (sym same) ∙ wrote) in
      let parts = and_parts (writes f.1.mode) (same_range f.1.object x) f.3 in (
        operand_name (t.0).number f.0,
        record {
          operand = f.1;
          there = among_tasks ts ground.round.one k.0 t.0 k.1 f.0 f.1 f.2;
          object = same_range-equal f.1.object x parts.1;
          writer = parts.0;
        },
        number,
      )

  -- a task whose operand reads an object doesn't write it
  reads_alone : (o : OpName) (p : Operand) (s : Started) → operand_among ts o ≡ Some p → Starts m i o.task s
      → writes p.mode ≡ false → writes_object (operands_of s.task) p.object ≡ false
  reads_alone o p s among starts reads = by (writes_object (operands_of s.task) p.object) refl
    where
      by : (b : Bool) → writes_object (operands_of s.task) p.object ≡ b
          → writes_object (operands_of s.task) p.object ≡ false
      by false e = e
      by true e =
          let w = writer_started p.object o p o.task s among (omega arith) (of_spawned S ts ground.round o p among)
          starts e in
          let one = ground.known.single w.0 o w.1.operand p w.1.there among w.1.object w.2 in
          let same = same_Some w.1.operand p (sym w.1.there ∙ ap (operand_among ts) one ∙ among) in
          absurd (true≢false (sym w.1.writer ∙ ap (λ (p : Operand). writes p.mode) same ∙ reads))

  -- what its memory has at the end is what it leaves
  pub end_bytes : (o : OpName) (p : Operand) (s : Started) → operand_among ts o ≡ Some p → Starts m i o.task s
      → bytes_of (end_of_started i m.limits s).memory p.object ≡ bytes_after m i s p
  end_bytes o p s among starts = by (writes p.mode) refl
    where
      by : (b : Bool) → writes p.mode ≡ b
          → bytes_of (end_of_started i m.limits s).memory p.object
          ≡ cond b (bytes_of (end_of_started i m.limits s).memory p.object) (bytes_before s p)
      by true e = refl
      by false e =
          unwritten_left i m.limits p.object starts.0 s starts.1 (has_object o p s among starts)
          (reads_alone o p s among starts e)

  -- ---- unbroken naming

  -- no writer of an object comes after an operand and before a task's number
  abbrev NoneBefore : Range → OpName → ℕ → Type 0
  NoneBefore x o n = (q : OpName) → o.task < q.task → q.task < n → IsWriterOn ts x q → ⊥

  module _ (o : OpName) (p : Operand) (s : Started) (among : operand_among ts o ≡ Some p) (live : IsLive S o p.object)
      (starts : Starts m i o.task s) (l : ℕ) (later : starts.0 < l) (here : l ≤ steps_taken S.main)
      (n : ℕ) (few : n ≤ suc S.main.spawned)
      (before : (j : ℕ) (t : Started) → j < l → started_at i m.limits j ≡ Some t → t.task.number < n)
      (none : NoneBefore p.object o n) where
    unwritten : (j : ℕ) (t : Started) → starts.0 < j → j < l → started_at i m.limits j ≡ Some t
        → writes_object (operands_of t.task) p.object ≡ false
    unwritten j t after low start = by (writes_object (operands_of t.task) p.object) refl
      where
        by : (b : Bool) → writes_object (operands_of t.task) p.object ≡ b
            → writes_object (operands_of t.task) p.object ≡ false
        by false e = e
        by true e =
            let rises = numbers_rise i m.limits starts.0 j s t starts.1 start after in
            let low = before j t low start in
            let number = starts.2 in
            let w = writer_started p.object o p t.task.number t among (omega (arith, rises, number))
            (omega (arith, low, few)) (j, start, refl) e in
            let same = w.2 in
            absurd (none w.0 (omega (arith, rises, number, same)) (omega (arith, low, same)) w.1)

    abbrev count : ℕ
    count = l - suc starts.0

    reaches : suc starts.0 + count ≡ l
    reaches = omega (arith, later)

    unbroken : IsUnbroken i m.limits p.object (suc starts.0) count
    unbroken = record {
      named = λ k low.
          naming.named o p starts.0 (suc starts.0 + k) s among live starts.1 starts.2 (omega arith)
          (omega (arith, low, reaches, here));
      unwritten = λ k t low start.
          unwritten (suc starts.0 + k) t (omega arith) (omega (arith, low, reaches)) start;
    }

    -- what the operand leaves still stands there
    left_there : bytes_of (flat_stepped i m.limits l).memory p.object ≡ bytes_after m i s p
    left_there =
        ap (λ (l : ℕ). bytes_of (flat_stepped i m.limits l).memory p.object) (sym reaches)
        ∙ left_stays i m.limits p.object starts.0 count s starts.1 unbroken
        ∙ end_bytes o p s among starts

  -- a task after which another is started runs to its end
  pub runs_on : (o : OpName) (s : Started) (l : ℕ) (t : Started) → (starts : Starts m i o.task s)
      → started_at i m.limits l ≡ Some t → starts.0 < l → RunsOut m i s
  runs_on o s l t starts start later = by (end_of_started i m.limits s).trap refl
    where
      by : (e : Option Trap) → (end_of_started i m.limits s).trap ≡ e → RunsOut m i s
      by None e = e
      by (Some trap) e =
          absurd (none-some t (ap (started_in (frozen i) m.limits)
          (sym (trapped_after i m.limits starts.0 s trap l starts.1 e later)) ∙ start))

  -- two started tasks stand in the order of their numbers
  pub in_order : (n k : ℕ) (s t : Started) → (first : Starts m i n s) → (second : Starts m i k t) → n < k
      → first.0 < second.0
  in_order n k s t first second less = elim (cases_order first.0 second.0) [
    | inl same ↦
        let one = same_Some s t (sym first.1 ∙ ap (started_at i m.limits) same ∙ second.1) in
        let number = ap (λ (s : Started). s.task.number) one in
        absurd (omega (arith, less, number, first.2, second.2))
    | inr (inl before) ↦ before
    | inr (inr after) ↦
        let rises = numbers_rise i m.limits second.0 first.0 t s second.1 first.1 after in
        absurd (omega (arith, less, rises, first.2, second.2))
  ]

  -- of two operands on one object with no writer between the later finds what the earlier leaves, which still acts on
  -- it
  pub found_between : (o q : OpName) (p r : Operand) (s t : Started) → operand_among ts o ≡ Some p
      → IsLive S o p.object → operand_among ts q ≡ Some r → p.object ≡ r.object → o.task < q.task
      → NoWriterBetween ts p.object o q
      → Starts m i o.task s → Starts m i q.task t → bytes_before t r ≡ bytes_after m i s p
  found_between o q p r s t from live to same less none first second =
      let few = of_spawned S ts ground.round q r to in
      let low = started_before q r second.0 t to second.1 second.2 in
      ap (bytes_of t.memory) (sym same)
      ∙ ap (λ m. bytes_of m p.object) (started_at-by i m.limits second.0 t second.1).memory
      ∙ left_there o p s from live first second.0 (in_order o.task q.task s t first second less) (omega (arith, low))
      q.task
      (omega (arith, few))
      (λ j u before start.
      let rises = numbers_rise i m.limits j second.0 u t start second.1 before in
      omega (arith, rises, second.2))
      none

  -- and what the last one leaves stands there where main stands
  pub found_last : (o : OpName) (p : Operand) (s : Started) → operand_among ts o ≡ Some p → IsLive S o p.object
      → S.main ≡ (flat_beside i m.limits S.main).main → NoneBefore p.object o (suc S.main.spawned)
      → Starts m i o.task s → bytes_of (flat_beside i m.limits S.main).memory p.object ≡ bytes_after m i s p
  found_last o p s among live same none starts =
      let low = started_before o p starts.0 s among starts.1 starts.2 in
      left_there o p s among live starts (steps_taken S.main) low (omega arith) (suc S.main.spawned) (omega arith)
      (λ j u before start.
      let first = started-number i m.limits j u start in
      let after = step_one i m.limits j u.task (task_started-by i m.limits j u start) in
      let count : steps_taken S.main ≡ suc j + (steps_taken S.main - suc j) = omega (arith, before) in
      let rises = spawned_rises i m.limits (suc j) (steps_taken S.main - suc j) in
      let counts = ap (λ k. (flat_stepped i m.limits k).main.spawned) count in
      let spawned = ap (λ (s : MainState). s.spawned) same in
      omega (arith, first, after, counts, rises, spawned))
      none
