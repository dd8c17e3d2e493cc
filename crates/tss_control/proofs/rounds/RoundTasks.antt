-- The tasks that one of a round needs, by the names of operands: the last writer of an object before it, and the
-- readers since.
use Rattle.std.proofs.Common.{◌≡◌, ◌≢◌, ℕ, zero, suc, ◌<◌, Bool, true, false, List, [], ◌∷◌, Option, Some, None, refl}
use Rattle.std.proofs.Common.{sym, ap, ◌∙◌, subst, arith, true≢false}
use Rattle.std.specs.Prelude.{◌&&◌, not, nat_lt, cond, option_to_list, slice_get}
use Rattle.std.specs.List.{list_all}
use Rattle.std.proofs.lemmas.Bool.{and_parts, and_from, lt-ltb, ltb-true, eq-eqb}
use Rattle.std.proofs.lemmas.List.Folds.{list_all-append}
use Rattle.std.proofs.lemmas.Option.{none-some, same_Some}
use Rattle.tss_base.specs.declared.range.Range.{Range}
use Rattle.tss_base.specs.declared.operand.OpName.{OpName}
use Rattle.tss_base.specs.declared.operand.Mode.{Mode}
use Rattle.tss_base.specs.declared.operand.Mode.TheVariants.{Input, Output, Inout}
use Rattle.tss_base.specs.declared.operand.Operand.{Operand}
use Rattle.tss_base.specs.declared.operand.Task.{Task}
use Rattle.tss_base.specs.declared.machine.Machine.{Machine}
use Rattle.tss_model.specs.Access.{operands_of, writes}
use Rattle.tss_model.specs.Spawn.{same_range}
use Rattle.tss_protocol.specs.Names.{operand_name}
use Rattle.tss_protocol.specs.State.{State}
use Rattle.tss_protocol.specs.Needs.{Users, has_written, has_read, no_users, users_of, needs_by, earlier_in}
use Rattle.tss_protocol.specs.Needs.{needed_tasks}
use Rattle.tss_locality.specs.Agreement.{operand_in}
use Rattle.tss_locality.proofs.Subjects.{arrival_task}
use Rattle.tss_locality.proofs.RoundObjects.{arrival_operand}
use Rattle.tss_control.specs.Members.{first_there, operand_among, IsOn, IsWriterOn, NoWriterBetween}
use Rattle.tss_program_order.proofs.FlatNames.{same_range-equal, same_range-refl}
use Rattle.tss_control.proofs.rounds.Rounds.{OperandFound, found_among}
use Rattle.tss_names.proofs.ListLemmas.{any_at, from_any, all_given, in_filtered, from_filtered, AreRising}
use Rattle.tss_names.proofs.ListLemmas.{AreRising-filter, NoneWritesAfter, last_writer, last_reader}
use Rattle.tss_control.proofs.rounds.Facts.{Basis}

-- no two tasks of a list have one number
abbrev AreNumbered : List Task → Type 0
AreNumbered ts =
    (j k : ℕ) (t u : Task) → slice_get ts j ≡ Some t → slice_get ts k ≡ Some u → t.number ≡ u.number → t ≡ u

-- a task has the operands of its names
own_operand : (t : Task) (j : ℕ) (p : Operand) → slice_get (operands_of t) j ≡ Some p
    → operand_in (Some t) (operand_name t.number j) ≡ Some p
own_operand t j p at =
    ap (λ b. cond b (slice_get (operands_of t) j) None) (eq-eqb t.number t.number refl) ∙ at

-- so the list has them
pub among_tasks : (ts : List Task) → AreNumbered ts → (k : ℕ) (t : Task) → slice_get ts k ≡ Some t
    → (j : ℕ) (p : Operand) → slice_get (operands_of t) j ≡ Some p → operand_among ts (operand_name t.number j) ≡ Some p
among_tasks [] one k t there j p at = absurd (none-some t there)
among_tasks (u ∷ ts) one zero t there j p at =
    let same = same_Some u t there in
    ap (λ q. first_there q (operand_among ts (operand_name t.number j)))
    (ap (λ u. operand_in (Some u) (operand_name t.number j)) same ∙ own_operand t j p at)
among_tasks (u ∷ ts) one (suc k) t there j p at =
    by (operand_in (Some u) (operand_name t.number j)) refl
    (among_tasks ts (λ i k t v a b. one (suc i) (suc k) t v a b) k t there j p at)
  where
    by : (q : Option Operand) → operand_in (Some u) (operand_name t.number j) ≡ q
        → operand_among ts (operand_name t.number j) ≡ Some p
        → first_there q (operand_among ts (operand_name t.number j)) ≡ Some p
    by None e rest = rest
    by (Some q) e rest =
        let number = arrival_task u (operand_name t.number j) q e in
        let same = one 0 (suc k) u t refl there (sym number) in
        sym (arrival_operand u (operand_name t.number j) q e)
        ∙ ap (λ t. slice_get (operands_of t) j) same
        ∙ at

-- a mode that writes isn't an input's
writes_not_input : (p : Mode) → writes p ≡ true → p ≡ Input → ⊥
writes_not_input p w same = true≢false (sym w ∙ ap writes same)

module _ (m : Machine) (S : State) (basis : Basis m S) where
  open basis use {all, ts, ground}

  -- ---- tasks that write or read an object

  -- one that writes it has an operand that does
  writer_of : (x : Range) (k : ℕ) (t : Task) → slice_get ts k ≡ Some t → has_written x t ≡ true
      → (q : OpName) × IsWriterOn ts x q × (q.task ≡ t.number)
  writer_of x k t there wrote =
      let f = from_any (λ o. same_range o.object x && writes o.mode) (operands_of t) wrote in
      let parts = and_parts (same_range f.1.object x) (writes f.1.mode) f.3 in (
        operand_name t.number f.0,
        record {
          operand = f.1;
          there = among_tasks ts ground.round.one k t there f.0 f.1 f.2;
          object = same_range-equal f.1.object x parts.0;
          writer = parts.1;
        },
        refl,
      )

  -- the task of an operand that writes it
  wrote_at : (x : Range) (q : OpName) (w : IsWriterOn ts x q) (f : OperandFound ts q w.operand)
      → has_written x f.task ≡ true
  wrote_at x q w f =
      any_at (λ o. same_range o.object x && writes o.mode) (operands_of f.task) q.place w.operand
      (arrival_operand f.task q w.operand f.arrives)
      (and_from (same_range w.operand.object x) (writes w.operand.mode)
      (subst (λ y. same_range y x ≡ true) (sym w.object) (same_range-refl x)) w.writer)

  -- of one that reads it
  read_at : (x : Range) (a : OpName) (on : IsOn ts x Input a) (f : OperandFound ts a on.operand)
      → has_read x f.task ≡ true
  read_at x a on f =
      any_at (λ o. same_range o.object x && not (writes o.mode)) (operands_of f.task) a.place on.operand
      (arrival_operand f.task a on.operand f.arrives)
      (and_from (same_range on.operand.object x) (not (writes on.operand.mode))
      (subst (λ y. same_range y x ≡ true) (sym on.object) (same_range-refl x))
      (ap (λ p. not (writes p)) on.is_mode))

  -- which doesn't write it
  pub only_reads : (x : Range) (a q : OpName) → IsOn ts x Input a → IsWriterOn ts x q → q.task ≡ a.task → ⊥
  only_reads x a q on w task =
      let one = ground.known.single q a w.operand on.operand w.there on.there (w.object ∙ sym on.object) task in
      let same = same_Some w.operand on.operand (sym w.there ∙ ap (operand_among ts) one ∙ on.there) in
      writes_not_input w.operand.mode w.writer (ap (λ (p : Operand). p.mode) same ∙ on.is_mode)

  unwritten_at : (x : Range) (a : OpName) (on : IsOn ts x Input a) (f : OperandFound ts a on.operand)
      → has_written x f.task ≡ false
  unwritten_at x a on f = by (has_written x f.task) refl
    where
      by : (b : Bool) → has_written x f.task ≡ b → has_written x f.task ≡ false
      by false e = e
      by true e =
          let w = writer_of x f.place f.task f.there e in
          absurd (only_reads x a w.0 on w.1 (w.2 ∙ sym (arrival_task f.task a on.operand f.arrives)))

  -- ---- a task of the round

  module _ (rise : AreRising ts) (k : ℕ) (t : Task) (there : slice_get ts k ≡ Some t) (test : ℕ → Bool)
      (pass : list_all test (needed_tasks ts t) ≡ true) where
    abbrev earlier : List Task
    earlier = earlier_in ts t

    earlier_rise : AreRising earlier
    earlier_rise = AreRising-filter (λ s. nat_lt s.number t.number) ts rise

    -- one before it is among those
    in_earlier : (q : OpName) (p : Operand) (f : OperandFound ts q p) → q.task < t.number
        → (j : ℕ) × (slice_get earlier j ≡ Some (f.task))
    in_earlier q p f before =
        let number = arrival_task f.task q p f.arrives in
        in_filtered (λ s. nat_lt s.number t.number) ts f.place f.task f.there
        (lt-ltb f.task.number t.number (omega (arith, before, number)))

    -- where no writer of an object comes between, none of those after an operand's task writes it
    none_since : (x : Range) (q o : OpName) (p : Operand) (f : OperandFound ts q p) → o.task ≡ t.number
        → NoWriterBetween ts x q o → NoneWritesAfter x f.task earlier
    none_since x q o p f own alone j s at after = by (has_written x s) refl
      where
        by : (b : Bool) → has_written x s ≡ b → has_written x s ≡ false
        by false e = e
        by true e =
            let g = from_filtered (λ s. nat_lt s.number t.number) ts j s at in
            let w = writer_of x g.0.0 s g.0.1 e in
            let number = arrival_task f.task q p f.arrives in
            let before = ltb-true s.number t.number g.1 in
            let same = w.2 in
            absurd (alone w.0 (omega (arith, after, number, same)) (omega (arith, before, own, same)) w.1)

    module _ (o : OpName) (p : Operand) (own : o.task ≡ t.number)
        (place : slice_get (operands_of t) o.place ≡ Some p) where
      -- what its operand needs passes the test
      needs_pass : list_all test (needs_by p.mode (users_of p.object earlier)) ≡ true
      needs_pass =
          all_given test (λ o. needs_by o.mode (users_of o.object earlier)) (operands_of t) pass o.place p place

      -- the last writer before an input or an inout
      pub writer_passes : (p.mode ≢ Output) → (q : OpName) → IsWriterOn ts p.object q → q.task < o.task
          → NoWriterBetween ts p.object q o → test q.task ≡ true
      writer_passes reads q w before alone =
          let f = found_among ts q w.operand w.there in
          let number = arrival_task f.task q w.operand f.arrives in
          let early = in_earlier q w.operand f (omega (arith, before, own)) in
          let last = last_writer p.object no_users earlier early.0 f.task early.1 earlier_rise
          (wrote_at p.object q w f) (none_since p.object q o w.operand f own alone) in
          ap test number ∙ by p.mode refl (users_of p.object earlier) f.task.number last needs_pass
        where
          by : (a : Mode) → p.mode ≡ a → (u : Users) → (n : ℕ) → u.writer ≡ Some n
              → list_all test (needs_by a u) ≡ true → test n ≡ true
          by Input e u n is h =
              (and_parts (test n) true (subst (λ w. list_all test (option_to_list w) ≡ true) is h)).0
          by Output e u n is h = absurd (reads e)
          by Inout e u n is h =
              let first = (and_parts (list_all test (option_to_list u.writer)) (list_all test u.readers)
              (sym (list_all-append test (option_to_list u.writer) u.readers) ∙ h)).0 in
              (and_parts (test n) true (subst (λ w. list_all test (option_to_list w) ≡ true) is first)).0

      -- the readers since, before an inout
      pub reader_passes : p.mode ≡ Inout → (a : OpName) → IsOn ts p.object Input a → a.task < o.task
          → NoWriterBetween ts p.object a o → test a.task ≡ true
      reader_passes inout a on before alone =
          let f = found_among ts a on.operand on.there in
          let number = arrival_task f.task a on.operand f.arrives in
          let early = in_earlier a on.operand f (omega (arith, before, own)) in
          let u = users_of p.object earlier in
          let all = subst (λ a. list_all test (needs_by a u) ≡ true) inout needs_pass in
          let readers = (and_parts (list_all test (option_to_list u.writer)) (list_all test u.readers)
          (sym (list_all-append test (option_to_list u.writer) u.readers) ∙ all)).1 in
          ap test number
          ∙ last_reader p.object test no_users earlier early.0 f.task early.1 earlier_rise
          (unwritten_at p.object a on f) (read_at p.object a on f) (none_since p.object a o on.operand f own alone)
          readers
