-- A round with one more task: what its names have, and that the names in the machine are older.
use Rattle.std.proofs.Common.{◌≡◌, ℕ, suc, ◌≤◌, ◌⊎◌, inl, inr, true, List, [], ◌∷◌, ◌++◌, Option, Some, None, refl}
use Rattle.std.proofs.Common.{arith}
use Rattle.std.specs.Prelude.{nat_lt}
use Rattle.std.proofs.lemmas.Bool.{or_parts, ltb-false}
use Rattle.std.proofs.lemmas.Option.{none-some, same_Some}
use Rattle.tss_base.specs.declared.range.Range.{Range}
use Rattle.tss_base.specs.declared.operand.OpName.{OpName}
use Rattle.tss_base.specs.declared.operand.Mode.{Mode}
use Rattle.tss_base.specs.declared.operand.Operand.{Operand}
use Rattle.tss_base.specs.declared.operand.Task.{Task}
use Rattle.tss_protocol.specs.State.{State}
use Rattle.tss_locality.specs.Agreement.{operand_in}
use Rattle.tss_locality.specs.Objects.{HasObject}
use Rattle.tss_locality.specs.Rounds.{object_or, object_in, IsRounded}
use Rattle.tss_locality.proofs.Subjects.{arrival_task}
use Rattle.tss_phases.specs.Phase.{inbox_has, look_ups, phase_of, is_decoded}
use Rattle.tss_phases.specs.Orderly.{AreOrderly}
use Rattle.tss_control.specs.Members.{first_there, operand_among, IsOn, IsWriterOn, NoWriterBetween}
use Rattle.tss_control.proofs.rounds.EntriesQuiet.{decoded_shows}
use Rattle.tss_control.proofs.rounds.Rounds.{found_among}

-- ---- one more task

more_by : (q a b : Option Operand) (p : Operand) → (a ≡ Some p → b ≡ Some p) → first_there q a ≡ Some p
    → first_there q b ≡ Some p
more_by None a b p step e = step e
more_by (Some q) a b p step e = e

-- names keep their operands
pub operand_among-more : (ts : List Task) (t : Task) (o : OpName) (p : Operand) → operand_among ts o ≡ Some p
    → operand_among (ts ++ t ∷ []) o ≡ Some p
operand_among-more [] t o p e = absurd (none-some p e)
operand_among-more (u ∷ ts) t o p e =
    more_by (operand_in (Some u) o) (operand_among ts o) (operand_among (ts ++ t ∷ []) o) p
    (operand_among-more ts t o p) e

last_by : (q : Option Operand) (p : Operand) → first_there q None ≡ Some p → q ≡ Some p
last_by None p e = absurd (none-some p e)
last_by (Some q) p e = e

either_by : (q a b r : Option Operand) (p : Operand) → (b ≡ Some p → (a ≡ Some p) ⊎ (r ≡ Some p))
    → first_there q b ≡ Some p → (first_there q a ≡ Some p) ⊎ (r ≡ Some p)
either_by None a b r p step e = step e
either_by (Some q) a b r p step e = inl e

-- a name that has an operand had it, or it is the new task's
pub from_operand_among : (ts : List Task) (t : Task) (o : OpName) (p : Operand)
    → operand_among (ts ++ t ∷ []) o ≡ Some p → (operand_among ts o ≡ Some p) ⊎ (operand_in (Some t) o ≡ Some p)
from_operand_among [] t o p e = inr (last_by (operand_in (Some t) o) p e)
from_operand_among (u ∷ ts) t o p e =
    either_by (operand_in (Some u) o) (operand_among ts o) (operand_among (ts ++ t ∷ []) o) (operand_in (Some t) o) p
    (from_operand_among ts t o p) e

-- ---- a longer round

-- names keep their operands, all of tasks up to the last, and only names with a later task get new ones
pub record IsLonger (last : ℕ) (ts us : List Task) : Type 0 where
  pub still : (o : OpName) (p : Operand) → operand_among ts o ≡ Some p → operand_among us o ≡ Some p
  pub back : (o : OpName) (p : Operand) → o.task ≤ last → operand_among us o ≡ Some p → operand_among ts o ≡ Some p
  pub old : (o : OpName) (p : Operand) → operand_among ts o ≡ Some p → o.task ≤ last

-- an operand of a round's task is of one that was spawned
pub of_spawned : (S : State) (ts : List Task) → IsRounded S ts → (o : OpName) (p : Operand)
    → operand_among ts o ≡ Some p → o.task ≤ S.main.spawned
of_spawned S ts r o p e =
    let f = found_among ts o p e in
    let same = arrival_task f.task o p f.arrives in
    let low = r.numbers f.place f.task f.there in
    omega (arith, same, low)

-- a round with the next task is longer
pub IsLonger-spawn : (S : State) (ts : List Task) (t : Task) → IsRounded S ts → t.number ≡ suc S.main.spawned
    → IsLonger S.main.spawned ts (ts ++ t ∷ [])
IsLonger-spawn S ts t r number = record {
  still = λ o p e. operand_among-more ts t o p e;
  back = λ o p low e. elim (from_operand_among ts t o p e) [
    | inl old ↦ old
    | inr new ↦ let same = arrival_task t o p new in absurd (omega (arith, low, same, number))
  ];
  old = λ o p e. of_spawned S ts r o p e;
}

module _ (last : ℕ) (ts us : List Task) (long : IsLonger last ts us) where
  -- what is on an object stays so
  pub on_still : (x : Range) (mode : Mode) (o : OpName) → IsOn ts x mode o → IsOn us x mode o
  on_still x mode o h = record {
    operand = h.operand;
    there = long.still o h.operand h.there;
    object = h.object;
    is_mode = h.is_mode;
  }

  -- an old name was on it
  pub on_back : (x : Range) (mode : Mode) (o : OpName) → o.task ≤ last → IsOn us x mode o → IsOn ts x mode o
  on_back x mode o low h = record {
    operand = h.operand;
    there = long.back o h.operand low h.there;
    object = h.object;
    is_mode = h.is_mode;
  }

  -- an old writer wrote it
  pub writer_back : (x : Range) (o : OpName) → o.task ≤ last → IsWriterOn us x o → IsWriterOn ts x o
  writer_back x o low h = record {
    operand = h.operand;
    there = long.back o h.operand low h.there;
    object = h.object;
    writer = h.writer;
  }

  -- and no writer comes between old names
  pub no_writer_still : (x : Range) (a b : OpName) → b.task ≤ last → NoWriterBetween ts x a b → NoWriterBetween us x a b
  no_writer_still x a b low none o after before h =
      none o after before (writer_back x o (omega (arith, before, low)) h)

-- ---- the names in the machine

among_by : (q : Option Operand) (a : Option Operand) (b : Option Range) (x : Range)
    → (b ≡ Some x → (p : Operand) × (a ≡ Some p) × (p.object ≡ x)) → object_or q b ≡ Some x
    → (p : Operand) × (first_there q a ≡ Some p) × (p.object ≡ x)
among_by None a b x step e = step e
among_by (Some q) a b x step e = (q, refl, same_Some q.object x e)

-- a name with an object has an operand on it
pub among_object : (ts : List Task) (o : OpName) (x : Range) → object_in ts o ≡ Some x
    → (p : Operand) × (operand_among ts o ≡ Some p) × (p.object ≡ x)
among_object [] o x e = absurd (none-some x e)
among_object (t ∷ ts) o x e =
    among_by (operand_in (Some t) o) (operand_among ts o) (object_in ts o) x (among_object ts o x) e

-- so its task was spawned
pub named_spawned : (S : State) (ts : List Task) → IsRounded S ts → (o : OpName) → HasObject (object_in ts) o
    → o.task ≤ S.main.spawned
named_spawned S ts r o named =
    let a = among_object ts o named.0 named.1 in
    of_spawned S ts r o a.0 a.1

-- an operand that is past its decode is of a task that was spawned
pub decoded_spawned : (S : State) → AreOrderly S → (o : OpName) → is_decoded (phase_of S o) ≡ true
    → o.task ≤ S.main.spawned
decoded_spawned S orderly o e =
    let behind = (decoded_shows (look_ups S o) (orderly o) e).1 in
    ltb-false _ _ (or_parts (nat_lt S.main.spawned o.task) (inbox_has S.inbox o.task) behind).0
