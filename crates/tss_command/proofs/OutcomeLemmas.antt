-- Outcomes that are due, over files at three moments one after another.
use Rattle.std.proofs.Common.{◌≡◌, ◌≢◌, Bool, true, false, cond, inl, inr, ℕ, ◌≤◌, List, [], ◌++◌, Option, Some, None, unwrap_or, option_map, Result, Ok, Err, refl, sym, ap, ◌∙◌, subst, arith}
use Rattle.std.specs.Prelude.{bytes_eq}
use Rattle.std.proofs.lemmas.List.{append-nil}
use Rattle.std.proofs.lemmas.Slice.Eq.{bytes_eq-Decides}
use Rattle.tss_outside.specs.Outside.{Held, risen, IsPrefix, AppendsTo, HoldsPrefix, PutsPrefixTo}
use Rattle.tss_unit_runs.specs.Runs.{PutsPart}
use Rattle.tss_command.specs.declared.outcome.Refusal.{Refusal}
use Rattle.tss_command.specs.declared.outcome.Refusal.TheVariants as refusal
use Rattle.tss_command.specs.declared.command.Command as declared
use Rattle.tss_command.specs.Outcomes.{FilesSeen, KeepsFiles, FailedToRead, FailedToAppend, OnlyReads, FailedToAdd, AppendsAll, AppendsPart, AppendsPartTo, IsOutcomeOf, IsDueTo}
use Rattle.tss_command.specs.Reading.{Reading, ComesTo}
use Rattle.tss_command.specs.Words.{Command, command_meant}
use Rattle.tss_command.specs.Work.{Deed, Outcome}
use Rattle.tss_command.proofs.ReadingLemmas.{weaker}

-- a fault until a moment is one until a later moment, and one since a moment is one since an earlier moment
rises_until : (a b c : ℕ) → b ≤ c → risen a ≤ b → risen a ≤ c
rises_until a b c h k = omega arith

rises_since : (a b c : ℕ) → a ≤ b → risen b ≤ c → risen a ≤ c
rises_since a b c h k = omega arith

le_then : (a b c : ℕ) → a ≤ b → b ≤ c → a ≤ c
le_then a b c h k = omega arith

pub same_le : (a b : ℕ) → b ≡ a → a ≤ b
same_le a b e = omega (arith, e)

module _ (b m a : FilesSeen) where
  -- a reading before the moment between, as one of the whole time
  pub read_before : {T : Type 0} (w : Reading T) (r : Result T Refusal) → ((n : List ℕ) → m.read_faults n ≤ a.read_faults n) →
      ComesTo b.held (FailedToRead b m) w r → ComesTo b.held (FailedToRead b a) w r
  read_before w r more comes =
      weaker b.held (FailedToRead b m) (FailedToRead b a) (λ n. rises_until (b.read_faults n) (m.read_faults n) (a.read_faults n) (more n)) w r comes

  -- one after it, where files were only read before
  pub read_after : {T : Type 0} (w : Reading T) (r : Result T Refusal) → OnlyReads b m →
      ComesTo m.held (FailedToRead m a) w r → ComesTo b.held (FailedToRead b a) w r
  read_after w r only comes =
      weaker b.held (FailedToRead m a) (FailedToRead b a) (λ n. rises_since (b.read_faults n) (m.read_faults n) (a.read_faults n) (only.read_faults n)) w r
      (subst (λ told. ComesTo told (FailedToRead m a) w r) only.held comes)

  pub only_reads_then : OnlyReads b m → OnlyReads m a → OnlyReads b a
  only_reads_then first then = record {
    held = then.held ∙ first.held;
    read_faults = λ n. le_then (b.read_faults n) (m.read_faults n) (a.read_faults n) (first.read_faults n) (then.read_faults n);
    append_faults = λ n. then.append_faults n ∙ first.append_faults n;
  }

  -- appending after files were only read, as in the whole time
  pub appends_after : (name bytes : List ℕ) → OnlyReads b m → AppendsTo m.held a.held name bytes → AppendsTo b.held a.held name bytes
  appends_after name bytes only appends = subst (λ told. AppendsTo told a.held name bytes) only.held appends

  pub part_after : (name bytes : List ℕ) → OnlyReads b m → AppendsPartTo m.held a.held name bytes → AppendsPartTo b.held a.held name bytes
  part_after name bytes only part = subst (λ told. AppendsPartTo told a.held name bytes) only.held part

  pub fault_after : (name : List ℕ) → OnlyReads b m → FailedToAppend m a name → FailedToAppend b a name
  fault_after name only fault = rises_since (b.append_faults name) (m.append_faults name) (a.append_faults name) (same_le _ _ (only.append_faults name)) fault

-- a part that stands after what a file held
pub prefix_part : (before after : Option Held) (name bytes : List ℕ) → PutsPrefixTo before after name bytes → AppendsPartTo before after name bytes
prefix_part before None name bytes put = tt
prefix_part before (Some b) name bytes (a, is, holds, same) = (a, is, part holds, same)
  where
    part : HoldsPrefix (a name) (b name) bytes → (p : List ℕ) × IsPrefix p bytes × (unwrap_or (b name) [] ≡ unwrap_or (a name) [] ++ p)
    part (inl same) = ([], (bytes, refl), ap (λ o. unwrap_or o []) same ∙ sym (append-nil (unwrap_or (a name) [])))
    part (inr more) = (more.0, more.1, ap (λ o. unwrap_or o []) more.2)

some_same : {X : Type 0} {x y : X} → Some x ≡ Some y → x ≡ y
some_same e = cc

none_some : {X : Type 0} {x : X} → None ≡ Some x → ⊥
none_some e = cc

-- a file of another name holds the same
same_at : (a b : Held) (name n : List ℕ) (t : Bool) → bytes_eq n name ≡ t → n ≢ name → cond t None (a n) ≡ cond t None (b n) → b n ≡ a n
same_at a b name n true e apart same = absurd (apart ((bytes_eq-Decides n name).0 e))
same_at a b name n false e apart same = sym same

-- a part of a log that was put into its file
pub log_part : (before after : Option Held) (name text : List ℕ) → PutsPart before after name text → AppendsPartTo before after name text
log_part before None name text put = tt
log_part None (Some b) name text put = absurd (none_some put.others)
log_part (Some a) (Some b) name text put = (
  a,
  refl,
  (put.part.0, put.part.1, put.part.2.2 ∙ ap (λ x. x ++ put.part.0) (sym (some_same put.part.2.1))),
  λ n apart. same_at a b name n (bytes_eq n name) refl apart (ap (λ f. f n) (some_same put.others)),
)

-- a refusal after files were only read
pub refused : (b a : FilesSeen) (w : Reading Deed) (o : Outcome) (e : Refusal) → o ≡ Err e → ComesTo b.held (FailedToRead b a) w (Err e) → OnlyReads b a →
    IsOutcomeOf b a w o
refused b a w o e is comes only = inl (e, is, comes, only.held)

-- want of memory after files were kept
pub ran_out_after : (b a : FilesSeen) (w : Reading Deed) (o : Outcome) → o ≡ Err refusal.NoMemory → KeepsFiles b a → IsOutcomeOf b a w o
ran_out_after b a w o is kept = inl (refusal.NoMemory, is, inl refl, kept)

-- and want of memory
pub ran_out : (b a : FilesSeen) (w : Reading Deed) (o : Outcome) → o ≡ Err refusal.NoMemory → OnlyReads b a → IsOutcomeOf b a w o
ran_out b a w o is only = refused b a w o refusal.NoMemory is (inl refl) only

-- something was found, and it was done
pub does : (b a : FilesSeen) (w : Reading Deed) (d : Deed) (o : Outcome) → ComesTo b.held (FailedToRead b a) w (Ok d) → o ≡ Ok d.report → AppendsAll b a d.appended →
    IsOutcomeOf b a w o
does b a w d o comes is all = inr (d, comes, inl (is, all))

-- or appending failed
pub fails : (b a : FilesSeen) (w : Reading Deed) (d : Deed) (o : Outcome) → ComesTo b.held (FailedToRead b a) w (Ok d) → o ≡ Err refusal.WriteLog → FailedToAdd b a d.appended →
    AppendsPart b a d.appended → IsOutcomeOf b a w o
fails b a w d o comes is fault part = inr (d, comes, inr (is, fault, part))

-- what is due to the command that words were found to be is due to them
pub due_to_words : (b a : FilesSeen) (o : Outcome) {parsed : Option declared.Command} {found command : declared.Command}
    {meant : Option Command} → option_map command_meant parsed ≡ meant → parsed ≡ Some found → found ≡ command
    → IsDueTo (Some (command_meant command)) b a o → IsDueTo meant b a o
due_to_words b a o same is found_is due =
    subst (λ k. IsDueTo k b a o)
    (ap (λ x. option_map command_meant (Some x)) (sym found_is) ∙ ap (option_map command_meant) (sym is) ∙ same) due
