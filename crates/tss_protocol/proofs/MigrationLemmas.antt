-- A log of the older format gives the same run in the present one.
use Rattle.std.proofs.Common.{◌≡◌, ℕ, suc, Bool, true, false, cond, List, [], ◌∷◌, ◌++◌, Option, Some, None, refl, sym}
use Rattle.std.proofs.Common.{ap, ◌∙◌, true≢false}
use Rattle.std.specs.Prelude.{◌==◌, if◌then◌else◌, is_none, bytes_eq, Ok}
use Rattle.std.specs.List.{onto_first}
use Rattle.std.proofs.lemmas.Slice.Eq.{bytes_eq-Decides}
use Rattle.tss_base.specs.declared.machine.Machine.{Machine}
use Rattle.tss_base.specs.declared.event.Event.{Event}
use Rattle.tss_protocol.specs.State.{State, initial_state}
use Rattle.tss_protocol.specs.Text.{event_of_text, lines_of, line_feed, log_header, text_of_lines}
use Rattle.tss_protocol.specs.UnitMachine.{is_enabled, after_event}
use Rattle.tss_protocol.specs.Result.{is_finished}
use Rattle.tss_protocol.specs.Schedule.{NotEnabled, Short, Long, Judgement, faulted, judged_after, judged_line}
use Rattle.tss_protocol.specs.Schedule.{judged_from, judged_lines, judged}
use Rattle.tss_protocol.specs.Migration.{first_bad_line, migrated_lines, judged_later, KeepsRun}

-- ---- lines

-- no byte of it ends a line
abbrev IsLine : List ℕ → Type 0
IsLine [] = Unit {0}
IsLine (c ∷ cs) = ((c == line_feed) ≡ false) × IsLine cs

abbrev AreLines : List (List ℕ) → Type 0
AreLines [] = Unit {0}
AreLines (l ∷ ls) = IsLine l × AreLines ls

lines_onto_first : (c : ℕ) (ls : List (List ℕ)) → (c == line_feed) ≡ false → AreLines ls → AreLines (onto_first c ls)
lines_onto_first c [] e h = ((e, tt), tt)
lines_onto_first c (l ∷ ls) e h = ((e, h.0), h.1)

-- the lines of bytes are lines
are_lines : (bytes : List ℕ) → AreLines (lines_of bytes)
unfolding lines_of
are_lines [] = tt
are_lines (c ∷ cs) =
    let rest = are_lines cs in
    elim (c == line_feed) as (λ b. (c == line_feed) ≡ b
    → AreLines (cond b ([] ∷ lines_of cs) (onto_first c (lines_of cs)))) [
      | true ↦ λ e. (tt, rest)
      | false ↦ λ e. lines_onto_first c (lines_of cs) e rest
    ] refl

-- a line with its end, before other bytes
lines_of-ended : (l rest : List ℕ) → IsLine l → lines_of (l ++ line_feed ∷ rest) ≡ l ∷ lines_of rest
unfolding lines_of
lines_of-ended [] rest h = refl
lines_of-ended (c ∷ cs) rest h =
    ap (λ b. cond b ([] ∷ lines_of (cs ++ line_feed ∷ rest)) (onto_first c (lines_of (cs ++ line_feed ∷ rest)))) h.0
    ∙ ap (onto_first c) (lines_of-ended cs rest h.1)

joined : (l rest : List ℕ) → (l ++ line_feed ∷ []) ++ rest ≡ l ++ line_feed ∷ rest
joined [] rest = refl
joined (c ∷ cs) rest = ap (◌∷◌ c) (joined cs rest)

-- the lines of lines with their ends are these
lines_of-text_of_lines : (ls : List (List ℕ)) → AreLines ls → lines_of (text_of_lines ls) ≡ ls
unfolding lines_of
lines_of-text_of_lines [] h = refl
lines_of-text_of_lines (l ∷ ls) h =
    ap lines_of (joined l (text_of_lines ls))
    ∙ lines_of-ended l (text_of_lines ls) h.0
    ∙ ap (◌∷◌ l) (lines_of-text_of_lines ls h.1)

-- ---- the judgement from a later line on

-- the end at a line, by whether the state is finished
abbrev ended_at : ℕ → Bool → Judgement
ended_at n done = record { events = []; fault = if done then None else Some (Short n) }

module _ (m : Machine) where
  -- a line, by whether the state was finished before it and whether its event was enabled
  by_tests : (n : ℕ) (e : Event) (j later : Judgement) → later ≡ judged_later j → (done on : Bool)
      → (if done then faulted (Long (suc n)) else if on then judged_after e later else faulted (NotEnabled (suc n)))
      ≡ judged_later (if done then faulted (Long n) else if on then judged_after e j else faulted (NotEnabled n))
  by_tests n e j later same true on = refl
  by_tests n e j later same false true = ap (judged_after e) same
  by_tests n e j later same false false = refl

  by_event : (S : State) (n : ℕ) (rest later : State → Judgement) → ((T : State) → later T ≡ judged_later (rest T))
      → (e : Option Event) → judged_line m S (suc n) later e ≡ judged_later (judged_line m S n rest e)
  by_event S n rest later same None = refl
  by_event S n rest later same (Some e) =
      let T = after_event m S e in
      by_tests n e (rest T) (later T) (same T) (is_finished S) (is_enabled m S e)

  end_by : (n : ℕ) (done : Bool) → ended_at (suc n) done ≡ judged_later (ended_at n done)
  end_by n true = refl
  end_by n false = refl

  -- the same events, and the same fault one line later
  from_later : (ls : List (List ℕ)) (S : State) (n : ℕ)
      → judged_from m S (suc n) ls ≡ judged_later (judged_from m S n ls)
  unfolding judged_from
  from_later [] S n = end_by n (is_finished S)
  from_later (l ∷ ls) S n =
      by_event S n (λ T. judged_from m T (suc n) ls) (λ T. judged_from m T (suc (suc n)) ls)
      (λ T. from_later ls T (suc n)) (event_of_text l)

-- ---- the header

header_is_line : IsLine log_header
header_is_line = (refl, (refl, (refl, (refl, (refl, (refl, (refl, (refl, (refl, tt)))))))))

-- it is no event's text
header_is_no_event : event_of_text log_header ≡ None
unfolding event_of_text
header_is_no_event = refl

-- where each line is an event's text, the first isn't the header
not_header : (l : List ℕ) (b : Bool) → bytes_eq l log_header ≡ b → is_none (event_of_text l) ≡ false → b ≡ false
not_header l false e some = refl
not_header l true e some =
    let same = (bytes_eq-Decides l log_header).0 e in
    absurd (true≢false (sym (ap (λ l. is_none (event_of_text l)) same ∙ ap is_none header_is_no_event) ∙ some))

first_is_event : (n : ℕ) (l : List ℕ) (ls : List (List ℕ)) → first_bad_line n (l ∷ ls) ≡ None
    → is_none (event_of_text l) ≡ false
first_is_event n l ls e = elim (is_none (event_of_text l)) as (λ b. cond b (Some n) (first_bad_line (suc n) ls) ≡ None
    → b ≡ false) [ true ↦ λ e. absurd (cc) | false ↦ λ e. refl ] e

module _ (m : Machine) (S : State) where
  -- without a header the events begin at line 1
  without_header : (ls : List (List ℕ)) → first_bad_line 1 ls ≡ None → judged_lines m S ls ≡ judged_from m S 1 ls
  without_header [] e = refl
  without_header (l ∷ ls) e =
      ap (λ b. cond b (judged_from m S 2 ls) (judged_from m S 1 (l ∷ ls)))
      (not_header l (bytes_eq l log_header) refl (first_is_event 1 l ls e))

-- the law
pub keeps_run : KeepsRun
keeps_run m i bytes log e = by (first_bad_line 1 (lines_of bytes)) refl e
  where
    by : (bad : Option ℕ) → first_bad_line 1 (lines_of bytes) ≡ bad → migrated_lines (lines_of bytes) bad ≡ Ok log
        → judged m i log ≡ judged_later (judged m i bytes)
    by (Some n) is e = absurd (cc)
    by None is e =
        let ls = lines_of bytes in
        let S = initial_state i in
        let same : text_of_lines (log_header ∷ ls) ≡ log = cc in
        ap (judged m i) (sym same)
        ∙ ap (judged_lines m S) (lines_of-text_of_lines (log_header ∷ ls) (header_is_line, are_lines bytes))
        ∙ from_later m ls S 1
        ∙ ap judged_later (sym (without_header m S ls is))
