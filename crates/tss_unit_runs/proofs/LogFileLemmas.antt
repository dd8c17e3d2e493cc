-- What a log that began with the header tells of its file.
use Rattle.std.proofs.Common.{◌≡◌, ℕ, Bool, true, false, cond, List, [], ◌∷◌, ◌++◌, map, flat_map, Option, Some, None, refl, sym, ap, ◌∙◌, subst, append_assoc}
use Rattle.std.specs.Prelude.{bytes_eq, unwrap_or}
use Rattle.std.proofs.lemmas.Slice.Eq.{bytes_eq-Decides}
use Rattle.std.proofs.lemmas.List.{map-append}
use Rattle.std.proofs.lemmas.Grind.{flat_map-append}
use Rattle.tss_base.specs.declared.event.Event.{Event}
use Rattle.tss_outside.specs.declared.files.Files.{Ghosts}
use Rattle.tss_outside.specs.Outside.{Held, Rose, IsPrefix, SameOthers, AppendsTo, AppendsWhereTold, PutsPrefix}
use Rattle.tss_protocol.specs.Text.{event_text, ended_line, log_header, log_text}
use Rattle.tss_log.specs.Logs.{followed_by, Stays, Grows, HoldsPart}
use Rattle.tss_log.specs.declared.file_log.FileLog.{FileLog}
use Rattle.tss_log.specs.FileLogs.{held_under, held_beside, held_by, text_by, other_by, faults_by, KeepsFiles}
use Rattle.tss_schedule.specs.Driving.{lines_text}
use Rattle.tss_unit_runs.specs.Runs.{PutsPart}

none_some : {X : Type 0} {x : X} → None ≡ Some x → ⊥
none_some e = cc

some_same : {X : Type 0} {x y : X} → Some x ≡ Some y → x ≡ y
some_same e = cc

-- ---- other files

-- where all others are told alike, each is
others_same : (a b : Held) (name : List ℕ) → held_beside name (Some a) ≡ held_beside name (Some b) → SameOthers a b name
others_same a b name same n apart =
    sym (at b) ∙ sym (ap (λ (h : Held). h n) (some_same same)) ∙ at a
  where
    off : bytes_eq n name ≡ false
    off = by (bytes_eq n name) refl
      where
        by : (t : Bool) → bytes_eq n name ≡ t → t ≡ false
        by true e = absurd (apart ((bytes_eq-Decides n name).0 e))
        by false e = refl

    at : (h : Held) → cond (bytes_eq n name) None (h n) ≡ h n
    at h = ap (λ t. cond t None (h n)) off

-- ---- the log's own

-- a log of events is the header and their lines
log_lines : (es : List Event) → log_text es ≡ ended_line log_header ++ lines_text es
log_lines es = refl

-- the header and all lines were put
file_appended : (o p : Option (List ℕ)) (lines : List ℕ) → AppendsWhereTold (followed_by (ended_line log_header) o) p lines
    → AppendsWhereTold o p (ended_line log_header ++ lines)
file_appended o None lines h = tt
file_appended None (Some b) lines h = absurd (none_some h.1)
file_appended (Some a) (Some b) lines h =
    (a, refl, h.2 ∙ ap (λ l. l ++ lines) (sym (some_same h.1)) ∙ append_assoc a (ended_line log_header) lines)

-- a file to which something was appended is there
whole_file : (old new : Option Held) (name bytes : List ℕ) (c : ℕ) (cs : List ℕ) → bytes ≡ c ∷ cs
    → AppendsWhereTold (held_under name old) (held_under name new) bytes
    → Stays (held_beside name old) (held_beside name new) → AppendsTo old new name bytes
whole_file old None name bytes c cs is put others = tt
whole_file None (Some b) name bytes c cs is put others = absurd (none_some others)
whole_file (Some a) (Some b) name bytes c cs is put others =
    let same : unwrap_or (a name) [] ≡ put.0 = some_same put.1 in
    (a, refl, there (b name) refl (put.2 ∙ ap (λ l. l ++ bytes) (sym same)), others_same a b name others)
  where
    some_text : (xs : List ℕ) → xs ++ c ∷ cs ≡ [] → ⊥
    some_text [] e = cc
    some_text (x ∷ xs) e = cc

    there : (o : Option (List ℕ)) → b name ≡ o → unwrap_or o [] ≡ unwrap_or (a name) [] ++ bytes
        → b name ≡ Some (unwrap_or (a name) [] ++ bytes)
    there None e is_all = absurd (some_text (unwrap_or (a name) []) (ap (λ l. unwrap_or (a name) [] ++ l) (sym is) ∙ sym is_all))
    there (Some x) e is_all = e ∙ ap Some is_all

-- the file has the whole log
pub file_whole : (old new : Option Held) (name : List ℕ) (es : List Event)
    → AppendsWhereTold (followed_by (ended_line log_header) (held_under name old)) (held_under name new) (lines_text es)
    → Stays (held_beside name old) (held_beside name new) → AppendsTo old new name (log_text es)
file_whole old new name es put others =
    whole_file old new name (log_text es) 116 _ refl
    (file_appended (held_under name old) (held_under name new) (lines_text es) put) others

-- ---- a part of a log

-- what is held is a part of a longer text too
part_of_more : (xs ys rest held : List ℕ) (o : List ℕ) → IsPrefix held (o ++ xs) → ys ≡ xs ++ rest → IsPrefix held (o ++ ys)
part_of_more xs ys rest held o part more = (
  part.0 ++ rest,
  ap (λ l. o ++ l) more ∙ sym (append_assoc o xs rest) ∙ ap (λ l. l ++ rest) part.1
      ∙ append_assoc held part.0 rest,
)

-- what grew, and is a part of what was with more after it, grew by a part of that
grown_part : (o held xs : List ℕ) → IsPrefix o held → IsPrefix held (o ++ xs) → (p : List ℕ) × IsPrefix p xs × (held ≡ o ++ p)
grown_part o held xs grown part =
    (grown.0, (part.0, same o (part.1 ∙ ap (λ l. l ++ part.0) grown.1 ∙ append_assoc o grown.0 part.0)), grown.1)
  where
    same : (o : List ℕ) → o ++ xs ≡ o ++ (grown.0 ++ part.0) → xs ≡ grown.0 ++ part.0
    same [] e = e
    same (x ∷ o) e = same o (tails (o ++ xs) (o ++ (grown.0 ++ part.0)) e)
      where
        tails : (ys zs : List ℕ) → x ∷ ys ≡ x ∷ zs → ys ≡ zs
        tails ys zs e = cc

-- a part of the log was put
part_put : (o p : Option (List ℕ)) (es fs rest : List Event) → Grows o p
    → HoldsPart (followed_by (lines_text es) (followed_by (ended_line log_header) o)) p → fs ≡ es ++ rest
    → PutsPrefix o p (log_text fs)
part_put o None es fs rest grows part more = ([], (log_text fs, refl), tt)
part_put None (Some b) es fs rest grows part more = absurd (none_some grows.1)
part_put (Some a) (Some b) es fs rest grows part more =
    let same : a ≡ grows.0 = some_same grows.1 in
    let text : (a ++ ended_line log_header) ++ lines_text es ≡ part.0 = some_same part.1 in
    let all : IsPrefix b (a ++ log_text es) =
    (part.2.0, sym (append_assoc a (ended_line log_header) (lines_text es)) ∙ text ∙ part.2.1) in
    let whole : log_text fs ≡ log_text es ++ lines_text rest =
    ap log_text more
    ∙ ap (λ l. ended_line log_header ++ l)
    (ap (flat_map ended_line) (map-append event_text es rest)
    ∙ flat_map-append ended_line (map event_text es) (map event_text rest))
    ∙ sym (append_assoc (ended_line log_header) (lines_text es) (lines_text rest)) in
    let grown : IsPrefix a b = (grows.2.0, grows.2.1 ∙ ap (λ l. l ++ grows.2.0) (sym same)) in
    let put = grown_part a b (log_text fs) grown (part_of_more (log_text es) (log_text fs) (lines_text rest) b a all whole) in
    (put.0, put.1, (a, refl, put.2))

pub file_part : (old new : Option Held) (name : List ℕ) (es fs rest : List Event)
    → Grows (held_under name old) (held_under name new)
    → HoldsPart (followed_by (lines_text es) (followed_by (ended_line log_header) (held_under name old))) (held_under name new)
    → fs ≡ es ++ rest → Stays (held_beside name old) (held_beside name new) → PutsPart old new name (log_text fs)
file_part old new name es fs rest grows part more others = record {
  part = part_put (held_under name old) (held_under name new) es fs rest grows part more;
  others = others;
}

-- ---- by a log

module _ {F : Type 0} (g : Ghosts F) (old new : FileLog F) (header : old.kept ≡ ended_line log_header)
    (keeps : KeepsFiles g old new) where
  -- what it tells under its name, before and after
  text_before : text_by g old ≡ followed_by (ended_line log_header) (held_under old.name.now (g.held old.files.now))
  text_before = ap (λ kept. followed_by kept (held_by g old)) header

  held_after : held_by g new ≡ held_under old.name.now (g.held new.files.now)
  held_after = ap (λ name. held_under name (g.held new.files.now)) keeps.name

  others_after : Stays (other_by g old) (other_by g new)
      → Stays (held_beside old.name.now (g.held old.files.now)) (held_beside old.name.now (g.held new.files.now))
  others_after others =
      subst (λ name. Stays (other_by g old) (held_beside name (g.held new.files.now))) keeps.name others

  -- the file has the whole log
  pub logged_whole : (es fs : List Event) → AppendsWhereTold (text_by g old) (text_by g new) (lines_text es)
      → held_by g new ≡ text_by g new → Stays (other_by g old) (other_by g new) → es ≡ fs
      → AppendsTo (g.held old.files.now) (g.held new.files.now) old.name.now (log_text fs)
  logged_whole es fs put none_kept others same =
      subst (λ es. AppendsTo (g.held old.files.now) (g.held new.files.now) old.name.now (log_text es)) same
      (file_whole (g.held old.files.now) (g.held new.files.now) old.name.now es
      (subst (λ t. AppendsWhereTold t (held_under old.name.now (g.held new.files.now)) (lines_text es)) text_before
      (subst (λ t. AppendsWhereTold (text_by g old) t (lines_text es)) (sym none_kept ∙ held_after) put))
      (others_after others))

  -- or a part of it
  pub logged_part : (es fs : List Event) → Grows (held_by g old) (held_by g new)
      → HoldsPart (followed_by (lines_text es) (text_by g old)) (held_by g new) → Stays (other_by g old) (other_by g new)
      → (rest : List Event) × (fs ≡ es ++ rest)
      → PutsPart (g.held old.files.now) (g.held new.files.now) old.name.now (log_text fs)
  logged_part es fs grows part others before =
      file_part (g.held old.files.now) (g.held new.files.now) old.name.now es fs before.0
      (subst (Grows (held_by g old)) held_after grows)
      (subst (λ t. HoldsPart (followed_by (lines_text es) t) (held_under old.name.now (g.held new.files.now))) text_before
      (subst (HoldsPart (followed_by (lines_text es) (text_by g old))) held_after part))
      before.1 (others_after others)

  -- the count of its appends rose
  pub logged_rose : Rose (faults_by g old) (faults_by g new)
      → Rose (g.append_faults old.files.now old.name.now) (g.append_faults new.files.now old.name.now)
  logged_rose rose =
      subst (λ name. Rose (faults_by g old) (g.append_faults new.files.now name)) keeps.name rose
