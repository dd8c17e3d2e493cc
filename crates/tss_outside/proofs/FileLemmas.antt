-- Files in a list, found by name, after one has changed or another has come.
use Rattle.std.proofs.Common.{◌≡◌, ◌≢◌, ℕ, zero, suc, ◌<◌, ◌≤◌, Bool, true, false, cond, List, [], ◌∷◌, ◌++◌, length, get_or, Option, Some, None, refl, sym, ap, ◌∙◌, subst, inl, inr, ◌⊎◌, arith, Result, Ok, Err, OnOk, OnErr, Vec, Global}
use Rattle.std.proofs.Math.ListN.{set}
use Rattle.std.specs.Prelude.{nat_lt, slice_get, unwrap_or, is_some}
use Rattle.std.specs.Option.{option_map_or}
use Rattle.std.specs.List.{find, position, position_or_len}
use Rattle.std.specs.Str.{bytes_eq}
use Rattle.std.proofs.lemmas.Bool.Decides.{nat_tests}
use Rattle.std.proofs.lemmas.Slice.Eq.{bytes_eq-Decides}
use Rattle.std.proofs.lemmas.List.Folds.{find-set, find_at, position_or_len-set}
use Rattle.std.proofs.lemmas.List.Sums.{passes_at_first}
use Rattle.std.proofs.lemmas.Option.{slice_get-get_or, slice_get_past}
use Rattle.std.proofs.lemmas.List.{set-get_or}
use Rattle.tss_outside.specs.declared.files.Failed.{Failed as Fault}
use Rattle.tss_outside.specs.declared.files.FileFault.{FileFault}
use Rattle.tss_outside.specs.declared.files.FileFault.TheVariants as fault
use Rattle.tss_outside.specs.Outside.{risen, is_failed}
use Rattle.tss_outside.specs.MemFiles.{FileState, MemFilesState, ChangesFile, file_of, file_or_new, new_file, has_name, read_once, appended_once, with_read_fault, with_append_fault, with_bytes, CountsReadFault, CountsAppendFault, AfterRead, AfterAppend}

-- a place is given only where the test of it passed
some_place : (b : Bool) (p i : ℕ) → cond b (Some p) None ≡ Some i → (b ≡ true) × (p ≡ i)
some_place true p i e = (refl, cc)
some_place false p i e = absurd (cc)

no_place : (b : Bool) (p : ℕ) → cond b (Some p) None ≡ None → b ≡ false
no_place true p e = absurd (cc)
no_place false p e = refl

false_unless : (b : Bool) → (b ≡ true → ⊥) → b ≡ false
false_unless true h = absurd (h refl)
false_unless false h = refl

below : (m n : ℕ) → nat_lt m n ≡ true → m < n
below m n e = grind (arith, nat_tests)

not_below : (m n : ℕ) → nat_lt m n ≡ false → n ≤ m
not_below m n e = grind (arith, nat_tests)

true_not_false : {b : Bool} → true ≡ b → b ≡ false → ⊥
true_not_false e f = cc

-- past a file that isn't found the search goes on
found_later : (b : Bool) (f g : FileState) (rest more : Option FileState) → cond b (Some f) rest ≡ None → (rest ≡ None → more ≡ Some g) → cond b (Some f) more ≡ Some g
found_later true f g rest more e h = absurd (cc)
found_later false f g rest more e h = h e

-- a write beside a place leaves what is there
slice_get-set_other : (xs : List FileState) (i j : ℕ) (y : FileState) → j ≢ i → slice_get (set xs i y) j ≡ slice_get xs j
slice_get-set_other [] i j y h = refl
slice_get-set_other (x ∷ xs) zero zero y h = absurd (h refl)
slice_get-set_other (x ∷ xs) zero (suc j) y h = refl
slice_get-set_other (x ∷ xs) (suc i) zero y h = refl
slice_get-set_other (x ∷ xs) (suc i) (suc j) y h = slice_get-set_other xs i j y (λ e. h (ap suc e))

-- a file that has one name has no other
pub other_name : (f : FileState) (m n : List ℕ) → f.name ≡ n → m ≢ n → has_name m f ≡ false
other_name f m n e h = false_unless _ (λ t. h (sym ((bytes_eq-Decides f.name m).0 t) ∙ e))

pub own_name : (f : FileState) (n : List ℕ) → f.name ≡ n → has_name n f ≡ true
own_name f n e = (bytes_eq-Decides f.name n).1 e

module _ (fs : List FileState) (n : List ℕ) (i : ℕ) (at : position (has_name n) fs ≡ Some i) where
  first : (nat_lt (position_or_len (has_name n) fs) (length fs) ≡ true) × (position_or_len (has_name n) fs ≡ i)
  first = some_place _ _ _ at

  pub place_within : i < length fs
  place_within = subst (λ k. k < length fs) first.1 (below _ _ first.0)

  -- the file at the place has the name
  pub named : (d : FileState) → (get_or fs i d).name ≡ n
  named d =
      (bytes_eq-Decides _ n).0
      (subst (λ k. has_name n (get_or fs k d) ≡ true) first.1 (passes_at_first (has_name n) fs d (below _ _ first.0)))

  -- and is what is found
  pub found : (d : FileState) → find (has_name n) fs ≡ Some (get_or fs i d)
  found d = find_at (has_name n) fs ∙ ap (slice_get fs) first.1 ∙ slice_get-get_or fs i d place_within

  -- another in its place is found
  pub found_changed : (g : FileState) → g.name ≡ n → find (has_name n) (set fs i g) ≡ Some g
  found_changed g e = find-set (has_name n) fs i g (sym first.1) place_within (own_name g n e)

  -- and what is found under other names is as it was
  pub found_beside : (g : FileState) → g.name ≡ n → (m : List ℕ) → m ≢ n → find (has_name m) (set fs i g) ≡ find (has_name m) fs
  found_beside g e m h =
      let before : has_name m (get_or fs i g) ≡ false = other_name (get_or fs i g) m n (named g) h in
      let p = position_or_len (has_name m) fs in
      let same : position_or_len (has_name m) (set fs i g) ≡ p = position_or_len-set (has_name m) fs i g g (other_name g m n e h ∙ sym before) in
      let apart : p ≢ i = λ e. true_not_false (sym (subst (λ k. has_name m (get_or fs k g) ≡ true) e (passes_at_first (has_name m) fs g (subst (λ k. k < length fs) (sym e) place_within)))) before in
      find_at (has_name m) (set fs i g)
      ∙ ap (slice_get (set fs i g)) same
      ∙ slice_get-set_other fs i p g apart
      ∙ sym (find_at (has_name m) fs)

-- no place, so nothing is found
pub not_found : (fs : List FileState) (n : List ℕ) → position (has_name n) fs ≡ None → find (has_name n) fs ≡ None
not_found fs n e = find_at (has_name n) fs ∙ slice_get_past fs _ (not_below _ _ (no_place _ _ e))

-- a file that has come last is found, where its name was not
pub found_added : (fs : List FileState) (n : List ℕ) (g : FileState) → find (has_name n) fs ≡ None → g.name ≡ n → find (has_name n) (fs ++ g ∷ []) ≡ Some g
found_added [] n g e h = ap (λ b. cond b (Some g) None) (own_name g n h)
found_added (f ∷ fs) n g e h = found_later (has_name n f) f g _ _ e (λ none. found_added fs n g none h)

-- and what is found under other names is as it was
pub found_beside_added : (fs : List FileState) (n : List ℕ) (g : FileState) → g.name ≡ n → (m : List ℕ) → m ≢ n → find (has_name m) (fs ++ g ∷ []) ≡ find (has_name m) fs
found_beside_added [] n g e m h = ap (λ b. cond b (Some g) None) (other_name g m n e h)
found_beside_added (f ∷ fs) n g e m h = ap (λ o. cond (has_name m f) (Some f) o) (found_beside_added fs n g e m h)

-- the file at a place has become h of it
pub changes_at : (s : MemFilesState) (n : List ℕ) (i : ℕ) (f g : FileState) (h : FileState → FileState) → position (has_name n) s.files ≡ Some i → f ≡ get_or s.files i f → g ≡ h f → ((x : FileState) → (h x).name ≡ x.name) → ChangesFile s (record s { files = set s.files i g }) n (h (file_or_new s n))
changes_at s n i f g h at is made kept =
    let old : file_of s n ≡ Some f = found s.files n i at f ∙ ap (λ x. Some x) (sym is) in
    let now : g ≡ h (file_or_new s n) = made ∙ ap (λ o. h (unwrap_or o (new_file s n))) (sym old) in
    let name : g.name ≡ n = ap (λ (x : FileState). x.name) made ∙ kept f ∙ ap (λ (x : FileState). x.name) is ∙ named s.files n i at f in
    record {
      changed = found_changed s.files n i at g name ∙ ap (λ x. Some x) now;
      others = λ m other. found_beside s.files n i at g name m other;
      rest = refl;
    }

-- a name that has become known has h of a new file
pub changes_added : (s : MemFilesState) (n : List ℕ) (g : FileState) (h : FileState → FileState) → position (has_name n) s.files ≡ None → g ≡ h (new_file s n) → ((x : FileState) → (h x).name ≡ x.name) → ChangesFile s (record s { files = s.files ++ g ∷ [] }) n (h (file_or_new s n))
changes_added s n g h at made kept =
    let none : file_of s n ≡ None = not_found s.files n at in
    let now : g ≡ h (file_or_new s n) = made ∙ ap (λ o. h (unwrap_or o (new_file s n))) (sym none) in
    let name : g.name ≡ n = ap (λ (x : FileState). x.name) made ∙ kept (new_file s n) in
    record {
      changed = found_added s.files n g none name ∙ ap (λ x. Some x) now;
      others = λ m other. found_beside_added s.files n g name m other;
      rest = refl;
    }

decide_by : (b : Bool) (m n : List ℕ) → (b ≡ true → m ≡ n) → (m ≡ n → b ≡ true) → (m ≡ n) ⊎ (m ≢ n)
decide_by true m n is back = inl (is refl)
decide_by false m n is back = inr (λ e. true_not_false (sym (back e)) refl)

-- an order along two equations
pub at_most : {a b x y : ℕ} → a ≡ x → b ≡ y → x ≤ y → a ≤ b
at_most p q h = omega (arith, p, q)

-- two lists of bytes are equal or not
decide_name : (m n : List ℕ) → (m ≡ n) ⊎ (m ≢ n)
decide_name m n = decide_by (bytes_eq m n) m n (bytes_eq-Decides m n).0 (bytes_eq-Decides m n).1

-- the file at the place of a name has become another of that name
module _ (fs : List FileState) (n : List ℕ) (i : ℕ) (at : position (has_name n) fs ≡ Some i) (f g : FileState) (is : f ≡ get_or fs i f) (kept : g.name ≡ f.name) where
  pub change_here : find (has_name n) fs ≡ Some f
  change_here = found fs n i at f ∙ ap (λ x. Some x) (sym is)

  pub change_name : g.name ≡ n
  change_name = kept ∙ ap (λ (x : FileState). x.name) is ∙ named fs n i at f

  pub change_now : find (has_name n) (set fs i g) ≡ Some g
  change_now = found_changed fs n i at g change_name

  pub change_beside : (m : List ℕ) → m ≢ n → find (has_name m) (set fs i g) ≡ find (has_name m) fs
  change_beside = found_beside fs n i at g change_name

  -- what is the same of both files is the same of all
  pub change_same : (X : Type 0) (P : Option FileState → X) → P (Some g) ≡ P (Some f) → (m : List ℕ) → P (find (has_name m) (set fs i g)) ≡ P (find (has_name m) fs)
  change_same X P e m = elim (decide_name m n) [
    | inl same ↦ ap (λ k. P (find (has_name k) (set fs i g))) same ∙ ap P change_now ∙ e ∙ ap P (sym change_here) ∙ ap (λ k. P (find (has_name k) fs)) (sym same)
    | inr other ↦ ap P (change_beside m other)
  ]

  -- a count that has not fallen there has fallen nowhere
  pub change_counts : (count : FileState → ℕ) (d : ℕ) → count f ≤ count g → (m : List ℕ) → option_map_or count (find (has_name m) fs) d ≤ option_map_or count (find (has_name m) (set fs i g)) d
  change_counts count d h m = elim (decide_name m n) [
    | inl same ↦ at_most (ap (λ k. option_map_or count (find (has_name k) fs) d) same ∙ ap (λ o. option_map_or count o d) change_here) (ap (λ k. option_map_or count (find (has_name k) (set fs i g)) d) same ∙ ap (λ o. option_map_or count o d) change_now) h
    | inr other ↦ at_most refl (ap (λ o. option_map_or count o d) (change_beside m other)) (omega arith)
  ]

-- a name has a place where something is found under it
pub placed_or_not : (fs : List FileState) (n : List ℕ) (o : Option ℕ) → position (has_name n) fs ≡ o → is_some o ≡ is_some (find (has_name n) fs)
placed_or_not fs n None e = ap is_some (sym (not_found fs n e))
placed_or_not fs n (Some i) e =
    let any : FileState = record { name = n; bytes = None; room = 0; read_faults = 0; append_faults = 0 } in
    ap is_some (sym (found fs n i e any))

-- ---- what calls leave

-- a file in its own place changes nothing
same_files : (fs : List FileState) (i : ℕ) (f g : FileState) → f ≡ get_or fs i f → g ≡ f → set fs i g ≡ fs
same_files fs i f g is e = ap (set fs i) (e ∙ is) ∙ set-get_or fs i f

-- the file at the place of a name is now g
changes_to : (s : MemFilesState) (n : List ℕ) (i : ℕ) (f g : FileState) → position (has_name n) s.files ≡ Some i →
    f ≡ get_or s.files i f → g.name ≡ f.name → ChangesFile s (record s { files = set s.files i g }) n g
changes_to s n i f g at is kept =
    record {
      changed = change_now s.files n i at f g is kept;
      others = λ m other. change_beside s.files n i at f g is kept m other;
      rest = refl;
    }

-- it is what was found
file_at : (s : MemFilesState) (n : List ℕ) (i : ℕ) (f : FileState) → position (has_name n) s.files ≡ Some i →
    f ≡ get_or s.files i f → file_of s n ≡ Some f
file_at s n i f at is = change_here s.files n i at f f is refl

-- a read of the file at the place of a name
read_at : (s : MemFilesState) (n : List ℕ) (i : ℕ) (f g : FileState) (r : Result (Vec ℕ Global) FileFault) →
    position (has_name n) s.files ≡ Some i → f ≡ get_or s.files i f → g ≡ cond (is_failed r) (with_read_fault f) f →
    AfterRead s (record (read_once s) { files = set s.files i g }) n r
read_at s n i f g (Ok v) at is e = λ j. record (read_once s) { files = same_files s.files i f g is e j }
read_at s n i f g (Err (fault.TooLong k)) at is e = λ j. record (read_once s) { files = same_files s.files i f g is e j }
read_at s n i f g (Err fault.NoMemory) at is e = λ j. record (read_once s) { files = same_files s.files i f g is e j }
read_at s n i f g (Err fault.Failed) at is e =
    let new : MemFilesState = record (read_once s) { files = set s.files i g } in
    subst (CountsReadFault (read_once s) new n) (sym (file_at s n i f at is))
    (subst (λ h. ChangesFile (read_once s) new n h) e
    (changes_to (read_once s) n i f g at is (ap (λ (x : FileState). x.name) e)))

pub after_read : (s : MemFilesState) (n : List ℕ) (i : ℕ) (f g : FileState) (r : Result (Vec ℕ Global) FileFault) (k : ℕ) →
    position (has_name n) s.files ≡ Some i → f ≡ get_or s.files i f → g ≡ cond (is_failed r) (with_read_fault f) f →
    k ≡ risen s.reads → AfterRead s (record s { files = set s.files i g; reads = k }) n r
after_read s n i f g r k at is e count =
    subst (λ k. AfterRead s (record s { files = set s.files i g; reads = k }) n r) (sym count) (read_at s n i f g r at is e)

-- one of a name that isn't known
pub after_missed_read : (s : MemFilesState) (n : List ℕ) (k m : ℕ) → position (has_name n) s.files ≡ None →
    k ≡ risen s.reads → m ≡ risen s.other_read_faults →
    CountsReadFault (read_once s) (record s { reads = k; other_read_faults = m }) n (file_of s n)
after_missed_read s n k m at count faults =
    subst (CountsReadFault (read_once s) (record s { reads = k; other_read_faults = m }) n) (sym (not_found s.files n at))
    (λ j. record s { reads = count j; other_read_faults = faults j })

-- an append to the file at the place of a name
append_at : (s : MemFilesState) (n : List ℕ) (i : ℕ) (f g : FileState) (bytes : List ℕ) (r : Result (Unit {0}) Fault) (A B C : Type 0) →
    position (has_name n) s.files ≡ Some i → f ≡ get_or s.files i f → OnOk r (A × B × (g ≡ with_bytes bytes f)) →
    OnErr r (C × (g ≡ with_append_fault f)) → AfterAppend s (record (appended_once s) { files = set s.files i g }) n bytes r
append_at s n i f g bytes (Ok v) A B C at is done failed =
    let new : MemFilesState = record (appended_once s) { files = set s.files i g } in (
      f,
      file_at s n i f at is,
      subst (λ h. ChangesFile (appended_once s) new n h) done.2
          (changes_to (appended_once s) n i f g at is (ap (λ (x : FileState). x.name) done.2)),
    )
append_at s n i f g bytes (Err e) A B C at is done failed =
    let new : MemFilesState = record (appended_once s) { files = set s.files i g } in
    subst (CountsAppendFault (appended_once s) new n) (sym (file_at s n i f at is))
    (subst (λ h. ChangesFile (appended_once s) new n h) failed.1
    (changes_to (appended_once s) n i f g at is (ap (λ (x : FileState). x.name) failed.1)))

pub after_append : (s : MemFilesState) (n : List ℕ) (i : ℕ) (f g : FileState) (bytes : List ℕ) (r : Result (Unit {0}) Fault) (k : ℕ) (A B C : Type 0) →
    position (has_name n) s.files ≡ Some i → f ≡ get_or s.files i f → OnOk r (A × B × (g ≡ with_bytes bytes f)) →
    OnErr r (C × (g ≡ with_append_fault f)) → k ≡ risen s.appends →
    AfterAppend s (record s { files = set s.files i g; appends = k }) n bytes r
after_append s n i f g bytes r k A B C at is done failed count =
    subst (λ k. AfterAppend s (record s { files = set s.files i g; appends = k }) n bytes r) (sym count)
    (append_at s n i f g bytes r A B C at is done failed)

-- one to a name that isn't known
pub after_missed_append : (s : MemFilesState) (n : List ℕ) (k m : ℕ) → position (has_name n) s.files ≡ None →
    k ≡ risen s.appends → m ≡ risen s.other_append_faults →
    CountsAppendFault (appended_once s) (record s { appends = k; other_append_faults = m }) n (file_of s n)
after_missed_append s n k m at count faults =
    subst (CountsAppendFault (appended_once s) (record s { appends = k; other_append_faults = m }) n) (sym (not_found s.files n at))
    (λ j. record s { appends = count j; other_append_faults = faults j })
