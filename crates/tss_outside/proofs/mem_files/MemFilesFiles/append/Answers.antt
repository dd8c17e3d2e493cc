-- What an append to a file in memory leaves.
use Rattle.std.proofs.Common.{false, ◌≡◌, subst, true, ◌+◌, ◌≢◌, ◌++◌, ◌-◌, [], ℕ, List, Bool, inl, Option, Some, None, sym, ap, ◌∙◌, refl, arith, length, Result, Ok, Err}
use Rattle.std.proofs.Math.ListN.{set}
use Rattle.std.specs.Prelude.{nat_lt, ◌||◌, ◌↔◌, IsErr, IsTrue, position, is_some, OnOk, OnErr, unwrap_or}
use Rattle.std.specs.Option.{option_and_then, option_map_or}
use Rattle.std.specs.List.{find}
use Rattle.tss_outside.specs.Outside.{risen}
use Rattle.tss_outside.specs.MemSink.{is_listed}
use Rattle.tss_outside.specs.contracts.mem_files.MemFiles.{the_view}
use Rattle.tss_outside.specs.MemFiles.{AfterAppend, CountsAppendFault, appended_once, fails_append, FileState, MemFilesState, has_name, file_of, is_known, bytes_of, append_faults_of, read_faults_of}
use Rattle.tss_outside.proofs.FileLemmas.{at_most, change_here, change_now, change_beside, change_same, change_counts, not_found, after_append, after_missed_append}
use Rattle.tss_outside.proofs.mem_files.MemFilesFiles.append.Goals as goal

-- what no append changes of a file
kept_by : {X : Type 0} {T : Type 0} (part : FileState → X) (r : Result (Unit {0}) T) (f g h k : FileState) (P Q R : Type 0) → part h ≡ part f → part k ≡ part f → OnOk r (P × Q × (g ≡ h)) → OnErr r (R × (g ≡ k)) → part g ≡ part f
kept_by part (Ok v) f g h k P Q R d e x y = ap part x.2 ∙ d
kept_by part (Err v) f g h k P Q R d e x y = ap part y.1 ∙ e

-- where the file stands
place : (c : goal.After-self-in-Some-1) → position (has_name c.args.name.now) c.self.inside.files.items ≡ Some c.in-Some.i
place c = ap (position (has_name c.args.name.now)) (sym c.as_slice.ensures.value) ∙ sym c.place_of.ensures ∙ c.in-Some.is

-- what an append changes of it in neither case
kept : (c : goal.After-self-in-Some-1) (X : Type 0) (part : FileState → X) → part (record (c.index_mut-file.result.now) { bytes = Some (unwrap_or c.index_mut-file.result.now.bytes [] ++ c.args.bytes.now); room = c.index_mut-file.result.now.room - length c.args.bytes.now }) ≡ part c.index_mut-file.result.now → part (record (c.index_mut-file.result.now) { append_faults = risen c.index_mut-file.result.now.append_faults }) ≡ part c.index_mut-file.result.now → part c.append.new.self ≡ part c.index_mut-file.result.now
kept c X part d e = kept_by part c.append.result c.index_mut-file.result.now c.append.new.self _ _ _ _ _ d e c.append.ensures.ok c.append.ensures.err

-- its name
name : (c : goal.After-self-in-Some-1) → c.append.new.self.name ≡ c.index_mut-file.result.now.name
name c = kept c (List ℕ) (λ x. x.name) refl refl

-- it was found
here : (c : goal.After-self-in-Some-1) → file_of c.args.self.now c.args.name.now ≡ Some c.index_mut-file.result.now
here c =
    ap (λ s. file_of s c.args.name.now) (sym c.self.view_is)
    ∙ change_here c.self.inside.files.items _ c.in-Some.i (place c) c.index_mut-file.result.now c.append.new.self c.index_mut-file.ensures.value (name c)

-- it is found now
now : (c : goal.After-self-in-Some-1) → find (has_name c.args.name.now) (set c.self.inside.files.items c.in-Some.i c.append.new.self) ≡ Some c.append.new.self
now c = change_now c.self.inside.files.items _ c.in-Some.i (place c) c.index_mut-file.result.now c.append.new.self c.index_mut-file.ensures.value (name c)

-- and what is found under other names is as it was
beside : (c : goal.After-self-in-Some-1) (m : List ℕ) → m ≢ c.args.name.now → find (has_name m) (set c.self.inside.files.items c.in-Some.i c.append.new.self) ≡ file_of c.args.self.now m
beside c m other =
    change_beside c.self.inside.files.items _ c.in-Some.i (place c) c.index_mut-file.result.now c.append.new.self c.index_mut-file.ensures.value (name c) m other
    ∙ ap (λ s. file_of s m) c.self.view_is

bytes_in : Option FileState → Option (List ℕ)
bytes_in o = option_and_then (λ (x : FileState). x.bytes) o

on_ok : {T E : Type 0} (r : Result T E) (P Q : Type 0) → (P → Q) → OnOk r P → OnOk r Q
on_ok (Ok v) P Q h p = h p
on_ok (Err e) P Q h p = tt

on_err : {T E : Type 0} (r : Result T E) (P Q : Type 0) → (P → Q) → OnErr r P → OnErr r Q
on_err (Ok v) P Q h p = tt
on_err (Err e) P Q h p = h p

pub returns-in-Some-clause-ok : goal.returns-in-Some-clause-ok
unfolding bytes_in
returns-in-Some-clause-ok c =
    on_ok c.append.result _ _ (λ done. (
      bytes_of c.args.self.now,
      refl,
      ap bytes_in (now c) ∙ ap (λ x. x.bytes) done.2 ∙ ap (λ o. Some (unwrap_or (bytes_in o) [] ++ c.args.bytes.now)) (sym (here c)),
      λ m other. ap bytes_in (beside c m other),
    )) c.append.ensures.ok

pub returns-in-Some-clause-prefix : goal.returns-in-Some-clause-prefix
unfolding bytes_in
returns-in-Some-clause-prefix c =
    on_err c.append.result _ _ (λ failed. (
      bytes_of c.args.self.now,
      refl,
      inl (ap bytes_in (now c) ∙ ap (λ x. x.bytes) failed.1 ∙ ap bytes_in (sym (here c))),
      λ m other. ap bytes_in (beside c m other),
    )) c.append.ensures.err

pub returns-in-Some-clause-cause : goal.returns-in-Some-clause-cause
returns-in-Some-clause-cause c =
    let count = λ (o : Option FileState) (d : ℕ). option_map_or (λ (x : FileState). x.append_faults) o d in
    on_err c.append.result _ _ (λ failed.
    at_most (ap (λ o. risen (count o c.args.self.now.other_append_faults)) (here c)) (ap (λ o. count o c.self.inside.other_append_faults) (now c) ∙ ap (λ x. x.append_faults) failed.1) (omega arith)) c.append.ensures.err

pub returns-in-Some-clause-counts : goal.returns-in-Some-clause-counts
returns-in-Some-clause-counts c =
    let count = λ (x : FileState). x.append_faults in
    let d = c.self.inside.other_append_faults in
    record {
      never_falls = λ m. at_most (ap (λ s. append_faults_of s m) (sym c.self.view_is)) refl (change_counts c.self.inside.files.items _ c.in-Some.i (place c) c.index_mut-file.result.now c.append.new.self c.index_mut-file.ensures.value (name c) count d c.append.ensures.never_falls m);
      others = λ m known other. ap (λ o. option_map_or count o d) (beside c m other) ∙ ap (λ (s : MemFilesState). option_map_or count (file_of c.args.self.now m) s.other_append_faults) c.self.view_is;
    }

pub returns-in-Some-clause-knows : goal.returns-in-Some-clause-knows
returns-in-Some-clause-knows c m =
    change_same c.self.inside.files.items _ c.in-Some.i (place c) c.index_mut-file.result.now c.append.new.self c.index_mut-file.ensures.value (name c) Bool is_some refl m
    ∙ ap (λ s. is_known s m) c.self.view_is

pub returns-in-Some-clause-read_faults : goal.returns-in-Some-clause-read_faults
returns-in-Some-clause-read_faults c m =
    let count = λ (x : FileState). x.read_faults in
    change_same c.self.inside.files.items _ c.in-Some.i (place c) c.index_mut-file.result.now c.append.new.self c.index_mut-file.ensures.value (name c) ℕ (λ o. option_map_or count o c.self.inside.other_read_faults) (kept c ℕ count refl refl) m
    ∙ ap (λ s. read_faults_of s m) c.self.view_is

pub returns-in-None-clause-cause : goal.returns-in-None-clause-cause
returns-in-None-clause-cause c =
    let n = c.args.name.now in
    let fs = c.self.inside.files.items in
    let at : position (has_name n) fs ≡ None =
    ap (position (has_name n)) (sym c.as_slice.ensures.value) ∙ sym c.place_of.ensures ∙ c.in-None.is in
    let count = λ (o : Option FileState) (d : ℕ). option_map_or (λ (x : FileState). x.append_faults) o d in
    let risen_to = c.saturating_add-self-inside-in-None in
    at_most (ap (λ s. risen (append_faults_of s n)) (sym c.self.view_is) ∙ ap (λ o. risen (count o c.self.inside.other_append_faults)) (not_found fs n at)) (ap (λ o. count o risen_to.result) (not_found fs n at)) (omega (arith, risen_to.ensures))

or_true : (b : Bool) → b || true ≡ true
or_true true = refl
or_true false = refl

-- the number of the call is listed
listed : (c : goal.After-self-in-Some-1) → c.contains-failing.result ≡ is_listed c.args.self.now.failing_appends (risen c.args.self.now.appends)
listed c =
    c.contains-failing.ensures.value
    ∙ ap (λ ns. is_listed ns c.saturating_add-self-inside.result) c.deref.ensures.value
    ∙ ap (is_listed c.self.inside.failing_appends.items) c.saturating_add-self-inside.ensures
    ∙ ap (λ s. is_listed s.failing_appends (risen s.appends)) c.self.view_is

pub returns-in-Some-clause-exact : goal.returns-in-Some-clause-exact
returns-in-Some-clause-exact c =
    let f = c.index_mut-file.result.now in
    let len = length c.args.bytes.now in
    let short = λ (o : Option FileState). option_map_or (λ (x : FileState). nat_lt x.room len) o true in
    let is : c.contains-failing.result || nat_lt f.room len ≡ fails_append c.args.self.now c.args.name.now len =
    ap (λ b. b || nat_lt f.room len) (listed c)
    ∙ ap (λ o. is_listed c.args.self.now.failing_appends (risen c.args.self.now.appends) || short o) (sym (here c)) in
    subst (λ b. IsErr c.append.result ↔ IsTrue b) is c.append.ensures.exact

pub returns-in-None-clause-exact : goal.returns-in-None-clause-exact
returns-in-None-clause-exact c =
    let n = c.args.name.now in
    let fs = c.self.inside.files.items in
    let len = length c.args.bytes.now in
    let at : position (has_name n) fs ≡ None =
    ap (position (has_name n)) (sym c.as_slice.ensures.value) ∙ sym c.place_of.ensures ∙ c.in-None.is in
    let fails : fails_append c.args.self.now n len ≡ true =
    ap (λ s. fails_append s n len) (sym c.self.view_is)
    ∙ ap (λ o. is_listed c.self.inside.failing_appends.items (risen c.self.inside.appends) || option_map_or (λ (x : FileState). nat_lt x.room len) o true) (not_found fs n at)
    ∙ or_true _ in
    (λ _. fails, λ _. refl)

pub returns-in-Some-clause-leaves : goal.returns-in-Some-clause-leaves
returns-in-Some-clause-leaves c =
    let n = c.args.name.now in
    let bytes = c.args.bytes.now in
    let was = the_view c.self.inside in
    let appends = c.saturating_add-self-inside in
    let new : MemFilesState = record was { files = set was.files c.in-Some.i c.append.new.self; appends = appends.result } in
    subst (λ s. AfterAppend s new n bytes c.append.result) c.self.view_is
    (after_append was n c.in-Some.i c.index_mut-file.result.now c.append.new.self bytes c.append.result appends.result _ _ _
    (place c) c.index_mut-file.ensures.value c.append.ensures.ok c.append.ensures.err appends.ensures)

pub returns-in-None-clause-leaves : goal.returns-in-None-clause-leaves
returns-in-None-clause-leaves c =
    let n = c.args.name.now in
    let was = the_view c.self.inside in
    let at : position (has_name n) was.files ≡ None =
    ap (position (has_name n)) (sym c.as_slice.ensures.value) ∙ sym c.place_of.ensures ∙ c.in-None.is in
    let appends = c.saturating_add-self-inside in
    let faults = c.saturating_add-self-inside-in-None in
    let new : MemFilesState = record was { appends = appends.result; other_append_faults = faults.result } in
    subst (λ s. CountsAppendFault (appended_once s) new n (file_of s n)) c.self.view_is
    (after_missed_append was n appends.result faults.result at appends.ensures faults.ensures)
