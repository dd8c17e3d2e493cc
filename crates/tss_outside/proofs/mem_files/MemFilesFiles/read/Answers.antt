-- What a read of a file in memory leaves.
use Rattle.std.proofs.Common.{◌≡◌, subst, ◌≤◌, ℕ, List, Bool, true, false, cond, Option, Some, None, sym, ap, ◌∙◌, refl, arith, Result, Ok, Err, Vec, Global, vec_len}
use Rattle.std.proofs.Math.ListN.{set}
use Rattle.std.specs.Prelude.{is_none, ◌||◌, ◌↔◌, IsErrOf, IsTrue, position, is_some, IfOk}
use Rattle.std.specs.Option.{option_and_then, option_map_or}
use Rattle.tss_outside.specs.Outside.{is_failed, risen}
use Rattle.tss_outside.specs.declared.files.FileFault.TheVariants.{Failed}
use Rattle.tss_outside.specs.MemSink.{is_listed}
use Rattle.tss_outside.specs.contracts.mem_files.MemFiles.{the_view}
use Rattle.tss_outside.specs.MemFiles.{MemFilesState, AfterRead, CountsReadFault, read_once, fails_read, FileState, has_name, file_of, is_known, bytes_of, append_faults_of, read_faults_of}
use Rattle.tss_outside.proofs.FileLemmas.{at_most, change_here, change_now, change_beside, change_same, change_counts, not_found, after_read, after_missed_read}
use Rattle.tss_outside.proofs.mem_files.MemFilesFiles.read.Goals as goal

-- what a fault does not change
kept_by : {X : Type 0} (part : FileState → X) (b : Bool) (f g : FileState) → part g ≡ part f → part (cond b g f) ≡ part f
kept_by part true f g e = e
kept_by part false f g e = refl

-- a read that was made says what was held
bytes_by : {T : Type 0} (r : Result (Vec ℕ Global) T) (failing : Bool) (limit : ℕ) (o p : Option (List ℕ)) → o ≡ p → IfOk r (λ v. (failing ≡ false) × (p ≡ Some v.items) × (vec_len v ≤ limit)) → IfOk r (λ v. o ≡ Some v.items)
bytes_by (Ok v) failing limit o p e h = e ∙ h.1
bytes_by (Err x) failing limit o p e h = tt

-- where the file stands
place : (c : goal.After-self-in-Some-1) → position (has_name c.args.name.now) c.self.inside.files.items ≡ Some c.in-Some.i
place c = ap (position (has_name c.args.name.now)) (sym c.as_slice.ensures.value) ∙ sym c.place_of.ensures ∙ c.in-Some.is

-- what no fault changes of it
kept : (c : goal.After-self-in-Some-1) (X : Type 0) (part : FileState → X) → part (record (c.index_mut-file.result.now) { read_faults = risen c.index_mut-file.result.now.read_faults }) ≡ part c.index_mut-file.result.now → part c.read.new.self ≡ part c.index_mut-file.result.now
kept c X part e = ap part c.read.ensures.counted ∙ kept_by part (is_failed c.read.result) c.index_mut-file.result.now _ e

-- its name
name : (c : goal.After-self-in-Some-1) → c.read.new.self.name ≡ c.index_mut-file.result.now.name
name c = kept c (List ℕ) (λ x. x.name) refl

-- it was found
here : (c : goal.After-self-in-Some-1) → file_of c.args.self.now c.args.name.now ≡ Some c.index_mut-file.result.now
here c =
    ap (λ s. file_of s c.args.name.now) (sym c.self.view_is)
    ∙ change_here c.self.inside.files.items _ c.in-Some.i (place c) c.index_mut-file.result.now c.read.new.self c.index_mut-file.ensures.value (name c)

-- where the count of the name stands after a fault
counted : (c : goal.After-self-in-Some-1) → is_failed c.read.result ≡ true → c.read.new.self.read_faults ≡ risen c.index_mut-file.result.now.read_faults
counted c e = ap (λ x. x.read_faults) (c.read.ensures.counted ∙ ap (λ b. cond b (record (c.index_mut-file.result.now) { read_faults = risen c.index_mut-file.result.now.read_faults }) c.index_mut-file.result.now) e)

pub returns-in-Some-clause-bytes : goal.returns-in-Some-clause-bytes
returns-in-Some-clause-bytes c =
    bytes_by c.read.result _ c.args.limit _ _ (ap (option_and_then (λ (x : FileState). x.bytes)) (here c)) c.read.ensures.ok

pub returns-in-Some-clause-longer : goal.returns-in-Some-clause-longer
returns-in-Some-clause-longer c k e =
    let long = c.read.ensures.too_long k e in
    (long.1.0, ap (option_and_then (λ (x : FileState). x.bytes)) (here c) ∙ long.1.1, omega (arith, long.1.2))

pub returns-in-Some-clause-cause : goal.returns-in-Some-clause-cause
returns-in-Some-clause-cause c e =
    let count = λ (o : Option FileState) (d : ℕ). option_map_or (λ (x : FileState). x.read_faults) o d in
    let now = change_now c.self.inside.files.items _ c.in-Some.i (place c) _ _ c.index_mut-file.ensures.value (name c) in
    at_most (ap (λ o. risen (count o c.args.self.now.other_read_faults)) (here c)) (ap (λ o. count o c.self.inside.other_read_faults) now ∙ counted c (ap is_failed e)) (omega arith)

pub returns-in-Some-clause-counts : goal.returns-in-Some-clause-counts
returns-in-Some-clause-counts c =
    let count = λ (x : FileState). x.read_faults in
    let d = c.self.inside.other_read_faults in
    let was = λ (m : List ℕ). ap (λ s. read_faults_of s m) (sym c.self.view_is) in
    let is = c.index_mut-file.ensures.value in
    record {
      never_falls = λ m. at_most (was m) refl (change_counts c.self.inside.files.items _ c.in-Some.i (place c) _ _ is (name c) count d c.read.ensures.never_falls m);
      others = λ m known other. ap (λ o. option_map_or count o d) (change_beside c.self.inside.files.items _ c.in-Some.i (place c) _ _ is (name c) m other) ∙ sym (was m);
    }

pub returns-in-Some-clause-held : goal.returns-in-Some-clause-held
returns-in-Some-clause-held c =
    let bytes = λ (x : FileState). x.bytes in
    let same = change_same c.self.inside.files.items _ c.in-Some.i (place c) _ _ c.index_mut-file.ensures.value (name c) (Option (List ℕ)) (option_and_then bytes) (kept c _ bytes refl) in
    λ j. Some (λ m. (same m ∙ ap (λ s. bytes_of s m) c.self.view_is) j)

pub returns-in-Some-clause-knows : goal.returns-in-Some-clause-knows
returns-in-Some-clause-knows c m =
    change_same c.self.inside.files.items _ c.in-Some.i (place c) _ _ c.index_mut-file.ensures.value (name c) Bool is_some refl m
    ∙ ap (λ s. is_known s m) c.self.view_is

pub returns-in-Some-clause-append_faults : goal.returns-in-Some-clause-append_faults
returns-in-Some-clause-append_faults c m =
    let count = λ (x : FileState). x.append_faults in
    change_same c.self.inside.files.items _ c.in-Some.i (place c) _ _ c.index_mut-file.ensures.value (name c) ℕ (λ o. option_map_or count o c.self.inside.other_append_faults) (kept c ℕ count refl) m
    ∙ ap (λ s. append_faults_of s m) c.self.view_is

pub returns-in-None-clause-cause : goal.returns-in-None-clause-cause
returns-in-None-clause-cause c e =
    let n = c.args.name.now in
    let fs = c.self.inside.files.items in
    let at : position (has_name n) fs ≡ None =
    ap (position (has_name n)) (sym c.as_slice.ensures.value) ∙ sym c.place_of.ensures ∙ c.in-None.is in
    let count = λ (o : Option FileState) (d : ℕ). option_map_or (λ (x : FileState). x.read_faults) o d in
    let risen_to = c.saturating_add-self-inside-in-None in
    at_most (ap (λ s. risen (read_faults_of s n)) (sym c.self.view_is) ∙ ap (λ o. risen (count o c.self.inside.other_read_faults)) (not_found fs n at)) (ap (λ o. count o risen_to.result) (not_found fs n at)) (omega (arith, risen_to.ensures))

or_true : (b : Bool) → b || true ≡ true
or_true true = refl
or_true false = refl

-- the number of the call is listed
listed : (c : goal.After-self-in-Some-1) → c.contains-failing.result ≡ is_listed c.args.self.now.failing_reads (risen c.args.self.now.reads)
listed c =
    c.contains-failing.ensures.value
    ∙ ap (λ ns. is_listed ns c.saturating_add-self-inside.result) c.deref.ensures.value
    ∙ ap (is_listed c.self.inside.failing_reads.items) c.saturating_add-self-inside.ensures
    ∙ ap (λ s. is_listed s.failing_reads (risen s.reads)) c.self.view_is

pub returns-in-Some-clause-exact : goal.returns-in-Some-clause-exact
returns-in-Some-clause-exact c =
    let bytes = λ (o : Option FileState). option_and_then (λ (x : FileState). x.bytes) o in
    let is : c.contains-failing.result || is_none c.index_mut-file.result.now.bytes ≡ fails_read c.args.self.now c.args.name.now =
    ap (λ b. b || is_none c.index_mut-file.result.now.bytes) (listed c)
    ∙ ap (λ o. is_listed c.args.self.now.failing_reads (risen c.args.self.now.reads) || is_none (bytes o)) (sym (here c)) in
    subst (λ b. IsErrOf c.read.result Failed ↔ IsTrue b) is c.read.ensures.exact

pub returns-in-None-clause-exact : goal.returns-in-None-clause-exact
returns-in-None-clause-exact c =
    let n = c.args.name.now in
    let fs = c.self.inside.files.items in
    let at : position (has_name n) fs ≡ None =
    ap (position (has_name n)) (sym c.as_slice.ensures.value) ∙ sym c.place_of.ensures ∙ c.in-None.is in
    let fails : fails_read c.args.self.now n ≡ true =
    ap (λ s. fails_read s n) (sym c.self.view_is)
    ∙ ap (λ o. is_listed c.self.inside.failing_reads.items (risen c.self.inside.reads) || is_none (option_and_then (λ (x : FileState). x.bytes) o)) (not_found fs n at)
    ∙ or_true _ in
    (λ _. fails, λ _. refl)

pub returns-in-Some-clause-leaves : goal.returns-in-Some-clause-leaves
returns-in-Some-clause-leaves c =
    let n = c.args.name.now in
    let was = the_view c.self.inside in
    let new : MemFilesState = record was { files = set was.files c.in-Some.i c.read.new.self; reads = c.saturating_add-self-inside.result } in
    subst (λ s. AfterRead s new n c.read.result) c.self.view_is
    (after_read was n c.in-Some.i c.index_mut-file.result.now c.read.new.self c.read.result c.saturating_add-self-inside.result
    (place c) c.index_mut-file.ensures.value c.read.ensures.counted c.saturating_add-self-inside.ensures)

pub returns-in-None-clause-leaves : goal.returns-in-None-clause-leaves
returns-in-None-clause-leaves c =
    let n = c.args.name.now in
    let was = the_view c.self.inside in
    let at : position (has_name n) was.files ≡ None =
    ap (position (has_name n)) (sym c.as_slice.ensures.value) ∙ sym c.place_of.ensures ∙ c.in-None.is in
    let reads = c.saturating_add-self-inside in
    let faults = c.saturating_add-self-inside-in-None in
    let new : MemFilesState = record was { reads = reads.result; other_read_faults = faults.result } in
    subst (λ s. CountsReadFault (read_once s) new n (file_of s n)) c.self.view_is
    (after_missed_read was n reads.result faults.result at reads.ensures faults.ensures)
