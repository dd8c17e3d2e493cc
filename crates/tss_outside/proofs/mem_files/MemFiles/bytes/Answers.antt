-- What a file in memory holds is what is shown of it.
use Rattle.std.proofs.Common.{◌≡◌, [], ℕ, List, Option, Some, None, sym, ap, ◌∙◌, refl}
use Rattle.std.specs.Prelude.{position, unwrap_or}
use Rattle.std.specs.Option.{option_and_then}
use Rattle.tss_outside.specs.MemFiles.{FileState, has_name, bytes_of, file_of}
use Rattle.tss_outside.proofs.FileLemmas.{change_here, not_found}
use Rattle.tss_outside.proofs.mem_files.MemFiles.bytes.Goals as goal

-- what is held where this is found
shown : (o : Option FileState) (f : FileState) (b : Option (List ℕ)) → o ≡ Some f → b ≡ f.bytes → unwrap_or b [] ≡ unwrap_or (option_and_then (λ (x : FileState). x.bytes) o) []
shown o f b found is = ap (λ x. unwrap_or x []) is ∙ ap (λ x. unwrap_or (option_and_then (λ (y : FileState). y.bytes) x) []) (sym found)

pub returns-in-Some-bytes : goal.returns-in-Some-bytes
returns-in-Some-bytes c =
    let n = c.args.name.now in
    let f = c.index-file.result.now in
    let at : position (has_name n) c.self.inside.files.items ≡ Some c.in-Some.i =
    ap (position (has_name n)) (sym c.as_slice.ensures.value) ∙ sym c.place_of.ensures ∙ c.in-Some.is in
    let found : file_of c.args.self.now n ≡ Some f =
    ap (λ s. file_of s n) (sym c.self.view_is) ∙ change_here c.self.inside.files.items n c.in-Some.i at f f c.index-file.ensures refl in
    shown _ f (Some c.in-Some-bytes.bytes.now) found c.in-Some-bytes.ensures

pub returns-in-None-bytes : goal.returns-in-None-bytes
returns-in-None-bytes c =
    let n = c.args.name.now in
    let f = c.index-file.result.now in
    let at : position (has_name n) c.self.inside.files.items ≡ Some c.in-Some.i =
    ap (position (has_name n)) (sym c.as_slice.ensures.value) ∙ sym c.place_of.ensures ∙ c.in-Some.is in
    let found : file_of c.args.self.now n ≡ Some f =
    ap (λ s. file_of s n) (sym c.self.view_is) ∙ change_here c.self.inside.files.items n c.in-Some.i at f f c.index-file.ensures refl in
    shown _ f None found c.in-None-bytes.ensures

pub returns-in-None : goal.returns-in-None
returns-in-None c =
    let n = c.args.name.now in
    let at : position (has_name n) c.self.inside.files.items ≡ None =
    ap (position (has_name n)) (sym c.as_slice.ensures.value) ∙ sym c.place_of.ensures ∙ c.in-None.is in
    ap (λ o. unwrap_or (option_and_then (λ (x : FileState). x.bytes) o) []) (sym (not_found c.self.inside.files.items n at))
    ∙ ap (λ s. unwrap_or (bytes_of s n) []) c.self.view_is
