use Rattle.std.proofs.Common.{◌≡◌, ◌+◌, List, Some, None, subst, sym, ap, ◌∙◌, refl}
use Rattle.std.proofs.Math.ListN.{set}
use Rattle.std.specs.Prelude.{position}
use Rattle.tss_outside.specs.MemFiles.{ChangesFile, file_or_new, FileState, has_name}
use Rattle.tss_outside.specs.contracts.mem_files.MemFiles.{the_view}
use Rattle.tss_outside.proofs.FileLemmas.{changes_at, changes_added}
use Rattle.tss_outside.proofs.mem_files.MemFiles.room.Goals as goal

pub returns-in_ok-add_room-in-Some-clause-ok : goal.returns-in_ok-add_room-in-Some-clause-ok
returns-in_ok-add_room-in-Some-clause-ok c =
    let n = c.args.name.now in
    let roomy = λ (f : FileState). record f { room = f.room + c.args.more } in
    let was = the_view c.self.inside in
    let at : position (has_name n) was.files ≡ Some c.in-Some.i =
    ap (position (has_name n)) (sym c.as_slice.ensures.value) ∙ sym c.place_of.ensures ∙ c.in-Some.is in
    subst (λ s. ChangesFile s (record was { files = set was.files c.in-Some.i c.add_room.new.self }) n (roomy (file_or_new s n))) c.self.view_is
    (changes_at was n c.in-Some.i c.index_mut-file.result.now c.add_room.new.self roomy at c.index_mut-file.ensures.value c.in_ok-add_room-in-Some.ensures.ok (λ x. refl))

pub returns-in_ok-push-in-None-clause-ok : goal.returns-in_ok-push-in-None-clause-ok
returns-in_ok-push-in-None-clause-ok c =
    let n = c.args.name.now in
    let roomy = λ (f : FileState). record f { room = f.room + c.args.more } in
    let was = the_view c.self.inside in
    let at : position (has_name n) was.files ≡ None =
    ap (position (has_name n)) (sym c.as_slice.ensures.value) ∙ sym c.place_of.ensures ∙ c.in-None.is in
    let made : c.add_room-in-None.new.self ≡ roomy c.in_ok-file-in-None.file = c.in_ok-add_room-in-None.ensures.ok in
    let new = λ (fs : List FileState). record was { files = fs } in
    subst (λ s. ChangesFile s (new c.push.new.self.items) n (roomy (file_or_new s n))) c.self.view_is
    (subst (λ fs. ChangesFile was (new fs) n (roomy (file_or_new was n))) (sym c.in_ok-push-in-None.ensures.items)
    (changes_added was n c.add_room-in-None.new.self roomy at (made ∙ ap roomy c.in_ok-file-in-None.ensures) (λ x. refl)))
