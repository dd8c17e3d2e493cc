-- What a call that spawned a task was.
use Rattle.std.proofs.Common.{◌≡◌, ℕ, Some, sym, ap, subst, ◌∙◌}
use Rattle.tss_model.specs.Registers.{register_at}
use Rattle.tss_model.specs.MainStep.{call_of, next_call, main_call}
use Rattle.tss_inorder.specs.Flats.{FlatState, flat_of, did_at, did_by}
use Rattle.tss_inorder.proofs.DidLemmas.{did-spawned}
use Rattle.tss_inorder.proofs.flat.Flat.call.Goals as goal

pub returns-in-Some-clause-did : goal.returns-in-Some-clause-did
returns-in-Some-clause-did c =
    let i = c.self.inside in
    let s : FlatState = record { limits = i.main.limits; code = i.code; main = i.main.main; memory = i.space } in
    let number : c.args.number ≡ register_at s.main.registers 17 =
    c.requires.number ∙ ap (λ (x : FlatState). register_at x.main.registers 17) (sym c.self.view_is) in
    subst (λ (x : FlatState). c.run_spawned.result ≡ did_at c.run_spawned.new.self.main.ending (did_by x (Some (call_of c.args.number)))) c.self.view_is
    (did-spawned s c.call.new.self.main c.call.new.self.limits c.in-Some.task (call_of c.args.number) c.run_spawned.result c.run_spawned.new.self
    c.call.ensures.limits
    (c.in-Some.ensures.exact ∙ ap (λ (n : ℕ). main_call s.limits s.memory s.main (call_of n)) (sym number))
    (c.requires.next ∙ ap (λ (x : FlatState). next_call x.code x.limits (flat_of x)) (sym c.self.view_is))
    c.run_spawned.ensures.exact c.run_spawned.ensures.did)
