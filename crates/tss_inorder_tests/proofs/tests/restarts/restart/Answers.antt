-- Both machines follow program order of one image, so they have one code and the same ranges.
use Rattle.std.proofs.Common.{◌≡◌, ℕ, Some, option_map, ap, sym, ◌∙◌, arith}
use Rattle.tss_base.specs.declared.calls.TheConstants.{BARRIER}
use Rattle.tss_model.specs.MainStep.{call_of, main_start, next_call}
use Rattle.tss_inorder.specs.Flats.{flat_of}
use Rattle.tss_inorder.proofs.RestartLemmas.{at_barrier-next, follows-ranges}
use Rattle.tss_inorder_tests.proofs.tests.restarts.restart.Goals as goal

pub restart-requires-clause-barrier : goal.restart-requires-clause-barrier
restart-requires-clause-barrier g c =
    let at = c.args.at.now in
    let code : c.args.flat.now.code ≡ at.code = c.requires.follows.code ∙ sym c.requires.at.code in
    let three : c.in-Some.number ≡ BARRIER = omega arith in
    (λ j. next_call (code j) (c.requires.limits j) (record {
      main = record (main_start (c.main.ensures j).pc) { registers = c.main.ensures j };
      memory = c.space.ensures j;
    }))
    ∙ at_barrier-next at.code at.limits (flat_of at)
    (sym c.next_call.ensures.exact ∙ ap (option_map call_of) c.in-Some.is ∙ ap (λ (n : ℕ). Some (call_of n)) three)

pub restart-requires-clause-ranges : goal.restart-requires-clause-ranges
restart-requires-clause-ranges g c =
    ap (λ m. m.ranges) c.space.ensures
    ∙ follows-ranges c.args.image.now c.args.at.now c.requires.at
    ∙ sym (follows-ranges c.args.image.now c.args.flat.now c.requires.follows)
