-- What a task reads.
use Rattle.std.proofs.Common.{refl, sym}
use Rattle.tss_steps.proofs.ViewLemmas.{scratch_answer, beyond_answer, access_range}
use Rattle.tss_steps.proofs.PlaceLemmas.{beside_address}
use Rattle.tss_inorder.specs.Home.{home_terms}
use Rattle.tss_inorder.proofs.views.HomeTaskView.load.Goals as goal

pub returns-then-contains-clause-exact : goal.returns-then-contains-clause-exact
returns-then-contains-clause-exact c =
    scratch_answer (home_terms c.args.self.now.code.now c.args.self.now.space.now.ranges c.args.self.now.operands.now)
    c.args.self.now.space.now.ranges c.args.self.now.operands.now refl c.args.self.now.scratch.now c.args.self.now.space.now
    c.args.at c.args.width c.number.result (sym c.if-contains.ensures.exact) c.number.ensures.exact

pub returns-clause-exact : goal.returns-clause-exact
returns-clause-exact c =
    beyond_answer (home_terms c.args.self.now.code.now c.args.self.now.space.now.ranges c.args.self.now.operands.now)
    c.args.self.now.space.now.ranges c.args.self.now.operands.now refl c.args.self.now.scratch.now c.args.self.now.space.now
    c.args.at c.args.width c.number-2.result
    (λ a low high. beside_address c.args.self.now.space.now.ranges (access_range c.args.at c.args.width) (c.in_ok-found.found).writable a
    c.args.self.now.ground.beside c.in_ok-found.ensures.found.within low high)
    c.in_ok-found.ensures.granted c.number-2.ensures.exact
