-- A step leaves a state that is reached.
use Rattle.tss_state_text_tests.proofs.ReachedStates.{kept_reached}
use Rattle.tss_state_text_tests.proofs.tests.step.Goals as goal

pub returns : goal.returns
returns g c =
    kept_reached c.args.image.now c.args.e c.args.p.now c.step.new.self c.step.result c.step.ensures c.requires
