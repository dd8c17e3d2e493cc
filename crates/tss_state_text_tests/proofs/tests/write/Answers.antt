-- The ranges of memory are those of the image.
use Rattle.tss_state_text_tests.proofs.ReachedStates.{reached_ranges}
use Rattle.tss_state_text_tests.proofs.tests.write.Goals as goal

pub write_state-requires : goal.write_state-requires
write_state-requires c =
    reached_ranges c.args.p.now.machine c.args.image.now c.args.p.now.state c.requires
