use Rattle.std.proofs.Common.{◌≡◌, ◌∙◌, ℕ}
use Rattle.std.specs.Global.{Vec}
use Rattle.tss_asm.specs.Image.{image_bytes}
use Rattle.tss_gen.proofs.Faultless.{memory_alone}
use Rattle.tss_gen.proofs.Bytes.{workload_is_written}
use Rattle.tss_gen.proofs.building.built.Goals as goal

pub memory_ran_out-requires : goal.memory_ran_out-requires
memory_ran_out-requires c =
    memory_alone c.args.form c.args.n c.requires c.in_ok-program.program c.in_ok-program.start c.in_ok-program.ensures
    c.in-Err.fault (λ (v : Vec ℕ). v.items ≡ image_bytes c.in_ok-program.program c.in_ok-program.start)
    c.in-Err.ensures.exact

pub returns-in-Ok-clause-exact : goal.returns-in-Ok-clause-exact
returns-in-Ok-clause-exact c =
    c.in-Ok.ensures.exact.1
    ∙ workload_is_written c.args.form c.args.n c.in_ok-program.program c.in_ok-program.start c.in_ok-program.ensures
