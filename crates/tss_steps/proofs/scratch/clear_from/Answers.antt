-- Zeros before the place, and zeros from it on.
use Rattle.std.proofs.Common.{◌≡◌, ◌-◌, length, rules}
use Rattle.tss_model.specs.Memory.{zeros}
use Rattle.tss_steps.proofs.ZeroLemmas.{zeros_from}
use Rattle.tss_steps.proofs.scratch.clear_from.Goals as goal

pub returns : goal.returns
returns c =
    let cleared : c.clear.new.bytes ≡ zeros (length c.args.bytes.now - c.args.low) = search rules in
    zeros_from c.args.bytes.now c.clear.new.bytes c.args.low c.requires.within c.requires.zeros cleared
