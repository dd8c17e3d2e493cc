use Rattle.std.proofs.Common.{length}
use Rattle.tss_asm.proofs.LabelLemmas.{AreWithin-give}
use Rattle.tss_asm.proofs.program.Program.label.Goals as goal

pub invariant_of-self : goal.invariant_of-self
invariant_of-self c =
    AreWithin-give c.give.result c.self.inside.labels c.give.new.self (length c.self.inside.text.items)
    c.self.invariant c.give.ensures.given c.give.ensures.unchanged
