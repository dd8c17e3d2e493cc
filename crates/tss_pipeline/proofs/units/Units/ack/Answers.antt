-- The gateway holds the operand that is acknowledged.
use Rattle.std.proofs.Common.{refl}
use Rattle.tss_pipeline.proofs.front_rows.AckLemmas.{ack_there, ack_held, does_ack}
use Rattle.tss_pipeline.proofs.units.Units.ack.Goals as goal

pub take_ack-requires : goal.take_ack-requires
take_ack-requires c = ack_there c.args.self.now c.args.o c.requires.fit c.requires.may

pub unreachable-requires : goal.unreachable-requires
unreachable-requires c =
    ack_held c.args.self.now c.args.o c.requires.fit c.requires.may (c.in-Err.ensures.blocked.0 refl)

pub returns : goal.returns
returns c =
    does_ack c.args.self.now c.args.o c.requires.fit c.requires.may c.ack.new.self c.take_ack.new.mail
    c.in-Ok.ensures.ok c.take_ack.ensures.others c.take_ack.ensures.taken
