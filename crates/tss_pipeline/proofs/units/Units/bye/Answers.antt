-- The farewell's message is there.
use Rattle.tss_pipeline.proofs.front_rows.StationLemmas.{bye_there, does_bye}
use Rattle.tss_pipeline.proofs.units.Units.bye.Goals as goal

pub take_bye-promised-requires : goal.take_bye-promised-requires
take_bye-promised-requires c = bye_there c.args.self.now c.args.o c.requires.fit c.requires.may

pub returns : goal.returns
returns c =
    does_bye c.args.self.now c.args.o c.requires.fit c.requires.may c.take_bye-promised.result
    c.take_bye-promised.ensures.exact c.bye.new.self c.take_bye-promised.new.mail c.bye.ensures.exact c.bye.ensures.flight
    c.take_bye-promised.ensures.others c.take_bye-promised.ensures.taken
