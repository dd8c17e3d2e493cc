use Rattle.tss_machine.specs.Table.{numbers_of}
use Rattle.tss_machine.specs.Description.{machine_in}
use Rattle.tss_machine.proofs.reading.machine_with.Goals as goal

pub returns : goal.returns
unfolding numbers_of machine_in
returns c table e = rw (c.from.ensures, c.from-2.ensures, e)
