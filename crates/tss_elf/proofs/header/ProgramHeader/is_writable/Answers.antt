use Rattle.tss_elf.proofs.Bits.{second_bit}
use Rattle.tss_elf.proofs.header.ProgramHeader.is_writable.Goals as goal

pub returns : goal.returns
returns c = second_bit c.args.self.now.flags
