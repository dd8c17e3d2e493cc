use Rattle.tss_elf.proofs.Bits.{middle_bits}
use Rattle.tss_elf.proofs.checking.has_float_abi.Goals as goal

pub returns : goal.returns
returns c = middle_bits c.args.flags
