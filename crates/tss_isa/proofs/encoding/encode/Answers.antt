-- Each arm's word is the instruction's, so it is read as the instruction.
use Rattle.std.proofs.Common.{rules}
use Rattle.tss_isa.specs.InstrTable.{word_of}
use Rattle.tss_isa.proofs.WordLemmas.{read_from_word}
use Rattle.tss_isa.proofs.encoding.encode.Goals as goal

pub returns-in-Lui-clause-inverse : goal.returns-in-Lui-clause-inverse
unfolding word_of
returns-in-Lui-clause-inverse c = read_from_word _ c.args.i.now c.requires (search rules)

pub returns-in-Auipc-clause-inverse : goal.returns-in-Auipc-clause-inverse
unfolding word_of
returns-in-Auipc-clause-inverse c = read_from_word _ c.args.i.now c.requires (search rules)

pub returns-in-Jal-clause-inverse : goal.returns-in-Jal-clause-inverse
unfolding word_of
returns-in-Jal-clause-inverse c = read_from_word _ c.args.i.now c.requires (search rules)

pub returns-in-Jalr-clause-inverse : goal.returns-in-Jalr-clause-inverse
unfolding word_of
returns-in-Jalr-clause-inverse c = read_from_word _ c.args.i.now c.requires (search rules)

pub returns-in-Branch-clause-inverse : goal.returns-in-Branch-clause-inverse
unfolding word_of
returns-in-Branch-clause-inverse c = read_from_word _ c.args.i.now c.requires (search rules)

pub returns-in-Load-clause-inverse : goal.returns-in-Load-clause-inverse
unfolding word_of
returns-in-Load-clause-inverse c = read_from_word _ c.args.i.now c.requires (search rules)

pub returns-in-Store-clause-inverse : goal.returns-in-Store-clause-inverse
unfolding word_of
returns-in-Store-clause-inverse c = read_from_word _ c.args.i.now c.requires (search rules)

pub returns-in-OpImm-clause-inverse : goal.returns-in-OpImm-clause-inverse
unfolding word_of
returns-in-OpImm-clause-inverse c = read_from_word _ c.args.i.now c.requires (search rules)

pub returns-in-Op-clause-inverse : goal.returns-in-Op-clause-inverse
unfolding word_of
returns-in-Op-clause-inverse c = read_from_word _ c.args.i.now c.requires (search rules)

pub returns-in-Fence-clause-inverse : goal.returns-in-Fence-clause-inverse
unfolding word_of
returns-in-Fence-clause-inverse c = read_from_word _ c.args.i.now c.requires (search rules)

pub returns-in-Ecall-clause-inverse : goal.returns-in-Ecall-clause-inverse
unfolding word_of
returns-in-Ecall-clause-inverse c = read_from_word _ c.args.i.now c.requires (search rules)

pub returns-in-Ebreak-clause-inverse : goal.returns-in-Ebreak-clause-inverse
unfolding word_of
returns-in-Ebreak-clause-inverse c = read_from_word _ c.args.i.now c.requires (search rules)
