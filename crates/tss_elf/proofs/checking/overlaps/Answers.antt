use Rattle.std.proofs.Common.{◌-◌, ◌<◌, get_or, sym, ap, arith}
use Rattle.tss_base.specs.Range.{end_of}
use Rattle.tss_elf.specs.declared.header.ProgramHeader.{ProgramHeader}
use Rattle.tss_elf.specs.Fields.{range_of}
use Rattle.tss_elf.proofs.Pairs.{overlap_at_neighbours, no_overlap_from_neighbours, rising_from_neighbours}
use Rattle.tss_elf.proofs.checking.overlaps.Goals as goal

pub returns-then-end-from : goal.returns-then-end-from
returns-then-end-from c =
    let kept = c.args.kept.now in
    let i = c.loop-i.i in
    let d : ProgramHeader = record {
      kind = 0;
      offset = 0;
      address = 0;
      file_size = 0;
      memory_size = 0;
      flags = 0;
    } in
    let span = ap end_of c.range.ensures in
    let past : (get_or kept i d).address < end_of (range_of (get_or kept (i - 1) d)) = omega (arith, span) in
    sym (overlap_at_neighbours kept i d c.requires.sorted c.requires.some (omega arith) (omega arith) past)

pub returns : goal.returns
returns c =
    let kept = c.args.kept.now in
    let apart = rising_from_neighbours kept c.requires.sorted (λ k d within. c.loop-i.invariant k d (omega arith)) in
    sym (no_overlap_from_neighbours kept apart)
