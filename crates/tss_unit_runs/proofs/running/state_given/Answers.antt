-- The state after the lines' events, and the first fault by its line.
use Rattle.std.proofs.Common.{Ok, Err, Some, ap, sym, ◌∙◌, subst}
use Rattle.tss_log.specs.contracts.log.NoLogLog.TheImpl as no_log
use Rattle.tss_schedule.specs.Driving.{driven}
use Rattle.tss_unit_runs.specs.Runs.{fault_of, is_short, IsWholeOrShort}
use Rattle.tss_unit_runs.proofs.LineLemmas.{line_same, written_by_none, short_fault, state_ranges, state_whole, fault_whole, state_part, part_counted, part_fault}
use Rattle.tss_unit_runs.proofs.running.state_given.Goals as goal

pub line_fault-line-requires : goal.line_fault-line-requires
line_fault-line-requires c =
    let h = c.in-Err.ensures.run in
    part_counted no_log.ghosts c.args.machine.now c.args.image.now c.args.bytes.now c.in-Ok.pipeline c.new-lines.result
    (driven c.drive.new.p c.drive.new.schedule) (record {}) c.drive.new.log c.entry-entry.ensures.accepted c.requires
    c.in-Ok.ensures c.new-lines.ensures c.in-Err.fault h (written_by_none c.in-Err.fault h.kept.cause)
    c.offset-offset.result c.offset-offset.ensures

pub returns-in-Ok-drive-clause-state : goal.returns-in-Ok-drive-clause-state
returns-in-Ok-drive-clause-state c =
    state_whole no_log.ghosts c.args.machine.now c.args.image.now c.args.bytes.now c.in-Ok.pipeline c.new-lines.result
    (driven c.drive.new.p c.drive.new.schedule) (record {}) c.drive.new.log c.entry-entry.ensures.accepted c.requires
    c.in-Ok.ensures c.new-lines.ensures c.in-Ok-drive.field-0 c.in-Ok-drive.ensures.run

pub returns-in-Ok-drive-clause-ranges : goal.returns-in-Ok-drive-clause-ranges
returns-in-Ok-drive-clause-ranges c =
    state_ranges no_log.ghosts c.args.machine.now c.args.image.now c.args.bytes.now c.in-Ok.pipeline c.new-lines.result
    (driven c.drive.new.p c.drive.new.schedule) (record {}) c.drive.new.log c.entry-entry.ensures.accepted c.requires
    c.in-Ok.ensures c.new-lines.ensures (Ok c.in-Ok-drive.field-0) c.in-Ok-drive.ensures.run

pub returns-in-Ok-drive-clause-ok : goal.returns-in-Ok-drive-clause-ok
returns-in-Ok-drive-clause-ok c =
    fault_whole no_log.ghosts c.args.machine.now c.args.image.now c.args.bytes.now c.in-Ok.pipeline c.new-lines.result
    (driven c.drive.new.p c.drive.new.schedule) (record {}) c.drive.new.log c.entry-entry.ensures.accepted c.requires
    c.in-Ok.ensures c.new-lines.ensures c.in-Ok-drive.field-0 c.in-Ok-drive.ensures.run

pub returns-then-is_short : goal.returns-then-is_short
returns-then-is_short c =
    let h = c.in-Err.ensures.run in
    let written = written_by_none c.in-Err.fault h.kept.cause in
    record {
      machine = h.machine ∙ ap (λ p. p.machine) c.in-Ok.ensures;
      state =
          state_part no_log.ghosts c.args.machine.now c.args.image.now c.args.bytes.now c.in-Ok.pipeline c.new-lines.result
          (driven c.drive.new.p c.drive.new.schedule) (record {}) c.drive.new.log c.entry-entry.ensures.accepted c.requires
          c.in-Ok.ensures c.new-lines.ensures c.in-Err.fault h written;
      ranges =
          state_ranges no_log.ghosts c.args.machine.now c.args.image.now c.args.bytes.now c.in-Ok.pipeline c.new-lines.result
          (driven c.drive.new.p c.drive.new.schedule) (record {}) c.drive.new.log c.entry-entry.ensures.accepted c.requires
          c.in-Ok.ensures c.new-lines.ensures (Err c.in-Err.fault) h;
      ok =
          subst IsWholeOrShort
          (sym (part_fault no_log.ghosts c.args.machine.now c.args.image.now c.args.bytes.now c.in-Ok.pipeline
          c.new-lines.result (driven c.drive.new.p c.drive.new.schedule) (record {}) c.drive.new.log
          c.entry-entry.ensures.accepted c.requires c.in-Ok.ensures c.new-lines.ensures c.in-Err.fault h written
          c.offset-offset.result c.line_fault-line.result c.offset-offset.ensures c.line_fault-line.ensures))
          (short_fault c.line_fault-line.result (sym c.is_short.ensures ∙ c.if-is_short.true));
      line = λ f is. absurd (cc);
    }

pub returns-else-is_short : goal.returns-else-is_short
returns-else-is_short c =
    let h = c.in-Err.ensures.run in
    let written = written_by_none c.in-Err.fault h.kept.cause in
    let told = part_fault no_log.ghosts c.args.machine.now c.args.image.now c.args.bytes.now c.in-Ok.pipeline
    c.new-lines.result (driven c.drive.new.p c.drive.new.schedule) (record {}) c.drive.new.log
    c.entry-entry.ensures.accepted c.requires c.in-Ok.ensures c.new-lines.ensures c.in-Err.fault h written
    c.offset-offset.result c.line_fault-line.result c.offset-offset.ensures c.line_fault-line.ensures in
    record {
      machine = tt;
      state = tt;
      ranges = tt;
      ok = tt;
      line = λ f is.
          let same = line_same c.line_fault-line.result f is in (
            told ∙ ap (λ f. Some (fault_of f)) same,
            ap is_short (sym same) ∙ sym c.is_short.ensures ∙ c.if-is_short.false,
          );
    }
