-- The view is of the same task.
use Rattle.std.proofs.Common.{refl}
use Rattle.tss_workers.proofs.running.stretch.Goals as goal

pub returns : goal.returns
returns c = record {
  end = c.stretch_task.ensures.exact;
  same = c.stretch_task.ensures.keeps c.args.view.now (record {
    ranges = refl;
    sizes = record { banks = refl; each = refl; bytes = refl };
    reference = refl;
    buffers_reference = refl;
    scratch_reference = refl;
  });
}
