-- What the log tells of its file.
use Rattle.std.proofs.Common.{◌≡◌, Ok, Err, refl, ◌∙◌}
use Rattle.tss_base.specs.declared.counts.Peaks.{Peaks}
use Rattle.tss_schedule.specs.declared.driving.ScheduleFault.TheVariants as fault
use Rattle.tss_schedule.specs.Driving.{Answer, IsWritten}
use Rattle.tss_unit_runs.proofs.SeedLemmas.{at_seed, seed_failed, seed_peaks, seed_events, seed_part}
use Rattle.tss_unit_runs.proofs.LogFileLemmas.{logged_whole, logged_part, logged_rose}
use Rattle.tss_unit_runs.proofs.running.finish_logged.Goals as goal

ok_written : (peaks : Peaks) → IsWritten (Ok peaks)
ok_written peaks e = ok_err e
  where
    ok_err : ◌≡◌ {A = Answer} (Ok peaks) (Err fault.WriteFault) → ⊥
    ok_err e = cc

pub returns-in-Ok : goal.returns-in-Ok
returns-in-Ok g c =
    let h = c.in-Ok.ensures in
    let m = c.args.pipeline.machine in
    let drives = at_seed _ m c.args.image c.args.seed h.last c.args.log.now c.finish.new.log h.accepted c.requires.admissible m
    c.new.result (Ok c.in-Ok.over.peaks) refl c.new.ensures h.drives in
    let peaks = seed_peaks _ m c.args.image c.args.seed h.last c.args.log.now c.finish.new.log h.accepted c.requires.admissible
    c.in-Ok.over.peaks drives in
    let events = seed_events _ m c.args.image c.args.seed h.last c.args.log.now c.finish.new.log h.accepted
    c.requires.admissible c.in-Ok.over.peaks drives in
    record {
      ok = h.ok ∙ (λ i. record { machine = m; image = c.args.image; peaks = peaks i });
      log =
          logged_whole g.F.Files c.args.log.now c.finish.new.log c.requires.header drives.kept.keeps drives.events _
          (drives.lines.text (ok_written c.in-Ok.over.peaks)) drives.lines.none_kept drives.kept.others events;
      err = tt;
      write_fault = tt;
      cause = tt;
      keeps = drives.kept.keeps;
    }

pub returns-in-Err : goal.returns-in-Err
returns-in-Err g c =
    let h = c.in-Err.ensures in
    let m = c.args.pipeline.machine in
    let failed = at_seed _ m c.args.image c.args.seed h.last c.args.log.now c.finish.new.log h.accepted c.requires.admissible m
    c.new.result (Err c.in-Err.field-0) refl c.new.ensures h.drives in
    let drives = seed_failed _ m c.args.image c.args.seed h.last c.args.log.now c.finish.new.log h.accepted
    c.requires.admissible c.in-Err.field-0 failed in
    record {
      ok = tt;
      log = tt;
      err = refl;
      write_fault =
          logged_part g.F.Files c.args.log.now c.finish.new.log c.requires.header drives.kept.keeps drives.events _
          drives.kept.grows (drives.lines.prefix refl) drives.kept.others
          (seed_part _ m c.args.image c.args.seed h.last c.args.log.now c.finish.new.log h.accepted c.requires.admissible drives);
      cause = logged_rose g.F.Files c.args.log.now c.finish.new.log c.requires.header drives.kept.keeps (drives.kept.cause refl);
      keeps = drives.kept.keeps;
    }
