-- Where the run isn't over some event may happen, and so may the one that is drawn.
use Rattle.std.proofs.Common.{◌<◌, sym, ap, subst, ◌∙◌}
use Rattle.tss_schedule.specs.Picks.{Fits}
use Rattle.tss_schedule.specs.Seeds.{drawn}
use Rattle.tss_schedule.proofs.Drawing.{some_enabled}
use Rattle.tss_schedule.proofs.SeededRuns.{drawn_fits}
use Rattle.tss_schedule.proofs.seeded.SeededSchedule.pick.Goals as goal
use Rattle.tss_schedule.proofs.seeded.SeededSchedule.pick.Goals.{in-Some, in-None}

pub nonzero_rem-word : goal.nonzero_rem-word
nonzero_rem-word c =
    let p = c.args.p.now in
    let r = c.reached.ensures.reached in
    subst (λ n. 0 < n) (sym c.enabled_count.ensures)
    (some_enabled p.machine r.image p.state r.reached (sym c.finished.ensures ∙ c.if-finished.false))

pub returns-clause-fits : goal.returns-clause-fits
returns-clause-fits c =
    let p = c.args.p.now in
    let fits = drawn_fits p c.reached.ensures.reached (sym c.finished.ensures ∙ c.if-finished.false)
    c.next_word-word.result c.enabled_count.result c.enabled_count.ensures
    c.enabled_at.result c.enabled_at.ensures in
    elim c.match-enabled_at.branch [
      | in-Some w ↦ subst (Fits p) (ap drawn w.in-Some.is ∙ sym w.result-is) fits
      | in-None w ↦ subst (Fits p) (ap drawn w.in-None.is ∙ sym w.result-is) fits
    ]
