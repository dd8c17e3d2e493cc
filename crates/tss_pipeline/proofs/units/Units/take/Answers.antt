-- The inbox's task has a slot, and its decodes may be sent.
use Rattle.std.proofs.Common.{refl, sym, ap, ◌∙◌, subst, length}
use Rattle.tss_pipeline.specs.Lines.{lined, AwaitDecodes}
use Rattle.tss_pipeline.proofs.front_rows.TakeLemmas.{arrives, not_blocked, await_first, slot_free, queue_free, lines_free, decodes_fresh, decodes_free, does_take}
use Rattle.tss_pipeline.proofs.units.Units.take.Goals as goal

pub take-requires : goal.take-requires
take-requires c = record { later = λ t there. (arrives c.args.self.now c.requires.fit t there).later }

pub unreachable-requires : goal.unreachable-requires
unreachable-requires c =
    not_blocked c.args.self.now c.requires.fit c.requires.may (c.in_default.ensures.blocked.0 refl)

pub enter-requires-clause-room : goal.enter-requires-clause-room
enter-requires-clause-room c = slot_free c.args.self.now c.requires.fit c.requires.may c.in-Ok.task c.in-Ok.ensures.task

pub enter-requires-clause-fresh : goal.enter-requires-clause-fresh
enter-requires-clause-fresh c = (arrives c.args.self.now c.requires.fit c.in-Ok.task c.in-Ok.ensures.task).fresh

pub queue_where-requires : goal.queue_where-requires
queue_where-requires c = queue_free c.args.self.now c.requires.fit c.requires.may c.in-Ok.task c.in-Ok.ensures.task

pub expect_all-requires-clause-banks : goal.expect_all-requires-clause-banks
expect_all-requires-clause-banks c =
    subst (AwaitDecodes c.args.self.now.machine.sizes c.args.self.now.mail.decodes) (sym c.deref_mut.ensures.value)
    (await_first c.args.self.now c.requires.fit c.requires.may)

pub expect_all-requires-clause-count : goal.expect_all-requires-clause-count
expect_all-requires-clause-count c =
    (arrives c.args.self.now c.requires.fit c.in-Ok.task c.in-Ok.ensures.task).proper.count

pub expect_all-requires-clause-lines : goal.expect_all-requires-clause-lines
expect_all-requires-clause-lines c =
    lines_free c.args.self.now c.requires.fit c.requires.may c.in-Ok.task c.in-Ok.ensures.task

pub expect_all-requires-clause-fresh : goal.expect_all-requires-clause-fresh
expect_all-requires-clause-fresh c =
    decodes_fresh c.args.self.now c.requires.fit c.requires.may c.in-Ok.task c.in-Ok.ensures.task

pub expect_all-requires-clause-room : goal.expect_all-requires-clause-room
expect_all-requires-clause-room c =
    decodes_free c.args.self.now c.requires.fit c.requires.may c.in-Ok.task c.in-Ok.ensures.task

pub returns : goal.returns
returns c =
    does_take c.args.self.now c.requires.fit c.requires.may c.in-Ok.task c.in-Ok.ensures.task c.take.new.self
    c.enter.new.self c.queue_where.new.queue c.expect_all.new.banks c.expect_all.new.mail c.in-Ok.ensures.ok
    c.enter.ensures.exact c.enter.ensures.flight c.queue_where.ensures
    (c.expect_all.ensures.lines
    ∙ ap (lined c.args.self.now.machine.sizes c.expect_all.new.mail.decodes 0) c.deref_mut.ensures.value)
    c.expect_all.ensures.mail c.expect_all.ensures.sent
    (ap (λ bs. length bs) (sym c.deref_mut.ensures.value) ∙ c.deref_mut.ensures.len)
