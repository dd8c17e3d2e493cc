-- The inbox's task may be taken by the tests of the gateway and the stations.
use Rattle.std.proofs.Common.{true, false, None, refl, sym, ◌∙◌}
use Rattle.tss_pipeline.proofs.front_rows.TakeLemmas.{may_take_by, arrives, may_take}
use Rattle.tss_pipeline.proofs.units.Units.can_take.Goals as goal

pub room-requires : goal.room-requires
room-requires c = (arrives c.args.self.now c.requires c.in-Some.task.now (sym c.in-Some.ensures)).proper.first

pub returns-then-has_window : goal.returns-then-has_window
returns-then-has_window c =
    may_take c.args.self.now c.requires c.in-Some.task.now (sym c.in-Some.ensures) true c.room.result
    c.if-has_window.ensures c.room.ensures

pub returns-else-has_window : goal.returns-else-has_window
returns-else-has_window c =
    c.if-has_window.false
    ∙ may_take c.args.self.now c.requires c.in-Some.task.now (sym c.in-Some.ensures) false _ c.if-has_window.ensures refl

pub returns-in-None : goal.returns-in-None
returns-in-None c = may_take_by c.args.self.now None (sym c.in-None.ensures)
