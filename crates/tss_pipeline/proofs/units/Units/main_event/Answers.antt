-- Main's step is a call exactly where there is a number, and a spawn finds the inbox empty.
use Rattle.std.proofs.Common.{Some, None, refl}
use Rattle.tss_pipeline.proofs.front_rows.MainLemmas.{does_stretch, does_call, inbox_empty, does_spawn}
use Rattle.tss_pipeline.proofs.units.Units.main_event.Goals as goal

pub returns-then-is_none : goal.returns-then-is_none
returns-then-is_none c =
    does_stretch c.args.self.now c.requires.fit c.requires.may c.next_call.result c.next_call.ensures.exact
    c.if-is_none.ensures c.stretch.new.self c.stretch.new.space c.stretch.ensures.exact c.stretch.ensures.limits

pub unreachable-requires : goal.unreachable-requires
unreachable-requires c =
    c.in-Err.ensures.blocked.0 refl
    (inbox_empty c.args.self.now c.requires.fit c.requires.may c.next_call.result c.next_call.ensures.exact
    c.if-is_none.ensures c.next_call.ensures.number c.call.new.self (Some c.in-Some.task) c.in-Some.ensures.exact
    c.call.ensures.limits c.in-Some.task refl)

pub returns-in-Ok : goal.returns-in-Ok
returns-in-Ok c =
    does_spawn c.args.self.now c.requires.fit c.requires.may c.next_call.result c.next_call.ensures.exact
    c.if-is_none.ensures c.next_call.ensures.number c.call.new.self (Some c.in-Some.task) c.in-Some.ensures.exact
    c.call.ensures.limits c.in-Some.task refl c.accept.new.self c.in-Ok.ensures.ok

pub returns-in_default : goal.returns-in_default
returns-in_default c =
    does_call c.args.self.now c.requires.fit c.requires.may c.next_call.result c.next_call.ensures.exact
    c.if-is_none.ensures c.next_call.ensures.number c.call.new.self None c.in_default.ensures.exact c.call.ensures.limits refl
