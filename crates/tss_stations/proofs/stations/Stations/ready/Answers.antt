-- An operand that is told its version, and the task queued where it is complete.
use Rattle.std.proofs.Common.{ap, sym, ◌∙◌}
use Rattle.std.specs.Prelude.{is_some}
use Rattle.tss_events.specs.Events.{source_of, messages_of}
use Rattle.tss_protocol.specs.Stations.{after_ready}
use Rattle.tss_stations.specs.Views.{flight_of, view_in}
use Rattle.tss_stations.specs.Slots.{StationsState, slots_after_ready}
use Rattle.tss_stations.specs.Passing.{sent_on_ready}
use Rattle.tss_stations.proofs.RowLemmas.{ready_flight, ready_sent}
use Rattle.tss_stations.proofs.StateLemmas.{written_there, ready_state, ready_flag}
use Rattle.tss_stations.proofs.stations.Stations.ready.Goals as goal

pub wake-complete-requires : goal.wake-complete-requires
wake-complete-requires c =
    let known = ap (λ s. view_in s.slots c.args.o) c.self.view_is ∙ sym c.operand.ensures.exact ∙ c.in-Some.is in
    ap is_some (written_there c.self.inside.slots c.write.new.self c.write.new.self c.args.o c.in-Some.operand c.told.result known c.write.ensures).1

pub returns-clause-exact : goal.returns-clause-exact
returns-clause-exact c =
    let known = ap (λ s. view_in s.slots c.args.o) c.self.view_is ∙ sym c.operand.ensures.exact ∙ c.in-Some.is in
    ready_state c.self.inside.slots c.write.new.self c.wake-complete.new.self c.args.o c.in-Some.operand c.told.result known c.write.ensures
    c.args.version c.args.storage c.told.ensures c.wake-complete.ensures.slots
    ∙ ap (λ (s : StationsState). record s { slots = slots_after_ready s.slots c.args.o c.args.version c.args.storage }) c.self.view_is

pub returns-clause-flight : goal.returns-clause-flight
returns-clause-flight c =
    ap (λ s. flight_of s.slots) (returns-clause-exact c) ∙ ready_flight c.args.self.now.slots c.args.o c.args.version c.args.storage

pub returns-clause-messages : goal.returns-clause-messages
returns-clause-messages c =
    c.passed_on-sent.ensures
    ∙ sym (ap (sent_on_ready c.args.version c.args.storage) (sym c.operand.ensures.exact ∙ c.in-Some.is))

pub returns-clause-sent : goal.returns-clause-sent
returns-clause-sent c =
    ap messages_of (returns-clause-messages c) ∙ ready_sent c.args.self.now.slots c.args.o c.args.version c.args.storage

pub returns-clause-queued : goal.returns-clause-queued
returns-clause-queued c =
    let known = ap (λ s. view_in s.slots c.args.o) c.self.view_is ∙ sym c.operand.ensures.exact ∙ c.in-Some.is in
    ready_flag c.self.inside.slots c.write.new.self c.wake-complete.new.self c.args.o c.in-Some.operand c.told.result known c.write.ensures
    c.args.version c.args.storage c.wake-complete.result c.told.ensures c.wake-complete.ensures.complete
    ∙ ap (λ s. (after_ready (flight_of s.slots) c.args.o (source_of c.args.version c.args.storage)).queued) c.self.view_is
