-- An operand that is told who comes next, and the slot freed where its task has left.
use Rattle.std.proofs.Common.{ap, sym, ◌∙◌}
use Rattle.tss_events.specs.Events.{messages_of}
use Rattle.tss_stations.specs.Views.{flight_of, view_in}
use Rattle.tss_stations.specs.Slots.{StationsState, slots_after_link}
use Rattle.tss_stations.specs.Passing.{sent_on_link}
use Rattle.tss_stations.proofs.RowLemmas.{link_flight, link_sent}
use Rattle.tss_stations.proofs.StateLemmas.{link_state}
use Rattle.tss_stations.proofs.stations.Stations.link.Goals as goal

pub returns-clause-exact : goal.returns-clause-exact
returns-clause-exact c =
    let known = ap (λ s. view_in s.slots c.args.o) c.self.view_is ∙ sym c.operand.ensures.exact ∙ c.in-Some.is in
    link_state c.self.inside.slots c.write.new.self c.settle.new.self c.args.o c.in-Some.operand c.linked.result known c.write.ensures
    c.args.next c.linked.ensures c.settle.ensures
    ∙ ap (λ (s : StationsState). record s { slots = slots_after_link s.slots c.args.o c.args.next }) c.self.view_is

pub returns-clause-flight : goal.returns-clause-flight
returns-clause-flight c =
    ap (λ s. flight_of s.slots) (returns-clause-exact c) ∙ link_flight c.args.self.now.slots c.args.o c.args.next

pub returns-clause-messages : goal.returns-clause-messages
returns-clause-messages c =
    c.told_next-sent.ensures ∙ sym (ap (sent_on_link c.args.next) (sym c.operand.ensures.exact ∙ c.in-Some.is))

pub returns-clause-sent : goal.returns-clause-sent
returns-clause-sent c = ap messages_of (returns-clause-messages c) ∙ link_sent c.args.self.now.slots c.args.o c.args.next
