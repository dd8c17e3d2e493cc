-- A worker that is busy with a task that is over: its operands' releases may be posted, and the state is that after it.
use Rattle.std.proofs.Common.{refl, sym, ap, ◌∙◌, subst, option_map}
use Rattle.std.specs.FinMap.{get, remove}
use Rattle.tss_base.specs.declared.event.Event.TheVariants as event
use Rattle.tss_maps.proofs.Keys.{nat_order}
use Rattle.tss_maps.proofs.Changes.{from_removed}
use Rattle.tss_maps.proofs.MappedLemmas.{mapped-remove}
use Rattle.tss_protocol.specs.Mail.{posted_all}
use Rattle.tss_protocol.specs.Stations.{flight_after_finish}
use Rattle.tss_protocol.specs.Workers.{can_finish, trap_after_finish}
use Rattle.tss_stations.specs.Views.{flight_of}
use Rattle.tss_mail.specs.Letters.{mail_of}
use Rattle.tss_workers.specs.declared.workers.Finished.{Finished}
use Rattle.tss_workers.specs.Seen.{busy_of, workers_of}
use Rattle.tss_conditions.specs.Posting.{MayPostAll}
use Rattle.tss_pipeline.specs.Fit.{ArePlaced, ground_of}
use Rattle.tss_pipeline.specs.State.{state_of, held_trap}
use Rattle.tss_pipeline.proofs.places.Grounds.{does}
use Rattle.tss_pipeline.proofs.places.Placing.{placed_workers}
use Rattle.tss_pipeline.proofs.worker_rows.BusyLemmas.{passes_not, finish_test, finish_worker, ended_is, worker_within, few_in_flight, may_release, busy_there, finished_state}
use Rattle.tss_pipeline.proofs.units.Units.finish.Goals as goal

pub finish-requires : goal.finish-requires
finish-requires c =
    let x = finish_worker c.args.self.now c.requires.fit c.args.w c.requires.may in
    worker_within c.args.self.now c.requires.fit c.args.w x.0 x.1

pub unreachable-requires : goal.unreachable-requires
unreachable-requires c =
    passes_not (can_finish (option_map busy_of (get c.args.self.now.workers.entries c.args.w)))
    (finish_test c.args.self.now c.requires.fit c.args.w c.requires.may) (c.in_default.ensures.blocked.0 refl)

pub release_all-requires-clause-few : goal.release_all-requires-clause-few
release_all-requires-clause-few c = λ y at.
    let u = c.args.self.now in
    let x = finish_worker u c.requires.fit c.args.w c.requires.may in
    let is = ended_is (get u.workers.entries c.args.w) x.0 c.in-Ok.finished x.1 c.in-Ok.ensures.exact in
    few_in_flight u c.requires.fit c.args.w x.0 x.1 y
    (ap (λ (f : Finished). get (flight_of u.stations.slots) f.task) is ∙ at)

pub release_all-requires-clause-may : goal.release_all-requires-clause-may
release_all-requires-clause-may c =
    let u = c.args.self.now in
    let x = finish_worker u c.requires.fit c.args.w c.requires.may in
    let is = ended_is (get u.workers.entries c.args.w) x.0 c.in-Ok.finished x.1 c.in-Ok.ensures.exact in
    subst (λ (f : Finished). MayPostAll u.mail.size (mail_of u.mail)
    (flight_after_finish (flight_of u.stations.slots) f.task).sent) is
    (may_release u c.requires.fit c.args.w x.0 x.1 c.requires.may)

pub returns : goal.returns
returns c =
    let u = c.args.self.now in
    let w = c.args.w in
    let S = state_of u in
    let sized = c.requires.fit.sized in
    let x = finish_worker u c.requires.fit w c.requires.may in
    let is = ended_is (get u.workers.entries w) x.0 c.in-Ok.finished x.1 c.in-Ok.ensures.exact in
    let idle = c.in-Ok.ensures.idle in
    let rest = c.release_all.ensures.rest in
    let flight = c.finish-2.ensures.flight
    ∙ ap (λ (f : Finished). (flight_after_finish S.flight f.task).part) (sym is) in
    let workers = ap (λ t. workers_of t.entries) idle ∙ mapped-remove nat_order busy_of u.workers.entries w in
    let mail = c.release_all.ensures.posted
    ∙ ap (λ (f : Finished). posted_all S.mail (flight_after_finish S.flight f.task).sent) (sym is) in
    let trap = c.hold.ensures ∙ ap (λ (f : Finished). trap_after_finish S.trap f.task f.trap) (sym is) in
    let state = finished_state u.machine S w (busy_of x.0) (busy_there u c.requires.fit w x.0 x.1)
    (flight_of c.finish-2.new.self.slots) (workers_of c.finish.new.self.entries) (mail_of c.release_all.new.mail)
    (option_map held_trap c.hold.new.held) flight workers mail trap in
    does (event.Finish w) u _ c.requires.fit c.requires.may refl state
    (record {
      limits = sized.limits;
      window = sized.window;
      stations = ap (λ s. s.sizes) c.finish-2.ensures.exact ∙ sized.stations;
      queue = sized.queue;
      workers = ap (λ t. t.size) idle ∙ sized.workers;
      mail = ap (λ m. m.size) rest ∙ sized.mail;
      banks = sized.banks;
      buffer_banks = sized.buffer_banks;
      buffers = sized.buffers;
      object_bytes = sized.object_bytes;
    })
    (subst ArePlaced (λ i. record {
      sizes = u.machine.sizes;
      banks = u.banks.items;
      workers = (sym idle i).entries;
      opens = (sym rest i).opens;
      gones = (sym rest i).gones;
      decodes = (sym rest i).decodes;
    })
    (placed_workers (ground_of u) (remove u.workers.entries w) c.requires.fit.placed
    (λ v y at. c.requires.fit.placed.workers v y (from_removed nat_order u.workers.entries w v y at).1)))
