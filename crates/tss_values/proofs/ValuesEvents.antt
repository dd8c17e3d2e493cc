-- Every event keeps the values of program order, so every run has them, and a finished run has its result.
use Rattle.std.proofs.Common.{List, [], ◌∙◌}
use Rattle.tss_base.specs.declared.operand.Task.{Task}
use Rattle.tss_base.specs.declared.machine.Machine.{Machine}
use Rattle.tss_base.specs.declared.event.Event.{Event}
use Rattle.tss_base.specs.declared.event.Event.TheVariants as event
use Rattle.tss_base.specs.Image.{ImageState}
use Rattle.tss_protocol.specs.State.{State, initial_state}
use Rattle.tss_program_order.proofs.RunKeeps.{HasGround-run}
use Rattle.tss_program_order.proofs.MainEvent.{pieces-run}
use Rattle.tss_control.proofs.holders.KeepsOrder.{keeps_order}
use Rattle.tss_values.proofs.buffers.Events.{HasBuffers-Run}
use Rattle.tss_values.proofs.room.Events.{HasRoom-after_event}
use Rattle.tss_values.proofs.FindsLeft.{finds_left}
use Rattle.tss_values.proofs.NamingMain.{HasNaming-after_event}
use Rattle.tss_values.proofs.stored.Quiet.{HasStored-decode, HasStored-ack, HasStored-ready, HasStored-link}
use Rattle.tss_values.proofs.stored.Quiet.{HasStored-bye, HasStored-idle, HasStored-retire, HasStored-use}
use Rattle.tss_values.proofs.stored.Taken.{HasStored-take, HasStored-gone}
use Rattle.tss_values.proofs.stored.Released.{HasStored-release, HasStored-nack}
use Rattle.tss_values.proofs.stored.Open.{HasStored-open}
use Rattle.tss_values.proofs.stored.Copy.{HasStored-copy}
use Rattle.tss_values.proofs.ValuesMain.{follows-after_event, same-after_event}
use Rattle.tss_values.proofs.returns.Events.{copied_room, HasReturns-beside}
use Rattle.tss_values.proofs.home.Events.{HasHome-ack, HasHome-open, HasHome-use, HasHome-release, HasHome-nack}
use Rattle.tss_values.proofs.home.Events.{HasHome-retire, HasHome-idle, HasHome-ready, HasHome-link, HasHome-bye}
use Rattle.tss_values.proofs.home.Events.{HasHome-finish, HasHome-take}
use Rattle.tss_values.proofs.home.Copy.{HasHome-copy}
use Rattle.tss_values.proofs.home.Main.{HasHome-main}
use Rattle.tss_values.proofs.home.Decode.{HasHome-decode}
use Rattle.tss_values.proofs.TrapsHeld.{HasTraps, HasTraps-after_event}
use Rattle.tss_values.proofs.ValuesJoin.{IsValueKept, values_of_run, result_of_values, HaveValues}
use Rattle.tss_values.proofs.MainEndings.{EndsItself-Run}
use Rattle.tss_values.proofs.storages.FixedBytes.{HasFixed, HasFixed-initial_state, same_fixed}
use Rattle.tss_values.proofs.stored.Main.{HasStored-main}
use Rattle.tss_values.proofs.stored.Finish.{HasStored-finish}
use Rattle.tss_values.proofs.stored.Exec.{HasStored-exec}
use Rattle.tss_values.proofs.stored.Start.{HasStored-start}
use Rattle.tss_values.proofs.home.Workers.{HasHome-start, HasHome-exec}
use Rattle.tss_values.proofs.returns.Workers.{HasReturns-start, HasReturns-exec}
use Rattle.tss_values.proofs.home.Gone.{HasHome-gone}
use Rattle.tss_values.proofs.Values.{HasStored, HasWorkers, HasReturns, HasHome, HasMain, HasValues}
use Rattle.tss_values.proofs.workers.Events.{HasWorkers-after_event}
use Rattle.tss_values.proofs.ValuesFirst.{HasValues-initial_state}
use Rattle.tss_values.proofs.ValuesFinds.{IsPartKept, fit_run, bytes_run, placed_run, operands_run, outputs_run}
use Rattle.tss_program_order.specs.Refinement.{ResultLaw}
use Rattle.tss_control.proofs.GroundworkControl.{Facts-Run}

-- the values, and what can't be written as loaded
record HasCarried (m : Machine) (i : ImageState) (all ts : List Task) (S : State) : Type 0 where
  values : HasValues m i all ts S
  fixed : HasFixed i S

-- ---- storages

keeps_stored : (e : Event) → IsPartKept e (λ m i all ts S. HasStored m i ts S)
keeps_stored event.Main m i S f on =
    HasStored-main m i S f.facts f.values.stored on
keeps_stored event.Take m i S f on = HasStored-take m i S f.basis f.values.stored on
keeps_stored (event.Decode o) m i S f on = HasStored-decode m i f.ts f.g S f.control f.values.stored o on
keeps_stored (event.Ack o) m i S f on = HasStored-ack m i f.ts f.g S f.control f.values.stored o on
keeps_stored (event.Open o) m i S f on =
    HasStored-open m i S f.facts f.values.stored f.values.home
    (finds_left m i S f.basis f.values.main f.values.naming) o on
    (keeps_order m S f.facts (event.Open o))
keeps_stored (event.Use o) m i S f on = HasStored-use m i f.ts f.g S f.control f.values.stored o on
keeps_stored (event.Ready o) m i S f on =
    HasStored-ready m i f.ts f.g S f.control f.values.stored o on
    (keeps_order m S f.facts (event.Ready o))
keeps_stored (event.Link o) m i S f on =
    HasStored-link m i f.ts f.g S f.control f.values.stored o on
    (keeps_order m S f.facts (event.Link o))
keeps_stored (event.Start w) m i S f on =
    HasStored-start m i S f.facts f.buffers f.values.stored w on
keeps_stored (event.Exec w) m i S f on =
    HasStored-exec m i S f.work f.values.stored w
keeps_stored (event.Finish w) m i S f on =
    HasStored-finish m i S f.facts f.values.stored f.values.workers w on
keeps_stored (event.Release o) m i S f on =
    HasStored-release m i S f.facts f.values.stored
    (finds_left m i S f.basis f.values.main f.values.naming) o on
    (keeps_order m S f.facts (event.Release o))
keeps_stored (event.Bye o) m i S f on = HasStored-bye m i f.ts f.g S f.control f.values.stored o on
keeps_stored (event.Idle v) m i S f on = HasStored-idle m i f.ts f.g S f.control f.values.stored v on
keeps_stored (event.Nack v) m i S f on =
    HasStored-nack m i S f.facts f.values.stored
    (finds_left m i S f.basis f.values.main f.values.naming) v on
    (keeps_order m S f.facts (event.Nack v))
keeps_stored (event.Retire v) m i S f on = HasStored-retire m i f.ts f.g S f.control f.values.stored v on
keeps_stored (event.Copy b) m i S f on =
    HasStored-copy m i S f.facts f.values.stored f.values.returns b
    (λ c at. copied_room m i S f.facts f.fit f.values.room b c at) on
keeps_stored (event.Gone v) m i S f on =
    HasStored-gone m i S f.basis f.values.stored f.buffers v

-- ---- what comes home

keeps_returns : (e : Event) → IsPartKept e (λ m i all ts S. HasReturns m i ts S)
keeps_returns (event.Start w) m i S f on =
    HasReturns-start m i S f.work f.values.returns w
keeps_returns (event.Exec w) m i S f on =
    HasReturns-exec m i S f.work f.values.returns w
keeps_returns e m i S f on =
    HasReturns-beside m i S f.facts f.fit f.values.stored f.buffers f.values.room f.values.returns
    e tt on

-- ---- home

keeps_home : (e : Event) → IsPartKept e (λ m i all ts S. HasHome m i ts S)
keeps_home event.Main m i S f on =
    HasHome-main m i S f.facts f.image f.pieces f.values.home f.values.main on f.own
keeps_home event.Take m i S f on = HasHome-take m i S f.facts f.values.home on
keeps_home (event.Decode o) m i S f on = HasHome-decode m i S f.facts f.values.home o on
keeps_home (event.Ack o) m i S f on = HasHome-ack m i S f.facts f.values.home o
keeps_home (event.Open o) m i S f on = HasHome-open m i S f.facts f.values.home o on
keeps_home (event.Use o) m i S f on = HasHome-use m i S f.facts f.values.home o on
keeps_home (event.Ready o) m i S f on = HasHome-ready m i S f.facts f.values.home o on
keeps_home (event.Link o) m i S f on = HasHome-link m i S f.facts f.values.home o on
keeps_home (event.Start w) m i S f on =
    HasHome-start m i S f.work f.values.home w on
keeps_home (event.Exec w) m i S f on =
    HasHome-exec m i S f.work f.values.home w on
keeps_home (event.Finish w) m i S f on = HasHome-finish m i S f.facts f.values.home w on
keeps_home (event.Release o) m i S f on = HasHome-release m i S f.facts f.values.home o on
keeps_home (event.Bye o) m i S f on = HasHome-bye m i S f.facts f.values.home o on
keeps_home (event.Idle v) m i S f on = HasHome-idle m i S f.facts f.values.home v on
keeps_home (event.Nack v) m i S f on = HasHome-nack m i S f.facts f.values.home v on
keeps_home (event.Retire v) m i S f on = HasHome-retire m i S f.facts f.values.home v on
keeps_home (event.Copy b) m i S f on =
    HasHome-copy m i S f.facts f.values.returns f.values.home b on
keeps_home (event.Gone v) m i S f on =
    HasHome-gone m i S f.facts f.values.main f.values.naming f.values.returns f.values.home f.bytes
    f.placed f.own v on

-- ---- main and the whole

traps_of : (m : Machine) (i : ImageState) (all : List Task) (S : State) → HasMain m i all S → HasTraps m i S
traps_of m i all S h = record { held = h.held; trap = h.trap; judged = h.judged }

keeps_main : (e : Event) → IsPartKept e (λ m i all ts S. HasMain m i all S)
keeps_main e m i S f on =
    let v = f.values in
    let traps = HasTraps-after_event m i S f.basis (traps_of m i f.all S v.main) v.workers e on in
    record {
      follows = follows-after_event m i S f.basis f.image f.pieces v.home v.main e on;
      same = same-after_event m i S f.basis f.image f.pieces v.home v.main e on;
      held = traps.held;
      trap = traps.trap;
      judged = traps.judged;
    }

keeps_workers : (e : Event) → IsPartKept e (λ m i all ts S. HasWorkers m i S)
keeps_workers e m i S f on =
    HasWorkers-after_event m i S f.work f.accepted f.fixed
    (λ e a fixed. same_fixed m i f.accepted S f.work
    f.values.returns f.operands f.outputs a fixed e)
    (finds_left m i S f.basis f.values.main f.values.naming) f.values e on

carried_after : (e : Event) → IsPartKept e HasCarried
carried_after e m i S f on = record {
  values = record {
    stored = keeps_stored e m i S f on;
    workers = keeps_workers e m i S f on;
    returns = keeps_returns e m i S f on;
    home = keeps_home e m i S f on;
    room = HasRoom-after_event m S f.facts f.values.room f.buffers e on;
    main = keeps_main e m i S f on;
    naming =
        HasNaming-after_event m i S f.facts f.image f.pieces f.values.home f.values.main f.values.naming e on;
  };
  fixed =
      λ a fixed. same_fixed m i f.accepted S f.work
      f.values.returns f.operands f.outputs a fixed e ∙ f.fixed a fixed;
}

-- every event keeps the values
keeps_carried : IsValueKept HasCarried
keeps_carried m i es S e accepted admissible run h on =
    carried_after e m i S (record {
      accepted = accepted;
      admissible = admissible;
      work = record {
        facts = Facts-Run m i es S run;
        buffers = HasBuffers-Run m i es S run;
        image = HasGround-run m i es S run;
        workers = h.values.workers;
      };
      pieces = pieces-run m i es S run;
      fit = fit_run m i es S run;
      own = EndsItself-Run m i es S run;
      bytes = bytes_run m i es S run;
      placed = placed_run m i accepted admissible es S run;
      operands = operands_run m i accepted admissible es S run;
      outputs = outputs_run m i accepted admissible es S run;
      fixed = h.fixed;
      values = h.values;
    }) on

-- every run has them
pub HasValues-Run : HaveValues
HasValues-Run m i es S accepted admissible run =
    let first : HasCarried m i [] [] (initial_state i) =
    record { values = HasValues-initial_state m i; fixed = HasFixed-initial_state i } in
    (values_of_run HasCarried keeps_carried m i accepted admissible first es S run).values

-- so a finished run has the result of program order
pub result_of_runs : ResultLaw
result_of_runs = result_of_values HasValues-Run
