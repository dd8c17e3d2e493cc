-- A run up to the end of its first task, event by event, in which the task's version is left asking whether it may
-- retire.
use Rattle.std.proofs.Common.{◌≡◌, ℕ, suc, true, false, [], ◌∷◌, Option, Some, None, refl, ap, ◌∙◌}
use Rattle.std.specs.Prelude.{◌==◌, ◌&&◌, nat_lt, is_none, is_some}
use Rattle.std.specs.FinMap.{len, empty, get-empty}
use Rattle.std.specs.Ordering.{nat_cmp}
use Rattle.tss_base.specs.declared.operand.Mode.TheVariants.{Input}
use Rattle.tss_base.specs.declared.operand.Task.{Task}
use Rattle.tss_base.specs.declared.event.Event.TheVariants as event
use Rattle.tss_isa.specs.InstrTable.{instr_of}
use Rattle.tss_model.specs.Core.{core_step}
use Rattle.tss_model.specs.TaskRun.{repeated, task_step}
use Rattle.tss_model.specs.MainStep.{MainState}
use Rattle.tss_protocol.specs.Names.{bank_of, station_of}
use Rattle.tss_protocol.specs.Mail.{Home, Source, OpenContents, ReleaseContents, IdleContents, Bye, Idle, no_mail}
use Rattle.tss_protocol.specs.State.{State, Flying, Busy, Entry, Version}
use Rattle.tss_base.specs.declared.marks.Stage.TheVariants.{Running, Finished}
use Rattle.tss_protocol.specs.Stations.{new_operand, entered, task_after_ready, awaited, woken_in, finished_in}
use Rattle.tss_protocol.specs.Stations.{parted_in}
use Rattle.tss_protocol.specs.Versions.{first_version, after_open, released_once, sending, settle, settled, settle_at}
use Rattle.tss_protocol.specs.Versions.{released_at}
use Rattle.tss_protocol.specs.Workers.{can_start, busy_at_start, can_exec, exec_stretch, busy_after, can_finish}
use Rattle.tss_protocol.specs.Renaming.{Turn, wait_or, decode_wait, decoded_by}
use Rattle.tss_protocol.specs.UnitMachine.{is_enabled, after_event, without, tables_of, stores_of, with_decoded}
use Rattle.tss_protocol.specs.UnitMachine.{can_decode_message, decode_message_taken, can_open_message}
use Rattle.tss_protocol.specs.UnitMachine.{open_message_taken, with_versioned, with_woken, ready_message_taken}
use Rattle.tss_protocol.specs.UnitMachine.{start_task, after_exec, after_finish, with_flight, release_message_taken}
use Rattle.tss_protocol.specs.UnitMachine.{bye_message_taken}
use Rattle.tss_protocol.proofs.KnownEvents.{small}
use Rattle.tss_protocol.proofs.RacingProgram.{with_version, x, reading, reader, after_first, one, room_for_one}
use Rattle.tss_protocol.proofs.RacingProgram.{own_turn, only, at_one, gone_one, again_one, at_only, gone_only}
use Rattle.tss_protocol.proofs.RacingProgram.{again_only, none_counted, none_held, at, idle_with, o1}

-- task 1 is taken
abbrev taken_first : State
taken_first =
    at after_first None (one o1 tt) (only 1 (entered (reader 1))) [] empty empty empty empty
    (record no_mail { decodes = one o1 reading })

pub may_take_first : is_enabled small (idle_with after_first (Some (reader 1))) event.Take ≡ true
unfolding is_enabled
may_take_first = λ i.
    room_for_one i
    && nat_lt (none_counted {X = Flying} (λ task y. station_of small.sizes task == 0) i) 8

pub takes_first : after_event small (idle_with after_first (Some (reader 1))) event.Take ≡ taken_first
unfolding after_event
takes_first = refl

-- operand 1.0 is decoded
abbrev pub first_entry : Entry
first_entry = record { object = x; latest = o1; sent = 1; retiring = false }

abbrev opening : OpenContents
opening = record { operand = reading; storage = Some Home; follows = None }

abbrev decoded_first : State
decoded_first =
    at after_first None (one o1 tt) (only 1 (entered (reader 1))) [] empty (only 0x20000 first_entry) (one o1 0) empty
    (record no_mail { acks = one o1 tt; opens = one o1 opening })

pub may_decode_first : is_enabled small taken_first (event.Decode o1) ≡ true
unfolding is_enabled
may_decode_first =
    ap (can_decode_message small taken_first o1) (at_one o1 reading)
    ∙ (λ i. is_none (wait_or (own_turn o1 i) Turn (decode_wait small.sizes
    (record {
      entries = none_counted {X = Entry} (λ base e. bank_of small.sizes e.object == 0) i;
      places = none_held {X = ℕ} (λ v b. b == 0) i;
      buffers = none_held {X = ℕ} (λ v b. b == 0) i;
    })
    (get-empty {X = Entry} nat_cmp 0x20000 i) Input)))

pub decodes_first : after_event small taken_first (event.Decode o1) ≡ decoded_first
unfolding after_event
decodes_first =
    ap (decode_message_taken small (without taken_first (event.Decode o1)) o1) (at_one o1 reading)
    ∙ (λ i. with_decoded
    (record taken_first { mail = record no_mail { decodes = gone_one o1 reading i } })
    (decoded_by (tables_of taken_first) o1 reading 0 (get-empty {X = Entry} nat_cmp 0x20000 i)))

-- operand 1.0 is acknowledged
abbrev acked_first : State
acked_first =
    at after_first None empty (only 1 (entered (reader 1))) [] empty (only 0x20000 first_entry) (one o1 0) empty
    (record no_mail { opens = one o1 opening })

pub may_ack_first : is_enabled small decoded_first (event.Ack o1) ≡ true
unfolding is_enabled
may_ack_first = ap is_some (at_one o1 tt)

pub acks_first : after_event small decoded_first (event.Ack o1) ≡ acked_first
unfolding after_event
acks_first = λ i.
    record acked_first {
      gateway = gone_one o1 tt i;
      mail = record no_mail { acks = gone_one o1 tt i; opens = one o1 opening };
    }

-- version 1.0 is opened
abbrev source : Source
source = record { version = o1; storage = Home }

abbrev fresh : Version
fresh = first_version o1 x (Some Home) Input

abbrev opened : State
opened =
    with_version after_first empty (only 1 (entered (reader 1))) [] empty first_entry fresh
    (record no_mail { readies = one o1 source })

pub may_open : is_enabled small acked_first (event.Open o1) ≡ true
unfolding is_enabled
may_open = ap (can_open_message acked_first) (at_one o1 opening)

pub opens : after_event small acked_first (event.Open o1) ≡ opened
unfolding after_event
opens =
    ap (open_message_taken (without acked_first (event.Open o1)) o1) (at_one o1 opening)
    ∙ (λ i. with_versioned
    (record acked_first { mail = record no_mail { opens = gone_one o1 opening i } })
    (after_open empty o1 opening))

-- operand 1.0 is ready, and task 1 is queued
abbrev queued : Flying
queued = awaited (task_after_ready (entered (reader 1)) 0 (new_operand reading) source)

abbrev readied : State
readied =
    with_version after_first empty (only 1 queued) (1 ∷ []) empty first_entry fresh no_mail

pub may_ready : is_enabled small opened (event.Ready o1) ≡ true
unfolding is_enabled
may_ready = ap is_some (at_one o1 source)

pub readies : after_event small opened (event.Ready o1) ≡ readied
unfolding after_event
readies =
    ap (ready_message_taken (without opened (event.Ready o1)) o1) (at_one o1 source)
    ∙ (λ i. with_woken
    (record opened { mail = record no_mail { readies = gone_one o1 source i } })
    1
    (woken_in (only 1 (entered (reader 1))) o1 source (at_only 1 (entered (reader 1)) i)))
    ∙ (λ i. record readied { flight = again_only 1 (entered (reader 1)) queued i })

-- task 1 starts on worker 0
abbrev running : Flying
running = record queued { stage = Running }

abbrev busy : Busy
busy = busy_at_start queued

abbrev started : State
started =
    with_version after_first empty (only 1 running) [] (only 0 busy) first_entry fresh no_mail

pub may_start : is_enabled small readied (event.Start 0) ≡ true
unfolding is_enabled
may_start = ap (λ b. can_start 3 0 b (1 ∷ [])) (get-empty {X = Busy} nat_cmp 0)

pub starts : after_event small readied (event.Start 0) ≡ started
unfolding after_event
starts =
    ap (start_task small readied 0 1 []) (at_only 1 queued)
    ∙ (λ i. record started { flight = again_only 1 queued running i })

-- it runs to its end
abbrev done : Busy
done = busy_after busy (exec_stretch started.code small.limits 100 busy (stores_of started))

abbrev executed : State
executed =
    with_version after_first empty (only 1 running) [] (only 0 done) first_entry fresh no_mail

pub may_exec : is_enabled small started (event.Exec 0) ≡ true
unfolding is_enabled
may_exec = ap can_exec (at_only 0 busy)

pub execs : after_event small started (event.Exec 0) ≡ executed
unfolding after_event repeated task_step core_step instr_of
execs =
    ap (after_exec small started 0) (at_only 0 busy) ∙ (λ i. record executed { workers = again_only 0 busy done i })

-- task 1 has finished, and releases its operand
abbrev finished : Flying
finished = record running { stage = Finished }

abbrev releasing : ReleaseContents
releasing = record { version = o1; producer = false }

abbrev ended : State
ended =
    with_version after_first empty (only 1 finished) [] empty first_entry fresh
    (record no_mail { releases = one o1 releasing })

pub may_finish : is_enabled small executed (event.Finish 0) ≡ true
unfolding is_enabled repeated task_step core_step instr_of
may_finish = ap can_finish (at_only 0 done)

pub finishes : after_event small executed (event.Finish 0) ≡ ended
unfolding after_event repeated task_step core_step instr_of
finishes =
    ap (after_finish executed 0) (at_only 0 done)
    ∙ (λ i. with_flight
    (record executed { workers = gone_only 0 done i })
    (finished_in (only 1 running) 1 (at_only 1 running i)))
    ∙ (λ i. record ended { flight = again_only 1 running finished i })

-- version 1.0 has no reader left, and asks whether it may retire
abbrev left : Version
left = released_once fresh o1

abbrev pub asking : Version
asking = record left { asked = Some 1 }

abbrev pub asks : IdleContents
asks = record { base = 0x20000; count = 1 }

abbrev released : State
released =
    with_version after_first empty (only 1 finished) [] empty first_entry asking
    (record no_mail { byes = one o1 false; idles = one o1 asks })

pub may_release : is_enabled small ended (event.Release o1) ≡ true
unfolding is_enabled
may_release = ap is_some (at_one o1 releasing)

settles : (n : ℕ) → settle (suc n) (one o1 left) o1 ≡ record { part = one o1 asking; sent = Idle o1 asks ∷ [] }
unfolding settle
settles n =
    ap (settle_at (one o1 left) o1 (settle n)) (at_one o1 left)
    ∙ (λ i. record { part = again_one o1 left asking i; sent = Idle o1 asks ∷ [] })

pub releases : after_event small ended (event.Release o1) ≡ released
unfolding after_event
releases =
    ap (release_message_taken (without ended (event.Release o1)) o1) (at_one o1 releasing)
    ∙ (λ i. with_versioned
    (record ended { mail = record no_mail { releases = gone_one o1 releasing i } })
    (released_at (one o1 fresh) o1 o1 false (at_one o1 fresh i)))
    ∙ (λ i. with_versioned
    (record ended { mail = no_mail })
    (sending (Bye o1 false ∷ []) (settled (again_one o1 fresh left i) o1)))
    ∙ (λ i. with_versioned
    (record ended { mail = no_mail })
    (sending (Bye o1 false ∷ []) (settles (len (one o1 left)) i)))

-- operand 1.0 and with it task 1 have left
abbrev pub parted : MainState → Option Task → State
parted main inbox =
    record (with_version main empty empty [] empty first_entry asking (record no_mail { idles = one o1 asks })) {
      inbox = inbox;
    }

pub may_bye : is_enabled small released (event.Bye o1) ≡ true
unfolding is_enabled
may_bye = ap is_some (at_one o1 false)

pub byes : after_event small released (event.Bye o1) ≡ parted after_first None
unfolding after_event
byes =
    ap (bye_message_taken (without released (event.Bye o1)) o1) (at_one o1 false)
    ∙ (λ i. record released {
      flight = parted_in (only 1 finished) o1 false (at_only 1 finished i);
      mail = record no_mail { byes = gone_one o1 false i; idles = one o1 asks };
    })
    ∙ (λ i. record (parted after_first None) { flight = gone_only 1 finished i })
