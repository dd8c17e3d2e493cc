-- A run, event by event: a version asks whether it may retire while a second reader of its object is decoded, and is
-- refused.
use Rattle.std.proofs.Common.{◌≡◌, true, List, [], ◌∷◌, Some, None, refl, ap, ◌∙◌}
use Rattle.std.specs.Prelude.{◌==◌, ◌&&◌, if◌then◌else◌, nat_lt, is_none, is_some}
use Rattle.std.specs.FinMap.{get, len, empty, len-empty}
use Rattle.tss_base.specs.declared.operand.Mode.TheVariants.{Input}
use Rattle.tss_base.specs.declared.event.Event.{Event}
use Rattle.tss_base.specs.declared.event.Event.TheVariants as event
use Rattle.tss_base.specs.Names.{name_cmp}
use Rattle.tss_isa.specs.InstrTable.{instr_of}
use Rattle.tss_model.specs.Core.{core_step}
use Rattle.tss_model.specs.TaskRun.{repeated}
use Rattle.tss_model.specs.MainStep.{main_step, spawn_on}
use Rattle.tss_protocol.specs.Names.{station_of}
use Rattle.tss_protocol.specs.Mail.{no_mail}
use Rattle.tss_protocol.specs.State.{State, Flying, Entry}
use Rattle.tss_protocol.specs.Stations.{entered}
use Rattle.tss_protocol.specs.Renaming.{Turn, wait_or, fill_of, decode_wait, decoded_by, may_retire, idle_by}
use Rattle.tss_protocol.specs.MainEvent.{after_call}
use Rattle.tss_protocol.specs.UnitMachine.{is_enabled, after_event, without, tables_of, with_decoded}
use Rattle.tss_protocol.specs.UnitMachine.{can_decode_message, decode_message_taken, idle_message_taken, with_entries}
use Rattle.tss_protocol.specs.Run.{after_events, IsRun}
use Rattle.tss_protocol.proofs.KnownEvents.{small}
use Rattle.tss_protocol.proofs.RacingProgram.{racing, with_version, reading, reader, start, before_first, after_first}
use Rattle.tss_protocol.proofs.RacingProgram.{goes_to_first, before_second, after_second, second_task, one}
use Rattle.tss_protocol.proofs.RacingProgram.{room_for_one, own_turn, only, at_one, gone_one, at_only, again_only}
use Rattle.tss_protocol.proofs.RacingProgram.{none_counted, idle_with, first_spawn, o1, o2}
use Rattle.tss_protocol.proofs.FirstReader.{may_take_first, takes_first, first_entry, may_decode_first, decodes_first}
use Rattle.tss_protocol.proofs.FirstReader.{may_ack_first, acks_first, may_open, opens, may_ready, readies, may_start}
use Rattle.tss_protocol.proofs.FirstReader.{starts, may_exec, execs, may_finish, finishes, asking, asks, may_release}
use Rattle.tss_protocol.proofs.FirstReader.{releases, parted, may_bye, byes}

-- main spawns task 2
may_go : is_enabled small (parted after_first None) event.Main ≡ true
unfolding is_enabled core_step instr_of
may_go = refl

goes_to_second : after_event small (parted after_first None) event.Main ≡ parted before_second None
unfolding after_event repeated main_step core_step instr_of
goes_to_second = refl

may_spawn : is_enabled small (parted before_second None) event.Main ≡ true
unfolding is_enabled core_step instr_of
may_spawn = refl

second_spawn : after_event small (parted before_second None) event.Main ≡ parted after_second (Some (reader 2))
unfolding after_event core_step instr_of
second_spawn = ap (λ r. after_call (parted before_second None) (spawn_on before_second r)) second_task

-- task 2 is taken
abbrev taken_second : State
taken_second =
    with_version after_second (one o2 tt) (only 2 (entered (reader 2))) [] empty first_entry asking
    (record no_mail { decodes = one o2 reading; idles = one o1 asks })

may_take_second : is_enabled small (parted after_second (Some (reader 2))) event.Take ≡ true
unfolding is_enabled
may_take_second = λ i.
    room_for_one i
    && nat_lt (none_counted {X = Flying} (λ task y. station_of small.sizes task == 0) i) 8

takes_second : after_event small (parted after_second (Some (reader 2))) event.Take ≡ taken_second
unfolding after_event
takes_second = refl

-- operand 2.0 is decoded: one more reader is sent to version 1.0
abbrev second_entry : Entry
second_entry = record first_entry { sent = 2 }

abbrev decoded_second : State
decoded_second =
    with_version after_second (one o2 tt) (only 2 (entered (reader 2))) [] empty second_entry asking
    (record no_mail { acks = one o2 tt; uses = one o2 o1; idles = one o1 asks })

may_decode_second : is_enabled small taken_second (event.Decode o2) ≡ true
unfolding is_enabled
may_decode_second =
    ap (can_decode_message small taken_second o2) (at_one o2 reading)
    ∙ (λ i. is_none (wait_or (own_turn o2 i) Turn
    (decode_wait small.sizes (fill_of small.sizes (tables_of taken_second) 0) (at_only 0x20000 first_entry i) Input)))

decodes_second : after_event small taken_second (event.Decode o2) ≡ decoded_second
unfolding after_event
decodes_second =
    ap (decode_message_taken small (without taken_second (event.Decode o2)) o2) (at_one o2 reading)
    ∙ (λ i. with_decoded
    (record taken_second { mail = record no_mail { decodes = gone_one o2 reading i; idles = one o1 asks } })
    (decoded_by (tables_of taken_second) o2 reading 0 (at_only 0x20000 first_entry i)))
    ∙ (λ i. record decoded_second { entries = again_only 0x20000 first_entry second_entry i })

-- operand 2.0 is acknowledged
abbrev acked_second : State
acked_second =
    with_version after_second empty (only 2 (entered (reader 2))) [] empty second_entry asking
    (record no_mail { uses = one o2 o1; idles = one o1 asks })

may_ack_second : is_enabled small decoded_second (event.Ack o2) ≡ true
unfolding is_enabled
may_ack_second = ap is_some (at_one o2 tt)

acks_second : after_event small decoded_second (event.Ack o2) ≡ acked_second
unfolding after_event
acks_second = λ i.
    record acked_second {
      gateway = gone_one o2 tt i;
      mail = record no_mail { acks = gone_one o2 tt i; uses = one o2 o1; idles = one o1 asks };
    }

-- version 1.0 is refused
abbrev refused : State
refused =
    with_version after_second empty (only 2 (entered (reader 2))) [] empty second_entry asking
    (record no_mail { uses = one o2 o1; nacks = one o1 tt })

may_idle : is_enabled small acked_second (event.Idle o1) ≡ true
unfolding is_enabled
may_idle = ap is_some (at_one o1 asks)

idles : after_event small acked_second (event.Idle o1) ≡ refused
unfolding after_event
idles =
    ap (idle_message_taken (without acked_second (event.Idle o1)) o1) (at_one o1 asks)
    ∙ (λ i. with_entries
    (record acked_second { mail = record no_mail { uses = one o2 o1; idles = gone_one o1 asks i } })
    (idle_by (only 0x20000 second_entry) o1 0x20000
    (at_only 0x20000 second_entry i)
    (may_retire o1 1 (at_only 0x20000 second_entry i))))

-- ---- the run

-- one more event before others
stepped : (S T R : State) (e : Event) (es : List Event)
    → is_enabled small S e ≡ true
    → after_event small S e ≡ T
    → after_events small T es ≡ Some R
    → after_events small S (e ∷ es) ≡ Some R
unfolding after_events
stepped S T R e es may goes rest =
    ap (λ b. if b then after_events small (after_event small S e) es else None) may
    ∙ ap (λ U. after_events small U es) goes
    ∙ rest

abbrev race : List Event
race =
    event.Main ∷ event.Main ∷ event.Take ∷ event.Decode o1 ∷ event.Ack o1 ∷ event.Open o1 ∷ event.Ready o1 ∷
    event.Start 0 ∷ event.Exec 0 ∷ event.Finish 0 ∷ event.Release o1 ∷ event.Bye o1 ∷
    event.Main ∷ event.Main ∷ event.Take ∷ event.Decode o2 ∷ event.Ack o2 ∷ event.Idle o1 ∷ []

may_begin : is_enabled small start event.Main ≡ true
unfolding is_enabled core_step instr_of
may_begin = refl

may_first : is_enabled small (idle_with before_first None) event.Main ≡ true
unfolding is_enabled core_step instr_of
may_first = refl

nothing_more : (S : State) → after_events small S [] ≡ Some S
unfolding after_events
nothing_more S = refl

-- these events are a run, and leave a nack and no retire
pub race_is_a_run : IsRun small racing race refused
race_is_a_run =
    let rest = nothing_more refused in
    let rest = stepped _ _ refused _ _ may_idle idles rest in
    let rest = stepped _ _ refused _ _ may_ack_second acks_second rest in
    let rest = stepped _ _ refused _ _ may_decode_second decodes_second rest in
    let rest = stepped _ _ refused _ _ may_take_second takes_second rest in
    let rest = stepped _ _ refused _ _ may_spawn second_spawn rest in
    let rest = stepped _ _ refused _ _ may_go goes_to_second rest in
    let rest = stepped _ _ refused _ _ may_bye byes rest in
    let rest = stepped _ _ refused _ _ may_release releases rest in
    let rest = stepped _ _ refused _ _ may_finish finishes rest in
    let rest = stepped _ _ refused _ _ may_exec execs rest in
    let rest = stepped _ _ refused _ _ may_start starts rest in
    let rest = stepped _ _ refused _ _ may_ready readies rest in
    let rest = stepped _ _ refused _ _ may_open opens rest in
    let rest = stepped _ _ refused _ _ may_ack_first acks_first rest in
    let rest = stepped _ _ refused _ _ may_decode_first decodes_first rest in
    let rest = stepped _ _ refused _ _ may_take_first takes_first rest in
    let rest = stepped _ _ refused _ _ may_first first_spawn rest in
    stepped _ _ refused _ _ may_begin goes_to_first rest

pub race_leaves_a_nack : get refused.mail.nacks o1 ≡ Some tt
race_leaves_a_nack = at_one o1 tt

pub race_leaves_no_retire : len refused.mail.retires ≡ 0
race_leaves_no_retire = len-empty name_cmp (Unit {0})
