-- Main's event: it changes nothing of which the control speaks but the round.
use Rattle.std.proofs.Common.{◌≡◌, ℕ, true, ◌&&◌, List, [], ◌∷◌, ◌++◌, append-nil, Option, Some, None, is_none, Result}
use Rattle.std.proofs.Common.{Ok, Err, refl, sym, subst, ap, ◌∙◌}
use Rattle.std.specs.Prelude.{option_to_list}
use Rattle.std.proofs.lemmas.Bool.{and_parts}
use Rattle.tss_base.specs.declared.operand.Task.{Task}
use Rattle.tss_base.specs.declared.machine.Machine.{Machine}
use Rattle.tss_base.specs.declared.event.Event.TheVariants as event
use Rattle.tss_model.specs.Spawn.{spawn_of}
use Rattle.tss_model.specs.MainStep.{MainState, Call, Spawn, Barrier, main_call}
use Rattle.tss_model.specs.MainStep.{spawn_call, spawn_on}
use Rattle.tss_protocol.specs.State.{State}
use Rattle.tss_protocol.specs.Stations.{operand_at}
use Rattle.tss_protocol.specs.MainEvent.{call_next, may_call, after_call, main_by}
use Rattle.tss_protocol.specs.Needs.{round_after_main, round_after_event}
use Rattle.tss_protocol.specs.UnitMachine.{is_enabled, IsEnabled, after_event}
use Rattle.tss_locality.specs.Rounds.{IsRounded}
use Rattle.tss_phases.specs.Phase.{is_decoded}
use Rattle.tss_phases.proofs.MainEvent.{look_ups-main, phase_of-main}
use Rattle.tss_control.specs.Chains.{HasChains}
use Rattle.tss_control.specs.Entries.{HasEntries, HasRetirement}
use Rattle.tss_control.specs.Readers.{Arrivals, HasReaders}
use Rattle.tss_control.specs.Runners.{HasRunners}
use Rattle.tss_control.specs.Holders.{HasHolders}
use Rattle.tss_control.specs.Control.{IsControlled}
use Rattle.tss_names.proofs.SpawnLemmas.{IsNext-spawn_of}
use Rattle.tss_control.proofs.chains.Frames.{HasChains-same}
use Rattle.tss_control.proofs.rounds.EntriesFrames.{HasEntries-same}
use Rattle.tss_control.proofs.rounds.RetirementFrames.{HasRetirement-same}
use Rattle.tss_control.proofs.rounds.ReadersStates.{HasReaders-same}
use Rattle.tss_control.proofs.holders.Fits.{HasHolders-same}
use Rattle.tss_control.proofs.holders.RunnerEvents.{HasRunners-after_event}
use Rattle.tss_control.proofs.GroundworkJoin.{AreGroupsKept}
use Rattle.tss_control.proofs.GroundworkEmpty.{IsControlled-bare, IsBare-drained}
use Rattle.tss_control.proofs.rounds.Spawned.{IsLonger-spawn}
use Rattle.tss_control.proofs.GroundworkGrown.{IsControlled-longer}

-- ---- the round

module _ (m : Machine) (ts : List Task) (g : Arrivals) (S : State) (round : IsRounded S ts)
    (h : IsControlled ts g S) where
  by_spawn : (x : Result Task ℕ)
      → spawn_of (spawn_call S.main.registers) S.home S.main.epoch m.limits S.main.spawned ≡ x
      → IsControlled (ts ++ option_to_list (spawn_on S.main x).1) g S
  by_spawn (Err n) e = subst (λ us. IsControlled us g S) (sym (append-nil ts)) h
  by_spawn (Ok t) e =
      let next = IsNext-spawn_of (spawn_call S.main.registers) S.home S.main.epoch m.limits S.main.spawned t e in
      IsControlled-longer ts (ts ++ t ∷ []) S (IsLonger-spawn S ts t round next.number) round g h

  -- after main's call the new round controls the state before it
  controlled_call : (c : Option Call) → may_call S c ≡ true → IsControlled (round_after_main m S ts c) g S
  controlled_call (Some Spawn) may =
      by_spawn (spawn_of (spawn_call S.main.registers) S.home S.main.epoch m.limits S.main.spawned) refl
  controlled_call (Some Barrier) may = IsControlled-bare S (IsBare-drained S may) g h.orderly
  controlled_call other may = h

-- ---- the state

-- what main leaves
pub record KeepsControl (S T : State) : Type 0 where
  pub versions : T.versions ≡ S.versions
  pub mail : T.mail ≡ S.mail
  pub entries : T.entries ≡ S.entries
  pub flight : T.flight ≡ S.flight
  pub copies : T.copies ≡ S.copies
  pub queue : T.queue ≡ S.queue
  pub workers : T.workers ≡ S.workers

kept_call : (S : State) (d : MainState × Option Task) → KeepsControl S (after_call S d)
kept_call S (x, None) = record {
  versions = refl;
  mail = refl;
  entries = refl;
  flight = refl;
  copies = refl;
  queue = refl;
  workers = refl;
}
kept_call S (x, Some t) = record {
  versions = refl;
  mail = refl;
  entries = refl;
  flight = refl;
  copies = refl;
  queue = refl;
  workers = refl;
}

-- by main's call
pub kept_main : (m : Machine) (S : State) (c : Option Call) → KeepsControl S (main_by m S c)
kept_main m S None = record {
  versions = refl;
  mail = refl;
  entries = refl;
  flight = refl;
  copies = refl;
  queue = refl;
  workers = refl;
}
kept_main m S (Some call) = kept_call S (main_call m.limits S.home S.main call)

-- ---- each group

module _ (m : Machine) (ts : List Task) (g : Arrivals) (S : State) (round : IsRounded S ts) (h : IsControlled ts g S)
    (on : IsEnabled m S event.Main) where
  -- before the event, by the round after it
  controlled_before_main : IsControlled (round_after_event m S ts event.Main) g S
  unfolding is_enabled
  controlled_before_main =
      controlled_call m ts g S round h (call_next m S)
      (and_parts (is_none S.main.ending && is_none S.trap) (may_call S (call_next m S)) on).1

  -- main leaves the rest
  kept_after_main : KeepsControl S (after_event m S event.Main)
  unfolding after_event
  kept_after_main = kept_main m S (call_next m S)

  -- versions and their messages
  HasChains-main : HasChains (round_after_event m S ts event.Main) (after_event m S event.Main)
  HasChains-main =
      let k = kept_after_main in
      HasChains-same (round_after_event m S ts event.Main) S (after_event m S event.Main)
      (record {
        versions = k.versions;
        opens = λ i. (k.mail i).opens;
        uses = λ i. (k.mail i).uses;
      })
      controlled_before_main.chains

  -- entries
  HasEntries-main : HasEntries (round_after_event m S ts event.Main) (after_event m S event.Main)
  HasEntries-main =
      let k = kept_after_main in
      HasEntries-same (round_after_event m S ts event.Main) S (after_event m S event.Main)
      (record {
        versions = k.versions;
        copies = k.copies;
        opens = λ i. (k.mail i).opens;
        uses = λ i. (k.mail i).uses;
        retires = λ i. (k.mail i).retires;
        gones = λ i. (k.mail i).gones;
      })
      k.entries (λ o p at decoded. ap is_decoded (sym (phase_of-main m S o on)) ∙ decoded)
      controlled_before_main.entries

  -- asking
  HasRetirement-main : HasRetirement (after_event m S event.Main)
  HasRetirement-main =
      let k = kept_after_main in
      HasRetirement-same S (after_event m S event.Main) k.versions k.entries (λ i. (k.mail i).nacks) h.retirement

  -- readers
  pub HasReaders-main : HasReaders (round_after_event m S ts event.Main) g (after_event m S event.Main)
  HasReaders-main =
      let k = kept_after_main in
      HasReaders-same (round_after_event m S ts event.Main) g S (after_event m S event.Main)
      (record {
        versions = k.versions;
        links = λ i. (k.mail i).links;
        flight = λ a. ap (λ f. operand_at f a) k.flight;
        phases = λ a. phase_of-main m S a on;
      })
      controlled_before_main.readers

  -- what operands hold
  HasHolders-main : HasRunners (after_event m S event.Main)
      → HasHolders (round_after_event m S ts event.Main) g (after_event m S event.Main)
  HasHolders-main runners =
      let k = kept_after_main in
      HasHolders-same (round_after_event m S ts event.Main) g S (after_event m S event.Main)
      (λ q. look_ups-main m S q on) (λ i. (k.mail i).links) k.versions h.orderly runners
      controlled_before_main.holders

-- all groups
pub keeps_main : AreGroupsKept event.Main
keeps_main = record {
  order = λ m S f on. tt;
  chains = λ m S f on order. HasChains-main m f.ts f.g S f.ground.round f.control on;
  entries = λ m S f on order. HasEntries-main m f.ts f.g S f.ground.round f.control on;
  retirement = λ m S f on order. HasRetirement-main m f.ts f.g S f.ground.round f.control on;
  readers = λ m S f on order. HasReaders-main m f.ts f.g S f.ground.round f.control on;
  holders = λ m S f on order.
      HasHolders-main m f.ts f.g S f.ground.round f.control on
      (HasRunners-after_event m f.all S f.ground.numbers f.ground.stages f.control.orderly f.control.holders.runners
      event.Main on order);
}
