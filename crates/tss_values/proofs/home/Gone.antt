-- What stands at home after a gone: an object that loses its entry has there what its last version had, which is what
-- the next operand on it, or main, has in program order.
use Rattle.std.proofs.Common.{◌≡◌, ℕ, suc, ◌+◌, ◌-◌, ◌<◌, ◌≤◌, ◌⊎◌, inl, inr, Bool, true, false, Option, Some, None}
use Rattle.std.proofs.Common.{refl, sym, ap, ◌∙◌, subst, arith}
use Rattle.std.specs.Prelude.{is_some}
use Rattle.std.specs.FinMap.{get, remove}
use Rattle.tss_base.specs.declared.range.Range.{Range}
use Rattle.tss_base.specs.declared.operand.OpName.{OpName}
use Rattle.tss_base.specs.declared.operand.Operand.{Operand}
use Rattle.tss_base.specs.declared.ending.Trap.{Trap}
use Rattle.tss_base.specs.declared.machine.Machine.{Machine}
use Rattle.tss_base.specs.declared.event.Event.TheVariants as event
use Rattle.tss_base.specs.Image.{ImageState}
use Rattle.tss_maps.proofs.Keys.{nat_order, decide_key}
use Rattle.tss_maps.proofs.Changes.{beside_removed}
use Rattle.tss_model.specs.Memory.{bytes_of}
use Rattle.tss_model.specs.MainStep.{MainState, Flat}
use Rattle.tss_model.specs.InOrder.{Started, flat_stepped, end_of_started}
use Rattle.tss_protocol.specs.Mail.{GoneContents}
use Rattle.tss_protocol.specs.State.{State, Entry}
use Rattle.tss_protocol.specs.UnitMachine.{IsEnabled, is_enabled, after_event, without, gone_message_taken}
use Rattle.tss_phases.specs.Phase.{phase_of, is_decoded}
use Rattle.tss_phases.specs.Orderly.{AreOrderly}
use Rattle.tss_phases.proofs.Tests.{something}
use Rattle.tss_locality.proofs.LeftFields.{Leaves-after_event}
use Rattle.tss_control.specs.Members.{operand_among, IsWriterOn, NoWriterBetween}
use Rattle.tss_program_order.specs.MainInOrder.{steps_taken, flat_beside}
use Rattle.tss_program_order.proofs.FlatNumbers.{number_there}
use Rattle.tss_program_order.proofs.FlatOrder.{trapped_next, started_at-by, flat_stepped-ended}
use Rattle.tss_names.proofs.NumberLemmas.{number_within}
use Rattle.tss_control.proofs.rounds.Spawned.{of_spawned}
use Rattle.tss_control.proofs.rounds.EntriesNames.{name_decoded}
use Rattle.tss_control.proofs.entries.Gone.{GoneEntry, gone_entries, gone_entry}
use Rattle.tss_control.proofs.holders.KeepsOrder.{AreOrderly-controlled}
use Rattle.tss_values.proofs.home.Bytes.{HasBytes, HasBytes-in_order, HavePlacedObjects, object_loaded}
use Rattle.tss_values.proofs.MainEndings.{EndsItself, no_task_trap}
use Rattle.tss_values.proofs.NamingLemmas.{found_last}
use Rattle.tss_values.proofs.Values.{Starts, RunsOut, IsGood, bytes_before, bytes_after, HasReturns, IsFirstAhead}
use Rattle.tss_values.proofs.Values.{HasHome, HasMain, HasNaming, IsInside, IsLive, IsUnclaimed}
use Rattle.tss_values.proofs.home.Kept.{home_kept, decoded_kept, EntriesStay, stay_absent, later_unclaimed}
use Rattle.tss_values.proofs.UndecodedOperands.{byte_of, there_same, decide_inside, decoded_older, undecoded_at}
use Rattle.tss_control.proofs.rounds.Facts.{Facts}
use Rattle.tss_values.proofs.LiveObjects.{undecoded_named, one_based, live_named}
use Rattle.tss_protocol.proofs.FrontLemmas.{KeepsFront-after_event}
use Rattle.std.proofs.lemmas.Option.{same_Some}
use Rattle.tss_values.proofs.FindsLeft.{found_left}

-- ---- the event

module _ (m : Machine) (i : ImageState) (S : State) (facts : Facts m S) (main : HasMain m i facts.all S)
    (naming : HasNaming m i facts.all facts.ts S) (returns : HasReturns m i facts.ts S)
    (h : HasHome m i facts.ts S) (v : OpName) (d : GoneContents) (there : get S.mail.gones v ≡ Some d)
    (after : AreOrderly (after_event m S (event.Gone v))) where
  open facts use {basis, all, ts, ground, control as k}

  abbrev T : State
  T = after_event m S (event.Gone v)

  home : T.home ≡ S.home
  home = λ j. (Leaves-after_event m S (event.Gone v) j).home

  same_main : T.main ≡ S.main
  same_main = λ j. (Leaves-after_event m S (event.Gone v) j).main

  opens : T.mail.opens ≡ S.mail.opens
  unfolding after_event
  opens = ap (λ x. (gone_message_taken (without S (event.Gone v)) v x).mail.opens) there

  decoded : (o : OpName) → is_decoded (phase_of T o) ≡ is_decoded (phase_of S o)
  decoded o = decoded_kept m S (event.Gone v) refl k.orderly after o

  -- ---- a version that has died

  stay_died : d.retired ≡ false → EntriesStay S T
  stay_died died b e at =
      (e, ap (λ es. get es b) (gone_entries m S basis k.orderly k.chains k.entries v d there false died) ∙ at, refl)

  home_died : d.retired ≡ false → HasHome m i ts T
  home_died died =
      home_kept m i ts S T (record {
        home = home;
        main = same_main;
        entries = stay_absent S T (stay_died died);
        unclaimed = later_unclaimed m S (event.Gone v) refl (stay_died died);
        opens = λ o c at. ap (λ os. get os o) (sym opens) ∙ at;
        decoded = λ o p at. decoded o;
      }) h

  -- ---- one that has retired

  module _ (last : d.retired ≡ true) where
    e : GoneEntry ts S v d
    e = gone_entry m S basis k.orderly k.chains k.entries v d there last

    entries : T.entries ≡ remove S.entries d.object.base
    entries = gone_entries m S basis k.orderly k.chains k.entries v d there true last

    v_decoded : is_decoded (phase_of S v) ≡ true
    v_decoded = name_decoded m all S ground.numbers k.orderly v (ground.names.mail.gones v d there).0.0

    -- no decoded writer comes after it
    latest : (w : OpName) → IsWriterOn ts d.object w → is_decoded (phase_of S w) ≡ true → w.task ≤ v.task
    latest w writer done =
        subst (λ u. w.task ≤ u.task) (sym e.latest)
        (k.entries.decoded d.object.base e.entry w e.there (subst (λ x. IsWriterOn ts x w) (sym e.object) writer) done)

    -- what stands at home is what it left
    left_home : (s : Started) → Starts m i v.task s → IsGood m i s e.operand
        → bytes_of S.home d.object ≡ bytes_after m i s e.operand
    left_home s starts good =
        returns.gone v d e.operand s there last (record { operand = e.among; starts = starts }) good

    -- no entry was there, or it is this object
    from_absent : (b : ℕ) → get T.entries b ≡ None → (b ≡ d.object.base) ⊎ (get S.entries b ≡ None)
    from_absent b none = elim (decide_key nat_order b d.object.base) [
      | inl same ↦ inl same
      | inr other ↦
          inr (sym (beside_removed nat_order S.entries d.object.base b other)
          ∙ ap (λ es. get es b) (sym entries) ∙ none)
    ]

    -- it is the latest of its object
    live : IsLive S v e.operand.object
    live = subst (IsLive S v) (sym e.on) (inr (inr (e.entry, e.there, sym e.latest, e.object)))

    -- an operand that isn't decoded is on it, where its object has the same base
    own_object : (o : OpName) (p : Operand) → operand_among ts o ≡ Some p → is_decoded (phase_of S o) ≡ false
        → p.object.base ≡ d.object.base → e.operand.object ≡ p.object
    own_object o p among early same =
        one_based m S basis e.operand.object p.object (live_named m S facts v e.operand e.among live)
        (undecoded_named m S basis k.orderly o p among early) (ap (λ (x : Range). x.base) e.on ∙ sym same)

    -- the next operand on it finds it
    next_ahead : (o : OpName) (p : Operand) (s : Started) → IsFirstAhead ts S p.object o p
        → p.object.base ≡ d.object.base → Starts m i o.task s → bytes_of S.home p.object ≡ bytes_before s p
    next_ahead o p s first base starts =
        let same = own_object o p first.operand first.ahead base in
        let less = decoded_older m S basis k.orderly v o e.operand p e.among first.operand same v_decoded
        first.ahead in
        let none : NoWriterBetween ts p.object v o = λ w behind before writer.
        none_between w behind before writer (is_decoded (phase_of S w)) refl in
        let f = found_left m i S basis main naming v o e.operand p s e.among live
        (record { operand = first.operand; starts = starts }) same less none in
        ap (bytes_of S.home) (sym same ∙ e.on) ∙ left_home f.0 f.1 f.2 ∙ f.3
      where
        none_between : (w : OpName) → v.task < w.task → w.task < o.task → IsWriterOn ts p.object w → (b : Bool)
            → is_decoded (phase_of S w) ≡ b → ⊥
        none_between w behind before writer true done =
            let same = own_object o p first.operand first.ahead base in
            let late = latest w (subst (λ x. IsWriterOn ts x w) (sym same ∙ e.on) writer) done in
            omega (arith, late, behind)
        none_between w behind before writer false early =
            let late = first.first w writer.operand writer.there writer.object early in
            omega (arith, late, before)

    -- ---- the bytes that main finds

    module _ (same : S.main ≡ (flat_beside i m.limits S.main).main) (bytes : HasBytes i S.home)
        (placed : HavePlacedObjects i all) (own : EndsItself S.main) where
      -- program order has started its task
      started : (s : Started) × ((n : Starts m i v.task s) × (n.0 < steps_taken S.main))
      started =
          let known = ground.known.operands v e.operand e.among in
          let some = number_within all v.task known.task known.spawned in
          let few = of_spawned S ts ground.round v e.operand e.among in
          let spawned = ap (λ (s : MainState). s.spawned) same in
          let n = number_there i m.limits v.task (steps_taken S.main) (omega (arith, some.0))
          (omega (arith, few, spawned)) in
          (n.started, ((n.place, n.start, n.number), n.before))

      -- and main has gone on since
      runs_out : RunsOut m i started.0
      runs_out = by (end_of_started i m.limits started.0).trap refl
        where
          by : (t : Option Trap) → (end_of_started i m.limits started.0).trap ≡ t → RunsOut m i started.0
          by None t = t
          by (Some trap) t =
              let n = started.1.0 in
              let ending = trapped_next i m.limits n.0 started.0 trap (started_at-by i m.limits n.0 started.0 n.1) t in
              let later = started.1.1 in
              let count : steps_taken S.main ≡ suc n.0 + (steps_taken S.main - suc n.0) = omega (arith, later) in
              absurd (no_task_trap S.main own started.0.task.number trap
              (ap (λ (x : MainState). x.ending) same
              ∙ ap (λ l. (flat_stepped i m.limits l).main.ending) count
              ∙ ap (λ (f : Flat). f.main.ending)
              (flat_stepped-ended i m.limits (suc n.0) (steps_taken S.main - suc n.0) (ap is_some ending))
              ∙ ending))

      -- where all operands on it are decoded it is main's
      last_beside : (a : ℕ) → IsInside d.object a
          → ((o : OpName) (p : Operand) → operand_among ts o ≡ Some p → IsInside p.object a
          → is_decoded (phase_of S o) ≡ true) → get S.home.bytes a ≡ get (flat_beside i m.limits S.main).memory.bytes a
      last_beside a inside each =
          let on = subst (λ x. IsInside x a) (sym e.on) inside in
          let loaded = object_loaded i all ts ground.known placed v e.operand a e.among on in
          let there = found_last m i S basis main naming v e.operand started.0 e.among live same
          (λ w behind before writer.
          let inside_w = subst (λ x. IsInside x a) (sym writer.object) on in
          let late = latest w (subst (λ x. IsWriterOn ts x w) e.on writer)
          (each w writer.operand writer.there inside_w) in
          omega (arith, late, behind))
          started.1.0 in
          let left = left_home started.0 started.1.0 (λ writer. runs_out) in
          there_same (get S.home.bytes a) (get (flat_beside i m.limits S.main).memory.bytes a) (bytes a loaded)
          (HasBytes-in_order i m.limits (steps_taken S.main) a loaded)
          (byte_of S.home (flat_beside i m.limits S.main).memory d.object
          (left ∙ sym there ∙ ap (bytes_of (flat_beside i m.limits S.main).memory) e.on) a inside)

    abbrev AreThere : Type 0
    AreThere = HasBytes i S.home × (HavePlacedObjects i all × EndsItself S.main)

    -- what stands at home is right after it
    home_retired : AreThere → HasHome m i ts T
    home_retired (bytes, (placed, own)) = record {
      ahead = λ x o p s none first starts.
          let before : IsFirstAhead ts S x o p = record {
            operand = first.operand;
            object = first.object;
            ahead = sym (decoded o) ∙ first.ahead;
            first = λ q r at on early. first.first q r at on (decoded q ∙ early);
          } in
          ap (λ b. bytes_of b x) home ∙ ahead_by x o p s before starts (from_absent x.base none);
      beside = λ a is free.
          let same = sym same_main ∙ is ∙ ap (λ c. (flat_beside i m.limits c).main) same_main in
          ap (λ b. get b.bytes a) home
          ∙ beside_by a same free (decide_inside d.object a)
          ∙ ap (λ c. get (flat_beside i m.limits c).memory.bytes a) (sym same_main);
      opening = λ o c s at first reads starts.
          ap (λ b. bytes_of b c.operand.object) home
          ∙ h.opening o c s (ap (λ os. get os o) (sym opens) ∙ at) first reads starts;
    }
      where
        ahead_by : (x : Range) (o : OpName) (p : Operand) (s : Started) → IsFirstAhead ts S x o p
            → Starts m i o.task s → (x.base ≡ d.object.base) ⊎ (get S.entries x.base ≡ None)
            → bytes_of S.home x ≡ bytes_before s p
        ahead_by x o p s first starts (inr none) = h.ahead x o p s none first starts
        ahead_by x o p s first starts (inl base) =
            ap (bytes_of S.home) (sym first.object)
            ∙ next_ahead o p s (subst (λ x. IsFirstAhead ts S x o p) (sym first.object) first)
            (ap (λ (x : Range). x.base) first.object ∙ base) starts

        inbox : T.inbox ≡ S.inbox
        inbox = λ j. ((KeepsFront-after_event m S (event.Gone v) refl).front j).inbox

        decodes : T.mail.decodes ≡ S.mail.decodes
        decodes = λ j. ((KeepsFront-after_event m S (event.Gone v) refl).front j).decodes

        -- an operand at an address that nobody claims is decoded
        free_decoded : (a : ℕ) → IsUnclaimed T a → (o : OpName) (p : Operand) → operand_among ts o ≡ Some p
            → IsInside p.object a → (b : Bool) → is_decoded (phase_of S o) ≡ b → is_decoded (phase_of S o) ≡ true
        free_decoded a free o p among within true done = done
        free_decoded a free o p among within false early =
            elim (undecoded_at m S basis k.orderly o p among early) [
              | inl x ↦ absurd (free.arriving x.0 (inbox ∙ x.1) o.place p x.2 within)
              | inr sent ↦ absurd (free.decoding o p (ap (λ ds. get ds o) decodes ∙ sent) within)
            ]

        -- beside the object nobody claimed the address before
        was_unclaimed : (a : ℕ) → IsUnclaimed T a → (IsInside d.object a → ⊥) → IsUnclaimed S a
        was_unclaimed a free out = record {
          entered = λ b x at within. elim (decide_key nat_order b d.object.base) [
            | inl same ↦
                let is = same_Some x e.entry (sym at ∙ ap (get S.entries) same ∙ e.there) in
                out (subst (λ x. IsInside x a) (ap (λ (e : Entry). e.object) is ∙ e.object) within)
            | inr other ↦
                free.entered b x
                (ap (λ es. get es b) entries ∙ beside_removed nat_order S.entries d.object.base b other ∙ at) within
          ];
          arriving = λ t at j p of within. free.arriving t (inbox ∙ at) j p of within;
          decoding = λ o p at within. free.decoding o p (ap (λ ds. get ds o) decodes ∙ at) within;
        }

        beside_by : (a : ℕ) → S.main ≡ (flat_beside i m.limits S.main).main → IsUnclaimed T a
            → IsInside d.object a ⊎ (IsInside d.object a → ⊥)
            → get S.home.bytes a ≡ get (flat_beside i m.limits S.main).memory.bytes a
        beside_by a same free (inl inside) =
            last_beside same bytes placed own a inside (λ o p at within.
            free_decoded a free o p at within (is_decoded (phase_of S o)) refl)
        beside_by a same free (inr out) = h.beside a same (was_unclaimed a free out)

  home_by : (b : Bool) → d.retired ≡ b → HasBytes i S.home → HavePlacedObjects i all → EndsItself S.main
      → HasHome m i ts T
  home_by false died bytes placed own = home_died died
  home_by true last bytes placed own = home_retired last (bytes, (placed, own))

module _ (m : Machine) (i : ImageState) (S : State) (facts : Facts m S) where
  open facts use {all, ts}

  -- what stands at home after a gone
  pub HasHome-gone : HasMain m i all S → HasNaming m i all ts S → HasReturns m i ts S → HasHome m i ts S
      → HasBytes i S.home → HavePlacedObjects i all → EndsItself S.main → (v : OpName)
      → IsEnabled m S (event.Gone v) → HasHome m i ts (after_event m S (event.Gone v))
  unfolding is_enabled
  HasHome-gone main naming returns h bytes placed own v on =
      let d = something is_some (get S.mail.gones v) refl on in
      home_by m i S facts main naming returns h v d.0 d.1
      (AreOrderly-controlled m S facts (event.Gone v) on) d.0.retired refl bytes placed own
