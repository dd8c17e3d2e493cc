-- What a use does to phases: its operand goes from sent to told where its version is produced and has no reader that
-- waits, and else to waiting.
use Rattle.std.proofs.Common.{◌≡◌, ◌≢◌, Bool, true, false, cond, Option, Some, None, refl, ap, ◌∙◌}
use Rattle.std.specs.FinMap.{get}
use Rattle.tss_base.specs.declared.operand.OpName.{OpName}
use Rattle.tss_base.specs.declared.machine.Machine.{Machine}
use Rattle.tss_base.specs.declared.event.Event.TheVariants as event
use Rattle.tss_base.specs.Names.{Named}
use Rattle.tss_protocol.specs.Mail.{StorageName}
use Rattle.tss_protocol.specs.State.{State, Version}
use Rattle.tss_protocol.specs.Versions.{used_alone, used_behind, used_at, after_use}
use Rattle.tss_protocol.specs.UnitMachine.{after_event, without, use_message_taken}
use Rattle.tss_phases.specs.Phase.{Waiting, LookUps, look_ups, phase_at, phase_of}
use Rattle.tss_phases.specs.Alone.{IsAlone, IsFresh}
use Rattle.tss_phases.specs.Told.{tells, phase_told}
use Rattle.tss_phases.proofs.Received.{own_name, other_name, received_all, look_ups-sent, missing, missing_other}
use Rattle.tss_phases.proofs.Received.{look_ups-without}
use Rattle.tss_phases.proofs.News.{AreNews, untold}
use Rattle.tss_phases.proofs.PhaseLemmas.{phase_silent, station_told}
use Rattle.tss_phases.proofs.AloneLemmas.{silent_but_using}
use Rattle.tss_phases.proofs.SettlingLemmas.{news_ready_with, ready_with_tells, ready_with_told}
use Rattle.tss_phases.proofs.ToldPhases.{phase_news}

-- ---- what a use sends

-- a version is produced and has no reader that waits or is the last, and an operand is told its storage
pub record ReadsAtOnce (vs : Named Version) (v : OpName) : Type 0 where
  pub version : Version
  pub there : get vs v ≡ Some version
  pub first : version.tail ≡ None
  pub produced : version.produced ≡ true
  pub storage : StorageName
  pub kept : version.storage ≡ Some storage

module _ (vs : Named Version) (o v : OpName) where
  alone_news : (x : Version) (b : Bool) → AreNews (used_alone vs o v x b).sent
  alone_news x true = news_ready_with o v x.storage
  alone_news x false = tt

  behind_news : (x : Version) (t : Option OpName) → AreNews (used_behind vs o v x t).sent
  behind_news x None = alone_news x x.produced
  behind_news x (Some last) = (tt, tt)

  at_news : (x : Option Version) → AreNews (used_at vs o v x).sent
  at_news None = tt
  at_news (Some x) = behind_news x x.tail

  -- it sends news
  pub news_use : AreNews (after_use vs o v).sent
  news_use = at_news (get vs v)

  alone_tells : (x : Version) (b : Bool) (q : OpName) → get vs v ≡ Some x → x.tail ≡ None → x.produced ≡ b
      → tells (used_alone vs o v x b).sent q ≡ true → (q ≡ o) × ReadsAtOnce vs v
  alone_tells x true q at first p e =
      let found = ready_with_tells o v x.storage q e in (
        found.0,
        record {
          version = x;
          there = at;
          first = first;
          produced = p;
          storage = found.1.0;
          kept = found.1.1;
        },
      )
  alone_tells x false q at first p e = absurd (cc)

  behind_tells : (x : Version) (t : Option OpName) (q : OpName) → get vs v ≡ Some x → x.tail ≡ t
      → tells (used_behind vs o v x t).sent q ≡ true → (q ≡ o) × ReadsAtOnce vs v
  behind_tells x None q at first e = alone_tells x x.produced q at first refl e
  behind_tells x (Some last) q at first e = absurd (cc)

  at_tells : (x : Option Version) (q : OpName) → get vs v ≡ x → tells (used_at vs o v x).sent q ≡ true
      → (q ≡ o) × ReadsAtOnce vs v
  at_tells None q at e = absurd (cc)
  at_tells (Some x) q at e = behind_tells x x.tail q at refl e

  -- whom it tells: its own operand alone, of a version that can be read at once
  pub use_tells : (q : OpName) → tells (after_use vs o v).sent q ≡ true → (q ≡ o) × ReadsAtOnce vs v
  use_tells q e = at_tells (get vs v) q refl e

  -- and it tells its operand of such a version
  pub use_tells_reader : ReadsAtOnce vs v → tells (after_use vs o v).sent o ≡ true
  use_tells_reader r =
      let x = r.version in
      ap (λ x. tells (used_at vs o v x).sent o) r.there
      ∙ ap (λ t. tells (used_behind vs o v x t).sent o) r.first
      ∙ ap (λ b. tells (used_alone vs o v x b).sent o) r.produced
      ∙ ready_with_told o v x.storage r.storage r.kept

  -- it tells no other operand
  use_tells_no_other : (q : OpName) → q ≢ o → tells (after_use vs o v).sent q ≡ false
  use_tells_no_other q apart = by (tells (after_use vs o v).sent q) refl
    where
      by : (b : Bool) → tells (after_use vs o v).sent q ≡ b → tells (after_use vs o v).sent q ≡ false
      by false e = e
      by true e = absurd (apart (use_tells q e).0)

-- ---- what it does to phases

module _ (m : Machine) (S : State) (o v : OpName) (there : get S.mail.uses o ≡ Some v) where
  -- what is looked up after a use
  look_ups-use : (q : OpName) → look_ups (after_event m S (event.Use o)) q
      ≡ received_all (after_use S.versions o v).sent q (missing (event.Use o) q (look_ups S q))
  unfolding after_event
  look_ups-use q =
      let T = without S (event.Use o) in
      let d = after_use S.versions o v in
      ap (λ x. look_ups (use_message_taken T o x) q) there
      ∙ look_ups-sent (record T { versions = d.part }) d.sent q
      ∙ ap (received_all d.sent q) (look_ups-without S (event.Use o) q)

  -- of its operand: the use is gone, and it may be told
  pub look_ups-use-own : look_ups (after_event m S (event.Use o)) o
      ≡ received_all (after_use S.versions o v).sent o (record (look_ups S o) { using = None })
  look_ups-use-own =
      look_ups-use o
      ∙ (λ i. received_all (after_use S.versions o v).sent o (record (look_ups S o) {
        using = cond (own_name o i) None (get S.mail.uses o);
      }))

  -- its operand is told, or waits
  pub phase_of-use : IsAlone S o → IsFresh S o
      → phase_of (after_event m S (event.Use o)) o ≡ phase_told (tells (after_use S.versions o v).sent o) Waiting
  phase_of-use alone fresh =
      let d = after_use S.versions o v in
      let l : LookUps = record (look_ups S o) { using = None } in
      let waits : phase_at l ≡ Waiting =
      phase_silent l (silent_but_using (look_ups S o) v alone there)
      ∙ station_told (look_ups S o) None fresh in
      ap phase_at look_ups-use-own
      ∙ phase_news d.sent o l (news_use S.versions o v) (λ t. waits)
      ∙ ap (phase_told (tells d.sent o)) waits

  -- nothing is changed of another operand
  pub look_ups-use-other : (q : OpName) → q ≢ o → look_ups (after_event m S (event.Use o)) q ≡ look_ups S q
  look_ups-use-other q apart =
      let d = after_use S.versions o v in
      look_ups-use q
      ∙ ap (received_all d.sent q) (missing_other (event.Use o) q (look_ups S q) (other_name q o apart))
      ∙ untold d.sent q (look_ups S q) (news_use S.versions o v) (use_tells_no_other S.versions o v q apart)

  -- nor its phase
  pub phase_of-use-other : (q : OpName) → q ≢ o → phase_of (after_event m S (event.Use o)) q ≡ phase_of S q
  phase_of-use-other q apart = ap phase_at (look_ups-use-other q apart)
