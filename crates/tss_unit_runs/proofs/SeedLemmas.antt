-- A drive by a seed from an image's first event: the events of the seed, or a part of them where a write failed.
use Rattle.std.proofs.Common.{◌≡◌, ℕ, ◌+◌, List, ◌++◌, length, None, Ok, Err, refl, ap, subst, arith}
use Rattle.tss_base.specs.declared.event.Event.{Event}
use Rattle.tss_base.specs.declared.machine.Machine.{Machine}
use Rattle.tss_base.specs.declared.counts.Peaks.{Peaks}
use Rattle.tss_base.specs.Image.{ImageState, IsAccepted}
use Rattle.tss_base.specs.Machine.{IsAdmissible}
use Rattle.tss_protocol.specs.Counts.{peaks_of}
use Rattle.tss_protocol.specs.State.{initial_state}
use Rattle.tss_protocol.specs.Schedule.{Judgement, seeded, seeded_events}
use Rattle.rand_pcg.specs.Lcg.{Lcg}
use Rattle.tss_log.specs.declared.log.Log.{Ghosts}
use Rattle.tss_outside.specs.Outside.{Rose}
use Rattle.tss_schedule.specs.declared.driving.ScheduleFault.{ScheduleFault}
use Rattle.tss_schedule.specs.declared.driving.ScheduleFault.TheVariants as fault
use Rattle.tss_schedule.specs.Picks.{Driven, at_first, Comes}
use Rattle.tss_schedule.specs.Seeds.{seeded_picks}
use Rattle.tss_schedule.specs.Driving.{Answer, IsWritten, Drives}
use Rattle.tss_schedule.proofs.SeededRuns.{run_of_seed}
use Rattle.tss_schedule.proofs.drives.OneCourse.{comes_once, done_before}
use Rattle.tss_schedule.proofs.drives.DriveLaws.{exactly}

module _ {L : Type 0} (g : Ghosts L) (m : Machine) (i : ImageState) (n : ℕ) (last : Driven Lcg) (log log_new : L)
    (accepted : IsAccepted i) (admissible : IsAdmissible m) where
  -- what the seed comes to
  abbrev seed_judgement : Judgement
  seed_judgement = record { events = seeded_events m i n; fault = None }

  seed_comes : Comes seeded_picks (at_first m i (seeded n)) seed_judgement
  seed_comes = (run_of_seed m i n seed_judgement accepted admissible).1 refl

  -- the answer, unless a write failed
  pub seed_answer : (answer : Answer) → Drives seeded_picks g (at_first m i (seeded n)) last log log_new answer
      → IsWritten answer → answer ≡ Ok (peaks_of m (initial_state i) (seeded_events m i n))
  seed_answer answer h written =
      exactly seeded_picks g (at_first m i (seeded n)) last log log_new answer h seed_judgement seed_comes written

  -- the events
  pub seed_events : (peaks : Peaks) (h : Drives seeded_picks g (at_first m i (seeded n)) last log log_new (Ok peaks))
      → h.events ≡ seeded_events m i n
  seed_events peaks h =
      ap (λ (j : Judgement). j.events)
      (comes_once seeded_picks (at_first m i (seeded n)) (record { events = h.events; fault = None }) seed_judgement
      h.answers.0.comes seed_comes)

  -- a part of them
  pub seed_part : (h : Drives seeded_picks g (at_first m i (seeded n)) last log log_new (Err fault.WriteFault))
      → (rest : List Event) × (seeded_events m i n ≡ h.events ++ rest)
  seed_part h =
      done_before seeded_picks (at_first m i (seeded n)) h.events (seeded_events m i n) (length (seeded_events m i n) + 1) None
      h.answers.done seed_comes.done seed_comes.ends

  -- by the machine and the generator that are at hand
  pub at_seed : (k : Machine) (s : Lcg) (answer : Answer) → k ≡ m → s ≡ seeded n
      → Drives seeded_picks g (at_first k i s) last log log_new answer
      → Drives seeded_picks g (at_first m i (seeded n)) last log log_new answer
  at_seed k s answer same drawn h =
      subst (λ s. Drives seeded_picks g (at_first m i s) last log log_new answer) drawn
      (subst (λ k. Drives seeded_picks g (at_first k i s) last log log_new answer) same h)

  -- a seed has no fault but that a write fails
  pub seed_fault : (fault : ScheduleFault) → Drives seeded_picks g (at_first m i (seeded n)) last log log_new (Err fault)
      → IsWritten (Err fault) → ⊥
  seed_fault fault h written = err_ok (seed_answer (Err fault) h written)
    where
      err_ok : {p : Peaks} → Err fault ≡ Ok p → ⊥
      err_ok e = cc

  -- without one it has its peaks
  pub seed_peaks : (peaks : Peaks) → Drives seeded_picks g (at_first m i (seeded n)) last log log_new (Ok peaks)
      → peaks ≡ peaks_of m (initial_state i) (seeded_events m i n)
  seed_peaks peaks h = same (seed_answer (Ok peaks) h ok_err)
    where
      same : {p q : Peaks} → ◌≡◌ {A = Answer} (Ok p) (Ok q) → p ≡ q
      same e = cc

      ok_err : ◌≡◌ {A = Answer} (Ok peaks) (Err fault.WriteFault) → ⊥
      ok_err e = cc

-- no fault of a log that never fails
pub never_rose : Rose 0 0 → ⊥
never_rose h = omega (arith, h)

module _ {L : Type 0} (g : Ghosts L) (m : Machine) (i : ImageState) (n : ℕ) (last : Driven Lcg) (log log_new : L)
    (accepted : IsAccepted i) (admissible : IsAdmissible m) where
  -- a fault is that a write failed
  seed_write_fault : (x : ScheduleFault) → Drives seeded_picks g (at_first m i (seeded n)) last log log_new (Err x)
      → x ≡ fault.WriteFault
  seed_write_fault (fault.BadLine k) h =
      absurd (seed_fault g m i n last log log_new accepted admissible (fault.BadLine k) h (λ e. absurd (cc)))
  seed_write_fault (fault.NotEnabled k) h =
      absurd (seed_fault g m i n last log log_new accepted admissible (fault.NotEnabled k) h (λ e. absurd (cc)))
  seed_write_fault (fault.Short k) h =
      absurd (seed_fault g m i n last log log_new accepted admissible (fault.Short k) h (λ e. absurd (cc)))
  seed_write_fault (fault.Long k) h =
      absurd (seed_fault g m i n last log log_new accepted admissible (fault.Long k) h (λ e. absurd (cc)))
  seed_write_fault fault.WriteFault h = refl

  pub seed_failed : (x : ScheduleFault) → Drives seeded_picks g (at_first m i (seeded n)) last log log_new (Err x)
      → Drives seeded_picks g (at_first m i (seeded n)) last log log_new (Err fault.WriteFault)
  seed_failed x h =
      subst (λ x. Drives seeded_picks g (at_first m i (seeded n)) last log log_new (Err x)) (seed_write_fault x h) h
