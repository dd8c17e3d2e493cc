-- What a drive has done before its next pick, and what it has done where it ends.
use Rattle.std.proofs.Common.{◌≡◌, ℕ, ◌+◌, ◌≤◌, List, [], ◌∷◌, ◌++◌, length, Option, Some, None, Ok, Err, refl, sym, ap, ◌∙◌, subst, inl, inr, arith}
use Rattle.tss_base.specs.declared.event.Event.{Event}
use Rattle.tss_base.specs.declared.counts.Peaks.{Peaks}
use Rattle.tss_outside.specs.Outside.{Rose, AppendsWhereTold}
use Rattle.tss_protocol.specs.Counts.{counts_of, greater_counts, peaks_of}
use Rattle.tss_protocol.specs.Run.{after_events}
use Rattle.tss_protocol.specs.Result.{IsFinished}
use Rattle.tss_protocol.specs.Schedule as judging
use Rattle.tss_protocol.specs.Schedule.{LogFault}
use Rattle.tss_log.specs.declared.log.Log.{Ghosts}
use Rattle.tss_log.specs.Logs.{event_line, followed_by, Stays, Grows, HoldsPart}
use Rattle.tss_schedule.specs.declared.driving.ScheduleFault.{ScheduleFault}
use Rattle.tss_schedule.specs.declared.driving.ScheduleFault.TheVariants as fault
use Rattle.tss_schedule.specs.declared.schedule.Pick.TheVariants as pick
use Rattle.tss_schedule.specs.Picks.{Meaning, Driven, picked, left_by, Does, DoesAll, after_pick, after_picks, EndsBy}
use Rattle.tss_schedule.specs.Driving.{Answer, IsWritten, Stops, TurnsOn, Ends, Answers, lines_text, PutsLines, KeepsLog, Drives}
use Rattle.tss_schedule.proofs.drives.PickedEvents.{DoesAll-push, after_picks-push, same_machine, picked_run}
use Rattle.tss_schedule.proofs.drives.PeakEvents.{peaks-push, peaks-none}
use Rattle.tss_schedule.proofs.drives.LoggedLines.{appends_none, stays_itself, stays_then, appends_stays, grows_itself, grows_then, holds_part_of, appends_line, holds_line, rises_since, falls_never}

-- ---- the log

-- what a call of a log leaves of all but its text
pub record IsKept {L : Type 0} (g : Ghosts L) (old new : L) : Type 0 where
  pub never_falls : g.faults old ≤ g.faults new
  pub grows : Grows (g.held old) (g.held new)
  pub others : Stays (g.other old) (g.other new)
  pub keeps : g.keeps old new

-- the log has the lines of these events, and kept all else
pub record HasLogged {L : Type 0} (g : Ghosts L) (old new : L) (es : List Event) : Type 0 where
  pub text : AppendsWhereTold (g.text old) (g.text new) (lines_text es)
  pub kept : IsKept g old new

-- the laws of what a log keeps
pub record Keeping {L : Type 0} (g : Ghosts L) : Type 0 where
  pub itself : (log : L) → g.keeps log log
  pub then : (a b c : L) → g.keeps a b → g.keeps b c → g.keeps a c

module _ {L : Type 0} (g : Ghosts L) (laws : Keeping g) where
  kept_itself : (log : L) → IsKept g log log
  kept_itself log = record {
    never_falls = same (g.faults log);
    grows = grows_itself (g.held log);
    others = stays_itself (g.other log);
    keeps = laws.itself log;
  }
    where
      same : (n : ℕ) → n ≤ n
      same n = falls_never n n n (omega arith) (omega arith)

  kept_then : (a b c : L) → IsKept g a b → IsKept g b c → IsKept g a c
  kept_then a b c first then = record {
    never_falls = falls_never (g.faults a) (g.faults b) (g.faults c) first.never_falls then.never_falls;
    grows = grows_then (g.held a) (g.held b) (g.held c) first.grows then.grows;
    others = stays_then (g.other a) (g.other b) (g.other c) first.others then.others;
    keeps = laws.then a b c first.keeps then.keeps;
  }

  -- no line yet
  pub logged_none : (log : L) → HasLogged g log log []
  logged_none log = record { text = appends_none (g.text log); kept = kept_itself log }

  -- one more
  pub logged_line : (a b c : L) (es : List Event) (e : Event) → HasLogged g a b es
      → AppendsWhereTold (g.text b) (g.text c) (event_line e) → IsKept g b c → HasLogged g a c (es ++ e ∷ [])
  logged_line a b c es e first line kept = record {
    text = appends_line (g.text a) (g.text b) (g.text c) es e first.text line;
    kept = kept_then a b c first.kept kept;
  }

-- all of it, with an answer
kept_log : {L : Type 0} (g : Ghosts L) (old new : L) (answer : Answer) → IsKept g old new
    → (answer ≡ Err fault.WriteFault → Rose (g.faults old) (g.faults new)) → KeepsLog g old new answer
kept_log g old new answer kept cause = record {
  cause = cause;
  never_falls = kept.never_falls;
  grows = kept.grows;
  others = kept.others;
  keeps = kept.keeps;
}

-- ---- before a pick

-- some events were picked and done, and their lines were put
pub record HasDriven {X L : Type 0} (f : Meaning X) (g : Ghosts L) (old new : Driven X) (log log_after : L) (peaks : Peaks)
    : Type 0 where
  pub events : List Event
  pub done : DoesAll f old events
  pub stands : new ≡ after_picks f old events
  pub counted : peaks ≡ peaks_of old.pipeline.machine old.pipeline.state events
  pub logged : HasLogged g log log_after events

-- the peaks with one more event
abbrev pub more_peaks : {X : Type 0} → Peaks → Driven X → Peaks
more_peaks peaks d = record {
  events = peaks.events + 1;
  counts = greater_counts peaks.counts (counts_of d.pipeline.machine d.pipeline.state);
}

module _ {X L : Type 0} (f : Meaning X) (g : Ghosts L) (laws : Keeping g) (d : Driven X) (log : L) where
  -- none yet
  pub driven_none : HasDriven f g d d log log (record { events = 0; counts = counts_of d.pipeline.machine d.pipeline.state })
  unfolding DoesAll after_picks
  driven_none = record {
    events = [];
    done = tt;
    stands = refl;
    counted = sym (peaks-none f d);
    logged = logged_none g laws log;
  }

  module _ (mid : Driven X) (log_mid : L) (peaks : Peaks) (h : HasDriven f g d mid log log_mid peaks) where
    -- the next event, done after the others
    next_done : (e : Event) → Does f mid e → DoesAll f d (h.events ++ e ∷ [])
    next_done e does = DoesAll-push f d h.events e h.done (subst (λ x. Does f x e) h.stands does)

    next_stands : (e : Event) (new : Driven X) → new ≡ after_pick f mid e → new ≡ after_picks f d (h.events ++ e ∷ [])
    next_stands e new is = is ∙ ap (λ x. after_pick f x e) h.stands ∙ sym (after_picks-push f d h.events e)

    next_peaks : (e : Event) (new : Driven X) → new ≡ after_pick f mid e
        → more_peaks peaks new ≡ peaks_of d.pipeline.machine d.pipeline.state (h.events ++ e ∷ [])
    next_peaks e new is =
        ap (λ x. more_peaks peaks x) (is ∙ ap (λ x. after_pick f x e) h.stands)
        ∙ ap (λ p. more_peaks p (after_pick f (after_picks f d h.events) e)) h.counted
        ∙ sym (peaks-push f d h.events e)

    -- one more
    pub driven_more : (e : Event) (new : Driven X) (log_new : L) → Does f mid e → new ≡ after_pick f mid e
        → AppendsWhereTold (g.text log_mid) (g.text log_new) (event_line e) → IsKept g log_mid log_new
        → HasDriven f g d new log log_new (more_peaks peaks new)
    driven_more e new log_new does is line kept = record {
      events = h.events ++ e ∷ [];
      done = next_done e does;
      stands = next_stands e new is;
      counted = next_peaks e new is;
      logged = logged_line g laws log log_mid log_new h.events e h.logged line kept;
    }

    -- ---- where it ends

    run_so_far : after_events d.pipeline.machine d.pipeline.state h.events ≡ Some mid.pipeline.state
    run_so_far = picked_run f d h.events h.done ∙ ap (λ x. Some x.pipeline.state) (sym h.stands)

    machine_so_far : mid.pipeline.machine ≡ d.pipeline.machine
    machine_so_far = ap (λ x. x.pipeline.machine) h.stands ∙ same_machine f d h.events

    count_so_far : peaks.events ≡ length h.events
    count_so_far = ap (λ p. p.events) h.counted

    -- the pick after them ends it
    ended : (new : Driven X) (end : Option LogFault) → Stops f (peaks.events + 1) mid new end → Ends f d new h.events end
    ended new end stops = record {
      comes = record {
        done = h.done;
        ends =
            subst (λ x. EndsBy x.pipeline (length h.events + 1) (picked f x) end) h.stands
            (subst (λ n. EndsBy mid.pipeline (n + 1) (picked f mid) end) count_so_far stops.ends);
      };
      pipeline = ap (λ x. x.pipeline) stops.stands ∙ ap (λ x. x.pipeline) h.stands;
      schedule = ap (λ x. x.schedule) stops.stands ∙ ap (left_by f) h.stands;
    }

    -- without a write fault nothing more is put
    lines_put : (answer : Answer) → ((p : Peaks) → answer ≡ Ok p → ⊥) → IsWritten answer
        → PutsLines g log log_mid h.events answer
    lines_put (Ok p) failed written = absurd (failed p refl)
    lines_put (Err e) failed written = record {
      text = λ w. h.logged.text;
      none_kept = tt;
      prefix = λ w. absurd (written w);
    }

    -- a fault of the schedule
    faulted : (fault : ScheduleFault) (end : Option LogFault) (new : Driven X) → Answers f d new h.events (Err fault)
        → IsWritten (Err fault) → new.pipeline ≡ mid.pipeline → Drives f g d new log log_mid (Err fault)
    faulted fault end new answers written same = record {
      events = h.events;
      answers = answers;
      machine = ap (λ p. p.machine) same ∙ machine_so_far;
      run = run_so_far ∙ ap (λ p. Some p.state) (sym same);
      lines = lines_put (Err fault) (λ p. ok_err p) written;
      kept = kept_log g log log_mid (Err fault) h.logged.kept (λ w. absurd (written w));
    }
      where
        ok_err : (p : Peaks) → Err fault ≡ Ok p → ⊥
        ok_err p e = cc

    pub drives_fault : (fault : ScheduleFault) (new : Driven X) → TurnsOn f (peaks.events + 1) mid new (Err fault)
        → Drives f g d new log log_mid (Err fault)
    drives_fault (fault.BadLine n) new stops =
        faulted (fault.BadLine n) (Some (judging.BadLine n)) new (ended new (Some (judging.BadLine n)) stops) (λ e. absurd (cc))
        (ap (λ x. x.pipeline) stops.stands)
    drives_fault (fault.NotEnabled n) new stops =
        faulted (fault.NotEnabled n) (Some (judging.NotEnabled n)) new (ended new (Some (judging.NotEnabled n)) stops)
        (λ e. absurd (cc)) (ap (λ x. x.pipeline) stops.stands)
    drives_fault (fault.Short n) new stops =
        faulted (fault.Short n) (Some (judging.Short n)) new (ended new (Some (judging.Short n)) stops) (λ e. absurd (cc))
        (ap (λ x. x.pipeline) stops.stands)
    drives_fault (fault.Long n) new stops =
        faulted (fault.Long n) (Some (judging.Long n)) new (ended new (Some (judging.Long n)) stops) (λ e. absurd (cc))
        (ap (λ x. x.pipeline) stops.stands)
    drives_fault fault.WriteFault new stops = absurd stops

    -- the line of the last event failed
    pub drives_line_fault : (e : Event) (new : Driven X) (log_new : L) → Does f mid e → new ≡ after_pick f mid e
        → HoldsPart (followed_by (event_line e) (g.text log_mid)) (g.held log_new)
        → Rose (g.faults log_mid) (g.faults log_new) → IsKept g log_mid log_new
        → Drives f g d new log log_new (Err fault.WriteFault)
    drives_line_fault e new log_new does is part rose kept = record {
      events = h.events ++ e ∷ [];
      answers = record {
        done = next_done e does;
        pipeline = ap (λ x. x.pipeline) (next_stands e new is);
        schedule = inl (ap (λ x. x.schedule) (next_stands e new is));
      };
      machine = ap (λ x. x.pipeline.machine) (next_stands e new is) ∙ same_machine f d (h.events ++ e ∷ []);
      run =
          picked_run f d (h.events ++ e ∷ []) (next_done e does)
          ∙ ap (λ x. Some x.pipeline.state) (sym (next_stands e new is));
      lines = record {
        text = λ w. absurd (w refl);
        none_kept = tt;
        prefix = λ w. holds_line (g.text log) (g.text log_mid) (g.held log_new) h.events e h.logged.text part;
      };
      kept =
          kept_log g log log_new (Err fault.WriteFault) (kept_then g laws log log_mid log_new h.logged.kept kept)
          (λ w. rises_since (g.faults log) (g.faults log_mid) (g.faults log_new) h.logged.kept.never_falls rose);
    }

    -- the run is over, and the log's last part was put
    pub drives_ok : (new : Driven X) (log_new : L) → Stops f (peaks.events + 1) mid new None
        → Stays (g.text log_mid) (g.text log_new) → g.held log_new ≡ g.text log_new → IsKept g log_mid log_new
        → Drives f g d new log log_new (Ok peaks)
    drives_ok new log_new stops stays none_kept kept = record {
      events = h.events;
      answers = (ended new None stops, h.counted);
      machine = ap (λ x. x.pipeline.machine) stops.stands ∙ machine_so_far;
      run = run_so_far ∙ ap (λ x. Some x.pipeline.state) (sym stops.stands);
      lines = record {
        text = λ w. appends_stays (g.text log) (g.text log_mid) (g.text log_new) (lines_text h.events) h.logged.text stays;
        none_kept = none_kept;
        prefix = λ w. absurd (ok_err w);
      };
      kept =
          kept_log g log log_new (Ok peaks) (kept_then g laws log log_mid log_new h.logged.kept kept)
          (λ w. absurd (ok_err w));
    }
      where
        ok_err : Ok peaks ≡ Err fault.WriteFault → ⊥
        ok_err e = cc

    -- or that failed
    pub drives_close_fault : (new : Driven X) (log_new : L) → Stops f (peaks.events + 1) mid new None
        → HoldsPart (g.text log_mid) (g.held log_new) → Rose (g.faults log_mid) (g.faults log_new)
        → IsKept g log_mid log_new → Drives f g d new log log_new (Err fault.WriteFault)
    drives_close_fault new log_new stops part rose kept = record {
      events = h.events;
      answers = record {
        done = h.done;
        pipeline = ap (λ x. x.pipeline) stops.stands ∙ ap (λ x. x.pipeline) h.stands;
        schedule =
            let ends = subst (λ x. (picked f x ≡ pick.End) × IsFinished x.pipeline.state) h.stands stops.ends in
            inr (ap (λ x. x.schedule) stops.stands ∙ ap (left_by f) h.stands, ends.0, ends.1);
      };
      machine = ap (λ x. x.pipeline.machine) stops.stands ∙ machine_so_far;
      run = run_so_far ∙ ap (λ x. Some x.pipeline.state) (sym stops.stands);
      lines = record {
        text = λ w. absurd (w refl);
        none_kept = tt;
        prefix = λ w. holds_part_of (g.text log) (g.text log_mid) (g.held log_new) (lines_text h.events) h.logged.text part;
      };
      kept =
          kept_log g log log_new (Err fault.WriteFault) (kept_then g laws log log_mid log_new h.logged.kept kept)
          (λ w. rises_since (g.faults log) (g.faults log_mid) (g.faults log_new) h.logged.kept.never_falls rose);
    }
