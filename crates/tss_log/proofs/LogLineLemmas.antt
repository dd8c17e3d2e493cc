-- The lines of a log without any.
use Rattle.std.proofs.Common.{◌≡◌, ℕ, List, [], Option, None, refl, sym, subst, drop}
use Rattle.std.specs.Prelude.{slice_get}
use Rattle.tss_base.specs.declared.machine.Machine.{Machine}
use Rattle.tss_protocol.specs.State.{State}
use Rattle.tss_protocol.specs.Schedule.{judged_from, judged_lines}
use Rattle.tss_log.specs.LogLines.{LinesLeft, event_lines}

-- none is left from the start
pub no_event_lines : (ls : List (List ℕ)) → ls ≡ [] → record { left = ls; offset = 0 } ≡ event_lines ls
no_event_lines ls none =
    subst (λ ls. ◌≡◌ {A = LinesLeft} (record { left = ls; offset = 0 }) (event_lines ls)) (sym none) refl

-- and they are judged so
pub none_judged : (m : Machine) (S : State) (ls : List (List ℕ)) → ls ≡ [] → judged_lines m S ls ≡ judged_from m S 1 ls
none_judged m S ls none = subst (λ ls. judged_lines m S ls ≡ judged_from m S 1 ls) (sym none) refl

-- where none is left there is no next one, and the same are left after it
pub none_next : (s : LinesLeft) → s.left ≡ [] → (None ≡ slice_get s.left 0) × (s ≡ record s { left = drop 1 s.left })
none_next s none =
    subst (λ ls. (◌≡◌ {A = Option (List ℕ)} None (slice_get ls 0)) × (◌≡◌ {A = LinesLeft}
    (record { left = ls; offset = s.offset }) (record { left = drop 1 ls; offset = s.offset })))
    (sym none) (refl, refl)
