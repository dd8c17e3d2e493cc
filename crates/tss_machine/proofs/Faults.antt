-- The first of some faults.
use Rattle.std.proofs.Common.{◌≡◌, ℕ, zero, suc, List, [], ◌∷◌, ◌++◌, Option, Some, None, refl}
use Rattle.std.specs.Prelude.{slice_get}
use Rattle.tss_machine.specs.Description.{first_fault}
use Rattle.tss_machine.specs.declared.fault.MachineFault.{MachineFault}

-- where the first check passes, the others decide
pub first_fault-passed : (o : Option MachineFault) (os : List (Option MachineFault)) → o ≡ None
    → first_fault (o ∷ os) ≡ first_fault os
first_fault-passed None os e = refl
first_fault-passed (Some f) os e = cc

-- where it fails, it decides
pub first_fault-failed : (o : Option MachineFault) (os : List (Option MachineFault)) (f : MachineFault) → o ≡ Some f
    → first_fault (o ∷ os) ≡ Some f
first_fault-failed None os f e = cc
first_fault-failed (Some g) os f e = e

-- where a part fails, it decides
pub first_fault-failed_part : (os ps : List (Option MachineFault)) (f : MachineFault) → first_fault os ≡ Some f
    → first_fault (os ++ ps) ≡ Some f
first_fault-failed_part [] ps f e = cc
first_fault-failed_part (None ∷ os) ps f e = first_fault-failed_part os ps f e
first_fault-failed_part (Some g ∷ os) ps f e = e

-- where it passes, the rest decides
pub first_fault-passed_part : (os ps : List (Option MachineFault)) → first_fault os ≡ None
    → first_fault (os ++ ps) ≡ first_fault ps
first_fault-passed_part [] ps e = refl
first_fault-passed_part (None ∷ os) ps e = first_fault-passed_part os ps e
first_fault-passed_part (Some g ∷ os) ps e = cc

-- where all pass, each passes
pub passes-at : (os : List (Option MachineFault)) (i : ℕ) (o : Option MachineFault) → first_fault os ≡ None
    → slice_get os i ≡ Some o → o ≡ None
passes-at [] i o e at = cc
passes-at (None ∷ os) zero o e at = cc
passes-at (None ∷ os) (suc i) o e at = passes-at os i o e at
passes-at (Some g ∷ os) i o e at = cc

-- and each part passes
pub first_fault-parts : (os ps : List (Option MachineFault)) → first_fault (os ++ ps) ≡ None
    → (first_fault os ≡ None) × (first_fault ps ≡ None)
first_fault-parts [] ps e = (refl, e)
first_fault-parts (None ∷ os) ps e = first_fault-parts os ps e
first_fault-parts (Some g ∷ os) ps e = cc
