-- The workload's bytes are its image, and its run is that of the seed.
use Rattle.std.proofs.Common.{◌≡◌, ℕ, List, sym, ap, ◌∙◌, subst}
use Rattle.tss_base.specs.declared.machine.Machine.{Machine}
use Rattle.tss_base.specs.Image.{ImageState, IsAccepted}
use Rattle.tss_base.specs.Machine.{IsAdmissible}
use Rattle.tss_elf.specs.Elf.{Verdict, Refused, Accepted, image_of}
use Rattle.tss_gen.specs.declared.form.Form.{Form}
use Rattle.tss_gen.specs.Accepted.{IsImage}
use Rattle.tss_gen.specs.Workload.{workload_bytes}
use Rattle.tss_machine.specs.SelfMachine.{self_machine}
use Rattle.tss_protocol.specs.Schedule.{seeded_events}
use Rattle.tss_unit_runs.specs.Finished.{FinishedRunState}
use Rattle.tss_unit_runs.specs.Runs.{run_of}
use Rattle.tss_unit_runs.proofs.WholeRuns.{seeded_whole}
use Rattle.tss_self.specs.SelfAnswer.{SelfWork, accepted, self_image, self_run, IsRunOf, HasWholeRun}

-- the image that was read
pub image_is : (form : Form) (n : ℕ) (bytes : List ℕ) (image : ImageState) → bytes ≡ workload_bytes form n →
    image_of bytes ≡ Accepted image → image ≡ self_image form n
unfolding self_image
image_is form n bytes image e is = sym (ap accepted is) ∙ ap (λ b. accepted (image_of b)) e

refused_accepted : (v : Verdict) (n : ℕ) (image : ImageState) → v ≡ Refused n → v ≡ Accepted image → ⊥
refused_accepted v n image e f = cc

-- it isn't refused
pub not_refused : (bytes : List ℕ) (n : ℕ) → IsImage bytes → image_of bytes ≡ Refused n → ⊥
not_refused bytes n is refused = refused_accepted (image_of bytes) n is.0 refused is.1

-- the run of the seed
pub run_is : (w : SelfWork) (m : Machine) (image : ImageState) (seed : ℕ) (run : FinishedRunState) → m ≡ self_machine →
    image ≡ self_image w.form w.n → seed ≡ w.n → run ≡ run_of m image (seeded_events m image seed) → IsRunOf run w
unfolding self_run
run_is w m image seed run machine_is image_is seed_is e =
    e ∙ (λ i. run_of (machine_is i) (image_is i) (seeded_events (machine_is i) (image_is i) (seed_is i)))

-- which comes to its end
pub run_whole : (w : SelfWork) (m : Machine) (image : ImageState) → m ≡ self_machine → image ≡ self_image w.form w.n
    → IsAdmissible m → IsAccepted image → HasWholeRun w
run_whole w m image machine_is image_is admissible accepted =
    seeded_whole self_machine (self_image w.form w.n) (subst IsAccepted image_is accepted)
    (subst IsAdmissible machine_is admissible) w.n
