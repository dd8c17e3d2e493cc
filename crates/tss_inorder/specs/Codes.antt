-- How what contracts see of a flat machine and of a reference is stored.
use Rattle.std.specs.Prelude.{ℕ, List, refl}
use Rattle.std.specs.Coded.{Coded, code_by, coded×, coded_ℕ, coded_list}
use Rattle.tss_base.specs.declared.ending.Ending.{Ending}
use Rattle.tss_base.specs.contracts.ending.Ending as ending
use Rattle.tss_base.specs.Image.{SegmentState}
use Rattle.tss_model.specs.Memory.{Memory}
use Rattle.tss_model.specs.InOrder.{ReferenceState}
use Rattle.tss_memory.specs.Seen.{memory_code}
use Rattle.tss_memory.specs.contracts.code.Code as code
use Rattle.tss_steps.specs.Limited.{LimitedMain}
use Rattle.tss_steps.specs.contracts.main_state.Main as main
use Rattle.tss_inorder.specs.Flats.{FlatState}

abbrev pub reference_code : Coded ReferenceState
reference_code =
    code_by (Ending × (ℕ × (List ℕ × Memory)))
    (coded× (ending.the_row).coded (coded× coded_ℕ (coded× (coded_list coded_ℕ) memory_code)))
    (λ r. (r.ending, (r.tasks, (r.output, r.memory))))
    (λ p. record { ending = p.0; tasks = p.1.0; output = p.1.1.0; memory = p.1.1.1 })
    (λ _. refl)

abbrev pub flat_code : Coded FlatState
flat_code =
    code_by (LimitedMain × (List SegmentState × Memory))
    (coded× (main.the_row).coded (coded× (code.the_row).coded memory_code))
    (λ s. (record { limits = s.limits; main = s.main }, (s.code, s.memory)))
    (λ p. record { limits = p.0.limits; code = p.1.0; main = p.0.main; memory = p.1.1 })
    (λ _. refl)
