-- What the plain views show after a write.
use Rattle.std.proofs.Common.{◌≡◌, ℕ, ◌+◌, ◌≤◌, Bool, List, length, Option, Some, None, ap, refl, ◌∙◌}
use Rattle.std.specs.Prelude.{slice_index}
use Rattle.tss_base.specs.declared.range.Range.{Range}
use Rattle.tss_model.specs.Access.{MainActor}
use Rattle.tss_model.specs.Core.{Write}
use Rattle.tss_core.specs.Views.{IsAfter}
use Rattle.tss_core_tests.specs.Plain.{plain_ranges, main_sight, bytes_after}
use Rattle.tss_core_tests.proofs.PutLemmas.{length-list_put, list_put-byte}

-- a write, where there is one, lies in the bytes
abbrev pub LiesIn : List ℕ → Option Write → Type 0
LiesIn bytes None = Unit {0}
LiesIn bytes (Some w) = w.at + length w.bytes ≤ length bytes

-- main sees the bytes after it
pub IsAfter-main_sight : (bytes new : List ℕ) (writable : Bool) (named : List Range) (text : ℕ) (code : List ℕ)
    (w : Option Write) → new ≡ bytes_after bytes w → LiesIn bytes w
    → IsAfter (main_sight bytes writable named text code) w (main_sight new writable named text code)
IsAfter-main_sight bytes new writable named text code None e there = record {
  actor = ap (λ (b : List ℕ). MainActor (plain_ranges (length b) writable) named) e;
  bytes = λ a. ap (λ (b : List ℕ). slice_index b a) e;
  words = λ pc. refl;
}
IsAfter-main_sight bytes new writable named text code (Some w) e there = record {
  actor = ap (λ (n : ℕ). MainActor (plain_ranges n writable) named) (ap length e ∙ length-list_put w.bytes bytes w.at);
  bytes = λ a. ap (λ (b : List ℕ). slice_index b a) e ∙ list_put-byte w.bytes bytes w.at a there;
  words = λ pc. refl;
}
