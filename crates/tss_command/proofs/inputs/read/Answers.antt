-- A file that is too long.
use Rattle.std.proofs.Common.{◌≡◌, ℕ, ◌<◌, ◌≤◌, List, Option, Some, None, true, Err, IfSome, length, replicate, refl, ap, ◌∙◌, arith}
use Rattle.std.specs.Prelude.{nat_lt}
use Rattle.std.proofs.lemmas.Bool.Decides.{nat_tests}
use Rattle.std.proofs.lemmas.List.{length-replicate}
use Rattle.tss_outside.specs.Outside.{Held}
use Rattle.tss_command.proofs.inputs.read.Goals as goal

below : (m n : ℕ) → m < n → nat_lt m n ≡ true
below m n h = grind (arith, nat_tests)

-- there are bytes so long, those that are held where that is told
long_bytes : (held : Option Held) (name : List ℕ) (limit n : ℕ) → limit < n → IfSome held (λ h. (b : List ℕ) × (h name ≡ Some b) × (n ≤ length b))
    → (b : List ℕ) × IfSome held (λ h. h name ≡ Some b) × (nat_lt limit (length b) ≡ true)
long_bytes None name limit n long more =
    let len = length-replicate {A = ℕ} n 0 in
    (replicate n 0, tt, below limit (length (replicate n 0)) (omega (arith, len, long)))
long_bytes (Some h) name limit n long more =
    let len = more.2 in
    (more.0, more.1, below limit (length more.0) (omega (arith, len, long)))

pub returns-in-Err-TooLong-clause-read : goal.returns-in-Err-TooLong-clause-read
returns-in-Err-TooLong-clause-read g c =
    let n = c.in-Err-TooLong.field-0-0 in
    let is = c.in-Err-TooLong.is ∙ ap Err c.in-Err-TooLong.field-0-is in
    let found = long_bytes _ c.args.name.now c.args.limit n (c.read.ensures.too_long n is) (c.read.ensures.longer n is) in
    (found.0, found.1, found.2, refl)
