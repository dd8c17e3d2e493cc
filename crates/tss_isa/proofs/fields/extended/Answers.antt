-- A shift to the top and back extends the sign.
use Rattle.std.proofs.Common.{◌≡◌, ℕ, ◌+◌, ◌-◌, ◌^◌, ℤ, to_z, of_z, w32, FitsSigned, ap, ◌∙◌, arith}
use Rattle.std.specs.Int.Signed.{shr_z, mag_shr}
use Rattle.std.proofs.lemmas.Int.{to_z-of_z}
use Rattle.tss_isa.proofs.SignLemmas.{shifted}
use Rattle.tss_isa.proofs.fields.extended.Goals as goal

pub returns : goal.returns
returns c =
    let k : ℕ = 32 - c.args.count in
    let z : ℤ = c.cast_signed.result in
    let word : c.args.count + k ≡ 32 = omega arith in
    let fits : FitsSigned w32 z = record { sfits = c.cast_signed.type_inv } in
    let shifted_fits : FitsSigned w32 (shr_z z (2 ^ k)) =
    record { sfits = omega (arith, mag_shr z (2 ^ k), c.cast_signed.type_inv) } in
    ap (λ (y : ℤ). to_z w32 (of_z w32 (shr_z y (2 ^ k)))) (to_z-of_z w32 z fits)
    ∙ to_z-of_z w32 (shr_z z (2 ^ k)) shifted_fits
    ∙ ap (λ (y : ℤ). shr_z y (2 ^ k)) c.cast_signed.ensures
    ∙ shifted c.args.count c.args.n k c.requires.some word c.requires.within
