-- A product of two numbers of 32 bits fits 64.
use Rattle.std.proofs.Common.{◌≡◌, ℕ, ◌^◌, ◌<◌, ◌≤◌, ℤ, ◌*ℤ◌, to_z, of_z, w32, w64, ap, ◌∙◌, arith}
use Rattle.std.specs.Prelude.{unsigned_abs}
use Rattle.std.proofs.lemmas.Int.{to_z-of_z, fits_signed_mul}
use Rattle.std.proofs.lemmas.Bool.Decides.{nat_tests}
use Rattle.tss_model.specs.Core.{upper_half}
use Rattle.tss_core.proofs.arithmetic.signed_product.Goals as goal

-- a number of 32 bits is at most 2 ^ 31 away from zero
near_zero : (x : ℕ) → x < 2 ^ 32 → unsigned_abs (to_z w32 x) ≤ 2 ^ 31
near_zero x h = grind (arith, nat_tests)

pub returns : goal.returns
returns c =
    let x : ℤ = to_z w32 c.args.x in
    let y : ℤ = to_z w32 c.args.y in
    let x_near = near_zero c.args.x c.ranges.x.fits in
    let y_near = near_zero c.args.y c.ranges.y.fits in
    let product_fits = fits_signed_mul w64 x y (2 ^ 31) (2 ^ 31) x_near y_near (omega arith) in
    let x_is : c.from.result ≡ x =
    c.from.ensures ∙ to_z-of_z w32 _ (record { sfits = c.cast_signed.type_inv }) ∙ c.cast_signed.ensures in
    let y_is : c.from-2.result ≡ y =
    c.from-2.ensures ∙ to_z-of_z w32 _ (record { sfits = c.cast_signed-2.type_inv }) ∙ c.cast_signed-2.ensures in
    let x_wide = to_z-of_z w64 c.from.result (record { sfits = c.from.type_inv }) ∙ x_is in
    let y_wide = to_z-of_z w64 c.from-2.result (record { sfits = c.from-2.type_inv }) ∙ y_is in
    c.upper_half.ensures
    ∙ ap (λ (z : ℤ). upper_half (to_z w64 (of_z w64 z))) (λ i. x_wide i *ℤ y_wide i)
    ∙ ap upper_half (to_z-of_z w64 (x *ℤ y) product_fits)
