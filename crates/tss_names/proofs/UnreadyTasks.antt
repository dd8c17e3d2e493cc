-- A task with an operand that isn't ready.
use Rattle.std.proofs.Common.{◌≡◌, ℕ, zero, suc, Bool, true, false, List, [], ◌∷◌, Some, None, refl, ap, ◌∙◌}
use Rattle.std.specs.Prelude.{◌&&◌, is_some, slice_get}
use Rattle.std.specs.List.{list_all}
use Rattle.tss_protocol.specs.State.{OperandState}
use Rattle.tss_protocol.specs.Stations.{is_ready}

-- a task of which one operand isn't ready isn't complete
pub unready : (rs : List OperandState) (i : ℕ) (r : OperandState) → slice_get rs i ≡ Some r → r.source ≡ None
    → list_all is_ready rs ≡ false
unready [] i r e none = absurd (cc)
unready (x ∷ rs) zero r e none =
    let is : x ≡ r = cc in
    ap (λ b. b && list_all is_ready rs) (ap is_ready is ∙ ap is_some none)
unready (x ∷ rs) (suc i) r e none = by (is_ready x) (unready rs i r e none)
  where
    by : (b : Bool) → list_all is_ready rs ≡ false → (b && list_all is_ready rs) ≡ false
    by true rest = rest
    by false rest = refl
