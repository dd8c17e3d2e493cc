-- The bytes of a list after a put.
use Rattle.std.proofs.Common.{◌≡◌, ℕ, suc, ◌<◌, List, [], ◌∷◌, refl, ◌∙◌, arith}
use Rattle.std.specs.Prelude.{slice_index}
use Rattle.std.proofs.lemmas.List.{get_or-set_other}
use Rattle.tss_model.specs.Memory.{list_put}

-- a place below it keeps its byte
pub list_put-below : (bs xs : List ℕ) (at a : ℕ) → a < at → slice_index (list_put xs at bs) a ≡ slice_index xs a
list_put-below [] xs at a below = refl
list_put-below (b ∷ bs) xs at a below =
    get_or-set_other (list_put xs (suc at) bs) at a b 0 (λ e. omega arith)
    ∙ list_put-below bs xs (suc at) a (omega arith)
