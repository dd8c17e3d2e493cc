-- A step that is repeated.
use Rattle.std.proofs.Common.{◌≡◌, ℕ, zero, suc, ap, refl, ◌∙◌}
use Rattle.tss_model.specs.TaskRun.{repeated}

-- a step that leaves things as they are leaves them so however often it is done
pub repeated-still : {A : Type 0} (f : A → A) (n : ℕ) (a : A) → f a ≡ a → repeated f n a ≡ a
unfolding repeated
repeated-still f zero a e = refl
repeated-still f (suc n) a e = ap (repeated f n) e ∙ repeated-still f n a e

-- a step, and then the others
pub repeated-suc : {A : Type 0} (f : A → A) (n : ℕ) (a b : A) → f a ≡ b → repeated f (suc n) a ≡ repeated f n b
unfolding repeated
repeated-suc f n a b e = ap (repeated f n) e

-- where a step has reached something that stays, it is the end
pub repeated-reached : {A : Type 0} (f : A → A) (n : ℕ) (a b : A) → f a ≡ b → f b ≡ b → repeated f (suc n) a ≡ b
repeated-reached f n a b e still = repeated-suc f n a b e ∙ repeated-still f n b still
