-- Copies of banks: where there is no bank, and where a bank has a job.
use Rattle.std.proofs.Common.{◌≡◌, ◌≢◌, ℕ, zero, suc, ◌+◌, ◌≤◌, ◌<◌, true, false, nat_lt, get_or, List, [], ◌∷◌, length, Option, Some, None, refl, sym, ap, ◌∙◌, arith}
use Rattle.std.specs.Prelude.{is_some, slice_get}
use Rattle.std.proofs.lemmas.Bool.Decides.{nat_tests}
use Rattle.std.specs.FinMap.{get, get-empty}
use Rattle.std.specs.Ordering.{nat_cmp}
use Rattle.tss_maps.proofs.Keys.{nat_order}
use Rattle.tss_banks.proofs.CollectedLemmas.{beside_with}
use Rattle.tss_renaming.specs.Bank.{RenamingState}
use Rattle.tss_buffers.specs.declared.copying.Copying.{Copying}
use Rattle.tss_pipeline.specs.declared.bank.Bank.{Bank}
use Rattle.tss_pipeline.specs.declared.bank.Job.{Job}
use Rattle.tss_pipeline.specs.Fit.{IsEngaged}
use Rattle.tss_pipeline.proofs.places.BankChanges.{get-copies_from}
use Rattle.tss_pipeline.specs.State.{job_copy, bank_copy, copies_from}

next_number : (k n : ℕ) → suc k + n ≡ k + suc n
next_number k n = omega arith

other_number : (k n : ℕ) → suc k + n ≢ k
other_number k n e = omega (arith, e)

-- past the banks there is no copy
pub copies_past : (k : ℕ) (bs : List Bank) (n : ℕ) → length bs ≤ n → get (copies_from k bs) (k + n) ≡ None
copies_past k [] n past = get-empty nat_cmp (k + n)
copies_past k (x ∷ xs) zero past = absurd (omega (arith, past))
copies_past k (x ∷ xs) (suc n) past =
    ap (get (copies_from k (x ∷ xs))) (sym (next_number k n))
    ∙ beside_with nat_order (copies_from (suc k) xs) k (bank_copy x) (suc k + n) (other_number k n)
    ∙ copies_past (suc k) xs n (omega (arith, past))

-- an engine that is busy has a job
pub job_there : (x : RenamingState) (c : Option Copying) (j : Option Job) → IsEngaged x c j
    → is_some j ≡ is_some (job_copy c j)
job_there x None None h = refl
job_there x None (Some j) h = absurd h
job_there x (Some c) None h = absurd h
job_there x (Some c) (Some j) h = refl

-- what an index finds
pub at_place : {X : Type 0} (xs : List X) (i : ℕ) (x : X) → i < length xs → x ≡ get_or xs i x
    → slice_get xs i ≡ Some x
at_place [] i x few e = absurd (omega (arith, few))
at_place (w ∷ ws) zero x few e = ap Some (sym e)
at_place (w ∷ ws) (suc i) x few e = at_place ws i x (omega (arith, few)) e

pub test_less : (m n : ℕ) → true ≡ nat_lt m n → m < n
test_less m n e = grind (arith, nat_tests)

pub test_not_less : (m n : ℕ) → false ≡ nat_lt m n → n ≤ m
test_not_less m n e = grind (arith, nat_tests)

first_number : (n : ℕ) → n ≡ 0 + n
first_number n = omega arith

-- the copy of a bank, and none where there is no such bank
pub copy_here : (bs : List Bank) (n : ℕ) (b : Bank) → slice_get bs n ≡ Some b
    → get (copies_from 0 bs) n ≡ bank_copy b
copy_here bs n b there = ap (get (copies_from 0 bs)) (first_number n) ∙ get-copies_from 0 bs n b there

pub no_copy_here : (bs : List Bank) (n : ℕ) → length bs ≤ n → get (copies_from 0 bs) n ≡ None
no_copy_here bs n past = ap (get (copies_from 0 bs)) (first_number n) ∙ copies_past 0 bs n past
