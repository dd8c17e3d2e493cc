-- How long the table is at most, and the words of the blocks.
use Rattle.std.proofs.Common.{◌≡◌, ℕ, zero, suc, ◌+◌, ◌-◌, ◌*◌, ◌<◌, ◌≤◌, List, ◌++◌, length, arith, length-append}
use Rattle.std.proofs.Math.Nat.{mul-le-mul}
use Rattle.std.specs.Prelude.{flat_map}
use Rattle.std.specs.List.{range_with_len}
use Rattle.std.proofs.lemmas.List.FromFn.{length-range_with_len}
use Rattle.tss_gen.specs.Workload.{diagonal_record, extract_record, column_record, update_record, update_row, between, records, table, last_number, block_words}

-- where each number of a range gives so many at most
length_at_most : (f : ℕ → List ℕ) (m count a : ℕ) → ((i : ℕ) → i < a + count → length (f i) ≤ m)
    → length (flat_map f (range_with_len a count)) ≤ count * m
length_at_most f m zero a each = omega arith
length_at_most f m (suc count) a each =
    let here = each a (omega arith) in
    let rest = length_at_most f m count (a + 1) (λ i below. each i (omega arith)) in
    let both = length-append (f a) (flat_map f (range_with_len (a + 1) count)) in
    let more : suc count * m ≡ count * m + m = omega arith in
    omega arith

length-update_row : (k i : ℕ) → i < 40 → length (update_row k i) ≤ 480
length-update_row k i below =
    let e = length_at_most (update_record k i) 12 (i - k) (k + 1) (λ j _. omega arith) in omega arith

length-columns : (n k : ℕ) → n ≤ 40 → length (flat_map (column_record n k) (between k n)) ≤ 480
length-columns n k most =
    let e = length_at_most (column_record n k) 12 (n - (k + 1)) (k + 1) (λ i _. omega arith) in omega arith

length-rows : (n k : ℕ) → n ≤ 40 → k < n → length (flat_map (update_row k) (between k n)) ≤ 19200
length-rows n k most below =
    let e = length_at_most (update_row k) 480 (n - (k + 1)) (k + 1) (λ i inside. length-update_row k i (omega arith)) in
    omega arith

length-records : (n k : ℕ) → n ≤ 40 → k < n → length (records n k) ≤ 19704
length-records n k most below =
    let columns = flat_map (column_record n k) (between k n) in
    let rows = flat_map (update_row k) (between k n) in
    let a = length-append (diagonal_record k ++ extract_record n k) columns in
    let b = length-append (diagonal_record k ++ extract_record n k ++ columns) rows in
    let c = length-columns n k most in
    let d = length-rows n k most below in
    omega arith

pub length-table : (n : ℕ) → n ≤ 40 → length (table n) ≤ 788160
length-table n most =
    let e = length_at_most (records n) 19704 n 0 (λ k inside. length-records n k most (omega arith)) in omega arith

product_at_most : (n : ℕ) → n ≤ 40 → n * (n + 1) ≤ 40 * 41
product_at_most n most =
    let rise : n + 1 ≤ 41 = omega arith in
    mul-le-mul {n₁ = n} {m₁ = n + 1} {n₂ = 40} {m₂ = 41} most rise

pub last_number-small : (n : ℕ) → n ≤ 40 → last_number n ≤ 820
last_number-small n most = let e = product_at_most n most in omega arith

pub length-block_words : (n : ℕ) → length (block_words n) ≡ 16 * (last_number n + 1)
length-block_words n = length-range_with_len 1 (16 * (last_number n + 1))
