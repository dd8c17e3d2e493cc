-- What contracts see of a table: its size, and what stands under its keys.
use Rattle.std.specs.Prelude.{ℕ}
use Rattle.std.specs.Coded.{Coded, code_by, coded×, coded_ℕ}
use Rattle.std.specs.declared.cmp.Ordering.{Ordering}
use Rattle.std.specs.FinMap.{FinMap, code, from_sorted}
use Rattle.std.proofs.Common.{refl}
use Rattle.tss_tables.specs.Rows.{RowsState}

-- how many entries a table has room for, and its entries
pub record TableState {K : Type 0} (R : K → K → Ordering) (X : Type 0) : Type 0 where
  pub size : ℕ
  pub entries : FinMap R X

abbrev pub table_code : {K X : Type 0} {R : K → K → Ordering} → Coded K → Coded X → Coded (TableState R X)
table_code {K} {X} {R} k x =
    code_by (ℕ × FinMap R X) (coded× coded_ℕ (code k x)) (λ t. (t.size, t.entries))
    (λ p. record { size = p.0; entries = p.1 }) (λ _. refl)

-- rows in order, as a table
abbrev pub table_of : {K X : Type 0} (R : K → K → Ordering) → RowsState K X → TableState R X
table_of R rows = record { size = rows.size; entries = from_sorted rows.entries }
