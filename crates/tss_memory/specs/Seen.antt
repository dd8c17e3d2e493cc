-- A memory is stored as its ranges and its map.
use Rattle.std.specs.Prelude.{ℕ, Bool, List, refl}
use Rattle.std.specs.Coded.{Coded, code_by, coded×, coded_ℕ, coded_bool, coded_list}
use Rattle.std.specs.FinMap as map
use Rattle.tss_base.specs.Names.{Numbered}
use Rattle.tss_model.specs.Memory.{MemoryRange, Memory}

-- a range of memory is stored as its base, its length and its flag
abbrev pub range_code : Coded MemoryRange
range_code =
    code_by (ℕ × (ℕ × Bool)) (coded× coded_ℕ (coded× coded_ℕ coded_bool))
    (λ m. (m.range.base, (m.range.len, m.writable)))
    (λ p. record { range = record { base = p.0; len = p.1.0 }; writable = p.1.1 })
    (λ _. refl)

abbrev pub memory_code : Coded Memory
memory_code =
    code_by (List MemoryRange × Numbered ℕ) (coded× (coded_list range_code) (map.code coded_ℕ coded_ℕ))
    (λ m. (m.ranges, m.bytes))
    (λ p. record { ranges = p.0; bytes = p.1 })
    (λ _. refl)
