-- The fields of an instruction's word and its five immediates, as numbers.
use Rattle.std.specs.Prelude.{ℕ, suc, ◌+◌, ◌-◌, ◌*◌, ◌/◌, ◌%◌, ◌^◌, nat_lt, if◌then◌else◌, ℤ, pos, negsuc}

-- `count` bits of a word from bit `low` on
abbrev pub field : ℕ → ℕ → ℕ → ℕ
field w low count = w / 2 ^ low % 2 ^ count

abbrev pub opcode : ℕ → ℕ
opcode w = field w 0 7

abbrev pub rd : ℕ → ℕ
rd w = field w 7 5

abbrev pub funct3 : ℕ → ℕ
funct3 w = field w 12 3

abbrev pub rs1 : ℕ → ℕ
rs1 w = field w 15 5

abbrev pub rs2 : ℕ → ℕ
rs2 w = field w 20 5

abbrev pub funct7 : ℕ → ℕ
funct7 w = field w 25 7

-- the number that `count` bits are in two's complement: with the highest bit set, n - 2 ^ count
abbrev pub signed : ℕ → ℕ → ℤ
signed count n = if nat_lt n (2 ^ (count - 1)) then pos n else negsuc (2 ^ count - suc n)

-- I: bits 31 to 20
abbrev pub imm_i : ℕ → ℤ
imm_i w = signed 12 (field w 20 12)

-- S: bits 31 to 25, then 11 to 7
abbrev pub imm_s : ℕ → ℤ
imm_s w = signed 12 (field w 25 7 * 2 ^ 5 + field w 7 5)

-- B: bit 31 as bit 12, bit 7 as bit 11, bits 30 to 25 as 10 to 5, bits 11 to 8 as 4 to 1, bit 0 zero
abbrev pub imm_b : ℕ → ℤ
imm_b w = signed 13 (field w 31 1 * 2 ^ 12 + field w 7 1 * 2 ^ 11 + field w 25 6 * 2 ^ 5 + field w 8 4 * 2)

-- U: bits 31 to 12, the low twelve bits zero
abbrev pub imm_u : ℕ → ℕ
imm_u w = field w 12 20 * 2 ^ 12

-- J: bit 31 as bit 20, bits 19 to 12 as they stand, bit 20 as bit 11, bits 30 to 21 as 10 to 1, bit 0 zero
abbrev pub imm_j : ℕ → ℤ
imm_j w = signed 21 (field w 31 1 * 2 ^ 20 + field w 12 8 * 2 ^ 12 + field w 20 1 * 2 ^ 11 + field w 21 10 * 2)
