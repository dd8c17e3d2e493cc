-- Numbers as digits.
use Rattle.std.specs.Prelude.{ℕ, List}
use Rattle.std.specs.Int.{w32, to_be_bytes}
use Rattle.hex.specs.Hex.{encode_lower}

-- eight lower-case hexadecimal digits
abbrev pub hex_word : ℕ → List ℕ
hex_word n = encode_lower (to_be_bytes w32 n)
