-- What stands at the keys of a table: the numbers, the keys that aren't known, and the faults of both.
use Rattle.std.specs.Prelude.{ℕ, ℤ, pos, negsuc, nat_le, Bool, ◌&&◌, not, if◌then◌else◌, List, [], ◌∷◌, filter, map, Option, None, Some, option_map, Result, Ok, Err}
use Rattle.std.specs.Cmp.Lexicographic.{slice_cmp}
use Rattle.std.specs.List.{list_any, reduce}
use Rattle.std.specs.Ordering.{nat_cmp, is_lt}
use Rattle.std.specs.Result.{result_err, result_unwrap_or}
use Rattle.std.specs.Str.{bytes_eq}
use Rattle.toml.specs.Data.{Data, integer, Members, no_members, member, get_member}
use Rattle.tss_base.specs.Machine.{all_keys, key_name, key_range}
use Rattle.tss_base.specs.declared.machine.Key.{Key}
use Rattle.tss_machine.specs.declared.fault.MachineFault.{MachineFault}
use Rattle.tss_machine.specs.declared.fault.MachineFault.TheVariants as fault

-- the number that an integer gives a key, or that it is out of the key's range
abbrev pub in_range : Key → ℤ → Result ℕ MachineFault
in_range k (pos n) = if nat_le (key_range k).0 n && nat_le n (key_range k).1 then Ok n else Err (fault.OutOfRange k)
in_range k (negsuc n) = Err (fault.OutOfRange k)

-- the number that a value gives a key, or why it gives none: it isn't there, is no integer, or is out of range
abbrev pub number_from : Key → Option Data → Result ℕ MachineFault
number_from k None = Err (fault.MissingKey k)
number_from k (Some (integer z)) = in_range k z
number_from k (Some d) = Err (fault.NotInteger k)

-- the number at a key of a table, or its fault
unfoldable pub number_at : Members → Key → Result ℕ MachineFault
number_at table k = number_from k (get_member (key_name k) table)

-- its fault, if it has one
abbrev pub key_fault : Members → Key → Option MachineFault
key_fault table k = result_err (number_at table k)

-- the number, or 0 where it has a fault
abbrev pub number_or_zero : Members → Key → ℕ
number_or_zero table k = result_unwrap_or (number_at table k) 0

-- the faults of all keys in their order, and the numbers
unfoldable pub key_faults : Members → List (Option MachineFault)
key_faults table = map (key_fault table) all_keys

unfoldable pub numbers_of : Members → List ℕ
numbers_of table = map (number_or_zero table) all_keys

-- the keys of a table
abbrev pub keys_of : Members → List (List ℕ)
keys_of no_members = []
keys_of (member text d table) = text ∷ keys_of table

-- the text is the name of a key
unfoldable pub is_known : List ℕ → Bool
is_known text = list_any (λ k. bytes_eq (key_name k) text) all_keys

-- the keys of a table that aren't known
abbrev pub unknown_keys : Members → List (List ℕ)
unknown_keys table = filter (λ text. not (is_known text)) (keys_of table)

-- the lesser of two texts, by their bytes
abbrev pub lesser : List ℕ → List ℕ → List ℕ
lesser s t = if is_lt (slice_cmp nat_cmp t s) then t else s

-- the least of some texts, if there are any
abbrev pub least_of : List (List ℕ) → Option (List ℕ)
least_of = reduce lesser

-- the fault of a table with keys that aren't known: the least of them is named
abbrev pub unknown_fault : Members → Option MachineFault
unknown_fault table = option_map fault.UnknownKey (least_of (unknown_keys table))
