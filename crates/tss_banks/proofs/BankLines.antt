-- The line of a bank: what the decodes under way make of it, as they come and go.
use Rattle.std.proofs.Common.{◌≡◌, ◌≢◌, ◌≤◌, ℕ, ◌==◌, Bool, true, false, cond, if◌then◌else◌, Option, Some, None}
use Rattle.std.proofs.Common.{option_and_then, refl, sym, ap, ◌∙◌, arith}
use Rattle.std.specs.declared.cmp.Ordering.{Ordering}
use Rattle.std.specs.FinMap.{FinMap, empty, get, insert, remove, len}
use Rattle.std.proofs.lemmas.Option.{none-some}
use Rattle.std.proofs.lemmas.Bool.Decides.{nat_tests}
use Rattle.tss_base.specs.declared.operand.OpName.{OpName}
use Rattle.tss_base.specs.declared.operand.Operand.{Operand}
use Rattle.tss_base.specs.declared.machine.Sizes.{Sizes}
use Rattle.tss_base.specs.Names.{Named}
use Rattle.tss_maps.specs.Parts.{keys_where, key_where}
use Rattle.tss_maps.proofs.Keys.{IsKeyOrder, name_order}
use Rattle.tss_maps.proofs.Changes.{same_by_get, absent_removed}
use Rattle.tss_maps.proofs.Entries.{len_at_most}
use Rattle.tss_maps.proofs.PartsLemmas.{get-keys_where}
use Rattle.tss_protocol.specs.Names.{bank_of}
use Rattle.tss_protocol.specs.Renaming.{line_of}
use Rattle.tss_banks.specs.Collected.{collected}
use Rattle.tss_banks.proofs.CollectedLemmas.{get-collected, collected-empty, collected-insert_some}
use Rattle.tss_banks.proofs.CollectedLemmas.{collected-insert_left, collected-remove}
use Rattle.tss_banks.proofs.BankCounts.{same_number, other_number}

-- an answer where the test passes
abbrev key_if : {K X : Type 0} → (K → X → Bool) → K → X → Option (Unit {0})
key_if p k x = if p k x then Some tt else None

module _ {K X : Type 0} {R : K → K → Ordering} (order : IsKeyOrder R) (p : K → X → Bool) where
  -- the keys that pass a test are collected
  keys_where-collected : (m : FinMap R X) → keys_where p m ≡ collected (key_if p) m
  keys_where-collected m = same_by_get order _ _ (λ k.
      get-keys_where order p m k ∙ by k (get m k) ∙ sym (get-collected order (key_if p) m k))
    where
      by : (k : K) (o : Option X) → key_where p k o ≡ option_and_then (key_if p k) o
      by k None = refl
      by k (Some x) = refl

module _ (sizes : Sizes) (b : ℕ) where
  abbrev is_of : OpName → Operand → Bool
  is_of o p = bank_of sizes p.object == b

  collects : (decodes : Named Operand) → line_of sizes b decodes ≡ collected (key_if is_of) decodes
  collects decodes = keys_where-collected name_order is_of decodes

  is_own : (o : OpName) (p : Operand) → bank_of sizes p.object ≡ b → key_if is_of o p ≡ Some tt
  is_own o p own = ap (λ t. if t then Some tt else None) (same_number (bank_of sizes p.object) b own)

  is_other : (o : OpName) (p : Operand) → bank_of sizes p.object ≢ b → key_if is_of o p ≡ None
  is_other o p other = ap (λ t. if t then Some tt else None) (other_number (bank_of sizes p.object) b other)

  -- without decodes no operand is in it
  pub line_at_first : line_of sizes b empty ≡ empty
  line_at_first = collects empty ∙ collected-empty name_order (key_if is_of)

  module _ (decodes : Named Operand) (o : OpName) where
    -- one that is to be decoded elsewhere isn't
    not_in_line : (p : Operand) → get decodes o ≡ Some p → bank_of sizes p.object ≢ b
        → get (line_of sizes b decodes) o ≡ None
    not_in_line p there other =
        get-keys_where name_order is_of decodes o ∙ ap (key_where is_of o) there ∙ is_other o p other

    -- nor is one that isn't to be decoded
    pub none_in_line : get decodes o ≡ None → get (line_of sizes b decodes) o ≡ None
    none_in_line none = get-keys_where name_order is_of decodes o ∙ ap (key_where is_of o) none

    from_test : (p : Operand) (t : Bool) → is_of o p ≡ t → cond {A = Option (Unit {0})} t (Some tt) None ≡ Some tt
        → bank_of sizes p.object ≡ b
    from_test p true passes e = grind (arith, nat_tests, passes)
    from_test p false fails e = absurd (none-some tt e)

    from_line_by : (d : Option Operand) → get decodes o ≡ d → key_where is_of o d ≡ Some tt
        → (p : Operand) × (get decodes o ≡ Some p) × (bank_of sizes p.object ≡ b)
    from_line_by None there e = absurd (none-some tt e)
    from_line_by (Some p) there e = (p, there, from_test p (is_of o p) refl e)

    -- an operand in it is to be decoded here
    from_line : get (line_of sizes b decodes) o ≡ Some tt
        → (p : Operand) × (get decodes o ≡ Some p) × (bank_of sizes p.object ≡ b)
    from_line e = from_line_by (get decodes o) refl (sym (get-keys_where name_order is_of decodes o) ∙ e)

    -- a decode that comes to this bank
    pub line_joined : (p : Operand) → bank_of sizes p.object ≡ b
        → line_of sizes b (insert decodes o p) ≡ insert (line_of sizes b decodes) o tt
    line_joined p own =
        collects (insert decodes o p)
        ∙ collected-insert_some name_order (key_if is_of) decodes o p tt (is_own o p own)
        ∙ ap (λ m. insert m o tt) (sym (collects decodes))

    -- a new one that comes to another
    pub line_passed : (p : Operand) → bank_of sizes p.object ≢ b → get decodes o ≡ None
        → line_of sizes b (insert decodes o p) ≡ line_of sizes b decodes
    line_passed p other new =
        collects (insert decodes o p)
        ∙ collected-insert_left name_order (key_if is_of) decodes o p (is_other o p other) new
        ∙ sym (collects decodes)

    -- a decode that goes
    pub line_left : line_of sizes b (remove decodes o) ≡ remove (line_of sizes b decodes) o
    line_left =
        collects (remove decodes o)
        ∙ collected-remove name_order (key_if is_of) decodes o
        ∙ ap (λ m. remove m o) (sym (collects decodes))

    -- one of another bank
    pub line_left_elsewhere : (p : Operand) → get decodes o ≡ Some p → bank_of sizes p.object ≢ b
        → line_of sizes b (remove decodes o) ≡ line_of sizes b decodes
    line_left_elsewhere p there other =
        line_left ∙ absent_removed name_order (line_of sizes b decodes) o (not_in_line p there other)

  -- no more are in it than are to be decoded
  pub line_within : (decodes : Named Operand) → len (line_of sizes b decodes) ≤ len decodes
  line_within decodes =
      len_at_most name_order (line_of sizes b decodes) decodes (λ o x e. let t = from_line decodes o e in (t.0, t.1))
