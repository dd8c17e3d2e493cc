-- The turn of an operand in its bank: when a decode waits for it, and when not.
use Rattle.std.proofs.Common.{◌≡◌, ℕ, ◌<◌, Bool, true, false, Option, Some, None, refl, sym, ap, ◌∙◌, arith, true≢false}
use Rattle.std.specs.Prelude.{◌==◌, cond, nat_lt, nat_le, is_none}
use Rattle.std.proofs.lemmas.Bool.Decides.{nat_tests}
use Rattle.std.proofs.lemmas.Option.{none-some}
use Rattle.std.specs.FinMap.{get}
use Rattle.tss_base.specs.declared.operand.OpName.{OpName}
use Rattle.tss_base.specs.declared.operand.Operand.{Operand}
use Rattle.tss_base.specs.declared.machine.Sizes.{Sizes}
use Rattle.tss_base.specs.declared.machine.Machine.{Machine}
use Rattle.tss_base.specs.declared.event.Event.TheVariants as event
use Rattle.tss_base.specs.Names.{Named}
use Rattle.tss_maps.specs.Sums.{count_of}
use Rattle.tss_maps.specs.Parts.{key_where}
use Rattle.tss_maps.proofs.Keys.{name_order}
use Rattle.tss_maps.proofs.Sums.{count_none, counted}
use Rattle.tss_maps.proofs.PartsLemmas.{get-keys_where}
use Rattle.tss_protocol.specs.Names.{bank_of}
use Rattle.tss_protocol.specs.State.{State}
use Rattle.tss_protocol.specs.Renaming.{HasTurn, Wait, Turn, wait_or, fill_of, line_of, has_earlier, decode_wait}
use Rattle.tss_protocol.specs.UnitMachine.{tables_of, can_decode_message, is_enabled, IsEnabled}

-- ---- any line

module _ (o : OpName) (line : Named (Unit {0})) where
  -- it is the operand's turn where the line has none of an earlier task
  pub turn_comes : ((p : OpName) → get line p ≡ Some tt → p.task < o.task → ⊥) → has_earlier o line ≡ false
  turn_comes none =
      let count = count_none name_order (λ p x. nat_lt p.task o.task) line
      (λ p x e. not_earlier p x (nat_lt p.task o.task) refl e) in
      ap (nat_le 1) count
    where
      not_earlier : (p : OpName) (x : Unit {0}) (b : Bool) → nat_lt p.task o.task ≡ b → get line p ≡ Some x
          → nat_lt p.task o.task ≡ false
      not_earlier p x false is e = is
      not_earlier p x true is e =
          let before : p.task < o.task = grind (arith, nat_tests, is) in
          absurd (none p e before)

  -- and only there
  turn_came : has_earlier o line ≡ false → (p : OpName) → get line p ≡ Some tt → p.task < o.task → ⊥
  turn_came turn p e before =
      let test : nat_lt p.task o.task ≡ true = grind (arith, nat_tests, before) in
      let some = counted name_order (λ p x. nat_lt p.task o.task) line p tt e test in
      let has : nat_le 1 (count_of (λ p x. nat_lt p.task o.task) line) ≡ true = grind (arith, nat_tests, some) in
      true≢false (sym has ∙ turn)

-- ---- the line of a bank among all decodes

module _ (sizes : Sizes) (bank : ℕ) (decodes : Named Operand) where
  -- what stands in the line, by what is to be decoded
  get-line_of : (o : OpName)
      → get (line_of sizes bank decodes) o ≡ key_where (λ o p. bank_of sizes p.object == bank) o (get decodes o)
  get-line_of o = get-keys_where name_order (λ o p. bank_of sizes p.object == bank) decodes o

  -- an operand that is to be decoded in the bank stands there
  in_line : (o : OpName) (p : Operand) → get decodes o ≡ Some p → bank_of sizes p.object ≡ bank
      → get (line_of sizes bank decodes) o ≡ Some tt
  in_line o p e same =
      let test : (bank_of sizes p.object == bank) ≡ true = grind (arith, nat_tests, same) in
      get-line_of o
      ∙ ap (key_where (λ o p. bank_of sizes p.object == bank) o) e
      ∙ ap (λ b. cond {A = Option (Unit {0})} b (Some tt) None) test

  -- and no other
  from_line : (o : OpName) → get (line_of sizes bank decodes) o ≡ Some tt
      → (p : Operand) × (get decodes o ≡ Some p) × (bank_of sizes p.object ≡ bank)
  from_line o e = by (get decodes o) refl (sym (get-line_of o) ∙ e)
    where
      tested : (p : Operand) (b : Bool) → (bank_of sizes p.object == bank) ≡ b
          → cond {A = Option (Unit {0})} b (Some tt) None ≡ Some tt → bank_of sizes p.object ≡ bank
      tested p true is e = grind (arith, nat_tests, is)
      tested p false is e = absurd (none-some tt e)

      by : (x : Option Operand) → get decodes o ≡ x
          → key_where (λ o p. bank_of sizes p.object == bank) o x ≡ Some tt
          → (p : Operand) × (get decodes o ≡ Some p) × (bank_of sizes p.object ≡ bank)
      by None is e = absurd (none-some tt e)
      by (Some p) is e = (p, is, tested p (bank_of sizes p.object == bank) refl e)

  -- it is an operand's turn where no decode of an earlier task on an object of the bank is under way
  pub turn_in_bank : (o : OpName)
      → ((p : OpName) (x : Operand) → get decodes p ≡ Some x → p.task < o.task → bank_of sizes x.object ≡ bank → ⊥)
      → has_earlier o (line_of sizes bank decodes) ≡ false
  turn_in_bank o none =
      turn_comes o (line_of sizes bank decodes)
      (λ p e before. let r = from_line p e in none p r.0 r.1 before r.2)

  -- and only there
  pub none_before_turn : (o : OpName) → has_earlier o (line_of sizes bank decodes) ≡ false
      → (p : OpName) (x : Operand) → get decodes p ≡ Some x → p.task < o.task → bank_of sizes x.object ≡ bank → ⊥
  none_before_turn o turn p x e before same =
      turn_came o (line_of sizes bank decodes) turn p (in_line p x e same) before

-- ---- the first of two waits

-- nothing is waited for where neither holds
pub waits_for_neither : (b : Bool) (w : Wait) (rest : Option Wait) → is_none (wait_or b w rest) ≡ true
    → (b ≡ false) × (is_none rest ≡ true)
waits_for_neither true w rest e = absurd (true≢false (sym e))
waits_for_neither false w rest e = (refl, e)

-- nor is it where both don't
pub neither_waits : (b : Bool) (w : Wait) (rest : Option Wait) → b ≡ false → is_none rest ≡ true
    → is_none (wait_or b w rest) ≡ true
neither_waits b w rest turn e = ap (λ b. is_none (wait_or b w rest)) turn ∙ e

-- ---- an enabled decode

module _ (m : Machine) (S : State) (o : OpName) (p : Operand) (there : get S.mail.decodes o ≡ Some p)
    (on : IsEnabled m S (event.Decode o)) where
  both_waits : (HasTurn m.sizes S.mail.decodes o p)
      × (is_none (decode_wait m.sizes (fill_of m.sizes (tables_of S) (bank_of m.sizes p.object))
      (get S.entries p.object.base) p.mode) ≡ true)
  unfolding is_enabled
  both_waits =
      let bank = bank_of m.sizes p.object in
      waits_for_neither (has_earlier o (line_of m.sizes bank S.mail.decodes)) Turn
      (decode_wait m.sizes (fill_of m.sizes (tables_of S) bank) (get S.entries p.object.base) p.mode)
      (sym (ap (can_decode_message m S o) there) ∙ on)

  -- it has its turn
  pub decode_in_turn : HasTurn m.sizes S.mail.decodes o p
  decode_in_turn = both_waits.0

  -- and waits for no table
  pub decode_finds_room : is_none (decode_wait m.sizes (fill_of m.sizes (tables_of S) (bank_of m.sizes p.object))
      (get S.entries p.object.base) p.mode) ≡ true
  decode_finds_room = both_waits.1
