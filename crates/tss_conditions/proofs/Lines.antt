-- The lines of the banks beside what is to be decoded: a decode that is sent enters a line.
use Rattle.std.proofs.Common.{◌≡◌, ℕ, ◌*◌, ◌≤◌, Option, Some, None, refl, sym, ap, ◌∙◌, arith}
use Rattle.std.specs.Prelude.{◌==◌}
use Rattle.std.specs.FinMap.{get, len}
use Rattle.std.proofs.Math.Nat.{mul_comm}
use Rattle.std.proofs.lemmas.Option.{none-some}
use Rattle.tss_base.specs.declared.operand.OpName.{OpName}
use Rattle.tss_base.specs.declared.operand.Operand.{Operand}
use Rattle.tss_base.specs.declared.machine.Sizes.{Sizes}
use Rattle.tss_base.specs.declared.machine.Machine.{Machine}
use Rattle.tss_base.specs.declared.machine.Key.TheVariants as key
use Rattle.tss_base.specs.declared.event.Event.TheVariants as event
use Rattle.tss_base.specs.Machine.{IsAdmissible}
use Rattle.tss_base.specs.Names.{Named}
use Rattle.tss_maps.specs.Parts.{key_where}
use Rattle.tss_maps.proofs.Keys.{name_order}
use Rattle.tss_maps.proofs.Entries.{len_at_most}
use Rattle.tss_maps.proofs.PartsLemmas.{get-keys_where}
use Rattle.tss_protocol.specs.Names.{bank_of}
use Rattle.tss_protocol.specs.Renaming.{line_of}
use Rattle.tss_names.proofs.MessageLemmas.{more_times}

module _ (sizes : Sizes) (bank : ℕ) (decodes : Named Operand) where
  -- what stands in a line is to be decoded
  pub from_line : (o : OpName) → get (line_of sizes bank decodes) o ≡ Some tt
      → (p : Operand) × (get decodes o ≡ Some p)
  from_line o e =
      by (get decodes o) refl
      (sym (get-keys_where name_order (λ o p. bank_of sizes p.object == bank) decodes o) ∙ e)
    where
      by : (x : Option Operand) → get decodes o ≡ x
          → key_where (λ o (p : Operand). bank_of sizes p.object == bank) o x ≡ Some tt
          → (p : Operand) × (get decodes o ≡ Some p)
      by None at k = absurd (none-some tt k)
      by (Some p) at k = (p, at)

  -- what isn't to be decoded stands in no line
  pub no_line : (o : OpName) → get decodes o ≡ None → get (line_of sizes bank decodes) o ≡ None
  no_line o none =
      get-keys_where name_order (λ o p. bank_of sizes p.object == bank) decodes o
      ∙ ap (key_where (λ o (p : Operand). bank_of sizes p.object == bank) o) none

  -- a line is no longer than what is to be decoded
  pub few_in_line : len (line_of sizes bank decodes) ≤ len decodes
  few_in_line = len_at_most name_order (line_of sizes bank decodes) decodes (λ o x e. from_line o e)

-- a window of tasks has no more operands than a line has room for
pub window_room : (m : Machine) → IsAdmissible m
    → m.sizes.window * m.limits.max_operands ≤ m.sizes.window * 7
window_room m admissible =
    let most = (admissible.limits key.MaxOperands m.limits.max_operands refl).1 in
    let more = more_times m.limits.max_operands 7 m.sizes.window most in
    let own = mul_comm m.sizes.window m.limits.max_operands in
    let seven = mul_comm m.sizes.window 7 in
    omega (arith, more, own, seven)
