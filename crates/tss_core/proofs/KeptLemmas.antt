-- A step at a pc whose instruction is known.
use Rattle.std.proofs.Common.{◌≡◌, ℕ, Bool, false, Option, Some, None, ap, ◌∙◌}
use Rattle.std.specs.Prelude.{◌==◌, if◌then◌else◌}
use Rattle.tss_base.specs.declared.addresses.TheConstants.{END_PC}
use Rattle.tss_isa.specs.declared.instr.Instr.{Instr}
use Rattle.tss_isa.specs.InstrTable.{instr_at}
use Rattle.tss_model.specs.Access.{Actor}
use Rattle.tss_model.specs.Registers.{Registers}
use Rattle.tss_model.specs.Core.{Ended, execute, execute_word, execute_fetched, core_step}

module _ (actor : Actor) (byte : ℕ → ℕ) (word : ℕ → Option ℕ) (r : Registers) (i : Instr) where
  by_word : (o : Option ℕ) → instr_at o ≡ Some i → execute_fetched actor byte r o ≡ execute actor byte r i
  by_word (Some w) e = ap (execute_word actor byte r w) e
  by_word None e = absurd (cc)

  pub stepped_by_kept : instr_at (word r.pc) ≡ Some i → (r.pc == END_PC) ≡ false
      → core_step actor byte word r ≡ execute actor byte r i
  unfolding core_step
  stepped_by_kept e on = ap (λ (b : Bool). if b then Ended else execute_fetched actor byte r (word r.pc)) on
      ∙ by_word (word r.pc) e
