-- A step of an actor stores only where the actor may store.
use Rattle.std.proofs.Common.{◌≡◌, ℕ, Bool, true, false, cond, length, Option, Some, None, refl}
use Rattle.std.specs.Prelude.{◌==◌, ◌%◌}
use Rattle.tss_isa.specs.declared.instr.LoadKind.{LoadKind}
use Rattle.tss_isa.specs.declared.instr.StoreKind.{StoreKind}
use Rattle.tss_isa.specs.declared.instr.StoreKind.TheVariants.{Sb, Sh, Sw}
use Rattle.tss_isa.specs.declared.instr.Instr.{Instr}
use Rattle.tss_isa.specs.declared.instr.Instr.TheVariants.{Jal, Jalr, Branch, Load, Store}
use Rattle.tss_isa.specs.InstrTable.{instr_of}
use Rattle.tss_model.specs.Access.{Actor, Loads, Stores, Access, Granted, Denied, Touch, access_of}
use Rattle.tss_model.specs.Registers.{Registers, register_at, with_register, next_pc, completed, onward, trap_of}
use Rattle.tss_base.specs.declared.causes.TheConstants.{JUMP_MISALIGNED, LOAD_MISALIGNED, STORE_MISALIGNED}
use Rattle.tss_model.specs.Core.{Write, Stepped, Executed, Ended, Trapped, load_width, store_width}
use Rattle.tss_model.specs.Core.{jump_to, branch_if, load_on, loaded_value, load_range, load_from, store_on}
use Rattle.tss_model.specs.Core.{stored_value, store_range, store_to, passes, moved, execute, execute_word}
use Rattle.tss_model.specs.Core.{execute_fetched, core_step}
use Rattle.tss_base.specs.declared.addresses.TheConstants.{END_PC}

-- an actor may store these bytes
abbrev pub MayWrite : Actor → Write → Type 0
MayWrite actor w = access_of actor Stores (record { base = w.at; len = length w.bytes }) ≡ Granted

-- what a step stores it may store
abbrev pub StoresWithin : Actor → Stepped → Type 0
StoresWithin actor (Executed r (Some w)) = MayWrite actor w
StoresWithin actor other = Unit {0}

module _ (actor : Actor) where
  -- one of two
  within_if : (b : Bool) (x y : Stepped) → StoresWithin actor x → StoresWithin actor y → StoresWithin actor (cond b x y)
  within_if true x y p q = p
  within_if false x y p q = q

  jump_within : (r : Registers) (rd target : ℕ) → StoresWithin actor (jump_to r rd target)
  jump_within r rd target =
      within_if (target % 4 == 0) (Executed (completed (with_register r rd (next_pc r)) target) None)
      (Trapped (trap_of r JUMP_MISALIGNED target)) tt tt

  branch_within : (taken : Bool) (r : Registers) (target : ℕ) → StoresWithin actor (branch_if taken r target)
  branch_within taken r target = within_if taken (jump_to r 0 target) (Executed (onward r) None)
      (jump_within r 0 target) tt

  load_on_within : (a : Access) (r : Registers) (rd at v : ℕ) → StoresWithin actor (load_on a r rd at v)
  load_on_within Granted r rd at v = tt
  load_on_within Denied r rd at v = tt
  load_on_within Touch r rd at v = tt

  load_within : (byte : ℕ → ℕ) (r : Registers) (kind : LoadKind) (rd at : ℕ) →
      StoresWithin actor (load_from actor byte r kind rd at)
  load_within byte r kind rd at =
      let answer = access_of actor Loads (load_range kind at) in
      within_if (at % load_width kind == 0) (load_on answer r rd at (loaded_value byte kind at))
      (Trapped (trap_of r LOAD_MISALIGNED at)) (load_on_within answer r rd at (loaded_value byte kind at)) tt

  -- the range of a store is that of its bytes
  may_write : (kind : StoreKind) (at v : ℕ) → access_of actor Stores (store_range kind at) ≡ Granted →
      MayWrite actor (stored_value kind at v)
  may_write Sb at v granted = granted
  may_write Sh at v granted = granted
  may_write Sw at v granted = granted

  store_on_within : (r : Registers) (kind : StoreKind) (at v : ℕ) (a : Access) →
      access_of actor Stores (store_range kind at) ≡ a →
      StoresWithin actor (store_on a r (stored_value kind at v))
  store_on_within r kind at v Granted granted = may_write kind at v granted
  store_on_within r kind at v Denied granted = tt
  store_on_within r kind at v Touch granted = tt

  store_within : (r : Registers) (kind : StoreKind) (at v : ℕ) → StoresWithin actor (store_to actor r kind at v)
  store_within r kind at v =
      let answer = access_of actor Stores (store_range kind at) in
      within_if (at % store_width kind == 0) (store_on answer r (stored_value kind at v))
      (Trapped (trap_of r STORE_MISALIGNED at)) (store_on_within r kind at v answer refl) tt

  execute_within : (byte : ℕ → ℕ) (r : Registers) (i : Instr) → StoresWithin actor (execute actor byte r i)
  execute_within byte r (Jal rd offset) = jump_within r rd _
  execute_within byte r (Jalr rd rs1 offset) = jump_within r rd _
  execute_within byte r (Branch test rs1 rs2 offset) =
      branch_within (passes test (register_at r rs1) (register_at r rs2)) r (moved r.pc offset)
  execute_within byte r (Load kind rd rs1 offset) = load_within byte r kind rd (moved (register_at r rs1) offset)
  execute_within byte r (Store kind rs2 rs1 offset) =
      store_within r kind (moved (register_at r rs1) offset) (register_at r rs2)
  execute_within byte r other = tt

  word_within : (byte : ℕ → ℕ) (r : Registers) (w : ℕ) (i : Option Instr) →
      StoresWithin actor (execute_word actor byte r w i)
  word_within byte r w (Some i) = execute_within byte r i
  word_within byte r w None = tt

  fetched_within : (byte : ℕ → ℕ) (r : Registers) (w : Option ℕ) →
      StoresWithin actor (execute_fetched actor byte r w)
  fetched_within byte r (Some w) = word_within byte r w (instr_of w)
  fetched_within byte r None = tt

  -- a step of the actor
  pub core_step_within : (byte : ℕ → ℕ) (word : ℕ → Option ℕ) (r : Registers) →
      StoresWithin actor (core_step actor byte word r)
  unfolding core_step
  core_step_within byte word r =
      within_if (r.pc == END_PC) Ended (execute_fetched actor byte r (word r.pc)) tt
      (fetched_within byte r (word r.pc))
