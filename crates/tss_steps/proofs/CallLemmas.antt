-- The call that main's next step is, and main's spawn.
use Rattle.std.proofs.Common.{◌≡◌, ℕ, Bool, true, false, List, Option, Some, None, Result, Ok, refl, sym, ap, ◌∙◌}
use Rattle.std.specs.Prelude.{◌==◌, ◌%◌, cond}
use Rattle.tss_base.specs.declared.range.Range.{Range}
use Rattle.tss_base.specs.declared.operand.Task.{Task}
use Rattle.tss_base.specs.declared.ending.Ending.{Ending}
use Rattle.tss_base.specs.declared.machine.Limits.{Limits}
use Rattle.tss_isa.specs.declared.instr.Instr.{Instr}
use Rattle.tss_isa.specs.declared.instr.Instr.TheVariants.{Lui, Auipc, Jal, Jalr, Branch, Load, Store, OpImm, Op, Fence, Ecall, Ebreak}
use Rattle.tss_isa.specs.declared.instr.LoadKind.{LoadKind}
use Rattle.tss_isa.specs.declared.instr.StoreKind.{StoreKind}
use Rattle.tss_isa.specs.InstrTable.{instr_of}
use Rattle.tss_base.specs.declared.causes.TheConstants.{JUMP_MISALIGNED, LOAD_MISALIGNED, STORE_MISALIGNED}
use Rattle.tss_base.specs.declared.addresses.TheConstants.{END_PC}
use Rattle.tss_model.specs.Memory.{Memory}
use Rattle.tss_model.specs.Registers.{Registers, register_at, with_register, next_pc, completed, onward, trap_of}
use Rattle.tss_model.specs.Access.{Actor, Loads, Stores, Access, Granted, Denied, Touch, access_of, operands_of}
use Rattle.tss_model.specs.Core.{Write, Executed, Ended, Trapped, jump_to, branch_if, load_on, load_from, load_range, load_width, loaded_value, store_on, store_to, store_range, store_width, stored_value, execute, execute_word, execute_fetched, core_step, passes}
use Rattle.tss_model.specs.Spawn.{SpawnCall, spawn_of, name_objects, objects_of}
use Rattle.tss_model.specs.MainStep.{Piece, MainState, call_of, called_by, spawn_call, spawn_on}
use Rattle.tss_steps.proofs.SpawnPlaces.{number-spawn_of}

-- ---- a step that is no ECALL

module _ (q : Registers) where
  jump_to-quiet : (r : Registers) (rd target : ℕ) → called_by q (jump_to r rd target) ≡ None
  jump_to-quiet r rd target =
      elim (target % 4 == 0) as (λ b. called_by q (cond b (Executed (completed (with_register r rd (next_pc r)) target) None) (Trapped (trap_of r JUMP_MISALIGNED target))) ≡ None) [
        | true ↦ refl
        | false ↦ refl
      ]

  branch_if-quiet : (taken : Bool) (r : Registers) (target : ℕ) → called_by q (branch_if taken r target) ≡ None
  branch_if-quiet true r target = jump_to-quiet r 0 target
  branch_if-quiet false r target = refl

  load_on-quiet : (a : Access) (r : Registers) (rd at v : ℕ) → called_by q (load_on a r rd at v) ≡ None
  load_on-quiet Granted r rd at v = refl
  load_on-quiet Denied r rd at v = refl
  load_on-quiet Touch r rd at v = refl

  store_on-quiet : (a : Access) (r : Registers) (w : Write) → called_by q (store_on a r w) ≡ None
  store_on-quiet Granted r w = refl
  store_on-quiet Denied r w = refl
  store_on-quiet Touch r w = refl

  module _ (actor : Actor) (byte : ℕ → ℕ) (r : Registers) where
    load_from-quiet : (kind : LoadKind) (rd at : ℕ) → called_by q (load_from actor byte r kind rd at) ≡ None
    load_from-quiet kind rd at =
        elim (at % load_width kind == 0) as (λ b. called_by q (cond b (load_on (access_of actor Loads (load_range kind at)) r rd at (loaded_value byte kind at)) (Trapped (trap_of r LOAD_MISALIGNED at))) ≡ None) [
          | true ↦ load_on-quiet (access_of actor Loads (load_range kind at)) r rd at (loaded_value byte kind at)
          | false ↦ refl
        ]

    store_to-quiet : (kind : StoreKind) (at v : ℕ) → called_by q (store_to actor r kind at v) ≡ None
    store_to-quiet kind at v =
        elim (at % store_width kind == 0) as (λ b. called_by q (cond b (store_on (access_of actor Stores (store_range kind at)) r (stored_value kind at v)) (Trapped (trap_of r STORE_MISALIGNED at))) ≡ None) [
          | true ↦ store_on-quiet (access_of actor Stores (store_range kind at)) r (stored_value kind at v)
          | false ↦ refl
        ]

    execute-quiet : (i : Instr) → (i ≡ Ecall → ⊥) → called_by q (execute actor byte r i) ≡ None
    execute-quiet (Lui rd imm) other = refl
    execute-quiet (Auipc rd imm) other = refl
    execute-quiet (Jal rd offset) other = jump_to-quiet r rd _
    execute-quiet (Jalr rd rs1 offset) other = jump_to-quiet r rd _
    execute-quiet (Branch test rs1 rs2 offset) other = branch_if-quiet (passes test (register_at r rs1) (register_at r rs2)) r _
    execute-quiet (Load kind rd rs1 offset) other = load_from-quiet kind rd _
    execute-quiet (Store kind rs2 rs1 offset) other = store_to-quiet kind _ _
    execute-quiet (OpImm op rd rs1 imm) other = refl
    execute-quiet (Op op rd rs1 rs2) other = refl
    execute-quiet (Fence rd rs1 bits) other = refl
    execute-quiet Ecall other = absurd (other refl)
    execute-quiet Ebreak other = refl

-- ---- the call that a step meets

module _ (actor : Actor) (byte : ℕ → ℕ) (word : ℕ → Option ℕ) (r : Registers) where
  -- where a task ends there is none
  pub called-ended : (r.pc == END_PC) ≡ true → None ≡ called_by r (core_step actor byte word r)
  unfolding core_step
  called-ended e = ap (λ (b : Bool). called_by r (cond b Ended (execute_fetched actor byte r (word r.pc)))) (sym e)

  module _ (on : (r.pc == END_PC) ≡ false) where
    fetched : (w : Option ℕ) → w ≡ word r.pc → called_by r (execute_fetched actor byte r w) ≡ called_by r (core_step actor byte word r)
    unfolding core_step
    fetched w e =
        ap (λ (x : Option ℕ). called_by r (execute_fetched actor byte r x)) e
        ∙ ap (λ (b : Bool). called_by r (cond b Ended (execute_fetched actor byte r (word r.pc)))) (sym on)

    -- nor where there is no word, or it is no instruction
    pub called-unfetched : None ≡ word r.pc → None ≡ called_by r (core_step actor byte word r)
    called-unfetched e = fetched None e

    pub called-illegal : (w : ℕ) → Some w ≡ word r.pc → None ≡ instr_of w → None ≡ called_by r (core_step actor byte word r)
    called-illegal w e none = ap (λ (i : Option Instr). called_by r (execute_word actor byte r w i)) none ∙ fetched (Some w) e

    -- an instruction is one where it is ECALL
    pub called-ecall : (w : ℕ) → Some w ≡ word r.pc → Some Ecall ≡ instr_of w → (n : ℕ) → n ≡ register_at r 17 → Some (call_of n) ≡ called_by r (core_step actor byte word r)
    called-ecall w e is n number =
        ap (λ (k : ℕ). Some (call_of k)) number
        ∙ ap (λ (i : Option Instr). called_by r (execute_word actor byte r w i)) is
        ∙ fetched (Some w) e

    pub called-other : (w : ℕ) → Some w ≡ word r.pc → (i : Instr) → Some i ≡ instr_of w → (i ≡ Ecall → ⊥) → None ≡ called_by r (core_step actor byte word r)
    called-other w e i is other =
        sym (execute-quiet r actor byte r i other)
        ∙ ap (λ (x : Option Instr). called_by r (execute_word actor byte r w x)) is
        ∙ fetched (Some w) e

-- ---- spawn

-- main with its parts
abbrev pub main_with : Registers → ℕ → List Range → List Piece → Option Ending → MainState
main_with r spawned objects pieces ending = record { registers = r; spawned = spawned; epoch = objects; pieces = pieces; ending = ending }

-- an accepted spawn
pub spawn_calls : (limits : Limits) (r q : Registers) (spawned : ℕ) (objects named : List Range) (pieces : List Piece) (ending : Option Ending) (m : Memory) (t : Task) (words : SpawnCall)
    → words ≡ spawn_call r → Ok t ≡ spawn_of words m objects limits spawned → q ≡ onward r → named ≡ name_objects objects (objects_of (operands_of t))
    → (main_with q t.number named pieces ending, Some t) ≡ spawn_on (main_with r spawned objects pieces ending) (spawn_of (spawn_call r) m objects limits spawned)
spawn_calls limits r q spawned objects named pieces ending m t words passed accepted regs names =
    let next = number-spawn_of limits words m objects spawned t (sym accepted) in
    (λ i. (main_with (regs i) (next i) (names i) pieces ending, Some t))
    ∙ ap (λ (x : Result Task ℕ). spawn_on (main_with r spawned objects pieces ending) x)
    (accepted ∙ (λ i. spawn_of (passed i) m objects limits spawned))
