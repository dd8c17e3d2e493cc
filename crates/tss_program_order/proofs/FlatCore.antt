-- One step of a core: what it reads, what it stores, and the instructions that it completes.
use Rattle.std.proofs.Common.{◌≡◌, ℕ, zero, suc, ◌+◌, ◌%◌, ◌<◌, Bool, true, false, Option, Some, None, length, refl}
use Rattle.std.proofs.Common.{sym, ap, subst, ◌∙◌, arith}
use Rattle.std.specs.Prelude.{cond, ◌==◌, slice_set}
use Rattle.std.specs.Int.{bytes_low_first}
use Rattle.std.proofs.lemmas.Bool.{cond-true, cond-false}
use Rattle.tss_base.specs.declared.range.Range.{Range}
use Rattle.tss_base.specs.Range.{Covers}
use Rattle.tss_isa.specs.declared.instr.Instr.{Instr}
use Rattle.tss_isa.specs.declared.instr.Instr.TheVariants.{Lui, Auipc, Jal, Jalr, Branch, Load, Store, OpImm, Op, Fence}
use Rattle.tss_isa.specs.declared.instr.Instr.TheVariants.{Ecall, Ebreak}
use Rattle.tss_isa.specs.declared.instr.LoadKind.{LoadKind}
use Rattle.tss_isa.specs.declared.instr.StoreKind.{StoreKind}
use Rattle.tss_isa.specs.declared.instr.StoreKind.TheVariants.{Sb, Sh, Sw}
use Rattle.tss_isa.specs.InstrTable.{instr_of}
use Rattle.tss_base.specs.declared.causes.TheConstants.{JUMP_MISALIGNED, LOAD_MISALIGNED, STORE_MISALIGNED}
use Rattle.tss_model.specs.Registers.{Registers, register_at, with_register, next_pc, completed, trap_of}
use Rattle.tss_model.specs.Access.{Actor, Purpose, Loads, Stores, Access, Granted, Denied, Touch, access_of}
use Rattle.tss_model.specs.Core.{Stepped, Executed, Called, Ended, Trapped, Touched, jump_to, branch_if, passes}
use Rattle.tss_model.specs.Core.{load_on, load_from, load_range, load_width, loaded_value, extended, store_on, store_to}
use Rattle.tss_model.specs.Core.{store_range, store_width, stored_value, execute, execute_word, execute_fetched}
use Rattle.tss_model.specs.Core.{core_step, moved, result_in}
use Rattle.tss_program_order.proofs.FlatLoads.{same_number}
use Rattle.tss_base.specs.declared.addresses.TheConstants.{END_PC}

-- ---- what a step reads

-- two reads agree on every range that an actor may load
abbrev AgreeOnLoads : Actor → (ℕ → ℕ) → (ℕ → ℕ) → Type 0
AgreeOnLoads actor f g = (q : Range) (a : ℕ) → access_of actor Loads q ≡ Granted → Covers q a → f a ≡ g a

module _ (actor : Actor) (f g : ℕ → ℕ) (same : AgreeOnLoads actor f g) (r : Registers) where
  load_on-same : (kind : LoadKind) (rd at : ℕ) (x : Access) → access_of actor Loads (load_range kind at) ≡ x
      → load_on x r rd at (loaded_value f kind at) ≡ load_on x r rd at (loaded_value g kind at)
  load_on-same kind rd at Granted e =
      ap (λ n. result_in r rd (extended kind n))
      (same_number f g at (load_width kind) (λ a low high. same (load_range kind at) a e (low, high)))
  load_on-same kind rd at Denied e = refl
  load_on-same kind rd at Touch e = refl

  load_from-same : (kind : LoadKind) (rd at : ℕ) → load_from actor f r kind rd at ≡ load_from actor g r kind rd at
  load_from-same kind rd at =
      ap (λ x. cond (at % load_width kind == 0) x (Trapped (trap_of r LOAD_MISALIGNED at)))
      (load_on-same kind rd at (access_of actor Loads (load_range kind at)) refl)

  execute-same : (i : Instr) → execute actor f r i ≡ execute actor g r i
  execute-same (Load kind rd rs1 offset) = load_from-same kind rd (moved (register_at r rs1) offset)
  execute-same other = refl

  word-same : (w : ℕ) (i : Option Instr) → execute_word actor f r w i ≡ execute_word actor g r w i
  word-same w (Some i) = execute-same i
  word-same w None = refl

  fetched-same : (w : Option ℕ) → execute_fetched actor f r w ≡ execute_fetched actor g r w
  fetched-same (Some w) = word-same w (instr_of w)
  fetched-same None = refl

  -- reads that agree wherever an actor may load give its core the same step
  pub core_step-same : (word : ℕ → Option ℕ) → core_step actor f word r ≡ core_step actor g word r
  unfolding core_step
  core_step-same word = ap (λ x. cond (r.pc == END_PC) Ended x) (fetched-same (word r.pc))

-- ---- what a step stores, and the instructions that it completes

-- a step of an actor: an executed instruction completes one more, and its write is a store that is granted. The end is
-- met only at its pc, and a touch only where the rule of access says so
abbrev pub IsStep : Actor → Registers → Stepped → Type 0
IsStep actor r (Executed s None) = s.done ≡ r.done + 1
IsStep actor r (Executed s (Some w)) =
    (s.done ≡ r.done + 1)
    × (0 < length w.bytes)
    × (access_of actor Stores (record { base = w.at; len = length w.bytes }) ≡ Granted)
IsStep actor r Called = Unit {0}
IsStep actor r Ended = (r.pc == END_PC) ≡ true
IsStep actor r (Trapped t) = Unit {0}
IsStep actor r Touched = (purpose : Purpose) × (q : Range) × (access_of actor purpose q ≡ Touch)

-- the low bytes of a number are as many as were asked for
length-bytes_low_first : (i n x : ℕ) → length (bytes_low_first i n x) ≡ n
length-bytes_low_first i zero x = refl
length-bytes_low_first i (suc n) x = ap suc (length-bytes_low_first (suc i) n x)

some_width : (kind : StoreKind) → 0 < store_width kind
some_width Sb = omega arith
some_width Sh = omega arith
some_width Sw = omega arith

with_register-done : (r : Registers) (n v : ℕ) → (with_register r n v).done ≡ r.done
with_register-done r n v =
    elim (n == 0) as (λ b. (cond b r (record r { values = slice_set r.values n v })).done ≡ r.done) [
      | true ↦ refl
      | false ↦ refl
    ]

module _ (actor : Actor) (byte : ℕ → ℕ) (r : Registers) where
  result_in-step : (rd v : ℕ) → IsStep actor r (result_in r rd v)
  result_in-step rd v = ap (λ n. n + 1) (with_register-done r rd v)

  jump_to-step : (rd target : ℕ) → IsStep actor r (jump_to r rd target)
  jump_to-step rd target =
      elim (target % 4 == 0) as (λ b. IsStep actor r (cond b
      (Executed (completed (with_register r rd (next_pc r)) target) None)
      (Trapped (trap_of r JUMP_MISALIGNED target)))) [
        | true ↦ ap (λ n. n + 1) (with_register-done r rd (next_pc r))
        | false ↦ tt
      ]

  branch_if-step : (taken : Bool) (target : ℕ) → IsStep actor r (branch_if taken r target)
  branch_if-step true target = jump_to-step 0 target
  branch_if-step false target = refl

  load_on-step : (kind : LoadKind) (rd at v : ℕ) (x : Access) → access_of actor Loads (load_range kind at) ≡ x
      → IsStep actor r (load_on x r rd at v)
  load_on-step kind rd at v Granted e = result_in-step rd v
  load_on-step kind rd at v Denied e = tt
  load_on-step kind rd at v Touch e = (Loads, load_range kind at, e)

  load_from-step : (kind : LoadKind) (rd at : ℕ) → IsStep actor r (load_from actor byte r kind rd at)
  load_from-step kind rd at =
      elim (at % load_width kind == 0) as (λ b. IsStep actor r (cond b
      (load_on (access_of actor Loads (load_range kind at)) r rd at (loaded_value byte kind at))
      (Trapped (trap_of r LOAD_MISALIGNED at)))) [
        | true ↦ load_on-step kind rd at (loaded_value byte kind at) (access_of actor Loads (load_range kind at)) refl
        | false ↦ tt
      ]

  store_on-step : (kind : StoreKind) (at v : ℕ) (x : Access) → access_of actor Stores (store_range kind at) ≡ x
      → IsStep actor r (store_on x r (stored_value kind at v))
  store_on-step kind at v Granted e =
      let len = length-bytes_low_first 0 (store_width kind) v in (
        refl,
        omega (arith, len, some_width kind),
        ap (λ n. access_of actor Stores (record { base = at; len = n })) len ∙ e,
      )
  store_on-step kind at v Denied e = tt
  store_on-step kind at v Touch e = (Stores, store_range kind at, e)

  store_to-step : (kind : StoreKind) (at v : ℕ) → IsStep actor r (store_to actor r kind at v)
  store_to-step kind at v =
      elim (at % store_width kind == 0) as (λ b. IsStep actor r (cond b
      (store_on (access_of actor Stores (store_range kind at)) r (stored_value kind at v))
      (Trapped (trap_of r STORE_MISALIGNED at)))) [
        | true ↦ store_on-step kind at v (access_of actor Stores (store_range kind at)) refl
        | false ↦ tt
      ]

  execute-step : (i : Instr) → IsStep actor r (execute actor byte r i)
  execute-step (Lui rd imm) = result_in-step rd imm
  execute-step (Auipc rd imm) = result_in-step rd _
  execute-step (Jal rd offset) = jump_to-step rd _
  execute-step (Jalr rd rs1 offset) = jump_to-step rd _
  execute-step (Branch test rs1 rs2 offset) = branch_if-step (passes test (register_at r rs1) (register_at r rs2)) _
  execute-step (Load kind rd rs1 offset) = load_from-step kind rd _
  execute-step (Store kind rs2 rs1 offset) = store_to-step kind _ _
  execute-step (OpImm op rd rs1 imm) = result_in-step rd _
  execute-step (Op op rd rs1 rs2) = result_in-step rd _
  execute-step (Fence rd rs1 bits) = refl
  execute-step Ecall = tt
  execute-step Ebreak = tt

  word-step : (w : ℕ) (i : Option Instr) → IsStep actor r (execute_word actor byte r w i)
  word-step w (Some i) = execute-step i
  word-step w None = tt

  fetched-step : (w : Option ℕ) → IsStep actor r (execute_fetched actor byte r w)
  fetched-step (Some w) = word-step w (instr_of w)
  fetched-step None = tt

  -- each step of a core is such a step
  pub core_step-step : (word : ℕ → Option ℕ) → IsStep actor r (core_step actor byte word r)
  unfolding core_step
  core_step-step word = by (r.pc == END_PC) refl
    where
      by : (b : Bool) → (r.pc == END_PC) ≡ b
          → IsStep actor r (cond (r.pc == END_PC) Ended (execute_fetched actor byte r (word r.pc)))
      by true e = subst (IsStep actor r) (sym (cond-true _ _ _ e)) e
      by false e = subst (IsStep actor r) (sym (cond-false _ _ _ e)) (fetched-step (word r.pc))
