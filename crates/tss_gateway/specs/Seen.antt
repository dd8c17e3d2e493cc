-- What contracts see of the gateway, and what its parts keep.
use Rattle.std.specs.Prelude.{◌≡◌, ℕ, ◌≤◌, T, List, Option, Some, option_map}
use Rattle.std.specs.Coded.{Coded, code_by, coded×, coded_ℕ, coded_option}
use Rattle.std.specs.FinMap.Entries.{is_sorted}
use Rattle.std.proofs.Common.{refl}
use Rattle.tss_base.specs.declared.operand.OpName.{OpName}
use Rattle.tss_base.specs.declared.operand.Task.{Task}
use Rattle.tss_base.specs.Names.{Named, name_cmp}
use Rattle.tss_protocol.specs.Codes.{task_code, nothing_code, named}
use Rattle.tss_protocol.specs.Gateway.{HeldTask}
use Rattle.tss_gateway.specs.Names.{pairs_of, AreLow}

-- how many tasks it may hold, the task in the inbox, and the operands still to be acknowledged
pub record GatewayState : Type 0 where
  pub window : ℕ
  pub inbox : Option Task
  pub gateway : Named (Unit {0})

abbrev pub gateway_code : Coded GatewayState
gateway_code =
    code_by (ℕ × (Option Task × Named (Unit {0}))) (coded× coded_ℕ (coded× (coded_option task_code) (named nothing_code)))
    (λ g. (g.window, (g.inbox, g.gateway))) (λ p. record { window = p.0; inbox = p.1.0; gateway = p.1.1 }) (λ _. refl)

-- the names rise, their places are those of operands, and so few tasks are held that they have room
pub record IsGateway (window : ℕ) (inbox : Option Task) (os : List OpName) : Type 0 where
  pub narrow : window ≤ 8
  pub few : (t : Task) → inbox ≡ Some t → t.count ≤ 7
  pub rises : T (is_sorted name_cmp (pairs_of os))
  pub low : AreLow os

-- a task held and the number of its operands, as the code answers them
abbrev pub told : HeldTask → ℕ × ℕ
told h = (h.task, h.operands)

abbrev pub told_at : Option HeldTask → Option (ℕ × ℕ)
told_at h = option_map told h
