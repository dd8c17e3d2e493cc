-- What a contract sees of the ready queue: how many tasks there is room for, and the tasks in order.
use Rattle.std.specs.Prelude.{ℕ, List, refl}
use Rattle.std.specs.Coded.{Coded, code_by, coded×, coded_ℕ, coded_list}

pub record QueueState : Type 0 where
  pub size : ℕ
  pub tasks : List ℕ

abbrev pub queue_code : Coded QueueState
queue_code =
    code_by (ℕ × List ℕ) (coded× coded_ℕ (coded_list coded_ℕ)) (λ q. (q.size, q.tasks))
    (λ p. record { size = p.0; tasks = p.1 }) (λ _. refl)
