-- What the definitions know of busy workers and of tasks in flight, by what the units keep of them.
use Rattle.std.proofs.Common.{◌≡◌, ℕ, Option, Some, None, option_map, refl, sym, ap, ◌∙◌, subst, Bor}
use Rattle.std.specs.Prelude.{IsSome, option_and_then, slice_get}
use Rattle.std.specs.List.{find}
use Rattle.std.specs.Ordering.{is_lt}
use Rattle.std.specs.FinMap.{FinMap, get}
use Rattle.std.specs.declared.cmp.Ordering.{Ordering}
use Rattle.tss_base.specs.declared.operand.Task.{Task}
use Rattle.tss_base.specs.declared.marks.Stage.{Stage}
use Rattle.tss_base.specs.Names.{Numbered}
use Rattle.tss_maps.specs.Mapped.{mapped}
use Rattle.tss_maps.specs.Ordered.{key_at, least_above}
use Rattle.tss_maps.proofs.Keys.{nat_order}
use Rattle.tss_maps.proofs.OrderedLemmas.{key_there}
use Rattle.tss_maps.proofs.MappedLemmas.{get-mapped, keys-mapped}
use Rattle.tss_protocol.specs.State.{Flying, Busy}
use Rattle.tss_names.proofs.NumberLemmas.{numbers_of_runs}
use Rattle.tss_stations.specs.Reading.{shown, found_in}
use Rattle.tss_stations.proofs.StateLemmas.{lent_shown}
use Rattle.tss_workers.specs.Seen.{busy_of, workers_of}
use Rattle.tss_workers.specs.declared.running.Worker.{Worker}
use Rattle.tss_pipeline.specs.Seen.{PipelineState, IsReached}

-- the key at a place is the same of a mapped map
pub key_at-mapped : {K X Y : Type 0} {R : K → K → Ordering} (f : X → Y) (m : FinMap R X) (i : ℕ)
    → key_at (mapped f m) i ≡ key_at m i
unfolding key_at
key_at-mapped f m i = ap (λ ks. slice_get ks i) (keys-mapped f m)

-- and so is the least above another
pub least_above-mapped : {K X Y : Type 0} {R : K → K → Ordering} (f : X → Y) (m : FinMap R X) (k : K)
    → least_above R (mapped f m) k ≡ least_above R m k
unfolding least_above
least_above-mapped {R = R} f m k = ap (find (λ q. is_lt (R k q))) (keys-mapped f m)

-- one map after another
twice : {X Y Z : Type 0} (f : X → Y) (g : Y → Z) (o : Option X)
    → option_map g (option_map f o) ≡ option_map (λ x. g (f x)) o
twice f g None = refl
twice f g (Some x) = refl

some_before : {X Y : Type 0} (f : X → Y) (o : Option X) → IsSome (option_map f o) → IsSome o
some_before f None h = h
some_before f (Some x) h = refl

module _ (workers : Numbered Worker) (p : PipelineState) (is : workers_of workers ≡ p.state.workers) (w : ℕ) where
  -- a part of a busy worker
  pub part_of_busy : {Y : Type 0} (g : Busy → Y)
      → option_map g (get p.state.workers w) ≡ option_map (λ x. g (busy_of x)) (get workers w)
  part_of_busy g =
      ap (λ m. option_map g (get m w)) (sym is)
      ∙ ap (option_map g) (get-mapped busy_of workers w)
      ∙ twice busy_of g (get workers w)

  -- a worker is busy
  pub some_busy : IsSome (get p.state.workers w) → IsSome (get workers w)
  some_busy some =
      some_before busy_of (get workers w)
      (subst IsSome (ap (λ m. get m w) (sym is) ∙ get-mapped busy_of workers w) some)

-- ---- tasks in flight

-- each stands under its number
pub number_reached : (p : PipelineState) → IsReached p.machine p.state → (n : ℕ) (x : Flying)
    → get p.state.flight n ≡ Some x → x.task.number ≡ n
number_reached p r n x at =
    let run = r.reached.reachable in
    ((numbers_of_runs p.machine r.image run.0 p.state r.reached.accepted r.reached.admissible run.1).flight n x at).number

module _ (flight : Numbered Flying) (numbers : (n : ℕ) (x : Flying) → get flight n ≡ Some x → x.task.number ≡ n)
    (i : ℕ) where
  number_by : (o : Option ℕ) → key_at flight i ≡ o
      → option_map (λ (t : Task × Stage). t.0.number) (option_and_then (found_in flight) o) ≡ o
  number_by None e = refl
  number_by (Some n) e =
      let t = key_there nat_order flight i n e in
      ap (λ o. option_map (λ (t : Task × Stage). t.0.number) (option_map shown o)) t.1 ∙ ap Some (numbers n t.0 t.1)

  -- and is shown with it
  pub number_told : (told : Option (Bor Task × Stage))
      → option_map lent_shown told ≡ option_and_then (found_in flight) (key_at flight i)
      → option_map (λ (t : Bor Task × Stage). t.0.now.number) told ≡ key_at flight i
  number_told told is =
      sym (twice lent_shown (λ (t : Task × Stage). t.0.number) told)
      ∙ ap (option_map (λ (t : Task × Stage). t.0.number)) is
      ∙ number_by (key_at flight i) refl
