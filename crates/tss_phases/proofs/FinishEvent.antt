-- What a finish does to phases: all operands of its task go from ready to releasing.
use Rattle.std.proofs.Common.{◌≡◌, ◌≢◌, ℕ, zero, suc, ◌+◌, ◌<◌, cond, List, [], ◌∷◌, ◌++◌, Option, Some, None, refl}
use Rattle.std.proofs.Common.{sym, ap, ◌∙◌, inl, inr, ◌⊎◌, arith}
use Rattle.std.specs.Prelude.{slice_get}
use Rattle.std.specs.FinMap.{get, remove}
use Rattle.std.proofs.lemmas.Option.{none-some, same_Some}
use Rattle.tss_base.specs.declared.operand.OpName.{OpName}
use Rattle.tss_base.specs.declared.machine.Machine.{Machine}
use Rattle.tss_base.specs.declared.event.Event.TheVariants as event
use Rattle.tss_base.specs.declared.marks.Stage.TheVariants as stage
use Rattle.tss_base.specs.Names.{Numbered}
use Rattle.tss_model.specs.Access.{writes}
use Rattle.tss_protocol.specs.Names.{operand_name, same_name}
use Rattle.tss_protocol.specs.Mail.{Source, ReleaseContents, Message, Release}
use Rattle.tss_protocol.specs.State.{State, OperandState, Flying, Busy, Outcome}
use Rattle.tss_protocol.specs.Stations.{operand_at, remaining_tasks, release_of, releases_from, finished_in}
use Rattle.tss_protocol.specs.Stations.{flight_after_finish}
use Rattle.tss_protocol.specs.Workers.{trap_after_finish}
use Rattle.tss_protocol.specs.UnitMachine.{after_event, after_finish}
use Rattle.tss_phases.specs.Phase.{Ready, Releasing, LookUps, look_ups, phase_at, phase_of}
use Rattle.tss_phases.proofs.Received.{own_name, received_all, received_other, look_ups-sent}
use Rattle.tss_phases.proofs.Shown.{ready_shows}
use Rattle.tss_phases.proofs.PhaseLemmas.{phase_releasing}
use Rattle.tss_phases.proofs.Records.{operand_in}
use Rattle.tss_phases.proofs.LeavingTasks.{remaining_beside, remaining_absent}

-- ---- the releases of a task's operands

-- an operand isn't one of a task's from a place on
abbrev pub IsBefore : OpName → ℕ → ℕ → Type 0
IsBefore q task place = (q.task ≢ task) ⊎ (q.place < place)

-- that is so from the next place on
pub before_next : (q : OpName) (task place : ℕ) → IsBefore q task place → IsBefore q task (suc place)
before_next q task place (inl other) = inl other
before_next q task place (inr less) = inr (omega (arith, less))

-- and then it isn't the operand at the place
pub apart_before : (q : OpName) (task place : ℕ) → IsBefore q task place → q ≢ operand_name task place
apart_before q task place (inl other) e = other (λ i. (e i).task)
apart_before q task place (inr less) e = absurd (irreflexive q.place place less (λ i. (e i).place))
  where
    irreflexive : (a b : ℕ) → a < b → a ≡ b → ⊥
    irreflexive a b less same = omega (arith, less, same)

further : (a b c : ℕ) → a ≡ b + suc c → a ≡ b → ⊥
further a b c e f = omega (arith, e, f)

-- nor is an operand at a place further on
pub apart_further : (task : ℕ) (q : OpName) (place j : ℕ) → q.place ≡ place + suc j → q ≢ operand_name task place
apart_further task q place j e f = further q.place place j e (λ i. (f i).place)

one_other : (task place : ℕ) (r : OperandState) (s : Option Source) (ms : List Message) (q : OpName) (l : LookUps)
    → q ≢ operand_name task place
    → received_all (release_of (operand_name task place) r s ++ ms) q l ≡ received_all ms q l
one_other task place r None ms q l apart = refl
one_other task place r (Some s) ms q l apart =
    let contents : ReleaseContents = record { version = s.version; producer = writes r.operand.mode } in
    ap (received_all ms q) (received_other (Release (operand_name task place) contents) q l apart)

-- of any other operand they say nothing
pub releases_other : (task place : ℕ) (rs : List OperandState) (q : OpName) (l : LookUps) → IsBefore q task place
    → received_all (releases_from task place rs) q l ≡ l
releases_other task place [] q l before = refl
releases_other task place (r ∷ rs) q l before =
    one_other task place r r.source (releases_from task (suc place) rs) q l (apart_before q task place before)
    ∙ releases_other task (suc place) rs q l (before_next q task place before)

-- an operand has its release after them
abbrev HasRelease : LookUps → LookUps → Type 0
HasRelease l k = (c : ReleaseContents) × (k ≡ record l { releasing = Some c })

own_release : (task place : ℕ) (r : OperandState) (s : Option Source) (source : Source) (rs : List OperandState)
    (q : OpName) (l : LookUps) → s ≡ Some source → q ≡ operand_name task place
    → HasRelease l (received_all (release_of (operand_name task place) r s ++ releases_from task (suc place) rs) q l)
own_release task place r None source rs q l told same = absurd (none-some source told)
own_release task place r (Some s) source rs q l told same =
    let c : ReleaseContents = record { version = s.version; producer = writes r.operand.mode } in
    let here : q.place ≡ place = ap (λ (p : OpName). p.place) same in
    let own = ap (λ p. same_name p (operand_name task place)) same ∙ own_name (operand_name task place) in (
      c,
      (λ i. received_all (releases_from task (suc place) rs) q (record l {
        releasing = cond (own i) (Some c) l.releasing;
      }))
          ∙ releases_other task (suc place) rs q (record l { releasing = Some c }) (inr (omega (arith, here))),
    )

-- an operand that was told something has its release
pub releases_own : (task place : ℕ) (rs : List OperandState) (j : ℕ) (r : OperandState) (source : Source) (q : OpName)
    (l : LookUps) → slice_get rs j ≡ Some r → r.source ≡ Some source → q.task ≡ task → q.place ≡ place + j
    → HasRelease l (received_all (releases_from task place rs) q l)
releases_own task place [] j r source q l at told same here = absurd (none-some r at)
releases_own task place (x ∷ rs) zero r source q l at told same here =
    own_release task place x x.source source rs q l (ap (λ (r : OperandState). r.source) (same_Some x r at) ∙ told)
    (λ i. record { task = same i; place = first here i })
  where
    first : q.place ≡ place + 0 → q.place ≡ place
    first e = omega (arith, e)
releases_own task place (x ∷ rs) (suc j) r source q l at told same here =
    let rest = releases_own task (suc place) rs j r source q l at told same (omega (arith, here)) in (
      rest.0,
      one_other task place x x.source (releases_from task (suc place) rs) q l (apart_further task q place j here)
          ∙ rest.1,
    )

-- past the operands there is none
pub releases_beyond : (task place : ℕ) (rs : List OperandState) (j : ℕ) (q : OpName) (l : LookUps)
    → slice_get rs j ≡ None → q.task ≡ task → q.place ≡ place + j
    → received_all (releases_from task place rs) q l ≡ l
releases_beyond task place [] j q l at same here = refl
releases_beyond task place (x ∷ rs) zero q l at same here = absurd (none-some x (sym at))
releases_beyond task place (x ∷ rs) (suc j) q l at same here =
    one_other task place x x.source (releases_from task (suc place) rs) q l (apart_further task q place j here)
    ∙ releases_beyond task (suc place) rs j q l at same (omega (arith, here))

-- ---- what a finish does to phases

module _ (m : Machine) (S : State) (w : ℕ) (b : Busy) (x : Flying) (busy : get S.workers w ≡ Some b)
    (flying : get S.flight b.task.number ≡ Some x) where
  -- the finished task
  abbrev pub finished_task : Flying
  finished_task = record x { stage = stage.Finished }

  -- the tasks in flight after a finish, and what it sends
  finished : flight_after_finish S.flight b.task.number ≡ record {
    part = remaining_tasks S.flight b.task.number finished_task;
    sent = releases_from b.task.number 0 x.operands;
  }
  finished = ap (finished_in S.flight b.task.number) flying

  -- what is looked up after a finish
  pub look_ups-finish : (q : OpName) → look_ups (after_event m S (event.Finish w)) q
      ≡ received_all (releases_from b.task.number 0 x.operands) q (record (look_ups S q) {
        station = operand_at (remaining_tasks S.flight b.task.number finished_task) q;
      })
  unfolding after_event
  look_ups-finish q =
      let d = flight_after_finish S.flight b.task.number in
      ap (λ y. look_ups (after_finish S w y) q) busy
      ∙ look_ups-sent (record S {
        workers = remove S.workers w;
        trap = trap_after_finish S.trap b.task.number b.trap;
        flight = d.part;
      }) d.sent q
      ∙ ap (λ (d : Outcome (Numbered Flying)).
      received_all d.sent q (record (look_ups S q) { station = operand_at d.part q })) finished

  -- the tasks in flight after it
  pub flight-finish : (after_event m S (event.Finish w)).flight
      ≡ remaining_tasks S.flight b.task.number finished_task
  unfolding after_event
  flight-finish =
      ap (λ y. (after_finish S w y).flight) busy ∙ ap (λ (d : Outcome (Numbered Flying)). d.part) finished

  -- an operand of the task that is ready is releasing after it
  pub phase_of-finish : (q : OpName) → q.task ≡ b.task.number → phase_of S q ≡ Ready
      → phase_of (after_event m S (event.Finish w)) q ≡ Releasing
  phase_of-finish q same ready =
      let k = operand_at (remaining_tasks S.flight b.task.number finished_task) q in
      let shown = ready_shows (look_ups S q) ready in
      let s = shown.0 in
      let h = shown.1.1 in
      let at = sym (operand_in S.flight q x (ap (get S.flight) same ∙ flying)) ∙ h.there in
      let l : LookUps = record (look_ups S q) { station = k } in
      let has = releases_own b.task.number 0 x.operands q.place h.kept shown.1.0 q l at h.told same (omega arith) in
      ap phase_at (look_ups-finish q)
      ∙ ap phase_at has.1
      ∙ phase_releasing (record l { releasing = Some has.0 }) has.0 s.decoding s.opening s.using s.telling refl

  -- nothing is changed of a name that no operand of the task has
  pub look_ups-finish-beyond : (q : OpName) → q.task ≡ b.task.number → slice_get x.operands q.place ≡ None
      → look_ups (after_event m S (event.Finish w)) q ≡ look_ups S q
  look_ups-finish-beyond q same none =
      let l : LookUps = record (look_ups S q) {
        station = operand_at (remaining_tasks S.flight b.task.number finished_task) q;
      } in
      let before = operand_in S.flight q x (ap (get S.flight) same ∙ flying) ∙ none in
      let station = remaining_absent S.flight b.task.number finished_task q same none ∙ sym before in
      look_ups-finish q
      ∙ releases_beyond b.task.number 0 x.operands q.place q l none same (omega arith)
      ∙ (λ i. record (look_ups S q) { station = station i })

  -- nothing is changed of an operand of another task
  pub look_ups-finish-other : (q : OpName) → q.task ≢ b.task.number
      → look_ups (after_event m S (event.Finish w)) q ≡ look_ups S q
  look_ups-finish-other q other =
      let l : LookUps = record (look_ups S q) {
        station = operand_at (remaining_tasks S.flight b.task.number finished_task) q;
      } in
      look_ups-finish q
      ∙ releases_other b.task.number 0 x.operands q l (inl other)
      ∙ (λ i. record (look_ups S q) { station = remaining_beside S.flight b.task.number finished_task q other i })

  -- nor its phase
  pub phase_of-finish-other : (q : OpName) → q.task ≢ b.task.number
      → phase_of (after_event m S (event.Finish w)) q ≡ phase_of S q
  phase_of-finish-other q other = ap phase_at (look_ups-finish-other q other)
