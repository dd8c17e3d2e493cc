-- The gateway has what is still to be decoded or acknowledged, and decodes keep the order of tasks.
use Rattle.std.proofs.Common.{◌≡◌, ◌≢◌, ℕ, suc, ◌+◌, ◌<◌, ◌≤◌, ◌⊎◌, inl, inr, true, List, [], ◌∷◌, length, Option, Some}
use Rattle.std.proofs.Common.{None, refl, sym, ap, ◌∙◌, subst, arith, true≢false}
use Rattle.std.specs.Prelude.{slice_get}
use Rattle.std.specs.FinMap.{get, insert, remove, empty, get-empty, len-empty}
use Rattle.std.proofs.lemmas.Bool.Decides.{nat_tests}
use Rattle.std.proofs.lemmas.Bool.{cases_order}
use Rattle.std.proofs.lemmas.Option.{none-some, same_Some}
use Rattle.tss_base.specs.declared.operand.OpName.{OpName}
use Rattle.tss_base.specs.declared.operand.Operand.{Operand}
use Rattle.tss_base.specs.declared.operand.Task.{Task}
use Rattle.tss_base.specs.declared.machine.Machine.{Machine}
use Rattle.tss_base.specs.declared.machine.Sizes.{Sizes}
use Rattle.tss_base.specs.Names.{Named, name_cmp}
use Rattle.tss_base.specs.Image.{ImageState}
use Rattle.tss_maps.proofs.Keys.{name_order, decide_key}
use Rattle.tss_maps.proofs.Changes.{at_inserted, beside_inserted, from_inserted, at_removed, beside_removed}
use Rattle.tss_maps.proofs.Changes.{from_removed}
use Rattle.tss_model.specs.Access.{operands_of}
use Rattle.tss_protocol.specs.Names.{bank_of, operand_name}
use Rattle.tss_protocol.specs.Gateway.{held_tasks, has_window}
use Rattle.tss_protocol.specs.Renaming.{HasTurn}
use Rattle.tss_protocol.specs.State.{State, initial_state}
use Rattle.tss_protocol.specs.Needs.{is_in_inbox}
use Rattle.tss_names.specs.Tasks.{task_at, taken_by, last_taken, HasTaskNumbers, IsOperandOf, IsOfTaken, IsInGateway}
use Rattle.tss_names.specs.Tasks.{AreGatewayTasks, HasGateway, GatewayLaw, DecodesInOrder, DecodeOrderLaw}
use Rattle.tss_protocol.proofs.FrontLemmas.{Front, front_of}
use Rattle.tss_protocol.proofs.HeldTasks.{pairs_rise, all_among, any_among, held_numbers, length-held_numbers}
use Rattle.tss_protocol.proofs.HeldTasks.{held_numbers_rise, held_operand, operand_held, few_held}
use Rattle.tss_protocol.proofs.WindowLemmas.{none_held_idle}
use Rattle.tss_protocol.proofs.TurnLemmas.{none_before_turn}
use Rattle.tss_names.proofs.TakeLemmas.{spread, outside_spread, at_spread, from_spread}
use Rattle.tss_names.proofs.RunLemmas.{IsKept, kept_by_front, law_from}
use Rattle.tss_names.proofs.NumberLemmas.{from_task_at, number_within, still_at, taken_newest, last_taken_before}
use Rattle.tss_names.proofs.NumberLemmas.{numbers_spawned, numbers_take, numbers_decode, numbers_ack, numbers_kept}
use Rattle.tss_names.proofs.NumberLemmas.{HasTaskNumbers-initial_state}

-- the gateway has operands of a window of tasks that were taken, each with its decode or else its ack under way. Where
-- one is to be decoded, so are those of later tasks that were taken, on objects of its bank
pub record Acknowledges (sizes : Sizes) (ts : List Task) (f : Front) : Type 0 where
  pub few : length (held_tasks f.gateway) ≤ sizes.window
  pub last : (o : OpName) → get f.gateway o ≡ Some tt → o.task ≤ taken_by f.inbox f.spawned
  pub each : (o : OpName) → get f.gateway o ≡ Some tt → (x : Operand) × IsOperandOf ts o x
  pub held : (o : OpName) → get f.gateway o ≡ Some tt
      → ((x : Operand) × (get f.decodes o ≡ Some x)) ⊎ (get f.acks o ≡ Some tt)
  pub decodes : (o : OpName) (x : Operand) → get f.decodes o ≡ Some x
      → (get f.gateway o ≡ Some tt) × (get f.acks o ≡ None) × IsOperandOf ts o x
  pub acks : (o : OpName) → get f.acks o ≡ Some tt → (get f.gateway o ≡ Some tt) × (get f.decodes o ≡ None)
  pub order : (o p : OpName) (x y : Operand) → get f.decodes o ≡ Some x → IsOperandOf ts p y
      → p.task ≤ taken_by f.inbox f.spawned → o.task < p.task → bank_of sizes x.object ≡ bank_of sizes y.object
      → get f.decodes p ≡ Some y

-- with the tasks' numbers
abbrev pub IsFrontSound : Machine → List Task → State → Type 0
IsFrontSound m ts S = HasTaskNumbers m ts S × Acknowledges m.sizes ts (front_of S)

-- ---- a spawn

-- an operand is still one with one more task
pub operand_still : (u : Task) (ts : List Task) (o : OpName) (x : Operand) → IsOperandOf ts o x
    → IsOperandOf (u ∷ ts) o x
operand_still u ts o x h =
    record { task = h.task; spawned = still_at u ts o.task h.task h.spawned; place = h.place }

-- and was one before, where it isn't of that task
operand_before : (u : Task) (ts : List Task) (o : OpName) (x : Operand) → o.task ≤ length ts → IsOperandOf (u ∷ ts) o x
    → IsOperandOf ts o x
operand_before u ts o x old h = elim (from_task_at u ts o.task h.task h.spawned) [
  | inl new ↦ let is = new.0 in absurd (omega (arith, old, is))
  | inr before ↦ record { task = h.task; spawned = before; place = h.place }
]

acknowledges_spawned : (sizes : Sizes) (ts : List Task) (f : Front) (t : Task) → Acknowledges sizes ts f
    → f.inbox ≡ None → f.spawned ≡ length ts
    → Acknowledges sizes (t ∷ ts) (record f { spawned = suc f.spawned; inbox = Some t })
acknowledges_spawned sizes ts f t h empty count =
    let same = ap (λ i. taken_by i f.spawned) empty in
    record {
      few = h.few;
      last = λ o e. let a = h.last o e in omega (arith, a, same);
      each = λ o e. let x = h.each o e in (x.0, operand_still t ts o x.0 x.1);
      held = h.held;
      decodes = λ o x e. let d = h.decodes o x e in (d.0, d.1, operand_still t ts o x d.2);
      acks = h.acks;
      order = λ o p x y e of_p taken later bank.
          let old = operand_before t ts p y (omega (arith, taken, count)) of_p in
          h.order o p x y e old (omega (arith, taken, same)) later bank;
    }

-- ---- take

module _ (sizes : Sizes) (ts : List Task) (f : Front) (t : Task) (h : Acknowledges sizes ts f)
    (room : has_window sizes f.gateway ≡ true) (newest : t.number ≡ f.spawned) (spawned : task_at ts t.number ≡ Some t)
    (before : taken_by f.inbox f.spawned + 1 ≡ f.spawned) where
  -- what was to be acknowledged isn't of the task
  other_task : (o : OpName) → get f.gateway o ≡ Some tt → o.task ≢ t.number
  other_task o e same = let last = h.last o e in omega (arith, last, same, newest, before)

  abbrev gateway_now : Named (Unit {0})
  gateway_now = spread (λ o. tt) f.gateway t.number 0 (operands_of t)

  abbrev decodes_now : Named Operand
  decodes_now = spread (λ o. o) f.decodes t.number 0 (operands_of t)

  -- an operand of the task
  abbrev IsOfTask : OpName → Operand → Type 0
  IsOfTask o x = (i : ℕ) × (o ≡ operand_name t.number (0 + i)) × (slice_get (operands_of t) i ≡ Some x)

  task_of : (o : OpName) (x : Operand) → IsOfTask o x → o.task ≡ t.number
  task_of o x r = ap (λ (n : OpName). n.task) r.1

  from_gateway : (o : OpName) → get gateway_now o ≡ Some tt
      → ((x : Operand) × IsOfTask o x) ⊎ (get f.gateway o ≡ Some tt)
  from_gateway o e = elim (from_spread (λ o. tt) f.gateway t.number 0 (operands_of t) o tt e) [
    | inl r ↦ inl (r.1, (r.0, r.2, r.3))
    | inr old ↦ inr old
  ]

  from_decodes : (o : OpName) (x : Operand) → get decodes_now o ≡ Some x → IsOfTask o x ⊎ (get f.decodes o ≡ Some x)
  from_decodes o x e = elim (from_spread (λ o. o) f.decodes t.number 0 (operands_of t) o x e) [
    | inl r ↦ inl (r.0, r.2, r.3 ∙ ap Some (sym r.4))
    | inr old ↦ inr old
  ]

  in_gateway : (o : OpName) (x : Operand) → IsOfTask o x → get gateway_now o ≡ Some tt
  in_gateway o x r =
      ap (get gateway_now) r.1 ∙ at_spread (λ o. tt) f.gateway t.number 0 (operands_of t) r.0 x r.2

  in_decodes : (o : OpName) (x : Operand) → IsOfTask o x → get decodes_now o ≡ Some x
  in_decodes o x r = ap (get decodes_now) r.1 ∙ at_spread (λ o. o) f.decodes t.number 0 (operands_of t) r.0 x r.2

  -- what was there still is
  still_held : (o : OpName) → get f.gateway o ≡ Some tt → get gateway_now o ≡ Some tt
  still_held o e =
      outside_spread (λ o. tt) f.gateway t.number 0 (operands_of t) o (other_task o e) ∙ e

  still_decoding : (o : OpName) (x : Option Operand) → get f.gateway o ≡ Some tt → get f.decodes o ≡ x
      → get decodes_now o ≡ x
  still_decoding o x there e =
      outside_spread (λ o. o) f.decodes t.number 0 (operands_of t) o (other_task o there) ∙ e

  -- none of the task's operands was acknowledged before
  none_acked : (o : OpName) (x : Operand) → IsOfTask o x → (a : Option (Unit {0})) → get f.acks o ≡ a
      → get f.acks o ≡ None
  none_acked o x r None e = e
  none_acked o x r (Some u) e = absurd (other_task o (h.acks o e).0 (task_of o x r))

  operand_of_task : (o : OpName) (x : Operand) → IsOfTask o x → IsOperandOf ts o x
  operand_of_task o x r =
      let place : 0 + r.0 ≡ r.0 = omega arith in
      record {
        task = t;
        spawned = ap (λ (n : OpName). task_at ts n.task) r.1 ∙ spawned;
        place = ap (λ (n : OpName). slice_get (operands_of t) n.place) r.1 ∙ ap (slice_get (operands_of t)) place ∙ r.2;
      }

  -- and the other way round
  of_task : (o : OpName) (x : Operand) → IsOperandOf ts o x → o.task ≡ t.number → IsOfTask o x
  of_task o x h same =
      let is = same_Some h.task t (sym h.spawned ∙ ap (task_at ts) same ∙ spawned) in
      let place : o.place ≡ 0 + o.place = omega arith in (
        o.place,
        (λ i. operand_name (same i) (place i)),
        ap (λ t. slice_get (operands_of t) o.place) (sym is) ∙ h.place,
      )

  few_now : length (held_tasks gateway_now) ≤ sizes.window
  few_now =
      let few = few_held gateway_now (t.number ∷ held_numbers f.gateway) (λ o e. elim (from_gateway o e) [
        | inl own ↦ inl (sym (task_of o own.0 own.1))
        | inr old ↦ inr (operand_held f.gateway o old)
      ]) in
      let many = length-held_numbers f.gateway in
      let less : length (held_tasks f.gateway) < sizes.window = grind (arith, nat_tests, room) in
      omega (arith, few, many, less)

  order_now : (o p : OpName) (x y : Operand) → get decodes_now o ≡ Some x → IsOperandOf ts p y
      → p.task ≤ f.spawned → o.task < p.task → bank_of sizes x.object ≡ bank_of sizes y.object
      → get decodes_now p ≡ Some y
  order_now o p x y e of_p taken later bank = elim (from_decodes o x e) [
    | inl own ↦ let same = task_of o x own in absurd (omega (arith, same, newest, taken, later))
    | inr old ↦ elim (cases_order p.task f.spawned) [
      | inl last ↦ in_decodes p y (of_task p y of_p (last ∙ sym newest))
      | inr (inl less) ↦
          let there = h.order o p x y old of_p (omega (arith, less, before)) later bank in
          still_decoding p (Some y) (h.decodes p y there).0 there
      | inr (inr more) ↦ absurd (omega (arith, taken, more))
    ]
  ]

  acknowledges_taken : Acknowledges sizes ts (record f { inbox = None; gateway = gateway_now; decodes = decodes_now })
  acknowledges_taken = record {
    few = few_now;
    last = λ o e. elim (from_gateway o e) [
      | inl own ↦ let same = task_of o own.0 own.1 in omega (arith, same, newest)
      | inr old ↦ let last = h.last o old in omega (arith, last, before)
    ];
    each = λ o e. elim (from_gateway o e) [
      | inl own ↦ (own.0, operand_of_task o own.0 own.1)
      | inr old ↦ h.each o old
    ];
    held = λ o e. elim (from_gateway o e) [
      | inl own ↦ inl (own.0, in_decodes o own.0 own.1)
      | inr old ↦ elim (h.held o old) [
        | inl d ↦ inl (d.0, still_decoding o (Some d.0) old d.1)
        | inr a ↦ inr a
      ]
    ];
    decodes = λ o x e. elim (from_decodes o x e) [
      | inl own ↦ (in_gateway o x own, none_acked o x own (get f.acks o) refl, operand_of_task o x own)
      | inr old ↦ let d = h.decodes o x old in (still_held o d.0, d.1, d.2)
    ];
    acks = λ o e. let a = h.acks o e in (still_held o a.0, still_decoding o None a.0 a.1);
    order = order_now;
  }

-- ---- decode, ack

module _ (sizes : Sizes) (ts : List Task) (f : Front) (o : OpName) (h : Acknowledges sizes ts f) where
  -- an operand that is still to be decoded isn't the one that is, since that had its turn
  not_decoded : (x : Operand) → get f.decodes o ≡ Some x
      → HasTurn sizes f.decodes o x → (q p : OpName) (y z : Operand)
      → get f.decodes q ≡ Some y → get f.decodes p ≡ Some z → q.task < p.task
      → bank_of sizes y.object ≡ bank_of sizes z.object → p ≢ o
  not_decoded x there turn q p y z first second later bank same =
      let is = same_Some z x (sym second ∙ ap (get f.decodes) same ∙ there) in
      let task = ap (λ (o : OpName). o.task) same in
      none_before_turn sizes (bank_of sizes x.object) f.decodes o turn q y first (omega (arith, later, task))
      (bank ∙ ap (λ (z : Operand). bank_of sizes z.object) is)

  acknowledges_decoded : (x : Operand) → get f.decodes o ≡ Some x
      → HasTurn sizes f.decodes o x
      → Acknowledges sizes ts (record f { decodes = remove f.decodes o; acks = insert f.acks o tt })
  acknowledges_decoded x there turn = record {
    few = h.few;
    last = h.last;
    each = h.each;
    held = λ q e. elim (decide_key name_order q o) [
      | inl same ↦ inr (ap (get (insert f.acks o tt)) same ∙ at_inserted name_order f.acks o tt)
      | inr other ↦ elim (h.held q e) [
        | inl d ↦ inl (d.0, beside_removed name_order f.decodes o q other ∙ d.1)
        | inr a ↦ inr (beside_inserted name_order f.acks o tt q other ∙ a)
      ]
    ];
    decodes = λ q y e.
        let before = from_removed name_order f.decodes o q y e in
        let d = h.decodes q y before.1 in
        (d.0, beside_inserted name_order f.acks o tt q before.0 ∙ d.1, d.2);
    acks = λ q e. elim (from_inserted name_order f.acks o tt q tt e) [
      | inl same ↦ (
        ap (get f.gateway) same.0 ∙ (h.decodes o x there).0,
        ap (get (remove f.decodes o)) same.0 ∙ at_removed name_order f.decodes o,
      )
      | inr before ↦
          let a = h.acks q before.1 in
          (a.0, beside_removed name_order f.decodes o q before.0 ∙ a.1)
    ];
    order = λ q p y z e of_p taken later bank.
        let first = (from_removed name_order f.decodes o q y e).1 in
        let second = h.order q p y z first of_p taken later bank in
        beside_removed name_order f.decodes o p (not_decoded x there turn q p y z first second later bank) ∙ second;
  }

  acknowledges_acked : get f.acks o ≡ Some tt
      → Acknowledges sizes ts (record f { gateway = remove f.gateway o; acks = remove f.acks o })
  acknowledges_acked there = record {
    few =
        let fewer = few_held (remove f.gateway o) (held_numbers f.gateway)
        (λ q e. operand_held f.gateway q (from_removed name_order f.gateway o q tt e).1) in
        let many = length-held_numbers f.gateway in
        let few = h.few in
        omega (arith, fewer, many, few);
    last = λ q e. h.last q (from_removed name_order f.gateway o q tt e).1;
    each = λ q e. h.each q (from_removed name_order f.gateway o q tt e).1;
    held = λ q e.
        let before = from_removed name_order f.gateway o q tt e in
        elim (h.held q before.1) [
          | inl d ↦ inl d
          | inr a ↦ inr (beside_removed name_order f.acks o q before.0 ∙ a)
        ];
    decodes = λ q y e.
        let d = h.decodes q y e in
        let other : q ≢ o = λ same. none-some tt (sym d.1 ∙ ap (get f.acks) same ∙ there) in (
          beside_removed name_order f.gateway o q other ∙ d.0,
          beside_removed name_order f.acks o q other ∙ d.1,
          d.2,
        );
    acks = λ q e.
        let before = from_removed name_order f.acks o q tt e in
        let a = h.acks q before.1 in
        (beside_removed name_order f.gateway o q before.0 ∙ a.0, a.1);
    order = h.order;
  }

-- ---- all events

-- every event keeps it
pub IsFrontSound-after_event : IsKept IsFrontSound
IsFrontSound-after_event =
    kept_by_front IsFrontSound IsFrontSound
    (λ m ts us S T h p. (
      numbers_spawned m ts us S T h.0 p,
      subst (Acknowledges m.sizes (p.task ∷ ts)) (sym p.front)
          (acknowledges_spawned m.sizes ts (front_of S) p.task h.1 p.empty h.0.spawned),
    ))
    (λ m ts S T h p. (
      numbers_take m ts S T h.0 p,
      subst (Acknowledges m.sizes ts) (sym p.front)
          (let newest = taken_newest m ts S T h.0 p in
          acknowledges_taken m.sizes ts (front_of S) p.task h.1 p.window newest.number newest.task
          (last_taken_before m ts S T h.0 p)),
    ))
    (λ m ts S T o h d. (
      numbers_decode m ts S T o h.0 d,
      subst (Acknowledges m.sizes ts) (sym d.front)
          (acknowledges_decoded m.sizes ts (front_of S) o h.1 d.operand d.there d.turn),
    ))
    (λ m ts S T o h a. (
      numbers_ack m ts S T o h.0 a,
      subst (Acknowledges m.sizes ts) (sym a.front) (acknowledges_acked m.sizes ts (front_of S) o h.1 a.there),
    ))
    (λ m ts S T h k. (numbers_kept m ts S T h.0 k, subst (Acknowledges m.sizes ts) (sym k.front) h.1))

-- the first state has it
pub IsFrontSound-initial_state : (m : Machine) (i : ImageState) → IsFrontSound m [] (initial_state i)
IsFrontSound-initial_state m i = (
  HasTaskNumbers-initial_state m i,
  record {
    few =
        let none = ap length (none_held_idle (empty {R = name_cmp}) (len-empty name_cmp (Unit {0}))) in
        omega (arith, none);
    last = λ o e. absurd (none-some tt (sym (get-empty name_cmp o) ∙ e));
    each = λ o e. absurd (none-some tt (sym (get-empty name_cmp o) ∙ e));
    held = λ o e. absurd (none-some tt (sym (get-empty name_cmp o) ∙ e));
    decodes = λ o x e. absurd (none-some x (sym (get-empty name_cmp o) ∙ e));
    acks = λ o e. absurd (none-some tt (sym (get-empty name_cmp o) ∙ e));
    order = λ o p x y e of_p taken later bank. absurd (none-some x (sym (get-empty name_cmp o) ∙ e));
  },
)

-- ---- the laws

module _ (m : Machine) (ts : List Task) (S : State) (h : IsFrontSound m ts S) where
  -- an operand of the gateway is one of a task that was taken
  pub of_taken : (o : OpName) → get S.gateway o ≡ Some tt → IsOfTaken ts S o
  of_taken o e =
      let x = h.1.each o e in
      let last = h.1.last o e in
      (((number_within ts o.task x.1.task x.1.spawned).0, omega (arith, last)), x.0, x.1)

  -- the tasks of the gateway
  gateway_tasks : (ns : List ℕ) × AreGatewayTasks m.sizes.window S ns
  gateway_tasks = (
    held_numbers S.gateway,
    record {
      few = let few = h.1.few in let many = length-held_numbers S.gateway in omega (arith, few, many);
      rising = pairs_rise (held_numbers S.gateway) (held_numbers_rise S.gateway);
      each = all_among (IsInGateway S) (held_numbers S.gateway) (held_operand S.gateway);
      all = λ o e. any_among o.task (held_numbers S.gateway) (operand_held S.gateway o e);
    },
  )

  -- as the law says it
  pub has_gateway : HasGateway m ts S
  has_gateway = record {
    tasks = gateway_tasks;
    each = of_taken;
    held = h.1.held;
    decodes = h.1.decodes;
    acks = h.1.acks;
  }

  -- a spawned task was taken, or is in the inbox
  taken_or_waits : (n : ℕ) (t : Task) → task_at ts n ≡ Some t → (n ≤ last_taken S) ⊎ (is_in_inbox S.inbox n ≡ true)
  taken_or_waits n t spawned = by S.inbox refl
    where
      by : (i : Option Task) → S.inbox ≡ i → (n ≤ taken_by i S.main.spawned) ⊎ (is_in_inbox i n ≡ true)
      by None e =
          let most = (number_within ts n t spawned).1 in
          let count = h.0.spawned in
          inl (omega (arith, most, count))
      by (Some u) e =
          let most = (number_within ts n t spawned).1 in
          let count = h.0.spawned in
          let newest = (h.0.inbox u e).number in
          elim (cases_order n S.main.spawned) [
            | inl last ↦ inr (grind (arith, nat_tests, last, newest))
            | inr (inl less) ↦ inl (omega (arith, less))
            | inr (inr more) ↦ absurd (omega (arith, more, most, count))
          ]

  -- no task comes after the one in the inbox
  none_later : (o p : OpName) (t : Task) → is_in_inbox S.inbox o.task ≡ true → task_at ts p.task ≡ Some t
      → o.task < p.task → ⊥
  none_later o p t waits spawned later = by S.inbox refl waits
    where
      by : (i : Option Task) → S.inbox ≡ i → is_in_inbox i o.task ≡ true → ⊥
      by None e w = true≢false (sym w)
      by (Some u) e w =
          let same : u.number ≡ o.task = grind (arith, nat_tests) in
          let newest = (h.0.inbox u e).number in
          let most = (number_within ts p.task t spawned).1 in
          let count = h.0.spawned in
          omega (arith, same, newest, most, count, later)

  -- decodes come in order
  pub decodes_in_order : DecodesInOrder m ts S
  decodes_in_order o p x y first second (inl waits) later bank =
      absurd (none_later o p second.task waits second.spawned later)
  decodes_in_order o p x y first second (inr sent) later bank =
      elim (taken_or_waits p.task second.task second.spawned) [
        | inl taken ↦ inr (h.1.order o p x y sent second taken later bank)
        | inr waits ↦ inl waits
      ]

-- the law of the gateway
pub gateway_of_runs : GatewayLaw
gateway_of_runs = law_from IsFrontSound HasGateway IsFrontSound-initial_state IsFrontSound-after_event has_gateway

-- the law of the order
pub decode_order_of_runs : DecodeOrderLaw
decode_order_of_runs =
    law_from IsFrontSound DecodesInOrder IsFrontSound-initial_state IsFrontSound-after_event decodes_in_order
