-- The messages under way and the ready queue stay within their sizes, where a state is controlled.
use Rattle.std.proofs.Common.{◌≡◌, ℕ, zero, suc, ◌+◌, ◌*◌, ◌<◌, ◌≤◌, Bool, true, List, [], ◌∷◌, length, Some, sym, ap}
use Rattle.std.proofs.Common.{◌∙◌, arith, true≢false}
use Rattle.std.specs.Prelude.{◌==◌, ◌&&◌, nat_lt, is_some}
use Rattle.std.specs.List.{list_any}
use Rattle.std.specs.FinMap.{get, remove, len}
use Rattle.std.proofs.lemmas.Bool.{or_left, or_right}
use Rattle.std.proofs.lemmas.Bool.Decides.{nat_tests}
use Rattle.std.proofs.lemmas.List.{length-map}
use Rattle.std.proofs.lemmas.Option.{slice_get_within}
use Rattle.tss_base.specs.declared.operand.OpName.{OpName}
use Rattle.tss_base.specs.declared.machine.Machine.{Machine}
use Rattle.tss_base.specs.declared.event.Event.{Event}
use Rattle.tss_base.specs.Names.{Numbered}
use Rattle.tss_base.specs.Image.{ImageState}
use Rattle.tss_maps.proofs.Keys.{nat_order}
use Rattle.tss_maps.proofs.Changes.{beside_removed}
use Rattle.tss_maps.proofs.Entries.{len_removed}
use Rattle.tss_maps.proofs.Sums.{one_if-le-one}
use Rattle.tss_protocol.specs.Names.{same_name}
use Rattle.tss_protocol.specs.Mail.{message_count}
use Rattle.tss_protocol.specs.State.{State, OperandState}
use Rattle.tss_protocol.specs.Stations.{operand_at}
use Rattle.tss_protocol.specs.Counts.{message_limit, all_slots}
use Rattle.tss_phases.specs.Phase.{look_ups}
use Rattle.tss_phases.proofs.OrderlyLemmas.{using_stands, telling_stands, releasing_stands, leaving_stands}
use Rattle.tss_phases.proofs.Records.{task_of_record}
use Rattle.tss_names.specs.MessageCounts.{BoundsMessages}
use Rattle.tss_control.specs.Runners.{AreApart}
use Rattle.tss_names.proofs.MessageLemmas.{more_times}
use Rattle.tss_names.proofs.NameCounts.{NameTest, IsMeasure, IsMeasure-map, IsMeasure-both, those_in, those_at}
use Rattle.tss_names.proofs.NameCounts.{those_all, in_tasks, few_in_tasks}
use Rattle.tss_control.proofs.rounds.Facts.{Facts}

-- ---- numbers

two_times : (n k : ℕ) → 2 * n * k ≡ n * k + n * k
two_times n zero = omega arith
two_times n (suc k) = let rest = two_times n k in omega (arith, rest)

-- numbers that stand once in a list, each with an entry, are no more than entries
few_listed : {X : Type 0} → (ns : List ℕ) (tasks : Numbered X) → AreApart ns
    → ((n : ℕ) → list_any (λ k. k == n) ns ≡ true → (x : X) × (get tasks n ≡ Some x)) → length ns ≤ len tasks
few_listed [] tasks once each = omega arith
few_listed {X} (n ∷ ns) tasks once each =
    let x = each n (or_left (n == n) (list_any (λ k. k == n) ns) (itself n)) in
    let rest = few_listed ns (remove tasks n) once.1 others in
    let one = len_removed nat_order tasks n x.0 x.1 in
    omega (arith, rest, one)
  where
    itself : (n : ℕ) → (n == n) ≡ true
    itself n = grind (arith, nat_tests)

    apart : (k : ℕ) → list_any (λ j. j == k) ns ≡ true → k ≡ n → ⊥
    apart k e same = true≢false (sym e ∙ ap (λ k. list_any (λ j. j == k) ns) same ∙ once.0)

    others : (k : ℕ) → list_any (λ j. j == k) ns ≡ true → (x : X) × (get (remove tasks n) k ≡ Some x)
    others k e =
        let y = each k (or_right (n == k) (list_any (λ j. j == k) ns) e) in
        (y.0, beside_removed nat_order tasks n k (apart k e) ∙ y.1)

module _ (m : Machine) (i : ImageState) (es : List Event) (S : State) (facts : Facts m S)
    (bounds : BoundsMessages m i es S) where
  open facts use {all, ground, control as h}

  -- ---- the operands of tasks in flight

  in_flight : (o : OpName) (r : OperandState) → operand_at S.flight o ≡ Some r
      → in_tasks S.flight m.limits.max_operands o ≡ true
  in_flight o r e =
      let x = task_of_record S.flight o r e in
      let is = ground.numbers.flight o.task x.0 x.1 in
      let inside = slice_get_within x.0.operands o.place r x.2 in
      let many = ap length (sym is.operands) ∙ length-map x.0.operands (λ r. r.operand) in
      let few = (ground.numbers.each o.task x.0.task is.task).operands in
      at_place (is_some (get S.flight o.task)) o.place m.limits.max_operands (ap is_some x.1)
      (omega (arith, inside, many, few))
    where
      at_place : (b : Bool) (p places : ℕ) → b ≡ true → p < places → (b && nat_lt p places) ≡ true
      at_place b p places there below = grind (arith, nat_tests, there, below)

  -- messages that tell a phase, but decodes and opens
  abbrev telling : NameTest → ℕ
  telling p =
      those_in S.mail.uses p + (those_in S.mail.readies p + (those_in S.mail.releases p + those_in S.mail.byes p))

  IsMeasure-telling : IsMeasure telling
  IsMeasure-telling =
      IsMeasure-both (those_in S.mail.uses) _ (IsMeasure-map S.mail.uses)
      (IsMeasure-both (those_in S.mail.readies) _ (IsMeasure-map S.mail.readies)
      (IsMeasure-both (those_in S.mail.releases) (those_in S.mail.byes) (IsMeasure-map S.mail.releases)
      (IsMeasure-map S.mail.byes)))

  one_telling : (k : OpName) → telling (λ o. same_name o k) ≤ 1
  one_telling k =
      let alone = (h.orderly k).alone in
      let b = those_at S.mail.uses k in
      let c = those_at S.mail.readies k in
      let d = those_at S.mail.releases k in
      let e = those_at S.mail.byes k in
      omega (arith, alone, b, c, d, e)

  few_telling : len S.mail.uses + (len S.mail.readies + (len S.mail.releases + len S.mail.byes))
      ≤ len S.flight * m.limits.max_operands
  few_telling =
      let p = in_tasks S.flight m.limits.max_operands in
      let few = few_in_tasks telling IsMeasure-telling one_telling m.limits.max_operands S.flight in
      let b = those_all S.mail.uses p
      (λ o x e. let r = (using_stands (look_ups S o) x (h.orderly o) e).1.0 in in_flight o r.kept r.there) in
      let c = those_all S.mail.readies p
      (λ o x e. let r = (telling_stands (look_ups S o) x (h.orderly o) e).1.0 in in_flight o r.kept r.there) in
      let d = those_all S.mail.releases p
      (λ o x e. let r = (releasing_stands (look_ups S o) x (h.orderly o) e).1.0.1 in in_flight o r.kept r.there) in
      let e = those_all S.mail.byes p
      (λ o x e. let r = (leaving_stands (look_ups S o) x (h.orderly o) e).1.0.1 in in_flight o r.kept r.there) in
      omega (arith, few, b, c, d, e)

  few_links : len S.mail.links ≤ len S.flight * m.limits.max_operands
  few_links =
      let few =
      few_in_tasks (those_in S.mail.links) (IsMeasure-map S.mail.links)
      (λ k.
      let a = those_at S.mail.links k in
      let one = one_if-le-one (is_some (get S.mail.links k)) in
      omega (arith, a, one))
      m.limits.max_operands S.flight in
      let all = those_all S.mail.links (in_tasks S.flight m.limits.max_operands)
      (λ o x e. let r = h.holders.records o x e in in_flight o r.0 r.1) in
      omega (arith, few, all)

  -- ---- all messages, and the ready queue

  -- there are no more messages than may be
  pub few_messages : message_count S.mail ≤ message_limit m
  few_messages =
      let flying = more_times (len S.flight) (all_slots m) m.limits.max_operands bounds.flight in
      let twice = two_times (all_slots m) m.limits.max_operands in
      let a = bounds.gateway in
      let b = few_telling in
      let c = few_links in
      let d = bounds.versions in
      omega (arith, flying, twice, a, b, c, d)

  -- and no more tasks in the queue than slots
  pub few_ready : length S.queue ≤ all_slots m
  few_ready =
      let q = few_listed S.queue S.flight h.holders.runners.once
      (λ n e. let x = h.holders.runners.queued n e in (x.0, x.1)) in
      let f = bounds.flight in
      omega (arith, q, f)
