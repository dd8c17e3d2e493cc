-- The task's names come after those of earlier tasks, one by one.
use Rattle.std.proofs.Common.{◌≡◌, suc, ◌+◌, ◌<◌, ◌++◌, [], ◌∷◌, length, sym, ap, subst, ◌∙◌, arith}
use Rattle.std.specs.FinMap.{get}
use Rattle.std.proofs.lemmas.List.{append_assoc, length-append, length-take}
use Rattle.std.proofs.lemmas.Option.{none-some}
use Rattle.tss_model.specs.Access.{operands_of}
use Rattle.tss_protocol.specs.Names.{operand_name}
use Rattle.tss_protocol.specs.Gateway.{runs_of, held_tasks, held_with, names_of}
use Rattle.tss_gateway.specs.Names.{names_in, names_upto, set_of, AreLow}
use Rattle.tss_gateway.proofs.RunLemmas.{names_within}
use Rattle.tss_gateway.proofs.SetLemmas.{IsRising, keys-set_of, set-names, rising-names, low-names, before_task, names_pushed, upto_next, names_from-upto, length-names_in, length-upto}
use Rattle.tss_gateway.proofs.gateway.Gateway.take.Goals as goal

pub invariant_of-self-in-loop-place : goal.invariant_of-self-in-loop-place
invariant_of-self-in-loop-place c =
    let ts = names_in c.self.inside.held.items in
    let t = c.in-Some.task in
    let few = c.self.invariant.few t (sym c.take.ensures.value ∙ c.in-Some.is) in
    let len = length-take t.count t.operands in
    let e = c.loop-place.auto.place-end in
    let w = c.loop-place.invariant.window in
    let narrow = c.self.invariant.narrow in
    record {
      narrow = omega (arith, w, narrow);
      few = λ u is. absurd (none-some u (sym (c.loop-place.invariant.inbox ∙ c.take.ensures.after) ∙ is));
      rises = subst IsRising (sym c.loop-place.invariant.names) (rising-names c.loop-place.place 0 ts t.number c.self.invariant.rises (before_task (names_in c.self.inside.held.items) c.in-Some.task.number (λ o there. c.requires.later c.in-Some.task (ap (λ g. g.inbox) (sym c.self.view_is) ∙ sym c.take.ensures.value ∙ c.in-Some.is) o (ap (λ g. get g.gateway o) (sym c.self.view_is) ∙ there)) c.self.invariant.rises));
      low = subst AreLow (sym c.loop-place.invariant.names) (low-names c.loop-place.place 0 ts t.number c.self.invariant.low (omega (arith, e, few, len)));
    }

pub push-requires : goal.push-requires
push-requires c =
    let ts = names_in c.self.inside.held.items in
    let t = c.in-Some.task in
    let few = c.self.invariant.few t (sym c.take.ensures.value ∙ c.in-Some.is) in
    let len = length-take t.count t.operands in
    let h = c.loop-place-test.true in
    let cap = names_within ts c.self.invariant.rises c.self.invariant.low in
    let runs = ap (λ os. length (runs_of os)) (keys-set_of ts c.self.invariant.rises) in
    let held = c.tasks.ensures ∙ sym (ap (λ g. length (held_tasks g.gateway)) c.self.view_is) in
    let fewer = c.if-tasks-self.false in
    let narrow = c.self.invariant.narrow in
    let all = sym (length-names_in c.loop-place.self-inside.held.items) ∙ ap length c.loop-place.invariant.names ∙ length-append ts (names_upto t.number 0 c.loop-place.place) in
    let upto = length-upto t.number 0 c.loop-place.place in
    let small : length c.loop-place.self-inside.held.items < 56 = omega (arith, few, len, h, cap, runs, held, fewer, narrow, all, upto) in
    (omega arith, small)

pub loop-place-preserved : goal.loop-place-preserved
loop-place-preserved c =
    let ts = names_in c.self.inside.held.items in
    let number = c.in-Some.task.number in
    let next : 0 + c.loop-place.place ≡ c.loop-place.place = omega arith in
    let more : suc c.loop-place.place ≡ c.loop-place.place + 1 = omega arith in
    record {
      window = c.loop-place.invariant.window;
      inbox = c.loop-place.invariant.inbox;
      names =
          ap names_in c.push.ensures.items
          ∙ names_pushed c.loop-place.self-inside.held.items _
          ∙ ap (λ os. os ++ operand_name number c.loop-place.place ∷ []) c.loop-place.invariant.names
          ∙ append_assoc ts (names_upto number 0 c.loop-place.place) (operand_name number c.loop-place.place ∷ [])
          ∙ ap (λ os. ts ++ os) (sym (upto_next number 0 c.loop-place.place ∙ ap (λ k. names_upto number 0 c.loop-place.place ++ operand_name number k ∷ []) next))
          ∙ ap (λ k. ts ++ names_upto number 0 k) more;
    }

pub returns-clause-ok : goal.returns-clause-ok
returns-clause-ok c =
    let ts = names_in c.self.inside.held.items in
    let t = c.in-Some.task in
    let f = c.loop-place-test.false in
    let e = c.loop-place.auto.place-end in
    let end : c.loop-place.place ≡ length (operands_of t) = omega (arith, f, e) in
    let set =
    ap set_of c.loop-place.invariant.names
    ∙ set-names c.loop-place.place 0 ts t.number (before_task (names_in c.self.inside.held.items) c.in-Some.task.number (λ o there. c.requires.later c.in-Some.task (ap (λ g. g.inbox) (sym c.self.view_is) ∙ sym c.take.ensures.value ∙ c.in-Some.is) o (ap (λ g. get g.gateway o) (sym c.self.view_is) ∙ there)) c.self.invariant.rises)
    ∙ ap (λ k. held_with (set_of ts) (names_upto t.number 0 k)) end
    ∙ ap (held_with (set_of ts)) (sym (names_from-upto t.number 0 (operands_of t)))
    ∙ ap (λ g. held_with g.gateway (names_of t)) c.self.view_is
    in
    λ i. record {
      window = (c.loop-place.invariant.window ∙ ap (λ g. g.window) c.self.view_is) i;
      inbox = (c.loop-place.invariant.inbox ∙ c.take.ensures.after) i;
      gateway = set i;
    }
