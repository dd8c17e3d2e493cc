-- A run less before the one that is asked for, and the run at the start.
use Rattle.std.proofs.Common.{◌≡◌, suc, ◌+◌, ◌-◌, drop, Some, sym, ap, ◌∙◌, arith}
use Rattle.std.specs.Prelude.{slice_get}
use Rattle.tss_protocol.specs.Gateway.{runs_of, held_tasks}
use Rattle.tss_gateway.specs.declared.names.Held.{Held}
use Rattle.tss_gateway.specs.Names.{names_in}
use Rattle.tss_gateway.specs.Seen.{told_at}
use Rattle.tss_gateway.proofs.RunLemmas.{runs_at, no_runs}
use Rattle.tss_gateway.proofs.SetLemmas.{name_at, length-names_in, keys-set_of}
use Rattle.tss_gateway.proofs.gateway.Gateway.held_at.Goals as goal

pub returns-then-start-held : goal.returns-then-start-held
returns-then-start-held c =
    let xs = c.as_slice-held.result.now in
    let n = length-names_in xs in
    let h = c.if-start-held.true in
    ap told_at (sym (ap (λ rs. slice_get rs (c.args.i - c.loop.counter)) (no_runs (names_in xs) c.loop.start (omega (arith, n, h))))
    ∙ c.loop.invariant.left
    ∙ ap (λ ys. slice_get (runs_of (names_in ys)) c.args.i) c.as_slice-held.ensures.value
    ∙ sym (ap (λ os. slice_get (runs_of os) c.args.i) (keys-set_of (names_in c.self.inside.held.items) c.self.invariant.rises))
    ∙ ap (λ g. slice_get (held_tasks g.gateway) c.args.i) c.self.view_is)

pub loop-preserved : goal.loop-preserved
loop-preserved c =
    let xs = c.as_slice-held.result.now in
    let names = names_in xs in
    let n = length-names_in xs in
    let h = c.if-start-held.false in
    let more = c.loop-test.true in
    let run = runs_at names c.loop.start (record { task = 0; place = 0 }) (omega (arith, n, h)) in
    let next : suc (c.args.i - (c.loop.counter + 1)) ≡ c.args.i - c.loop.counter = omega (arith, more) in
    record {
      left =
          ap (λ k. slice_get (runs_of (drop (c.loop.start + k) names)) (c.args.i - (c.loop.counter + 1))) c.run_length-start.ensures.exact
          ∙ sym (ap (λ rs. slice_get rs (suc (c.args.i - (c.loop.counter + 1)))) run)
          ∙ ap (slice_get (runs_of (drop c.loop.start names))) next
          ∙ c.loop.invariant.left;
      start = c.run_length-start.ensures.within;
    }

pub returns-then-start-held-2 : goal.returns-then-start-held-2
returns-then-start-held-2 c =
    let xs = c.as_slice-held.result.now in
    let names = names_in xs in
    let n = length-names_in xs in
    let h = c.if-start-held-2.true in
    let d : Held = record { name = record { task = 0; place = 0 } } in
    let f = c.loop-test.false in
    let e = c.loop.auto.counter-end in
    let run = runs_at names c.loop.start (record { task = 0; place = 0 }) (omega (arith, n, h)) in
    let none : 0 ≡ c.args.i - c.loop.counter = omega (arith, f, e) in
    (λ z. Some ((sym (name_at xs c.loop.start d) z).task, c.run_length.ensures.exact z))
    ∙ ap told_at (sym (ap (λ rs. slice_get rs 0) run)
    ∙ ap (slice_get (runs_of (drop c.loop.start names))) none
    ∙ c.loop.invariant.left
    ∙ ap (λ ys. slice_get (runs_of (names_in ys)) c.args.i) c.as_slice-held.ensures.value
    ∙ sym (ap (λ os. slice_get (runs_of os) c.args.i) (keys-set_of (names_in c.self.inside.held.items) c.self.invariant.rises))
    ∙ ap (λ g. slice_get (held_tasks g.gateway) c.args.i) c.self.view_is)

pub returns-else-start-held-2 : goal.returns-else-start-held-2
returns-else-start-held-2 c =
    let xs = c.as_slice-held.result.now in
    let n = length-names_in xs in
    let h = c.if-start-held-2.false in
    ap told_at (sym (ap (λ rs. slice_get rs (c.args.i - c.loop.counter)) (no_runs (names_in xs) c.loop.start (omega (arith, n, h))))
    ∙ c.loop.invariant.left
    ∙ ap (λ ys. slice_get (runs_of (names_in ys)) c.args.i) c.as_slice-held.ensures.value
    ∙ sym (ap (λ os. slice_get (runs_of os) c.args.i) (keys-set_of (names_in c.self.inside.held.items) c.self.invariant.rises))
    ∙ ap (λ g. slice_get (held_tasks g.gateway) c.args.i) c.self.view_is)
