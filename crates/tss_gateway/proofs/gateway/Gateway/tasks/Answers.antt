-- A run more, and none left.
use Rattle.std.proofs.Common.{◌≡◌, ◌+◌, length, drop, sym, ap, ◌∙◌, arith}
use Rattle.tss_protocol.specs.Gateway.{runs_of, held_tasks}
use Rattle.tss_gateway.specs.Names.{names_in}
use Rattle.tss_gateway.proofs.RunLemmas.{runs_at, no_runs}
use Rattle.tss_gateway.proofs.SetLemmas.{length-names_in, keys-set_of}
use Rattle.tss_gateway.proofs.gateway.Gateway.tasks.Goals as goal

pub loop-start-preserved : goal.loop-start-preserved
loop-start-preserved c =
    let xs = c.as_slice-held.result.now in
    let names = names_in xs in
    let n = length-names_in xs in
    let h = c.loop-start-test.true in
    let run = ap length (runs_at names c.loop-start.start (record { task = 0; place = 0 }) (omega (arith, n, h))) in
    let same = ap (λ k. length (runs_of (drop (c.loop-start.start + k) names))) c.run_length-start.ensures.exact in
    record {
      counted = omega (arith, run, same, c.loop-start.invariant.counted);
      within = omega (arith, c.loop-start.invariant.within, c.run_length-start.ensures.some);
      start = c.run_length-start.ensures.within;
    }

pub returns : goal.returns
returns c =
    let xs = c.as_slice-held.result.now in
    let n = length-names_in xs in
    let f = c.loop-start-test.false in
    let none = ap length (no_runs (names_in xs) c.loop-start.start (omega (arith, n, f))) in
    let all : c.loop-start.tasks ≡ length (runs_of (names_in xs)) = omega (arith, none, c.loop-start.invariant.counted) in
    all
    ∙ ap (λ ys. length (runs_of (names_in ys))) c.as_slice-held.ensures.value
    ∙ sym (ap (λ os. length (runs_of os)) (keys-set_of (names_in c.self.inside.held.items) c.self.invariant.rises))
    ∙ ap (λ g. length (held_tasks g.gateway)) c.self.view_is
