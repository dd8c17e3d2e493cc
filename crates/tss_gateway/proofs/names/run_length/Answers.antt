-- The names of the task, one by one, until another's.
use Rattle.std.proofs.Common.{◌≡◌, suc, ◌+◌, drop, get_or, refl, sym, ap, ◌∙◌, arith}
use Rattle.tss_gateway.specs.declared.names.Held.{Held}
use Rattle.tss_gateway.specs.Names.{names_in, more_of}
use Rattle.tss_gateway.proofs.RunLemmas.{run_there, more_same, more_other}
use Rattle.tss_gateway.proofs.SetLemmas.{name_at, length-names_in}
use Rattle.tss_gateway.proofs.names.run_length.Goals as goal

pub loop-place-init : goal.loop-place-init
loop-place-init c =
    let xs = c.args.held.now in
    let names = names_in xs in
    let d : Held = record { name = record { task = 0; place = 0 } } in
    let n = length-names_in xs in
    let h = c.requires in
    let task = (get_or xs c.args.start d).name.task in
    let run = run_there names c.args.start (record { task = 0; place = 0 }) (omega (arith, n, h)) in
    let same : more_of (get_or names c.args.start (record { task = 0; place = 0 })).task (drop (suc c.args.start) names)
    ≡ more_of task (drop (suc c.args.start) names) =
    ap (λ o. more_of o.task (drop (suc c.args.start) names)) (name_at xs c.args.start d) in
    let next : suc c.args.start ≡ c.args.start + 1 = omega arith in
    let moved = ap (λ k. more_of task (drop k names)) next in
    record { place = refl; some = omega arith; run = omega (arith, run, same, moved) }

pub returns-then-held-place-clause-exact : goal.returns-then-held-place-clause-exact
returns-then-held-place-clause-exact c =
    let xs = c.args.held.now in
    let d : Held = record { name = record { task = 0; place = 0 } } in
    let n = length-names_in xs in
    let h = c.loop-place-test.true in
    let none = more_other (get_or xs c.args.start d).name.task (names_in xs) c.loop-place.place (record { task = 0; place = 0 }) (omega (arith, n, h)) (λ e. c.if-held-place.true (ap (λ o. o.task) (sym (name_at xs c.loop-place.place d)) ∙ e)) in
    omega (arith, none, c.loop-place.invariant.run)

pub loop-place-preserved : goal.loop-place-preserved
loop-place-preserved c =
    let xs = c.args.held.now in
    let d : Held = record { name = record { task = 0; place = 0 } } in
    let n = length-names_in xs in
    let h = c.loop-place-test.true in
    let task = (get_or xs c.args.start d).name.task in
    let one = more_same task (names_in xs) c.loop-place.place (record { task = 0; place = 0 }) (omega (arith, n, h)) (ap (λ o. o.task) (name_at xs c.loop-place.place d) ∙ c.if-held-place.false) in
    let next : suc c.loop-place.place ≡ c.loop-place.place + 1 = omega arith in
    let moved = ap (λ k. more_of task (drop k (names_in xs))) next in
    record {
      place = omega (arith, c.loop-place.invariant.place);
      some = omega arith;
      run = omega (arith, c.loop-place.invariant.run, one, moved);
    }
