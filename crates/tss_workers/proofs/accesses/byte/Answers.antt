-- A byte in memory beside all spots.
use Rattle.std.proofs.Common.{◌≡◌, ◌+◌, ℕ, refl, sym, ap, ◌∙◌, arith}
use Rattle.tss_model.specs.Memory.{byte_at}
use Rattle.tss_protocol.specs.Workers.{byte_in}
use Rattle.tss_workers.specs.Spots.{stores_of}
use Rattle.tss_workers.proofs.SpotLemmas.{found_nowhere, not_contained}
use Rattle.tss_workers.proofs.accesses.byte.Goals as goal

pub returns-in-None-clause-exact : goal.returns-in-None-clause-exact
returns-in-None-clause-exact c =
    let a : ℕ = c.args.r.now.base + c.args.i in
    let one : c.number.result ≡ byte_at c.args.space.now a = omega (arith, c.number.ensures.exact) in
    one
    ∙ sym (ap (λ f. byte_in (stores_of c.args.space.now c.args.buffers.now) f a)
    (found_nowhere c.args.spots.now a (λ j s e. not_contained s.object a (c.in-None.ensures.none refl j s e))))
