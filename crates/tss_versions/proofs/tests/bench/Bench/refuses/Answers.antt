-- A nack sends no other numbers.
use Rattle.tss_versions.proofs.CheckLemmas.{sent_by}
use Rattle.tss_versions.proofs.tests.bench.Bench.refuses.Goals as goal

pub are_told-requires : goal.are_told-requires
are_told-requires g c =
    sent_by c.self.inside.places c.self.inside.buffers c.nack-sent.result c.self.invariant.0 c.self.invariant.1.0
    (c.nack-sent.ensures.numbers 0 1 c.self.invariant.1.1).1
