-- A release sends and leaves no other numbers.
use Rattle.tss_versions.proofs.CheckLemmas.{sent_by}
use Rattle.tss_versions.proofs.tests.bench.Bench.releases.Goals as goal

pub are_told-requires : goal.are_told-requires
are_told-requires g c =
    sent_by c.self.inside.places c.self.inside.buffers c.release-sent.result c.self.invariant.0 c.self.invariant.1.0
    (c.release-sent.ensures.numbers 0 1 c.self.invariant.1.1).1

pub invariant_of-self : goal.invariant_of-self
invariant_of-self g c = (
  c.self.invariant.0,
  (c.self.invariant.1.0, (c.release-sent.ensures.numbers 0 1 c.self.invariant.1.1).0),
)
