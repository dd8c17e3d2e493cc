-- The objects end in their order, so the search stops where those that end at or before the address are over.
use Rattle.std.proofs.Common.{rules, of_calls, leb}
use Rattle.std.proofs.lemmas.Bool.{leb-true, leb-false}
use Rattle.std.proofs.lemmas.Fn.{always_returns_same}
use Rattle.std.proofs.lemmas.List.Sorted.{IsPartitionedBy-leb}
use Rattle.tss_base.specs.Range.{end_of}
use Rattle.tss_operands.proofs.PlacedLemmas.{ends_rise}
use Rattle.tss_operands.proofs.search.ended_by.Goals as goal

pub returns : goal.returns
returns c =
    let objects = c.args.objects.now in
    let point = c.partition_point.ensures.partitioned (λ r. leb (end_of r) c.args.at)
    (always_returns_same _ _ _ (λ a r f k. search (rules, of_calls)))
    (IsPartitionedBy-leb end_of objects c.args.at (ends_rise objects c.requires)) in
    record {
      within = c.partition_point.ensures.bound;
      before = λ k d low high. leb-true _ _ (point.0 k d low high);
      after = λ k d low high. leb-false _ _ (point.1 k d low high);
    }
