-- So far the first entries passed their checks, and the answer is that of these operands and the rest.
use Rattle.std.proofs.Common.{◌≡◌, ◌+◌, ◌-◌, ◌*◌, length}
use Rattle.tss_base.specs.declared.lists.TheConstants.{ENTRY_BYTES}
use Rattle.tss_model.specs.Spawn.{entries_at, entries_checked}
use Rattle.tss_operands.proofs.ReadingLemmas.{rest_checked}
use Rattle.tss_operands.proofs.reading.checked_entries.Given as goal

abbrev pub invariant-loop-i : goal.invariant-loop-i
invariant-loop-i l = record {
  many : length l.listed ≡ l.i;
  same : entries_checked l.limits l.space l.epoch.objects (entries_at l.space l.words.list l.words.count)
      ≡ rest_checked l.limits l.space l.epoch.objects l.listed (l.words.list + ENTRY_BYTES * l.i) (l.words.count - l.i);
}
