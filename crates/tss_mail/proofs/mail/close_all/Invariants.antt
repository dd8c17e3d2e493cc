-- The tables that are left are empty.
use Rattle.std.proofs.Common.{◌≡◌, All, vec_len}
use Rattle.std.specs.FinMap.{len}
use Rattle.tss_mail.proofs.mail.close_all.Given as goal

abbrev pub invariant-loop-table : goal.invariant-loop-table
invariant-loop-table l = All (λ t. len t.entries ≡ 0) l.tables.items

abbrev pub decreases-loop-table : goal.decreases-loop-table
decreases-loop-table l = vec_len l.tables
