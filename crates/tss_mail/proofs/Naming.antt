-- The names of messages, table by table.
use Rattle.std.proofs.Common.{ℕ, suc, List, [], ◌∷◌, ◌++◌, map}
use Rattle.std.specs.FinMap.{keys}
use Rattle.tss_base.specs.declared.event.Event.{Event}
use Rattle.tss_mail.specs.Kinds.{kind_at, event_of}
use Rattle.tss_mail.specs.Kept.{Letters}

-- those of tables, the first of which has the number k
abbrev pub names_from : ℕ → List Letters → List Event
names_from k [] = []
names_from k (t ∷ ts) = map (event_of (kind_at k)) (keys t.entries) ++ names_from (suc k) ts
