-- An entry is written in the place of the one of its base, or as a new one.
use Rattle.std.proofs.Common.{◌≡◌, ◌<◌, None, ap, sym, subst, ◌∙◌, option_map, arith}
use Rattle.std.specs.Ordering.{nat_cmp}
use Rattle.std.specs.FinMap.{get, insert, len}
use Rattle.tss_tables.specs.Table.{TableState}
use Rattle.tss_protocol.specs.State.{Entry}
use Rattle.tss_renaming.specs.Entries.{entry_of, entries_of}
use Rattle.tss_renaming.proofs.EntryLemmas.{absent_of, get-entries_of, len-entries_of, entries_of-insert}
use Rattle.tss_renaming.proofs.entries.Entries.put.Goals as goal

pub add-requires-clause-room : goal.add-requires-clause-room
add-requires-clause-room c =
    let t = c.self.inside.table in
    let none = absent_of (get t.entries c.args.base) (sym c.has.ensures ∙ c.if-has.false) in
    let absent = sym (get-entries_of t c.args.base) ∙ ap (option_map entry_of) none in
    let same = len-entries_of t in
    let room : len (entries_of t).entries < t.size =
    subst (λ (s : TableState nat_cmp Entry). get s.entries c.args.base ≡ None → len s.entries < s.size)
    (sym c.self.view_is) c.requires absent in
    omega (arith, same, room)

pub returns-then-has : goal.returns-then-has
returns-then-has c =
    ap entries_of c.replace.ensures.written ∙ entries_of-insert c.self.inside.table c.args.base c.args.entry
    ∙ ap (λ (t : TableState nat_cmp Entry). record t { entries = insert t.entries c.args.base (entry_of c.args.entry) })
    c.self.view_is

pub returns-else-has : goal.returns-else-has
returns-else-has c =
    ap entries_of c.add.ensures ∙ entries_of-insert c.self.inside.table c.args.base c.args.entry
    ∙ ap (λ (t : TableState nat_cmp Entry). record t { entries = insert t.entries c.args.base (entry_of c.args.entry) })
    c.self.view_is
