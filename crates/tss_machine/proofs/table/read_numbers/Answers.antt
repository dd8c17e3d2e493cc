use Rattle.std.proofs.Common.{◌≡◌, arith, sym, ◌∙◌, Ok, Err}
use Rattle.std.proofs.Math.ListN.{length-set}
use Rattle.std.proofs.lemmas.Result.{err_from_is_err_and}
use Rattle.toml.specs.View.{table_view}
use Rattle.tss_machine.specs.Table.{number_at}
use Rattle.tss_machine.proofs.Turns.{key_at, passed_turn, failed_turn, read_turn, all_read, all_passed}
use Rattle.tss_machine.proofs.table.read_numbers.Goals as goal

pub returns-in_err-numbers-clause-first : goal.returns-in_err-numbers-clause-first
returns-in_err-numbers-clause-first c =
    let table = table_view c.args.table.now in
    let p = err_from_is_err_and c.from_residual.result c.from_residual.ensures.1 in
    let fails : number_at table (key_at c.loop-i.i) ≡ Err c.in_err-numbers.field-0.0 =
    sym c.number_at.ensures ∙ c.in_err-numbers.was in
    rw (p.1, p.2) (sym (failed_turn table c.loop-i.i _ (omega arith) fails c.loop-i.invariant.left))

pub loop-i-preserved : goal.loop-i-preserved
loop-i-preserved c =
    let table = table_view c.args.table.now in
    let reads : number_at table (key_at c.loop-i.i) ≡ Ok c.in_ok-numbers.field-0 =
    sym c.number_at.ensures ∙ c.in_ok-numbers.was in
    let loop = c.loop-i.invariant in
    record {
      whole = simp length-set loop.whole;
      left = passed_turn table c.loop-i.i _ (omega arith) reads loop.left;
      read = read_turn table c.loop-i.i _ c.loop-i.numbers (omega arith) loop.whole reads loop.read;
    }

pub returns-clause-first : goal.returns-clause-first
returns-clause-first c = sym (all_passed (table_view c.args.table.now) c.loop-i.i (omega arith) c.loop-i.invariant.left)

pub returns-clause-numbers : goal.returns-clause-numbers
returns-clause-numbers c =
    let loop = c.loop-i.invariant in
    all_read (table_view c.args.table.now) c.loop-i.i c.loop-i.numbers (omega arith) loop.whole loop.read
