use Rattle.std.proofs.Common.{◌≡◌, Some, None, Err, option_map, sym, ap, ◌∙◌}
use Rattle.std.proofs.lemmas.Result.{err_from_is_err_and}
use Rattle.std.specs.Result.{result_err}
use Rattle.toml.specs.View.{table_view}
use Rattle.tss_machine.specs.Table.{unknown_fault, least_of, unknown_keys}
use Rattle.tss_machine.specs.Description.{size_faults, first_fault, answer_with}
use Rattle.tss_machine.specs.declared.fault.MachineFault.TheVariants as fault
use Rattle.tss_machine.proofs.Exact.{Gives-equal, answer_key, answer_unknown, answer_sizes}
use Rattle.tss_machine.proofs.reading.machine_in.Goals as goal

pub returns-in_err-numbers : goal.returns-in_err-numbers
returns-in_err-numbers c =
    let p = err_from_is_err_and c.from_residual.result c.from_residual.ensures.1 in
    let fails = sym c.read_numbers.ensures.first ∙ ap result_err c.in_err-numbers.was in
    Gives-equal _ _ (p.1 ∙ ap Err p.2 ∙ answer_key (table_view c.args.table.now) _ fails)

pub returns-in-Some : goal.returns-in-Some
returns-in-Some c =
    let passes = sym c.read_numbers.ensures.first ∙ ap result_err c.in_ok-numbers.was in
    let least : least_of (unknown_keys (table_view c.args.table.now)) ≡ Some c.in_ok-new.field-0 =
    sym c.unknown_key.ensures ∙ ap (option_map (λ text. text.now)) c.in-Some.is ∙ ap Some (sym c.in_ok-new.ensures) in
    answer_unknown (table_view c.args.table.now) passes _ (ap (option_map fault.UnknownKey) least)

pub returns : goal.returns
returns c =
    let passes = sym c.read_numbers.ensures.first ∙ ap result_err c.in_ok-numbers.was in
    let known : unknown_fault (table_view c.args.table.now) ≡ None =
    ap (option_map fault.UnknownKey) (sym c.unknown_key.ensures ∙ ap (option_map (λ text. text.now)) c.in_default.is) in
    let same = c.machine_with.ensures (table_view c.args.table.now) c.in_ok-numbers.ensures.numbers in
    let answer = ap (λ m. answer_with m (first_fault (size_faults m))) same in
    Gives-equal _ _ (c.check_sizes.ensures ∙ answer ∙ answer_sizes (table_view c.args.table.now) passes known)
