use Rattle.tss_machine.proofs.Least.{least_of-unknown_keys}
use Rattle.tss_machine.proofs.table.unknown_key.Goals as goal

pub returns-in_err-key : goal.returns-in_err-key
returns-in_err-key c =
    let least = least_of-unknown_keys c.args.table.now.entries c.first_unknown.ensures.ordered in
    rw (least, ← c.first_unknown.ensures.first, c.in_err-key.was, c.from_residual.ensures)

pub returns : goal.returns
returns c =
    let least = least_of-unknown_keys c.args.table.now.entries c.first_unknown.ensures.ordered in
    rw (least, ← c.first_unknown.ensures.first, c.in_ok-key.was, c.as_str.ensures.value)
