-- Bytes put in the middle leave those after them.
use Rattle.std.proofs.Common.{◌+◌, ◌-◌, length, ap, arith}
use Rattle.std.proofs.lemmas.Slice.{drop-put_mid}
use Rattle.tss_events.proofs.text.put.Goals as goal

pub returns-clause-others : goal.returns-clause-others
returns-clause-others c = drop-put_mid c.args.start (c.args.start + length c.args.bytes.now - c.args.start) c.args.into.now c.copy_from_slice.new.self (c.args.start + length c.args.bytes.now) (omega arith) (let r = c.requires in let t = c.told-into in omega (arith, r, t)) (let e = ap length c.copy_from_slice.ensures.after in omega (arith, e))
