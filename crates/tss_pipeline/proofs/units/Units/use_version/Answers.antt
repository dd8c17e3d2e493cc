-- A reader is enlisted.
use Rattle.tss_pipeline.proofs.version_rows.VersionLookups.{some_banks, read_there, user_flies}
use Rattle.std.proofs.Common.{refl, subst, sym}
use Rattle.std.specs.Prelude.{IsSome}
use Rattle.tss_pipeline.proofs.version_rows.VersionEvents.{use_there, use_registered, use_readers, use_not_blocked, use_done}
use Rattle.tss_pipeline.proofs.units.Units.use_version.Goals as goal

pub bank_of_operand-bank-requires-clause-some : goal.bank_of_operand-bank-requires-clause-some
bank_of_operand-bank-requires-clause-some c = some_banks c.args.self.now c.requires.fit

pub bank_of_operand-bank-requires-clause-flies : goal.bank_of_operand-bank-requires-clause-flies
bank_of_operand-bank-requires-clause-flies c =
    let t = use_there c.args.self.now c.args.o c.requires.may in
    user_flies c.args.self.now c.requires.fit c.args.o t.0 t.1

pub take_use-v-requires : goal.take_use-v-requires
take_use-v-requires c = subst IsSome (sym (use_there c.args.self.now c.args.o c.requires.may).1) refl

pub enlist-requires : goal.enlist-requires
enlist-requires c =
    let u = c.args.self.now in
    let b = c.index_mut.result.now in
    let n = c.bank_of_operand-bank.result in
    use_readers u c.requires.fit c.args.o c.take_use-v.result c.take_use-v.ensures.exact n b
    (read_there u.banks.items n b c.bank_of_operand-bank.ensures.within c.index_mut.ensures.value)
    c.bank_of_operand-bank.ensures.exact

pub post_all-requires-clause-fresh : goal.post_all-requires-clause-fresh
post_all-requires-clause-fresh c =
    let u = c.args.self.now in
    let b = c.index_mut.result.now in
    let n = c.bank_of_operand-bank.result in
    let v = c.in-Ok.ensures in
    (use_done u c.requires.fit c.args.o c.take_use-v.result c.take_use-v.ensures.exact n b
    (read_there u.banks.items n b c.bank_of_operand-bank.ensures.within c.index_mut.ensures.value)
    c.bank_of_operand-bank.ensures.exact c.requires.may c.enlist.new.self c.in-Ok.sent
    (record { exact = v.exact; versions = v.versions; messages = v.messages; sent_own = v.sent })
    c.take_use-v.new.mail c.take_use-v.ensures.others c.take_use-v.ensures.taken).fresh

pub post_all-requires-clause-room : goal.post_all-requires-clause-room
post_all-requires-clause-room c =
    let u = c.args.self.now in
    let b = c.index_mut.result.now in
    let n = c.bank_of_operand-bank.result in
    let v = c.in-Ok.ensures in
    (use_done u c.requires.fit c.args.o c.take_use-v.result c.take_use-v.ensures.exact n b
    (read_there u.banks.items n b c.bank_of_operand-bank.ensures.within c.index_mut.ensures.value)
    c.bank_of_operand-bank.ensures.exact c.requires.may c.enlist.new.self c.in-Ok.sent
    (record { exact = v.exact; versions = v.versions; messages = v.messages; sent_own = v.sent })
    c.take_use-v.new.mail c.take_use-v.ensures.others c.take_use-v.ensures.taken).room

pub unreachable-requires : goal.unreachable-requires
unreachable-requires c =
    let u = c.args.self.now in
    let b = c.index_mut.result.now in
    let n = c.bank_of_operand-bank.result in
    use_not_blocked u c.requires.fit c.args.o c.take_use-v.result c.take_use-v.ensures.exact n b
    (read_there u.banks.items n b c.bank_of_operand-bank.ensures.within c.index_mut.ensures.value)
    c.bank_of_operand-bank.ensures.exact
    (use_registered u c.args.o c.requires.may c.take_use-v.result c.take_use-v.ensures.exact)
    (c.in-Err.ensures.blocked.0 refl)

pub returns : goal.returns
returns c =
    let u = c.args.self.now in
    let b = c.index_mut.result.now in
    let n = c.bank_of_operand-bank.result in
    let v = c.in-Ok.ensures in
    (use_done u c.requires.fit c.args.o c.take_use-v.result c.take_use-v.ensures.exact n b
    (read_there u.banks.items n b c.bank_of_operand-bank.ensures.within c.index_mut.ensures.value)
    c.bank_of_operand-bank.ensures.exact c.requires.may c.enlist.new.self c.in-Ok.sent
    (record { exact = v.exact; versions = v.versions; messages = v.messages; sent_own = v.sent })
    c.take_use-v.new.mail c.take_use-v.ensures.others c.take_use-v.ensures.taken).does c.post_all.new.mail
    c.post_all.ensures.exact c.post_all.ensures.posted
