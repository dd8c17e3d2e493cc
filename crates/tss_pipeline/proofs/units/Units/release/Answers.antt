-- A task has finished with a version.
use Rattle.tss_pipeline.proofs.version_rows.VersionLookups.{some_banks, read_there}
use Rattle.tss_pipeline.proofs.version_rows.VersionSteps.{chained_here}
use Rattle.tss_pipeline.proofs.version_rows.VersionEvents.{something, release_there, releaser_flies, release_registered, release_readers, release_done}
use Rattle.tss_pipeline.proofs.units.Units.release.Goals as goal

pub bank_of_operand-bank-requires-clause-some : goal.bank_of_operand-bank-requires-clause-some
bank_of_operand-bank-requires-clause-some c = some_banks c.args.self.now c.requires.fit

pub bank_of_operand-bank-requires-clause-flies : goal.bank_of_operand-bank-requires-clause-flies
bank_of_operand-bank-requires-clause-flies c =
    let r = something _ (release_there c.args.self.now c.args.o c.requires.may) in
    releaser_flies c.args.self.now c.requires.fit c.args.o r.0 r.1

pub take_release-producer-requires : goal.take_release-producer-requires
take_release-producer-requires c = release_there c.args.self.now c.args.o c.requires.may

pub release-sent-requires-clause-registered : goal.release-sent-requires-clause-registered
release-sent-requires-clause-registered c =
    let u = c.args.self.now in
    let at = read_there u.banks.items c.bank_of_operand-bank.result c.index_mut.result.now
    c.bank_of_operand-bank.ensures.within c.index_mut.ensures.value in
    release_registered u c.requires.fit c.args.o c.take_release-producer.result c.take_release-producer.ensures.exact
    c.bank_of_operand-bank.result c.index_mut.result.now at c.bank_of_operand-bank.ensures.exact

pub release-sent-requires-clause-readers : goal.release-sent-requires-clause-readers
release-sent-requires-clause-readers c =
    let u = c.args.self.now in
    let at = read_there u.banks.items c.bank_of_operand-bank.result c.index_mut.result.now
    c.bank_of_operand-bank.ensures.within c.index_mut.ensures.value in
    release_readers u c.requires.fit c.args.o c.take_release-producer.result c.take_release-producer.ensures.exact
    c.bank_of_operand-bank.result c.index_mut.result.now at c.bank_of_operand-bank.ensures.exact

pub release-sent-requires-clause-chained : goal.release-sent-requires-clause-chained
release-sent-requires-clause-chained c =
    let u = c.args.self.now in
    let at = read_there u.banks.items c.bank_of_operand-bank.result c.index_mut.result.now
    c.bank_of_operand-bank.ensures.within c.index_mut.ensures.value in
    chained_here u c.requires.fit c.bank_of_operand-bank.result c.index_mut.result.now at

pub post_all-requires-clause-fresh : goal.post_all-requires-clause-fresh
post_all-requires-clause-fresh c =
    let u = c.args.self.now in
    let b = c.index_mut.result.now in
    let n = c.bank_of_operand-bank.result in
    let at = read_there u.banks.items n b c.bank_of_operand-bank.ensures.within c.index_mut.ensures.value in
    let r = c.take_release-producer in
    let v = c.release-sent.ensures in
    (release_done u c.requires.fit c.args.o r.result r.ensures.exact n b at c.bank_of_operand-bank.ensures.exact
    c.requires.may c.release-sent.new.self c.release-sent.result
    (record { exact = v.exact; versions = v.versions; messages = v.messages; sent_own = v.sent })
    r.new.mail r.ensures.others r.ensures.taken).fresh

pub post_all-requires-clause-room : goal.post_all-requires-clause-room
post_all-requires-clause-room c =
    let u = c.args.self.now in
    let b = c.index_mut.result.now in
    let n = c.bank_of_operand-bank.result in
    let at = read_there u.banks.items n b c.bank_of_operand-bank.ensures.within c.index_mut.ensures.value in
    let r = c.take_release-producer in
    let v = c.release-sent.ensures in
    (release_done u c.requires.fit c.args.o r.result r.ensures.exact n b at c.bank_of_operand-bank.ensures.exact
    c.requires.may c.release-sent.new.self c.release-sent.result
    (record { exact = v.exact; versions = v.versions; messages = v.messages; sent_own = v.sent })
    r.new.mail r.ensures.others r.ensures.taken).room

pub returns : goal.returns
returns c =
    let u = c.args.self.now in
    let b = c.index_mut.result.now in
    let n = c.bank_of_operand-bank.result in
    let at = read_there u.banks.items n b c.bank_of_operand-bank.ensures.within c.index_mut.ensures.value in
    let r = c.take_release-producer in
    let v = c.release-sent.ensures in
    (release_done u c.requires.fit c.args.o r.result r.ensures.exact n b at c.bank_of_operand-bank.ensures.exact
    c.requires.may c.release-sent.new.self c.release-sent.result
    (record { exact = v.exact; versions = v.versions; messages = v.messages; sent_own = v.sent })
    r.new.mail r.ensures.others r.ensures.taken).does c.post_all.new.mail c.post_all.ensures.exact
    c.post_all.ensures.posted
