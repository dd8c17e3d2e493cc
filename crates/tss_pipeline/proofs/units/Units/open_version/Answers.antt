-- A version is registered.
use Rattle.std.proofs.Common.{refl}
use Rattle.tss_pipeline.proofs.version_rows.VersionLookups.{some_banks, read_there}
use Rattle.tss_pipeline.proofs.version_rows.VersionSteps.{chained_here}
use Rattle.tss_pipeline.proofs.version_rows.VersionOpening.{open_there, open_may, open_bare, open_not_blocked, open_done}
use Rattle.tss_pipeline.proofs.units.Units.open_version.Goals as goal

pub take_open-opening-requires : goal.take_open-opening-requires
take_open-opening-requires c = open_there c.args.self.now c.args.o c.requires.may

pub bank_of-bank-requires-clause-some : goal.bank_of-bank-requires-clause-some
bank_of-bank-requires-clause-some c = some_banks c.args.self.now c.requires.fit

pub open_version-requires-clause-may_open : goal.open_version-requires-clause-may_open
open_version-requires-clause-may_open c =
    let u = c.args.self.now in
    let b = c.index_mut.result.now in
    let n = c.bank_of-bank.result in
    let x = c.take_open-opening in
    open_may u c.requires.fit c.args.o c.requires.may x.result x.ensures.exact x.ensures.own n b
    c.bank_of-bank.ensures.exact (read_there u.banks.items n b c.bank_of-bank.ensures.within c.index_mut.ensures.value)

pub open_version-requires-clause-bare : goal.open_version-requires-clause-bare
open_version-requires-clause-bare c =
    let u = c.args.self.now in
    let b = c.index_mut.result.now in
    let n = c.bank_of-bank.result in
    let x = c.take_open-opening in
    open_bare u c.requires.fit c.args.o c.requires.may x.result x.ensures.exact x.ensures.own n b
    c.bank_of-bank.ensures.exact (read_there u.banks.items n b c.bank_of-bank.ensures.within c.index_mut.ensures.value)

pub open_version-requires-clause-chained : goal.open_version-requires-clause-chained
open_version-requires-clause-chained c =
    let u = c.args.self.now in
    let b = c.index_mut.result.now in
    let n = c.bank_of-bank.result in
    chained_here u c.requires.fit n b
    (read_there u.banks.items n b c.bank_of-bank.ensures.within c.index_mut.ensures.value)

pub post_all-requires-clause-fresh : goal.post_all-requires-clause-fresh
post_all-requires-clause-fresh c =
    let u = c.args.self.now in
    let b = c.index_mut.result.now in
    let n = c.bank_of-bank.result in
    let x = c.take_open-opening in
    let v = c.in-Ok.ensures in
    (open_done u c.requires.fit c.args.o c.requires.may x.result x.ensures.exact x.ensures.own n b
    c.bank_of-bank.ensures.exact (read_there u.banks.items n b c.bank_of-bank.ensures.within c.index_mut.ensures.value)
    c.open_version.new.self c.in-Ok.sent
    (record { exact = v.exact; versions = v.versions; messages = v.messages; sent_own = v.sent })
    x.new.mail x.ensures.others x.ensures.taken).fresh

pub post_all-requires-clause-room : goal.post_all-requires-clause-room
post_all-requires-clause-room c =
    let u = c.args.self.now in
    let b = c.index_mut.result.now in
    let n = c.bank_of-bank.result in
    let x = c.take_open-opening in
    let v = c.in-Ok.ensures in
    (open_done u c.requires.fit c.args.o c.requires.may x.result x.ensures.exact x.ensures.own n b
    c.bank_of-bank.ensures.exact (read_there u.banks.items n b c.bank_of-bank.ensures.within c.index_mut.ensures.value)
    c.open_version.new.self c.in-Ok.sent
    (record { exact = v.exact; versions = v.versions; messages = v.messages; sent_own = v.sent })
    x.new.mail x.ensures.others x.ensures.taken).room

pub unreachable-requires : goal.unreachable-requires
unreachable-requires c =
    let u = c.args.self.now in
    let b = c.index_mut.result.now in
    let n = c.bank_of-bank.result in
    let x = c.take_open-opening in
    open_not_blocked u c.requires.fit c.args.o c.requires.may x.result x.ensures.exact x.ensures.own n b
    c.bank_of-bank.ensures.exact (read_there u.banks.items n b c.bank_of-bank.ensures.within c.index_mut.ensures.value)
    (c.in-Err.ensures.blocked.0 refl)

pub returns : goal.returns
returns c =
    let u = c.args.self.now in
    let b = c.index_mut.result.now in
    let n = c.bank_of-bank.result in
    let x = c.take_open-opening in
    let v = c.in-Ok.ensures in
    (open_done u c.requires.fit c.args.o c.requires.may x.result x.ensures.exact x.ensures.own n b
    c.bank_of-bank.ensures.exact (read_there u.banks.items n b c.bank_of-bank.ensures.within c.index_mut.ensures.value)
    c.open_version.new.self c.in-Ok.sent
    (record { exact = v.exact; versions = v.versions; messages = v.messages; sent_own = v.sent })
    x.new.mail x.ensures.others x.ensures.taken).does c.post_all.new.mail c.post_all.ensures.exact
    c.post_all.ensures.posted
