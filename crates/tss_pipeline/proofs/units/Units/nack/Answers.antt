-- A version may not retire.
use Rattle.std.proofs.Common.{arith}
use Rattle.std.proofs.lemmas.Option.{slice_get_within}
use Rattle.tss_pipeline.proofs.version_rows.VersionLookups.{in_read}
use Rattle.tss_pipeline.proofs.version_rows.VersionSteps.{chained_here}
use Rattle.tss_pipeline.proofs.version_rows.VersionEvents.{nack_there, nack_somewhere, nack_done}
use Rattle.tss_pipeline.proofs.units.Units.nack.Goals as goal

pub unreachable-requires : goal.unreachable-requires
unreachable-requires c = nack_somewhere c.args.self.now c.requires.fit c.args.v c.requires.may c.in_default.ensures

pub take_nack-requires : goal.take_nack-requires
take_nack-requires c = nack_there c.args.self.now c.args.v c.requires.may

pub index_mut-requires : goal.index_mut-requires
index_mut-requires c =
    let i = c.in-Some.ensures in
    let within = slice_get_within c.args.self.now.banks.items c.in-Some.bank i.bank i.there in
    omega (arith, within)

pub nack-sent-requires-clause-registered : goal.nack-sent-requires-clause-registered
nack-sent-requires-clause-registered c =
    (in_read c.args.self.now.banks.items c.args.v c.in-Some.bank c.index_mut.result.now c.in-Some.ensures
    c.index_mut.ensures.value).1

pub nack-sent-requires-clause-chained : goal.nack-sent-requires-clause-chained
nack-sent-requires-clause-chained c =
    let t = in_read c.args.self.now.banks.items c.args.v c.in-Some.bank c.index_mut.result.now c.in-Some.ensures
    c.index_mut.ensures.value in
    chained_here c.args.self.now c.requires.fit c.in-Some.bank c.index_mut.result.now t.0

pub post_all-requires-clause-fresh : goal.post_all-requires-clause-fresh
post_all-requires-clause-fresh c =
    let u = c.args.self.now in
    let b = c.index_mut.result.now in
    let t = in_read u.banks.items c.args.v c.in-Some.bank b c.in-Some.ensures c.index_mut.ensures.value in
    let v = c.nack-sent.ensures in
    (nack_done u c.requires.fit c.args.v c.requires.may c.in-Some.bank b t.0 t.1 c.nack-sent.new.self c.nack-sent.result
    (record { exact = v.exact; versions = v.versions; messages = v.messages; sent_own = v.sent })
    c.take_nack.new.mail c.take_nack.ensures.others c.take_nack.ensures.taken).fresh

pub post_all-requires-clause-room : goal.post_all-requires-clause-room
post_all-requires-clause-room c =
    let u = c.args.self.now in
    let b = c.index_mut.result.now in
    let t = in_read u.banks.items c.args.v c.in-Some.bank b c.in-Some.ensures c.index_mut.ensures.value in
    let v = c.nack-sent.ensures in
    (nack_done u c.requires.fit c.args.v c.requires.may c.in-Some.bank b t.0 t.1 c.nack-sent.new.self c.nack-sent.result
    (record { exact = v.exact; versions = v.versions; messages = v.messages; sent_own = v.sent })
    c.take_nack.new.mail c.take_nack.ensures.others c.take_nack.ensures.taken).room

pub returns : goal.returns
returns c =
    let u = c.args.self.now in
    let b = c.index_mut.result.now in
    let t = in_read u.banks.items c.args.v c.in-Some.bank b c.in-Some.ensures c.index_mut.ensures.value in
    let v = c.nack-sent.ensures in
    (nack_done u c.requires.fit c.args.v c.requires.may c.in-Some.bank b t.0 t.1 c.nack-sent.new.self c.nack-sent.result
    (record { exact = v.exact; versions = v.versions; messages = v.messages; sent_own = v.sent })
    c.take_nack.new.mail c.take_nack.ensures.others c.take_nack.ensures.taken).does c.post_all.new.mail
    c.post_all.ensures.exact c.post_all.ensures.posted
