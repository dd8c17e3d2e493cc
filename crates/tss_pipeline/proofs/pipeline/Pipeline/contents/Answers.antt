-- The contents of a buffer are those at its place.
use Rattle.std.proofs.Common.{sym, ◌∙◌}
use Rattle.tss_pipeline.proofs.shown.SeenBanks.{seen_contents, seen_no_contents, has_buffer_here, seen_nothing_held}
use Rattle.tss_pipeline.proofs.pipeline.Pipeline.contents.Goals as goal

pub set_bytes-requires : goal.set_bytes-requires
set_bytes-requires c =
    has_buffer_here c.self.inside.units c.self.invariant.fit c.args.self.now c.self.view_is
    c.deref.result.now c.deref.ensures.value c.args.bank
    c.in-Some.own.now c.in-Some.ensures c.args.name c.in-Some-buffer.place
    (sym c.buffer.ensures.exact ∙ c.in-Some-buffer.is)

pub returns-in-Some-buffer : goal.returns-in-Some-buffer
returns-in-Some-buffer c =
    c.set_bytes.ensures
    ∙ seen_contents c.self.inside.units c.self.invariant.fit c.args.self.now c.self.view_is
    c.deref.result.now c.deref.ensures.value c.args.bank
    c.in-Some.own.now c.in-Some.ensures c.args.name c.in-Some-buffer.place
    (sym c.buffer.ensures.exact ∙ c.in-Some-buffer.is)

pub returns-in-None-buffer : goal.returns-in-None-buffer
returns-in-None-buffer c =
    seen_no_contents c.self.inside.units c.self.invariant.fit c.args.self.now c.self.view_is
    c.deref.result.now c.deref.ensures.value c.args.bank
    c.in-Some.own.now c.in-Some.ensures c.args.name
    (sym c.buffer.ensures.exact ∙ c.in-None-buffer.is)

pub returns-in-None : goal.returns-in-None
returns-in-None c =
    seen_nothing_held c.self.inside.units c.self.invariant.fit c.args.self.now c.self.view_is
    c.deref.result.now c.deref.ensures.value c.args.bank c.in-None.ensures c.args.name
