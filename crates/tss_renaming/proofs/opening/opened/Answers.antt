-- What is taken and sent, by the entry and the mode.
use Rattle.std.proofs.Common.{None, Some, sym, subst, option_map}
use Rattle.tss_base.specs.declared.operand.Storage.TheVariants as storage
use Rattle.tss_events.specs.declared.message.Message.TheVariants as message
use Rattle.tss_renaming.specs.Entries.{entry_of}
use Rattle.tss_renaming.specs.Decoding.{over_opening, beside_opening, IsOpened}
use Rattle.tss_renaming.proofs.OpeningLemmas.{opened_first, opened_over, opened_beside}
use Rattle.tss_renaming.proofs.opening.opened.Goals as goal

pub returns-in_default : goal.returns-in_default
returns-in_default c =
    let p = c.args.places.now in
    let b = c.args.buffers.now in
    let o = c.args.o in
    let operand = c.args.operand.now in
    let first = opened_first p c.take.new.self b o operand c.take.result c.take.ensures.number c.take.ensures.exact
    c.take.ensures.free in
    subst (λ e. IsOpened p c.take.new.self b b o operand (option_map entry_of e) (message.Open record {
      o = o;
      operand = operand;
      storage = Some storage.Home;
      follows = None;
      place = c.take.result;
      buffer = None;
    })) (sym c.in_default.is) first

pub returns-in-Inout : goal.returns-in-Inout
returns-in-Inout c =
    let p = c.args.places.now in
    let b = c.args.buffers.now in
    let o = c.args.o in
    let operand = c.args.operand.now in
    let t = c.take-in-Inout in
    let x = entry_of c.in-Some.entry in
    let over = opened_over p t.new.self b o operand t.result t.ensures.number t.ensures.exact
    t.ensures.free x c.in-Inout.is in
    subst (λ e. IsOpened p t.new.self b b o operand (option_map entry_of e)
    (message.Open (record (over_opening o operand x t.result) { follows = Some c.follow.result })))
    (sym c.in-Some.is)
    (subst (λ f. IsOpened p t.new.self b b o operand (Some x)
    (message.Open (record (over_opening o operand x t.result) { follows = Some f })))
    (sym c.follow.ensures) over)

pub returns-in-Output : goal.returns-in-Output
returns-in-Output c =
    let p = c.args.places.now in
    let b = c.args.buffers.now in
    let o = c.args.o in
    let operand = c.args.operand.now in
    let t = c.take-in-Output in
    let u = c.take-buffer in
    let x = entry_of c.in-Some.entry in
    let beside = opened_beside p t.new.self b o operand t.result t.ensures.number t.ensures.exact
    t.ensures.free x c.in-Output.is u.new.self u.result u.ensures.number u.ensures.exact u.ensures.free in
    subst (λ e. IsOpened p t.new.self b u.new.self o operand (option_map entry_of e)
    (message.Open (record (beside_opening o operand x t.result u.result) {
      storage = Some (storage.Buffer c.place.result o);
      follows = Some c.follow-in-Output.result;
    })))
    (sym c.in-Some.is)
    (subst (λ f. IsOpened p t.new.self b u.new.self o operand (Some x)
    (message.Open (record (beside_opening o operand x t.result u.result) {
      storage = Some (storage.Buffer c.place.result o);
      follows = Some f;
    })))
    (sym c.follow-in-Output.ensures)
    (subst (λ q. IsOpened p t.new.self b u.new.self o operand (Some x)
    (message.Open (record (beside_opening o operand x t.result u.result) { storage = Some (storage.Buffer q o) })))
    (sym c.place.ensures) beside))
