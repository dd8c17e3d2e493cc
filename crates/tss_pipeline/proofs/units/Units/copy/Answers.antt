-- The next piece of a bank's copy goes home.
use Rattle.std.proofs.Common.{◌≡◌, ℕ, take, drop, refl, sym, ap, ◌∙◌, subst, arith}
use Rattle.std.specs.Prelude.{IfSome}
use Rattle.std.specs.FinMap.{get}
use Rattle.std.proofs.lemmas.Option.{slice_get_within}
use Rattle.tss_base.specs.declared.event.Event.TheVariants as event
use Rattle.tss_model.specs.Memory.{put_bytes}
use Rattle.tss_memory.specs.Ranges.{CanWrite}
use Rattle.tss_protocol.specs.Mail.{posted_all}
use Rattle.tss_buffers.specs.Contents.{HasBuffer, seat}
use Rattle.tss_mail.specs.Letters.{mail_of}
use Rattle.tss_conditions.specs.Posting.{MayPostAll}
use Rattle.tss_pipeline.specs.declared.bank.Bank.{Bank}
use Rattle.tss_pipeline.specs.Pieces.{CopiesWithin, gone_messages, gones_with}
use Rattle.tss_pipeline.proofs.places.Grounds.{does}
use Rattle.tss_pipeline.proofs.worker_rows.BankCopies.{copies, copies_within, buffer_place, piece_there, can_write, may_send, piece_state, banks_left, placed_left, index_copies, piece_of_bank}
use Rattle.tss_pipeline.proofs.units.Units.copy.Goals as goal

pub index_mut-requires : goal.index_mut-requires
index_mut-requires c =
    let x = copies c.args.self.now c.requires.fit c.args.b c.requires.may in
    let within = slice_get_within c.args.self.now.banks.items c.args.b x.bank x.there in
    omega (arith, within)

pub next_piece-place-requires : goal.next_piece-place-requires
next_piece-place-requires c =
    let u = c.args.self.now in
    let x = copies u c.requires.fit c.args.b c.requires.may in
    subst (λ (b : Bank). CopiesWithin b.engine b.job)
    (index_copies u.banks.items c.args.b x c.index_mut.result.now c.index_mut.ensures.value)
    (copies_within u c.requires.fit c.args.b c.requires.may)

pub bytes-bytes-requires : goal.bytes-bytes-requires
bytes-bytes-requires c =
    let u = c.args.self.now in
    let x = copies u c.requires.fit c.args.b c.requires.may in
    let piece = piece_of_bank u.banks.items c.args.b x c.index_mut.result.now c.next_piece-place.new.self
    c.next_piece-place.result
    c.index_mut.ensures.value c.next_piece-place.ensures in
    subst (HasBuffer u.buffers c.args.b) (sym piece.place) (buffer_place u c.requires.fit c.args.b c.requires.may)

pub copy_part-requires-clause-there : goal.copy_part-requires-clause-there
copy_part-requires-clause-there c =
    let u = c.args.self.now in
    let x = copies u c.requires.fit c.args.b c.requires.may in
    let piece = piece_of_bank u.banks.items c.args.b x c.index_mut.result.now c.next_piece-place.new.self
    c.next_piece-place.result
    c.index_mut.ensures.value c.next_piece-place.ensures in
    let there = piece_there u c.requires.fit c.args.b c.requires.may in
    let from = piece.from in
    let many = piece.len in
    let len = c.bytes-bytes.ensures.len in
    omega (arith, there, from, many, len)

pub copy_part-requires-clause-within : goal.copy_part-requires-clause-within
copy_part-requires-clause-within c =
    let u = c.args.self.now in
    let x = copies u c.requires.fit c.args.b c.requires.may in
    let piece = piece_of_bank u.banks.items c.args.b x c.index_mut.result.now c.next_piece-place.new.self
    c.next_piece-place.result
    c.index_mut.ensures.value c.next_piece-place.ensures in
    subst (λ (p : ℕ × ℕ). CanWrite u.space.ranges p.0 p.1) (λ i. (sym piece.to i, sym piece.len i))
    (can_write u c.requires.fit c.args.b c.requires.may)

pub post_gone-requires : goal.post_gone-requires
post_gone-requires c =
    let u = c.args.self.now in
    let x = copies u c.requires.fit c.args.b c.requires.may in
    let piece = piece_of_bank u.banks.items c.args.b x c.index_mut.result.now c.next_piece-place.new.self
    c.next_piece-place.result
    c.index_mut.ensures.value c.next_piece-place.ensures in
    subst (λ g. MayPostAll u.mail.size (mail_of u.mail) (gone_messages g)) (sym piece.gone)
    (may_send u c.requires.fit c.args.b c.requires.may)

pub returns : goal.returns
returns c =
    let u = c.args.self.now in
    let fit = c.requires.fit in
    let may = c.requires.may in
    let sized = fit.sized in
    let n = c.args.b in
    let x = copies u fit n may in
    let new = c.next_piece-place.new.self in
    let p = c.next_piece-place.result in
    let piece = piece_of_bank u.banks.items n x c.index_mut.result.now new p c.index_mut.ensures.value
    c.next_piece-place.ensures in
    let bytes = c.bytes-bytes.result.now in
    let mail = c.post_gone.new.mail in
    let rest = c.post_gone.ensures.rest ∙ ap (λ g. record (u.mail) { gones = gones_with u.mail.gones g }) piece.gone in
    does (event.Copy n) u _ fit may refl
    (piece_state u fit n may new piece.left c.copy_part.new.space mail bytes
    (subst (λ k. IfSome (get u.buffers.contents (seat n k)) (λ x. bytes ≡ x)) piece.place c.bytes-bytes.ensures.exact)
    (c.copy_part.ensures
    ∙ (λ i. put_bytes u.space (piece.to i) (take (piece.len i) (drop (piece.from i) bytes))))
    (c.post_gone.ensures.posted ∙ ap (λ g. posted_all (mail_of u.mail) (gone_messages g)) piece.gone))
    (record {
      limits = sized.limits;
      window = sized.window;
      stations = sized.stations;
      queue = sized.queue;
      workers = sized.workers;
      mail = ap (λ m. m.size) rest ∙ sized.mail;
      banks = banks_left u fit n may new piece.left;
      buffer_banks = sized.buffer_banks;
      buffers = sized.buffers;
      object_bytes = sized.object_bytes;
    })
    (placed_left u fit n may new piece.left mail rest)
