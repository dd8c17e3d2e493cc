-- A piece is printed where it has room.
use Rattle.std.proofs.Common.{◌≡◌, length, refl, sym, ap, subst, ◌∙◌, arith}
use Rattle.std.proofs.lemmas.List.FromFn.{length-map-range_with_len}
use Rattle.tss_model.specs.Memory.{byte_at}
use Rattle.tss_model.specs.MainStep.{Piece}
use Rattle.tss_steps.specs.Printing.{PrintedState, RiseTo}
use Rattle.tss_steps.proofs.RiseLemmas.{rise_more}
use Rattle.tss_steps.proofs.main_state.Main.print.Goals as goal

pub push-requires-clause-room : goal.push-requires-clause-room
push-requires-clause-room c =
    let count : length c.bytes-else-from-bytes.result.now ≡ c.get-2.result =
    ap length c.bytes-else-from-bytes.ensures ∙ length-map-range_with_len (byte_at c.args.space.now) c.get.result c.get-2.result in
    let long = ap length c.bytes.ensures.bytes in
    omega (arith, count, long, c.if-from-bytes.false, c.from.ensures, c.from-else-touches.ensures, c.self.invariant.bytes)

pub invariant_of-self-else-from-bytes : goal.invariant_of-self-else-from-bytes
invariant_of-self-else-from-bytes c =
    let i = c.self.inside in
    let piece : Piece = record { before = i.spawned; bytes = c.bytes-else-from-bytes.result.now } in
    record {
      few = c.self.invariant.few;
      objects = c.self.invariant.objects;
      bytes = ap (λ (s : PrintedState). s.limit) c.push.ensures ∙ c.self.invariant.bytes;
      rise =
          subst (λ ps. RiseTo 0 ps i.spawned) (sym (ap (λ (s : PrintedState). s.pieces) c.push.ensures))
          (rise_more 0 i.printed.pieces i.spawned piece refl c.self.invariant.rise);
    }
