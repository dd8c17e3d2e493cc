-- What is brought home after a gone: the buffer that it frees isn't one that is copied.
use Rattle.std.proofs.Common.{◌≡◌, ◌≢◌, ℕ, List, [], Option, Some, None, refl, sym, ap, ◌∙◌, inl, inr}
use Rattle.std.specs.Prelude.{is_some, unwrap_or}
use Rattle.std.specs.FinMap.{get, remove}
use Rattle.tss_base.specs.declared.operand.OpName.{OpName}
use Rattle.tss_base.specs.declared.machine.Machine.{Machine}
use Rattle.tss_base.specs.declared.event.Event.TheVariants as event
use Rattle.tss_base.specs.Image.{ImageState}
use Rattle.tss_maps.proofs.Keys.{name_order}
use Rattle.tss_maps.proofs.Changes.{from_removed, beside_removed}
use Rattle.tss_model.specs.Memory.{byte_at}
use Rattle.tss_protocol.specs.Mail.{GoneContents}
use Rattle.tss_protocol.specs.State.{State, CopyState}
use Rattle.tss_protocol.specs.Buffers.{buffer_bytes, contents_after_gone}
use Rattle.tss_protocol.specs.UnitMachine.{IsEnabled, is_enabled, after_event, without, gone_message_taken}
use Rattle.tss_phases.proofs.Tests.{something}
use Rattle.tss_locality.proofs.LeftFields.{Leaves-after_event}
use Rattle.tss_values.specs.Buffers.{HasBuffers}
use Rattle.tss_values.proofs.Values.{HasReturns}
use Rattle.tss_values.proofs.returns.Returns.{KeepsReturns, returns_kept}
use Rattle.tss_control.proofs.rounds.Facts.{Basis}

module _ (m : Machine) (S : State) (basis : Basis m S) (buffers : HasBuffers basis.ts S) (v : OpName)
    (g : GoneContents) (there : get S.mail.gones v ≡ Some g) where
  open basis use {ground}

  abbrev T : State
  T = after_event m S (event.Gone v)

  contents : T.contents ≡ contents_after_gone S.contents g.buffer
  unfolding after_event
  contents = ap (λ x. (gone_message_taken (without S (event.Gone v)) v x).contents) there

  gones : T.mail.gones ≡ remove S.mail.gones v
  unfolding after_event
  gones = ap (λ x. (gone_message_taken (without S (event.Gone v)) v x).mail.gones) there

  -- the bytes of a buffer that is copied
  copied_bytes : (bank : ℕ) (c : CopyState) → get S.copies bank ≡ Some c → (b : Option OpName) → g.buffer ≡ b
      → buffer_bytes (contents_after_gone S.contents b) c.buffer ≡ buffer_bytes S.contents c.buffer
  copied_bytes bank c at None is = refl
  copied_bytes bank c at (Some n) is =
      let apart : c.buffer ≢ n = λ same.
      let name = buffers.one v c.version n (inr (inr (inl (g, there, is))))
      (inr (inr (inr (bank, c, at, refl, same)))) in
      (ground.places.gones v g there).1 (bank, c, at, sym name) in
      ap (λ (o : Option (List ℕ)). unwrap_or o []) (beside_removed name_order S.contents n c.buffer apart)

  keeps_gone : KeepsReturns S T
  keeps_gone =
      let home : T.home ≡ S.home = λ j. (Leaves-after_event m S (event.Gone v) j).home in
      record {
        copies = λ bank c at.
            let old = (λ j. get (sym (λ j. (Leaves-after_event m S (event.Gone v) j).copies) j) bank) ∙ at in (
              old,
              ap (λ m. buffer_bytes m c.buffer) contents ∙ copied_bytes bank c old g.buffer refl,
              λ a inside. ap (λ m. byte_at m a) home,
            );
        gones = λ w c at last. (
          (from_removed name_order S.mail.gones v w c (ap (λ m. get m w) (sym gones) ∙ at)).1,
          λ a inside. ap (λ m. byte_at m a) home,
        );
      }

-- what is brought home after a gone
pub HasReturns-gone : (m : Machine) (i : ImageState) (S : State) (basis : Basis m S) → HasBuffers basis.ts S
    → HasReturns m i basis.ts S → (v : OpName) → IsEnabled m S (event.Gone v)
    → HasReturns m i basis.ts (after_event m S (event.Gone v))
unfolding is_enabled
HasReturns-gone m i S basis buffers h v on =
    let g = something is_some (get S.mail.gones v) refl on in
    returns_kept m i basis.ts S (after_event m S (event.Gone v)) (keeps_gone m S basis buffers v g.0 g.1) h
