-- Holders of buffers after a decode: an output takes a buffer of its own name, which nobody had.
use Rattle.std.proofs.Common.{◌≡◌, ◌≢◌, ◌⊎◌, inl, inr, ℕ, ◌≤◌, [], ◌∷◌, Option, Some, None, refl, sym, ap, ◌∙◌, arith}
use Rattle.std.specs.FinMap.{get, insert}
use Rattle.std.proofs.lemmas.Option.{none-some}
use Rattle.tss_base.specs.declared.operand.OpName.{OpName}
use Rattle.tss_base.specs.declared.operand.Mode.{Mode}
use Rattle.tss_base.specs.declared.operand.Mode.TheVariants.{Input, Output, Inout}
use Rattle.tss_base.specs.declared.operand.Operand.{Operand}
use Rattle.tss_base.specs.declared.machine.Machine.{Machine}
use Rattle.tss_base.specs.declared.event.Event.TheVariants as event
use Rattle.tss_base.specs.Names.{Named}
use Rattle.tss_maps.proofs.Keys.{name_order}
use Rattle.tss_maps.proofs.Changes.{from_inserted, at_inserted, beside_inserted}
use Rattle.tss_protocol.specs.Names.{bank_of}
use Rattle.tss_protocol.specs.Mail.{Home, Buffer, OpenContents, Message, Open, Ack, posted_all, taken}
use Rattle.tss_protocol.specs.State.{State, Entry}
use Rattle.tss_protocol.specs.Renaming.{takes_buffer, buffers_after_decode, opens_first, opens_over, live_message}
use Rattle.tss_protocol.specs.Renaming.{decode_message}
use Rattle.tss_protocol.specs.UnitMachine.{after_event, without, decode_message_taken}
use Rattle.tss_control.specs.Members.{operand_among}
use Rattle.tss_values.specs.Buffers.{HasBuffer, HasBuffers}
use Rattle.tss_control.proofs.rounds.EntriesNames.{decode_among}
use Rattle.tss_values.proofs.buffers.Kept.{PassesBuffers, buffers_kept}
use Rattle.tss_control.proofs.rounds.Facts.{Facts}

home_apart : (b : OpName) → Some Home ≡ Some (Buffer b) → ⊥
home_apart b e = cc

same_buffer : (o b : OpName) → Some (Buffer o) ≡ Some (Buffer b) → b ≡ o
same_buffer o b e = cc

at_most_itself : (a b : ℕ) → a ≡ b → a ≤ b
at_most_itself a b e = omega (arith, e)

module _ (m : Machine) (S : State) (facts : Facts m S) (h : HasBuffers facts.ts S) (o : OpName) (p : Operand)
    (there : get S.mail.decodes o ≡ Some p) where
  open facts use {basis, ts, ground, control as k}

  abbrev Base : State
  Base = decode_message_taken m (without S (event.Decode o)) o (Some p)

  -- by the buffers and the message
  abbrev Decoded : Named ℕ → Message → State
  Decoded bs x = record Base { buffers = bs; mail = posted_all (taken S.mail (event.Decode o)) (x ∷ Ack o ∷ []) }

  -- an open whose storage is no buffer
  open_passes : (c : OpenContents) → ((b : OpName) → c.storage ≡ Some (Buffer b) → ⊥)
      → PassesBuffers S (Decoded S.buffers (Open o c))
  open_passes c none = record {
    opens = λ w b t. elim (from_inserted name_order S.mail.opens o c w t.0 t.1) [
      | inl new ↦ absurd (none b (ap (λ (c : OpenContents). c.storage) (sym new.1) ∙ t.2))
      | inr old ↦ inl (t.0, old.1, t.2)
    ];
    versions = λ w b t. inr (inl t);
    gones = λ w b t. inr (inr (inl t));
    copies = λ w b t. inr (inr (inr t));
  }

  -- a use
  use_kept : (e : Entry) → HasBuffers ts (Decoded S.buffers (live_message o p e Input))
  use_kept e = buffers_kept ts S (Decoded S.buffers (live_message o p e Input)) h (record {
    opens = λ w b t. inl t;
    versions = λ w b t. inr (inl t);
    gones = λ w b t. inr (inr (inl t));
    copies = λ w b t. inr (inr (inr t));
  }) (λ w b bank t f. f)

  -- ---- a new buffer

  module _ (c : OpenContents) (own : c.storage ≡ Some (Buffer o)) (bank : ℕ) where
    abbrev Taken : State
    Taken = Decoded (insert S.buffers o bank) (Open o c)

    abbrev Was : OpName → OpName → Type 0
    Was w b = HasBuffer S w b ⊎ ((w ≡ o) × (b ≡ o))

    was : (w b : OpName) → HasBuffer Taken w b → Was w b
    was w b (inl t) = elim (from_inserted name_order S.mail.opens o c w t.0 t.1) [
      | inl new ↦
          inr (new.0, same_buffer o b (sym own ∙ ap (λ (c : OpenContents). c.storage) (sym new.1) ∙ t.2))
      | inr old ↦ inl (inl (t.0, old.1, t.2))
    ]
    was w b (inr (inl t)) = inl (inr (inl t))
    was w b (inr (inr (inl t))) = inl (inr (inr (inl t)))
    was w b (inr (inr (inr t))) = inl (inr (inr (inr t)))

    -- nobody had it
    unheld : (w b : OpName) → HasBuffer S w b → b ≢ o
    unheld w b t same =
        let f = h.held w b t in
        none-some p
        (sym (ground.names.buffers o f.0 (ap (get S.buffers) (sym same) ∙ f.1)).2 ∙ there)

    held_then : (w b : OpName) → Was w b → (n : ℕ) × (get (insert S.buffers o bank) b ≡ Some n)
    held_then w b (inl t) =
        let f = h.held w b t in
        (f.0, beside_inserted name_order S.buffers o bank b (unheld w b t) ∙ f.1)
    held_then w b (inr q) = (bank, ap (get (insert S.buffers o bank)) q.1 ∙ at_inserted name_order S.buffers o bank)

    one_then : (w u b : OpName) → Was w b → Was u b → w ≡ u
    one_then w u b (inl t) (inl r) = h.one w u b t r
    one_then w u b (inl t) (inr r) = absurd (unheld w b t r.1)
    one_then w u b (inr t) (inl r) = absurd (unheld u b r t.1)
    one_then w u b (inr t) (inr r) = t.0 ∙ sym r.0

    abbrev Own : OpName → OpName → Type 0
    Own w b = (r : Operand) × (q : Operand) × (operand_among ts w ≡ Some r) × (operand_among ts b ≡ Some q)
        × (q.object ≡ r.object) × (b.task ≤ w.task)

    own_then : (w b : OpName) → Was w b → Own w b
    own_then w b (inl t) = h.own w b t
    own_then w b (inr q) =
        let among = decode_among m S basis k.orderly o p there in (
          p,
          p,
          ap (operand_among ts) q.0 ∙ among,
          ap (operand_among ts) q.1 ∙ among,
          refl,
          at_most_itself b.task w.task (ap (λ (o : OpName). o.task) (q.1 ∙ sym q.0)),
        )

    buffer_taken : HasBuffers ts Taken
    buffer_taken = record {
      held = λ w b t. held_then w b (was w b t);
      one = λ w u b t r. one_then w u b (was w b t) (was u b r);
      own = λ w b t. own_then w b (was w b t);
    }

  -- ---- by the entry

  abbrev bank : ℕ
  bank = bank_of m.sizes p.object

  live_by : (e : Entry) (mode : Mode)
      → HasBuffers ts
      (Decoded (buffers_after_decode S.buffers o bank (takes_buffer (Some e) mode)) (live_message o p e mode))
  live_by e Input = use_kept e
  live_by e Output = buffer_taken _ refl bank
  live_by e Inout =
      buffers_kept ts S (Decoded S.buffers (opens_over o p e)) h (open_passes _ (λ b f. none-some (Buffer b) f))
      (λ w b n t f. f)

  entry_by : (entry : Option Entry)
      → HasBuffers ts
      (Decoded (buffers_after_decode S.buffers o bank (takes_buffer entry p.mode)) (decode_message o p entry))
  entry_by None =
      buffers_kept ts S (Decoded S.buffers (opens_first o p)) h (open_passes _ (λ b f. home_apart b f))
      (λ w b n t f. f)
  entry_by (Some e) = live_by e p.mode

  decoded : HasBuffers ts Base
  decoded = entry_by (get S.entries p.object.base)

module _ (m : Machine) (S : State) (facts : Facts m S) (h : HasBuffers facts.ts S) where
  open facts use {ts}

  decoded_of : (o : OpName) (p : Option Operand) → get S.mail.decodes o ≡ p
      → HasBuffers ts (decode_message_taken m (without S (event.Decode o)) o p)
  decoded_of o None e = buffers_kept ts S _ h (record {
    opens = λ w b t. inl t;
    versions = λ w b t. inr (inl t);
    gones = λ w b t. inr (inr (inl t));
    copies = λ w b t. inr (inr (inr t));
  }) (λ w b bank t f. f)
  decoded_of o (Some p) e = decoded m S facts h o p e

  -- decode
  pub HasBuffers-decode : (o : OpName) → HasBuffers ts (after_event m S (event.Decode o))
  unfolding after_event
  HasBuffers-decode o = decoded_of o (get S.mail.decodes o) refl
