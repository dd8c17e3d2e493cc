-- What is known of a decode under way: older members of its object, and that earlier writers have been decoded.
use Rattle.std.proofs.Common.{◌≡◌, ◌≢◌, ℕ, ◌≤◌, ◌<◌, true, Some, None, sym, ap, ◌∙◌, subst, inl, inr, arith}
use Rattle.std.specs.FinMap.{get}
use Rattle.std.proofs.lemmas.Option.{none-some, same_Some}
use Rattle.tss_base.specs.declared.operand.OpName.{OpName}
use Rattle.tss_base.specs.declared.operand.Operand.{Operand}
use Rattle.tss_base.specs.declared.machine.Machine.{Machine}
use Rattle.tss_maps.proofs.Changes.{decide_get}
use Rattle.tss_protocol.specs.Names.{bank_of}
use Rattle.tss_protocol.specs.State.{State, Entry}
use Rattle.tss_protocol.specs.Renaming.{HasTurn}
use Rattle.tss_protocol.proofs.TurnLemmas.{none_before_turn}
use Rattle.tss_phases.specs.Phase.{phase_of, is_decoded}
use Rattle.tss_phases.specs.Orderly.{AreOrderly}
use Rattle.tss_control.specs.Members.{operand_among, IsWriterOn, NoWriterBetween, IsMember}
use Rattle.tss_control.specs.Chains.{HasChains}
use Rattle.tss_control.specs.Entries.{HasEntries}
use Rattle.tss_names.proofs.NumberLemmas.{number_within}
use Rattle.tss_control.proofs.rounds.EntriesNames.{name_decoded, decode_among, none_later, member_operand, no_version}
use Rattle.tss_control.proofs.rounds.EntriesNames.{no_open}
use Rattle.tss_control.proofs.rounds.Facts.{Basis}

module _ (m : Machine) (S : State) (basis : Basis m S) where
  open basis use {all, ts, ground}

  module _ (orderly : AreOrderly S) (o : OpName) (p : Operand) (there : get S.mail.decodes o ≡ Some p) where
    -- at its turn, an operand of an earlier task of the round on an object of its bank has been decoded
    pub earlier_decoded : HasTurn m.sizes S.mail.decodes o p
        → (w : OpName) (r : Operand) → operand_among ts w ≡ Some r → w.task < o.task
        → bank_of m.sizes r.object ≡ bank_of m.sizes p.object → is_decoded (phase_of S w) ≡ true
    earlier_decoded turn w r among older bank =
        let of = ground.known.operands w r among in
        let low = (number_within all w.task of.task of.spawned).0 in
        let taken = (ground.gateway.each o (ground.gateway.decodes o p there).0).0.1 in
        name_decoded m all S ground.numbers orderly w
        ((low, omega (arith, older, taken)), (r, of), none)
      where
        own : (d : Operand) → get S.mail.decodes w ≡ Some d → d ≡ r
        own d e = same_Some d r (sym (decode_among m S basis orderly w d e) ∙ among)

        none : get S.mail.decodes w ≡ None
        none = elim (decide_get S.mail.decodes w) [
          | inl e ↦ e
          | inr d ↦
              absurd (none_before_turn m.sizes (bank_of m.sizes p.object) S.mail.decodes o turn w d.0 d.1 older
              (ap (λ (d : Operand). bank_of m.sizes d.object) (own d.0 d.1) ∙ bank))
        ]

    -- a member of the object is of an earlier task
    pub members_earlier : HasChains ts S → (q : OpName) → IsMember S p.object q → q.task < o.task
    members_earlier chains q member =
        let k = member_operand m S basis orderly chains p.object q member in
        let among = decode_among m S basis orderly o p there in
        let low = none_later m S basis orderly o q p k.0.0 there k.0.1 k.0.2 k.1 in
        below q.task o.task low
        (λ same. itself (subst (IsMember S p.object) (ground.known.single q o k.0.0 p k.0.1 among k.0.2 same) member))
      where
        below : (a b : ℕ) → a ≤ b → a ≢ b → a < b
        below a b h k = omega (arith, h, k)

        itself : IsMember S p.object o → ⊥
        itself (inl y) = none-some y.0 (sym (no_version m S basis orderly o p there) ∙ y.1)
        itself (inr c) = none-some c.0 (sym (no_open m S basis orderly o p there) ∙ c.1)

    -- none of a task between the latest version and it writes the object
    pub no_writer_since : HasTurn m.sizes S.mail.decodes o p
        → HasEntries ts S → (b : ℕ) (e : Entry) → get S.entries b ≡ Some e → e.object ≡ p.object
        → NoWriterBetween ts p.object e.latest o
    no_writer_since turn h b e at object w late early writer =
        let decoded = earlier_decoded turn w writer.operand writer.there early (ap (bank_of m.sizes) writer.object) in
        let low = h.decoded b e w at (subst (λ r. IsWriterOn ts r w) (sym object) writer) decoded in
        crossed e.latest.task w.task late low
      where
        crossed : (a b : ℕ) → a < b → b ≤ a → ⊥
        crossed a b h k = omega (arith, h, k)
