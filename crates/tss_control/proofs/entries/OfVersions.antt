-- The entry of a registered version's object, and how many readers it knows.
use Rattle.std.proofs.Common.{◌≡◌, ℕ, ◌+◌, ◌≤◌, inl, inr, Bool, true, false, Some, None, refl, sym, ap, ◌∙◌, subst}
use Rattle.std.proofs.Common.{arith}
use Rattle.std.specs.FinMap.{get}
use Rattle.std.proofs.lemmas.Option.{none-some}
use Rattle.tss_base.specs.declared.operand.OpName.{OpName}
use Rattle.tss_base.specs.declared.operand.Operand.{Operand}
use Rattle.tss_base.specs.declared.machine.Machine.{Machine}
use Rattle.tss_protocol.specs.State.{State, Version}
use Rattle.tss_control.specs.Members.{operand_among, IsVersionOf, IsMember, registered_of, opening_reader, uses_of}
use Rattle.tss_control.specs.Members.{total}
use Rattle.tss_control.specs.Entries.{HasEntryOf, IsLeaving, IsRetiring}
use Rattle.tss_control.proofs.rounds.ReadersCounts.{few_released}
use Rattle.tss_control.proofs.rounds.EntryOf.{decide_entry_of}
use Rattle.tss_control.proofs.rounds.Facts.{Facts}

module _ (m : Machine) (S : State) (facts : Facts m S) where
  open facts use {basis, ts, g, control as h}

  -- an operand of a member's object has an entry there
  pub entry_of_member : (o : OpName) (p : Operand) → operand_among ts o ≡ Some p → (v : OpName) → IsMember S p.object v
      → HasEntryOf S p.object
  entry_of_member o p among v k = elim (decide_entry_of S p.object) [
    | inl f ↦ f
    | inr none ↦ absurd ((h.entries.absent o p among none).members v k)
  ]

  module _ (v : OpName) (x : Version) (at : get S.versions v ≡ Some x) where
    -- the object of a registered version has an entry
    pub entry_of_version : HasEntryOf S x.object
    entry_of_version =
        let p = h.chains.opener v x at in
        subst (HasEntryOf S) p.2 (entry_of_member v p.0 p.1 v (inl (x, at, sym p.2)))

    -- where it doesn't may retire, and its object retires, that is no entry of it
    pub entry_awake_of : (e : HasEntryOf S x.object) → get S.mail.retires v ≡ None → e.entry.retiring ≡ false
    entry_awake_of e quiet = by e.entry.retiring refl
      where
        here : IsVersionOf S e.entry.object v
        here = (x, at, sym e.object)

        clash : IsRetiring ts S e.entry.object e.entry → IsLeaving S e.entry.object e.entry.latest → ⊥
        clash r (inl may) =
            let y = may.1 in
            let one = (r.last y.0 may.0 y.1).only v here in
            none-some tt (sym quiet ∙ ap (get S.mail.retires) one ∙ may.0)
        clash r (inr going) = r.none going v here

        by : (b : Bool) → e.entry.retiring ≡ b → e.entry.retiring ≡ false
        by false off = off
        by true on =
            let r = h.entries.retiring x.object.base e.entry e.there on in absurd (clash r r.leaving)

    -- no more readers have released it than have come
    pub released_within : x.released ≤ x.registered
    released_within =
        let r = h.readers.versions v x at in
        omega (arith, few_released S (g v), r.registered, r.released)

    -- and no more have come than were directed to it
    pub registered_within : x.registered ≤ total S v
    registered_within =
        let t = ap (λ o. registered_of o + opening_reader (get S.mail.opens v) + uses_of S.mail.uses v) at in
        bound x.registered (opening_reader (get S.mail.opens v)) (uses_of S.mail.uses v) (total S v) t
      where
        bound : (a b c n : ℕ) → n ≡ a + b + c → a ≤ n
        bound a b c n e = omega (arith, e)
