-- Entries where an open has been taken and its version is registered, before the one that it follows is settled.
use Rattle.std.proofs.Common.{◌≡◌, ◌≢◌, ℕ, List, Some, None, refl, sym, ap, ◌∙◌, inl, inr}
use Rattle.std.specs.FinMap.{get, remove}
use Rattle.std.proofs.lemmas.Option.{none-some, same_Some}
use Rattle.tss_base.specs.declared.range.Range.{Range}
use Rattle.tss_base.specs.declared.operand.OpName.{OpName}
use Rattle.tss_base.specs.declared.operand.Operand.{Operand}
use Rattle.tss_base.specs.declared.operand.Task.{Task}
use Rattle.tss_base.specs.declared.marks.Follow.{Follow}
use Rattle.tss_base.specs.Names.{Named}
use Rattle.tss_maps.proofs.Keys.{name_order, decide_key}
use Rattle.tss_maps.proofs.Changes.{at_removed, beside_removed}
use Rattle.tss_protocol.specs.Mail.{OpenContents}
use Rattle.tss_protocol.specs.State.{State, Entry, Version}
use Rattle.tss_phases.specs.Phase.{Sent, Waiting, look_ups, phase_at, phase_of, is_decoded}
use Rattle.tss_phases.specs.Orderly.{AreOrderly}
use Rattle.tss_phases.proofs.AloneLemmas.{silent_but_opening}
use Rattle.tss_phases.proofs.PhaseLemmas.{phase_silent, phase_opening, station_told}
use Rattle.tss_phases.proofs.OrderlyLemmas.{fits_at}
use Rattle.tss_control.specs.Members.{IsVersionOf}
use Rattle.tss_control.specs.Chains.{HasChains}
use Rattle.tss_control.specs.Entries.{IsLeaving, IsGoingHome, IsUsed, IsRetiring, IsLastVersion, HasEntries}
use Rattle.tss_control.proofs.rounds.EntriesFrames.{DecodesNoMore, KeepsLeaving, entries_kept}
use Rattle.tss_control.proofs.chains.Registered.{Registers, version_back, open_back, member_back, member_on, total_same}
use Rattle.tss_control.proofs.chains.Registered.{still, old_apart, front_object}

-- ---- a version is registered

-- what else an open leaves
pub record LeavesRest (S T : State) : Type 0 where
  pub entries : T.entries ≡ S.entries
  pub copies : T.copies ≡ S.copies
  pub retires : T.mail.retires ≡ S.mail.retires
  pub gones : T.mail.gones ≡ S.mail.gones

module _ (ts : List Task) (S T : State) (chains : HasChains ts S) (h : HasEntries ts S) (o : OpName) (c : OpenContents)
    (n : Version) (d : Registers S T o c n) (k : LeavesRest S T) (no_retire : get S.mail.retires o ≡ None)
    (decoded : DecodesNoMore ts S T) where
  -- what leaves left before
  going_back : (x : Range) (w : OpName) → IsGoingHome T x w → IsGoingHome S x w
  going_back x w (inl g) = inl (g.0, g.1, sym (ap (λ m. get m g.0) k.copies) ∙ g.2, g.3, g.4)
  going_back x w (inr g) = inr (g.0, sym (ap (λ m. get m w) k.gones) ∙ g.1, g.2, g.3)

  going_on : (x : Range) (w : OpName) → IsGoingHome S x w → IsGoingHome T x w
  going_on x w (inl g) = inl (g.0, g.1, ap (λ m. get m g.0) k.copies ∙ g.2, g.3, g.4)
  going_on x w (inr g) = inr (g.0, ap (λ m. get m w) k.gones ∙ g.1, g.2, g.3)

  retires_not_new : (w : OpName) → get T.mail.retires w ≡ Some tt → w ≢ o
  retires_not_new w may is =
      none-some tt
      (sym no_retire ∙ ap (λ q. get S.mail.retires q) (sym is) ∙ sym (ap (λ m. get m w) k.retires) ∙ may)

  leaving_back : (x : Range) (w : OpName) → IsLeaving T x w → IsLeaving S x w
  leaving_back x w (inr g) = inr (going_back x w g)
  leaving_back x w (inl r) = elim (version_back ts S T chains o c n d x w r.1) [
    | inl new ↦ absurd (retires_not_new w r.0 new.0)
    | inr old ↦ inl (sym (ap (λ m. get m w) k.retires) ∙ r.0, old)
  ]

  leaving_on : (x : Range) (w : OpName) → IsLeaving S x w → IsLeaving T x w
  leaving_on x w (inr g) = inr (going_on x w g)
  leaving_on x w (inl r) =
      let t = still ts S T chains o c n d w r.1.0 r.1.1 in
      inl (ap (λ m. get m w) k.retires ∙ r.0, (t.0, t.1, t.2 ∙ r.1.2))

  use_back : (x : Range) → IsUsed ts T x → IsUsed ts S x
  use_back x u = (u.0, u.1, u.2, sym (ap (λ us. get us u.0) d.uses) ∙ u.3, u.4, u.5)

  -- an object that retires isn't that of the open
  module _ (b : ℕ) (e : Entry) (stands : get S.entries b ≡ Some e) (r : IsRetiring ts S e.object e) where
    other_object : c.operand.object ≢ e.object
    other_object same = r.no_open o (c, d.opening, same)

    version_was : (w : OpName) → IsVersionOf T e.object w → IsVersionOf S e.object w
    version_was w m = elim (version_back ts S T chains o c n d e.object w m) [
      | inl new ↦ absurd (other_object new.1)
      | inr old ↦ old
    ]

    -- its versions are as they were
    same_version : (w : OpName) (y : Version) → get T.versions w ≡ Some y → IsVersionOf S e.object w
        → get S.versions w ≡ Some y
    same_version w y at m =
        sym (d.others w (old_apart ts S T chains o c n d w m.0 m.1) not_front) ∙ at
      where
        not_front : (f : Follow) → c.follows ≡ Some f → w ≢ f.version
        not_front f to is =
            let one = same_Some (d.behind f to).0 m.0
            (sym (d.behind f to).1 ∙ ap (λ q. get S.versions q) (sym is) ∙ m.1) in
            other_object
            (sym (front_object ts S T chains o c n d f to) ∙ ap (λ (u : Version). u.object) one ∙ m.2)

    latest_object : (y : Version) → get S.versions e.latest ≡ Some y → y.object ≡ e.object
    latest_object y at =
        let p = chains.opener e.latest y at in
        let q = (h.operand b e stands).1 in
        sym p.2 ∙ ap (λ (z : Operand). z.object) (same_Some p.0 q.0 (sym p.1 ∙ q.1)) ∙ q.2

    last_version : (y : Version) → get T.mail.retires e.latest ≡ Some tt → get T.versions e.latest ≡ Some y
        → IsLastVersion T e.object e y
    last_version y may at = elim (version_back ts S T chains o c n d y.object e.latest (y, at, refl)) [
      | inl new ↦ absurd (retires_not_new e.latest may new.0)
      | inr old ↦
          let there = same_version e.latest y at (old.0, old.1, latest_object old.0 old.1) in
          let l = r.last y (sym (ap (λ m. get m e.latest) k.retires) ∙ may) there in
          record {
            only = λ w m. l.only w (version_was w m);
            asked = l.asked;
            registered = l.registered;
            released = l.released;
          }
    ]

    retiring_on : KeepsLeaving S T e
    retiring_on = record {
      leaving = leaving_on e.object e.latest r.leaving;
      last = last_version;
      none = λ g w m. r.none (going_back e.object e.latest g) w (version_was w m);
    }

  -- the entries are as good
  pub entries_registered : HasEntries ts T
  entries_registered = entries_kept ts S T h (record {
    entries = k.entries;
    more = record {
      members = member_back ts S T chains o c n d;
      opens = λ x w m. (open_back ts S T chains o c n d x w m).1;
      uses = use_back;
      leaving = leaving_back;
    };
    live = λ b e at l. record {
      member = member_on ts S T chains o c n d e.object e.latest l.member;
      sent = total_same ts S T chains o c n d e.latest;
    };
    retiring = λ b e at on r. retiring_on b e at r;
    decoded = decoded;
  })

-- ---- an operand whose open is taken still has been decoded

-- the state with the open taken, whatever its versions are
abbrev open_taken : State → OpName → Named Version → State
open_taken S o vs = record S { versions = vs; mail = record (S.mail) { opens = remove S.mail.opens o } }

module _ (S : State) (orderly : AreOrderly S) (o : OpName) (c : OpenContents) (opening : get S.mail.opens o ≡ Some c)
    (vs : Named Version) where
  -- it was sent
  opening_sent : phase_of S o ≡ Sent
  opening_sent =
      let l = look_ups S o in
      let s = silent_but_opening l c (orderly o).alone opening in
      phase_opening l c s.decoding opening

  -- and waits now
  opened_waits : phase_of (open_taken S o vs) o ≡ Waiting
  opened_waits =
      let l = look_ups S o in
      let s = silent_but_opening l c (orderly o).alone opening in
      let fresh = (fits_at l Sent (orderly o) opening_sent).0 in
      (λ i. phase_at (record l { opening = at_removed name_order S.mail.opens o i }))
      ∙ phase_silent (record l { opening = None }) s
      ∙ station_told l None fresh

  -- the others are as they were
  opened_others : (q : OpName) → q ≢ o → phase_of (open_taken S o vs) q ≡ phase_of S q
  opened_others q far =
      λ i. phase_at (record (look_ups S q) { opening = beside_removed name_order S.mail.opens o q far i })

  -- so the same operands have been decoded
  pub opened_decoded : (q : OpName) → is_decoded (phase_of (open_taken S o vs) q) ≡ is_decoded (phase_of S q)
  opened_decoded q = elim (decide_key name_order q o) [
    | inl is ↦
        ap (λ k. is_decoded (phase_of (open_taken S o vs) k)) is
        ∙ ap is_decoded opened_waits
        ∙ ap is_decoded (sym opening_sent)
        ∙ ap (λ k. is_decoded (phase_of S k)) (sym is)
    | inr far ↦ ap is_decoded (opened_others q far)
  ]
