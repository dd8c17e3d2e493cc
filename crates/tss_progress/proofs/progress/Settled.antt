-- A settle loses no buffer: what a version held is held by a version after it, or by a message that a version is gone.
use Rattle.std.proofs.Common.{◌≡◌, ◌≢◌, ◌⊎◌, false, List, [], ◌∷◌, Option, Some, None, refl, sym, ap, ◌∙◌, subst, inl}
use Rattle.std.proofs.Common.{inr}
use Rattle.std.specs.FinMap.{get, insert}
use Rattle.std.proofs.lemmas.Option.{none-some, same_Some}
use Rattle.tss_base.specs.declared.operand.OpName.{OpName}
use Rattle.tss_base.specs.declared.operand.Task.{Task}
use Rattle.tss_base.specs.declared.marks.How.TheVariants.{Beside, Over}
use Rattle.tss_base.specs.declared.marks.Follow.{Follow}
use Rattle.tss_base.specs.Names.{Named}
use Rattle.tss_maps.proofs.Keys.{name_order, decide_key}
use Rattle.tss_maps.proofs.Changes.{at_inserted, beside_inserted}
use Rattle.tss_protocol.specs.Mail.{StorageName, Buffer, OpenContents, GoneContents, Mail, posted_all}
use Rattle.tss_protocol.specs.State.{State, Version}
use Rattle.tss_protocol.specs.Versions.{Versioned, put_version, ready_with, buffer_of, died, unlinked, settle_over}
use Rattle.tss_protocol.specs.Versions.{settle_asking, sending, settled, followed}
use Rattle.tss_control.specs.Chains.{HasChains}
use Rattle.tss_control.specs.Entries.{HasRetirement}
use Rattle.tss_names.proofs.PlainLemmas.{name_apart}
use Rattle.tss_protocol.proofs.SettleCases.{OthersSettled, HasNext, IsQuiet, Asks, IsTakenOver, IsPassedBy, SettleCase}
use Rattle.tss_protocol.proofs.SettleCases.{moved_up, settle_cases}
use Rattle.tss_protocol.proofs.UnlinkedVersions.{GaveWay, bridged, gave_way_beside, gave_way_over}
use Rattle.tss_control.proofs.chains.Settled.{chains_next, chains_own}
use Rattle.tss_control.proofs.chains.Released.{others_written}
use Rattle.tss_control.proofs.chains.Registered.{linked_to}
use Rattle.tss_control.proofs.chains.Open.{following, at_followed, behind_followed, others_followed}

-- ---- who holds a buffer

-- a version does
abbrev pub VersionHolds : Named Version → OpName → Type 0
VersionHolds vs n = (v : OpName) × (y : Version) × (get vs v ≡ Some y) × (y.storage ≡ Some (Buffer n))

-- a message that a version is gone does
abbrev pub GoneHolds : Named GoneContents → OpName → Type 0
GoneHolds gs n = (v : OpName) × (g : GoneContents) × (get gs v ≡ Some g) × (g.buffer ≡ Some n)

-- one of them
abbrev pub HoldsIn : Named Version → Named GoneContents → OpName → Type 0
HoldsIn vs gs n = VersionHolds vs n ⊎ GoneHolds gs n

-- a version that is written over with the same storage
pub put_holds : (vs : Named Version) (v : OpName) (x y : Version) (n : OpName) → get vs v ≡ Some x
    → y.storage ≡ x.storage → VersionHolds vs n → VersionHolds (insert vs v y) n
put_holds vs v x y n there same h = elim (decide_key name_order h.0 v) [
  | inl is ↦
      let one = same_Some h.1 x (sym h.2 ∙ ap (get vs) is ∙ there) in
      (v, y, at_inserted name_order vs v y, same ∙ ap (λ (x : Version). x.storage) (sym one) ∙ h.3)
  | inr other ↦ (h.0, h.1, beside_inserted name_order vs v y h.0 other ∙ h.2, h.3)
]

-- ---- a settle

-- what is known where a version is settled
pub record CanSettle (vs : Named Version) (v : OpName) : Type 0 where
  pub others : OthersSettled vs v
  pub next : (x : Version) → get vs v ≡ Some x → HasNext vs v x
  pub own : (x : Version) → get vs v ≡ Some x → x.predecessor ≡ Some v → ⊥
  pub free : (x : Version) (f : Follow) (y : Version) → get vs v ≡ Some x → x.successor ≡ Some f → f.how ≡ Over
      → get vs f.version ≡ Some y → y.storage ≡ None

module _ (vs : Named Version) (v : OpName) (can : CanSettle vs v) (m : Mail)
    (fresh : (x : Version) → get vs v ≡ Some x → get m.gones v ≡ None) (n : OpName) where
  -- after an outcome
  abbrev After : Versioned → Type 0
  After d = HoldsIn d.part (posted_all m d.sent).gones n

  asking_holds : (us : Named Version) (s : OpName) (x : Version) → get us s ≡ Some x → VersionHolds us n
      → VersionHolds (settle_asking us s x).part n
  asking_holds us s x there h = put_holds us s x (record x { asked = Some x.registered }) n there refl h

  quiet_holds : (d : Versioned) → IsQuiet vs v d → HoldsIn vs m.gones n → After d
  quiet_holds d q h = subst After (sym q.is) h

  asks_holds : (d : Versioned) → Asks vs v d → HoldsIn vs m.gones n → After d
  asks_holds d a (inl h) = subst After (sym a.is) (inl (asking_holds vs v a.version a.there h))
  asks_holds d a (inr h) = subst After (sym a.is) (inr h)

  -- a version other than v and the one that follows it
  beside_holds : (ws : Named Version) (x : Version) (s : OpName) (z : Version) → GaveWay vs ws v x s z → (q : OpName)
      (y : Version) → get vs q ≡ Some y → y.storage ≡ Some (Buffer n) → q ≢ v → q ≢ s → VersionHolds ws n
  beside_holds ws x s z w q y there holds far other = by x.predecessor refl
    where
      by : (p : Option OpName) → x.predecessor ≡ p → VersionHolds ws n
      by None e = (q, y, w.others q far other (λ is. none-some q (sym e ∙ is)) ∙ there, holds)
      by (Some p) e = elim (decide_key name_order q p) [
        | inl same ↦ (q, bridged s y, w.before q y (e ∙ ap Some (sym same)) there, holds)
        | inr apart ↦ (q, y, w.others q far other (λ is. apart (same_Some q p (sym is ∙ e))) ∙ there, holds)
      ]

  -- the messages of a version that is told have none
  told_gones : (o w : OpName) (s : Option StorageName) (k : Mail) → (posted_all k (ready_with o w s)).gones ≡ k.gones
  told_gones o w None k = refl
  told_gones o w (Some s) k = refl

  gone_before : (g : GoneContents) (x : Version) → get vs v ≡ Some x → GoneHolds m.gones n
      → GoneHolds (insert m.gones v g) n
  gone_before g x there h =
      let other = name_apart m.gones h.0 v h.1 h.2 (fresh x there) in
      (h.0, h.1, beside_inserted name_order m.gones v g h.0 other ∙ h.2, h.3)

  over_holds : (d : Versioned) → IsTakenOver vs v d → HoldsIn vs m.gones n → After d
  over_holds d o h =
      let x = o.version in
      let there = o.gives.there in
      let next = can.next x there o.follow o.gives.next in
      let w = gave_way_over vs v x o.follow.version next.1 next.2 (can.own x there) next.0.0 next.0.1 in
      subst After (sym o.is) (by w h)
    where
      s : OpName
      s = o.follow.version

      after : Version
      after = (can.next o.version o.gives.there o.follow o.gives.next).0.0

      gones : GoneHolds (insert m.gones v (record { object = o.version.object; buffer = None; retired = false })) n
          → GoneHolds (posted_all m (settle_over vs v o.version s).sent).gones n
      gones h = subst (λ gs. GoneHolds gs n) (sym (told_gones s s o.version.storage _)) h

      by : GaveWay vs (settle_over vs v o.version s).part v o.version s
          (record (moved_up o.version after) { storage = o.version.storage })
          → HoldsIn vs m.gones n → After (settle_over vs v o.version s)
      by w (inr h) = inr (gones (gone_before _ o.version o.gives.there h))
      by w (inl h) = elim (decide_key name_order h.0 v) [
        | inl is ↦
            let one = same_Some h.1 o.version (sym h.2 ∙ ap (get vs) is ∙ o.gives.there) in
            inl (s, _, w.next, ap (λ (x : Version). x.storage) (sym one) ∙ h.3)
        | inr far ↦ elim (decide_key name_order h.0 s) [
          | inl is ↦
              absurd (none-some (Buffer n) (sym (can.free o.version o.follow h.1 o.gives.there o.gives.next o.gives.way
              (ap (get vs) (sym is) ∙ h.2)) ∙ h.3))
          | inr other ↦ inl (beside_holds _ o.version s _ w h.0 h.1 h.2 h.3 far other)
        ]
      ]

  -- what is done next sends no message that a version is gone, and leaves what versions hold
  module _ (us : Named Version) (s : OpName) (on : Versioned) where
    next_gones : (k : Mail) → IsQuiet us s on ⊎ Asks us s on → (posted_all k on.sent).gones ≡ k.gones
    next_gones k (inl q) = ap (λ (d : Versioned). (posted_all k d.sent).gones) q.is
    next_gones k (inr a) = ap (λ (d : Versioned). (posted_all k d.sent).gones) a.is

    next_holds : IsQuiet us s on ⊎ Asks us s on → VersionHolds us n → VersionHolds on.part n
    next_holds (inl q) h = subst (λ (d : Versioned). VersionHolds d.part n) (sym q.is) h
    next_holds (inr a) h =
        subst (λ (d : Versioned). VersionHolds d.part n) (sym a.is) (asking_holds us s a.version a.there h)

  passed_holds : (d : Versioned) → IsPassedBy vs v d → HoldsIn vs m.gones n → After d
  passed_holds d p h =
      let next = can.next p.version p.gives.there p.follow p.gives.next in
      subst After (sym p.is) (by (gave_way_beside vs v p.version p.follow.version next.1 next.2
      (can.own p.version p.gives.there) p.next p.next_there) h)
    where
      x : Version
      x = p.version

      s : OpName
      s = p.follow.version

      us : Named Version
      us = unlinked vs v p.version p.follow.version

      left : GoneContents
      left = record { object = p.version.object; buffer = buffer_of p.version.storage; retired = false }

      gones : GoneHolds (insert m.gones v left) n
          → GoneHolds
          (posted_all m (sending (died v p.version.object (buffer_of p.version.storage) ∷ []) p.on).sent).gones n
      gones h = subst (λ gs. GoneHolds gs n) (sym (next_gones us s p.on _ p.rest)) h

      moved : GaveWay vs us v p.version s (moved_up p.version p.next) → (q : OpName) (y : Version)
          → get vs q ≡ Some y → y.storage ≡ Some (Buffer n) → q ≢ v → VersionHolds us n
      moved w q y there holds far = elim (decide_key name_order q s) [
        | inl is ↦
            let one = same_Some y p.next (sym there ∙ ap (get vs) is ∙ p.next_there) in
            (s, moved_up p.version p.next, w.next, ap (λ (y : Version). y.storage) (sym one) ∙ holds)
        | inr other ↦ beside_holds us p.version s (moved_up p.version p.next) w q y there holds far other
      ]

      by : GaveWay vs us v p.version s (moved_up p.version p.next) → HoldsIn vs m.gones n
          → After (sending (died v p.version.object (buffer_of p.version.storage) ∷ []) p.on)
      by w (inr h) = inr (gones (gone_before left p.version p.gives.there h))
      by w (inl h) = elim (decide_key name_order h.0 v) [
        | inl is ↦
            let one = same_Some h.1 p.version (sym h.2 ∙ ap (get vs) is ∙ p.gives.there) in
            inr (gones (
              v,
              left,
              at_inserted name_order m.gones v left,
              ap buffer_of (ap (λ (x : Version). x.storage) (sym one) ∙ h.3),
            ))
        | inr far ↦ inl (next_holds us s p.on p.rest (moved w h.0 h.1 h.2 h.3 far))
      ]

  case_holds : (d : Versioned) → SettleCase vs v d → HoldsIn vs m.gones n → After d
  case_holds d (inl q) h = quiet_holds d q h
  case_holds d (inr (inl a)) h = asks_holds d a h
  case_holds d (inr (inr (inl o))) h = over_holds d o h
  case_holds d (inr (inr (inr p))) h = passed_holds d p h

  -- a settle keeps what is held
  pub settled_holds : HoldsIn vs m.gones n → HoldsIn (settled vs v).part (posted_all m (settled vs v).sent).gones n
  settled_holds h = case_holds (settled vs v) (settle_cases vs v can.others can.next) h

-- ---- where a version may be settled

-- a version that was written over with the same neighbours
pub can_settle_written : (ts : List Task) (S : State) → HasChains ts S → HasRetirement S → (v : OpName) (x y : Version)
    → get S.versions v ≡ Some x → y.successor ≡ x.successor → y.predecessor ≡ x.predecessor
    → CanSettle (put_version S.versions v y) v
can_settle_written ts S chains retirement v x y there after before = record {
  others = others_written S retirement v y;
  next = λ z e f to.
      let g = chains_next ts S chains v x there f (sym after ∙ own z e f to) in (
        (g.0.0, beside_inserted name_order S.versions v y f.version g.1 ∙ g.0.1),
        g.1,
        (λ b. g.2 (sym before ∙ ap (λ (z : Version). z.predecessor) (is z e) ∙ b)),
      );
  own = λ z e b. chains_own ts S chains v x there (sym before ∙ ap (λ (z : Version). z.predecessor) (is z e) ∙ b);
  free = λ z f u e to over at.
      let follows = sym after ∙ own z e f to in
      let g = chains_next ts S chains v x there f follows in
      let next = (chains.linked v x there).followed f follows in
      let one = same_Some next.version u
      (sym next.there ∙ sym (beside_inserted name_order S.versions v y f.version g.1) ∙ at) in
      sym (ap (λ (u : Version). u.storage) one)
      ∙ (chains.storages f.version next.version next.there).over.1 (v, x, f, next.back, there, follows, over);
}
  where
    is : (z : Version) → get (put_version S.versions v y) v ≡ Some z → y ≡ z
    is z e = same_Some y z (sym (at_inserted name_order S.versions v y) ∙ e)

    own : (z : Version) → get (put_version S.versions v y) v ≡ Some z → (f : Follow) → z.successor ≡ Some f
        → y.successor ≡ Some f
    own z e f to = ap (λ (z : Version). z.successor) (is z e) ∙ to

over_apart : Beside ≡ Over → ⊥
over_apart e = cc

-- one that is followed now
pub can_settle_followed : (ts : List Task) (S : State) → HasChains ts S → HasRetirement S → (o : OpName)
    (c : OpenContents) (f : Follow) → get S.mail.opens o ≡ Some c → c.follows ≡ Some f → get S.versions o ≡ None
    → (u : Version) → get S.versions f.version ≡ Some u → CanSettle (followed S.versions o c f) f.version
can_settle_followed ts S chains retirement o c f opening follows fresh u there = record {
  others = others_followed S.versions o c f apart retirement.settled;
  next = λ z e g to.
      let same : g.version ≡ o = ap (λ (g : Follow). g.version) (sym (follow z e g to)) in (
        (following c f, ap (get (followed S.versions o c f)) same ∙ at_followed S.versions o c f apart),
        (λ is. apart (sym is ∙ same)),
        (λ b. no_opener (own z e ∙ b ∙ ap Some same)),
      );
  own = λ z e b. chains_own ts S chains f.version u there (own z e ∙ b);
  free = λ z g y e to over at.
      let same = follow z e g to in
      let one = same_Some (following c f) y (sym (at_followed S.versions o c f apart)
      ∙ ap (get (followed S.versions o c f)) (ap (λ (g : Follow). g.version) same) ∙ at) in
      ap (λ (y : Version). y.storage) (sym one)
      ∙ stored (ap (λ (g : Follow). g.how) same ∙ over);
}
  where
    apart : f.version ≢ o
    apart = name_apart S.versions f.version o u there fresh

    is : (z : Version) → get (followed S.versions o c f) f.version ≡ Some z → linked_to o f u ≡ z
    is z e = same_Some (linked_to o f u) z (sym (behind_followed S.versions o c f apart u there) ∙ e)

    follow : (z : Version) → get (followed S.versions o c f) f.version ≡ Some z → (g : Follow) → z.successor ≡ Some g
        → record f { version = o } ≡ g
    follow z e g to =
        same_Some (record f { version = o }) g (ap (λ (z : Version). z.successor) (is z e) ∙ to)

    own : (z : Version) → get (followed S.versions o c f) f.version ≡ Some z → u.predecessor ≡ z.predecessor
    own z e = ap (λ (z : Version). z.predecessor) (is z e)

    no_opener : u.predecessor ≡ Some o → ⊥
    no_opener b =
        let a = (chains.linked f.version u there).after o b in
        none-some a.version (sym fresh ∙ a.there)

    stored : f.how ≡ Over → c.storage ≡ None
    stored over = elim ((chains.opens o c opening).after f follows).way [
      | inl taken ↦ taken.2
      | inr beside ↦ absurd (over_apart (sym beside.1 ∙ over))
    ]
