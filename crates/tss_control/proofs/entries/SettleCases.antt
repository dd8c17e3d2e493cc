-- What a settle leaves, in each of its cases: the versions, and the one of which it says that it has died.
use Rattle.std.proofs.Common.{◌≡◌, ◌≢◌, inl, inr, true, false, List, [], ◌∷◌, Option, Some, None, refl, sym, ap, ◌∙◌}
use Rattle.std.proofs.Common.{subst}
use Rattle.std.specs.FinMap.{get}
use Rattle.std.proofs.lemmas.Option.{none-some, same_Some}
use Rattle.tss_base.specs.declared.operand.OpName.{OpName}
use Rattle.tss_base.specs.declared.operand.Task.{Task}
use Rattle.tss_base.specs.declared.marks.Follow.{Follow}
use Rattle.tss_base.specs.Names.{Named}
use Rattle.tss_maps.proofs.Keys.{name_order, decide_key}
use Rattle.tss_maps.proofs.Changes.{beside_inserted, from_inserted}
use Rattle.tss_protocol.specs.Mail.{StorageName, Message, Ready, Link, Release, Bye, Idle}
use Rattle.tss_protocol.specs.Mail.{Gone, GoneContents, Mail, posted, posted_all}
use Rattle.tss_protocol.specs.State.{State, Version}
use Rattle.tss_protocol.specs.Versions.{Versioned, settle_asking, may_ask, put_version, ready_with, settled, unlinked}
use Rattle.tss_control.specs.Chains.{HasChains}
use Rattle.tss_protocol.proofs.SentLemmas.{AllSent}
use Rattle.tss_protocol.proofs.SettleCases.{OthersSettled, IsQuiet, Asks, IsTakenOver, IsPassedBy, SettleCase, moved_up}
use Rattle.tss_protocol.proofs.SettleCases.{settle_cases}
use Rattle.tss_protocol.proofs.UnlinkedVersions.{GaveWay, gave_way_beside, gave_way_over, took_over}
use Rattle.tss_control.proofs.chains.Settled.{chains_next, chains_own}
use Rattle.tss_control.proofs.entries.Settling.{Becomes, becomes_itself, SettlesTo, settled_open, settled_asking}
use Rattle.tss_control.proofs.entries.Settling.{asking_parts, asks_to, gave_to, gave_again}

-- ---- messages

-- a message of a settle of v, or of the stations: only of v it says that it has died
abbrev pub IsOfSettle : OpName → Message → Type 0
IsOfSettle v (Ready o s) = Unit {0}
IsOfSettle v (Link o next) = Unit {0}
IsOfSettle v (Release o r) = Unit {0}
IsOfSettle v (Bye o promised) = Unit {0}
IsOfSettle v (Idle w i) = Unit {0}
IsOfSettle v (Gone w g) = (w ≡ v) × (g.retired ≡ false)
IsOfSettle v other = ⊥

-- what it leaves of the messages of which entries and refusals speak
pub record KeepsSettled (v : OpName) (m n : Mail) : Type 0 where
  pub opens : n.opens ≡ m.opens
  pub uses : n.uses ≡ m.uses
  pub nacks : n.nacks ≡ m.nacks
  pub retires : n.retires ≡ m.retires
  pub back : (w : OpName) (g : GoneContents) → get n.gones w ≡ Some g → g.retired ≡ true → get m.gones w ≡ Some g
  pub still : (w : OpName) (g : GoneContents) → w ≢ v → get m.gones w ≡ Some g → get n.gones w ≡ Some g

keeps_itself : (v : OpName) (m n : Mail) → n.opens ≡ m.opens → n.uses ≡ m.uses → n.nacks ≡ m.nacks
    → n.retires ≡ m.retires → n.gones ≡ m.gones → KeepsSettled v m n
keeps_itself v m n a b c d e = record {
  opens = a;
  uses = b;
  nacks = c;
  retires = d;
  back = λ w g at last. ap (λ m. get m w) (sym e) ∙ at;
  still = λ w g apart at. ap (λ m. get m w) e ∙ at;
}

true_false : true ≡ false → ⊥
true_false e = cc

posted_settled : (v : OpName) (m : Mail) (x : Message) → IsOfSettle v x → KeepsSettled v m (posted m x)
posted_settled v m (Ready o s) h = keeps_itself v m _ refl refl refl refl refl
posted_settled v m (Link o next) h = keeps_itself v m _ refl refl refl refl refl
posted_settled v m (Release o r) h = keeps_itself v m _ refl refl refl refl refl
posted_settled v m (Bye o promised) h = keeps_itself v m _ refl refl refl refl refl
posted_settled v m (Idle w i) h = keeps_itself v m _ refl refl refl refl refl
posted_settled v m (Gone q c) h = record {
  opens = refl;
  uses = refl;
  nacks = refl;
  retires = refl;
  back = λ w g at last. elim (from_inserted name_order m.gones q c w g at) [
    | inl new ↦ absurd (true_false (sym last ∙ ap (λ (g : GoneContents). g.retired) new.1 ∙ h.1))
    | inr old ↦ old.1
  ];
  still = λ w g apart at. beside_inserted name_order m.gones q c w (λ same. apart (same ∙ h.0)) ∙ at;
}
posted_settled v m other h = absurd h

-- messages of a settle
pub posted_all_settled : (v : OpName) (m : Mail) (xs : List Message) → AllSent (IsOfSettle v) xs
    → KeepsSettled v m (posted_all m xs)
posted_all_settled v m [] h = keeps_itself v m m refl refl refl refl refl
posted_all_settled v m (x ∷ xs) h =
    let one = posted_settled v m x h.0 in
    let rest = posted_all_settled v (posted m x) xs h.1 in
    record {
      opens = rest.opens ∙ one.opens;
      uses = rest.uses ∙ one.uses;
      nacks = rest.nacks ∙ one.nacks;
      retires = rest.retires ∙ one.retires;
      back = λ w g at last. one.back w g (rest.back w g at last) last;
      still = λ w g apart at. rest.still w g apart (one.still w g apart at);
    }

-- a ready is one of them
pub ready_of_settle : (v o w : OpName) (s : Option StorageName) → AllSent (IsOfSettle v) (ready_with o w s)
ready_of_settle v o w None = tt
ready_of_settle v o w (Some s) = (tt, tt)

-- ---- the cases

-- what a settle leaves of versions, and that it says of v alone that it has died
pub record SettlesWith (vs : Named Version) (v : OpName) (d : Versioned) : Type 0 where
  pub versions : SettlesTo vs d.part
  pub sent : AllSent (IsOfSettle v) d.sent

module _ (vs : Named Version) (v : OpName) (others : OthersSettled vs v) where
  with_quiet : (d : Versioned) → IsQuiet vs v d → SettlesWith vs v d
  with_quiet d q = subst (SettlesWith vs v) (sym q.is) (record {
    versions = record {
      from = λ w z e. (
        z,
        e,
        becomes_itself z,
        elim (decide_key name_order w v) [
          | inl same ↦ q.calm z (ap (get vs) (sym same) ∙ e)
          | inr other ↦ others w z e other
        ],
      );
      stay = λ w y e. inl (y, e);
    };
    sent = tt;
  })

  with_asks : (d : Versioned) → Asks vs v d → SettlesWith vs v d
  with_asks d a = subst (SettlesWith vs v) (sym a.is) (record {
    versions = asks_to vs v a.version a.there others a.last a.may;
    sent = (tt, tt);
  })

module _ (ts : List Task) (U : State) (h : HasChains ts U) (v : OpName) (others : OthersSettled U.versions v) where
  -- over
  module _ (d : Versioned) (o : IsTakenOver U.versions v d) where
    abbrev x : Version
    x = o.version

    abbrev f : Follow
    f = o.follow

    over_next : (y : Version) × (get U.versions f.version ≡ Some y)
    over_next = (chains_next ts U h v x o.gives.there f o.gives.next).0

    over_back : (over_next.0).predecessor ≡ Some v
    over_back =
        let k = (h.linked v x o.gives.there).followed f o.gives.next in
        ap (λ (y : Version). y.predecessor) (same_Some over_next.0 k.version (sym over_next.1 ∙ k.there)) ∙ k.back

    over_open : (over_next.0).produced ≡ false
    over_open =
        let s = h.storages f.version over_next.0 over_next.1 in
        (s.waits (s.over.1 (v, x, f, over_back, o.gives.there, o.gives.next, o.gives.way))).0

    with_over : SettlesWith U.versions v d
    with_over =
        let y = over_next.0 in
        let n = chains_next ts U h v x o.gives.there f o.gives.next in
        let own = chains_own ts U h v x o.gives.there in
        subst (SettlesWith U.versions v) (sym o.is) (record {
          versions =
              gave_to ts U h v x o.gives.there others f o.gives.next _ y (took_over x y) over_next.1
              (gave_way_over U.versions v x f.version n.1 n.2 own y over_next.1)
              (record {
                object = refl;
                produced = refl;
                registered = refl;
                released = refl;
                refused = refl;
                oldest = λ e. absurd (none-some v (sym e ∙ over_back));
                asked = inl refl;
              })
              (settled_open (took_over x y) over_open);
          sent = ((refl, refl), ready_of_settle v f.version f.version x.storage);
        })

  -- beside
  module _ (d : Versioned) (p : IsPassedBy U.versions v d) where
    abbrev u : Version
    u = p.version

    abbrev g : Follow
    g = p.follow

    abbrev us : Named Version
    us = unlinked U.versions v u g.version

    passed_back : p.next.predecessor ≡ Some v
    passed_back =
        let k = (h.linked v u p.gives.there).followed g p.gives.next in
        ap (λ (y : Version). y.predecessor) (same_Some p.next k.version (sym p.next_there ∙ k.there)) ∙ k.back

    passed_way : GaveWay U.versions us v u g.version (moved_up u p.next)
    passed_way =
        let n = chains_next ts U h v u p.gives.there g p.gives.next in
        gave_way_beside U.versions v u g.version n.1 n.2 (chains_own ts U h v u p.gives.there) p.next p.next_there

    passed_becomes : Becomes p.next (moved_up u p.next)
    passed_becomes = record {
      object = refl;
      produced = refl;
      registered = refl;
      released = refl;
      refused = refl;
      oldest = λ e. absurd (none-some v (sym e ∙ passed_back));
      asked = inl refl;
    }

    -- it stands behind the predecessor, and asks
    abbrev q : Version
    q = moved_up u p.next

    abbrev asked : Version
    asked = record q { asked = Some (q.registered) }

    passed_quiet : IsQuiet us g.version p.on → SettlesTo U.versions p.on.part × AllSent (IsOfSettle v) p.on.sent
    passed_quiet calm =
        let to = gave_to ts U h v u p.gives.there others g p.gives.next us p.next (moved_up u p.next) p.next_there
        passed_way passed_becomes (calm.calm (moved_up u p.next) p.stands) in
        subst (λ (d : Versioned). SettlesTo U.versions d.part × AllSent (IsOfSettle v) d.sent) (sym calm.is) (to, tt)

    passed_asks : Asks us g.version p.on → SettlesTo U.versions p.on.part × AllSent (IsOfSettle v) p.on.sent
    passed_asks a =
        let one = same_Some (moved_up u p.next) a.version (sym p.stands ∙ a.there) in
        let parts = asking_parts q (ap may_ask one ∙ a.may) in
        let last = ap (λ (x : Version). x.successor) one ∙ a.last in
        let to = gave_to ts U h v u p.gives.there others g p.gives.next (put_version us g.version asked) p.next asked
        p.next_there
        (gave_again ts U h v u p.gives.there others g p.gives.next us q asked passed_way)
        (record {
          object = refl;
          produced = refl;
          registered = refl;
          released = refl;
          refused = refl;
          oldest = λ e. absurd (none-some v (sym e ∙ passed_back));
          asked = inr (parts.3, refl, parts.0, parts.2, parts.1);
        })
        (settled_asking q q.registered last) in
        subst (λ (d : Versioned). SettlesTo U.versions d.part × AllSent (IsOfSettle v) d.sent)
        (ap (settle_asking us g.version) one ∙ sym a.is) (to, (tt, tt))

    passed_rest : SettlesTo U.versions p.on.part × AllSent (IsOfSettle v) p.on.sent
    passed_rest = elim (p.rest) [
      | inl q ↦ passed_quiet q
      | inr a ↦ passed_asks a
    ]

    with_passed : SettlesWith U.versions v d
    with_passed = subst (SettlesWith U.versions v) (sym p.is) (record {
      versions = passed_rest.0;
      sent = ((refl, refl), passed_rest.1);
    })

  by_case : (d : Versioned) → SettleCase U.versions v d → SettlesWith U.versions v d
  by_case d (inl q) = with_quiet U.versions v others d q
  by_case d (inr (inl a)) = with_asks U.versions v others d a
  by_case d (inr (inr (inl o))) = with_over d o
  by_case d (inr (inr (inr p))) = with_passed d p

  -- what a settle leaves
  pub settles_with : SettlesWith U.versions v (settled U.versions v)
  settles_with =
      by_case (settled U.versions v)
      (settle_cases U.versions v others (λ x there. chains_next ts U h v x there))
