-- What a settle leaves of versions: it changes no object and no produced bit. One version may go, which was done, and
-- one that is told may get the storage of that. All others keep their storages.
use Rattle.std.proofs.Common.{◌≡◌, ◌≢◌, ◌⊎◌, true, false, List, [], ◌∷◌, Option, Some, None, refl, sym, ap, ◌∙◌, subst}
use Rattle.std.proofs.Common.{inl, inr}
use Rattle.std.specs.Prelude.{◌||◌}
use Rattle.std.specs.FinMap.{get, insert}
use Rattle.std.proofs.lemmas.Option.{none-some}
use Rattle.tss_base.specs.declared.operand.OpName.{OpName}
use Rattle.tss_base.specs.declared.marks.How.TheVariants.{Over}
use Rattle.tss_base.specs.declared.marks.Follow.{Follow}
use Rattle.tss_base.specs.Names.{Named}
use Rattle.tss_maps.proofs.Keys.{name_order, decide_key}
use Rattle.tss_maps.proofs.Changes.{at_inserted, beside_inserted, at_removed, beside_removed}
use Rattle.tss_protocol.specs.Mail.{StorageName, Message, Ready}
use Rattle.tss_protocol.specs.State.{Version}
use Rattle.tss_protocol.specs.Versions.{Versioned, sending, died, buffer_of, ready_with, drop_version, change_version}
use Rattle.tss_protocol.specs.Versions.{version_changed, change_named, followed_by, unlinked, may_die, settle_over}
use Rattle.tss_protocol.specs.Versions.{settle_asking, unchanged, settled}
use Rattle.tss_protocol.specs.Names.{same_name}
use Rattle.tss_phases.specs.Told.{tells}
use Rattle.tss_phases.proofs.Received.{own_name}
use Rattle.tss_protocol.proofs.SentLemmas.{AllSent}
use Rattle.tss_protocol.proofs.SettleCases.{OthersSettled, HasNext, moved_up, at_changed, beside_changed, settle_cases}

-- ---- versions that are alike

-- the same object, produced bit and storage
pub record HeldAlike (y z : Version) : Type 0 where
  pub object : z.object ≡ y.object
  pub produced : z.produced ≡ y.produced
  pub storage : z.storage ≡ y.storage

-- both there and alike, or none
abbrev AlikeBy : Option Version → Option Version → Type 0
AlikeBy None None = Unit {0}
AlikeBy None (Some z) = ⊥
AlikeBy (Some y) None = ⊥
AlikeBy (Some y) (Some z) = HeldAlike y z

-- under a name
abbrev pub AlikeAt : Named Version → Named Version → OpName → Type 0
AlikeAt vs us w = AlikeBy (get vs w) (get us w)

-- itself
alike_itself : (y : Option Version) → AlikeBy y y
alike_itself None = tt
alike_itself (Some y) = record { object = refl; produced = refl; storage = refl }

alike_equal : (vs us : Named Version) (w : OpName) → get us w ≡ get vs w → AlikeAt vs us w
alike_equal vs us w e = subst (AlikeBy (get vs w)) (sym e) (alike_itself (get vs w))

alike_after : (a b c : Option Version) → AlikeBy a b → AlikeBy b c → AlikeBy a c
alike_after None None None h k = tt
alike_after None None (Some z) h k = absurd k
alike_after None (Some y) c h k = absurd h
alike_after (Some x) None c h k = absurd h
alike_after (Some x) (Some y) None h k = absurd k
alike_after (Some x) (Some y) (Some z) h k = record {
  object = k.object ∙ h.object;
  produced = k.produced ∙ h.produced;
  storage = k.storage ∙ h.storage;
}

-- the version that stays
pub stays_alike : (vs us : Named Version) (w : OpName) → AlikeAt vs us w → (y : Version) → get vs w ≡ Some y
    → (z : Version) × (get us w ≡ Some z) × HeldAlike y z
stays_alike vs us w h y e = by (get us w) (subst (λ x. AlikeBy x (get us w)) e h)
  where
    by : (o : Option Version) → AlikeBy (Some y) o → (z : Version) × (o ≡ Some z) × HeldAlike y z
    by None k = absurd k
    by (Some z) k = (z, refl, k)

-- and where it came from
pub from_alike : (vs us : Named Version) (w : OpName) → AlikeAt vs us w → (z : Version) → get us w ≡ Some z
    → (y : Version) × (get vs w ≡ Some y) × HeldAlike y z
from_alike vs us w h z e = by (get vs w) (subst (AlikeBy (get vs w)) e h)
  where
    by : (o : Option Version) → AlikeBy o (Some z) → (y : Version) × (o ≡ Some y) × HeldAlike y z
    by None k = absurd k
    by (Some y) k = (y, refl, k)

-- ---- changes that leave versions alike

module _ (f : Version → Version) (keeps : (y : Version) → HeldAlike y (f y)) where
  changed_by : (vs : Named Version) (q w : OpName) (x : Option Version) → get vs q ≡ x
      → AlikeAt vs (version_changed vs q f x) w
  changed_by vs q w None e = alike_itself (get vs w)
  changed_by vs q w (Some x) e = elim (decide_key name_order w q) [
    | inl same ↦
        subst (λ w. AlikeAt vs (insert vs q (f x)) w) (sym same)
        (subst (λ o. AlikeBy o (get (insert vs q (f x)) q)) (sym e)
        (subst (AlikeBy (Some x)) (sym (at_inserted name_order vs q (f x))) (keeps x)))
    | inr apart ↦ alike_equal vs (insert vs q (f x)) w (beside_inserted name_order vs q (f x) w apart)
  ]

  -- a change of one version
  alike_changed : (vs : Named Version) (q w : OpName) → AlikeAt vs (change_version vs q f) w
  alike_changed vs q w = changed_by vs q w (get vs q) refl

  -- of one that may not be named
  alike_changed_named : (vs : Named Version) (q : Option OpName) (w : OpName) → AlikeAt vs (change_named vs q f) w
  alike_changed_named vs None w = alike_itself (get vs w)
  alike_changed_named vs (Some q) w = alike_changed vs q w

-- a version that gives way leaves the others alike
alike_unlinked : (vs : Named Version) (v : OpName) (x : Version) (s w : OpName)
    → AlikeAt (drop_version vs v) (unlinked vs v x s) w
alike_unlinked vs v x s w =
    let bridge = λ (q : Version). record q { successor = followed_by s q.successor } in
    let us = change_named (drop_version vs v) x.predecessor bridge in
    alike_after (get (drop_version vs v) w) (get us w) (get (unlinked vs v x s) w)
    (alike_changed_named bridge (λ y. record { object = refl; produced = refl; storage = refl }) (drop_version vs v)
    x.predecessor w)
    (alike_changed (moved_up x) (λ y. record { object = refl; produced = refl; storage = refl }) us s w)

alike_beside : (vs : Named Version) (v : OpName) (x : Version) (s w : OpName) → w ≢ v
    → AlikeAt vs (unlinked vs v x s) w
alike_beside vs v x s w apart =
    alike_after (get vs w) (get (drop_version vs v) w) (get (unlinked vs v x s) w)
    (alike_equal vs (drop_version vs v) w (beside_removed name_order vs v w apart)) (alike_unlinked vs v x s w)

gone_unlinked : (vs : Named Version) (v : OpName) (x : Version) (s : OpName) → get (unlinked vs v x s) v ≡ None
gone_unlinked vs v x s =
    by (get (unlinked vs v x s) v)
    (subst (λ o. AlikeBy o (get (unlinked vs v x s) v)) (at_removed name_order vs v) (alike_unlinked vs v x s v))
  where
    by : (o : Option Version) → AlikeBy None o → o ≡ None
    by None k = refl
    by (Some z) k = absurd k

-- one that asks stays alike
alike_asking : (vs : Named Version) (v : OpName) (x : Version) (w : OpName) → get vs v ≡ Some x
    → AlikeAt vs (settle_asking vs v x).part w
alike_asking vs v x w there =
    changed_by (λ y. record y { asked = Some y.registered })
    (λ y. record { object = refl; produced = refl; storage = refl }) vs v w (Some x) there

-- ---- a settle

-- the version that was settled has gone, and was done
pub record HasGone (vs us : Named Version) (v : OpName) : Type 0 where
  pub version : Version
  pub there : get vs v ≡ Some version
  pub follow : Follow
  pub next : version.successor ≡ Some follow
  pub done : may_die version follow.last ≡ true
  pub gone : get us v ≡ None

-- one that followed it over has its storage
pub record HasTaken (vs us : Named Version) (v w : OpName) (ms : List Message) : Type 0 where
  pub version : Version
  pub there : get vs v ≡ Some version
  pub follow : Follow
  pub next : version.successor ≡ Some follow
  pub done : may_die version follow.last ≡ true
  pub way : follow.how ≡ Over
  pub is : follow.version ≡ w
  pub before : Version
  pub was : get vs w ≡ Some before
  pub after : Version
  pub stands : get us w ≡ Some after
  pub object : after.object ≡ before.object
  pub produced : after.produced ≡ before.produced
  pub storage : after.storage ≡ version.storage
  pub told : (s : StorageName) → version.storage ≡ Some s → tells ms w ≡ true

-- what is told is what one has now
abbrev pub TellsOwn : Named Version → Message → Type 0
TellsOwn us (Ready o s) = (s.version ≡ o) × ((z : Version) × (get us o ≡ Some z) × (z.storage ≡ Some s.storage))
TellsOwn us other = Unit {0}

-- what a settle of v does
pub record SettlesHeld (vs : Named Version) (v : OpName) (d : Versioned) : Type 0 where
  pub itself : AlikeAt vs d.part v ⊎ HasGone vs d.part v
  pub others : (w : OpName) → w ≢ v → AlikeAt vs d.part w ⊎ HasTaken vs d.part v w d.sent
  pub sent : AllSent (TellsOwn d.part) d.sent

-- where it does nothing, or asks
held_quiet : (vs : Named Version) (v : OpName) → SettlesHeld vs v (unchanged vs)
held_quiet vs v = record {
  itself = inl (alike_itself (get vs v));
  others = λ w apart. inl (alike_itself (get vs w));
  sent = tt;
}

held_asking : (vs : Named Version) (v : OpName) (x : Version) → get vs v ≡ Some x
    → SettlesHeld vs v (settle_asking vs v x)
held_asking vs v x there = record {
  itself = inl (alike_asking vs v x v there);
  others = λ w apart. inl (alike_asking vs v x w there);
  sent = (tt, tt);
}

-- where v goes beside, and the next does nothing or asks
module _ (vs : Named Version) (v : OpName) (x : Version) (f : Follow) (there : get vs v ≡ Some x)
    (next : x.successor ≡ Some f) (done : may_die x f.last ≡ true) (apart : f.version ≢ v) where
  abbrev passed : Named Version
  passed = unlinked vs v x f.version

  still_gone : (us : Named Version) → AlikeAt passed us v → get us v ≡ None
  still_gone us h =
      by (get us v) (subst (λ o. AlikeBy o (get us v)) (gone_unlinked vs v x f.version) h)
    where
      by : (o : Option Version) → AlikeBy None o → o ≡ None
      by None k = refl
      by (Some z) k = absurd k

  held_passed : (d : Versioned) → ((w : OpName) → AlikeAt passed d.part w) → AllSent (TellsOwn d.part) d.sent
      → SettlesHeld vs v d
  held_passed d alike sent = record {
    itself = inr (record {
      version = x;
      there = there;
      follow = f;
      next = next;
      done = done;
      gone = still_gone d.part (alike v);
    });
    others = λ w other. inl (alike_after (get vs w) (get passed w) (get d.part w)
        (alike_beside vs v x f.version w other) (alike w));
    sent = sent;
  }

  -- where the next takes the storage
  abbrev takes : Version → Version
  takes y = record y { storage = x.storage }

  held_over : f.how ≡ Over → (y : Version) → get vs f.version ≡ Some y → SettlesHeld vs v (settle_over vs v x f.version)
  held_over way y at =
      let s = f.version in
      let mid = stays_alike vs passed s (alike_beside vs v x s s apart) y at in
      let stands = at_changed takes passed s mid.0 mid.1 in
      record {
        itself = inr (record {
          version = x;
          there = there;
          follow = f;
          next = next;
          done = done;
          gone = beside_changed takes passed s v (λ e. apart (sym e)) ∙ gone_unlinked vs v x s;
        });
        others = λ w other. elim (decide_key name_order w s) [
          | inr far ↦ inl (alike_after (get vs w) (get passed w) (get (change_version passed s takes) w)
              (alike_beside vs v x s w other)
              (alike_equal passed (change_version passed s takes) w (beside_changed takes passed s w far)))
          | inl same ↦ inr (record {
            version = x;
            there = there;
            follow = f;
            next = next;
            done = done;
            way = way;
            is = sym same;
            before = y;
            was = ap (get vs) same ∙ at;
            after = takes mid.0;
            stands = ap (get (change_version passed s takes)) same ∙ stands;
            object = mid.2.object;
            produced = mid.2.produced;
            storage = refl;
            told = λ k e. told_by w same x.storage k e;
          })
        ];
        sent = (tt, sent_by x.storage refl);
      }
    where
      told_by : (w : OpName) → w ≡ f.version → (o : Option StorageName) (k : StorageName) → o ≡ Some k
          → tells (ready_with f.version f.version o) w ≡ true
      told_by w same None k e = absurd (none-some k e)
      told_by w same (Some s) k e =
          ap (λ b. b || false) (ap (λ w. same_name w f.version) same ∙ own_name f.version)

      mid : (z : Version) × (get passed f.version ≡ Some z) × HeldAlike y z
      mid = stays_alike vs passed f.version (alike_beside vs v x f.version f.version apart) y at

      sent_by : (o : Option StorageName) → x.storage ≡ o
          → AllSent (TellsOwn (change_version passed f.version takes)) (ready_with f.version f.version o)
      sent_by None e = tt
      sent_by (Some k) e = ((refl, (takes mid.0, at_changed takes passed f.version mid.0 mid.1, e)), tt)

-- by the cases of a settle
pub settles_held : (vs : Named Version) (v : OpName) → OthersSettled vs v
    → ((x : Version) → get vs v ≡ Some x → HasNext vs v x) → SettlesHeld vs v (settled vs v)
settles_held vs v others next = elim (settle_cases vs v others next) [
  | inl quiet ↦ subst (SettlesHeld vs v) (sym quiet.is) (held_quiet vs v)
  | inr (inl asks) ↦ subst (SettlesHeld vs v) (sym asks.is) (held_asking vs v asks.version asks.there)
  | inr (inr (inl over)) ↦
      let n = next over.version over.gives.there over.follow over.gives.next in
      subst (SettlesHeld vs v) (sym over.is)
      (held_over vs v over.version over.follow over.gives.there over.gives.next over.gives.done n.1 over.gives.way n.0.0
      n.0.1)
  | inr (inr (inr passed)) ↦
      let n = next passed.version passed.gives.there passed.follow passed.gives.next in
      let us = unlinked vs v passed.version passed.follow.version in
      let gone = died v passed.version.object (buffer_of passed.version.storage) in
      let by =
      held_passed vs v passed.version passed.follow passed.gives.there passed.gives.next passed.gives.done n.1 in
      subst (SettlesHeld vs v) (sym passed.is)
      (elim passed.rest [
        | inl quiet ↦
            subst (λ on. SettlesHeld vs v (sending (gone ∷ []) on)) (sym quiet.is)
            (by (sending (gone ∷ []) (unchanged us)) (λ w. alike_itself (get us w)) (tt, tt))
        | inr asks ↦
            let s = passed.follow.version in
            subst (λ on. SettlesHeld vs v (sending (gone ∷ []) on)) (sym asks.is)
            (by (sending (gone ∷ []) (settle_asking us s asks.version))
            (λ w. alike_asking us s asks.version w asks.there) (tt, (tt, tt)))
      ])
]
