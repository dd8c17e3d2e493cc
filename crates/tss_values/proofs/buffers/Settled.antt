-- What a settle leaves of buffers: each version keeps its storage, but for one that takes over that of the version
-- which went, and the version that went takes its buffer with it where nobody takes it over.
use Rattle.std.proofs.Common.{◌≡◌, ◌≢◌, ◌⊎◌, inl, inr, false, List, [], ◌∷◌, Option, Some, None, refl, sym, ap, ◌∙◌}
use Rattle.std.proofs.Common.{subst}
use Rattle.std.specs.FinMap.{get}
use Rattle.tss_base.specs.declared.operand.OpName.{OpName}
use Rattle.tss_base.specs.declared.marks.Follow.{Follow}
use Rattle.tss_base.specs.Names.{Named}
use Rattle.tss_maps.proofs.Keys.{name_order}
use Rattle.tss_maps.proofs.Changes.{from_inserted, from_removed}
use Rattle.tss_protocol.specs.Mail.{StorageName, GoneContents, Message}
use Rattle.tss_protocol.specs.Mail.{Gone, Mail, posted, posted_all}
use Rattle.tss_protocol.specs.State.{Version}
use Rattle.tss_protocol.specs.Versions.{Versioned, put_version, drop_version, change_named, buffer_of, followed_by}
use Rattle.tss_protocol.specs.Versions.{unlinked, settle_over, settled, ready_with}
use Rattle.tss_protocol.proofs.SentLemmas.{AllSent}
use Rattle.tss_protocol.proofs.SettleCases.{OthersSettled, HasNext, IsQuiet, Asks, IsTakenOver, IsPassedBy, SettleCase}
use Rattle.tss_protocol.proofs.SettleCases.{settle_cases}
use Rattle.tss_control.proofs.readers.Told.{IsChanged, from_changed, IsNamedChange, from_named}

-- ---- versions that keep their storages

-- a version that was there has the same storage
abbrev HadStorage : Named Version → OpName → Version → Type 0
HadStorage vs w z = (y : Version) × (get vs w ≡ Some y) × (z.storage ≡ y.storage)

-- all versions were there, with their storages
abbrev pub KeepsStorages : Named Version → Named Version → Type 0
KeepsStorages vs us = (w : OpName) (z : Version) → get us w ≡ Some z → HadStorage vs w z

storage_changed : (f : Version → Version) → ((x : Version) → (f x).storage ≡ x.storage) → (v q : OpName) (x y : Version)
    → IsChanged f v q x y → y.storage ≡ x.storage
storage_changed f keeps v q x y (inl i) = ap (λ (y : Version). y.storage) i
storage_changed f keeps v q x y (inr p) = ap (λ (y : Version). y.storage) p.1 ∙ keeps x

storage_named : (f : Version → Version) → ((x : Version) → (f x).storage ≡ x.storage) → (v : Option OpName) (q : OpName)
    (x y : Version) → IsNamedChange f v q x y → y.storage ≡ x.storage
storage_named f keeps v q x y (inl i) = ap (λ (y : Version). y.storage) i
storage_named f keeps v q x y (inr p) = ap (λ (y : Version). y.storage) p.1 ∙ keeps x

module _ (vs : Named Version) (v : OpName) (x : Version) (s : OpName) where
  abbrev bridge : Version → Version
  bridge q = record q { successor = followed_by s q.successor }

  abbrev moved : Version → Version
  moved y = record y { predecessor = x.predecessor }

  -- a version that gives way leaves the others' storages
  unlinked_storages : (w : OpName) (z : Version) → get (unlinked vs v x s) w ≡ Some z → (w ≢ v) × HadStorage vs w z
  unlinked_storages w z e =
      let h = from_changed (change_named (drop_version vs v) x.predecessor bridge) s moved w z e in
      let k = from_named (drop_version vs v) x.predecessor bridge w h.0 h.1 in
      let d = from_removed name_order vs v w k.0 k.1 in (
        d.0,
        (
          k.0,
          d.1,
          storage_changed moved (λ y. refl) s w h.0 z h.2
              ∙ storage_named bridge (λ y. refl) x.predecessor w k.0 h.0 k.2,
        ),
      )

-- a version is written with the same storage
pub written_storages : (vs : Named Version) (v : OpName) (x z : Version) → get vs v ≡ Some x → z.storage ≡ x.storage
    → KeepsStorages vs (put_version vs v z)
written_storages vs v x z there same w y e = elim (from_inserted name_order vs v z w y e) [
  | inl p ↦ (x, ap (get vs) p.0 ∙ there, ap (λ (y : Version). y.storage) p.1 ∙ same)
  | inr p ↦ (y, p.1, refl)
]

-- ---- messages

-- it says of no version that it is gone
abbrev pub IsNoGone : Message → Type 0
IsNoGone (Gone v g) = ⊥
IsNoGone m = Unit {0}

posted-no_gone : (m : Mail) (x : Message) → IsNoGone x → (posted m x).gones ≡ m.gones
posted-no_gone m (Gone v g) h = absurd h
posted-no_gone m other h = refl

-- such messages leave those
pub gones_kept : (m : Mail) (xs : List Message) → AllSent IsNoGone xs → (posted_all m xs).gones ≡ m.gones
gones_kept m [] h = refl
gones_kept m (x ∷ xs) h = gones_kept (posted m x) xs h.1 ∙ posted-no_gone m x h.0

-- a ready is one of them
ready_no_gone : (o v : OpName) (s : Option StorageName) → AllSent IsNoGone (ready_with o v s)
ready_no_gone o v None = tt
ready_no_gone o v (Some s) = (tt, tt)

-- ---- a settle

-- no version goes
pub record LeavesAll (vs : Named Version) (d : Versioned) : Type 0 where
  pub storages : KeepsStorages vs d.part
  pub sent : AllSent IsNoGone d.sent

-- v goes, and its successor takes its storage
pub record GivesStorage (vs : Named Version) (v : OpName) (d : Versioned) : Type 0 where
  pub version : Version
  pub there : get vs v ≡ Some version
  pub follow : Follow
  pub next : version.successor ≡ Some follow
  pub storages : (w : OpName) (z : Version) → get d.part w ≡ Some z
      → (w ≢ v) × (HadStorage vs w z ⊎ ((w ≡ follow.version) × (z.storage ≡ version.storage)))
  pub contents : GoneContents
  pub free : contents.buffer ≡ None
  pub rest : List Message
  pub sent : d.sent ≡ Gone v contents ∷ rest
  pub others : AllSent IsNoGone rest

-- v goes, and takes its buffer with it
pub record TakesStorage (vs : Named Version) (v : OpName) (d : Versioned) : Type 0 where
  pub version : Version
  pub there : get vs v ≡ Some version
  pub storages : (w : OpName) (z : Version) → get d.part w ≡ Some z → (w ≢ v) × HadStorage vs w z
  pub contents : GoneContents
  pub buffer : contents.buffer ≡ buffer_of version.storage
  pub rest : List Message
  pub sent : d.sent ≡ Gone v contents ∷ rest
  pub others : AllSent IsNoGone rest

-- one of these
abbrev pub SettlesBuffers : Named Version → OpName → Versioned → Type 0
SettlesBuffers vs v d = LeavesAll vs d ⊎ (GivesStorage vs v d ⊎ TakesStorage vs v d)

module _ (vs : Named Version) (v : OpName) where
  by_quiet : (d : Versioned) → IsQuiet vs v d → LeavesAll vs d
  by_quiet d q =
      subst (LeavesAll vs) (sym q.is) (record { storages = λ w z e. (z, e, refl); sent = tt })

  by_asks : (d : Versioned) → Asks vs v d → LeavesAll vs d
  by_asks d a =
      subst (LeavesAll vs) (sym a.is) (record {
        storages =
            written_storages vs v a.version (record (a.version) { asked = Some (a.version.registered) }) a.there refl;
        sent = (tt, tt);
      })

  over_storages : (x : Version) (s : OpName) (w : OpName) (z : Version) → get (settle_over vs v x s).part w ≡ Some z
      → (w ≢ v) × (HadStorage vs w z ⊎ ((w ≡ s) × (z.storage ≡ x.storage)))
  over_storages x s w z e =
      let taken : Version → Version = λ y. record y { storage = x.storage } in
      let h = from_changed (unlinked vs v x s) s taken w z e in
      let k = unlinked_storages vs v x s w h.0 h.1 in (
        k.0,
        elim h.2 [
          | inl i ↦ inl (k.1.0, k.1.1, ap (λ (y : Version). y.storage) i ∙ k.1.2)
          | inr p ↦ inr (p.0, ap (λ (y : Version). y.storage) p.1)
        ],
      )

  by_over : (d : Versioned) → IsTakenOver vs v d → GivesStorage vs v d
  by_over d o =
      let x = o.version in
      let s = o.follow.version in
      let g : GoneContents = record { object = x.object; buffer = None; retired = false } in
      subst (GivesStorage vs v) (sym o.is) (record {
        version = x;
        there = o.gives.there;
        follow = o.follow;
        next = o.gives.next;
        storages = over_storages x s;
        contents = g;
        free = refl;
        rest = ready_with s s x.storage;
        sent = refl;
        others = ready_no_gone s s x.storage;
      })

  passed_on : (d : Versioned) (p : IsPassedBy vs v d) → LeavesAll (unlinked vs v p.version p.follow.version) p.on
  passed_on d p = elim (p.rest) [
    | inl q ↦ subst (LeavesAll (unlinked vs v p.version p.follow.version)) (sym q.is)
        (record { storages = λ w z e. (z, e, refl); sent = tt })
    | inr a ↦ subst (LeavesAll (unlinked vs v p.version p.follow.version)) (sym a.is) (record {
      storages = written_storages (unlinked vs v p.version p.follow.version) p.follow.version a.version
          (record (a.version) { asked = Some (a.version.registered) }) a.there refl;
      sent = (tt, tt);
    })
  ]

  by_passed : (d : Versioned) → IsPassedBy vs v d → TakesStorage vs v d
  by_passed d p =
      let x = p.version in
      let on = passed_on d p in
      let g : GoneContents = record { object = x.object; buffer = buffer_of x.storage; retired = false } in
      subst (TakesStorage vs v) (sym p.is) (record {
        version = x;
        there = p.gives.there;
        storages = λ w z e.
            let h = on.storages w z e in
            let k = unlinked_storages vs v x p.follow.version w h.0 h.1 in
            (k.0, (k.1.0, k.1.1, h.2 ∙ k.1.2));
        contents = g;
        buffer = refl;
        rest = p.on.sent;
        sent = refl;
        others = on.sent;
      })

  by_case : (d : Versioned) → SettleCase vs v d → SettlesBuffers vs v d
  by_case d (inl q) = inl (by_quiet d q)
  by_case d (inr (inl a)) = inl (by_asks d a)
  by_case d (inr (inr (inl o))) = inr (inl (by_over d o))
  by_case d (inr (inr (inr p))) = inr (inr (by_passed d p))

-- a settle does one of these, where all other versions are settled
pub settles_buffers : (vs : Named Version) (v : OpName) → OthersSettled vs v
    → ((x : Version) → get vs v ≡ Some x → HasNext vs v x) → SettlesBuffers vs v (settled vs v)
settles_buffers vs v others next = by_case vs v (settled vs v) (settle_cases vs v others next)
