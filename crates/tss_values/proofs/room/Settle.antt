-- What a settle leaves of the buffers of versions: one that has room is handed on, for only a produced version gives
-- way.
use Rattle.std.proofs.Common.{◌≡◌, ◌⊎◌, inl, inr, ℕ, zero, suc, Bool, true, false, Option, Some, None, refl, sym, ◌∙◌}
use Rattle.std.proofs.Common.{subst}
use Rattle.std.specs.Prelude.{cond, ◌&&◌, ◌==◌, is_none}
use Rattle.std.proofs.lemmas.Bool.{and_parts}
use Rattle.std.specs.FinMap.{get}
use Rattle.tss_base.specs.declared.operand.OpName.{OpName}
use Rattle.tss_base.specs.declared.marks.How.{How}
use Rattle.tss_base.specs.declared.marks.How.TheVariants.{Beside, Over}
use Rattle.tss_base.specs.declared.marks.Follow.{Follow}
use Rattle.tss_base.specs.Names.{Named}
use Rattle.tss_maps.proofs.Keys.{name_order}
use Rattle.tss_maps.proofs.Changes.{from_inserted, from_removed}
use Rattle.tss_protocol.specs.Mail.{Buffer}
use Rattle.tss_protocol.specs.State.{Version}
use Rattle.tss_protocol.specs.Versions.{Settling, put_version, drop_version, version_changed, change_version}
use Rattle.tss_protocol.specs.Versions.{change_named, may_die, may_ask, followed_by, unlinked, settle_asking}
use Rattle.tss_protocol.specs.Versions.{settle_how, settle_by, settle_at, settle, settled, unchanged}

-- which names are set, and which buffers have room
module _ (Set : OpName → Type 0) (Roomy : OpName → Type 0) where
  -- a buffer of a version that is set or produced has room
  abbrev pub RoomyAt : OpName → Version → Type 0
  RoomyAt v x = (b : OpName) → x.storage ≡ Some (Buffer b) → Set v ⊎ (x.produced ≡ true) → Roomy b

  -- each has
  abbrev pub AreRoomy : Named Version → Type 0
  AreRoomy vs = (v : OpName) (x : Version) → get vs v ≡ Some x → RoomyAt v x

  -- a version that is put
  pub roomy_put : (vs : Named Version) (v : OpName) (x : Version) → RoomyAt v x → AreRoomy vs
      → AreRoomy (put_version vs v x)
  roomy_put vs v x own h w z e = elim (from_inserted name_order vs v x w z e) [
    | inl here ↦
        subst (λ w. RoomyAt w z) (sym here.0) (subst (λ z. RoomyAt v z) (sym here.1) own)
    | inr before ↦ h w z before.1
  ]

  -- and one that is dropped
  pub roomy_drop : (vs : Named Version) (v : OpName) → AreRoomy vs → AreRoomy (drop_version vs v)
  roomy_drop vs v h w z e = h w z (from_removed name_order vs v w z e).1

  module _ (f : Version → Version) (storage : (x : Version) → (f x).storage ≡ x.storage)
      (produced : (x : Version) → (f x).produced ≡ x.produced) where
    roomy_same : (v : OpName) (x : Version) → RoomyAt v x → RoomyAt v (f x)
    roomy_same v x h b at (inl set) = h b (sym (storage x) ∙ at) (inl set)
    roomy_same v x h b at (inr made) = h b (sym (storage x) ∙ at) (inr (sym (produced x) ∙ made))

    roomy_changed : (vs : Named Version) (v : OpName) (x : Option Version) → get vs v ≡ x → AreRoomy vs
        → AreRoomy (version_changed vs v f x)
    roomy_changed vs v None e h = h
    roomy_changed vs v (Some x) e h = roomy_put vs v (f x) (roomy_same v x (h v x e)) h

    -- a version that is changed, if it is there
    pub roomy_change : (vs : Named Version) (v : OpName) → AreRoomy vs → AreRoomy (change_version vs v f)
    roomy_change vs v h = roomy_changed vs v (get vs v) refl h

    roomy_named : (vs : Named Version) (v : Option OpName) → AreRoomy vs → AreRoomy (change_named vs v f)
    roomy_named vs None h = h
    roomy_named vs (Some v) h = roomy_change vs v h

  roomy_unlinked : (vs : Named Version) (v : OpName) (x : Version) (s : OpName) → AreRoomy vs
      → AreRoomy (unlinked vs v x s)
  roomy_unlinked vs v x s h =
      let f : Version → Version = λ q. record q { successor = followed_by s q.successor } in
      roomy_change (λ y. record y { predecessor = x.predecessor }) (λ y. refl) (λ y. refl)
      (change_named (drop_version vs v) x.predecessor f) s
      (roomy_named f (λ y. refl) (λ y. refl) (drop_version vs v) x.predecessor (roomy_drop vs v h))

  -- one that takes over the storage of a produced version
  roomy_taking : (vs : Named Version) (s : OpName) (x : Version) (y : Option Version) → get vs s ≡ y
      → ((b : OpName) → x.storage ≡ Some (Buffer b) → Roomy b) → AreRoomy vs
      → AreRoomy (version_changed vs s (λ y. record y { storage = x.storage }) y)
  roomy_taking vs s x None e room h = h
  roomy_taking vs s x (Some y) e room h =
      roomy_put vs s (record y { storage = x.storage }) (λ b at set. room b at) h

  dies_produced : (x : Version) (last : ℕ) → may_die x last ≡ true → x.produced ≡ true
  dies_produced x last e =
      let t = and_parts (x.produced && (x.released == last)) (is_none x.asked) e in
      (and_parts x.produced (x.released == last) t.0).0

  module _ (vs : Named Version) (v : OpName) (x : Version) (next : Settling)
      (rest : (ws : Named Version) (w : OpName) → AreRoomy ws → AreRoomy (next ws w).part)
      (e : get vs v ≡ Some x) (h : AreRoomy vs) where
    roomy_how : x.produced ≡ true → (f : Follow) (how : How) → AreRoomy (settle_how vs v x f next how).part
    roomy_how made f Beside = rest (unlinked vs v x f.version) f.version (roomy_unlinked vs v x f.version h)
    roomy_how made f Over =
        let us = unlinked vs v x f.version in
        roomy_taking us f.version x (get us f.version) refl (λ b at. h v x e b at (inr made))
        (roomy_unlinked vs v x f.version h)

    roomy_by : (f : Option Follow) → AreRoomy (settle_by vs v x next f).part
    roomy_by None = by (may_ask x)
      where
        by : (b : Bool) → AreRoomy (cond b (settle_asking vs v x) (unchanged vs)).part
        by true = roomy_put vs v (record x { asked = Some x.registered }) (h v x e) h
        by false = h
    roomy_by (Some f) = by (may_die x f.last) refl
      where
        by : (b : Bool) → may_die x f.last ≡ b
            → AreRoomy (cond b (settle_how vs v x f next f.how) (unchanged vs)).part
        by true dies = roomy_how (dies_produced x f.last dies) f f.how
        by false stays = h

  roomy_at : (next : Settling) → ((ws : Named Version) (w : OpName) → AreRoomy ws → AreRoomy (next ws w).part)
      → (vs : Named Version) (v : OpName) (x : Option Version) → get vs v ≡ x → AreRoomy vs
      → AreRoomy (settle_at vs v next x).part
  roomy_at next rest vs v None e h = h
  roomy_at next rest vs v (Some x) e h = roomy_by vs v x next rest e h x.successor

  roomy_settle : (n : ℕ) (vs : Named Version) (v : OpName) → AreRoomy vs → AreRoomy (settle n vs v).part
  unfolding settle
  roomy_settle zero vs v h = h
  roomy_settle (suc n) vs v h = roomy_at (settle n) (roomy_settle n) vs v (get vs v) refl h

  -- a settle leaves them so
  pub roomy_settled : (vs : Named Version) (v : OpName) → AreRoomy vs → AreRoomy (settled vs v).part
  roomy_settled vs v h = roomy_settle _ vs v h
