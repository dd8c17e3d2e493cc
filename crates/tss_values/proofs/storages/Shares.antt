-- Who shares a storage: two operands that hold a version, on one object and with one storage, are one, or both have
-- come to one produced version.
use Rattle.std.proofs.Common.{◌≡◌, ◌⊎◌, inl, inr, ℕ, ◌≤◌, Bool, true, false, List, [], ◌∷◌, Some, refl, sym, ap, ◌∙◌}
use Rattle.std.proofs.Common.{arith}
use Rattle.std.specs.FinMap.{get}
use Rattle.std.proofs.lemmas.Option.{none-some}
use Rattle.tss_base.specs.declared.operand.OpName.{OpName}
use Rattle.tss_base.specs.declared.operand.Mode.{Mode}
use Rattle.tss_base.specs.declared.operand.Mode.TheVariants.{Input, Output, Inout}
use Rattle.tss_base.specs.declared.operand.Operand.{Operand}
use Rattle.tss_base.specs.declared.operand.Task.{Task}
use Rattle.tss_base.specs.declared.machine.Machine.{Machine}
use Rattle.tss_model.specs.Access.{writes}
use Rattle.tss_protocol.specs.Mail.{StorageName, Home, Buffer, Source}
use Rattle.tss_protocol.specs.State.{State, OperandState, Version}
use Rattle.tss_protocol.specs.Stations.{operand_at}
use Rattle.tss_phases.specs.Phase.{Phase, Waiting, Told, Ready, Releasing}
use Rattle.tss_phases.specs.Phase.{phase_of}
use Rattle.tss_phases.specs.Openers.{holds_version, has_parted, produced_opener, opener_by}
use Rattle.tss_phases.proofs.Tests.{not_both}
use Rattle.tss_control.specs.Members.{operand_among}
use Rattle.tss_control.specs.Chains.{HasChains}
use Rattle.tss_names.specs.Held.{HasHeldPlaces}
use Rattle.tss_values.specs.Buffers.{VersionHas, GoneHas, CopyHas, HasBuffers}
use Rattle.tss_control.specs.Readers.{Arrivals, Has, oldest_of}
use Rattle.tss_control.specs.Holders.{IsTrue}
use Rattle.tss_control.specs.Control.{IsControlled}
use Rattle.tss_control.proofs.readers.Enlisted.{all_wait}

-- ---- versions with one storage

one_task : (a b : ℕ) → a ≤ b → b ≤ a → a ≡ b
one_task a b h k = omega (arith, h, k)

module _ (ts : List Task) (S : State) (chains : HasChains ts S) (buffers : HasBuffers ts S) where
  -- two with one buffer are one
  pub one_buffer : (v w b : OpName) (y z : Version) → get S.versions v ≡ Some y → get S.versions w ≡ Some z
      → y.storage ≡ Some (Buffer b) → z.storage ≡ Some (Buffer b) → v ≡ w
  one_buffer v w b y z e f s t = buffers.one v w b (inr (inl (y, e, s))) (inr (inl (z, f, t)))

  -- two of one object that lie at home are one
  one_home : (v w : OpName) (y z : Version) → get S.versions v ≡ Some y → get S.versions w ≡ Some z
      → y.object ≡ z.object → y.storage ≡ Some Home → z.storage ≡ Some Home → v ≡ w
  one_home v w y z e f same s t =
      let first = (chains.linked v y e).oldest ((chains.storages v y e).home s) w (z, f, sym same) in
      let other = (chains.linked w z f).oldest ((chains.storages w z f).home t) v (y, e, same) in
      chains.one y.object v w (inl (y, e, refl)) (inl (z, f, sym same)) (one_task v.task w.task first other)

  by_storage : (v w : OpName) (y z : Version) → get S.versions v ≡ Some y → get S.versions w ≡ Some z
      → y.object ≡ z.object → (s : StorageName) → y.storage ≡ Some s → z.storage ≡ Some s → v ≡ w
  by_storage v w y z e f same Home s t = one_home v w y z e f same s t
  by_storage v w y z e f same (Buffer b) s t = one_buffer v w b y z e f s t

  -- two of one object with one storage are one
  pub one_version : (v w : OpName) (y z : Version) → get S.versions v ≡ Some y → get S.versions w ≡ Some z
      → y.object ≡ z.object → (s : StorageName) → y.storage ≡ Some s → z.storage ≡ Some s → v ≡ w
  one_version = by_storage

-- ---- who holds a version

-- an operand that was told a version, and hasn't released it
pub record HoldsStorage (ts : List Task) (g : Arrivals) (S : State) (o : OpName) (p : Operand) (s : Source)
    : Type 0 where
  pub among : operand_among ts o ≡ Some p
  pub told : IsTrue g S o p s
  pub phase : holds_version (phase_of S o) ≡ true

module _ (ts : List Task) (g : Arrivals) (S : State) (h : IsControlled ts g S) (o : OpName) (p : Operand) (s : Source)
    (among : operand_among ts o ≡ Some p) where
  holding_phase : (phase_of S o ≡ Ready) ⊎ (phase_of S o ≡ Releasing) → holds_version (phase_of S o) ≡ true
  holding_phase (inl e) = ap holds_version e
  holding_phase (inr e) = ap holds_version e

  -- one that is ready or releasing
  pub record_holds : (r : OperandState) → operand_at S.flight o ≡ Some r → r.source ≡ Some s
      → (phase_of S o ≡ Ready) ⊎ (phase_of S o ≡ Releasing) → HoldsStorage ts g S o p s
  record_holds r kept told phase = record {
    among = among;
    told = h.holders.ready o p r s among kept told phase;
    phase = holding_phase phase;
  }

holds_apart : (p : Phase) → holds_version p ≡ true → (p ≡ Waiting → ⊥) × (has_parted p ≡ false)
holds_apart Told e = (λ f. cc, refl)
holds_apart Ready e = (λ f. cc, refl)
holds_apart Releasing e = (λ f. cc, refl)
holds_apart other e = absurd (cc)

writer_parted : (mode : Mode) (p : Phase) → writes mode ≡ true → produced_opener mode p ≡ true → has_parted p ≡ true
writer_parted Input p w e = absurd (cc)
writer_parted Output p w e = e
writer_parted Inout p w e = e

some_oldest : (xs : List OpName) (a : OpName) → Has a xs → (b : OpName) × (oldest_of xs ≡ Some b)
some_oldest [] a h = absurd h
some_oldest (x ∷ []) a h = (x, refl)
some_oldest (x ∷ y ∷ ys) a h = some_oldest (y ∷ ys) y (inl refl)

module _ (ts : List Task) (g : Arrivals) (S : State) (h : IsControlled ts g S) where
  -- the readers of an open version wait
  open_readers_wait : (v a : OpName) (y : Version) → get S.versions v ≡ Some y → y.produced ≡ false → Has a (g v)
      → phase_of S a ≡ Waiting
  open_readers_wait v a y e unproduced has =
      let k = h.readers.versions v y e in
      let f = some_oldest (g v) a has in
      all_wait S (g v) k.chained f.0 f.1 ((k.first f.0 f.1).1 unproduced) a has

  -- so who reads a version that it holds reads a produced one
  pub reads_produced : (o : OpName) (p : Operand) (s : Source) → HoldsStorage ts g S o p s → Has o (g s.version)
      → (y : Version) → get S.versions s.version ≡ Some y → y.produced ≡ true
  reads_produced o p s k has y e = by y.produced refl
    where
      by : (b : Bool) → y.produced ≡ b → y.produced ≡ true
      by true is = is
      by false is =
          absurd ((holds_apart (phase_of S o) k.phase).0 (open_readers_wait s.version o y e is has))

  -- and who writes its own, writes an open one
  pub writes_open : (o : OpName) (p : Operand) (s : Source) → HoldsStorage ts g S o p s → writes p.mode ≡ true
      → (y : Version) → get S.versions o ≡ Some y → y.produced ≡ false
  writes_open o p s k w y e = by y.produced refl
    where
      by : (b : Bool) → y.produced ≡ b → y.produced ≡ false
      by false is = is
      by true is =
          let opener = h.holders.openers o y p e k.among in
          let parted = writer_parted p.mode (phase_of S o) w
          (ap (opener_by y p.mode (phase_of S o)) (sym is) ∙ opener) in
          absurd (not_both (has_parted (phase_of S o)) parted (holds_apart (phase_of S o) k.phase).1)

-- ---- buffers that no version has

module _ (m : Machine) (all ts : List Task) (S : State) (places : HasHeldPlaces m all S)
    (buffers : HasBuffers ts S) where
  -- the buffer of a version isn't copied home
  pub version_not_copied : (v w b : OpName) → VersionHas S v b → CopyHas S w b → ⊥
  version_not_copied v w b h k =
      let one = buffers.one v w b (inr (inl h)) (inr (inr (inr k))) in
      (places.versions v h.0 h.1).3 (k.0, k.1, k.2, k.3 ∙ sym one)

  -- nor is it gone
  pub version_not_gone : (v w b : OpName) → VersionHas S v b → GoneHas S w b → ⊥
  version_not_gone v w b h k =
      let one = buffers.one v w b (inr (inl h)) (inr (inr (inl k))) in
      none-some k.0 (sym (places.versions v h.0 h.1).2 ∙ ap (get S.mail.gones) one ∙ k.1)
