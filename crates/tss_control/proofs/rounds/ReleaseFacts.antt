-- What is known of a release under way: its operand, and the version that it names.
use Rattle.std.proofs.Common.{◌≡◌, ℕ, suc, ◌≤◌, ◌⊎◌, false, List, length, Some, sym, ap, ◌∙◌, subst, inl, inr, arith}
use Rattle.std.proofs.Common.{true≢false}
use Rattle.std.specs.FinMap.{get}
use Rattle.tss_base.specs.declared.operand.OpName.{OpName}
use Rattle.tss_base.specs.declared.operand.Operand.{Operand}
use Rattle.tss_base.specs.declared.operand.Task.{Task}
use Rattle.tss_model.specs.Access.{writes}
use Rattle.tss_protocol.specs.Mail.{StorageName, ReleaseContents}
use Rattle.tss_protocol.specs.State.{State, Version}
use Rattle.tss_phases.specs.Phase.{Releasing, look_ups, phase_of, has_released}
use Rattle.tss_phases.specs.Orderly.{AreOrderly}
use Rattle.tss_phases.proofs.AloneLemmas.{silent_but_releasing}
use Rattle.tss_phases.proofs.PhaseLemmas.{phase_releasing}
use Rattle.tss_locality.specs.Rounds.{IsRounded}
use Rattle.tss_control.specs.Members.{operand_among}
use Rattle.tss_control.specs.Readers.{Arrivals, Has, released_among, HasReaders}
use Rattle.tss_control.specs.Holders.{IsOwnOrRead, HasHolders}
use Rattle.tss_control.proofs.rounds.Spawned.{among_object}
use Rattle.tss_control.proofs.rounds.ReadersCounts.{few_released, all_released}

-- a release of an operand is of a registered version with a storage: a writer's own, or one that the reader has come to
pub record Releases (ts : List Task) (g : Arrivals) (S : State) (o : OpName) (c : ReleaseContents) : Type 0 where
  pub operand : Operand
  pub among : operand_among ts o ≡ Some operand
  pub version : Version
  pub there : get S.versions c.version ≡ Some version
  pub object : version.object ≡ operand.object
  pub storage : StorageName
  pub stored : version.storage ≡ Some storage
  pub producer : c.producer ≡ writes operand.mode
  pub own : IsOwnOrRead g o (writes operand.mode) c.version
  pub phase : phase_of S o ≡ Releasing

-- an operand whose release is under way is letting go
releasing_phase : (S : State) → AreOrderly S → (o : OpName) (c : ReleaseContents) → get S.mail.releases o ≡ Some c
    → phase_of S o ≡ Releasing
releasing_phase S orderly o c e =
    let l = look_ups S o in
    let s = silent_but_releasing l c (orderly o).alone e in
    phase_releasing l c s.decoding s.opening s.using s.telling e

-- each release is so
pub releases_facts : (ts : List Task) (g : Arrivals) (S : State) → IsRounded S ts → AreOrderly S → HasHolders ts g S
    → (o : OpName) (c : ReleaseContents) → get S.mail.releases o ≡ Some c → Releases ts g S o c
releases_facts ts g S round orderly h o c e =
    let named = round.within.named.mail.releases o c e in
    let p = among_object ts o named.0 named.1 in
    let r = h.releases o p.0 c p.1 e in
    let phase = releasing_phase S orderly o c e in
    let true = h.ready o p.0 r.1.0 r.1.1 p.1 r.1.2 r.1.3 (inr phase) in
    record {
      operand = p.0;
      among = p.1;
      version = true.version;
      there = ap (λ q. get S.versions q) (sym r.1.4) ∙ true.there;
      object = true.object;
      storage = r.1.1.storage;
      stored = true.storage;
      producer = r.0;
      own = subst (IsOwnOrRead g o (writes p.0.mode)) r.1.4 true.own;
      phase = phase;
    }

-- ---- counts

either_more : (a b : ℕ) → (suc a ≤ b) ⊎ (b ≤ a)
either_more a b = grind arith

-- a reader that hasn't released its version isn't counted
pub more_readers : (S : State) (xs : List OpName) (a : OpName) → Has a xs → has_released (phase_of S a) ≡ false
    → suc (released_among S xs) ≤ length xs
more_readers S xs a has late = elim (either_more (released_among S xs) (length xs)) [
  | inl more ↦ more
  | inr full ↦ absurd (true≢false (sym (all_released S xs full a has) ∙ late))
]

-- no more readers have released a version than have registered
pub released_few : (ts : List Task) (g : Arrivals) (S : State) → HasReaders ts g S → (v : OpName) (x : Version)
    → get S.versions v ≡ Some x → x.released ≤ x.registered
released_few ts g S h v x e =
    let a = h.versions v x e in
    few_released_by x.released x.registered (released_among S (g v)) (length (g v)) a.released a.registered
    (few_released S (g v))
  where
    few_released_by : (r n a l : ℕ) → r ≡ a → n ≡ l → a ≤ l → r ≤ n
    few_released_by r n a l e d h = omega (arith, e, d, h)

-- one of them that hasn't released it can still do so
pub released_fewer : (ts : List Task) (g : Arrivals) (S : State) → HasReaders ts g S → (v a : OpName) (x : Version)
    → get S.versions v ≡ Some x → Has a (g v) → has_released (phase_of S a) ≡ false → suc x.released ≤ x.registered
released_fewer ts g S h v a x e has late =
    let k = h.versions v x e in
    fewer_by x.released x.registered (released_among S (g v)) (length (g v)) k.released k.registered
    (more_readers S (g v) a has late)
  where
    fewer_by : (r n a l : ℕ) → r ≡ a → n ≡ l → suc a ≤ l → suc r ≤ n
    fewer_by r n a l e d h = omega (arith, e, d, h)
