-- What a settle leaves of the measure: no more than before, for a version that gives way pays for its gone message, and
-- one that asks can't ask again for as many readers.
use Rattle.std.proofs.Common.{◌≡◌, ℕ, zero, suc, ◌+◌, ◌≤◌, Bool, true, false, cond, ◌∷◌, Option, Some, None, refl}
use Rattle.std.proofs.Common.{arith}
use Rattle.std.specs.Prelude.{◌==◌, ◌&&◌, not, is_none}
use Rattle.std.proofs.lemmas.Bool.{and_parts}
use Rattle.std.proofs.lemmas.Bool.Decides.{nat_tests}
use Rattle.std.specs.FinMap.{get}
use Rattle.tss_base.specs.declared.operand.OpName.{OpName}
use Rattle.tss_base.specs.declared.marks.How.{How}
use Rattle.tss_base.specs.declared.marks.How.TheVariants.{Beside, Over}
use Rattle.tss_base.specs.declared.marks.Follow.{Follow}
use Rattle.tss_base.specs.Names.{Named}
use Rattle.tss_maps.proofs.Keys.{name_order}
use Rattle.tss_maps.proofs.Sums.{sum_inserted, sum_written, sum_removed}
use Rattle.tss_protocol.specs.Mail.{StorageName}
use Rattle.tss_protocol.specs.State.{Version}
use Rattle.tss_protocol.specs.Versions.{Settling, Versioned, sending, put_version, drop_version, version_changed}
use Rattle.tss_protocol.specs.Versions.{change_version, change_named, ready_with, died, may_die, may_ask, is_count}
use Rattle.tss_protocol.specs.Versions.{followed_by, unlinked, settle_asking, settle_how, settle_by, settle_at, settle}
use Rattle.tss_protocol.specs.Versions.{settled, unchanged}
use Rattle.tss_progress.proofs.bound.Measure.{messages_left, left_append, last_asked, asking_left, version_left}
use Rattle.tss_progress.proofs.bound.Measure.{versions_left}

-- an outcome: versions and messages
abbrev pub outcome_left : ℕ → Versioned → ℕ
outcome_left c d = versions_left c d.part + messages_left c d.sent

module _ (c : ℕ) where
  -- messages before those of an outcome
  pub left_sending : (ms : _) (d : Versioned) → outcome_left c (sending ms d) ≡ messages_left c ms + outcome_left c d
  left_sending ms d = let a = left_append c ms d.sent in omega (arith, a)

  -- a ready costs nothing
  pub left_ready_with : (o v : OpName) (s : Option StorageName) → messages_left c (ready_with o v s) ≡ 0
  left_ready_with o v None = refl
  left_ready_with o v (Some s) = refl

  -- ---- changes of versions

  -- one that is written anew
  pub left_put : (vs : Named Version) (v : OpName) (x y : Version) → get vs v ≡ Some x
      → versions_left c (put_version vs v y) + version_left c v x ≡ versions_left c vs + version_left c v y
  left_put vs v x y e = sum_written name_order (version_left c) vs v x y e

  -- one that may be new
  pub left_new : (vs : Named Version) (v : OpName) (y : Version)
      → versions_left c (put_version vs v y) ≤ versions_left c vs + version_left c v y
  left_new vs v y = let i = sum_inserted name_order (version_left c) vs v y in omega (arith, i)

  -- one that is dropped
  pub left_drop : (vs : Named Version) (v : OpName) (x : Version) → get vs v ≡ Some x
      → versions_left c (drop_version vs v) + version_left c v x ≡ versions_left c vs
  left_drop vs v x e = sum_removed name_order (version_left c) vs v x e

  -- a change that leaves alone what a version asks
  module _ (f : Version → Version)
      (same : (v : OpName) (x : Version) → version_left c v (f x) ≡ version_left c v x) where
    left_changed : (vs : Named Version) (v : OpName) (x : Option Version) → get vs v ≡ x
        → versions_left c (version_changed vs v f x) ≡ versions_left c vs
    left_changed vs v None e = refl
    left_changed vs v (Some x) e =
        let p = left_put vs v x (f x) e in let s = same v x in omega (arith, p, s)

    -- of a version by its name
    pub left_change : (vs : Named Version) (v : OpName)
        → versions_left c (change_version vs v f) ≡ versions_left c vs
    left_change vs v = left_changed vs v (get vs v) refl

    left_named : (vs : Named Version) (v : Option OpName) → versions_left c (change_named vs v f) ≡ versions_left c vs
    left_named vs None = refl
    left_named vs (Some v) = left_change vs v

  left_unlinked : (vs : Named Version) (v : OpName) (x : Version) (s : OpName) → get vs v ≡ Some x
      → versions_left c (unlinked vs v x s) + version_left c v x ≡ versions_left c vs
  left_unlinked vs v x s e =
      let ds = drop_version vs v in
      let f : Version → Version = λ q. record q { successor = followed_by s q.successor } in
      let a = left_drop vs v x e in
      let b = left_named f (λ w q. refl) ds x.predecessor in
      let d = left_change (λ y. record y { predecessor = x.predecessor }) (λ w q. refl)
      (change_named ds x.predecessor f) s in
      omega (arith, a, b, d)

  -- ---- settle

  left_over : (vs : Named Version) (v : OpName) (x : Version) (s : OpName) → get vs v ≡ Some x
      → versions_left c (change_version (unlinked vs v x s) s (λ y. record y { storage = x.storage }))
      + messages_left c (died v x.object None ∷ ready_with s s x.storage)
      ≤ versions_left c vs
  left_over vs v x s e =
      let u = left_unlinked vs v x s e in
      let w = left_change (λ y. record y { storage = x.storage }) (λ w q. refl) (unlinked vs v x s) s in
      let r = left_ready_with s s x.storage in
      omega (arith, u, w, r)

  -- a version that asks hadn't asked for as many
  asking_once : (asked refused : Option ℕ) (n : ℕ) → is_none asked ≡ true → not (is_count refused n) ≡ true
      → asking_left (last_asked asked refused) n ≡ 2
  asking_once (Some k) refused n none fresh = absurd (cc)
  asking_once None refused n none fresh = by (is_count refused n) fresh
    where
      by : (b : Bool) → not b ≡ true → cond {A = ℕ} b 0 2 ≡ 2
      by true e = absurd (cc)
      by false e = refl

  asked_now : (n : ℕ) → cond {A = ℕ} (n == n) 0 2 ≡ 0
  asked_now n = grind (arith, nat_tests)

  left_asking : (vs : Named Version) (v : OpName) (x : Version) → get vs v ≡ Some x → may_ask x ≡ true
      → outcome_left c (settle_asking vs v x) ≤ versions_left c vs
  left_asking vs v x e asks =
      let t = and_parts
      (x.produced && (x.released == x.registered) && is_none x.predecessor && is_none x.asked) _ asks in
      let u = and_parts (x.produced && (x.released == x.registered) && is_none x.predecessor) _ t.0 in
      let old = asking_once x.asked x.refused x.registered u.1 t.1 in
      let new = asked_now x.registered in
      let p = left_put vs v x (record x { asked = Some x.registered }) e in
      omega (arith, old, new, p)

  module _ (vs : Named Version) (v : OpName) (x : Version) (next : Settling)
      (rest : (ws : Named Version) (w : OpName) → outcome_left c (next ws w) ≤ versions_left c ws)
      (e : get vs v ≡ Some x) where
    left_how : (f : Follow) (how : How) → outcome_left c (settle_how vs v x f next how) ≤ versions_left c vs
    left_how f Beside =
        let u = left_unlinked vs v x f.version e in
        let r = rest (unlinked vs v x f.version) f.version in
        omega (arith, u, r)
    left_how f Over = left_over vs v x f.version e

    left_by : (f : Option Follow) → outcome_left c (settle_by vs v x next f) ≤ versions_left c vs
    left_by None = by (may_ask x) refl
      where
        by : (b : Bool) → may_ask x ≡ b
            → outcome_left c (cond b (settle_asking vs v x) (unchanged vs)) ≤ versions_left c vs
        by true asks = left_asking vs v x e asks
        by false asks = omega arith
    left_by (Some f) = by (may_die x f.last)
      where
        by : (b : Bool)
            → outcome_left c (cond b (settle_how vs v x f next f.how) (unchanged vs)) ≤ versions_left c vs
        by true = left_how f f.how
        by false = omega arith

  left_at : (next : Settling) → ((ws : Named Version) (w : OpName) → outcome_left c (next ws w) ≤ versions_left c ws)
      → (vs : Named Version) (v : OpName) (x : Option Version) → get vs v ≡ x
      → outcome_left c (settle_at vs v next x) ≤ versions_left c vs
  left_at next rest vs v None e = omega arith
  left_at next rest vs v (Some x) e = left_by vs v x next rest e x.successor

  left_settle : (n : ℕ) (vs : Named Version) (v : OpName) → outcome_left c (settle n vs v) ≤ versions_left c vs
  unfolding settle
  left_settle zero vs v = omega arith
  left_settle (suc n) vs v = left_at (settle n) (left_settle n) vs v (get vs v) refl

  -- a settle raises nothing
  pub left_settled : (vs : Named Version) (v : OpName) → outcome_left c (settled vs v) ≤ versions_left c vs
  left_settled vs v = left_settle _ vs v
