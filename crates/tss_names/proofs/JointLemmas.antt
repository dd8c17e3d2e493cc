-- A fact that joins the versions with the mail, kept by the events of the versioning tables where a few changes keep
-- it.
use Rattle.std.proofs.Common.{◌≡◌, ℕ, zero, suc, Bool, true, false, if◌then◌else◌, List, [], ◌∷◌, ◌++◌, Option, Some}
use Rattle.std.proofs.Common.{None, refl, sym, subst}
use Rattle.std.specs.Prelude.{not, ◌&&◌, ◌==◌, is_none}
use Rattle.std.specs.FinMap.{get}
use Rattle.std.proofs.lemmas.Bool.{and_parts}
use Rattle.tss_base.specs.declared.operand.OpName.{OpName}
use Rattle.tss_base.specs.declared.operand.Mode.{Mode}
use Rattle.tss_base.specs.declared.operand.Mode.TheVariants.{Input, Output, Inout}
use Rattle.tss_base.specs.declared.marks.How.{How}
use Rattle.tss_base.specs.declared.marks.How.TheVariants.{Beside, Over}
use Rattle.tss_base.specs.declared.marks.Follow.{Follow}
use Rattle.tss_base.specs.Names.{Named}
use Rattle.tss_protocol.specs.Mail.{StorageName, Source, GoneContents, OpenContents, ReleaseContents, Message, Ready}
use Rattle.tss_protocol.specs.Mail.{Link, Bye, Idle, Gone, Mail, posted, posted_all}
use Rattle.tss_protocol.specs.State.{Version}
use Rattle.tss_protocol.specs.Versions.{Versioned, Settling, sending, put_version, drop_version, version_changed}
use Rattle.tss_protocol.specs.Versions.{change_version, change_named, ready_with, buffer_of, may_die, may_ask, is_count}
use Rattle.tss_protocol.specs.Versions.{followed_by, unlinked, settle_how, settle_asking, unchanged, settle_by}
use Rattle.tss_protocol.specs.Versions.{settle_at, settle, settled, new_version, first_version, followed, opened_how}
use Rattle.tss_protocol.specs.Versions.{opened_by, after_open, enlisted, used_alone, used_behind, used_at, after_use}
use Rattle.tss_protocol.specs.Versions.{head_ready, produced_now, is_last, released_once, released_by, released_at}
use Rattle.tss_protocol.specs.Versions.{after_release}
use Rattle.tss_names.proofs.PlainLemmas.{none_from_test}

-- such facts, and the changes that keep them: a version is written over with one that asks as it did, one that doesn't
-- ask dies, one asks, and messages of stations are sent
pub record IsJoint (J : Named Version → Mail → Type 0) : Type 0 where
  pub write : (vs : Named Version) (m : Mail) (v : OpName) (x y : Version) → get vs v ≡ Some x → y.asked ≡ x.asked
      → y.object ≡ x.object → J vs m → J (put_version vs v y) m
  pub dies : (vs : Named Version) (m : Mail) (v : OpName) (x : Version) (g : GoneContents) → get vs v ≡ Some x
      → g.object ≡ x.object → x.asked ≡ None → J vs m → J (drop_version vs v) (posted m (Gone v g))
  pub asks : (vs : Named Version) (m : Mail) (v : OpName) (x : Version) → get vs v ≡ Some x → x.asked ≡ None → J vs m
      → J (put_version vs v (record x { asked = Some x.registered }))
      (posted m (Idle v (record { base = x.object.base; count = x.registered })))
  pub ready : (vs : Named Version) (m : Mail) (o : OpName) (s : Source) → J vs m → J vs (posted m (Ready o s))
  pub linked : (vs : Named Version) (m : Mail) (o next : OpName) → J vs m → J vs (posted m (Link o next))
  pub bye : (vs : Named Version) (m : Mail) (o : OpName) (promised : Bool) → J vs m → J vs (posted m (Bye o promised))

-- messages in two lists
pub posted_all-append : (m : Mail) (xs ys : List Message) → posted_all m (xs ++ ys) ≡ posted_all (posted_all m xs) ys
posted_all-append m [] ys = refl
posted_all-append m (x ∷ xs) ys = posted_all-append (posted m x) xs ys

module _ (J : Named Version → Mail → Type 0) (k : IsJoint J) where
  -- of an outcome, with its messages in the mail
  abbrev After : Mail → Versioned → Type 0
  After m d = J d.part (posted_all m d.sent)

  after_sending : (m : Mail) (ms : List Message) (d : Versioned) → After (posted_all m ms) d → After m (sending ms d)
  after_sending m ms d h = subst (J d.part) (sym (posted_all-append m ms d.sent)) h

  joint_changed_by : (f : Version → Version) → ((x : Version) → (f x).asked ≡ x.asked)
      → ((x : Version) → (f x).object ≡ x.object) → (vs : Named Version) (m : Mail) (v : OpName) (x : Option Version)
      → get vs v ≡ x → J vs m → J (version_changed vs v f x) m
  joint_changed_by f asked object vs m v None e h = h
  joint_changed_by f asked object vs m v (Some x) e h = k.write vs m v x (f x) e (asked x) (object x) h

  joint_changed : (f : Version → Version) → ((x : Version) → (f x).asked ≡ x.asked)
      → ((x : Version) → (f x).object ≡ x.object) → (vs : Named Version) (m : Mail) (v : OpName) → J vs m
      → J (change_version vs v f) m
  joint_changed f asked object vs m v h = joint_changed_by f asked object vs m v (get vs v) refl h

  joint_changed_named : (f : Version → Version) → ((x : Version) → (f x).asked ≡ x.asked)
      → ((x : Version) → (f x).object ≡ x.object) → (vs : Named Version) (m : Mail) (v : Option OpName) → J vs m
      → J (change_named vs v f) m
  joint_changed_named f asked object vs m None h = h
  joint_changed_named f asked object vs m (Some v) h = joint_changed f asked object vs m v h

  joint_ready : (vs : Named Version) (m : Mail) (o v : OpName) (s : Option StorageName) → J vs m
      → J vs (posted_all m (ready_with o v s))
  joint_ready vs m o v None h = h
  joint_ready vs m o v (Some s) h = k.ready vs m o (record { version = v; storage = s }) h

  -- ---- settle

  joint_unlinked : (vs : Named Version) (m : Mail) (v : OpName) (x : Version) (s : OpName) → J (drop_version vs v) m
      → J (unlinked vs v x s) m
  joint_unlinked vs m v x s h =
      joint_changed (λ y. record y { predecessor = x.predecessor }) (λ y. refl) (λ y. refl) _ m s
      (joint_changed_named (λ q. record q { successor = followed_by s q.successor }) (λ y. refl) (λ y. refl)
      (drop_version vs v) m x.predecessor h)

  module _ (vs : Named Version) (m : Mail) (v : OpName) (x : Version) (e : get vs v ≡ Some x) (h : J vs m)
      (go : Settling) (rest : (ws : Named Version) (n : Mail) (w : OpName) → J ws n → After n (go ws w)) where
    joint_settle_how : x.asked ≡ None → (f : Follow) (how : How) → After m (settle_how vs v x f go how)
    joint_settle_how quiet f Beside =
        let g : GoneContents = record { object = x.object; buffer = buffer_of x.storage; retired = false } in
        rest (unlinked vs v x f.version) (posted m (Gone v g)) f.version
        (joint_unlinked vs (posted m (Gone v g)) v x f.version (k.dies vs m v x g e refl quiet h))
    joint_settle_how quiet f Over =
        let g : GoneContents = record { object = x.object; buffer = None; retired = false } in
        joint_ready _ (posted m (Gone v g)) f.version f.version x.storage
        (joint_changed (λ y. record y { storage = x.storage }) (λ y. refl) (λ y. refl) (unlinked vs v x f.version)
        (posted m (Gone v g)) f.version
        (joint_unlinked vs (posted m (Gone v g)) v x f.version (k.dies vs m v x g e refl quiet h)))

    joint_settle_by : (f : Option Follow) → After m (settle_by vs v x go f)
    joint_settle_by None = by (may_ask x) refl
      where
        by : (b : Bool) → may_ask x ≡ b → After m (if b then settle_asking vs v x else unchanged vs)
        by true on =
            let a = and_parts
            (x.produced && (x.released == x.registered) && is_none x.predecessor && is_none x.asked)
            (not (is_count x.refused x.registered)) on in
            let b = and_parts (x.produced && (x.released == x.registered) && is_none x.predecessor) (is_none x.asked)
            a.0 in
            k.asks vs m v x e (none_from_test x.asked b.1) h
        by false off = h
    joint_settle_by (Some f) = by (may_die x f.last) refl
      where
        by : (b : Bool) → may_die x f.last ≡ b → After m (if b then settle_how vs v x f go f.how else unchanged vs)
        by true on =
            let a = and_parts (x.produced && (x.released == f.last)) (is_none x.asked) on in
            joint_settle_how (none_from_test x.asked a.1) f f.how
        by false off = h

  joint_settle_at : (vs : Named Version) (m : Mail) (v : OpName) (go : Settling)
      → ((ws : Named Version) (n : Mail) (w : OpName) → J ws n → After n (go ws w)) → (x : Option Version)
      → get vs v ≡ x → J vs m → After m (settle_at vs v go x)
  joint_settle_at vs m v go rest None e h = h
  joint_settle_at vs m v go rest (Some x) e h = joint_settle_by vs m v x e h go rest x.successor

  joint_settle : (n : ℕ) (vs : Named Version) (m : Mail) (v : OpName) → J vs m → After m (settle n vs v)
  unfolding settle
  joint_settle zero vs m v h = h
  joint_settle (suc n) vs m v h = joint_settle_at vs m v (settle n) (joint_settle n) (get vs v) refl h

  -- so settling keeps it
  pub joint_settled : (vs : Named Version) (m : Mail) (v : OpName) → J vs m → After m (settled vs v)
  joint_settled vs m v h = joint_settle _ vs m v h

  -- ---- open, where each new version that asks for nothing may be put

  module _ (vs : Named Version) (m : Mail) (o : OpName) (c : OpenContents)
      (new : (x : Version) → x.object ≡ c.operand.object → x.asked ≡ None → J (put_version vs o x) m) where
    joint_followed : (f : Follow) → J (followed vs o c f) m
    joint_followed f =
        joint_changed (λ p. record p { successor = Some (record f { version = o }) }) (λ y. refl) (λ y. refl) _ m
        f.version
        (new (record (new_version c.operand.object c.storage) { predecessor = Some f.version }) refl refl)

    joint_opened_how : (f : Follow) (how : How) → After m (opened_how vs o c f how)
    joint_opened_how f Beside =
        after_sending m (ready_with o o c.storage) (settled (followed vs o c f) f.version)
        (joint_settled (followed vs o c f) (posted_all m (ready_with o o c.storage)) f.version
        (joint_ready (followed vs o c f) m o o c.storage (joint_followed f)))
    joint_opened_how f Over = joint_settled (followed vs o c f) m f.version (joint_followed f)

    joint_first : (mode : Mode) → J (put_version vs o (first_version o c.operand.object c.storage mode)) m
    joint_first Input = new (first_version o c.operand.object c.storage Input) refl refl
    joint_first Output = new (first_version o c.operand.object c.storage Output) refl refl
    joint_first Inout = new (first_version o c.operand.object c.storage Inout) refl refl

    joint_opened_by : (f : Option Follow) → After m (opened_by vs o c f)
    joint_opened_by None = joint_ready _ m o o c.storage (joint_first c.operand.mode)
    joint_opened_by (Some f) = joint_opened_how f f.how

    -- what open leaves
    pub joint_open : After m (after_open vs o c)
    joint_open = joint_opened_by c.follows

  -- ---- use, release

  module _ (vs : Named Version) (m : Mail) (h : J vs m) where
    joint_used_alone : (o v : OpName) (x : Version) → get vs v ≡ Some x → (produced : Bool)
        → After m (used_alone vs o v x produced)
    joint_used_alone o v x e true =
        joint_ready _ m o v x.storage (k.write vs m v x (enlisted x o) e refl refl h)
    joint_used_alone o v x e false = k.write vs m v x (record (enlisted x o) { head = Some o }) e refl refl h

    joint_used_behind : (o v : OpName) (x : Version) → get vs v ≡ Some x → (tail : Option OpName)
        → After m (used_behind vs o v x tail)
    joint_used_behind o v x e None = joint_used_alone o v x e x.produced
    joint_used_behind o v x e (Some last) = k.linked _ m last o (k.write vs m v x (enlisted x o) e refl refl h)

    joint_used_at : (o v : OpName) (x : Option Version) → get vs v ≡ x → After m (used_at vs o v x)
    joint_used_at o v None e = h
    joint_used_at o v (Some x) e = joint_used_behind o v x e x.tail

    -- what use leaves
    pub joint_use : (o v : OpName) → After m (after_use vs o v)
    joint_use o v = joint_used_at o v (get vs v) refl

    joint_head : (v : OpName) (x : Version) (head : Option OpName) → J vs m → J vs (posted_all m (head_ready v x head))
    joint_head v x None h = h
    joint_head v x (Some o) h = joint_ready vs m o v x.storage h

    joint_released_by : (o v : OpName) (x : Version) → get vs v ≡ Some x → (producer : Bool)
        → After m (released_by vs o v x producer)
    joint_released_by o v x e true =
        let n = posted (posted_all m (head_ready v x x.head)) (Bye o false) in
        let told = k.bye vs (posted_all m (head_ready v x x.head)) o false (joint_head v x x.head h) in
        after_sending m (head_ready v x x.head ++ Bye o false ∷ []) (settled (put_version vs v (produced_now x)) v)
        (subst (λ n. After n (settled (put_version vs v (produced_now x)) v))
        (sym (posted_all-append m (head_ready v x x.head) (Bye o false ∷ [])))
        (joint_settled (put_version vs v (produced_now x)) n v (k.write vs n v x (produced_now x) e refl refl told)))
    joint_released_by o v x e false =
        let n = posted m (Bye o (not (is_last o x.tail))) in
        let told = k.bye vs m o (not (is_last o x.tail)) h in
        joint_settled (put_version vs v (released_once x o)) n v (k.write vs n v x (released_once x o) e refl refl told)

    joint_released_at : (o v : OpName) (producer : Bool) (x : Option Version) → get vs v ≡ x
        → After m (released_at vs o v producer x)
    joint_released_at o v producer None e = h
    joint_released_at o v producer (Some x) e = joint_released_by o v x e producer

    -- what release leaves
    pub joint_release : (o : OpName) (r : ReleaseContents) → After m (after_release vs o r)
    joint_release o r = joint_released_at o r.version r.producer (get vs r.version) refl
