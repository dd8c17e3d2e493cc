-- What is sent: facts of each message of a list, and what they leave alone in the mail.
use Rattle.std.proofs.Common.{◌≡◌, ℕ, zero, suc, Bool, true, false, if◌then◌else◌, List, [], ◌∷◌, ◌++◌, Option, Some}
use Rattle.std.proofs.Common.{None, refl, ◌∙◌}
use Rattle.std.specs.FinMap.{get}
use Rattle.tss_base.specs.declared.operand.OpName.{OpName}
use Rattle.tss_base.specs.declared.marks.How.{How}
use Rattle.tss_base.specs.declared.marks.How.TheVariants.{Beside, Over}
use Rattle.tss_base.specs.declared.marks.Follow.{Follow}
use Rattle.tss_base.specs.declared.marks.LinkState.{LinkState}
use Rattle.tss_base.specs.declared.marks.LinkState.TheVariants as link
use Rattle.tss_base.specs.Names.{Named, Numbered}
use Rattle.tss_protocol.specs.Mail.{StorageName, Home, Buffer, Source, ReleaseContents, OpenContents, Message, Decode}
use Rattle.tss_protocol.specs.Mail.{Ack, Open, Use, Ready, Release, Bye, Mail, posted}
use Rattle.tss_protocol.specs.Mail.{posted_all}
use Rattle.tss_base.specs.declared.range.Range.{Range}
use Rattle.tss_model.specs.Access.{writes}
use Rattle.tss_protocol.specs.State.{Entry, OperandState, Flying, Version, CopyState}
use Rattle.tss_protocol.specs.Stations.{sent_by_ready, sent_by_link, release_of, releases_from, after_ready, after_link}
use Rattle.tss_protocol.specs.Stations.{flight_after_finish, woken_in, woken_by, linked_in, linked_by, finished_in}
use Rattle.tss_protocol.specs.Renaming.{idle_by, after_idle}
use Rattle.tss_protocol.specs.Versions.{Settling, ready_with, settle_how, settle_by, settle_at, settle_asking}
use Rattle.tss_protocol.specs.Versions.{unchanged, settle, settled, may_ask, may_die, opened_how, opened_by, after_open}
use Rattle.tss_protocol.specs.Versions.{used_alone, used_behind, used_at, after_use, head_ready, released_by}
use Rattle.tss_protocol.specs.Versions.{released_at, after_release, nacked_at, after_nack}
use Rattle.tss_protocol.specs.Buffers.{sent_by_retire, sent_by_copy}
use Rattle.tss_protocol.specs.Names.{operand_name}

-- a fact of each message
abbrev pub AllSent : (Message → Type 0) → List Message → Type 0
AllSent P [] = Unit {0}
AllSent P (x ∷ xs) = P x × AllSent P xs

-- of two lists
pub AllSent-append : (P : Message → Type 0) (xs ys : List Message) → AllSent P xs → AllSent P ys → AllSent P (xs ++ ys)
AllSent-append P [] ys a b = b
AllSent-append P (x ∷ xs) ys a b = (a.0, AllSent-append P xs ys a.1 b)

-- none of decode, ack, open and use, the messages of an operand that isn't enlisted yet
abbrev pub IsLater : Message → Type 0
IsLater (Decode o operand) = ⊥
IsLater (Ack o) = ⊥
IsLater (Open o opening) = ⊥
IsLater (Use o v) = ⊥
IsLater other = Unit {0}

-- ---- versions

ready_with-later : (o v : OpName) (storage : Option StorageName) → AllSent IsLater (ready_with o v storage)
ready_with-later o v None = tt
ready_with-later o v (Some s) = (tt, tt)

module _ (vs : Named Version) (v : OpName) (x : Version) (next : Settling)
    (rest : (ws : Named Version) (w : OpName) → AllSent IsLater (next ws w).sent) where
  settle_how-later : (f : Follow) (how : How) → AllSent IsLater (settle_how vs v x f next how).sent
  settle_how-later f Beside = (tt, rest _ _)
  settle_how-later f Over = (tt, ready_with-later f.version f.version x.storage)

  settle_by-later : (f : Option Follow) → AllSent IsLater (settle_by vs v x next f).sent
  settle_by-later None =
      elim (may_ask x) as (λ b. AllSent IsLater (if b then settle_asking vs v x else unchanged vs).sent) [
        | true ↦ (tt, tt)
        | false ↦ tt
      ]
  settle_by-later (Some f) =
      elim (may_die x f.last)
      as (λ b. AllSent IsLater (if b then settle_how vs v x f next f.how else unchanged vs).sent) [
        | true ↦ settle_how-later f f.how
        | false ↦ tt
      ]

settle_at-later : (vs : Named Version) (v : OpName) (next : Settling)
    → ((ws : Named Version) (w : OpName) → AllSent IsLater (next ws w).sent) → (x : Option Version)
    → AllSent IsLater (settle_at vs v next x).sent
settle_at-later vs v next rest None = tt
settle_at-later vs v next rest (Some x) = settle_by-later vs v x next rest x.successor

settle-later : (n : ℕ) (vs : Named Version) (v : OpName) → AllSent IsLater (settle n vs v).sent
unfolding settle
settle-later zero vs v = tt
settle-later (suc n) vs v = settle_at-later vs v (settle n) (settle-later n) (get vs v)

-- what settling sends
pub settled-later : (vs : Named Version) (v : OpName) → AllSent IsLater (settled vs v).sent
settled-later vs v = settle-later _ vs v

module _ (vs : Named Version) (o : OpName) where
  opened_how-later : (opening : OpenContents) (f : Follow) (how : How)
      → AllSent IsLater (opened_how vs o opening f how).sent
  opened_how-later opening f Beside =
      AllSent-append IsLater (ready_with o o opening.storage) _ (ready_with-later o o opening.storage)
      (settled-later _ _)
  opened_how-later opening f Over = settled-later _ _

  opened_by-later : (opening : OpenContents) (f : Option Follow) → AllSent IsLater (opened_by vs o opening f).sent
  opened_by-later opening None = ready_with-later o o opening.storage
  opened_by-later opening (Some f) = opened_how-later opening f f.how

  -- what open sends
  pub after_open-later : (opening : OpenContents) → AllSent IsLater (after_open vs o opening).sent
  after_open-later opening = opened_by-later opening opening.follows

  used_alone-later : (v : OpName) (x : Version) (produced : Bool) → AllSent IsLater (used_alone vs o v x produced).sent
  used_alone-later v x true = ready_with-later o v x.storage
  used_alone-later v x false = tt

  used_behind-later : (v : OpName) (x : Version) (tail : Option OpName)
      → AllSent IsLater (used_behind vs o v x tail).sent
  used_behind-later v x None = used_alone-later v x x.produced
  used_behind-later v x (Some last) = (tt, tt)

  used_at-later : (v : OpName) (x : Option Version) → AllSent IsLater (used_at vs o v x).sent
  used_at-later v None = tt
  used_at-later v (Some x) = used_behind-later v x x.tail

  -- what use sends
  pub after_use-later : (v : OpName) → AllSent IsLater (after_use vs o v).sent
  after_use-later v = used_at-later v (get vs v)

  head_ready-later : (v : OpName) (x : Version) (head : Option OpName) → AllSent IsLater (head_ready v x head)
  head_ready-later v x None = tt
  head_ready-later v x (Some h) = ready_with-later h v x.storage

  released_by-later : (v : OpName) (x : Version) (producer : Bool)
      → AllSent IsLater (released_by vs o v x producer).sent
  released_by-later v x true =
      AllSent-append IsLater (head_ready v x x.head ++ Bye o false ∷ []) _
      (AllSent-append IsLater (head_ready v x x.head) _ (head_ready-later v x x.head) (tt, tt))
      (settled-later _ _)
  released_by-later v x false = (tt, settled-later _ _)

  released_at-later : (v : OpName) (producer : Bool) (x : Option Version)
      → AllSent IsLater (released_at vs o v producer x).sent
  released_at-later v producer None = tt
  released_at-later v producer (Some x) = released_by-later v x producer

  -- what release sends
  pub after_release-later : (r : ReleaseContents) → AllSent IsLater (after_release vs o r).sent
  after_release-later r = released_at-later r.version r.producer (get vs r.version)

  nacked_at-later : (x : Option Version) → AllSent IsLater (nacked_at vs o x).sent
  nacked_at-later None = tt
  nacked_at-later (Some x) = settled-later _ _

  -- what nack sends
  pub after_nack-later : AllSent IsLater (after_nack vs o).sent
  after_nack-later = nacked_at-later (get vs o)

-- ---- stations

-- stations send ready and release messages alone
module _ (P : Message → Type 0) (ready : (o : OpName) (source : Source) → P (Ready o source))
    (release : (o : OpName) (r : ReleaseContents) → P (Release o r)) where
  sent_by_ready-all : (l : LinkState) (source : Source) → AllSent P (sent_by_ready l source)
  sent_by_ready-all link.Nothing source = tt
  sent_by_ready-all (link.Held next) source = (ready next source, tt)
  sent_by_ready-all link.Passed source = tt

  sent_by_link-all : (source : Option Source) (next : OpName) → AllSent P (sent_by_link source next)
  sent_by_link-all None next = tt
  sent_by_link-all (Some source) next = (ready next source, tt)

  module _ (flight : Numbered Flying) (o : OpName) where
    woken_by-all : (source : Source) (x : Flying) (r : Option OperandState)
        → AllSent P (woken_by flight o source x r).sent
    woken_by-all source x None = tt
    woken_by-all source x (Some r) = sent_by_ready-all r.link source

    woken_in-all : (source : Source) (x : Option Flying) → AllSent P (woken_in flight o source x).sent
    woken_in-all source None = tt
    woken_in-all source (Some x) = woken_by-all source x _

    -- what ready sends
    pub after_ready-all : (source : Source) → AllSent P (after_ready flight o source).sent
    after_ready-all source = woken_in-all source (get flight o.task)

    linked_by-all : (next : OpName) (x : Flying) (r : Option OperandState)
        → AllSent P (linked_by flight o next x r).sent
    linked_by-all next x None = tt
    linked_by-all next x (Some r) = sent_by_link-all r.source next

    linked_in-all : (next : OpName) (x : Option Flying) → AllSent P (linked_in flight o next x).sent
    linked_in-all next None = tt
    linked_in-all next (Some x) = linked_by-all next x _

    -- what link sends
    pub after_link-all : (next : OpName) → AllSent P (after_link flight o next).sent
    after_link-all next = linked_in-all next (get flight o.task)

  release_of-all : (o : OpName) (r : OperandState) (source : Option Source) → AllSent P (release_of o r source)
  release_of-all o r None = tt
  release_of-all o r (Some source) =
      (release o (record { version = source.version; producer = writes r.operand.mode }), tt)

  releases_from-all : (task place : ℕ) (rs : List OperandState) → AllSent P (releases_from task place rs)
  releases_from-all task place [] = tt
  releases_from-all task place (r ∷ rs) =
      AllSent-append P (release_of (operand_name task place) r r.source) _
      (release_of-all (operand_name task place) r r.source)
      (releases_from-all task (suc place) rs)

  finished_in-all : (flight : Numbered Flying) (task : ℕ) (x : Option Flying)
      → AllSent P (finished_in flight task x).sent
  finished_in-all flight task None = tt
  finished_in-all flight task (Some x) = releases_from-all task 0 x.operands

  -- what finish sends
  pub flight_after_finish-all : (flight : Numbered Flying) (task : ℕ)
      → AllSent P (flight_after_finish flight task).sent
  flight_after_finish-all flight task = finished_in-all flight task (get flight task)

-- each of these is a later message
pub after_ready-later : (flight : Numbered Flying) (o : OpName) (source : Source)
    → AllSent IsLater (after_ready flight o source).sent
after_ready-later = after_ready-all IsLater (λ o source. tt) (λ o r. tt)

-- those of link
pub after_link-later : (flight : Numbered Flying) (o next : OpName) → AllSent IsLater (after_link flight o next).sent
after_link-later = after_link-all IsLater (λ o source. tt) (λ o r. tt)

-- those of finish
pub flight_after_finish-later : (flight : Numbered Flying) (task : ℕ)
    → AllSent IsLater (flight_after_finish flight task).sent
flight_after_finish-later = flight_after_finish-all IsLater (λ o source. tt) (λ o r. tt)

-- ---- idle, retire, copy

idle_by-later : (entries : Numbered Entry) (v : OpName) (base : ℕ) (e : Option Entry) (may : Bool)
    → AllSent IsLater (idle_by entries v base e may).sent
idle_by-later entries v base e true = (tt, tt)
idle_by-later entries v base e false = (tt, tt)

-- what idle sends
pub after_idle-later : (entries : Numbered Entry) (v : OpName) (base count : ℕ)
    → AllSent IsLater (after_idle entries v base count).sent
after_idle-later entries v base count = idle_by-later entries v base _ _

-- what retire sends
pub sent_by_retire-later : (v : OpName) (object : Range) (storage : Option StorageName)
    → AllSent IsLater (sent_by_retire v object storage)
sent_by_retire-later v object None = tt
sent_by_retire-later v object (Some Home) = (tt, tt)
sent_by_retire-later v object (Some (Buffer n)) = tt

-- what copy sends
pub sent_by_copy-later : (c : CopyState) (last : Bool) → AllSent IsLater (sent_by_copy c last)
sent_by_copy-later c true = (tt, tt)
sent_by_copy-later c false = tt

-- ---- the mail

-- decodes, acks, opens and uses are as they were
pub record KeepsEarly (m n : Mail) : Type 0 where
  pub decodes : n.decodes ≡ m.decodes
  pub acks : n.acks ≡ m.acks
  pub opens : n.opens ≡ m.opens
  pub uses : n.uses ≡ m.uses

-- a later message leaves them so
posted-later : (m : Mail) (x : Message) → IsLater x → KeepsEarly m (posted m x)
posted-later m (Decode o operand) h = absurd h
posted-later m (Ack o) h = absurd h
posted-later m (Open o opening) h = absurd h
posted-later m (Use o v) h = absurd h
posted-later m other h = record { decodes = refl; acks = refl; opens = refl; uses = refl }

-- and so do more of them
pub posted_all-later : (m : Mail) (xs : List Message) → AllSent IsLater xs → KeepsEarly m (posted_all m xs)
posted_all-later m [] h = record { decodes = refl; acks = refl; opens = refl; uses = refl }
posted_all-later m (x ∷ xs) h =
    let one = posted-later m x h.0 in
    let rest = posted_all-later (posted m x) xs h.1 in
    record {
      decodes = rest.decodes ∙ one.decodes;
      acks = rest.acks ∙ one.acks;
      opens = rest.opens ∙ one.opens;
      uses = rest.uses ∙ one.uses;
    }
