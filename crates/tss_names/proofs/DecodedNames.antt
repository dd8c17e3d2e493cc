-- Every name in the machine is of an operand that was decoded.
use Rattle.std.proofs.Common.{◌≡◌, ◌<◌, ◌≤◌, inl, inr, List, ◌∷◌, Option, Some, None, sym, ap, ◌∙◌, subst, arith}
use Rattle.std.specs.FinMap.{get, remove}
use Rattle.std.proofs.lemmas.Option.{none-some}
use Rattle.tss_base.specs.declared.operand.OpName.{OpName}
use Rattle.tss_base.specs.declared.operand.Operand.{Operand}
use Rattle.tss_base.specs.declared.operand.Task.{Task}
use Rattle.tss_base.specs.declared.machine.Machine.{Machine}
use Rattle.tss_base.specs.declared.event.Event.TheVariants as event
use Rattle.tss_base.specs.declared.marks.LinkState.{LinkState}
use Rattle.tss_base.specs.declared.marks.LinkState.TheVariants as link
use Rattle.tss_base.specs.declared.marks.Follow.{Follow}
use Rattle.tss_maps.proofs.Keys.{name_order, decide_key}
use Rattle.tss_maps.proofs.Changes.{decide_get, at_removed, beside_removed}
use Rattle.tss_model.specs.Access.{operands_of}
use Rattle.tss_protocol.specs.Mail.{StorageName, Home, Buffer, Source, Message, Decode, Ack, Open, Use, Ready, Link}
use Rattle.tss_protocol.specs.Mail.{Release, Bye, Idle, Nack, Retire, Gone}
use Rattle.tss_protocol.specs.State.{State, OperandState, Version}
use Rattle.tss_protocol.specs.UnitMachine.{IsEnabled, after_event}
use Rattle.tss_names.specs.Tasks.{TasksFact, taken_by, IsOperandOf}
use Rattle.tss_names.proofs.SpawnLemmas.{SpawnsOne}
use Rattle.tss_names.specs.Names.{WhereThere, StorageNames, SourceNames, LinkNames, OperandNames, VersionNames}
use Rattle.tss_names.specs.Names.{MessageNames}
use Rattle.tss_protocol.proofs.FrontLemmas.{Front, front_of}
use Rattle.tss_names.proofs.TakeLemmas.{spread, from_spread, TakesTask, DecodesOperand, decodes_decode}
use Rattle.tss_names.proofs.RunLemmas.{IsKeptAs, kept_by_front}
use Rattle.tss_names.proofs.NumberLemmas.{last_taken_before, taken_newest}
use Rattle.tss_names.proofs.GatewayLemmas.{IsFrontSound, operand_still, of_taken}
use Rattle.tss_names.proofs.NameLemmas.{each_sent_weaker}
use Rattle.tss_names.proofs.NameEvents.{StateNames}

-- ---- a weaker fact

where_weaker : {X : Type 0} (A B : X → Type 0) (o : Option X) → ((x : X) → A x → B x) → WhereThere A o → WhereThere B o
where_weaker A B None weaker h = tt
where_weaker A B (Some x) weaker h = weaker x h

module _ (P Q E F : OpName → Type 0) (weaker : (o : OpName) → P o → Q o) (still : (o : OpName) → E o → F o) where
  storage_weaker : (s : StorageName) → StorageNames P s → StorageNames Q s
  storage_weaker Home h = tt
  storage_weaker (Buffer n) h = weaker n h

  source_weaker : (s : Source) → SourceNames P E s → SourceNames Q F s
  source_weaker s h = (still s.version h.0, storage_weaker s.storage h.1)

  link_weaker : (l : LinkState) → LinkNames E l → LinkNames F l
  link_weaker link.Nothing h = tt
  link_weaker (link.Held next) h = still next h
  link_weaker link.Passed h = tt

  operand_weaker : (o : OpName) (r : OperandState) → OperandNames P E o r → OperandNames Q F o r
  operand_weaker o r h = record {
    own = where_weaker (λ (s : Source). E o) (λ (s : Source). F o) r.source (λ s. still o) h.own;
    source = where_weaker (SourceNames P E) (SourceNames Q F) r.source source_weaker h.source;
    link = link_weaker r.link h.link;
  }

  version_weaker : (x : Version) → VersionNames P E x → VersionNames Q F x
  version_weaker x h = record {
    storage = where_weaker (StorageNames P) (StorageNames Q) x.storage storage_weaker h.storage;
    head = where_weaker E F x.head still h.head;
    tail = where_weaker E F x.tail still h.tail;
    predecessor = where_weaker P Q x.predecessor weaker h.predecessor;
    successor =
        where_weaker (λ (f : Follow). E f.version) (λ (f : Follow). F f.version) x.successor (λ f. still f.version)
        h.successor;
  }

  message_weaker : (x : Message) → MessageNames P E x → MessageNames Q F x
  message_weaker (Decode o operand) h = tt
  message_weaker (Ack o) h = weaker o h
  message_weaker (Open o c) h = (
    weaker o h.0,
    where_weaker (StorageNames P) (StorageNames Q) c.storage storage_weaker h.1,
    where_weaker (λ (f : Follow). P f.version) (λ (f : Follow). Q f.version) c.follows (λ f. weaker f.version) h.2,
  )
  message_weaker (Use o v) h = (weaker o h.0, weaker v h.1)
  message_weaker (Ready o source) h = (still o h.0, source_weaker source h.1)
  message_weaker (Link o next) h = (still o h.0, still next h.1)
  message_weaker (Release o r) h = (still o h.0, still r.version h.1)
  message_weaker (Bye o promised) h = still o h
  message_weaker (Idle v asking) h = still v h
  message_weaker (Nack v) h = still v h
  message_weaker (Retire v) h = still v h
  message_weaker (Gone v g) h = (still v h.0, where_weaker P Q g.buffer weaker h.1)

  -- of all names in a state
  pub state_weaker : (S : State) → StateNames P E S → StateNames Q F S
  state_weaker S h = (
    (λ n x e place r f. operand_weaker _ r (h.0 n x e place r f)),
    (λ w b e i s f. storage_weaker s (h.1 w b e i s f)),
    (λ base e f. weaker e.latest (h.2 base e f)),
    (λ v bank e. weaker v (h.3 v bank e)),
    (λ n bank e. weaker n (h.4 n bank e)),
    (λ n bytes e. weaker n (h.5 n bytes e)),
    (λ v x e. let here = h.6 v x e in (still v here.0, version_weaker x here.1)),
    (λ bank c e. let here = h.7 bank c e in (still c.version here.0, weaker c.buffer here.1)),
    each_sent_weaker (MessageNames P E) (MessageNames Q F) S.mail message_weaker h.8,
  )

-- ---- decoded operands

-- by the front
abbrev pub DecodedBy : List Task → Front → OpName → Type 0
DecodedBy ts f o =
    ((1 ≤ o.task) × (o.task ≤ taken_by f.inbox f.spawned))
    × ((operand : Operand) × IsOperandOf ts o operand)
    × (get f.decodes o ≡ None)

-- after a take an operand that was decoded is none of the task's
not_spread : (f : Front) (t : Task) (o : OpName) → o.task < t.number → get f.decodes o ≡ None
    → get (spread (λ x. x) f.decodes t.number 0 (operands_of t)) o ≡ None
not_spread f t o before none =
    elim (decide_get (spread (λ x. x) f.decodes t.number 0 (operands_of t)) o) [
      | inl absent ↦ absent
      | inr there ↦ elim (from_spread (λ x. x) f.decodes t.number 0 (operands_of t) o there.0 there.1) [
        | inl r ↦ let same = ap (λ (n : OpName). n.task) r.2 in absurd (omega (arith, same, before))
        | inr old ↦ absurd (none-some there.0 (sym none ∙ old))
      ]
    ]

-- in a state with a sound front, where this operand is decoded
abbrev HasDecoded : OpName → TasksFact
HasDecoded o m ts S = IsFrontSound m ts S × DecodedBy ts (front_of S) o

decoded_spawned : (o : OpName) (m : Machine) (ts us : List Task) (S T : State) → HasDecoded o m ts S
    → (p : SpawnsOne m ts us S T) → DecodedBy (p.task ∷ ts) (front_of T) o
decoded_spawned o m ts us S T h p =
    let d = h.1 in
    subst (λ f. DecodedBy (p.task ∷ ts) f o) (sym p.front) (
      (
        d.0.0,
        let a = ap (λ i. taken_by i S.main.spawned) p.empty in let b = d.0.1 in omega (arith, a, b),
      ),
      (d.1.0, operand_still p.task ts o d.1.0 d.1.1),
      d.2,
    )

decoded_taken : (o : OpName) (m : Machine) (ts : List Task) (S T : State) → HasDecoded o m ts S → TakesTask m S T
    → DecodedBy ts (front_of T) o
decoded_taken o m ts S T h p =
    let d = h.1 in
    let before = last_taken_before m ts S T h.0.0 p in
    let newest = (taken_newest m ts S T h.0.0 p).number in
    let last = d.0.1 in
    subst (λ f. DecodedBy ts f o) (sym p.front) (
      (d.0.0, omega (arith, before, last)),
      d.1,
      not_spread (front_of S) p.task o (omega (arith, before, newest, last)) d.2,
    )

decoded_beside : (o q : OpName) (m : Machine) (ts : List Task) (S T : State) → HasDecoded o m ts S
    → DecodesOperand m S T q → DecodedBy ts (front_of T) o
decoded_beside o q m ts S T h p =
    let d = h.1 in
    let none : get (remove S.mail.decodes q) o ≡ None =
    elim (decide_key name_order o q) [
      | inl same ↦ ap (get (remove S.mail.decodes q)) same ∙ at_removed name_order S.mail.decodes q
      | inr other ↦ beside_removed name_order S.mail.decodes q o other ∙ d.2
    ] in
    subst (λ f. DecodedBy ts f o) (sym p.front) (d.0, d.1, none)

-- an operand stays decoded
pub still_decoded : (o : OpName) → IsKeptAs (HasDecoded o) (λ m ts S. DecodedBy ts (front_of S) o)
still_decoded o =
    kept_by_front (HasDecoded o) (λ m ts S. DecodedBy ts (front_of S) o)
    (decoded_spawned o) (decoded_taken o)
    (λ m ts S T q h p. decoded_beside o q m ts S T h p)
    (λ m ts S T q h a. subst (λ f. DecodedBy ts f o) (sym a.front) h.1)
    (λ m ts S T h k. subst (λ f. DecodedBy ts f o) (sym k.front) h.1)

-- and is decoded by its decode
pub decoded_now : (m : Machine) (ts : List Task) (S : State) (o : OpName) → IsFrontSound m ts S
    → IsEnabled m S (event.Decode o) → DecodedBy ts (front_of (after_event m S (event.Decode o))) o
decoded_now m ts S o h on =
    let p = decodes_decode m S o on in
    let d = h.1.decodes o p.operand p.there in
    subst (λ f. DecodedBy ts f o) (sym p.front)
    ((of_taken m ts S h o d.0).0, (p.operand, d.2), at_removed name_order S.mail.decodes o)

-- ---- all names

-- an enlisted operand: neither its decode, nor its open, nor its use is under way
abbrev pub EnlistedIn : List Task → State → OpName → Type 0
EnlistedIn ts S o =
    DecodedBy ts (front_of S) o × (get S.mail.opens o ≡ None) × (get S.mail.uses o ≡ None)

-- in a state with a sound front all names are of decoded operands, or of enlisted ones
abbrev pub AreNamesDecoded : TasksFact
AreNamesDecoded m ts S = IsFrontSound m ts S × StateNames (DecodedBy ts (front_of S)) (EnlistedIn ts S) S
