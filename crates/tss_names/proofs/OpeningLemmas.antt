-- Of an operand's decode, open, use and version there is one at most.
use Rattle.std.proofs.Common.{◌≡◌, ◌≢◌, ◌⊎◌, inl, inr, List, ◌∷◌, Option, Some, None, refl, sym, ap, ◌∙◌, subst}
use Rattle.std.specs.FinMap.{get, insert, remove}
use Rattle.std.proofs.lemmas.Option.{none-some}
use Rattle.tss_base.specs.declared.range.Range.{Range}
use Rattle.tss_base.specs.declared.operand.OpName.{OpName}
use Rattle.tss_base.specs.declared.operand.Mode.{Mode}
use Rattle.tss_base.specs.declared.operand.Mode.TheVariants.{Input, Output, Inout}
use Rattle.tss_base.specs.declared.operand.Operand.{Operand}
use Rattle.tss_base.specs.declared.operand.Task.{Task}
use Rattle.tss_base.specs.declared.machine.Machine.{Machine}
use Rattle.tss_base.specs.declared.event.Event.{Event}
use Rattle.tss_base.specs.declared.event.Event.TheVariants as event
use Rattle.tss_base.specs.Names.{Named}
use Rattle.tss_maps.proofs.Keys.{name_order, decide_key}
use Rattle.tss_maps.proofs.Changes.{beside_inserted, from_inserted, at_removed, beside_removed, from_removed}
use Rattle.tss_maps.proofs.Changes.{decide_get}
use Rattle.tss_protocol.specs.Mail.{OpenContents, Message, Mail, posted, taken}
use Rattle.tss_protocol.specs.State.{State, Entry, Version}
use Rattle.tss_protocol.specs.Renaming.{live_message, decode_message}
use Rattle.tss_protocol.specs.Versions.{after_open, after_use}
use Rattle.tss_protocol.specs.MainEvent.{call_next}
use Rattle.tss_protocol.specs.UnitMachine.{IsEnabled, after_event, without, decode_message_taken, open_message_taken}
use Rattle.tss_protocol.specs.UnitMachine.{use_message_taken}
use Rattle.tss_names.specs.Tasks.{TasksFact, spawned_after_event, spawned_by_main, IsOperandOf}
use Rattle.tss_protocol.proofs.SentLemmas.{posted_all-later, after_open-later, after_use-later}
use Rattle.tss_names.proofs.SpawnLemmas.{SpawnsAtMostOne, spawns_main}
use Rattle.tss_names.proofs.GatewayLemmas.{operand_still}
use Rattle.tss_names.proofs.DecodedNames.{AreNamesDecoded}
use Rattle.tss_names.proofs.VersionObjects.{objects_open, objects_use}
use Rattle.tss_names.proofs.OpeningFrames.{VersionsFrom, all_from, KeepsOpenings, Before, openings_main, openings_take}
use Rattle.tss_names.proofs.OpeningFrames.{openings_ready, openings_link, openings_bye, openings_start, openings_exec}
use Rattle.tss_names.proofs.OpeningFrames.{openings_finish, openings_release, openings_idle, openings_nack}
use Rattle.tss_names.proofs.OpeningFrames.{openings_retire, openings_copy, openings_gone}

-- the facts, over the three maps
pub record Opens (ts : List Task) (os : Named OpenContents) (us : Named OpName) (vs : Named Version) : Type 0 where
  pub opens : (o : OpName) (c : OpenContents) → get os o ≡ Some c
      → IsOperandOf ts o c.operand × (get us o ≡ None) × (get vs o ≡ None)
  pub uses : (o v : OpName) → get us o ≡ Some v
      → ((x : Operand) × IsOperandOf ts o x × (x.mode ≡ Input)) × (get vs o ≡ None)
  pub versions : (v : OpName) (x : Version) → get vs v ≡ Some x
      → (y : Operand) × IsOperandOf ts v y × (x.object ≡ y.object)

none_from : (vs ws : Named Version) → VersionsFrom vs ws → (v : OpName) → get vs v ≡ None → get ws v ≡ None
none_from vs ws from v none =
    elim (decide_get ws v) [
      | inl e ↦ e
      | inr there ↦ let before = from v there.0 there.1 in absurd (none-some before.0 (sym none ∙ before.1))
    ]

-- ---- changes

-- opens and uses that are the same
opens_same : (ts : List Task) (os ps : Named OpenContents) (us ws : Named OpName) (vs : Named Version) → ps ≡ os
    → ws ≡ us → Opens ts os us vs → Opens ts ps ws vs
opens_same ts os ps us ws vs first second h =
    subst (λ ps. Opens ts ps ws vs) (sym first) (subst (λ ws. Opens ts os ws vs) (sym second) h)

module _ (ts : List Task) (opens : Named OpenContents) (uses : Named OpName) (vs : Named Version)
    (h : Opens ts opens uses vs) where
  opens_spawned : (u : Task) → Opens (u ∷ ts) opens uses vs
  opens_spawned u = record {
    opens = λ o c e. let r = h.opens o c e in (operand_still u ts o c.operand r.0, r.1, r.2);
    uses = λ o v e.
        let r = h.uses o v e in
        ((r.0.0, operand_still u ts o r.0.0 r.0.1, r.0.2), r.1);
    versions = λ v x e. let r = h.versions v x e in (r.0, operand_still u ts v r.0 r.1, r.2);
  }

  opens_from : (ws : Named Version) → VersionsFrom vs ws → Opens ts opens uses ws
  opens_from ws from = record {
    opens = λ o c e. let r = h.opens o c e in (r.0, r.1, none_from vs ws from o r.2);
    uses = λ o v e. let r = h.uses o v e in (r.0, none_from vs ws from o r.1);
    versions = λ v x e.
        let before = from v x e in
        let r = h.versions v before.0 before.1 in
        (r.0, r.1, before.2 ∙ r.2);
  }

  opens_with_open : (o : OpName) (c : OpenContents) → IsOperandOf ts o c.operand → get uses o ≡ None
      → get vs o ≡ None → Opens ts (insert opens o c) uses vs
  opens_with_open o c operand no_use no_version = record {
    opens = λ q d e. elim (from_inserted name_order opens o c q d e) [
      | inl here ↦
          subst (λ (d : OpenContents). IsOperandOf ts q d.operand × (get uses q ≡ None) × (get vs q ≡ None))
          (sym here.1)
          (subst (λ q. IsOperandOf ts q c.operand × (get uses q ≡ None) × (get vs q ≡ None)) (sym here.0)
          (operand, no_use, no_version))
      | inr before ↦ h.opens q d before.1
    ];
    uses = h.uses;
    versions = h.versions;
  }

  opens_with_use : (o v : OpName) (x : Operand) → IsOperandOf ts o x → x.mode ≡ Input → get opens o ≡ None
      → get vs o ≡ None → Opens ts opens (insert uses o v) vs
  opens_with_use o v x operand mode no_open no_version = record {
    opens = λ q c e.
        let r = h.opens q c e in
        let other : q ≢ o = λ same. none-some c (sym no_open ∙ ap (get opens) (sym same) ∙ e) in
        (r.0, beside_inserted name_order uses o v q other ∙ r.1, r.2);
    uses = λ q w e. elim (from_inserted name_order uses o v q w e) [
      | inl here ↦
          subst (λ q. ((x : Operand) × IsOperandOf ts q x × (x.mode ≡ Input)) × (get vs q ≡ None)) (sym here.0)
          ((x, operand, mode), no_version)
      | inr before ↦ h.uses q w before.1
    ];
    versions = h.versions;
  }

  opens_without_open : (o : OpName) → Opens ts (remove opens o) uses vs
  opens_without_open o = record {
    opens = λ q c e. h.opens q c (from_removed name_order opens o q c e).1;
    uses = h.uses;
    versions = h.versions;
  }

  opens_without_use : (o : OpName) → Opens ts opens (remove uses o) vs
  opens_without_use o = record {
    opens = λ q c e.
        let r = h.opens q c e in
        let none : get (remove uses o) q ≡ None =
        elim (decide_key name_order q o) [
          | inl same ↦ ap (get (remove uses o)) same ∙ at_removed name_order uses o
          | inr other ↦ beside_removed name_order uses o q other ∙ r.1
        ] in
        (r.0, none, r.2);
    uses = λ q v e. h.uses q v (from_removed name_order uses o q v e).1;
    versions = h.versions;
  }

  -- a version is opened
  abbrev OpenedOr : OpName → OpenContents → OpName → Range → Type 0
  OpenedOr o c v r = ((v ≡ o) × (r ≡ c.operand.object)) ⊎ ((y : Version) × (get vs v ≡ Some y) × (r ≡ y.object))

  none_opened : (o : OpName) (c : OpenContents) (ws : Named Version)
      → ((v : OpName) (x : Version) → get ws v ≡ Some x → OpenedOr o c v x.object) → (q : OpName) → q ≢ o
      → get vs q ≡ None → get ws q ≡ None
  none_opened o c ws from q other none =
      elim (decide_get ws q) [
        | inl e ↦ e
        | inr there ↦ elim (from q there.0 there.1) [
          | inl new ↦ absurd (other new.0)
          | inr before ↦ absurd (none-some before.0 (sym none ∙ before.1))
        ]
      ]

  opens_opened : (o : OpName) (c : OpenContents) → get opens o ≡ Some c → (ws : Named Version)
      → ((v : OpName) (x : Version) → get ws v ≡ Some x → OpenedOr o c v x.object) → Opens ts (remove opens o) uses ws
  opens_opened o c there ws from = record {
    opens = λ q d e.
        let before = from_removed name_order opens o q d e in
        let r = h.opens q d before.1 in
        (r.0, r.1, none_opened o c ws from q before.0 r.2);
    uses = λ q v e.
        let r = h.uses q v e in
        let other : q ≢ o = λ same. none-some v (sym (h.opens o c there).1 ∙ ap (get uses) (sym same) ∙ e) in
        (r.0, none_opened o c ws from q other r.1);
    versions = λ v x e. elim (from v x e) [
      | inl new ↦
          let r = h.opens o c there in
          (c.operand, subst (λ v. IsOperandOf ts v c.operand) (sym new.0) r.0, new.1)
      | inr before ↦ let r = h.versions v before.0 before.1 in (r.0, r.1, before.2 ∙ r.2)
    ];
  }

-- ---- all events

-- those of a state
abbrev OpensOf : List Task → State → Type 0
OpensOf ts S = Opens ts S.mail.opens S.mail.uses S.versions

-- with the names decoded
abbrev pub AreOpeningsSound : TasksFact
AreOpeningsSound m ts S = AreNamesDecoded m ts S × OpensOf ts S

opens_kept : (ts : List Task) (S T : State) → OpensOf ts S → KeepsOpenings S T → OpensOf ts T
opens_kept ts S T h k =
    opens_same ts S.mail.opens T.mail.opens S.mail.uses T.mail.uses T.versions k.opens k.uses
    (opens_from ts S.mail.opens S.mail.uses S.versions h T.versions k.versions)

-- nothing stands under the name of an operand whose decode is under way
module _ (m : Machine) (ts : List Task) (S : State) (h : AreNamesDecoded m ts S) (o : OpName) (operand : Operand)
    (there : get S.mail.decodes o ≡ Some operand) where
  undecoded : get S.mail.decodes o ≡ None → ⊥
  undecoded e = none-some operand (sym e ∙ there)

  no_open_yet : get S.mail.opens o ≡ None
  no_open_yet = elim (decide_get S.mail.opens o) [
    | inl e ↦ e
    | inr c ↦ absurd (undecoded (h.1.8.1 o c.0 c.1).0.2)
  ]

  no_use_yet : get S.mail.uses o ≡ None
  no_use_yet = elim (decide_get S.mail.uses o) [
    | inl e ↦ e
    | inr v ↦ absurd (undecoded (h.1.8.2 o v.0 v.1).0.2)
  ]

  -- no version
  pub no_version_yet : get S.versions o ≡ None
  no_version_yet = elim (decide_get S.versions o) [
    | inl e ↦ e
    | inr x ↦ absurd (undecoded (h.1.6 o x.0 x.1).0.0.2)
  ]

-- ---- decode, open, use

module _ (ts : List Task) (mail : Mail) (vs : Named Version) (h : Opens ts mail.opens mail.uses vs) (o : OpName)
    (operand : Operand) (is : IsOperandOf ts o operand) (no_open : get mail.opens o ≡ None)
    (no_use : get mail.uses o ≡ None) (no_version : get vs o ≡ None) where
  -- the facts after one more message
  abbrev OpensWith : Message → Type 0
  OpensWith x = Opens ts (posted mail x).opens (posted mail x).uses vs

  opens_live : (e : Entry) (mode : Mode) → operand.mode ≡ mode → OpensWith (live_message o operand e mode)
  opens_live e Input mode = opens_with_use ts mail.opens mail.uses vs h o e.latest operand is mode no_open no_version
  opens_live e Output mode = opens_with_open ts mail.opens mail.uses vs h o _ is no_use no_version
  opens_live e Inout mode = opens_with_open ts mail.opens mail.uses vs h o _ is no_use no_version

  opens_message : (e : Option Entry) → OpensWith (decode_message o operand e)
  opens_message None = opens_with_open ts mail.opens mail.uses vs h o _ is no_use no_version
  opens_message (Some e) = opens_live e operand.mode refl

module _ (m : Machine) (ts : List Task) (S : State) (h : AreOpeningsSound m ts S) where
  opens_decode : (o : OpName) (c : Option Operand) → get S.mail.decodes o ≡ c
      → OpensOf ts (decode_message_taken m (without S (event.Decode o)) o c)
  opens_decode o None e = h.1
  opens_decode o (Some operand) e =
      opens_message ts (taken S.mail (event.Decode o)) S.versions h.1 o operand (h.0.0.1.decodes o operand e).2
      (no_open_yet m ts S h.0 o operand e) (no_use_yet m ts S h.0 o operand e) (no_version_yet m ts S h.0 o operand e)
      (get S.entries operand.object.base)

  opens_open : (o : OpName) (c : Option OpenContents) → get S.mail.opens o ≡ c
      → OpensOf ts (open_message_taken (without S (event.Open o)) o c)
  opens_open o None e = opens_without_open ts S.mail.opens S.mail.uses S.versions h.1 o
  opens_open o (Some c) e =
      let ws = (after_open S.versions o c).part in
      let same = posted_all-later (taken S.mail (event.Open o)) _ (after_open-later S.versions o c) in
      opens_same ts (remove S.mail.opens o) _ S.mail.uses _ ws same.opens same.uses
      (opens_opened ts S.mail.opens S.mail.uses S.versions h.1 o c e ws
      (objects_open (OpenedOr ts S.mail.opens S.mail.uses S.versions h.1 o c) S.versions o c
      (λ v x f. inr (x, f, refl)) (inl (refl, refl))))

  opens_use : (o : OpName) (v : Option OpName) → OpensOf ts (use_message_taken (without S (event.Use o)) o v)
  opens_use o None = opens_without_use ts S.mail.opens S.mail.uses S.versions h.1 o
  opens_use o (Some v) =
      let ws = (after_use S.versions o v).part in
      let same = posted_all-later (taken S.mail (event.Use o)) _ (after_use-later S.versions o v) in
      opens_same ts S.mail.opens _ (remove S.mail.uses o) _ ws same.opens same.uses
      (opens_from ts S.mail.opens (remove S.mail.uses o) S.versions
      (opens_without_use ts S.mail.opens S.mail.uses S.versions h.1 o) ws
      (objects_use (Before m S) S.versions (all_from S.versions) o v))

  opens_main : (us : List Task) (T : State) → SpawnsAtMostOne m ts us S T → KeepsOpenings S T → OpensOf us T
  opens_main us T (inl q) k = subst (λ us. OpensOf us T) (sym q.list) (opens_kept ts S T h.1 k)
  opens_main us T (inr p) k =
      subst (λ us. OpensOf us T) (sym p.list)
      (opens_spawned ts T.mail.opens T.mail.uses T.versions (opens_kept ts S T h.1 k) p.task)

  -- every event
  pub opens_after_event : (e : Event) → IsEnabled m S e → OpensOf (spawned_after_event m S ts e) (after_event m S e)
  unfolding after_event
  opens_after_event event.Main on =
      opens_main (spawned_by_main m S ts (call_next m S)) _ (spawns_main m ts S on) (openings_main m S (call_next m S))
  opens_after_event event.Take on = opens_kept ts S _ h.1 (openings_take m S S.inbox)
  opens_after_event (event.Decode o) on = opens_decode o (get S.mail.decodes o) refl
  opens_after_event (event.Ack o) on = h.1
  opens_after_event (event.Open o) on = opens_open o (get S.mail.opens o) refl
  opens_after_event (event.Use o) on = opens_use o (get S.mail.uses o)
  opens_after_event (event.Ready o) on = opens_kept ts S _ h.1 (openings_ready m S o (get S.mail.readies o))
  opens_after_event (event.Link o) on = opens_kept ts S _ h.1 (openings_link m S o (get S.mail.links o))
  opens_after_event (event.Start w) on = opens_kept ts S _ h.1 (openings_start m S w S.queue)
  opens_after_event (event.Exec w) on = opens_kept ts S _ h.1 (openings_exec m S w (get S.workers w))
  opens_after_event (event.Finish w) on = opens_kept ts S _ h.1 (openings_finish m S w (get S.workers w))
  opens_after_event (event.Release o) on = opens_kept ts S _ h.1 (openings_release m S o (get S.mail.releases o))
  opens_after_event (event.Bye o) on = opens_kept ts S _ h.1 (openings_bye m S o (get S.mail.byes o))
  opens_after_event (event.Idle v) on = opens_kept ts S _ h.1 (openings_idle m S v (get S.mail.idles v))
  opens_after_event (event.Nack v) on = opens_kept ts S _ h.1 (openings_nack m S v)
  opens_after_event (event.Retire v) on = opens_kept ts S _ h.1 (openings_retire m S v (get S.versions v))
  opens_after_event (event.Copy b) on = opens_kept ts S _ h.1 (openings_copy m S b (get S.copies b))
  opens_after_event (event.Gone v) on = opens_kept ts S _ h.1 (openings_gone m S v (get S.mail.gones v))
