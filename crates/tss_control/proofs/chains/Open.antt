-- The chains after an open.
use Rattle.std.proofs.Common.{◌≡◌, ◌≢◌, ◌≤◌, true, Option, Some, None, refl, sym, ap, ◌∙◌, subst, inl, inr, true≢false}
use Rattle.std.specs.Prelude.{is_some}
use Rattle.std.specs.FinMap.{get, remove}
use Rattle.std.proofs.lemmas.Option.{none-some, same_Some}
use Rattle.tss_base.specs.declared.operand.OpName.{OpName}
use Rattle.tss_base.specs.declared.operand.Mode.{Mode}
use Rattle.tss_base.specs.declared.operand.Mode.TheVariants.{Input, Output, Inout}
use Rattle.tss_base.specs.declared.machine.Machine.{Machine}
use Rattle.tss_base.specs.declared.event.Event.TheVariants as event
use Rattle.tss_base.specs.declared.marks.How.{How}
use Rattle.tss_base.specs.declared.marks.How.TheVariants.{Beside, Over}
use Rattle.tss_base.specs.declared.marks.Follow.{Follow}
use Rattle.tss_base.specs.Names.{Named}
use Rattle.tss_maps.proofs.Keys.{name_order, decide_key}
use Rattle.tss_maps.proofs.Changes.{at_inserted, beside_inserted}
use Rattle.tss_protocol.specs.Mail.{Home, OpenContents, taken}
use Rattle.tss_protocol.specs.State.{State, Version}
use Rattle.tss_protocol.specs.Versions.{put_version, new_version, first_version, followed, settled, opened_how}
use Rattle.tss_protocol.specs.Versions.{opened_by, after_open, is_followable}
use Rattle.tss_protocol.specs.UnitMachine.{IsEnabled, is_enabled, can_open_message, after_event, with_versioned}
use Rattle.tss_protocol.specs.UnitMachine.{without, open_message_taken}
use Rattle.tss_control.specs.Members.{first_reader}
use Rattle.tss_control.specs.Chains.{HasChains}
use Rattle.tss_protocol.specs.Settled.{IsSettled}
use Rattle.tss_protocol.proofs.SentLemmas.{posted_all-later, after_open-later}
use Rattle.tss_protocol.proofs.SettleCases.{OthersSettled, at_changed, beside_changed}
use Rattle.tss_control.proofs.chains.Settled.{HasChains-settled}
use Rattle.tss_control.proofs.chains.Registered.{followed_version, linked_to, Registers}
use Rattle.tss_control.proofs.chains.Opened.{HasChains-registered}
use Rattle.tss_control.proofs.rounds.ReleaseFacts.{released_few}
use Rattle.tss_control.proofs.rounds.Facts.{Facts}

-- ---- the first version of an object

-- what a version says that follows nothing
record IsFirstVersion (o : OpName) (c : OpenContents) (n : Version) : Type 0 where
  pub object : n.object ≡ c.operand.object
  pub storage : n.storage ≡ c.storage
  pub predecessor : n.predecessor ≡ None
  pub successor : n.successor ≡ None
  pub registered : n.registered ≡ first_reader c.operand.mode None

is_first : (o : OpName) (c : OpenContents) (mode : Mode) → c.operand.mode ≡ mode
    → IsFirstVersion o c (first_version o c.operand.object c.storage mode)
is_first o c Input e = record {
  object = refl;
  storage = refl;
  predecessor = refl;
  successor = refl;
  registered = ap (λ m. first_reader m None) (sym e);
}
is_first o c Output e = record {
  object = refl;
  storage = refl;
  predecessor = refl;
  successor = refl;
  registered = ap (λ m. first_reader m None) (sym e);
}
is_first o c Inout e = record {
  object = refl;
  storage = refl;
  predecessor = refl;
  successor = refl;
  registered = ap (λ m. first_reader m None) (sym e);
}

none_first : (mode : Mode) (f : Follow) → 0 ≡ first_reader mode (Some f)
none_first Input f = refl
none_first Output f = refl
none_first Inout f = refl

-- ---- the versions with one that follows another

-- a version that follows another
abbrev pub following : OpenContents → Follow → Version
following c f = record (new_version c.operand.object c.storage) { predecessor = Some f.version }

module _ (vs : Named Version) (o : OpName) (c : OpenContents) (f : Follow) (apart : f.version ≢ o) where
  -- stands under its name
  pub at_followed : get (followed vs o c f) o ≡ Some (following c f)
  at_followed =
      beside_changed (linked_to o f) (put_version vs o (following c f)) f.version o (λ e. apart (sym e))
      ∙ at_inserted name_order vs o (following c f)

  -- the other one knows it
  pub behind_followed : (u : Version) → get vs f.version ≡ Some u
      → get (followed vs o c f) f.version ≡ Some (linked_to o f u)
  behind_followed u e =
      at_changed (linked_to o f) (put_version vs o (following c f)) f.version u
      (beside_inserted name_order vs o (following c f) f.version apart ∙ e)

  -- and the rest is as it was
  pub beside_followed : (q : OpName) → q ≢ o → q ≢ f.version → get (followed vs o c f) q ≡ get vs q
  beside_followed q far other =
      beside_changed (linked_to o f) (put_version vs o (following c f)) f.version q other
      ∙ beside_inserted name_order vs o (following c f) q far

  -- a new version is settled, so all but the one that is followed are
  pub others_followed : ((q : OpName) (y : Version) → get vs q ≡ Some y → IsSettled y)
      → OthersSettled (followed vs o c f) f.version
  others_followed calm q y e other = elim (decide_key name_order q o) [
    | inl is ↦
        subst IsSettled
        (same_Some (following c f) y (sym at_followed ∙ ap (λ k. get (followed vs o c f) k) (sym is) ∙ e))
        (record { dies = λ g to. absurd (none-some g to); asks = λ last. refl })
    | inr far ↦ calm q y (sym (beside_followed q far other) ∙ e)
  ]

-- ---- open

module _ (m : Machine) (S : State) (facts : Facts m S) (o : OpName) (c : OpenContents)
    (opening : get S.mail.opens o ≡ Some c) where
  open facts use {ts, g, ground, control as k}

  -- no version has the name yet
  pub fresh : get S.versions o ≡ None
  fresh = (ground.openings.opens o c opening).no_version

  -- an open that follows nothing
  pub registers_first : (T : State) → c.follows ≡ None
      → T.versions ≡ put_version S.versions o (first_version o c.operand.object c.storage c.operand.mode)
      → T.mail.opens ≡ remove S.mail.opens o → T.mail.uses ≡ S.mail.uses
      → Registers S T o c (first_version o c.operand.object c.storage c.operand.mode)
  registers_first T to put opens uses =
      let n = first_version o c.operand.object c.storage c.operand.mode in
      let i = is_first o c c.operand.mode refl in
      record {
        opening = opening;
        fresh = fresh;
        stands = ap (λ vs. get vs o) put ∙ at_inserted name_order S.versions o n;
        behind = λ f e. absurd (none-some f (sym to ∙ e));
        others = λ q far e. ap (λ vs. get vs q) put ∙ beside_inserted name_order S.versions o n q far;
        opens = opens;
        uses = uses;
        object = i.object;
        storage = i.storage;
        predecessor = i.predecessor ∙ ap followed_version (sym to);
        successor = i.successor;
        registered = i.registered ∙ ap (first_reader c.operand.mode) (sym to);
        unproduced = λ e.
            absurd (none-some Home (sym e ∙ ((k.chains.opens o c opening).first to).storage));
      }

  -- one that follows another, before that is settled
  module _ (f : Follow) (to : c.follows ≡ Some f) (u : Version) (there : get S.versions f.version ≡ Some u) where
    pub front_apart : f.version ≢ o
    front_apart is = none-some u (sym fresh ∙ ap (λ q. get S.versions q) (sym is) ∙ there)

    -- the state with the open taken and the version registered
    abbrev pub registered_state : State
    registered_state = record S {
      versions = followed S.versions o c f;
      mail = record (S.mail) { opens = remove S.mail.opens o };
    }

    -- it is registered there
    pub registers_behind : Registers S registered_state o c (following c f)
    registers_behind = record {
      opening = opening;
      fresh = fresh;
      stands = at_followed S.versions o c f front_apart;
      behind = λ g e.
          subst (λ (h : Follow). (u : Version) × (get S.versions h.version ≡ Some u)
          × (get (followed S.versions o c f) h.version ≡ Some (linked_to o h u)))
          (same_Some f g (sym to ∙ e))
          (u, there, behind_followed S.versions o c f front_apart u there);
      others = λ q far e. beside_followed S.versions o c f front_apart q far (e f to);
      opens = refl;
      uses = refl;
      object = refl;
      storage = refl;
      predecessor = ap followed_version (sym to);
      successor = refl;
      registered = none_first c.operand.mode f ∙ ap (first_reader c.operand.mode) (sym to);
      unproduced = λ e. refl;
    }

    -- then it is settled
    chains_behind : (T : State) → T.versions ≡ (settled (followed S.versions o c f) f.version).part
        → T.mail.opens ≡ remove S.mail.opens o → T.mail.uses ≡ S.mail.uses → HasChains ts T
    chains_behind T part opens uses =
        HasChains-settled ts registered_state T
        (HasChains-registered ts S registered_state k.chains o c (following c f) registers_behind)
        f.version part opens uses
        (λ y e.
        subst (λ (z : Version). z.released ≤ z.registered)
        (same_Some (linked_to o f u) y (sym (behind_followed S.versions o c f front_apart u there) ∙ e))
        (released_few ts g S k.readers f.version u there))
        (others_followed S.versions o c f front_apart (λ q y e. k.retirement.settled q y e))

  -- beside and over leave the same versions
  pub part_how : (f : Follow) (how : How)
      → (opened_how S.versions o c f how).part ≡ (settled (followed S.versions o c f) f.version).part
  part_how f Beside = refl
  part_how f Over = refl

  chains_front : (T : State) (f : Follow) → c.follows ≡ Some f → (u : Option Version)
      → get S.versions f.version ≡ u → is_some u ≡ true
      → T.versions ≡ (opened_by S.versions o c c.follows).part → T.mail.opens ≡ remove S.mail.opens o
      → T.mail.uses ≡ S.mail.uses → HasChains ts T
  chains_front T f to None there on part opens uses = absurd (true≢false (sym on))
  chains_front T f to (Some u) there on part opens uses =
      chains_behind f to u there T
      (part ∙ ap (λ s. (opened_by S.versions o c s).part) to ∙ part_how f f.how) opens uses

  chains_by : (T : State) (s : Option Follow) → c.follows ≡ s → is_followable S.versions s ≡ true
      → T.versions ≡ (opened_by S.versions o c c.follows).part → T.mail.opens ≡ remove S.mail.opens o
      → T.mail.uses ≡ S.mail.uses → HasChains ts T
  chains_by T None to on part opens uses =
      HasChains-registered ts S T k.chains o c (first_version o c.operand.object c.storage c.operand.mode)
      (registers_first T to (part ∙ ap (λ s. (opened_by S.versions o c s).part) to) opens uses)
  chains_by T (Some f) to on part opens uses =
      chains_front T f to (get S.versions f.version) refl on part opens uses

module _ (m : Machine) (S : State) (facts : Facts m S) where
  open facts use {ts}

  chains_open : (o : OpName) (c : Option OpenContents) → get S.mail.opens o ≡ c → can_open_message S c ≡ true
      → HasChains ts (open_message_taken (without S (event.Open o)) o c)
  chains_open o None e on = absurd (true≢false (sym on))
  chains_open o (Some c) e on =
      let d = after_open S.versions o c in
      let same = posted_all-later (taken S.mail (event.Open o)) d.sent (after_open-later S.versions o c) in
      chains_by m S facts o c e (with_versioned (without S (event.Open o)) d) c.follows refl on refl
      same.opens same.uses

  -- open
  pub HasChains-open : (o : OpName) → IsEnabled m S (event.Open o) → HasChains ts (after_event m S (event.Open o))
  unfolding is_enabled after_event
  HasChains-open o on = chains_open o (get S.mail.opens o) refl on
