-- What operands hold after a nack: the version may go now, and its successor may be told its storage.
use Rattle.std.proofs.Common.{◌≡◌, ◌≢◌, ◌⊎◌, ℕ, ◌+◌, ◌≤◌, Bool, true, false, Option, Some, None, refl, sym, ap, ◌∙◌}
use Rattle.std.proofs.Common.{subst, inl, inr, true≢false, arith}
use Rattle.std.specs.Prelude.{is_some}
use Rattle.std.specs.FinMap.{get}
use Rattle.std.proofs.lemmas.Option.{none-some, same_Some}
use Rattle.tss_base.specs.declared.operand.OpName.{OpName}
use Rattle.tss_base.specs.declared.operand.Operand.{Operand}
use Rattle.tss_base.specs.declared.machine.Machine.{Machine}
use Rattle.tss_base.specs.declared.event.Event.TheVariants as event
use Rattle.tss_base.specs.Names.{Named}
use Rattle.tss_maps.proofs.Keys.{name_order, decide_key}
use Rattle.tss_maps.proofs.Changes.{at_inserted, beside_inserted}
use Rattle.tss_model.specs.Access.{writes}
use Rattle.tss_protocol.specs.Mail.{StorageName, Source}
use Rattle.tss_protocol.specs.State.{State, Version}
use Rattle.tss_protocol.specs.Stations.{operand_at}
use Rattle.tss_protocol.specs.Versions.{Versioned, put_version, refused_once, nacked_at, after_nack, settled}
use Rattle.tss_protocol.specs.UnitMachine.{is_enabled, IsEnabled, after_event}
use Rattle.tss_phases.specs.Phase.{Phase, Waiting, Told, Left, look_ups, phase_of}
use Rattle.tss_phases.specs.Told.{tells, phase_told}
use Rattle.tss_phases.specs.Openers.{version_opener}
use Rattle.tss_phases.proofs.News.{untold}
use Rattle.tss_phases.proofs.Received.{received_all}
use Rattle.tss_phases.proofs.NackEvent.{news_nack, look_ups-nack, phase_of-nack}
use Rattle.tss_locality.proofs.LeftFields.{Leaves-after_event}
use Rattle.tss_control.specs.Members.{operand_among, registered_of, opening_reader, uses_of}
use Rattle.tss_control.specs.Holders.{IsOwnOrRead, IsTrue, HasHolders}
use Rattle.tss_control.proofs.readers.Links.{links-nack}
use Rattle.tss_control.proofs.chains.Settled.{with_versions, HasChains-written, done_parts, chains_next}
use Rattle.tss_control.proofs.chains.Released.{others_written, HasChains-nack}
use Rattle.tss_control.proofs.holders.Fits.{Holding, HasOpened, HasCome, HoldsIn, holding_mapped, holders_by}
use Rattle.tss_control.proofs.holders.Moves.{holding_news}
use Rattle.tss_control.proofs.holders.Settled.{HeldAlike, HasGone, HasTaken, SettlesHeld, settles_held, stays_alike}
use Rattle.tss_control.proofs.holders.Settled.{from_alike}
use Rattle.tss_control.proofs.holders.Thinned.{StaysHeld, IsSpent, ThinsHeld, holding_still}
use Rattle.tss_control.proofs.holders.RunnerEvents.{HasRunners-after_event}
use Rattle.tss_control.proofs.holders.KeepsOrder.{keeps_order, AreOrderly-controlled}
use Rattle.tss_control.proofs.holders.Sent.{told_own, tells_true, waiting_opener, opener_from, version_opener-from}
use Rattle.tss_control.proofs.holders.Sent.{same_opener}
use Rattle.tss_control.proofs.rounds.Facts.{Facts}

module _ (m : Machine) (S : State) (facts : Facts m S) (v : OpName) (x : Version)
    (there : get S.versions v ≡ Some x) (count : ℕ) (asked : x.asked ≡ Some count)
    (on : IsEnabled m S (event.Nack v)) where
  open facts use {all, ts, g, ground, control as h}

  abbrev Nacked : State
  Nacked = after_event m S (event.Nack v)

  abbrev written : Named Version
  written = put_version S.versions v (refused_once x)

  abbrev left : Versioned
  left = after_nack S.versions v

  left_is : left ≡ settled written v
  left_is = ap (nacked_at S.versions v) there

  produced : x.produced ≡ true
  produced = (h.retirement.asked v x count there asked).produced

  at_v : get written v ≡ Some (refused_once x)
  at_v = at_inserted name_order S.versions v (refused_once x)

  beside : (w : OpName) → w ≢ v → get written w ≡ get S.versions w
  beside w apart = beside_inserted name_order S.versions v (refused_once x) w apart

  settles : SettlesHeld written v left
  settles =
      subst (SettlesHeld written v) (sym left_is)
      (settles_held written v (others_written S h.retirement v (refused_once x))
      (λ y e. chains_next ts (with_versions S written)
      (HasChains-written S (with_versions S written) v x (refused_once x) (record {
        there = there;
        put = refl;
        like = record { object = refl; storage = refl; predecessor = refl; successor = refl; produced = λ e. refl };
        registered = refl;
        opens = refl;
        uses = refl;
      }) ts h.chains) v y e))

  versions : Nacked.versions ≡ left.part
  unfolding after_event
  versions = refl

  waits : (q : OpName) → tells left.sent q ≡ true → phase_of S q ≡ Waiting
  waits = keeps_order m S facts (event.Nack v)

  phase_now : (q : OpName) → phase_of Nacked q ≡ phase_told (tells left.sent q) (phase_of S q)
  phase_now q = phase_of-nack m S v q (waits q)

  -- ---- versions

  stored : (s : StorageName) × (x.storage ≡ Some s)
  stored = by x.storage refl
    where
      by : (o : Option StorageName) → x.storage ≡ o → (s : StorageName) × (x.storage ≡ Some s)
      by None e = absurd (true≢false (sym produced ∙ ((h.chains.storages v x there).waits e).0))
      by (Some s) e = (s, e)

  -- the version that was written is this one
  is_written : (y : Version) → get written v ≡ Some y → refused_once x ≡ y
  is_written y e = same_Some (refused_once x) y (sym at_v ∙ e)

  -- one that takes the storage had none
  taken_none : (w : OpName) → HasTaken written left.part v w left.sent → (y : Version) → get S.versions w ≡ Some y
      → (y.storage ≡ None) × (y.produced ≡ false)
  taken_none w t y e =
      let to = ap (λ (y : Version). y.successor) (is_written t.version t.there) ∙ t.next in
      let n = (h.chains.linked v x there).followed t.follow to in
      let is = same_Some n.version y (sym n.there ∙ ap (get S.versions) t.is ∙ e) in
      let k = h.chains.storages w y e in
      let none = k.over.1 (v, x, t.follow, ap (λ (y : Version). y.predecessor) (sym is) ∙ n.back, there, to, t.way) in
      (none, (k.waits none).0)

  taken_stored : (w : OpName) (t : HasTaken written left.part v w left.sent) → t.version.storage ≡ Some stored.0
  taken_stored w t = ap (λ (y : Version). y.storage) (sym (is_written t.version t.there)) ∙ stored.1

  spent : HasGone written left.part v → IsSpent x
  spent k =
      let is = is_written k.version k.there in
      let to = ap (λ (y : Version). y.successor) is ∙ k.next in
      let n = (h.chains.linked v x there).followed k.follow to in
      let d = done_parts k.version k.follow.last k.done in
      let all = n.last
      ∙ ap (λ r. registered_of r + opening_reader (get S.mail.opens v) + uses_of S.mail.uses v) there in
      let released = ap (λ (y : Version). y.released) is ∙ d.1 in
      (produced, few x.registered x.released _ _ k.follow.last all released)
    where
      few : (r d k u last : ℕ) → last ≡ r + k + u → d ≡ last → r ≤ d
      few r d k u last all done = omega (arith, all, done)

  thins_itself : StaysHeld left.part v x ⊎ IsSpent x
  thins_itself = elim settles.itself [
    | inl alike ↦
        let z = stays_alike written left.part v alike (refused_once x) at_v in
        inl (z.0, z.1, z.2.object, λ s e. z.2.storage ∙ e)
    | inr gone ↦ inr (spent gone)
  ]

  thins : ThinsHeld S.versions Nacked.versions
  unfolding after_event
  thins w y e = elim (decide_key name_order w v) [
    | inl same ↦
        let is = same_Some x y (sym there ∙ ap (get S.versions) (sym same) ∙ e) in
        subst (λ y. StaysHeld left.part w y ⊎ IsSpent y) is
        (subst (λ w. StaysHeld left.part w x ⊎ IsSpent x) (sym same) thins_itself)
    | inr apart ↦ elim (settles.others w apart) [
      | inl alike ↦
          let z = stays_alike written left.part w alike y (beside w apart ∙ e) in
          inl (z.0, z.1, z.2.object, λ s e. z.2.storage ∙ e)
      | inr taken ↦
          let is = same_Some taken.before y (sym taken.was ∙ beside w apart ∙ e) in
          let none = (taken_none w taken y e).0 in
          inl (
            taken.after,
            taken.stands,
            taken.object ∙ ap (λ (y : Version). y.object) is,
            λ s e. absurd (none-some s (sym none ∙ e)),
          )
    ]
  ]

  -- a version that is there now was there, or has taken the storage
  from_left : (w : OpName) (z : Version) → get left.part w ≡ Some z
      → ((y : Version) × (get S.versions w ≡ Some y) × HeldAlike y z)
      ⊎ ((y : Version) × (get S.versions w ≡ Some y) × (z.produced ≡ false) × (z.storage ≡ Some stored.0)
      × (tells left.sent w ≡ true))
  from_left w z e = elim (decide_key name_order w v) [
    | inl same ↦ elim settles.itself [
      | inl alike ↦
          let y = from_alike written left.part v alike z (ap (get left.part) (sym same) ∙ e) in
          let is = is_written y.0 y.1 in
          inl (
            x,
            ap (get S.versions) same ∙ there,
            record {
              object = y.2.object ∙ ap (λ (y : Version). y.object) (sym is);
              produced = y.2.produced ∙ ap (λ (y : Version). y.produced) (sym is);
              storage = y.2.storage ∙ ap (λ (y : Version). y.storage) (sym is);
            },
          )
      | inr gone ↦ absurd (none-some z (sym gone.gone ∙ ap (get left.part) (sym same) ∙ e))
    ]
    | inr apart ↦ elim (settles.others w apart) [
      | inl alike ↦
          let y = from_alike written left.part w alike z e in
          inl (y.0, sym (beside w apart) ∙ y.1, y.2)
      | inr taken ↦
          let at = sym (beside w apart) ∙ taken.was in
          let none = taken_none w taken taken.before at in
          let is = same_Some taken.after z (sym taken.stands ∙ e) in
          inr (
            taken.before,
            at,
            ap (λ (y : Version). y.produced) (sym is) ∙ taken.produced ∙ none.1,
            ap (λ (y : Version). y.storage) (sym is) ∙ taken.storage ∙ taken_stored w taken,
            taken.told stored.0 (taken_stored w taken),
          )
    ]
  ]

  -- ---- operands

  -- the opener of a version that is there now
  openers_now : (w : OpName) (z : Version) (p : Operand) → get left.part w ≡ Some z → operand_among ts w ≡ Some p
      → version_opener z p.mode (phase_of Nacked w) ≡ true
  openers_now w z p e at = elim (from_left w z e) [
    | inl y ↦ by y.0 y.1 y.2 (tells left.sent w) refl
    | inr y ↦
        ap (version_opener z p.mode) (phase_now w ∙ ap (λ b. phase_told b (phase_of S w)) y.4)
        ∙ version_opener-from z p.mode Told
        ∙ (λ i. opener_from (y.2 i) (y.3 i) p.mode Told)
  ]
    where
      by : (y : Version) → get S.versions w ≡ Some y → HeldAlike y z → (b : Bool) → tells left.sent w ≡ b
          → version_opener z p.mode (phase_of Nacked w) ≡ true
      by y there k false silent =
          ap (version_opener z p.mode) (phase_now w ∙ ap (λ b. phase_told b (phase_of S w)) silent)
          ∙ same_opener y z p.mode (phase_of S w) k
          ∙ h.holders.openers w y p there at
      by y there k true told =
          let none = (waiting_opener y p.mode (ap (version_opener y p.mode) (sym (waits w told))
          ∙ h.holders.openers w y p there at)).1 in
          let own = told_own left.part w left.sent settles.sent told in
          let is = same_Some own.1 z (sym own.2 ∙ e) in
          absurd (none-some (own.0.storage)
          (sym none ∙ sym k.storage ∙ ap (λ (y : Version). y.storage) (sym is) ∙ own.3))

  -- who is told is an inout's, and what it is told is true
  told_true : (q : OpName) (p : Operand) → operand_among ts q ≡ Some p → tells left.sent q ≡ true → (s : Source)
      (z : Version) → s.version ≡ q → get left.part q ≡ Some z → z.storage ≡ Some s.storage → IsTrue g Nacked q p s
  told_true q p at told s z same e storage =
      let y = elim (from_left q z e) as (λ k. (y : Version) × (get S.versions q ≡ Some y)) [
        | inl y ↦ (y.0, y.1)
        | inr y ↦ (y.0, y.1)
      ] in
      let opens = ap (version_opener y.0 p.mode) (sym (waits q told)) ∙ h.holders.openers q y.0 p y.1 at in
      let none = waiting_opener y.0 p.mode opens in
      let inout = ((h.chains.storages q y.0 y.1).waits none.1).1 in
      let is = same_Some inout.operand p (sym inout.there ∙ at) in
      let mode = ap (λ (p : Operand). p.mode) (sym is) ∙ inout.is_mode in
      let now = ap (λ vs. get vs q) versions ∙ e in
      let opener = (HasChains-nack m S facts v).opener q z now in
      record {
        version = z;
        there = ap (get Nacked.versions) same ∙ now;
        object = sym opener.2 ∙ ap (λ (p : Operand). p.object) (same_Some opener.0 p (sym opener.1 ∙ at));
        storage = storage;
        own = subst (λ w. IsOwnOrRead g q w s.version) (sym (ap writes mode)) same;
      }

  -- that its version has no storage yet, where it isn't told
  abbrev StillOpened : OpName → Type 0
  StillOpened q = HasOpened Nacked q ⊎ (tells left.sent q ≡ true)

  still_opened : (q : OpName) → HasOpened S q → StillOpened q
  still_opened q y = elim (decide_key name_order q v) [
    | inl same ↦
        let is = same_Some y.0 x (sym y.1 ∙ ap (get S.versions) same ∙ there) in
        absurd (none-some stored.0 (sym y.2 ∙ ap (λ (y : Version). y.storage) is ∙ stored.1))
    | inr apart ↦ elim (settles.others q apart) [
      | inl alike ↦
          let z = stays_alike written left.part q alike y.0 (beside q apart ∙ y.1) in
          inl (z.0, ap (λ vs. get vs q) versions ∙ z.1, z.2.storage ∙ y.2)
      | inr taken ↦ inr (taken.told stored.0 (taken_stored q taken))
    ]
  ]

  -- what an operand holds, as the messages leave it
  holds_sent : (q : OpName) (p : Operand) → operand_among ts q ≡ Some p
      → Holding (IsTrue g Nacked q p) (StillOpened q) (HasCome g Nacked q) (writes p.mode)
      (received_all left.sent q (look_ups S q)) (get S.mail.links q)
  holds_sent q p at = by (tells left.sent q) refl
    where
      base : Holding (IsTrue g Nacked q p) (StillOpened q) (HasCome g Nacked q) (writes p.mode) (look_ups S q)
          (get S.mail.links q)
      base = holding_still ts g S Nacked h thins q p at (StillOpened q) (λ w waits. still_opened q)

      by : (b : Bool) → tells left.sent q ≡ b
          → Holding (IsTrue g Nacked q p) (StillOpened q) (HasCome g Nacked q) (writes p.mode)
          (received_all left.sent q (look_ups S q)) (get S.mail.links q)
      by false e =
          subst (λ l. Holding (IsTrue g Nacked q p) (StillOpened q) (HasCome g Nacked q) (writes p.mode) l
          (get S.mail.links q)) (sym (untold left.sent q (look_ups S q) (news_nack S.versions v) e)) base
      by true e =
          holding_news (IsTrue g Nacked q p) (StillOpened q) (HasCome g Nacked q) (writes p.mode) (look_ups S q)
          (get S.mail.links q) left.sent q (news_nack S.versions v) (waits q)
          (tells_true left.part q (IsTrue g Nacked q p) left.sent settles.sent (told_true q p at e)) base

  not_told : (q : OpName) → phase_of Nacked q ≡ Waiting → tells left.sent q ≡ true → ⊥
  not_told q waiting told =
      told_waits (sym (phase_now q ∙ ap (λ b. phase_told b (phase_of S q)) told) ∙ waiting)
    where
      told_waits : Told ≡ Waiting → ⊥
      told_waits e = cc

  holds_now : (q : OpName) (p : Operand) → operand_among ts q ≡ Some p → HoldsIn g Nacked q p
  holds_now q p at =
      let T = IsTrue g Nacked q p in
      let C = HasCome g Nacked q in
      let sent = holds_sent q p at in
      let looked = subst (λ l. Holding T (StillOpened q) C (writes p.mode) l (get S.mail.links q))
      (sym (look_ups-nack m S v q)) sent in
      let linked = subst (λ ks. Holding T (StillOpened q) C (writes p.mode) (look_ups Nacked q) (get ks q))
      (sym (links-nack m S v)) looked in
      holding_mapped T T (StillOpened q) (HasOpened Nacked q) C C (writes p.mode) (look_ups Nacked q)
      (get Nacked.mail.links q) (AreOrderly-controlled m S facts (event.Nack v) on q) (λ s needs t. t)
      (λ w waiting o. elim o [
        | inl opened ↦ opened
        | inr told ↦ absurd (not_told q waiting told)
      ])
      (λ w waiting c. c) linked

  -- what operands hold after the nack
  holders_nacked : HasHolders ts g Nacked
  holders_nacked =
      holders_by ts g Nacked holds_now
      (λ w z p e at. openers_now w z p (sym (ap (λ vs. get vs w) versions) ∙ e) at)
      (λ o next e.
      let r = h.holders.records o next (sym (ap (λ ks. get ks o) (links-nack m S v)) ∙ e) in (
        r.0,
        ap (λ f. operand_at f o) (λ i. (Leaves-after_event m S (event.Nack v) i).flight) ∙ r.1,
        λ l. stays_by (tells left.sent o) (phase_of S o) r.2 (sym (phase_now o) ∙ l),
      ))
      (HasRunners-after_event m all S ground.numbers ground.stages h.orderly h.holders.runners (event.Nack v) on
      (keeps_order m S facts (event.Nack v)))
    where
      stays_by : (b : Bool) (p : Phase) → (p ≡ Left → ⊥) → phase_told b p ≡ Left → ⊥
      stays_by true p n e = cc
      stays_by false p n e = n e

some_unit : (o : Option (Unit {0})) → is_some o ≡ true → o ≡ Some tt
some_unit None e = absurd (true≢false (sym e))
some_unit (Some tt) e = refl

module _ (m : Machine) (S : State) (facts : Facts m S) where
  open facts use {ts, g, ground}

  -- nack
  pub HasHolders-nack : (v : OpName) → IsEnabled m S (event.Nack v) → HasHolders ts g (after_event m S (event.Nack v))
  unfolding is_enabled
  HasHolders-nack v on =
      let a = (ground.asking.nacks v (some_unit (get S.mail.nacks v) on)).0 in
      holders_nacked m S facts v a.1.0 a.1.1 a.0 a.1.2 on
