-- What an open leaves of versions: the new one, and the settle of the one that it follows.
use Rattle.std.proofs.Common.{◌≡◌, ◌≢◌, ◌⊎◌, ℕ, ◌+◌, ◌≤◌, Bool, true, false, ◌++◌, Option, Some, None, refl, sym, ap}
use Rattle.std.proofs.Common.{◌∙◌, subst, inl, inr, true≢false, arith}
use Rattle.std.specs.Prelude.{is_some}
use Rattle.std.specs.FinMap.{get, contains_key}
use Rattle.std.proofs.lemmas.Option.{none-some, same_Some}
use Rattle.tss_base.specs.declared.operand.OpName.{OpName}
use Rattle.tss_base.specs.declared.operand.Mode.TheVariants.{Input, Output, Inout}
use Rattle.tss_base.specs.declared.machine.Machine.{Machine}
use Rattle.tss_base.specs.declared.marks.How.{How}
use Rattle.tss_base.specs.declared.marks.How.TheVariants.{Beside, Over}
use Rattle.tss_base.specs.declared.marks.Follow.{Follow}
use Rattle.tss_base.specs.Names.{Named}
use Rattle.tss_maps.proofs.Keys.{name_order, decide_key}
use Rattle.tss_maps.proofs.Changes.{decide_get}
use Rattle.tss_protocol.specs.Mail.{StorageName, Buffer, OpenContents}
use Rattle.tss_protocol.specs.State.{State, Version}
use Rattle.tss_protocol.specs.Versions.{Versioned, ready_with, followed, settled, opened_how, opened_by, after_open}
use Rattle.tss_protocol.specs.Versions.{is_followable}
use Rattle.tss_phases.specs.Told.{tells}
use Rattle.tss_phases.proofs.SettlingLemmas.{ready_with_told}
use Rattle.tss_phases.proofs.ToldPhases.{first_tells}
use Rattle.tss_control.specs.Members.{registered_of, opening_reader, uses_of}
use Rattle.tss_protocol.proofs.SentLemmas.{AllSent, AllSent-append}
use Rattle.tss_protocol.proofs.SettleCases.{HasNext}
use Rattle.tss_control.proofs.chains.Registered.{link_to, linked_to}
use Rattle.tss_control.proofs.chains.Open.{following, at_followed, behind_followed, beside_followed, others_followed}
use Rattle.tss_control.proofs.chains.Settled.{done_parts}
use Rattle.tss_control.proofs.holders.Settled.{HeldAlike, HasGone, HasTaken, TellsOwn, SettlesHeld, settles_held}
use Rattle.tss_control.proofs.holders.Settled.{stays_alike, from_alike}
use Rattle.tss_control.proofs.holders.Thinned.{StaysHeld, IsSpent, ThinsHeld}
use Rattle.tss_control.proofs.holders.Sent.{told_own}
use Rattle.tss_control.proofs.holders.First.{OpensHeld, opens_first}
use Rattle.tss_control.proofs.rounds.Facts.{Facts}

-- ---- one that follows another

module _ (m : Machine) (S : State) (facts : Facts m S) (o : OpName) (c : OpenContents)
    (opening : get S.mail.opens o ≡ Some c) (f : Follow) (to : c.follows ≡ Some f) (u : Version)
    (there : get S.versions f.version ≡ Some u) where
  open facts use {all, ground, control as h}

  abbrev linked : Named Version
  linked = followed S.versions o c f

  abbrev rest : Versioned
  rest = settled linked f.version

  abbrev front : Version
  front = linked_to o f u

  fresh : get S.versions o ≡ None
  fresh = (ground.openings.opens o c opening).no_version

  apart : f.version ≢ o
  apart same = none-some u (sym fresh ∙ ap (get S.versions) (sym same) ∙ there)

  at_front : get linked f.version ≡ Some front
  at_front = behind_followed S.versions o c f apart u there

  at_own : get linked o ≡ Some (following c f)
  at_own = at_followed S.versions o c f apart

  is_front : (y : Version) → get linked f.version ≡ Some y → front ≡ y
  is_front y e = same_Some front y (sym at_front ∙ e)

  next : (y : Version) → get linked f.version ≡ Some y → HasNext linked f.version y
  next y e k way =
      let is = is_front y e in
      let same = ap (λ (k : Follow). k.version)
      (same_Some k (link_to o f) (sym way ∙ ap (λ (y : Version). y.successor) (sym is))) in (
        (following c f, ap (get linked) same ∙ at_own),
        λ e. apart (sym e ∙ same),
        λ before.
            let a = (h.chains.linked f.version u there).after o
            (ap (λ (y : Version). y.predecessor) is ∙ before ∙ ap Some same) in
            none-some a.version (sym fresh ∙ a.there),
      )

  settles : SettlesHeld linked f.version rest
  settles = settles_held linked f.version (others_followed S.versions o c f apart h.retirement.settled) next

  -- the version that is followed goes only where it is spent
  spent : HasGone linked rest.part f.version → IsSpent u
  spent k =
      let is = is_front k.version k.there in
      let same = same_Some k.follow (link_to o f) (sym k.next ∙ ap (λ (y : Version). y.successor) (sym is)) in
      let d = done_parts k.version k.follow.last k.done in
      let last = ap (λ (k : Follow). k.last) same in
      let all = ((h.chains.opens o c opening).after f to).last
      ∙ ap (λ r. registered_of r + opening_reader (get S.mail.opens f.version) + uses_of S.mail.uses f.version) there in
      let released = ap (λ (y : Version). y.released) is ∙ d.1 ∙ last in (
        ap (λ (y : Version). y.produced) is ∙ d.0,
        few u.registered u.released (opening_reader (get S.mail.opens f.version)) (uses_of S.mail.uses f.version) f.last
            all released,
      )
    where
      few : (r d k u last : ℕ) → last ≡ r + k + u → d ≡ last → r ≤ d
      few r d k u last all done = omega (arith, all, done)

  -- none but the new version takes its storage
  taken_own : (w : OpName) → HasTaken linked rest.part f.version w rest.sent → w ≡ o
  taken_own w t =
      let is = is_front t.version t.there in
      sym t.is ∙ ap (λ (k : Follow). k.version)
      (same_Some t.follow (link_to o f) (sym t.next ∙ ap (λ (y : Version). y.successor) (sym is)))

  taken_way : (w : OpName) (t : HasTaken linked rest.part f.version w rest.sent) → f.how ≡ Over
  taken_way w t =
      let is = is_front t.version t.there in
      ap (λ (k : Follow). k.how)
      (sym (same_Some t.follow (link_to o f) (sym t.next ∙ ap (λ (y : Version). y.successor) (sym is))))
      ∙ t.way

  thins_front : StaysHeld rest.part f.version u ⊎ IsSpent u
  thins_front = elim settles.itself [
    | inl alike ↦
        let z = stays_alike linked rest.part f.version alike front at_front in
        inl (z.0, z.1, z.2.object, λ s e. z.2.storage ∙ e)
    | inr gone ↦ inr (spent gone)
  ]

  beside : (w : OpName) → w ≢ o → w ≢ f.version → get linked w ≡ get S.versions w
  beside w far other = beside_followed S.versions o c f apart w far other

  is_old : (w : OpName) (y : Version) → get S.versions w ≡ Some y → w ≢ o
  is_old w y e same = none-some y (sym fresh ∙ ap (get S.versions) (sym same) ∙ e)

  thins : ThinsHeld S.versions rest.part
  thins w y e = elim (decide_key name_order w f.version) [
    | inl same ↦
        let is = same_Some u y (sym there ∙ ap (get S.versions) (sym same) ∙ e) in
        subst (λ y. StaysHeld rest.part w y ⊎ IsSpent y) is
        (subst (λ w. StaysHeld rest.part w u ⊎ IsSpent u) (sym same) thins_front)
    | inr other ↦ elim (settles.others w other) [
      | inl alike ↦
          let z = stays_alike linked rest.part w alike y (beside w (is_old w y e) other ∙ e) in
          inl (z.0, z.1, z.2.object, λ s e. z.2.storage ∙ e)
      | inr taken ↦ absurd (is_old w y e (taken_own w taken))
    ]
  ]

  still : (w : OpName) (y : Version) → get S.versions w ≡ Some y → y.storage ≡ None
      → (z : Version) × (get rest.part w ≡ Some z) × (z.storage ≡ None)
  still w y e none = elim (decide_key name_order w f.version) [
    | inl same ↦
        let is = same_Some u y (sym there ∙ ap (get S.versions) (sym same) ∙ e) in
        let empty = ap (λ (y : Version). y.storage) is ∙ none in
        elim settles.itself [
          | inl alike ↦
              let z = stays_alike linked rest.part f.version alike front at_front in
              (z.0, ap (get rest.part) same ∙ z.1, z.2.storage ∙ empty)
          | inr gone ↦
              absurd (true≢false (sym (spent gone).0 ∙ ((h.chains.storages f.version u there).waits empty).0))
        ]
    | inr other ↦ elim (settles.others w other) [
      | inl alike ↦
          let z = stays_alike linked rest.part w alike y (beside w (is_old w y e) other ∙ e) in
          (z.0, z.1, z.2.storage ∙ none)
      | inr taken ↦ absurd (is_old w y e (taken_own w taken))
    ]
  ]

  from : (w : OpName) (z : Version) → w ≢ o → get rest.part w ≡ Some z
      → (y : Version) × (get S.versions w ≡ Some y) × HeldAlike y z
  from w z far e = elim (decide_key name_order w f.version) [
    | inl same ↦ elim settles.itself [
      | inl alike ↦
          let y = from_alike linked rest.part f.version alike z (ap (get rest.part) (sym same) ∙ e) in
          let is = is_front y.0 y.1 in (
            u,
            ap (get S.versions) same ∙ there,
            record {
              object = y.2.object ∙ ap (λ (y : Version). y.object) (sym is);
              produced = y.2.produced ∙ ap (λ (y : Version). y.produced) (sym is);
              storage = y.2.storage ∙ ap (λ (y : Version). y.storage) (sym is);
            },
          )
      | inr gone ↦ absurd (none-some z (sym gone.gone ∙ ap (get rest.part) (sym same) ∙ e))
    ]
    | inr other ↦ elim (settles.others w other) [
      | inl alike ↦
          let y = from_alike linked rest.part w alike z e in
          (y.0, sym (beside w far other) ∙ y.1, y.2)
      | inr taken ↦ absurd (far (taken_own w taken))
    ]
  ]

  -- ---- the new version

  own_front : o ≢ f.version
  own_front e = apart (sym e)

  is_following : (y : Version) → get linked o ≡ Some y → following c f ≡ y
  is_following y e = same_Some (following c f) y (sym at_own ∙ e)

  reads_first : c.operand.mode ≡ Input → c.follows ≡ None
  reads_first e = elim ((h.chains.opens o c opening).after f to).way [
    | inl way ↦ absurd (input_inout (sym e ∙ way.0))
    | inr way ↦ absurd (input_output (sym e ∙ way.0))
  ]
    where
      input_inout : Input ≡ Inout → ⊥
      input_inout e = cc

      input_output : Input ≡ Output → ⊥
      input_output e = cc

  -- beside another one it is told its buffer
  opens_beside : f.how ≡ Beside → c.storage ≡ Some (Buffer o)
      → OpensHeld S.versions rest.part o c (ready_with o o c.storage ++ rest.sent)
  opens_beside way storage = elim (settles.others o own_front) [
    | inr taken ↦ absurd (beside_over (sym way ∙ taken_way o taken))
    | inl alike ↦
        let z = stays_alike linked rest.part o alike (following c f) at_own in
        let has = z.2.storage ∙ storage in
        record {
          thins = thins;
          still = still;
          from = from;
          own = record {
            version = z.0;
            stands = z.1;
            object = z.2.object;
            state = inl (
              first_tells (ready_with o o c.storage) rest.sent o (ready_with_told o o c.storage (Buffer o) storage),
              (Buffer o, has),
              inl z.2.produced,
            );
            reader = reads_first;
          };
          sent =
              AllSent-append (TellsOwn rest.part) (ready_with o o c.storage) rest.sent
              (sent_by z.0 z.1 has c.storage storage) settles.sent;
        }
  ]
    where
      beside_over : Beside ≡ Over → ⊥
      beside_over e = cc

      sent_by : (z : Version) → get rest.part o ≡ Some z → z.storage ≡ Some (Buffer o) → (x : Option StorageName)
          → x ≡ Some (Buffer o) → AllSent (TellsOwn rest.part) (ready_with o o x)
      sent_by z at has None e = tt
      sent_by z at has (Some s) e = ((refl, (z, at, has ∙ sym e)), tt)

  -- over another one it waits, unless that gives way at once
  opens_over : f.how ≡ Over → c.storage ≡ None → c.operand.mode ≡ Inout
      → OpensHeld S.versions rest.part o c rest.sent
  opens_over way storage mode = record {
    thins = thins;
    still = still;
    from = from;
    own = elim (settles.others o own_front) [
      | inl alike ↦
          let z = stays_alike linked rest.part o alike (following c f) at_own in
          let none = z.2.storage ∙ storage in
          record {
            version = z.0;
            stands = z.1;
            object = z.2.object;
            state = inr (silent z.0 z.1 none (tells rest.sent o) refl, none, z.2.produced, mode);
            reader = reads_first;
          }
      | inr taken ↦
          let is = is_following taken.before taken.was in
          let over = is_front taken.version taken.there in
          let done = done_parts taken.version taken.follow.last taken.done in
          let produced = ap (λ (y : Version). y.produced) over ∙ done.0 in
          let stored = stored_of produced u.storage refl in
          let has = taken.storage ∙ ap (λ (y : Version). y.storage) (sym over) ∙ stored.1 in
          record {
            version = taken.after;
            stands = taken.stands;
            object = taken.object ∙ ap (λ (y : Version). y.object) (sym is);
            state = inl (
              taken.told stored.0 (ap (λ (y : Version). y.storage) (sym over) ∙ stored.1),
              (stored.0, has),
              inl (taken.produced ∙ ap (λ (y : Version). y.produced) (sym is)),
            );
            reader = reads_first;
          }
    ];
    sent = settles.sent;
  }
    where
      silent : (z : Version) → get rest.part o ≡ Some z → z.storage ≡ None → (b : Bool) → tells rest.sent o ≡ b
          → tells rest.sent o ≡ false
      silent z at none false e = e
      silent z at none true e =
          let k = told_own rest.part o rest.sent settles.sent e in
          let is = same_Some k.1 z (sym k.2 ∙ at) in
          absurd (none-some k.0.storage (sym none ∙ ap (λ (y : Version). y.storage) (sym is) ∙ k.3))

      stored_of : u.produced ≡ true → (x : Option StorageName) → u.storage ≡ x
          → (s : StorageName) × (u.storage ≡ Some s)
      stored_of produced None e =
          absurd (true≢false (sym produced ∙ ((h.chains.storages f.version u there).waits e).0))
      stored_of produced (Some s) e = (s, e)

  -- by how it follows
  opens_after : (how : How) → f.how ≡ how
      → OpensHeld S.versions (opened_how S.versions o c f how).part o c (opened_how S.versions o c f how).sent
  opens_after Beside way = elim ((h.chains.opens o c opening).after f to).way [
    | inl over ↦ absurd (over_beside (sym over.1 ∙ way))
    | inr beside ↦ opens_beside way beside.2
  ]
    where
      over_beside : Over ≡ Beside → ⊥
      over_beside e = cc
  opens_after Over way = elim ((h.chains.opens o c opening).after f to).way [
    | inl over ↦ opens_over way over.2 over.0
    | inr beside ↦ absurd (beside_over (sym beside.1 ∙ way))
  ]
    where
      beside_over : Beside ≡ Over → ⊥
      beside_over e = cc

-- ---- an open

module _ (m : Machine) (S : State) (facts : Facts m S) (o : OpName) (c : OpenContents)
    (opening : get S.mail.opens o ≡ Some c) (can : is_followable S.versions c.follows ≡ true) where
  open facts use {ground, control as h}

  opens_by : (x : Option Follow) → c.follows ≡ x → is_followable S.versions x ≡ true
      → OpensHeld S.versions (opened_by S.versions o c x).part o c (opened_by S.versions o c x).sent
  opens_by None to there =
      opens_first S.versions o c (ground.openings.opens o c opening).no_version
      ((h.chains.opens o c opening).first to).storage to
  opens_by (Some f) to there = elim (decide_get S.versions f.version) [
    | inl none ↦ absurd (true≢false (sym there ∙ absent none))
    | inr u ↦ opens_after m S facts o c opening f to u.0 u.1 f.how refl
  ]
    where
      absent : get S.versions f.version ≡ None → contains_key S.versions f.version ≡ false
      absent none = ap is_some none

  -- what it does to versions
  pub opens_held : OpensHeld S.versions (after_open S.versions o c).part o c (after_open S.versions o c).sent
  opens_held = opens_by c.follows refl can
