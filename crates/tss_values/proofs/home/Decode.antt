-- What stands at home is right after a decode: an operand that opens the first version of its object is the first of it
-- that wasn't decoded.
use Rattle.std.proofs.Common.{◌≡◌, ◌≢◌, ◌⊎◌, ◌≤◌, ◌<◌, ℕ, true, false, [], ◌∷◌, Option, Some, None, refl, sym, ap, ◌∙◌}
use Rattle.std.proofs.Common.{subst, inl, inr, arith, true≢false}
use Rattle.std.specs.FinMap.{get, insert}
use Rattle.std.proofs.lemmas.Option.{none-some, same_Some}
use Rattle.tss_base.specs.declared.range.Range.{Range}
use Rattle.tss_base.specs.declared.operand.OpName.{OpName}
use Rattle.tss_base.specs.declared.operand.Mode.{Mode}
use Rattle.tss_base.specs.declared.operand.Mode.TheVariants.{Input, Output, Inout}
use Rattle.tss_base.specs.declared.operand.Operand.{Operand}
use Rattle.tss_base.specs.declared.machine.Machine.{Machine}
use Rattle.tss_base.specs.declared.event.Event.TheVariants as event
use Rattle.tss_base.specs.Image.{ImageState}
use Rattle.tss_maps.proofs.Keys.{name_order, nat_order, decide_key}
use Rattle.tss_maps.proofs.Changes.{at_inserted, beside_inserted, from_inserted}
use Rattle.tss_model.specs.Memory.{bytes_of}
use Rattle.tss_protocol.specs.Names.{bank_of}
use Rattle.tss_protocol.specs.Mail.{OpenContents, Ack, taken, posted_all}
use Rattle.tss_protocol.specs.Renaming.{HasTurn, entry_after_decode, live_message, sent_by_decode}
use Rattle.tss_protocol.specs.UnitMachine.{is_enabled, IsEnabled, after_event, without, can_decode_message}
use Rattle.tss_protocol.specs.UnitMachine.{decode_message_taken}
use Rattle.tss_protocol.specs.State.{State, Entry}
use Rattle.tss_protocol.proofs.TurnLemmas.{decode_in_turn}
use Rattle.tss_phases.specs.Phase.{is_decoded, phase_of, LookUps}
use Rattle.tss_phases.specs.Orderly.{AreOrderly}
use Rattle.tss_control.specs.Members.{operand_among}
use Rattle.tss_phases.proofs.DecodeEvent.{decoding_before, phase_of-decode, phase_of-decode-other}
use Rattle.tss_phases.proofs.DecodeEvent.{look_ups-decode-other}
use Rattle.tss_phases.proofs.Tests.{something}
use Rattle.tss_locality.proofs.LeftFields.{Leaves-after_event}
use Rattle.tss_program_order.specs.MainInOrder.{flat_beside}
use Rattle.tss_control.proofs.rounds.DecodeFacts.{earlier_decoded}
use Rattle.tss_control.proofs.rounds.EntriesNames.{decode_among}
use Rattle.tss_values.proofs.Values.{Starts, bytes_before, IsFirstAhead, HasHome, IsInside, IsUnclaimed}
use Rattle.tss_control.proofs.rounds.Facts.{Basis, Facts}
use Rattle.tss_locality.proofs.EntryChanges.{decoded_object}
use Rattle.tss_locality.proofs.RoundObjects.{finds_own}

below_or_same : (a b : ℕ) → (b < a) ⊎ (a ≤ b)
below_or_same a b = grind arith

module _ (m : Machine) (S : State) (basis : Basis m S) (orderly : AreOrderly S) (o : OpName) (p : Operand)
    (there : get S.mail.decodes o ≡ Some p) where
  open basis use {ts}

  -- at its turn, an operand of an older task on its object has been decoded
  older_decoded : HasTurn m.sizes S.mail.decodes o p → (q : OpName)
      (r : Operand) → operand_among ts q ≡ Some r → r.object ≡ p.object → is_decoded (phase_of S q) ≡ false
      → q.task < o.task → ⊥
  older_decoded turn q r at object early older =
      true≢false (sym (earlier_decoded m S basis orderly o p there turn q r at older
      (ap (bank_of m.sizes) object)) ∙ early)

  -- so it is the first of its object that hasn't
  decode_first : HasTurn m.sizes S.mail.decodes o p
      → is_decoded (phase_of S o) ≡ false → IsFirstAhead ts S p.object o p
  decode_first turn early = record {
    operand = decode_among m S basis orderly o p there;
    object = refl;
    ahead = early;
    first = λ q r at same undecoded. elim (below_or_same o.task q.task) [
      | inl older ↦ absurd (older_decoded turn q r at same undecoded older)
      | inr fine ↦ fine
    ];
  }

-- ---- the event

module _ (m : Machine) (i : ImageState) (S : State) (basis : Basis m S) (orderly : AreOrderly S)
    (values : HasHome m i basis.ts S) (o : OpName) (p : Operand) (there : get S.mail.decodes o ≡ Some p)
    (turn : HasTurn m.sizes S.mail.decodes o p) where
  open basis use {ts, ground}

  abbrev T : State
  T = after_event m S (event.Decode o)

  abbrev base : ℕ
  base = p.object.base

  entries_after : T.entries ≡ insert S.entries base (entry_after_decode o p (get S.entries base))
  unfolding after_event
  entries_after = ap (λ x. (decode_message_taken m (without S (event.Decode o)) o x).entries) there

  -- an object without an entry had none, and isn't that of the operand
  absent_before : (b : ℕ) → get T.entries b ≡ None → (b ≢ base) × (get S.entries b ≡ None)
  absent_before b none =
      let e = entry_after_decode o p (get S.entries base) in
      let at = sym (ap (λ es. get es b) entries_after) ∙ none in
      let apart : b ≢ base = λ same.
      none-some e (sym at ∙ ap (get (insert S.entries base e)) same ∙ at_inserted nat_order S.entries base e) in
      (apart, sym (beside_inserted nat_order S.entries base e b apart) ∙ at)

  abbrev Opens : OpName → OpenContents → Type 0
  Opens q c =
      (get S.mail.opens q ≡ Some c)
      ⊎ (((q ≡ o) × (get S.entries base ≡ None) × (c.operand ≡ p)) ⊎ (c.follows ≡ None → ⊥))

  opens_live : (e : Entry) (mode : Mode) (q : OpName) (c : OpenContents)
      → get (posted_all (taken S.mail (event.Decode o)) (live_message o p e mode ∷ Ack o ∷ [])).opens q ≡ Some c
      → Opens q c
  opens_live e Input q c at = inl at
  opens_live e Output q c at = elim (from_inserted name_order S.mail.opens o _ q c at) [
    | inl new ↦ inr (inr (λ f. none-some _ (sym f ∙ ap (λ (c : OpenContents). c.follows) new.1)))
    | inr old ↦ inl old.1
  ]
  opens_live e Inout q c at = elim (from_inserted name_order S.mail.opens o _ q c at) [
    | inl new ↦ inr (inr (λ f. none-some _ (sym f ∙ ap (λ (c : OpenContents). c.follows) new.1)))
    | inr old ↦ inl old.1
  ]

  opens_by : (e : Option Entry) → get S.entries base ≡ e → (q : OpName) (c : OpenContents)
      → get (posted_all (taken S.mail (event.Decode o)) (sent_by_decode o p e)).opens q ≡ Some c → Opens q c
  opens_by None none q c at = elim (from_inserted name_order S.mail.opens o _ q c at) [
    | inl new ↦ inr (inl (new.0, none, ap (λ (c : OpenContents). c.operand) new.1))
    | inr old ↦ inl old.1
  ]
  opens_by (Some e) is q c at = opens_live e p.mode q c at

  opens_after : (q : OpName) (c : OpenContents) → get T.mail.opens q ≡ Some c → Opens q c
  unfolding after_event
  opens_after q c at =
      opens_by (get S.entries base) refl q c
      (sym (ap (λ x. get (decode_message_taken m (without S (event.Decode o)) o x).mail.opens q) there) ∙ at)

  other_decoded : (q : OpName) → q ≢ o → is_decoded (phase_of T q) ≡ is_decoded (phase_of S q)
  other_decoded q apart = ap is_decoded (phase_of-decode-other m S o p there q apart)

  own_decoded : is_decoded (phase_of T o) ≡ true
  own_decoded = ap is_decoded (phase_of-decode m S o p there)

  was_early : is_decoded (phase_of S o) ≡ false
  was_early = ap is_decoded (decoding_before m S o p there)

  among : operand_among ts o ≡ Some p
  among = decode_among m S basis orderly o p there

  -- the first that isn't decoded of another object is the same
  first_before : (x : Range) (q : OpName) (r : Operand) → x.base ≢ base → IsFirstAhead ts T x q r
      → IsFirstAhead ts S x q r
  first_before x q r far f =
      let apart : q ≢ o = λ same.
      true≢false (sym own_decoded ∙ ap (λ q. is_decoded (phase_of T q)) (sym same) ∙ f.ahead) in
      record {
        operand = f.operand;
        object = f.object;
        ahead = sym (other_decoded q apart) ∙ f.ahead;
        first = λ a b at same early.
            let other : a ≢ o = λ is.
            let b_is = same_Some b p (sym at ∙ ap (operand_among ts) is ∙ among) in
            far (ap (λ (x : Range). x.base) (sym same ∙ ap (λ (p : Operand). p.object) b_is)) in
            f.first a b at same (other_decoded a other ∙ early);
      }

  -- the entry is of the operand's object
  own_object : (e : Option Entry) → get S.entries base ≡ e → (entry_after_decode o p e).object ≡ p.object
  own_object None none = decoded_object o p None
  own_object (Some e) at = decoded_object o p (Some e) ∙ finds_own S ts ground.round o p e there at

  own_entry : get T.entries base ≡ Some (entry_after_decode o p (get S.entries base))
  own_entry =
      ap (λ es. get es base) entries_after
      ∙ at_inserted nat_order S.entries base (entry_after_decode o p (get S.entries base))

  -- another decode is left
  decode_left : (q : OpName) → q ≢ o → get T.mail.decodes q ≡ get S.mail.decodes q
  decode_left q apart = ap (λ (l : LookUps). l.decoding) (look_ups-decode-other m S o p there q apart)

  -- nobody claims less: the operand's claim is now its entry's
  was_unclaimed : (a : ℕ) → IsUnclaimed T a → IsUnclaimed S a
  was_unclaimed a free = record {
    entered = λ b e at inside. elim (decide_key nat_order b base) [
      | inl same ↦
          let is = finds_own S ts ground.round o p e there (ap (get S.entries) (sym same) ∙ at) in
          own_free (subst (λ x. IsInside x a) is inside)
      | inr other ↦
          free.entered b e
          (ap (λ es. get es b) entries_after
          ∙ beside_inserted nat_order S.entries base (entry_after_decode o p (get S.entries base)) b other
          ∙ at) inside
    ];
    arriving = λ t at j r of inside.
        free.arriving t ((λ j. (Leaves-after_event m S (event.Decode o) j).inbox) ∙ at) j r of inside;
    decoding = λ q r at inside. elim (decide_key name_order q o) [
      | inl same ↦
          let is = same_Some r p (sym at ∙ ap (get S.mail.decodes) same ∙ there) in
          own_free (subst (λ (r : Operand). IsInside r.object a) is inside)
      | inr apart ↦ free.decoding q r (decode_left q apart ∙ at) inside
    ];
  }
    where
      own_free : IsInside p.object a → ⊥
      own_free inside =
          free.entered base (entry_after_decode o p (get S.entries base)) own_entry
          (subst (λ x. IsInside x a) (sym (own_object (get S.entries base) refl)) inside)

  home_decoded : HasHome m i ts T
  home_decoded =
      let home : T.home ≡ S.home = λ j. (Leaves-after_event m S (event.Decode o) j).home in
      let main : T.main ≡ S.main = λ j. (Leaves-after_event m S (event.Decode o) j).main in
      record {
        ahead = λ x q r s none first starts.
            let b = absent_before x.base none in
            ap (λ h. bytes_of h x) home ∙ values.ahead x q r s b.1 (first_before x q r b.0 first) starts;
        beside = λ a e free.
            ap (λ h. get h.bytes a) home
            ∙ values.beside a (sym main ∙ e ∙ ap (λ c. (flat_beside i m.limits c).main) main) (was_unclaimed a free)
            ∙ ap (λ c. get (flat_beside i m.limits c).memory.bytes a) (sym main);
        opening = λ q c s at first reads starts. ap (λ h. bytes_of h c.operand.object) home
            ∙ (elim (opens_after q c at) [
              | inl old ↦ values.opening q c s old first reads starts
              | inr (inl new) ↦
                  subst (λ p. bytes_of S.home p.object ≡ bytes_before s p) (sym new.2)
                  (values.ahead p.object o p s new.1 (decode_first m S basis orderly o p there turn was_early)
                  (subst (λ q. Starts m i q.task s) new.0 starts))
              | inr (inr follows) ↦ absurd (follows first)
            ]);
      }

-- decode
pub HasHome-decode : (m : Machine) (i : ImageState) (S : State) (facts : Facts m S)
    → HasHome m i facts.ts S → (o : OpName)
    → IsEnabled m S (event.Decode o) → HasHome m i facts.ts (after_event m S (event.Decode o))
unfolding is_enabled
HasHome-decode m i S facts values o on =
    let p = something (can_decode_message m S o) (get S.mail.decodes o) refl on in
    home_decoded m i S facts.basis facts.control.orderly values o p.0 p.1 (decode_in_turn m S o p.0 p.1 on)
