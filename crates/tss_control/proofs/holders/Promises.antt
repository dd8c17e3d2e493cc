-- What a release promises, and which readers a version has beside the last one that releases it.
use Rattle.std.proofs.Common.{◌≡◌, ◌≢◌, ◌≤◌, ℕ, suc, Bool, true, false, cond, List, [], ◌∷◌, length, Option, Some, None}
use Rattle.std.proofs.Common.{refl, sym, ap, ◌∙◌, subst, inl, inr, arith, true≢false}
use Rattle.std.specs.Prelude.{not}
use Rattle.std.specs.FinMap.{get}
use Rattle.std.proofs.lemmas.Option.{same_Some}
use Rattle.tss_base.specs.declared.operand.OpName.{OpName}
use Rattle.tss_base.specs.declared.operand.Task.{Task}
use Rattle.tss_base.specs.declared.marks.LinkState.TheVariants as link
use Rattle.tss_protocol.specs.Names.{same_name}
use Rattle.tss_protocol.specs.State.{State, OperandState, Version}
use Rattle.tss_protocol.specs.Stations.{operand_at}
use Rattle.tss_protocol.specs.Versions.{is_last}
use Rattle.tss_phases.specs.Phase.{Waiting, Releasing, look_ups, phase_of, has_released}
use Rattle.tss_phases.specs.Openers.{is_waiting}
use Rattle.tss_phases.proofs.Received.{own_name}
use Rattle.tss_phases.proofs.SettlingLemmas.{name_from_test}
use Rattle.tss_control.specs.Readers.{Has, AreOnce, released_among, tail_of, AreNeighbours, IsLinking, HasArrivals}
use Rattle.tss_control.specs.Holders.{link_fits, PromiseFits}
use Rattle.tss_control.proofs.rounds.ReadersLists.{newest_of, IsNext, newest_or_older, none_after_newest, chained_at}
use Rattle.tss_control.proofs.rounds.ReadersLists.{newest_at}
use Rattle.tss_control.proofs.rounds.ReleaseFacts.{more_readers}
use Rattle.tss_control.proofs.holders.Told.{waiting_from_test}
use Rattle.tss_control.proofs.holders.Fits.{LinksFit}
use Rattle.tss_control.proofs.holders.Used.{tail_some}

-- ---- the promise of a reader

module _ (ts : List Task) (xs : List OpName) (S : State) (v : OpName) (x : Version) (arrived : HasArrivals ts xs S v x)
    (o : OpName) (has : Has o xs) (releasing : phase_of S o ≡ Releasing) (w : Bool) (r : OperandState)
    (kept : operand_at S.flight o ≡ Some r) (links : LinksFit w (look_ups S o) (get S.mail.links o) r) where
  promise_newest : newest_of xs ≡ Some o → PromiseFits (get S.mail.links o) r.link (not (is_last o x.tail))
  promise_newest e =
      let n = newest_at S xs arrived.newest o e in
      subst (λ t. PromiseFits (get S.mail.links o) r.link (not (is_last o t))) (sym (arrived.tail ∙ tail xs e))
      (subst (λ b. PromiseFits (get S.mail.links o) r.link (not b)) (sym (own_name o))
      (n.record_link r kept, absent (get S.mail.links o) refl n.linking))
    where
      tail : (xs : List OpName) → newest_of xs ≡ Some o → tail_of S xs ≡ Some o
      tail [] f = f
      tail (a ∷ bs) f =
          let same = same_Some a o f in
          ap (λ b. cond b None (Some a)) (ap (λ a. has_released (phase_of S a)) same ∙ ap has_released releasing) ∙ f

      absent : (k : Option OpName) → get S.mail.links o ≡ k → ((c : OpName) → IsLinking S o c → ⊥)
          → get S.mail.links o ≡ None
      absent None f n = f
      absent (Some c) f n = absurd (n c f)

  not_last : (b : OpName) → IsNext o b xs → (t : Option OpName) → x.tail ≡ t → is_last o t ≡ false
  not_last b next None e = refl
  not_last b next (Some last) e = by (same_name last o) refl
    where
      by : (c : Bool) → same_name last o ≡ c → same_name last o ≡ false
      by false f = f
      by true f =
          let newest = (tail_some S xs last (sym arrived.tail ∙ e)).0 in
          absurd (none_after_newest o b xs arrived.once next (newest ∙ ap Some (name_from_test last o f)))

  promise_older : (b : OpName) → IsNext o b xs → PromiseFits (get S.mail.links o) r.link true
  promise_older b next = by (is_waiting (phase_of S b)) refl
    where
      n : AreNeighbours S o b
      n = chained_at S xs arrived.chained o b next

      held_fits : link_fits Releasing (link.Held b) ≡ true → ⊥
      held_fits e = true≢false (sym e)

      by : (c : Bool) → is_waiting (phase_of S b) ≡ c → PromiseFits (get S.mail.links o) r.link true
      by true e = elim (n.waits (waiting_from_test (phase_of S b) e)) [
        | inl l ↦ inr (links.under_way b l, (b, l))
        | inr q ↦
            let is = ap (λ (r : OperandState). r.link) (same_Some r q.0 (sym kept ∙ q.1)) ∙ q.2 in
            absurd (held_fits (sym (λ i. link_fits (releasing i) (is i)) ∙ links.fits))
      ]
      by false e =
          let awake : phase_of S b ≡ Waiting → ⊥ = λ w. true≢false (sym (ap is_waiting w) ∙ e) in
          inl (n.passed r awake kept (ap has_released releasing), absent (get S.mail.links o) refl awake)
        where
          absent : (k : Option OpName) → get S.mail.links o ≡ k → (phase_of S b ≡ Waiting → ⊥)
              → get S.mail.links o ≡ None
          absent None f awake = f
          absent (Some c) f awake = absurd (awake (n.linking c f).1)

  -- a link is promised where another reader has come after it, and none else
  pub promise_reader : PromiseFits (get S.mail.links o) r.link (not (is_last o x.tail))
  promise_reader = elim (newest_or_older o xs has) [
    | inl e ↦ promise_newest e
    | inr b ↦
        subst (λ c. PromiseFits (get S.mail.links o) r.link (not c)) (sym (not_last b.0 b.1 x.tail refl))
        (promise_older b.0 b.1)
  ]

-- ---- the last reader

module _ (S : State) where
  -- where two readers haven't released a version, two are not counted
  two_left : (xs : List OpName) (o a : OpName) → AreOnce xs → Has o xs → Has a xs → a ≢ o
      → has_released (phase_of S o) ≡ false → has_released (phase_of S a) ≡ false
      → suc (suc (released_among S xs)) ≤ length xs
  two_left [] o a once ho ha apart eo ea = absurd ho
  two_left (b ∷ bs) o a once (inl so) (inl sa) apart eo ea = absurd (apart (sym sa ∙ so))
  two_left (b ∷ bs) o a once (inl so) (inr ha) apart eo ea =
      counted_not b bs (ap (λ a. has_released (phase_of S a)) so ∙ eo) (more_readers S bs a ha ea)
    where
      counted_not : (b : OpName) (bs : List OpName) → has_released (phase_of S b) ≡ false
          → suc (released_among S bs) ≤ length bs → suc (suc (released_among S (b ∷ bs))) ≤ length (b ∷ bs)
      counted_not b bs e h =
          let is = ap (λ c. cond {A = ℕ} c (suc (released_among S bs)) (released_among S bs)) e in omega (arith, is, h)
  two_left (b ∷ bs) o a once (inr ho) (inl sa) apart eo ea =
      counted_not b bs (ap (λ a. has_released (phase_of S a)) sa ∙ ea) (more_readers S bs o ho eo)
    where
      counted_not : (b : OpName) (bs : List OpName) → has_released (phase_of S b) ≡ false
          → suc (released_among S bs) ≤ length bs → suc (suc (released_among S (b ∷ bs))) ≤ length (b ∷ bs)
      counted_not b bs e h =
          let is = ap (λ c. cond {A = ℕ} c (suc (released_among S bs)) (released_among S bs)) e in omega (arith, is, h)
  two_left (b ∷ bs) o a once (inr ho) (inr ha) apart eo ea =
      counted (has_released (phase_of S b)) (two_left bs o a once.1 ho ha apart eo ea)
    where
      counted : (c : Bool) → suc (suc (released_among S bs)) ≤ length bs
          → suc (suc (cond {A = ℕ} c (suc (released_among S bs)) (released_among S bs))) ≤ suc (length bs)
      counted true h = omega (arith, h)
      counted false h = omega (arith, h)

  -- where all but one of its readers are counted, all others have released it
  pub others_released : (ts : List Task) (xs : List OpName) (v : OpName) (x : Version) → HasArrivals ts xs S v x
      → (o : OpName) → Has o xs → has_released (phase_of S o) ≡ false → x.registered ≤ suc x.released → (a : OpName)
      → Has a xs → a ≢ o → has_released (phase_of S a) ≡ true
  others_released ts xs v x h o ho eo few a ha apart = by (has_released (phase_of S a)) refl
    where
      clash : (r n k l : ℕ) → r ≡ k → n ≡ l → n ≤ suc r → suc (suc k) ≤ l → ⊥
      clash r n k l e f g i = omega (arith, e, f, g, i)

      by : (c : Bool) → has_released (phase_of S a) ≡ c → has_released (phase_of S a) ≡ true
      by true e = e
      by false e =
          absurd (clash x.released x.registered (released_among S xs) (length xs) h.released h.registered few
          (two_left xs o a h.once ho ha apart eo e))
