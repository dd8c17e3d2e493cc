-- One more reader comes to a version: what has to be known so that its readers are in order.
use Rattle.std.proofs.Common.{◌≡◌, ◌≢◌, ◌⊎◌, inl, inr, ℕ, suc, Bool, true, false, cond, List, [], ◌∷◌, Option, Some}
use Rattle.std.proofs.Common.{None, refl, sym, ap, ◌∙◌, subst}
use Rattle.std.specs.FinMap.{get}
use Rattle.std.proofs.lemmas.Option.{none-some, same_Some}
use Rattle.tss_base.specs.declared.operand.OpName.{OpName}
use Rattle.tss_base.specs.declared.operand.Mode.TheVariants.{Input}
use Rattle.tss_base.specs.declared.operand.Task.{Task}
use Rattle.tss_base.specs.declared.marks.LinkState.TheVariants as link
use Rattle.tss_protocol.specs.State.{State, OperandState, Version}
use Rattle.tss_protocol.specs.Stations.{operand_at}
use Rattle.tss_phases.specs.Phase.{Phase, Waiting, Told, phase_of, has_released}
use Rattle.tss_phases.proofs.Tests.{not_both}
use Rattle.tss_phases.specs.Openers.{is_waiting}
use Rattle.tss_control.specs.Members.{IsOn}
use Rattle.tss_control.specs.Readers.{Has, oldest_of, head_of, tail_of, released_among, has_arrived, IsArrival, Holds}
use Rattle.tss_control.specs.Readers.{IsLinking, AreNeighbours, IsNewest, AreChained, HasArrivals}
use Rattle.tss_control.proofs.rounds.ReadersLists.{newest_of, IsNext, has_older, has_newer, has_oldest, has_newest}
use Rattle.tss_control.proofs.rounds.ReadersLists.{none_after_newest, chained_at, chained_by, newest_at, newest_by}
use Rattle.tss_control.proofs.rounds.ReadersCounts.{same_released}
use Rattle.tss_control.proofs.rounds.ReadersKept.{waiting_from_test, SameReader, alike_same, neighbours_kept}
use Rattle.tss_control.proofs.rounds.ReadersKept.{arrival_kept}
use Rattle.tss_control.proofs.rounds.ReadersStates.{nothing_held}

-- ---- lists

-- the oldest is the same in a longer list
oldest_more : (o a : OpName) (xs : List OpName) → oldest_of xs ≡ Some a → oldest_of (o ∷ xs) ≡ Some a
oldest_more o a [] e = absurd (none-some a e)
oldest_more o a (x ∷ xs) e = e

-- the newest is followed by one more
next_more : (o a b : OpName) (xs : List OpName) → IsNext a b (o ∷ xs)
    → ((o ≡ b) × (newest_of xs ≡ Some a)) ⊎ IsNext a b xs
next_more o a b [] h = absurd h
next_more o a b (x ∷ xs) (inl p) = inl (p.0, ap Some p.1)
next_more o a b (x ∷ xs) (inr h) = inr h

-- a reader that waits keeps all after it waiting
newer_waits : (S : State) (a b : OpName) → AreNeighbours S a b → phase_of S a ≡ Waiting → phase_of S b ≡ Waiting
newer_waits S a b n w = by (is_waiting (phase_of S b)) refl
  where
    by : (t : Bool) → is_waiting (phase_of S b) ≡ t → phase_of S b ≡ Waiting
    by true e = waiting_from_test (phase_of S b) e
    by false e = absurd ((n.woken (λ f. not_both (is_waiting (phase_of S b)) (ap is_waiting f) e)).0 w)

-- where the oldest waits, all wait
pub all_wait : (S : State) (xs : List OpName) → AreChained S xs → (a : OpName) → oldest_of xs ≡ Some a
    → phase_of S a ≡ Waiting → (b : OpName) → Has b xs → phase_of S b ≡ Waiting
all_wait S [] c a e w b h = absurd h
all_wait S (x ∷ []) c a e w b (inl same) = ap (phase_of S) (sym same ∙ same_Some x a e) ∙ w
all_wait S (x ∷ []) c a e w b (inr h) = absurd h
all_wait S (x ∷ y ∷ ys) c a e w b (inl same) =
    ap (phase_of S) (sym same) ∙ newer_waits S y x c.0 (all_wait S (y ∷ ys) c.1 a e w y (inl refl))
all_wait S (x ∷ y ∷ ys) c a e w b (inr h) = all_wait S (y ∷ ys) c.1 a e w b h

-- ---- one more reader

-- what is the same wherever one more reader comes
pub record Enlists (ts : List Task) (xs : List OpName) (S T : State) (v : OpName) (x z : Version) (o : OpName)
    : Type 0 where
  pub old : HasArrivals ts xs S v x
  pub same : (a : OpName) → Has a xs → phase_of T a ≡ phase_of S a
  pub station : (a : OpName) → operand_at T.flight a ≡ operand_at S.flight a
  pub object : z.object ≡ x.object
  pub produced : z.produced ≡ x.produced
  pub registered : z.registered ≡ suc x.registered
  pub released : z.released ≡ x.released
  pub tail : z.tail ≡ Some o
  pub arrival : IsArrival ts T v z o
  pub fresh : Has o xs → ⊥
  pub other : v ≢ o
  pub late : has_released (phase_of T o) ≡ false
  pub no_link : (c : OpName) → IsLinking T o c → ⊥
  pub nothing : (r : OperandState) → operand_at T.flight o ≡ Some r → r.link ≡ link.Nothing

module _ (ts : List Task) (xs : List OpName) (S T : State) (v : OpName) (x z : Version) (o : OpName)
    (k : Enlists ts xs S T v x z o) where
  -- a reader whose link under way is the same is as it was
  reader_same : (a : OpName) → Has a xs → get T.mail.links a ≡ get S.mail.links a → SameReader S T a
  reader_same a h e = record {
    phase = alike_same (phase_of S a) (phase_of T a) (k.same a h);
    links = e;
    holds = λ c q. (q.0, k.station a ∙ q.1, q.2);
    station = λ r at. (r, sym (k.station a) ∙ at, refl);
  }

  new_arrival : (a : OpName) → Has a (o ∷ xs) → IsArrival ts T v z a
  new_arrival a (inl e) = subst (IsArrival ts T v z) e k.arrival
  new_arrival a (inr h) = arrival_kept ts S T v x z a k.object (ap has_arrived (k.same a h)) (k.old.each a h)

  new_own : Has v (o ∷ xs) → oldest_of (o ∷ xs) ≡ Some v
  new_own (inl e) = absurd (k.other (sym e))
  new_own (inr h) = oldest_more o v xs (k.old.own h)

  -- its readers are in order with one more
  arrivals_enlisted : z.head ≡ head_of z.produced (o ∷ xs)
      → ((a : OpName) → oldest_of (o ∷ xs) ≡ Some a
      → (phase_of T a ≡ Waiting → z.produced ≡ false) × (z.produced ≡ false → phase_of T a ≡ Waiting))
      → ((a : OpName) → newest_of xs ≡ Some a → AreNeighbours T a o)
      → ((a : OpName) → Has a xs → newest_of xs ≢ Some a → get T.mail.links a ≡ get S.mail.links a)
      → HasArrivals ts (o ∷ xs) T v z
  arrivals_enlisted head first last links = record {
    once = (k.fresh, k.old.once);
    each = new_arrival;
    opener = λ on. oldest_more o v xs (k.old.opener (subst (λ x. IsOn ts x Input v) k.object on));
    own = new_own;
    registered = k.registered ∙ ap suc k.old.registered;
    released =
        k.released
        ∙ k.old.released
        ∙ sym (same_released S T xs (λ a h. ap has_released (k.same a h)))
        ∙ ap (λ b. cond {A = ℕ} b (suc (released_among T xs)) (released_among T xs)) (sym k.late);
    head = head;
    tail = k.tail ∙ ap (λ b. cond b None (Some o)) (sym k.late);
    first = first;
    chained = chained_by T (o ∷ xs) (λ a b n. elim (next_more o a b xs n) [
      | inl p ↦ subst (AreNeighbours T a) p.0 (last a p.1)
      | inr q ↦ neighbours_kept S T a
          (reader_same a (has_older a b xs q)
          (links a (has_older a b xs q) (λ e. none_after_newest a b xs k.old.once q e))) b
          (ap is_waiting (k.same b (has_newer a b xs q))) (chained_at S xs k.old.chained a b q)
    ]);
    newest = newest_by T (o ∷ xs) (λ a e. subst (IsNewest T) (same_Some o a e)
        (record { linking = k.no_link; record_link = k.nothing }));
  }

-- ---- the first reader of a produced version, or one that comes when all others have released it

not_early : (p : Phase) → has_released p ≡ true → (p ≢ Waiting) × (p ≢ Told)
not_early p e =
    let clash : (q : Phase) → has_released q ≡ false → p ≢ q = λ q late f.
    not_both (has_released p) e (ap has_released f ∙ late) in
    (clash Waiting refl, clash Told refl)

told_first : (p : Phase) → p ≡ Told → p ≡ Waiting → ⊥
told_first p e f = cc

-- where a list has no tail, its newest has released the version
no_tail : (S : State) (xs : List OpName) → tail_of S xs ≡ None → (a : OpName) → newest_of xs ≡ Some a
    → has_released (phase_of S a) ≡ true
no_tail S [] e a n = absurd (none-some a n)
no_tail S (x ∷ xs) e a n =
    ap (λ a. has_released (phase_of S a)) (sym (same_Some x a n)) ∙ by (has_released (phase_of S x)) e
  where
    by : (b : Bool) → cond b None (Some x) ≡ None → b ≡ true
    by true e = refl
    by false e = absurd (none-some x (sym e))

-- where it has one, that is its newest
pub tail_is_newest : (S : State) (xs : List OpName) (t : OpName) → tail_of S xs ≡ Some t → newest_of xs ≡ Some t
tail_is_newest S [] t e = absurd (none-some t e)
tail_is_newest S (x ∷ xs) t e = by (has_released (phase_of S x)) e
  where
    by : (b : Bool) → cond b None (Some x) ≡ Some t → Some x ≡ Some t
    by true e = absurd (none-some t e)
    by false e = e

-- the oldest of a longer list
oldest_by : (o a : OpName) (xs : List OpName) → oldest_of (o ∷ xs) ≡ Some a
    → ((xs ≡ []) × (o ≡ a)) ⊎ (oldest_of xs ≡ Some a)
oldest_by o a [] e = inl (refl, same_Some o a e)
oldest_by o a (x ∷ xs) e = inr e

module _ (ts : List Task) (xs : List OpName) (S T : State) (v : OpName) (x z : Version) (o : OpName)
    (k : Enlists ts xs S T v x z o) where
  old_first : (a : OpName) → oldest_of xs ≡ Some a
      → (phase_of T a ≡ Waiting → z.produced ≡ false) × (z.produced ≡ false → phase_of T a ≡ Waiting)
  old_first a e =
      let f = k.old.first a e in
      let same = k.same a (has_oldest a xs e) in
      ((λ w. k.produced ∙ f.0 (sym same ∙ w)), (λ b. same ∙ f.1 (sym k.produced ∙ b)))

  -- it is told at once
  pub enlisted_told : x.tail ≡ None → x.produced ≡ true → phase_of T o ≡ Told → z.head ≡ x.head
      → ((a : OpName) → get T.mail.links a ≡ get S.mail.links a) → HasArrivals ts (o ∷ xs) T v z
  enlisted_told tail produced told head links =
      arrivals_enlisted ts xs S T v x z o k
      (head ∙ k.old.head ∙ ap (λ b. head_of b xs) produced ∙ ap (λ b. head_of b (o ∷ xs)) (sym (k.produced ∙ produced)))
      (λ a e. elim (oldest_by o a xs e) [
        | inr old ↦ old_first a old
        | inl p ↦ (
          (λ w. absurd (told_first (phase_of T o) told (ap (phase_of T) p.1 ∙ w))),
          (λ b. absurd (not_both z.produced (k.produced ∙ produced) b)),
        )
      ])
      (λ a e.
      let done = no_tail S xs (sym k.old.tail ∙ tail) a e in
      let done_now = ap has_released (k.same a (has_newest a xs e)) ∙ done in
      let n = newest_at S xs k.old.newest a e in
      record {
        waits = λ w. absurd (told_first (phase_of T o) told w);
        linking = λ c l. absurd (n.linking c (sym (links a) ∙ l));
        holding = λ c q. absurd (nothing_held q.0.link c (n.record_link q.0 (sym (k.station a) ∙ q.1)) q.2);
        woken = λ none. not_early (phase_of T a) done_now;
        passed = λ r none at late. absurd (not_both (has_released (phase_of T a)) done_now late);
      })
      (λ a h other. links a)

  -- a version without a tail that isn't produced has no reader yet
  no_reader_yet : x.tail ≡ None → x.produced ≡ false → (a : OpName) → newest_of xs ≡ Some a → ⊥
  no_reader_yet tail produced a e =
      let done = no_tail S xs (sym k.old.tail ∙ tail) a e in
      by (oldest_of xs) refl done
    where
      by : (f : Option OpName) → oldest_of xs ≡ f → has_released (phase_of S a) ≡ true → ⊥
      by None none done = absurd (some_oldest xs a (has_newest a xs e) none)
        where
          some_oldest : (xs : List OpName) (a : OpName) → Has a xs → oldest_of xs ≡ None → ⊥
          some_oldest [] a h none = h
          some_oldest (y ∷ []) a h none = none-some y (sym none)
          some_oldest (y ∷ w ∷ ws) a h none = some_oldest (w ∷ ws) w (inl refl) none
      by (Some f) oldest done =
          not_both (has_released (phase_of S a)) done
          (ap has_released
          (all_wait S xs k.old.chained f oldest ((k.old.first f oldest).1 produced) a (has_newest a xs e)))

  -- it is the first of an open version, and waits for that
  pub enlisted_head : x.tail ≡ None → x.produced ≡ false → phase_of T o ≡ Waiting → z.head ≡ Some o
      → ((a : OpName) → get T.mail.links a ≡ get S.mail.links a) → HasArrivals ts (o ∷ xs) T v z
  enlisted_head tail produced waits head links =
      let none = no_reader_yet tail produced in
      arrivals_enlisted ts xs S T v x z o k
      (head ∙ alone xs none ∙ ap (λ b. head_of b (o ∷ xs)) (sym (k.produced ∙ produced)))
      (λ a e. elim (oldest_by o a xs e) [
        | inr old ↦ old_first a old
        | inl p ↦ ((λ w. k.produced ∙ produced), (λ b. ap (phase_of T) (sym p.1) ∙ waits))
      ])
      (λ a e. absurd (none a e)) (λ a h other. links a)
    where
      alone : (xs : List OpName) → ((a : OpName) → newest_of xs ≡ Some a → ⊥) → Some o ≡ head_of false (o ∷ xs)
      alone [] none = refl
      alone (y ∷ ys) none = absurd (none y refl)

  -- it waits for a link from the newest
  pub enlisted_behind : (t : OpName) → x.tail ≡ Some t → phase_of T o ≡ Waiting → z.head ≡ x.head
      → get T.mail.links t ≡ Some o → ((a : OpName) → a ≢ t → get T.mail.links a ≡ get S.mail.links a)
      → HasArrivals ts (o ∷ xs) T v z
  enlisted_behind t tail waits head sent links =
      let newest = tail_is_newest S xs t (sym k.old.tail ∙ tail) in
      arrivals_enlisted ts xs S T v x z o k
      (head ∙ k.old.head ∙ same_head xs x.produced newest ∙ ap (λ b. head_of b (o ∷ xs)) (sym k.produced))
      (λ a e. elim (oldest_by o a xs e) [
        | inr old ↦ old_first a old
        | inl p ↦ absurd (none-some t (ap newest_of (sym p.0) ∙ newest))
      ])
      (λ a e.
      let is : t ≡ a = same_Some t a (sym newest ∙ e) in
      let n = newest_at S xs k.old.newest a e in
      let free : (c : OpName) → Holds T a c → ⊥ = λ c q.
      nothing_held q.0.link c (n.record_link q.0 (sym (k.station a) ∙ q.1)) q.2 in
      let here : get T.mail.links a ≡ Some o = ap (get T.mail.links) (sym is) ∙ sent in
      record {
        waits = λ w. inl here;
        linking = λ c l. (same_Some c o (sym l ∙ here), waits, free);
        holding = λ c q. absurd (free c q);
        woken = λ none. absurd (none waits);
        passed = λ r none at late. absurd (none waits);
      })
      (λ a h other. links a (λ is. other (newest ∙ ap Some (sym is))))
    where
      same_head : (xs : List OpName) (b : Bool) → newest_of xs ≡ Some t → head_of b xs ≡ head_of b (o ∷ xs)
      same_head [] b e = absurd (none-some t e)
      same_head (y ∷ ys) true e = refl
      same_head (y ∷ ys) false e = refl
