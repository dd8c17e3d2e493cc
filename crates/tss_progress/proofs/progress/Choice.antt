-- Some event of a state is enabled, or none is.
use Rattle.std.proofs.Common.{◌≡◌, ℕ, zero, suc, ◌<◌, ◌≤◌, ◌⊎◌, Bool, true, false, List, [], ◌∷◌, Option, Some, None}
use Rattle.std.proofs.Common.{refl, ap, ◌∙◌, subst, inl, inr, arith}
use Rattle.std.specs.Prelude.{◌&&◌, is_some, is_none, nat_lt}
use Rattle.std.specs.declared.cmp.Ordering.{Ordering}
use Rattle.std.specs.FinMap.{FinMap, get}
use Rattle.std.proofs.lemmas.Bool.{cases_Bool, cases_lt, and_left, le-ltb}
use Rattle.tss_base.specs.declared.machine.Machine.{Machine}
use Rattle.tss_base.specs.declared.event.Event.{Event}
use Rattle.tss_base.specs.declared.event.Event.TheVariants as event
use Rattle.tss_maps.proofs.Keys.{IsKeyOrder, nat_order, name_order}
use Rattle.tss_maps.proofs.Changes.{decide_get}
use Rattle.tss_maps.proofs.Entries.{decide_entry}
use Rattle.tss_protocol.specs.State.{State, Busy}
use Rattle.tss_protocol.specs.Workers.{can_start, can_exec, can_finish}
use Rattle.tss_protocol.specs.UnitMachine.{is_enabled, IsEnabled, can_decode_message, can_open_message, can_use_message}
use Rattle.tss_protocol.specs.UnitMachine.{can_retire}

-- no event is enabled
abbrev pub IsStuck : Machine → State → Type 0
IsStuck m S = (e : Event) → is_enabled m S e ≡ false

-- ---- one kind

-- a test by what stands under a key, that fails where nothing does, passes at some key or at none
by_key : {K X : Type 0} {R : K → K → Ordering} (order : IsKeyOrder R) (m : FinMap R X) (t : K → Option X → Bool)
    → ((k : K) → t k None ≡ false)
    → ((k : K) × (t k (get m k) ≡ true)) ⊎ ((k : K) → t k (get m k) ≡ false)
by_key {K} {X} {R} order m t fails = elim (decide_entry order (λ k x. t k (Some x)) m) [
  | inl some ↦ inl (some.0, ap (t some.0) some.2 ∙ some.3)
  | inr none ↦ inr (λ k. elim (decide_get m k) [
    | inl absent ↦ ap (t k) absent ∙ fails k
    | inr there ↦ ap (t k) there.1 ∙ none k there.0 there.1
  ])
]

-- a test below a number passes somewhere or nowhere
below : (p : ℕ → Bool) (n : ℕ) → ((k : ℕ) × (p k ≡ true)) ⊎ ((k : ℕ) → k < n → p k ≡ false)
below p zero = inr (λ k h. absurd (omega (arith, h)))
below p (suc n) = elim (below p n) [
  | inl some ↦ inl some
  | inr none ↦ elim (cases_Bool (p n)) [
    | inl passes ↦ inl (n, passes)
    | inr fails ↦ inr (λ k h. elim (cases_lt k n) [
      | inl less ↦ none k less
      | inr same ↦ subst (λ j. p j ≡ false) (omega (arith, h, same)) fails
    ])
  ]
]

-- a start needs the number of a worker
start_outside : (workers w : ℕ) (busy : Option Busy) (queue : List ℕ) → workers ≤ w
    → can_start workers w busy queue ≡ false
start_outside workers w busy [] h = refl
start_outside workers w busy (t ∷ ts) h = and_left (nat_lt w workers) (is_none busy) (le-ltb w workers h)

-- ---- all kinds

-- events of one kind: some is enabled, or none is
abbrev Choice : Machine → State → {K : Type 0} → (K → Event) → Type 0
Choice m S {K} f = ((e : Event) × IsEnabled m S e) ⊎ ((k : K) → is_enabled m S (f k) ≡ false)

-- two kinds
both : {A B C : Type 0} → A ⊎ B → A ⊎ C → A ⊎ (B × C)
both (inl a) c = inl a
both (inr b) (inl a) = inl a
both (inr b) (inr c) = inr (b, c)

module _ (m : Machine) (S : State) where
  -- the answer of a test as an event
  named : {K : Type 0} (f : K → Event)
      → ((k : K) × (is_enabled m S (f k) ≡ true)) ⊎ ((k : K) → is_enabled m S (f k) ≡ false)
      → Choice m S f
  named f (inl some) = inl (f some.0, some.1)
  named f (inr none) = inr none

  of_main : Choice m S {K = Unit {0}} (λ u. event.Main)
  of_main = elim (cases_Bool (is_enabled m S event.Main)) [ inl on ↦ inl (event.Main, on) | inr off ↦ inr (λ u. off) ]

  of_take : Choice m S {K = Unit {0}} (λ u. event.Take)
  of_take = elim (cases_Bool (is_enabled m S event.Take)) [ inl on ↦ inl (event.Take, on) | inr off ↦ inr (λ u. off) ]

  of_decode : Choice m S event.Decode
  unfolding is_enabled
  of_decode = named event.Decode (by_key name_order S.mail.decodes (can_decode_message m S) (λ k. refl))

  of_ack : Choice m S event.Ack
  unfolding is_enabled
  of_ack = named event.Ack (by_key name_order S.mail.acks (λ k x. is_some x) (λ k. refl))

  of_open : Choice m S event.Open
  unfolding is_enabled
  of_open = named event.Open (by_key name_order S.mail.opens (λ k x. can_open_message S x) (λ k. refl))

  of_use : Choice m S event.Use
  unfolding is_enabled
  of_use = named event.Use (by_key name_order S.mail.uses (λ k x. can_use_message S x) (λ k. refl))

  of_ready : Choice m S event.Ready
  unfolding is_enabled
  of_ready = named event.Ready (by_key name_order S.mail.readies (λ k x. is_some x) (λ k. refl))

  of_link : Choice m S event.Link
  unfolding is_enabled
  of_link = named event.Link (by_key name_order S.mail.links (λ k x. is_some x) (λ k. refl))

  of_start : Choice m S event.Start
  unfolding is_enabled
  of_start = elim (below (λ w. is_enabled m S (event.Start w)) m.sizes.workers) [
    | inl some ↦ inl (event.Start some.0, some.1)
    | inr none ↦ inr (λ w. elim (cases_lt w m.sizes.workers) [
      | inl less ↦ none w less
      | inr outside ↦ start_outside m.sizes.workers w (get S.workers w) S.queue outside
    ])
  ]

  of_exec : Choice m S event.Exec
  unfolding is_enabled
  of_exec = named event.Exec (by_key nat_order S.workers (λ k x. can_exec x) (λ k. refl))

  of_finish : Choice m S event.Finish
  unfolding is_enabled
  of_finish = named event.Finish (by_key nat_order S.workers (λ k x. can_finish x) (λ k. refl))

  of_release : Choice m S event.Release
  unfolding is_enabled
  of_release = named event.Release (by_key name_order S.mail.releases (λ k x. is_some x) (λ k. refl))

  of_bye : Choice m S event.Bye
  unfolding is_enabled
  of_bye = named event.Bye (by_key name_order S.mail.byes (λ k x. is_some x) (λ k. refl))

  of_idle : Choice m S event.Idle
  unfolding is_enabled
  of_idle = named event.Idle (by_key name_order S.mail.idles (λ k x. is_some x) (λ k. refl))

  of_nack : Choice m S event.Nack
  unfolding is_enabled
  of_nack = named event.Nack (by_key name_order S.mail.nacks (λ k x. is_some x) (λ k. refl))

  of_retire : Choice m S event.Retire
  unfolding is_enabled
  of_retire = named event.Retire
      (by_key name_order S.mail.retires (λ k x. is_some x && can_retire m S (get S.versions k)) (λ k. refl))

  of_copy : Choice m S event.Copy
  unfolding is_enabled
  of_copy = named event.Copy (by_key nat_order S.copies (λ k x. is_some x) (λ k. refl))

  of_gone : Choice m S event.Gone
  unfolding is_enabled
  of_gone = named event.Gone (by_key name_order S.mail.gones (λ k x. is_some x) (λ k. refl))

  -- some event is enabled, or none is
  pub enabled_or_stuck : ((e : Event) × IsEnabled m S e) ⊎ IsStuck m S
  enabled_or_stuck = elim (both
      (both of_main (both of_take (both of_decode (both of_ack (both of_open (both of_use (both of_ready of_link)))))))
      (both of_start (both of_exec (both of_finish (both of_release (both of_bye
      (both of_idle (both of_nack (both of_retire (both of_copy of_gone)))))))))) [
        | inl some ↦ inl some
        | inr none ↦ inr (λ e. elim e as (λ e. is_enabled m S e ≡ false) [
          | event.Main ↦ none.0.0 tt
          | event.Take ↦ none.0.1.0 tt
          | event.Decode o ↦ none.0.1.1.0 o
          | event.Ack o ↦ none.0.1.1.1.0 o
          | event.Open o ↦ none.0.1.1.1.1.0 o
          | event.Use o ↦ none.0.1.1.1.1.1.0 o
          | event.Ready o ↦ none.0.1.1.1.1.1.1.0 o
          | event.Link o ↦ none.0.1.1.1.1.1.1.1 o
          | event.Start w ↦ none.1.0 w
          | event.Exec w ↦ none.1.1.0 w
          | event.Finish w ↦ none.1.1.1.0 w
          | event.Release o ↦ none.1.1.1.1.0 o
          | event.Bye o ↦ none.1.1.1.1.1.0 o
          | event.Idle v ↦ none.1.1.1.1.1.1.0 v
          | event.Nack v ↦ none.1.1.1.1.1.1.1.0 v
          | event.Retire v ↦ none.1.1.1.1.1.1.1.1.0 v
          | event.Copy b ↦ none.1.1.1.1.1.1.1.1.1.0 b
          | event.Gone v ↦ none.1.1.1.1.1.1.1.1.1.1 v
        ])
      ]
