-- The names of the banks' buffers with their places among all buffers, and the contents under the one and the other.
use Rattle.std.proofs.Common.{◌≡◌, ℕ, zero, suc, ◌<◌, List, [], ◌∷◌, length, map, slice_get, Option, Some, None, option_map, option_and_then, refl, sym, ap, ◌∙◌, subst, inl, inr, ◌⊎◌, arith}
use Rattle.std.specs.FinMap.{get, empty, get-empty}
use Rattle.std.proofs.lemmas.Option.{none-some, same_Some, get_or_from_slice_get}
use Rattle.tss_base.specs.declared.operand.OpName.{OpName}
use Rattle.tss_base.specs.Names.{name_cmp, Named}
use Rattle.tss_maps.proofs.Keys.{name_order}
use Rattle.tss_maps.proofs.Changes.{decide_get, same_by_get}
use Rattle.tss_banks.specs.Joined.{bank, IsInNoOther}
use Rattle.tss_banks.specs.Tables.{joined_tables}
use Rattle.tss_banks.proofs.CollectedLemmas.{get-collected}
use Rattle.tss_banks.proofs.JoinedLemmas.{get-joined, joined_somewhere}
use Rattle.tss_buffers.specs.Contents.{BuffersState, seat}
use Rattle.tss_workers.specs.Agreement.{Agree}
use Rattle.tss_conditions.proofs.Filling.{held_banks}
use Rattle.tss_pipeline.specs.declared.bank.Bank.{Bank}
use Rattle.tss_pipeline.specs.declared.units.Units.{Units}
use Rattle.tss_pipeline.specs.State.{state_of, bank_tables, contents_in, contents_of}
use Rattle.tss_pipeline.specs.Fit.{IsFit}
use Rattle.tss_pipeline.proofs.places.BankChanges.{slice_get-map}
use Rattle.tss_pipeline.proofs.places.Lookups.{buffer_here, buffer_joined}

-- ---- banks of a list

-- the map of a bank of the list, or an empty one
bank_by : {X : Type 0} (f : Bank → Named X) (bs : List Bank) (i : ℕ)
    → ((b : Bank) × (slice_get bs i ≡ Some b) × (bank (map f bs) i ≡ f b)) ⊎ (bank (map f bs) i ≡ empty)
bank_by f [] i = inr refl
bank_by f (w ∷ ws) zero = inl (w, refl, refl)
bank_by f (w ∷ ws) (suc i) = bank_by f ws i

-- a bank that is there
pub bank_exists : (bs : List Bank) (i : ℕ) → i < length bs → (b : Bank) × (slice_get bs i ≡ Some b)
bank_exists [] i few = absurd (omega (arith, few))
bank_exists (w ∷ ws) zero few = (w, refl)
bank_exists (w ∷ ws) (suc i) few = bank_exists ws i (omega (arith, few))

from_tested : {X Y : Type 0} (g : X → Option Y) (o : Option X) (y : Y) → option_and_then g o ≡ Some y
    → (x : X) × (o ≡ Some x)
from_tested g None y e = absurd (none-some y e)
from_tested g (Some x) y e = (x, refl)

from_mapped : {X Y : Type 0} (g : X → Y) (o : Option X) (y : Y) → option_map g o ≡ Some y
    → (x : X) × (o ≡ Some x) × (y ≡ g x)
from_mapped g None y e = absurd (none-some y e)
from_mapped g (Some x) y e = (x, refl, sym (same_Some (g x) y e))

-- ---- the place of a buffer's name

abbrev pub place_in : ℕ → OpName → Option Bank → Option OpName
place_in k n None = None
place_in k n (Some b) = option_map (seat k) (get b.renaming.buffers n)

abbrev pub place_at : List Bank → OpName → Option ℕ → Option OpName
place_at bs n None = None
place_at bs n (Some k) = place_in k n (slice_get bs k)

abbrev pub place_of : List Bank → OpName → Option OpName
place_of bs n = place_at bs n (get (joined_tables (bank_tables bs)).buffers n)

-- a buffer that a bank holds under a name
pub record HeldAt (bs : List Bank) (n s : OpName) : Type 0 where
  pub number : ℕ
  pub bank : Bank
  pub there : slice_get bs number ≡ Some bank
  pub place : ℕ
  pub held : get bank.renaming.buffers n ≡ Some place
  pub seats : s ≡ seat number place

held_in_bank : (bs : List Bank) (k : ℕ) (n s : OpName) (o : Option Bank) → slice_get bs k ≡ o → place_in k n o ≡ Some s
    → HeldAt bs n s
held_in_bank bs k n s None at e = absurd (none-some s e)
held_in_bank bs k n s (Some b) at e =
    let t = from_mapped (seat k) (get b.renaming.buffers n) s e in
    record { number = k; bank = b; there = at; place = t.0; held = t.1; seats = t.2 }

held_by : (bs : List Bank) (n s : OpName) (o : Option ℕ) → place_at bs n o ≡ Some s → HeldAt bs n s
held_by bs n s None e = absurd (none-some s e)
held_by bs n s (Some k) e = held_in_bank bs k n s (slice_get bs k) refl e

pub held_at : (bs : List Bank) (n s : OpName) → place_of bs n ≡ Some s → HeldAt bs n s
held_at bs n s e = held_by bs n s (get (joined_tables (bank_tables bs)).buffers n) e

module _ (u : Units) (fit : IsFit u) where
  module _ (k : ℕ) (b : Bank) (there : slice_get u.banks.items k ≡ Some b) (n : OpName) (p : ℕ)
      (held : get b.renaming.buffers n ≡ Some p) where
    -- what a bank holds is held in all banks' tables
    pub held_joined : get (state_of u).buffers n ≡ Some k
    held_joined =
        buffer_joined u.machine.sizes u.banks.items fit.placed.tables k b there n p
        (fit.sized.banks.each k b there).bank held

    pub place_there : place_of u.banks.items n ≡ Some (seat k p)
    place_there =
        ap (place_at u.banks.items n) held_joined
        ∙ ap (place_in k n) there
        ∙ ap (option_map (seat k)) held

    alone_there : (B : BuffersState) → IsInNoOther (map (contents_in B) u.banks.items) k n
    alone_there B i apart = elim (bank_by (contents_in B) u.banks.items i) [
      | inl t ↦ elim (decide_get (contents_in B t.0) n) [
        | inl none ↦ ap (λ m. get m n) t.2 ∙ none
        | inr y ↦
            let q = from_tested (λ place. get B.contents (seat t.0.renaming.bank place)) (get t.0.renaming.buffers n)
            y.0
            (sym (get-collected name_order (λ name place. get B.contents (seat t.0.renaming.bank place))
            t.0.renaming.buffers n) ∙ y.1) in
            let other = buffer_joined u.machine.sizes u.banks.items fit.placed.tables i t.0 t.1 n q.0
            (fit.sized.banks.each i t.0 t.1).bank q.1 in
            absurd (apart (same_Some i k (sym other ∙ held_joined)))
      ]
      | inr none ↦ ap (λ m. get m n) none ∙ get-empty name_cmp n
    ]

    bank_there : (B : BuffersState) → bank (map (contents_in B) u.banks.items) k ≡ contents_in B b
    bank_there B =
        get_or_from_slice_get (map (contents_in B) u.banks.items) k (contents_in B b) empty
        (slice_get-map (contents_in B) u.banks.items k b there)

    -- the contents under the name are those at the place
    pub contents_there : (B : BuffersState) → get (contents_of B u.banks.items) n ≡ get B.contents (seat k p)
    contents_there B =
        get-joined name_order (map (contents_in B) u.banks.items) k n (alone_there B)
        ∙ ap (λ m. get m n) (bank_there B)
        ∙ get-collected name_order (λ name place. get B.contents (seat b.renaming.bank place)) b.renaming.buffers n
        ∙ ap (option_and_then (λ place. get B.contents (seat b.renaming.bank place))) held
        ∙ ap (λ i. get B.contents (seat i p)) (fit.sized.banks.each k b there).bank

  -- a buffer that is held has a place
  pub has_place : (n : OpName) (k : ℕ) → get (state_of u).buffers n ≡ Some k
      → (s : OpName) × (place_of u.banks.items n ≡ Some s)
  has_place n k held =
      let few = (held_banks u.machine fit.reached.image (state_of u) n k fit.reached.reached).1 held in
      let within : k < length u.banks.items = subst (λ m. k < m) (sym fit.sized.banks.count) few in
      let b = bank_exists u.banks.items k within in
      let p = buffer_here u.machine.sizes u.banks.items fit.placed.tables k b.0 b.1 n held in
      (seat k p.0, place_there k b.0 b.1 n p.0 p.1)

  -- no two names have one place
  pub one_name : (n m s : OpName) → place_of u.banks.items n ≡ Some s → place_of u.banks.items m ≡ Some s → n ≡ m
  one_name n m s at other =
      let x = held_at u.banks.items n s at in
      let y = held_at u.banks.items m s other in
      let same : seat y.number y.place ≡ seat x.number x.place = sym y.seats ∙ x.seats in
      let bank = same_Some y.bank x.bank
      (sym y.there ∙ ap (λ (s : OpName). slice_get u.banks.items s.task) same ∙ x.there) in
      ((fit.placed.own x.number x.bank x.there).apart.buffers) n m x.place x.held
      (ap (λ (b : Bank). get b.renaming.buffers m) (sym bank) ∙ y.held ∙ ap (λ (s : OpName). Some s.place) same)

  -- the contents under names are those under places
  pub contents_agree : (B : BuffersState) → Agree (place_of u.banks.items) (contents_of B u.banks.items) B.contents
  contents_agree B = record {
    one = one_name;
    same = λ n s at.
        let x = held_at u.banks.items n s at in
        contents_there x.number x.bank x.there n x.place x.held B ∙ ap (get B.contents) (sym x.seats);
  }

  -- a name with contents has a place
  placed_contents : (B : BuffersState) (n : OpName) (bytes : List ℕ) → get (contents_of B u.banks.items) n ≡ Some bytes
      → (s : OpName) × (place_of u.banks.items n ≡ Some s)
  placed_contents B n bytes e =
      let t = joined_somewhere name_order (map (contents_in B) u.banks.items) n bytes e in
      elim (bank_by (contents_in B) u.banks.items t.0) [
        | inl b ↦
            let q = from_tested (λ place. get B.contents (seat b.0.renaming.bank place)) (get b.0.renaming.buffers n)
            bytes
            (sym (get-collected name_order (λ name place. get B.contents (seat b.0.renaming.bank place))
            b.0.renaming.buffers n)
            ∙ ap (λ m. get m n) (sym b.2) ∙ t.1) in
            (seat t.0 q.0, place_there t.0 b.0 b.1 n q.0 q.1)
        | inr none ↦ absurd (none-some bytes (sym (get-empty name_cmp n) ∙ ap (λ m. get m n) (sym none) ∙ t.1))
      ]

  -- contents of held names that agree with other buffers are those of these buffers
  pub contents_back : (B : BuffersState) (contents : Named (List ℕ))
      → Agree (place_of u.banks.items) contents B.contents
      → ((n : OpName) (bytes : List ℕ) → get contents n ≡ Some bytes → (k : ℕ) × (get (state_of u).buffers n ≡ Some k))
      → contents_of B u.banks.items ≡ contents
  contents_back B contents agree held = same_by_get name_order _ _ (λ n. by n (place_of u.banks.items n) refl)
    where
      nothing : (n : OpName) (o : Option (List ℕ)) → o ≡ get contents n → place_of u.banks.items n ≡ None → None ≡ o
      nothing n None e none = refl
      nothing n (Some bytes) e none =
          let k = held n bytes (sym e) in
          let s = has_place n k.0 k.1 in
          absurd (none-some s.0 (sym none ∙ s.1))

      absent : (n : OpName) (o : Option (List ℕ)) → o ≡ get (contents_of B u.banks.items) n
          → place_of u.banks.items n ≡ None → o ≡ None
      absent n None e none = refl
      absent n (Some bytes) e none =
          let s = placed_contents B n bytes (sym e) in
          absurd (none-some s.0 (sym none ∙ s.1))

      by : (n : OpName) (o : Option OpName) → place_of u.banks.items n ≡ o
          → get (contents_of B u.banks.items) n ≡ get contents n
      by n None e = absent n (get (contents_of B u.banks.items) n) refl e ∙ nothing n (get contents n) refl e
      by n (Some s) e = (contents_agree B).same n s e ∙ sym (agree.same n s e)
