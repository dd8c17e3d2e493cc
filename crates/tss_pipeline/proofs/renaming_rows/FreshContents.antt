-- The contents of the banks' buffers, where one bank takes a buffer whose bytes are taken away.
use Rattle.std.proofs.Common.{◌≡◌, ◌≢◌, ℕ, zero, suc, Bool, true, false, arith, List, [], ◌∷◌, map, set, Option, Some, None, refl, sym, ap, ◌∙◌}
use Rattle.std.specs.Prelude.{slice_get}
use Rattle.std.specs.FinMap.{get, insert, remove}
use Rattle.std.proofs.lemmas.Option.{none-some, same_Some}
use Rattle.tss_base.specs.declared.machine.Machine.{Machine}
use Rattle.tss_base.specs.declared.operand.OpName.{OpName}
use Rattle.tss_maps.proofs.Keys.{name_order}
use Rattle.tss_maps.proofs.Changes.{at_inserted, at_removed, beside_removed}
use Rattle.tss_banks.specs.Joined.{joined}
use Rattle.tss_banks.specs.Collected.{collected}
use Rattle.tss_banks.proofs.CollectedLemmas.{collected-insert_left, collected_same}
use Rattle.tss_protocol.specs.Renaming.{buffers_after_decode}
use Rattle.tss_renaming.specs.Bank.{RenamingState}
use Rattle.tss_renaming.specs.Holding.{IsFree}
use Rattle.tss_buffers.specs.Contents.{BuffersState, seat}
use Rattle.tss_pipeline.specs.declared.bank.Bank.{Bank}
use Rattle.tss_pipeline.specs.State.{contents_in, contents_of}
use Rattle.tss_pipeline.specs.Fit.{AreBanks}
use Rattle.tss_pipeline.specs.Unsetting.{without_bytes}

-- ---- lists

later : (i n : ℕ) → suc i ≢ suc n → i ≢ n
later i n apart e = apart (ap suc e)

not_first : (n : ℕ) → zero ≢ suc n
not_first n e = omega (arith, e)

not_later : (n : ℕ) → suc n ≢ zero
not_later n e = omega (arith, e)

-- two functions of banks give the same list where they agree at each place
map_same : {X : Type 0} (f g : Bank → X) (bs : List Bank)
    → ((i : ℕ) (x : Bank) → slice_get bs i ≡ Some x → f x ≡ g x) → map f bs ≡ map g bs
map_same f g [] each = refl
map_same f g (x ∷ xs) each = λ j. each zero x refl j ∷ map_same f g xs (λ i y at. each (suc i) y at) j

-- and so they do beside a place where one bank is another
map_set_same : {X : Type 0} (f g : Bank → X) (bs : List Bank) (n : ℕ) (b new : Bank) → slice_get bs n ≡ Some b
    → f new ≡ g b → ((i : ℕ) (x : Bank) → i ≢ n → slice_get bs i ≡ Some x → f x ≡ g x)
    → map f (set bs n new) ≡ map g bs
map_set_same f g [] n b new there own others = absurd (none-some b there)
map_set_same f g (x ∷ xs) zero b new there own others =
    λ j. (own ∙ ap g (same_Some b x (sym there))) j ∷ map_same f g xs (λ i y at. others (suc i) y (not_later i) at) j
map_set_same f g (x ∷ xs) (suc n) b new there own others =
    λ j. others zero x (not_first n) refl j
    ∷ map_set_same f g xs n b new there own
    (λ i y apart at. others (suc i) y (λ e. apart (omega (arith, e))) at) j

-- ---- one bank takes a buffer

module _ (m : Machine) (buffers : BuffersState) (bs : List Bank) (banks : AreBanks m bs) (n : ℕ) (b : Bank)
    (there : slice_get bs n ≡ Some b) (r : RenamingState) (bank : r.bank ≡ b.renaming.bank) (o : OpName)
    (new : get b.renaming.buffers o ≡ None) where
  abbrev own : Bank
  own = record b { renaming = r }

  module _ (place : ℕ) (taken : r.buffers ≡ insert b.renaming.buffers o place)
      (free : (q : OpName) → get b.renaming.buffers q ≢ Some place) where
    abbrev less : BuffersState
    less = record buffers { contents = remove buffers.contents (seat n place) }

    number : b.renaming.bank ≡ n
    number = (banks.each n b there).bank

    -- at another place the bytes are the same
    bytes_beside : (i p : ℕ) → ((i ≡ n) → p ≢ place)
        → get less.contents (seat i p) ≡ get buffers.contents (seat i p)
    bytes_beside i p apart =
        beside_removed name_order buffers.contents (seat n place) (seat i p)
        (λ e. apart (ap (λ (q : OpName). q.task) e) (ap (λ (q : OpName). q.place) e))

    abbrev kept_by : BuffersState → ℕ → OpName → ℕ → Option (List ℕ)
    kept_by s i name p = get s.contents (seat i p)

    own_bytes : contents_in less own ≡ contents_in buffers b
    own_bytes =
        (λ i. collected (kept_by less (bank i)) (taken i))
        ∙ collected-insert_left name_order (kept_by less b.renaming.bank) b.renaming.buffers o place
        (ap (λ i. get less.contents (seat i place)) number ∙ at_removed name_order buffers.contents (seat n place)) new
        ∙ collected_same name_order (kept_by less b.renaming.bank) (kept_by buffers b.renaming.bank) b.renaming.buffers
        (λ k p at. bytes_beside b.renaming.bank p (λ same e. free k (at ∙ ap Some e)))

    other_bytes : (i : ℕ) (x : Bank) → i ≢ n → slice_get bs i ≡ Some x → contents_in less x ≡ contents_in buffers x
    other_bytes i x apart at =
        collected_same name_order (kept_by less x.renaming.bank) (kept_by buffers x.renaming.bank) x.renaming.buffers
        (λ k p held.
        bytes_beside x.renaming.bank p (λ same e. apart (sym (banks.each i x at).bank ∙ same)))

    -- the contents are as they were
    contents_taken : contents_of (without_bytes buffers n (Some place)) (set bs n own) ≡ contents_of buffers bs
    contents_taken =
        ap joined (map_set_same (contents_in less) (contents_in buffers) bs n b own there own_bytes other_bytes)

  contents_by : (t : Bool) (place : ℕ) → r.buffers ≡ buffers_after_decode b.renaming.buffers o place t
      → (t ≡ true → IsFree b.renaming.buffers m.sizes.buffers place)
      → contents_of (without_bytes buffers n (get (buffers_after_decode b.renaming.buffers o place t) o)) (set bs n own)
      ≡ contents_of buffers bs
  contents_by true place are free =
      ap (λ p. contents_of (without_bytes buffers n p) (set bs n own))
      (at_inserted name_order b.renaming.buffers o place)
      ∙ contents_taken place are (free refl).free
  contents_by false place are free =
      ap (λ p. contents_of (without_bytes buffers n p) (set bs n own)) new
      ∙ ap joined (map_set_same (contents_in buffers) (contents_in buffers) bs n b own there
      (λ i. collected (kept buffers (bank i)) (are i)) (λ i x apart at. refl))
    where
      kept : BuffersState → ℕ → OpName → ℕ → Option (List ℕ)
      kept s i name p = get s.contents (seat i p)

  -- the contents are as they were, whether it takes one or not
  pub contents_fresh : (t : Bool) (place : ℕ) → r.buffers ≡ buffers_after_decode b.renaming.buffers o place t
      → (t ≡ true → IsFree b.renaming.buffers m.sizes.buffers place)
      → contents_of (without_bytes buffers n (get r.buffers o)) (set bs n (record b { renaming = r }))
      ≡ contents_of buffers bs
  contents_fresh t place are free =
      ap (λ x. contents_of (without_bytes buffers n (get x o)) (set bs n own)) are ∙ contents_by t place are free
