-- The tables of all banks are empty exactly where each bank is.
use Rattle.std.proofs.Common.{◌≡◌, ◌≢◌, ℕ, zero, suc, ◌<◌, Bool, true, List, [], ◌∷◌, Option, Some, None, is_none, refl, sym, ap, ◌∙◌, inl, inr, arith}
use Rattle.std.specs.Prelude.{◌==◌, ◌&&◌, slice_get}
use Rattle.std.specs.List.{list_all}
use Rattle.std.specs.Ordering.{nat_cmp}
use Rattle.std.specs.declared.cmp.Ordering.{Ordering}
use Rattle.std.specs.FinMap.{FinMap, get, len, get-empty}
use Rattle.std.proofs.lemmas.Option.{none-some}
use Rattle.std.proofs.lemmas.Bool.Decides.{nat_tests}
use Rattle.tss_base.specs.Names.{Numbered}
use Rattle.tss_maps.proofs.Keys.{IsKeyOrder, nat_order, name_order, decide_key}
use Rattle.tss_maps.proofs.Changes.{absent_removed, at_inserted}
use Rattle.tss_maps.proofs.Entries.{some_entry, absent_empty, len_there}
use Rattle.tss_maps.proofs.MappedLemmas.{len-mapped}
use Rattle.tss_protocol.specs.State.{Entry, Version, CopyState}
use Rattle.tss_banks.specs.Joined.{joined}
use Rattle.tss_banks.specs.Collected.{with_at}
use Rattle.tss_banks.specs.Tables.{entries_of, places_of, buffers_of}
use Rattle.tss_banks.proofs.JoinedLemmas.{option_first, get-joined_nil, get-joined_cons, absent_in_banks, absent_in_joined}
use Rattle.tss_banks.proofs.CollectedLemmas.{beside_with}
use Rattle.tss_banks.proofs.BankCounts.{same_number, other_number}
use Rattle.tss_renaming.specs.Bank.{RenamingState, tables_of}
use Rattle.tss_versions.specs.Known.{version_of, versions_of}
use Rattle.tss_buffers.specs.declared.copying.Copying.{Copying}
use Rattle.tss_pipeline.specs.declared.bank.Bank.{Bank}
use Rattle.tss_pipeline.specs.declared.bank.Job.{Job}
use Rattle.tss_pipeline.specs.State.{bank_tables, bank_versions, job_copy, bank_copy, copies_from}
use Rattle.tss_pipeline.specs.Emptiness.{is_empty}
use Rattle.tss_pipeline.specs.Fit.{IsEngaged}

-- ---- tests

suc_zero : (n : ℕ) → suc n ≢ zero
suc_zero n e = omega (arith, e)

-- a number is 0 exactly where two others are
zero_both : (a b c : ℕ) → (a ≡ 0 → b ≡ 0) → (a ≡ 0 → c ≡ 0) → (b ≡ 0 → c ≡ 0 → a ≡ 0)
    → (a == 0) ≡ ((b == 0) && (c == 0))
zero_both zero b c first second all =
    same_number 0 0 refl ∙ sym (λ i. same_number b 0 (first refl) i && same_number c 0 (second refl) i)
zero_both (suc a) b c first second all =
    other_number (suc a) 0 (suc_zero a) ∙ elim (decide_key nat_order b 0) [
      | inl z ↦ elim (decide_key nat_order c 0) [
        | inl w ↦ absurd (suc_zero a (all z w))
        | inr some ↦ sym (λ i. same_number b 0 z i && other_number c 0 some i)
      ]
      | inr some ↦ sym (λ i. other_number b 0 some i && (c == 0))
    ]

-- five tests of one and of the others, test by test
each_test : (a b c d e p q r s t : Bool)
    → ((a && b && c && d && e) && (p && q && r && s && t))
    ≡ ((a && p) && (b && q) && (c && r) && (d && s) && (e && t))
each_test a b c d e p q r s t = grind (arith, nat_tests)

-- ---- maps

module _ {K : Type 0} {R : K → K → Ordering} (order : IsKeyOrder R) (X : Type 0) where
  -- a map with nothing at any key is empty
  pub len_nothing : (m : FinMap R X) → ((k : K) → get m k ≡ None) → len m ≡ 0
  len_nothing m none = elim (some_entry order m) [
    | inl z ↦ z
    | inr t ↦ absurd (none-some t.1 (sym (none t.0) ∙ t.2))
  ]

  len-joined_nil : (len (joined {X = X} {R = R} []) == 0) ≡ true
  len-joined_nil = same_number (len (joined {X = X} {R = R} [])) 0 (len_nothing (joined []) (λ k. get-joined_nil R k))

  len-joined_cons : (m : FinMap R X) (ms : List (FinMap R X))
      → (len (joined (m ∷ ms)) == 0) ≡ ((len m == 0) && (len (joined ms) == 0))
  len-joined_cons m ms =
      zero_both (len (joined (m ∷ ms))) (len m) (len (joined ms))
      (λ z. len_nothing m (λ k. absent_in_banks order (m ∷ ms) k (absent_empty (joined (m ∷ ms)) k z) zero))
      (λ z. len_nothing (joined ms) (λ k.
      absent_in_joined order ms k (λ i. absent_in_banks order (m ∷ ms) k (absent_empty (joined (m ∷ ms)) k z) (suc i))))
      (λ z w. len_nothing (joined (m ∷ ms)) (λ k.
      get-joined_cons order m ms k ∙ (λ i. option_first (absent_empty m k z i) (absent_empty (joined ms) k w i))))

-- ---- copies

step_below : (i k : ℕ) → i < k → i < suc k
step_below i k h = omega (arith, h)

apart_below : (i k : ℕ) → i < k → i ≢ k
apart_below i k h e = omega (arith, h, e)

-- before the first bank's number there is no copy
none_before : (k : ℕ) (bs : List Bank) (i : ℕ) → i < k → get (copies_from k bs) i ≡ None
none_before k [] i h = get-empty nat_cmp i
none_before k (b ∷ bs) i h =
    beside_with nat_order (copies_from (suc k) bs) k (bank_copy b) i (apart_below i k h)
    ∙ none_before (suc k) bs i (step_below i k h)

own_below : (k : ℕ) → k < suc k
own_below k = omega arith

some_len : (n : ℕ) → 0 < n → n ≢ 0
some_len n some e = omega (arith, some, e)

-- with or without one more
len-with_at : {X : Type 0} (m : Numbered X) (k : ℕ) (o : Option X) → get m k ≡ None
    → (len (with_at m k o) == 0) ≡ (is_none o && (len m == 0))
len-with_at m k None e = ap (λ m. len m == 0) (absent_removed nat_order m k e)
len-with_at m k (Some y) e =
    other_number (len (with_at m k (Some y))) 0
    (some_len (len (with_at m k (Some y))) (len_there (with_at m k (Some y)) k y (at_inserted nat_order m k y)))

-- an engine copies where it has a job
no_job : (x : RenamingState) (c : Option Copying) (j : Option Job) → IsEngaged x c j
    → is_none (job_copy c j) ≡ is_none j
no_job x None None h = refl
no_job x None (Some j) h = absurd h
no_job x (Some c) None h = absurd h
no_job x (Some c) (Some j) h = refl

-- ---- banks

-- nothing is in the joined tables
abbrev pub nothing_in : ℕ → List Bank → Bool
nothing_in n bs =
    (len (joined (entries_of (bank_tables bs))) == 0)
    && (len (joined (places_of (bank_tables bs))) == 0)
    && (len (joined (buffers_of (bank_tables bs))) == 0)
    && (len (joined (bank_versions bs)) == 0)
    && (len (copies_from n bs) == 0)

pub empty_banks : (n : ℕ) (bs : List Bank)
    → ((i : ℕ) (b : Bank) → slice_get bs i ≡ Some b → IsEngaged b.renaming b.engine b.job)
    → list_all is_empty bs ≡ nothing_in n bs
empty_banks n [] engaged =
    sym (λ i. len-joined_nil nat_order Entry i && len-joined_nil name_order ℕ i && len-joined_nil name_order ℕ i
    && len-joined_nil name_order Version i && same_number (len (copies_from n [])) 0
    (len_nothing nat_order CopyState (copies_from n []) (λ k. get-empty nat_cmp k)) i)
empty_banks n (b ∷ bs) engaged =
    let entries = len-joined_cons nat_order Entry b.renaming.entries (entries_of (bank_tables bs)) in
    let places = len-joined_cons name_order ℕ (tables_of b.renaming).places (places_of (bank_tables bs))
    ∙ ap (λ n. (n == 0) && (len (joined (places_of (bank_tables bs))) == 0))
    (len-mapped (λ p. b.renaming.bank) b.renaming.places) in
    let buffers = len-joined_cons name_order ℕ (tables_of b.renaming).buffers (buffers_of (bank_tables bs))
    ∙ ap (λ n. (n == 0) && (len (joined (buffers_of (bank_tables bs))) == 0))
    (len-mapped (λ p. b.renaming.bank) b.renaming.buffers) in
    let versions = len-joined_cons name_order Version (versions_of b.versions.versions) (bank_versions bs)
    ∙ ap (λ n. (n == 0) && (len (joined (bank_versions bs)) == 0)) (len-mapped version_of b.versions.versions) in
    let copies = len-with_at (copies_from (suc n) bs) n (bank_copy b) (none_before (suc n) bs n (own_below n))
    ∙ ap (λ t. t && (len (copies_from (suc n) bs) == 0)) (no_job b.renaming b.engine b.job (engaged zero b refl)) in
    ap (λ t. is_empty b && t) (empty_banks (suc n) bs (λ i x at. engaged (suc i) x at))
    ∙ each_test (len b.renaming.entries == 0) (len b.renaming.places == 0) (len b.renaming.buffers == 0)
    (len b.versions.versions == 0) (is_none b.job) (len (joined (entries_of (bank_tables bs))) == 0)
    (len (joined (places_of (bank_tables bs))) == 0) (len (joined (buffers_of (bank_tables bs))) == 0)
    (len (joined (bank_versions bs)) == 0) (len (copies_from (suc n) bs) == 0)
    ∙ sym (λ i. entries i && places i && buffers i && versions i && copies i)
