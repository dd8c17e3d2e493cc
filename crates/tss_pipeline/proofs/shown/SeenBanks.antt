-- What is shown of a bank, by what it has.
use Rattle.std.proofs.Common.{◌≡◌, ◌≢◌, ℕ, zero, suc, ◌+◌, List, [], ◌∷◌, Option, Some, None, option_map, is_some, refl, sym, ap, ◌∙◌, arith}
use Rattle.std.specs.Prelude.{slice_get, option_and_then}
use Rattle.std.specs.Ordering.{nat_cmp}
use Rattle.std.specs.FinMap.{get, empty, len, get-empty, len-empty}
use Rattle.std.proofs.lemmas.Option.{none-some, same_Some, slice_get_within}
use Rattle.tss_base.specs.declared.operand.OpName.{OpName}
use Rattle.tss_base.specs.declared.range.Range.{Range}
use Rattle.tss_base.specs.declared.machine.Sizes.{Sizes}
use Rattle.tss_base.specs.Names.{Named, name_cmp}
use Rattle.tss_maps.specs.Ordered.{key_at, least_above}
use Rattle.tss_maps.proofs.Keys.{nat_order, name_order}
use Rattle.tss_maps.proofs.OrderedLemmas.{key_there}
use Rattle.tss_maps.proofs.MappedLemmas.{get-mapped, len-mapped}
use Rattle.tss_banks.proofs.CollectedLemmas.{beside_with}
use Rattle.tss_protocol.specs.State.{Entry, Version, CopyState}
use Rattle.tss_renaming.specs.Bank.{RenamingState, buffer_under}
use Rattle.tss_versions.specs.declared.kept.Kept.{Kept}
use Rattle.tss_versions.specs.declared.version_view.VersionView.{VersionView}
use Rattle.tss_versions.specs.Known.{version_of, versions_of, view_of, view_in}
use Rattle.tss_buffers.specs.declared.copying.Copying.{Copying}
use Rattle.tss_buffers.specs.Contents.{HasBuffer, seat}
use Rattle.tss_pipeline.specs.declared.bank.Bank.{Bank}
use Rattle.tss_pipeline.specs.declared.bank.Job.{Job}
use Rattle.tss_pipeline.specs.declared.units.Units.{Units}
use Rattle.tss_pipeline.specs.State.{seen_of, state_of, job_copy, bank_copy, copies_from}
use Rattle.tss_pipeline.specs.Seen.{PipelineState}
use Rattle.tss_pipeline.specs.BankParts.{job_told, copy_told, value_at, contents_under, entries_at, names_at, versions_at, version_shown}
use Rattle.tss_pipeline.specs.Fit.{IsFit, IsEngaged}
use Rattle.tss_pipeline.proofs.places.BankChanges.{get-copies_from}
use Rattle.tss_pipeline.proofs.worker_rows.BufferSeats.{contents_there}
use Rattle.tss_pipeline.proofs.shown.ReaderLemmas.{key_at-mapped, least_above-mapped}
use Rattle.tss_pipeline.proofs.shown.BankPartLemmas.{entries_there, places_there, buffers_there, versions_there, no_entries, no_places, no_buffers, no_versions, no_key, no_least}

-- ---- names and versions

module _ (m : Named ℕ) (i : ℕ) where
  name_by : (o : Option OpName) → key_at m i ≡ o
      → option_map (λ (b : OpName × ℕ). b.0) (option_and_then (buffer_under m) o) ≡ o
  name_by None e = refl
  name_by (Some k) e =
      ap (λ o. option_map (λ (b : OpName × ℕ). b.0) (option_map (λ p. (k, p)) o)) (key_there name_order m i k e).1

  -- each name holds its buffer
  pub name_under : option_map (λ (b : OpName × ℕ). b.0) (option_and_then (buffer_under m) (key_at m i)) ≡ key_at m i
  name_under = name_by (key_at m i) refl

shown_by : (v : OpName) (o : Option Kept)
    → option_map version_shown (option_map (view_of v) o) ≡ option_map version_of o
shown_by v None = refl
shown_by v (Some x) = refl

some_mapped : {X Y : Type 0} (f : X → Y) (o : Option X) → is_some o ≡ is_some (option_map f o)
some_mapped f None = refl
some_mapped f (Some x) = refl

module _ (vs : Named Kept) where
  -- a version is shown as the definitions have it
  pub version_told : (v : OpName) → option_map version_shown (view_in vs v) ≡ get (versions_of vs) v
  version_told v = shown_by v (get vs v) ∙ sym (get-mapped version_of vs v)

  name_of_shown : (v : OpName) (o : Option Kept)
      → option_map (λ (x : VersionView). x.name) (option_map (view_of v) o)
      ≡ option_map (λ (x : Version). v) (option_map version_of o)
  name_of_shown v None = refl
  name_of_shown v (Some x) = refl

  -- under its name
  pub version_named : (v : OpName) → option_map (λ (x : VersionView). x.name) (view_in vs v)
      ≡ option_map (λ (x : Version). v) (get (versions_of vs) v)
  version_named v =
      name_of_shown v (get vs v) ∙ ap (option_map (λ (x : Version). v)) (sym (get-mapped version_of vs v))

  pub version_there : (v : OpName) → is_some (get vs v) ≡ is_some (get (versions_of vs) v)
  version_there v = some_mapped version_of (get vs v) ∙ ap is_some (sym (get-mapped version_of vs v))

  told_by : (o : Option OpName) → option_map version_shown (option_and_then (view_in vs) o)
      ≡ option_and_then (get (versions_of vs)) o
  told_by None = refl
  told_by (Some v) = version_told v

  pub version_told_at : (i : ℕ)
      → option_map version_shown (option_and_then (view_in vs) (key_at vs i)) ≡ value_at (versions_of vs) i
  version_told_at i =
      told_by (key_at vs i) ∙ ap (option_and_then (get (versions_of vs))) (sym (key_at-mapped version_of vs i))

  named_by : (i : ℕ) (o : Option OpName) → key_at vs i ≡ o
      → option_map (λ (x : VersionView). x.name) (option_and_then (view_in vs) o) ≡ o
  named_by i None e = refl
  named_by i (Some v) e =
      ap (λ o. option_map (λ (x : VersionView). x.name) (option_map (view_of v) o)) (key_there name_order vs i v e).1

  pub version_named_at : (i : ℕ)
      → option_map (λ (x : VersionView). x.name) (option_and_then (view_in vs) (key_at vs i))
      ≡ key_at (versions_of vs) i
  version_named_at i = named_by i (key_at vs i) refl ∙ sym (key_at-mapped version_of vs i)

-- ---- copies

moved_by : (x : RenamingState) (c : Option Copying) (j : Option Job) → IsEngaged x c j
    → option_map (λ (c : Copying). c.moved) c ≡ option_map (λ (c : CopyState). c.moved) (job_copy c j)
moved_by x None None h = refl
moved_by x None (Some j) h = absurd h
moved_by x (Some c) None h = absurd h
moved_by x (Some c) (Some j) h = refl

copied_by : (x : RenamingState) (c : Option Copying) (j : Option Job) → IsEngaged x c j
    → option_map job_told j ≡ option_map copy_told (job_copy c j)
copied_by x None None h = refl
copied_by x None (Some j) h = absurd h
copied_by x (Some c) None h = absurd h
copied_by x (Some c) (Some j) h = ap (λ (r : Range). Some (j.version, r)) h.object

pub copied_from : (x : RenamingState) (c : Option Copying) (j : Option Job) → IsEngaged x c j
    → option_map (λ (j : Job). j.buffer) j ≡ option_map (λ (c : CopyState). c.buffer) (job_copy c j)
copied_from x None None h = refl
copied_from x None (Some j) h = absurd h
copied_from x (Some c) None h = absurd h
copied_from x (Some c) (Some j) h = refl

-- the buffer of a copy is held
pub buffer_of_job : (x : RenamingState) (c : Option Copying) (j : Option Job) (i : Job) → j ≡ Some i → IsEngaged x c j
    → get x.buffers i.buffer ≡ None → ⊥
buffer_of_job x c None i is h none = none-some i is
buffer_of_job x None (Some j) i is h none = h
buffer_of_job x (Some c) (Some j) i is h none =
    none-some c.buffer.place
    (sym none ∙ ap (λ (i : Job). get x.buffers i.buffer) (sym (same_Some j i is)) ∙ h.buffer.place)

later : (k n : ℕ) → k + suc n ≡ suc k + n
later k n = omega arith

apart_later : (k n : ℕ) → suc k + n ≢ k
apart_later k n e = omega (arith, e)

-- a bank that isn't there copies nothing
no_copy : (k : ℕ) (bs : List Bank) (n : ℕ) → slice_get bs n ≡ None → get (copies_from k bs) (k + n) ≡ None
no_copy k [] n e = get-empty nat_cmp (k + n)
no_copy k (x ∷ xs) zero e = absurd (none-some x (sym e))
no_copy k (x ∷ xs) (suc n) e =
    ap (get (copies_from k (x ∷ xs))) (later k n)
    ∙ beside_with nat_order (copies_from (suc k) xs) k (bank_copy x) (suc k + n) (apart_later k n)
    ∙ no_copy (suc k) xs n e

from_first : (n : ℕ) → n ≡ 0 + n
from_first n = omega arith

-- ---- what is seen

module _ (u : Units) (fit : IsFit u) (p : PipelineState) (is : seen_of u ≡ p) (bs : List Bank)
    (same : bs ≡ u.banks.items) (n : ℕ) where
  copy_seen : get p.state.copies n ≡ get (copies_from 0 u.banks.items) (0 + n)
  copy_seen =
      ap (λ (p : PipelineState). get p.state.copies n) (sym is)
      ∙ ap (get (copies_from 0 u.banks.items)) (from_first n)

  -- of a bank that is there
  module _ (b : Bank) (read : Some b ≡ slice_get bs n) where
    here : slice_get u.banks.items n ≡ Some b
    here = ap (λ bs. slice_get bs n) (sym same) ∙ sym read

    pub seen_entries : b.renaming.entries ≡ entries_at p.machine.sizes n p.state.entries
    seen_entries =
        sym (entries_there u.machine u.banks.items fit.placed.tables fit.placed.versions n b here)
        ∙ ap (λ (p : PipelineState). entries_at p.machine.sizes n p.state.entries) is

    pub seen_entry_count : len b.renaming.entries ≡ len (entries_at p.machine.sizes n p.state.entries)
    seen_entry_count = ap len seen_entries

    pub seen_place_count : len b.renaming.places ≡ len (names_at n p.state.places)
    seen_place_count =
        sym (len-mapped (λ p. b.renaming.bank) b.renaming.places)
        ∙ ap len
        (sym (places_there u.machine u.banks.items fit.placed.tables fit.placed.versions n b here)
        ∙ ap (λ (p : PipelineState). names_at n p.state.places) is)

    pub seen_buffer_count : len b.renaming.buffers ≡ len (names_at n p.state.buffers)
    seen_buffer_count =
        sym (len-mapped (λ p. b.renaming.bank) b.renaming.buffers)
        ∙ ap len
        (sym (buffers_there u.machine u.banks.items fit.placed.tables fit.placed.versions n b here)
        ∙ ap (λ (p : PipelineState). names_at n p.state.buffers) is)

    pub seen_places : (i : ℕ) → key_at b.renaming.places i ≡ key_at (names_at n p.state.places) i
    seen_places i =
        sym (key_at-mapped (λ p. b.renaming.bank) b.renaming.places i)
        ∙ ap (λ m. key_at m i)
        (sym (places_there u.machine u.banks.items fit.placed.tables fit.placed.versions n b here)
        ∙ ap (λ (p : PipelineState). names_at n p.state.places) is)

    pub seen_buffers : (i : ℕ) → key_at b.renaming.buffers i ≡ key_at (names_at n p.state.buffers) i
    seen_buffers i =
        sym (key_at-mapped (λ p. b.renaming.bank) b.renaming.buffers i)
        ∙ ap (λ m. key_at m i)
        (sym (buffers_there u.machine u.banks.items fit.placed.tables fit.placed.versions n b here)
        ∙ ap (λ (p : PipelineState). names_at n p.state.buffers) is)

    pub seen_versions : versions_of b.versions.versions ≡ versions_at p.machine.sizes n p.state.versions
    seen_versions =
        sym (versions_there u.machine u.banks.items fit.placed.tables fit.placed.versions n b here)
        ∙ ap (λ (p : PipelineState). versions_at p.machine.sizes n p.state.versions) is

    pub seen_version_count : len b.versions.versions ≡ len (versions_at p.machine.sizes n p.state.versions)
    seen_version_count = sym (len-mapped version_of b.versions.versions) ∙ ap len seen_versions

    pub seen_version_after : (v : OpName) → least_above name_cmp b.versions.versions v
        ≡ least_above name_cmp (versions_at p.machine.sizes n p.state.versions) v
    seen_version_after v =
        sym (least_above-mapped version_of b.versions.versions v)
        ∙ ap (λ m. least_above name_cmp m v) seen_versions

    held_under : (name : OpName) (o : Option ℕ) → get b.renaming.buffers name ≡ o
        → get (names_at n (state_of u).buffers) name ≡ option_map (λ p. b.renaming.bank) o
    held_under name o held =
        ap (λ m. get m name) (buffers_there u.machine u.banks.items fit.placed.tables fit.placed.versions n b here)
        ∙ get-mapped (λ p. b.renaming.bank) b.renaming.buffers name
        ∙ ap (option_map (λ p. b.renaming.bank)) held

    -- the contents of a buffer that is held
    pub seen_contents : (name : OpName) (place : ℕ) → get b.renaming.buffers name ≡ Some place
        → get u.buffers.contents (seat n place) ≡ contents_under (names_at n p.state.buffers) p.state.contents name
    seen_contents name place held =
        sym (contents_there u fit n b here name place held u.buffers)
        ∙ sym (ap (option_and_then (λ bank. get (state_of u).contents name)) (held_under name (Some place) held))
        ∙ ap (λ (p : PipelineState). contents_under (names_at n p.state.buffers) p.state.contents name) is

    -- and none of one that isn't
    pub seen_no_contents : (name : OpName) → get b.renaming.buffers name ≡ None
        → None ≡ contents_under (names_at n p.state.buffers) p.state.contents name
    seen_no_contents name held =
        sym (ap (option_and_then (λ bank. get (state_of u).contents name)) (held_under name None held))
        ∙ ap (λ (p : PipelineState). contents_under (names_at n p.state.buffers) p.state.contents name) is

    -- there is such a buffer
    pub has_buffer_here : (name : OpName) (place : ℕ) → get b.renaming.buffers name ≡ Some place
        → HasBuffer u.buffers n place
    has_buffer_here name place held =
        let within = slice_get_within u.banks.items n b here in
        let count = fit.sized.banks.count in
        let banks = fit.sized.buffer_banks in
        let low = (fit.placed.own n b here).apart.buffer_within name place held in
        let sizes = ap (λ (s : Sizes). s.buffers) (fit.sized.banks.each n b here).sizes in
        let each = fit.sized.buffers in
        (omega (arith, within, count, banks), omega (arith, low, sizes, each))

    pub seen_copy : bank_copy b ≡ get p.state.copies n
    seen_copy = sym (copy_seen ∙ get-copies_from 0 u.banks.items n b here)

    pub engaged_here : IsEngaged b.renaming b.engine b.job
    engaged_here = (fit.placed.own n b here).engine

    pub seen_moved : option_map (λ (c : Copying). c.moved) b.engine
        ≡ option_map (λ (c : CopyState). c.moved) (get p.state.copies n)
    seen_moved =
        moved_by b.renaming b.engine b.job (fit.placed.own n b here).engine
        ∙ ap (option_map (λ (c : CopyState). c.moved)) seen_copy

    pub seen_copied : option_map job_told b.job
        ≡ option_map copy_told (get p.state.copies n)
    seen_copied =
        copied_by b.renaming b.engine b.job (fit.placed.own n b here).engine
        ∙ ap (option_map copy_told) seen_copy

    pub seen_copied_from : option_map (λ (j : Job). j.buffer) b.job
        ≡ option_map (λ (c : CopyState). c.buffer) (get p.state.copies n)
    seen_copied_from =
        copied_from b.renaming b.engine b.job (fit.placed.own n b here).engine
        ∙ ap (option_map (λ (c : CopyState). c.buffer)) seen_copy

  -- of one that isn't
  module _ (read : None ≡ slice_get bs n) where
    nowhere : slice_get u.banks.items n ≡ None
    nowhere = ap (λ bs. slice_get bs n) (sym same) ∙ sym read

    no_entries_seen : entries_at p.machine.sizes n p.state.entries ≡ empty
    no_entries_seen =
        ap (λ (p : PipelineState). entries_at p.machine.sizes n p.state.entries) (sym is)
        ∙ no_entries u.machine u.banks.items fit.placed.tables fit.placed.versions n nowhere

    no_versions_seen : versions_at p.machine.sizes n p.state.versions ≡ empty
    no_versions_seen =
        ap (λ (p : PipelineState). versions_at p.machine.sizes n p.state.versions) (sym is)
        ∙ no_versions u.machine u.banks.items fit.placed.tables fit.placed.versions n nowhere

    no_places_seen : names_at n p.state.places ≡ empty
    no_places_seen =
        ap (λ (p : PipelineState). names_at n p.state.places) (sym is)
        ∙ no_places u.machine u.banks.items fit.placed.tables fit.placed.versions n nowhere

    no_buffers_seen : names_at n p.state.buffers ≡ empty
    no_buffers_seen =
        ap (λ (p : PipelineState). names_at n p.state.buffers) (sym is)
        ∙ no_buffers u.machine u.banks.items fit.placed.tables fit.placed.versions n nowhere

    pub seen_zero_entries : 0 ≡ len (entries_at p.machine.sizes n p.state.entries)
    seen_zero_entries = sym (ap len no_entries_seen ∙ len-empty nat_cmp Entry)

    pub seen_zero_places : 0 ≡ len (names_at n p.state.places)
    seen_zero_places = sym (ap len no_places_seen ∙ len-empty name_cmp ℕ)

    pub seen_zero_buffers : 0 ≡ len (names_at n p.state.buffers)
    seen_zero_buffers = sym (ap len no_buffers_seen ∙ len-empty name_cmp ℕ)

    pub seen_zero_versions : 0 ≡ len (versions_at p.machine.sizes n p.state.versions)
    seen_zero_versions = sym (ap len no_versions_seen ∙ len-empty name_cmp Version)

    pub seen_no_entry : (base : ℕ) → None ≡ get (entries_at p.machine.sizes n p.state.entries) base
    seen_no_entry base = sym (ap (λ m. get m base) no_entries_seen ∙ get-empty nat_cmp base)

    pub seen_no_entry_at : (i : ℕ) → None ≡ value_at (entries_at p.machine.sizes n p.state.entries) i
    seen_no_entry_at i =
        sym (ap (λ m. value_at m i) no_entries_seen ∙ ap (option_and_then (get empty)) (no_key nat_order Entry i))

    pub seen_no_place : (i : ℕ) → None ≡ key_at (names_at n p.state.places) i
    seen_no_place i =
        sym (ap (λ (p : PipelineState). key_at (names_at n p.state.places) i) (sym is)
        ∙ ap (λ m. key_at m i) (no_places u.machine u.banks.items fit.placed.tables fit.placed.versions n nowhere)
        ∙ no_key name_order ℕ i)

    pub seen_no_buffer : (i : ℕ) → None ≡ key_at (names_at n p.state.buffers) i
    seen_no_buffer i =
        sym (ap (λ (p : PipelineState). key_at (names_at n p.state.buffers) i) (sym is)
        ∙ ap (λ m. key_at m i) (no_buffers u.machine u.banks.items fit.placed.tables fit.placed.versions n nowhere)
        ∙ no_key name_order ℕ i)

    pub seen_nothing_held : (name : OpName) → None ≡ contents_under (names_at n p.state.buffers) p.state.contents name
    seen_nothing_held name =
        sym (ap (λ (p : PipelineState). contents_under (names_at n p.state.buffers) p.state.contents name) (sym is)
        ∙ ap (λ m. contents_under m (state_of u).contents name)
        (no_buffers u.machine u.banks.items fit.placed.tables fit.placed.versions n nowhere)
        ∙ ap (option_and_then (λ bank. get (state_of u).contents name)) (get-empty name_cmp name))

    pub seen_no_version : (v : OpName) → None ≡ get (versions_at p.machine.sizes n p.state.versions) v
    seen_no_version v = sym (ap (λ m. get m v) no_versions_seen ∙ get-empty name_cmp v)

    pub seen_no_version_at : (i : ℕ) → None ≡ value_at (versions_at p.machine.sizes n p.state.versions) i
    seen_no_version_at i =
        sym (ap (λ m. value_at m i) no_versions_seen ∙ ap (option_and_then (get empty)) (no_key name_order Version i))

    pub seen_no_name_at : (i : ℕ) → None ≡ key_at (versions_at p.machine.sizes n p.state.versions) i
    seen_no_name_at i = sym (ap (λ m. key_at m i) no_versions_seen ∙ no_key name_order Version i)

    pub seen_no_copy : None ≡ get p.state.copies n
    seen_no_copy = sym (copy_seen ∙ no_copy 0 u.banks.items n nowhere)

    pub seen_no_version_after : (v : OpName)
        → None ≡ least_above name_cmp (versions_at p.machine.sizes n p.state.versions) v
    seen_no_version_after v = sym (ap (λ m. least_above name_cmp m v) no_versions_seen ∙ no_least name_order Version v)
