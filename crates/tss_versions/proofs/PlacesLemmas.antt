-- Versions at places, with the places under the names: what stands under a name, and the changes.
use Rattle.std.proofs.Common.{◌≡◌, ◌≢◌, ◌⊎◌, ℕ, ◌<◌, Option, Some, None, refl, sym, ap, subst, ◌∙◌, inl, inr, arith, option_map, Bor}
use Rattle.std.specs.Prelude.{is_some, slice_get}
use Rattle.std.specs.Option.{option_copied}
use Rattle.std.specs.declared.cmp.Ordering.{Ordering}
use Rattle.std.specs.List.{find}
use Rattle.std.specs.Ordering.{nat_cmp, is_lt}
use Rattle.std.specs.FinMap.{FinMap, get, insert, remove, len, empty, get-empty}
use Rattle.std.proofs.lemmas.Option.{none-some, same_Some}
use Rattle.tss_base.specs.declared.operand.OpName.{OpName}
use Rattle.tss_base.specs.Names.{name_cmp, Named, Numbered}
use Rattle.tss_maps.proofs.Keys.{nat_order, name_order, decide_key}
use Rattle.tss_maps.proofs.Changes.{same_by_get, at_inserted, beside_inserted, at_removed, beside_removed, from_inserted, from_removed, decide_get}
use Rattle.tss_maps.specs.Ordered.{key_at, least_above}
use Rattle.tss_maps.proofs.Entries.{len_added, len_within_places, some_entry, absent_empty}
use Rattle.tss_maps.proofs.MappedLemmas.{get-mapped, keys-mapped, mapped-empty}
use Rattle.tss_tables.specs.Table.{TableState}
use Rattle.tss_versions.specs.declared.kept.Kept.{Kept}
use Rattle.tss_versions.specs.declared.kept.Seat.{Seat}
use Rattle.tss_versions.specs.declared.kept.Store.{Store}
use Rattle.tss_versions.specs.declared.status.Site.{Site}
use Rattle.tss_versions.specs.declared.status.Status.{Status}
use Rattle.tss_versions.specs.Known.{IsAt, IsRight, HaveSites, site_of}
use Rattle.tss_versions.specs.Places.{kept_in, versions_at, IsSeated, AreVersions}
use Rattle.tss_versions.specs.Conditions.{IsFree, IsUnnamed}

-- ---- what stands under a name

-- by its place
pub get-versions_at : (seats : Numbered Seat) (index : Named ℕ) (v : OpName) →
    get (versions_at seats index) v ≡ option_map (λ p. kept_in (get seats p)) (get index v)
get-versions_at seats index v = get-mapped (λ p. kept_in (get seats p)) index v

-- whether one stands there
pub has-versions_at : (seats : Numbered Seat) (index : Named ℕ) (v : OpName) →
    is_some (get (versions_at seats index) v) ≡ is_some (get index v)
has-versions_at seats index v = ap is_some (get-versions_at seats index v) ∙ by (get index v)
  where
    by : (o : Option ℕ) → is_some (option_map (λ p. kept_in (get seats p)) o) ≡ is_some o
    by None = refl
    by (Some p) = refl

-- the names in order
pub key_at-versions_at : (seats : Numbered Seat) (index : Named ℕ) (i : ℕ) → key_at (versions_at seats index) i ≡ key_at index i
unfolding key_at
key_at-versions_at seats index i =
    ap (λ ks. slice_get ks i) (keys-mapped (λ p. kept_in (get seats p)) index)

-- the least name above one
pub least_above-versions_at : (seats : Numbered Seat) (index : Named ℕ) (v : OpName)
    → least_above name_cmp (versions_at seats index) v ≡ least_above name_cmp index v
unfolding least_above
least_above-versions_at seats index v =
    ap (find (λ q. is_lt (name_cmp v q))) (keys-mapped (λ p. kept_in (get seats p)) index)

-- no name has a version where none has a place
pub versions_none : (seats : Numbered Seat) → versions_at seats empty ≡ empty
versions_none seats = mapped-empty name_order (λ p. kept_in (get seats p))

-- a table with other entries
abbrev pub with_places : {K X : Type 0} {R : K → K → Ordering} → TableState R X → FinMap R X → TableState R X
with_places t m = record t { entries = m }

-- a version with another store
abbrev pub with_store : Kept → Option Store → Kept
with_store x store = record x { store = store }

-- a name without a place has no version
pub found_none : (seats : TableState nat_cmp Seat) (index : TableState name_cmp ℕ) (v : OpName) (r : Option (Bor ℕ)) →
    option_map (λ x. x.now) r ≡ get index.entries v → option_copied r ≡ None →
    get (versions_at seats.entries index.entries) v ≡ None
found_none seats index v None e copied =
    get-versions_at seats.entries index.entries v ∙ ap (option_map (λ p. kept_in (get seats.entries p))) (sym e)
found_none seats index v (Some x) e copied = absurd (none-some x.now (sym copied))

-- a version stands at the place of its token, under its name
pub record Stands (seats : Numbered Seat) (index : Named ℕ) (v : OpName) (x : Kept) : Type 0 where
  pub indexed : get index v ≡ Some x.place.place
  pub seated : get seats x.place.place ≡ Some (record { name = v; kept = x })

module _ (seats : TableState nat_cmp Seat) (index : TableState name_cmp ℕ) (are : AreVersions seats index) where
  abbrev vs : Named Kept
  vs = versions_at seats.entries index.entries

  -- a name with a place has the version there
  pub version_placed : (v : OpName) (p : ℕ) (s : Seat) → get index.entries v ≡ Some p → get seats.entries p ≡ Some s →
      get vs v ≡ Some s.kept
  version_placed v p s e there =
      get-versions_at seats.entries index.entries v
      ∙ ap (option_map (λ p. kept_in (get seats.entries p))) e
      ∙ ap (λ o. Some (kept_in o)) there

  placed_by : (v : OpName) (x : Kept) → get vs v ≡ Some x → (o : Option ℕ) → get index.entries v ≡ o →
      Stands seats.entries index.entries v x
  placed_by v x there None e =
      absurd (none-some x
      (sym (get-versions_at seats.entries index.entries v ∙ ap (option_map (λ p. kept_in (get seats.entries p))) e) ∙ there))
  placed_by v x there (Some p) e =
      let seat = are.indexed v p e in
      let same : seat.seat.kept ≡ x = same_Some _ _ (sym (version_placed v p seat.seat e seat.there) ∙ there) in
      let place : x.place.place ≡ p = ap (λ (y : Kept). y.place.place) (sym same) ∙ seat.place in
      record {
        indexed = e ∙ ap Some (sym place);
        seated = ap (get seats.entries) place ∙ seat.there ∙ (λ i. Some (record { name = seat.name i; kept = same i }));
      }

  -- a version stands at its place
  pub placed : (v : OpName) (x : Kept) → get vs v ≡ Some x → Stands seats.entries index.entries v x
  placed v x there = placed_by v x there (get index.entries v) refl

  -- each taken place has a version
  pub version_seated : (p : ℕ) (s : Seat) → get seats.entries p ≡ Some s →
      (get vs s.name ≡ Some s.kept) × (s.kept.place.place ≡ p) × (p < seats.size)
  version_seated p s there =
      let known = are.seated p s there in
      let at = version_placed s.name p s known.0 there in
      let stands = placed s.name s.kept at in
      (at, same_Some _ _ (sym stands.indexed ∙ known.0), known.1)

  -- two versions at one place are one
  pub one_place : (v w : OpName) (x y : Kept) → get vs v ≡ Some x → get vs w ≡ Some y → x.place.place ≡ y.place.place →
      v ≡ w
  one_place v w x y ex ey same =
      let a = placed v x ex in
      let b = placed w y ey in
      ap (λ (s : Seat). s.name)
      (same_Some (record { name = v; kept = x }) (record { name = w; kept = y })
      (sym a.seated ∙ ap (get seats.entries) same ∙ b.seated))

  -- ---- the version of a site

  -- it stands there
  pub at_site : (at : Site) → (h : IsAt vs at) → get seats.entries at.place ≡ Some (record { name = at.name; kept = h.0 })
  at_site at h = ap (get seats.entries) (sym h.2) ∙ (placed at.name h.0 h.1).seated

  pub site_read : (at : Site) (s : Seat) → IsAt vs at → get seats.entries at.place ≡ Some s → get vs at.name ≡ Some s.kept
  site_read at s h there =
      h.1 ∙ ap Some (ap (λ (s : Seat). s.kept) (same_Some (record { name = at.name; kept = h.0 }) s (sym (at_site at h) ∙ there)))

  pub site_name : (at : Site) (s : Seat) → IsAt vs at → get seats.entries at.place ≡ Some s → s.name ≡ at.name
  site_name at s h there =
      sym (ap (λ (s : Seat). s.name) (same_Some (record { name = at.name; kept = h.0 }) s (sym (at_site at h) ∙ there)))

  pub site_place : (at : Site) (s : Seat) → IsAt vs at → get seats.entries at.place ≡ Some s → s.kept.place.place ≡ at.place
  site_place at s h there =
      ap (λ (s : Seat). s.kept.place.place) (same_Some s (record { name = at.name; kept = h.0 }) (sym there ∙ at_site at h)) ∙ h.2

  -- the place is one of the bank's
  pub site_within : (at : Site) → IsAt vs at → at.place < seats.size
  site_within at h = (are.seated at.place (record { name = at.name; kept = h.0 }) (at_site at h)).1

  found_by : (v : OpName) (p : ℕ) → get index.entries v ≡ Some p →
      option_map (site_of v) (get vs v) ≡ Some (record { name = v; place = p })
  found_by v p e =
      let seat = are.indexed v p e in
      ap (option_map (site_of v)) (version_placed v p seat.seat e seat.there)
      ∙ ap (λ p. Some (record { name = v; place = p })) seat.place

  -- a name with a place has the version there
  pub found_some : (v : OpName) (p : ℕ) (r : Option (Bor ℕ)) → option_map (λ x. x.now) r ≡ get index.entries v →
      option_copied r ≡ Some p → option_map (site_of v) (get vs v) ≡ Some (record { name = v; place = p })
  found_some v p None e copied = absurd (none-some p copied)
  found_some v p (Some x) e copied = found_by v p (sym e ∙ copied)

  -- ---- a version is written

  module _ (at : Site) (s : Seat) (h : IsAt vs at) (there : get seats.entries at.place ≡ Some s) (y : Kept)
      (kept : y.place.place ≡ s.kept.place.place) where
    abbrev written : Numbered Seat
    written = insert seats.entries at.place (record s { kept = y })

    -- the versions have it under its name
    pub versions_written : versions_at written index.entries ≡ insert vs at.name y
    versions_written = same_by_get name_order _ _ (λ q. elim (decide_key name_order q at.name) [
      | inl same ↦ ap (get (versions_at written index.entries)) same ∙ here ∙ sym (ap (get (insert vs at.name y)) same ∙ at_inserted name_order vs at.name y)
      | inr apart ↦ other q apart ∙ sym (beside_inserted name_order vs at.name y q apart)
    ])
      where
        indexed : get index.entries at.name ≡ Some at.place
        indexed = (placed at.name h.0 h.1).indexed ∙ ap Some h.2

        here : get (versions_at written index.entries) at.name ≡ Some y
        here =
            get-versions_at written index.entries at.name
            ∙ ap (option_map (λ p. kept_in (get written p))) indexed
            ∙ ap (λ o. Some (kept_in o)) (at_inserted nat_order seats.entries at.place (record s { kept = y }))

        by : (q : OpName) → q ≢ at.name → (o : Option ℕ) → get index.entries q ≡ o →
            option_map (λ p. kept_in (get written p)) o ≡ option_map (λ p. kept_in (get seats.entries p)) o
        by q apart None e = refl
        by q apart (Some p) e =
            let seat = are.indexed q p e in
            let far : p ≢ at.place =
            λ same. apart (sym seat.name ∙ ap (λ (s : Seat). s.name) (same_Some seat.seat s (sym seat.there ∙ ap (get seats.entries) same ∙ there)) ∙ site_name at s h there) in
            ap (λ o. Some (kept_in o)) (beside_inserted nat_order seats.entries at.place (record s { kept = y }) p far)

        other : (q : OpName) → q ≢ at.name → get (versions_at written index.entries) q ≡ get vs q
        other q apart =
            get-versions_at written index.entries q
            ∙ by q apart (get index.entries q) refl
            ∙ sym (get-versions_at seats.entries index.entries q)

    -- places are as they were
    right_written : (site : Site) → IsRight vs site → IsRight (insert vs at.name y) site
    right_written site right x e = elim (from_inserted name_order vs at.name y site.name x e) [
      | inl new ↦
          ap (λ (k : Kept). k.place.place) new.1 ∙ kept ∙ right s.kept (ap (get vs) new.0 ∙ site_read at s h there)
      | inr old ↦ right x old.1
    ]

    sites_written : (x : Status) → HaveSites vs x → HaveSites (insert vs at.name y) x
    sites_written x have = record {
      before = λ site e. right_written site (have.before site e);
      after = λ n e. right_written n.site (have.after n e);
    }

    written_seat : (v : OpName) (p : ℕ) → get index.entries v ≡ Some p → (p ≡ at.place) ⊎ (p ≢ at.place) → IsSeated written v p
    written_seat v p e (inl same) =
        let seat = are.indexed v p e in
        let one = same_Some seat.seat s (sym seat.there ∙ ap (get seats.entries) same ∙ there) in
        record {
          seat = record s { kept = y };
          there = ap (get written) same ∙ at_inserted nat_order seats.entries at.place (record s { kept = y });
          name = ap (λ (s : Seat). s.name) (sym one) ∙ seat.name;
          place = kept ∙ ap (λ (s : Seat). s.kept.place.place) (sym one) ∙ seat.place;
        }
    written_seat v p e (inr apart) =
        let seat = are.indexed v p e in
        record {
          seat = seat.seat;
          there = beside_inserted nat_order seats.entries at.place (record s { kept = y }) p apart ∙ seat.there;
          name = seat.name;
          place = seat.place;
        }

    pub are_written : HaveSites vs y.status → AreVersions (record seats { entries = written }) index
    are_written sites = record {
      room = are.room;
      indexed = λ v p e. written_seat v p e (decide_key nat_order p at.place);
      seated = λ p t e. elim (from_inserted nat_order seats.entries at.place (record s { kept = y }) p t e) [
        | inl new ↦
            let old = are.seated at.place s there in (
              ap (λ (t : Seat). get index.entries t.name) new.1 ∙ old.0 ∙ ap Some (sym new.0),
              subst (λ p. p < seats.size) (sym new.0) old.1,
            )
        | inr old ↦ are.seated p t old.1
      ];
      sites = λ v x e.
          subst (λ m. HaveSites m x.status) (sym versions_written)
          (elim (from_inserted name_order vs at.name y v x (ap (λ m. get m v) (sym versions_written) ∙ e)) [
            | inl new ↦ sites_written x.status (subst (λ (k : Kept). HaveSites vs k.status) (sym new.1) sites)
            | inr old ↦ sites_written x.status (are.sites v x old.1)
          ]);
    }

  -- ---- a version is taken out

  module _ (at : Site) (s : Seat) (h : IsAt vs at) (there : get seats.entries at.place ≡ Some s) where
    abbrev rest : Numbered Seat
    rest = remove seats.entries at.place

    -- none stands under its name
    pub versions_removed : versions_at rest (remove index.entries at.name) ≡ remove vs at.name
    versions_removed = same_by_get name_order _ _ (λ q. elim (decide_key name_order q at.name) [
      | inl same ↦ ap (get (versions_at rest (remove index.entries at.name))) same ∙ gone ∙ sym (ap (get (remove vs at.name)) same ∙ at_removed name_order vs at.name)
      | inr apart ↦ other q apart ∙ sym (beside_removed name_order vs at.name q apart)
    ])
      where
        gone : get (versions_at rest (remove index.entries at.name)) at.name ≡ None
        gone =
            get-versions_at rest (remove index.entries at.name) at.name
            ∙ ap (option_map (λ p. kept_in (get rest p))) (at_removed name_order index.entries at.name)

        by : (q : OpName) → q ≢ at.name → (o : Option ℕ) → get index.entries q ≡ o →
            option_map (λ p. kept_in (get rest p)) o ≡ option_map (λ p. kept_in (get seats.entries p)) o
        by q apart None e = refl
        by q apart (Some p) e =
            let seat = are.indexed q p e in
            let far : p ≢ at.place =
            λ same. apart (sym seat.name ∙ ap (λ (s : Seat). s.name) (same_Some seat.seat s (sym seat.there ∙ ap (get seats.entries) same ∙ there)) ∙ site_name at s h there) in
            ap (λ o. Some (kept_in o)) (beside_removed nat_order seats.entries at.place p far)

        other : (q : OpName) → q ≢ at.name → get (versions_at rest (remove index.entries at.name)) q ≡ get vs q
        other q apart =
            get-versions_at rest (remove index.entries at.name) q
            ∙ ap (option_map (λ p. kept_in (get rest p))) (beside_removed name_order index.entries at.name q apart)
            ∙ by q apart (get index.entries q) refl
            ∙ sym (get-versions_at seats.entries index.entries q)

    right_removed : (site : Site) → IsRight vs site → IsRight (remove vs at.name) site
    right_removed site right x e = right x (from_removed name_order vs at.name site.name x e).1

    pub are_removed : AreVersions (record seats { entries = rest }) (record index { entries = remove index.entries at.name })
    are_removed = record {
      room = are.room;
      indexed = λ v p e.
          let old = from_removed name_order index.entries at.name v p e in
          let seat = are.indexed v p old.1 in
          record {
            seat = seat.seat;
            there =
                beside_removed nat_order seats.entries at.place p
                (λ same. old.0 (sym seat.name ∙ ap (λ (s : Seat). s.name) (same_Some seat.seat s (sym seat.there ∙ ap (get seats.entries) same ∙ there)) ∙ site_name at s h there))
                ∙ seat.there;
            name = seat.name;
            place = seat.place;
          };
      seated = λ p t e.
          let old = from_removed nat_order seats.entries at.place p t e in
          let known = are.seated p t old.1 in (
            beside_removed name_order index.entries at.name t.name
                (λ same. old.0 (same_Some _ _ (sym known.0 ∙ ap (get index.entries) same ∙ (placed at.name h.0 h.1).indexed ∙ ap Some h.2)))
                ∙ known.0,
            known.1,
          );
      sites = λ v x e.
          let old = from_removed name_order vs at.name v x (ap (λ m. get m v) (sym versions_removed) ∙ e) in
          subst (λ m. HaveSites m x.status) (sym versions_removed) (record {
            before = λ site to. right_removed site ((are.sites v x old.1).before site to);
            after = λ n to. right_removed n.site ((are.sites v x old.1).after n to);
          });
    }

  -- ---- a new version

  module _ (v : OpName) (x : Kept) (fresh : get vs v ≡ None) (free : IsFree vs x.place.place) where
    -- its place is free
    pub seat_free : get seats.entries x.place.place ≡ None
    seat_free = elim (decide_get seats.entries x.place.place) [
      | inl none ↦ none
      | inr there ↦
          let known = version_seated x.place.place there.0 there.1 in
          absurd (free there.0.name there.0.kept known.0 known.1)
    ]

    -- its name has no place
    pub name_free : get index.entries v ≡ None
    name_free = elim (decide_get index.entries v) [
      | inl none ↦ none
      | inr there ↦
          let seat = are.indexed v there.0 there.1 in
          absurd (none-some seat.seat.kept (sym fresh ∙ version_placed v there.0 seat.seat there.1 seat.there))
    ]

    abbrev more_seats : Numbered Seat
    more_seats = insert seats.entries x.place.place (record { name = v; kept = x })

    abbrev more_index : Named ℕ
    more_index = insert index.entries v x.place.place

    -- the versions have it under its name
    pub versions_added : versions_at more_seats more_index ≡ insert vs v x
    versions_added = same_by_get name_order _ _ (λ q. elim (decide_key name_order q v) [
      | inl same ↦ ap (get (versions_at more_seats more_index)) same ∙ here ∙ sym (ap (get (insert vs v x)) same ∙ at_inserted name_order vs v x)
      | inr apart ↦ other q apart ∙ sym (beside_inserted name_order vs v x q apart)
    ])
      where
        here : get (versions_at more_seats more_index) v ≡ Some x
        here =
            get-versions_at more_seats more_index v
            ∙ ap (option_map (λ p. kept_in (get more_seats p))) (at_inserted name_order index.entries v x.place.place)
            ∙ ap (λ o. Some (kept_in o)) (at_inserted nat_order seats.entries x.place.place (record { name = v; kept = x }))

        by : (q : OpName) → (o : Option ℕ) → get index.entries q ≡ o →
            option_map (λ p. kept_in (get more_seats p)) o ≡ option_map (λ p. kept_in (get seats.entries p)) o
        by q None e = refl
        by q (Some p) e =
            let seat = are.indexed q p e in
            ap (λ o. Some (kept_in o))
            (beside_inserted nat_order seats.entries x.place.place (record { name = v; kept = x }) p
            (λ same. none-some seat.seat (sym seat_free ∙ ap (get seats.entries) (sym same) ∙ seat.there)))

        other : (q : OpName) → q ≢ v → get (versions_at more_seats more_index) q ≡ get vs q
        other q apart =
            get-versions_at more_seats more_index q
            ∙ ap (option_map (λ p. kept_in (get more_seats p))) (beside_inserted name_order index.entries v x.place.place q apart)
            ∙ by q (get index.entries q) refl
            ∙ sym (get-versions_at seats.entries index.entries q)

    -- a site that doesn't name it is as right as it was
    right_added : (site : Site) → site.name ≢ v → IsRight vs site → IsRight (insert vs v x) site
    right_added site apart right y e = right y (sym (beside_inserted name_order vs v x site.name apart) ∙ e)

    pub are_added : x.place.place < seats.size → IsUnnamed vs v → HaveSites (insert vs v x) x.status →
        AreVersions (record seats { entries = more_seats }) (record index { entries = more_index })
    are_added within unnamed sites = record {
      room = are.room;
      indexed = λ w p e. elim (from_inserted name_order index.entries v x.place.place w p e) [
        | inl new ↦ record {
          seat = record { name = v; kept = x };
          there = ap (get more_seats) new.1 ∙ at_inserted nat_order seats.entries x.place.place (record { name = v; kept = x });
          name = sym new.0;
          place = sym new.1;
        }
        | inr old ↦
            let seat = are.indexed w p old.1 in
            record {
              seat = seat.seat;
              there =
                  beside_inserted nat_order seats.entries x.place.place (record { name = v; kept = x }) p
                  (λ same. none-some seat.seat (sym seat_free ∙ ap (get seats.entries) (sym same) ∙ seat.there))
                  ∙ seat.there;
              name = seat.name;
              place = seat.place;
            }
      ];
      seated = λ p t e. elim (from_inserted nat_order seats.entries x.place.place (record { name = v; kept = x }) p t e) [
        | inl new ↦ (
          ap (λ (t : Seat). get more_index t.name) new.1
              ∙ at_inserted name_order index.entries v x.place.place
              ∙ ap Some (sym new.0),
          subst (λ p. p < seats.size) (sym new.0) within,
        )
        | inr old ↦
            let known = are.seated p t old.1 in (
              beside_inserted name_order index.entries v x.place.place t.name
                  (λ same. none-some p (sym name_free ∙ ap (get index.entries) (sym same) ∙ known.0))
                  ∙ known.0,
              known.1,
            )
      ];
      sites = λ w y e.
          subst (λ m. HaveSites m y.status) (sym versions_added)
          (elim (from_inserted name_order vs v x w y (ap (λ m. get m w) (sym versions_added) ∙ e)) [
            | inl new ↦ subst (λ (k : Kept). HaveSites (insert vs v x) k.status) (sym new.1) sites
            | inr old ↦
                let have = are.sites w y old.1 in
                record {
                  before = λ site to. right_added site (unnamed.before w y site old.1 to) (have.before site to);
                  after = λ n to. right_added n.site (unnamed.after w y n old.1 to) (have.after n to);
                }
          ]);
    }

    -- and there is room for its name
    pub index_room : x.place.place < seats.size → len index.entries < index.size
    index_room within =
        let more = len_added name_order index.entries v x.place.place name_free in
        let few = len_within_places name_order (λ w p. p) more_index seats.size (λ w p e. elim (from_inserted name_order index.entries v x.place.place w p e) [
          | inl new ↦ subst (λ p. p < seats.size) (sym new.1) within
          | inr old ↦ let seat = are.indexed w p old.1 in (are.seated p seat.seat seat.there).1
        ]) apart in
        let room = are.room in
        omega (arith, more, few, room)
      where
        meets : (w : OpName) (p q : ℕ) → get index.entries w ≡ Some p → q ≡ x.place.place → p ≢ q
        meets w p q e here same =
            let seat = are.indexed w p e in
            none-some seat.seat (sym seat_free ∙ ap (get seats.entries) (sym (same ∙ here)) ∙ seat.there)

        apart : (w u : OpName) (p q : ℕ) → get more_index w ≡ Some p → get more_index u ≡ Some q → p ≡ q → w ≡ u
        apart w u p q ew eu same = elim (from_inserted name_order index.entries v x.place.place w p ew) [
          | inl new ↦ elim (from_inserted name_order index.entries v x.place.place u q eu) [
            | inl also ↦ new.0 ∙ sym also.0
            | inr old ↦ absurd (meets u q p old.1 new.1 (sym same))
          ]
          | inr old ↦ elim (from_inserted name_order index.entries v x.place.place u q eu) [
            | inl also ↦ absurd (meets w p q old.1 also.1 same)
            | inr kept ↦
                let a = are.indexed w p old.1 in
                let b = are.indexed u q kept.1 in
                sym a.name
                ∙ ap (λ (s : Seat). s.name) (same_Some a.seat b.seat (sym a.there ∙ ap (get seats.entries) same ∙ b.there))
                ∙ b.name
          ]
        ]

  -- ---- no version

  -- where no name has a place, no place is taken
  pub seats_empty : len index.entries ≡ 0 → len seats.entries ≡ 0
  seats_empty none = elim (some_entry nat_order seats.entries) [
    | inl empty ↦ empty
    | inr there ↦
        let known = are.seated there.0 there.1 there.2 in
        absurd (none-some there.0 (sym (absent_empty index.entries there.1.name none) ∙ known.0))
  ]

-- nothing stands anywhere at first
pub are_none : (size : ℕ) → AreVersions (record { size = size; entries = empty }) (record { size = size; entries = empty })
are_none size = record {
  room = refl;
  indexed = λ v p e. absurd (none-some p (sym (get-empty name_cmp v) ∙ e));
  seated = λ p s e. absurd (none-some s (sym (get-empty nat_cmp p) ∙ e));
  sites = λ v x e.
      absurd (none-some x
      (sym (get-versions_at empty empty v ∙ ap (option_map (λ p. kept_in (get empty p))) (get-empty name_cmp v)) ∙ e));
}
