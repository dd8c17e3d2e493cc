-- A decode of the oldest task in flight of a quiet state finds room: the entries and places of its bank go to other
-- operands of the task, no two to one.
use Rattle.std.proofs.Common.{◌≡◌, ◌≢◌, ℕ, ◌+◌, ◌≤◌, Bool, true, false, length, Some, None, refl, sym, ap, ◌∙◌, subst}
use Rattle.std.proofs.Common.{inl, inr, arith, true≢false}
use Rattle.std.specs.Prelude.{◌==◌, slice_get, is_some, is_none}
use Rattle.std.specs.declared.cmp.Ordering.{Ordering}
use Rattle.std.specs.Ordering.{nat_cmp}
use Rattle.std.specs.FinMap.{FinMap, get, insert, remove, len}
use Rattle.std.proofs.lemmas.Bool.{lt-leb}
use Rattle.std.proofs.lemmas.Bool.Decides.{nat_tests}
use Rattle.std.proofs.lemmas.List.{length-map}
use Rattle.std.proofs.lemmas.Option.{none-some, same_Some, slice_get_within}
use Rattle.tss_base.specs.declared.range.Range.{Range}
use Rattle.tss_base.specs.declared.operand.OpName.{OpName}
use Rattle.tss_base.specs.declared.operand.Operand.{Operand}
use Rattle.tss_base.specs.declared.machine.Machine.{Machine}
use Rattle.tss_base.specs.declared.event.Event.TheVariants as event
use Rattle.tss_base.specs.Machine.{IsAdmissible}
use Rattle.tss_maps.specs.Below.{all_below}
use Rattle.tss_maps.specs.Sums.{one_if, count_of}
use Rattle.tss_maps.proofs.Keys.{IsKeyOrder, nat_order, name_order}
use Rattle.tss_maps.proofs.Changes.{at_inserted, beside_inserted, beside_removed, decide_get}
use Rattle.tss_maps.proofs.Entries.{get-all_below, len-all_below, len_removed, map_induction}
use Rattle.tss_maps.proofs.Sums.{sum_empty, sum_added}
use Rattle.tss_protocol.specs.Names.{operand_name, bank_of}
use Rattle.tss_protocol.specs.State.{State, OperandState, Flying, Entry, Version}
use Rattle.tss_protocol.specs.Renaming.{HasTurn, entries_in, places_in, fill_of, EntriesFull, VersionsFull, Turn}
use Rattle.tss_protocol.specs.Renaming.{wait_or, decode_wait, line_of, has_earlier}
use Rattle.tss_protocol.specs.UnitMachine.{tables_of, is_enabled, can_decode_message}
use Rattle.tss_protocol.proofs.TurnLemmas.{turn_in_bank, neither_waits}
use Rattle.tss_phases.specs.Phase.{Phase, Decoding, Left, look_ups, phase_of}
use Rattle.tss_phases.proofs.PhaseLemmas.{phase_decoding}
use Rattle.tss_phases.proofs.OrderlyLemmas.{decoding_stands}
use Rattle.tss_control.specs.Members.{operand_among}
use Rattle.tss_control.proofs.rounds.EntriesNames.{decode_among, object_of_entry}
use Rattle.tss_control.proofs.rounds.EntryOf.{decide_entry_of}
use Rattle.tss_control.specs.Entries.{HasEntryOf}
use Rattle.tss_progress.proofs.progress.Stuck.{IsQuiet}
use Rattle.tss_progress.proofs.progress.Phases.{HasLetGo}
use Rattle.tss_progress.proofs.progress.Oldest.{own_record, past}
use Rattle.tss_progress.proofs.progress.Banks.{record_of, record_among, IsUsedAt, one_version, used_at}
use Rattle.tss_control.proofs.rounds.Facts.{Facts}

-- a number from a test
number_from : (a b : ℕ) → (a == b) ≡ true → a ≡ b
number_from a b e = grind (arith, nat_tests)

-- ---- entries that pass a test go to the entries of another map

-- each goes to one
abbrev GoInto : {K X J Y : Type 0} {R : K → K → Ordering} {Q : J → J → Ordering} → (K → X → Bool) → (K → J → Type 0)
    → FinMap R X → FinMap Q Y → Type 0
GoInto {K} {X} {J} {Y} p Rel m n =
    (k : K) (x : X) → get m k ≡ Some x → p k x ≡ true → (j : J) × (y : Y) × (get n j ≡ Some y) × Rel k j

module _ {K X J Y : Type 0} {R : K → K → Ordering} {Q : J → J → Ordering} (order : IsKeyOrder R) (other : IsKeyOrder Q)
    (p : K → X → Bool) (Rel : K → J → Type 0) (apart : (k q : K) (j : J) → Rel k j → Rel q j → k ≡ q) where
  counted_more : (m : FinMap R X) (k : K) (v : X) → get m k ≡ None
      → ((n : FinMap Q Y) → GoInto p Rel m n → count_of p m ≤ len n)
      → (b : Bool) → p k v ≡ b → (n : FinMap Q Y) → GoInto p Rel (insert m k v) n → count_of p (insert m k v) ≤ len n
  counted_more m k v fresh rest true is n into =
      let j = into k v (at_inserted order m k v) is in
      let old = rest (remove n j.0) (λ q x at passes.
      let new : q ≢ k = λ same. none-some x (sym fresh ∙ ap (get m) (sym same) ∙ at) in
      let i = into q x (beside_inserted order m k v q new ∙ at) passes in
      let beside : i.0 ≢ j.0 = λ same. new (apart q k i.0 i.3 (subst (Rel k) (sym same) j.3)) in
      (i.0, i.1, beside_removed other n j.0 i.0 beside ∙ i.2, i.3)) in
      let less = len_removed other n j.0 j.1 j.2 in
      let more = sum_added order (λ k x. one_if (p k x)) m k v fresh in
      let one = ap one_if is in
      omega (arith, old, less, more, one)
  counted_more m k v fresh rest false is n into =
      let old = rest n (λ q x at passes.
      let new : q ≢ k = λ same. none-some x (sym fresh ∙ ap (get m) (sym same) ∙ at) in
      into q x (beside_inserted order m k v q new ∙ at) passes) in
      let more = sum_added order (λ k x. one_if (p k x)) m k v fresh in
      let none = ap one_if is in
      omega (arith, old, more, none)

  -- no two to one: they are at most as many as those
  count_into : (m : FinMap R X) (n : FinMap Q Y) → GoInto p Rel m n → count_of p m ≤ len n
  count_into = map_induction order (λ m. (n : FinMap Q Y) → GoInto p Rel m n → count_of p m ≤ len n)
      (λ n into.
      let none = sum_empty order (λ k x. one_if (p k x)) in
      omega (arith, none))
      (λ m k v fresh rest. counted_more m k v fresh rest (p k v) refl)

-- ---- entries and places

module _ (m : Machine) (S : State) (facts : Facts m S) where
  open facts use {basis, ground, control}

  -- the object of a version has an entry
  pub entry_of_version : (v : OpName) (y : Version) → get S.versions v ≡ Some y
      → (e : Entry) × (get S.entries y.object.base ≡ Some e) × (e.object ≡ y.object)
  entry_of_version v y there = elim (decide_entry_of S y.object) [
    | inl f ↦ (f.entry, f.there, f.object)
    | inr none ↦
        let q = control.chains.opener v y there in
        absurd ((control.entries.absent v q.0 q.1 (λ f. none (subst (HasEntryOf S) q.2 f))).members v
        (inl (y, there, sym q.2)))
  ]

  -- a place is held by a version
  pub version_of_place : IsQuiet S → (v : OpName) (bank : ℕ) → get S.places v ≡ Some bank
      → (y : Version) × (get S.versions v ≡ Some y) × (bank_of m.sizes y.object ≡ bank)
  version_of_place quiet v bank at = elim (ground.places.held v bank at) [
    | inl opening ↦ absurd (none-some opening.0 (sym (quiet.opens v) ∙ opening.1))
    | inr (inl version) ↦ (
      version.0,
      version.1,
      same_Some (bank_of m.sizes version.0.object) bank
          (sym (ground.places.versions v version.0 version.1).0 ∙ at),
    )
    | inr (inr (inl going)) ↦ absurd (none-some going.0 (sym (quiet.gones v) ∙ going.1))
    | inr (inr (inr copy)) ↦ absurd (none-some copy.1 (sym (quiet.copies copy.0) ∙ copy.2))
  ]

module _ (m : Machine) (S : State) (facts : Facts m S) (quiet : IsQuiet S) (gone : HasLetGo S) (n : ℕ)
    (x : Flying) (flies : get S.flight n ≡ Some x)
    (least : (k : ℕ) (y : Flying) → get S.flight k ≡ Some y → n ≤ k) (o : OpName) (p : Operand)
    (own : o.task ≡ n) (decode : get S.mail.decodes o ≡ Some p) where
  open facts use {basis, ts, ground, control}

  -- the decode's operand
  among : operand_among ts o ≡ Some p
  among = decode_among m S basis control.orderly o p decode

  own_place : (r : OperandState) × (slice_get x.operands o.place ≡ Some r) × (r.operand ≡ p)
  own_place = record_of m S facts quiet gone n x flies least o p among own

  -- it isn't ready
  not_own : (z : Range) (k : ℕ) → IsUsedAt m S facts quiet gone n x flies least o p own decode z k
      → k ≡ o.place → ⊥
  not_own z k used same =
      let untold = (decoding_stands (look_ups S o) p (control.orderly o) decode).1.0 in
      let at = own_record m S facts quiet gone n x flies least o used.0 own
      (ap (slice_get x.operands) (sym same) ∙ used.1) in
      let kept = same_Some untold.kept used.0 (sym untold.there ∙ at) in
      true≢false (sym used.3 ∙ ap (λ (r : OperandState). is_some r.source) (sym kept) ∙ ap is_some untold.told)

  -- ---- as many places as the task has other operands

  abbrev operand_count : ℕ
  operand_count = length x.operands

  abbrev others : FinMap nat_cmp (Unit {0})
  others = remove (all_below operand_count) o.place

  others_few : len others + 1 ≤ m.limits.max_operands
  others_few =
      let flying = ground.numbers.flight n x flies in
      let most = (ground.numbers.each n x.task flying.task).operands in
      let count = length-map x.operands (λ (r : OperandState). r.operand) in
      let same = ap length flying.operands in
      let less = len_removed nat_order (all_below operand_count) o.place tt
      (get-all_below operand_count o.place (slice_get_within x.operands o.place own_place.0 own_place.1)) in
      let below = len-all_below operand_count in
      omega (arith, most, count, same, less, below)

  other_there : (z : Range) (k : ℕ) → IsUsedAt m S facts quiet gone n x flies least o p own decode z k
      → get others k ≡ Some tt
  other_there z k used =
      beside_removed nat_order (all_below operand_count) o.place k (not_own z k used)
      ∙ get-all_below operand_count k (slice_get_within x.operands k used.0 used.1)

  -- an operand on the object of an entry
  abbrev OfEntry : ℕ → ℕ → Type 0
  OfEntry b k =
      (e : Entry) × (r : OperandState) × (get S.entries b ≡ Some e) × (slice_get x.operands k ≡ Some r)
      × (r.operand.object ≡ e.object)

  entries_apart : (b c k : ℕ) → OfEntry b k → OfEntry c k → b ≡ c
  entries_apart b c k s t =
      let same = same_Some s.1 t.1 (sym s.3 ∙ t.3) in
      sym (control.entries.operand b s.0 s.2).0
      ∙ ap (λ (z : Range). z.base) (sym s.4 ∙ ap (λ (r : OperandState). r.operand.object) same ∙ t.4)
      ∙ (control.entries.operand c t.0 t.2).0

  entries_few : entries_in m.sizes (bank_of m.sizes p.object) S.entries ≤ len others
  entries_few = count_into nat_order nat_order (λ b e. bank_of m.sizes e.object == bank_of m.sizes p.object) OfEntry
      entries_apart S.entries others
      (λ b e at passes.
      let here = number_from (bank_of m.sizes e.object) (bank_of m.sizes p.object) passes in
      let used = used_at m S facts quiet gone n x flies least o p own decode b e at here in
      (used.0, tt, other_there e.object used.0 used.1, (e, used.1.0, at, used.1.1, used.1.2)))

  -- an operand on the object of a version of the bank
  abbrev OfVersion : OpName → ℕ → Type 0
  OfVersion v k =
      (y : Version) × (r : OperandState) × (get S.versions v ≡ Some y) × (slice_get x.operands k ≡ Some r)
      × (r.operand.object ≡ y.object) × (bank_of m.sizes y.object ≡ bank_of m.sizes p.object)

  versions_apart : (v w : OpName) (k : ℕ) → OfVersion v k → OfVersion w k → v ≡ w
  versions_apart v w k s t =
      let same = same_Some s.1 t.1 (sym s.3 ∙ t.3) in
      one_version m S facts quiet gone n x flies least o p own decode v w s.0 t.0 s.2 t.2
      (sym s.4 ∙ ap (λ (r : OperandState). r.operand.object) same ∙ t.4) s.5

  places_few : places_in (bank_of m.sizes p.object) S.places ≤ len others
  places_few = count_into name_order nat_order (λ v b. b == bank_of m.sizes p.object) OfVersion
      versions_apart S.places others
      (λ v bank at passes.
      let y = version_of_place m S facts quiet v bank at in
      let here = y.2 ∙ number_from bank (bank_of m.sizes p.object) passes in
      let e = entry_of_version m S facts v y.0 y.1 in
      let used = used_at m S facts quiet gone n x flies least o p own decode y.0.object.base e.0 e.1
      (ap (bank_of m.sizes) e.2 ∙ here) in (
        used.0,
        tt,
        other_there e.0.object used.0 used.1,
        (y.0, used.1.0, y.1, used.1.1, used.1.2 ∙ e.2, here),
      ))

  -- ---- the decode may happen

  -- its object has no entry
  no_entry : get S.entries p.object.base ≡ None
  no_entry = elim (decide_get S.entries p.object.base) [
    | inl none ↦ none
    | inr some ↦
        let object = object_of_entry m S basis control.orderly control.entries o p decode some.0 some.1 in
        let used = used_at m S facts quiet gone n x flies least o p own decode p.object.base some.0
        some.1 (ap (bank_of m.sizes) object) in
        let q = operand_name n used.0 in
        let at = record_among m S facts quiet gone n x flies least q used.1.0 refl used.1.1 in
        let one = ground.known.single q o used.1.0.operand p at among (used.1.2 ∙ object) (sym own) in
        absurd (not_own some.0.object used.0 used.1 (ap (λ (q : OpName). q.place) one))
  ]

  not_left : (h : Phase) → h ≡ Decoding → h ≡ Left → ⊥
  not_left h decoding left = cc

  -- it is its turn: operands of earlier tasks have left
  own_turn : HasTurn m.sizes S.mail.decodes o p
  own_turn = turn_in_bank m.sizes (bank_of m.sizes p.object) S.mail.decodes o (λ q y e before bank.
      let left = past m S facts quiet gone n x flies least q (omega (arith, before, own)) in
      let decoding = phase_decoding (look_ups S q) y e in
      not_left (phase_of S q) decoding left)

  -- so it is enabled
  pub decode_enabled : IsAdmissible m → is_enabled m S (event.Decode o) ≡ true
  unfolding is_enabled
  decode_enabled fit =
      let b = bank_of m.sizes p.object in
      let fill = fill_of m.sizes (tables_of S) b in
      let entries = entries_few in
      let places = places_few in
      let few = others_few in
      let most = fit.entries in
      let mostly = fit.versions in
      let one = lt-leb m.sizes.entries fill.entries (omega (arith, entries, few, most)) in
      let two = lt-leb m.sizes.versions fill.places (omega (arith, places, few, mostly)) in
      ap (can_decode_message m S o) decode
      ∙ neither_waits (has_earlier o (line_of m.sizes b S.mail.decodes)) Turn
      (decode_wait m.sizes fill (get S.entries p.object.base) p.mode) own_turn
      (ap (λ e. is_none (decode_wait m.sizes fill e p.mode)) no_entry
      ∙ (λ i. is_none (wait_or (one i) EntriesFull (wait_or (two i) VersionsFull None))))
