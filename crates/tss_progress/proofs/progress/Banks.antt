-- The bank of a decode of the oldest task in flight in a quiet state: each of its entries has an operand of that task
-- that is ready, and one version.
use Rattle.std.proofs.Common.{◌≡◌, ℕ, zero, suc, ◌<◌, ◌≤◌, ◌⊎◌, Bool, true, false, List, [], ◌∷◌, Option, Some, None}
use Rattle.std.proofs.Common.{refl, sym, ap, ◌∙◌, subst, inl, inr, arith, true≢false}
use Rattle.std.specs.Prelude.{◌&&◌, slice_get}
use Rattle.std.specs.FinMap.{get}
use Rattle.std.proofs.lemmas.Bool.{cases_lt, and_parts, and_from}
use Rattle.std.proofs.lemmas.Option.{none-some, same_Some}
use Rattle.tss_base.specs.declared.range.Range.{Range}
use Rattle.tss_base.specs.declared.operand.OpName.{OpName}
use Rattle.tss_base.specs.declared.operand.Operand.{Operand}
use Rattle.tss_base.specs.declared.machine.Machine.{Machine}
use Rattle.tss_base.specs.declared.marks.Follow.{Follow}
use Rattle.tss_model.specs.Access.{operands_of}
use Rattle.tss_model.specs.Spawn.{same_range}
use Rattle.tss_protocol.specs.Names.{bank_of}
use Rattle.tss_protocol.specs.State.{State, OperandState, Flying, Entry, Version}
use Rattle.tss_protocol.specs.Stations.{is_ready}
use Rattle.tss_locality.proofs.Flights.{from_mapped}
use Rattle.tss_phases.specs.Phase.{Phase, Ahead, Decoding}
use Rattle.tss_phases.specs.Phase.{Left, phase_of, is_decoded}
use Rattle.tss_names.specs.Tasks.{task_at}
use Rattle.tss_control.specs.Members.{operand_among}
use Rattle.tss_control.specs.Readers.{has_arrived}
use Rattle.tss_control.proofs.rounds.EntriesNames.{decode_among, decoded_apart, name_decoded}
use Rattle.tss_program_order.proofs.FlatNames.{same_range-equal, same_range-refl}
use Rattle.tss_progress.proofs.progress.CalmStates.{flying_operand}
use Rattle.tss_progress.proofs.progress.Stuck.{IsQuiet, calm_of}
use Rattle.tss_progress.proofs.progress.Versions.{none_alone, nothing_retires, latest_version}
use Rattle.tss_progress.proofs.progress.Phases.{HasLetGo}
use Rattle.tss_progress.proofs.progress.Oldest.{produced_when_left, past, none_followed, none_follows, own_record}
use Rattle.tss_progress.proofs.progress.Oldest.{decodes_or_ready, ready_told}
use Rattle.tss_control.proofs.rounds.Facts.{Facts}

-- some of a list passes a test, or none does
passes_or_none : {X : Type 0} (t : X → Bool) (xs : List X)
    → ((k : ℕ) × (x : X) × (slice_get xs k ≡ Some x) × (t x ≡ true))
    ⊎ ((k : ℕ) (x : X) → slice_get xs k ≡ Some x → t x ≡ false)
passes_or_none t [] = inr (λ k x at. absurd (none-some x at))
passes_or_none {X} t (x ∷ xs) = by (t x) refl (passes_or_none t xs)
  where
    beside : t x ≡ false → ((k : ℕ) (y : X) → slice_get xs k ≡ Some y → t y ≡ false)
        → (k : ℕ) (y : X) → slice_get (x ∷ xs) k ≡ Some y → t y ≡ false
    beside here none zero y at = ap t (sym (same_Some x y at)) ∙ here
    beside here none (suc k) y at = none k y at

    by : (b : Bool) → t x ≡ b
        → ((k : ℕ) × (y : X) × (slice_get xs k ≡ Some y) × (t y ≡ true))
        ⊎ ((k : ℕ) (y : X) → slice_get xs k ≡ Some y → t y ≡ false)
        → ((k : ℕ) × (y : X) × (slice_get (x ∷ xs) k ≡ Some y) × (t y ≡ true))
        ⊎ ((k : ℕ) (y : X) → slice_get (x ∷ xs) k ≡ Some y → t y ≡ false)
    by true here rest = inl (0, x, refl, here)
    by false here (inl some) = inl (suc some.0, some.1, some.2, some.3)
    by false here (inr none) = inr (beside here none)

-- an arrival has been decoded
pub arrived_decoded : (p : Phase) → has_arrived p ≡ true → is_decoded p ≡ true
arrived_decoded Ahead e = e
arrived_decoded Decoding e = e
arrived_decoded other e = refl

module _ (m : Machine) (S : State) (facts : Facts m S) (quiet : IsQuiet S) (gone : HasLetGo S) (n : ℕ)
    (x : Flying) (flies : get S.flight n ≡ Some x)
    (least : (k : ℕ) (y : Flying) → get S.flight k ≡ Some y → n ≤ k) where
  open facts use {basis, all, ts, ground, control}

  -- ---- records of the oldest task

  -- an operand of the task has a record
  pub record_of : (q : OpName) (p : Operand) → operand_among ts q ≡ Some p → q.task ≡ n
      → (r : OperandState) × (slice_get x.operands q.place ≡ Some r) × (r.operand ≡ p)
  record_of q p among own =
      let of = ground.known.operands q p among in
      let flying = ground.numbers.flight n x flies in
      let task = same_Some of.task x.task (sym of.spawned ∙ ap (task_at all) own ∙ flying.task) in
      from_mapped (λ (r : OperandState). r.operand) x.operands q.place p
      (ap (λ rs. slice_get rs q.place) flying.operands
      ∙ ap (λ t. slice_get (operands_of t) q.place) (sym task) ∙ of.place)

  -- a record is that of its operand
  pub record_among : (q : OpName) (r : OperandState) → q.task ≡ n → slice_get x.operands q.place ≡ Some r
      → operand_among ts q ≡ Some (r.operand)
  record_among q r own at =
      let p = flying_operand m S facts (calm_of S quiet) q r
      (own_record m S facts quiet gone n x flies least q r own at) in
      let k = record_of q p.0 p.1 own in
      p.1 ∙ ap Some (sym k.2 ∙ ap (λ (r : OperandState). r.operand) (same_Some k.0 r (sym k.1 ∙ at)))

  -- one that has been decoded is ready
  decoded_ready : (q : OpName) (p : Operand) → operand_among ts q ≡ Some p → q.task ≡ n
      → is_decoded (phase_of S q) ≡ true
      → (r : OperandState) × (slice_get x.operands q.place ≡ Some r) × (r.operand ≡ p) × (is_ready r ≡ true)
  decoded_ready q p among own decoded =
      let r = record_of q p among own in (
        r.0,
        r.1,
        r.2,
        elim (decodes_or_ready m S facts quiet gone n x flies least q r.0 own r.1) [
          | inl decoding ↦ absurd (true≢false (sym decoded ∙ ap is_decoded decoding))
          | inr ready ↦ ready_told m S facts quiet gone n x flies least q r.0 own r.1 ready
        ],
      )

  module _ (o : OpName) (p : Operand) (own : o.task ≡ n) (decode : get S.mail.decodes o ≡ Some p) where
    -- an object of the bank
    abbrev IsHere : Range → Type 0
    IsHere z = bank_of m.sizes z ≡ bank_of m.sizes p.object

    -- what has been decoded of the bank is of no later task
    none_later : (q : OpName) (r : Operand) → operand_among ts q ≡ Some r → IsHere r.object
        → is_decoded (phase_of S q) ≡ true → q.task ≤ n
    none_later q r at here decoded = elim (cases_lt n q.task) [
      | inl later ↦
          absurd (decoded_apart S control.orderly q r decoded
          (ground.decodes o q p r
          (ground.known.operands o p (decode_among m S basis control.orderly o p decode))
          (ground.known.operands q r at) (inr decode) (subst (λ k. k < q.task) (sym own) later) (sym here)))
      | inr before ↦ before
    ]

    -- ---- versions of the bank

    version_upto : (v : OpName) (y : Version) → get S.versions v ≡ Some y → IsHere y.object → v.task ≤ n
    version_upto v y there here =
        let q = control.chains.opener v y there in
        none_later v q.0 q.1 (ap (bank_of m.sizes) q.2 ∙ here)
        (name_decoded m all S ground.numbers control.orderly v (ground.names.versions v y there).0.0)

    no_successor : (v : OpName) (y : Version) → get S.versions v ≡ Some y → IsHere y.object → y.successor ≡ None
    no_successor v y there here = by y.successor refl
      where
        by : (f : Option Follow) → y.successor ≡ f → y.successor ≡ None
        by None e = e
        by (Some f) e =
            let next = (control.chains.linked v y there).followed f e in
            absurd (none_followed m S facts quiet gone n x flies least v y f there e
            (version_upto f.version next.version next.there (ap (bank_of m.sizes) next.object ∙ here)))

    no_predecessor : (v : OpName) (y : Version) → get S.versions v ≡ Some y → IsHere y.object → y.predecessor ≡ None
    no_predecessor v y there here = by y.predecessor refl
      where
        by : (q : Option OpName) → y.predecessor ≡ q → y.predecessor ≡ None
        by None e = e
        by (Some q) e =
            absurd (none_follows m S facts quiet gone n x flies least v q y there e
            (version_upto v y there here))

    -- each object has one
    pub one_version : (v w : OpName) (y z : Version) → get S.versions v ≡ Some y → get S.versions w ≡ Some z
        → y.object ≡ z.object → IsHere y.object → v ≡ w
    one_version v w y z there other same here =
        let up = (control.chains.linked v y there).youngest (no_successor v y there here) w (z, other, sym same) in
        let down = (control.chains.linked w z other).youngest
        (no_successor w z other (ap (bank_of m.sizes) (sym same) ∙ here)) v (y, there, same) in
        control.chains.one y.object v w (inl (y, there, refl)) (inl (z, other, sym same)) (omega (arith, up, down))

    -- ---- entries of the bank

    -- a ready operand of the oldest task on an object
    abbrev pub IsUsedAt : Range → ℕ → Type 0
    IsUsedAt z k =
        (r : OperandState) × (slice_get x.operands k ≡ Some r) × (r.operand.object ≡ z) × (is_ready r ≡ true)

    abbrev on_ready : Range → OperandState → Bool
    on_ready z r = same_range r.operand.object z && is_ready r

    -- where no operand of the task on an object is ready, those that have been decoded have left
    left_of : (z : Range) → IsHere z
        → ((k : ℕ) (r : OperandState) → slice_get x.operands k ≡ Some r → on_ready z r ≡ false)
        → (q : OpName) (r : Operand) → operand_among ts q ≡ Some r → r.object ≡ z → is_decoded (phase_of S q) ≡ true
        → phase_of S q ≡ Left
    left_of z here none q r at object decoded = elim (cases_lt q.task n) [
      | inl before ↦ past m S facts quiet gone n x flies least q before
      | inr from ↦
          let upto = none_later q r at (ap (bank_of m.sizes) object ∙ here) decoded in
          let k = decoded_ready q r at (omega (arith, from, upto)) decoded in
          let same = subst (λ y. same_range y z ≡ true) (sym (ap (λ (r : Operand). r.object) k.2 ∙ object))
          (same_range-refl z) in
          absurd (true≢false (sym (and_from (same_range k.0.operand.object z) (is_ready k.0) same k.3)
          ∙ none q.place k.0 k.1))
    ]

    entry_used : (b : ℕ) (e : Entry) → get S.entries b ≡ Some e → IsHere e.object
        → ((k : ℕ) (r : OperandState) → slice_get x.operands k ≡ Some r → on_ready e.object r ≡ false) → ⊥
    entry_used b e entry here none =
        let y = latest_version m S facts quiet b e entry in
        let live = control.entries.live b e entry (nothing_retires m S facts quiet b e entry) in
        let there = ap (bank_of m.sizes) y.2 ∙ here in
        let q = control.chains.opener e.latest y.0 y.1 in
        let left = left_of e.object here none e.latest q.0 q.1 (q.2 ∙ y.2)
        (name_decoded m all S ground.numbers control.orderly e.latest (ground.names.versions e.latest y.0 y.1).0.0) in
        none_alone m S facts quiet b e y.0 entry y.1
        (ap (λ (z : Range). z.base) y.2 ∙ (control.entries.operand b e entry).0) live.sent
        (no_successor e.latest y.0 y.1 there) (no_predecessor e.latest y.0 y.1 there)
        (produced_when_left m S facts quiet e.latest y.0 y.1 left)
        (λ a has.
        let arrival = (control.readers.versions e.latest y.0 y.1).each a has in
        left_of e.object here none a arrival.on.operand arrival.on.there (arrival.on.object ∙ y.2)
        (arrived_decoded (phase_of S a) arrival.arrived))

    -- each object with an entry has such an operand
    pub used_at : (b : ℕ) (e : Entry) → get S.entries b ≡ Some e → IsHere e.object → (k : ℕ) × IsUsedAt e.object k
    used_at b e entry here = elim (passes_or_none (on_ready e.object) x.operands) [
      | inl some ↦
          let parts = and_parts (same_range some.1.operand.object e.object) (is_ready some.1) some.3 in
          (some.0, (some.1, some.2, same_range-equal some.1.operand.object e.object parts.0, parts.1))
      | inr none ↦ absurd (entry_used b e entry here none)
    ]
