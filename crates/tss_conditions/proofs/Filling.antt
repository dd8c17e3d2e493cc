-- How full the units get, and what main keeps within its limits, follow from the laws.
use Rattle.std.proofs.Common.{◌≡◌, ℕ, zero, suc, ◌<◌, ◌≤◌, Bool, true, List, [], ◌∷◌, length, map, get_or, Some, refl}
use Rattle.std.proofs.Common.{sym, ap, ◌∙◌, inl, inr, arith}
use Rattle.std.specs.Prelude.{not, max, min}
use Rattle.std.specs.List.{list_all}
use Rattle.std.proofs.lemmas.Bool.{and_from, le-ltb, not_from_false}
use Rattle.std.proofs.lemmas.List.Folds.{list_all-append, list_all-map}
use Rattle.std.proofs.lemmas.Option.{same_Some}
use Rattle.tss_base.specs.declared.operand.Operand.{Operand}
use Rattle.tss_base.specs.declared.addresses.TheConstants.{SEGMENTS_END}
use Rattle.tss_base.specs.Range.{end_of, meets}
use Rattle.tss_model.specs.Memory.{memory_ranges, memory_range, segment_range, scratch_range, stack_range}
use Rattle.tss_base.specs.declared.range.Range.{Range}
use Rattle.std.specs.FinMap.{get}
use Rattle.tss_base.specs.declared.operand.OpName.{OpName}
use Rattle.tss_base.specs.declared.machine.Machine.{Machine}
use Rattle.tss_base.specs.Image.{SegmentState, ImageState, IsAccepted, segment_end}
use Rattle.tss_maps.proofs.Changes.{one_value}
use Rattle.tss_protocol.specs.Names.{bank_of}
use Rattle.tss_protocol.specs.State.{State}
use Rattle.tss_control.proofs.GroundworkControl.{sizes_of_runs}
use Rattle.tss_program_order.proofs.RunKeeps.{HasGround-run}
use Rattle.tss_conditions.specs.Reached.{Reached}
use Rattle.tss_conditions.specs.Filling.{WithinLaw, EntriesLaw, HeldBanksLaw, ContentsLaw, GroundLaw, MainLaw}
use Rattle.tss_conditions.proofs.Known.{facts_reached, banks_reached}
use Rattle.tss_conditions.proofs.Holding.{bank_below}
use Rattle.tss_conditions.proofs.Contents.{whole_run}
use Rattle.tss_conditions.proofs.MainLimits.{call_left, within_run}

pub within_sizes : WithinLaw
within_sizes m i S r = sizes_of_runs m i r.reachable.0 S r.accepted r.admissible r.reachable.1

pub entered : EntriesLaw
entered m i S base e r there =
    let facts = facts_reached m i S r in
    let own = facts.control.entries.operand base e there in
    record {
      base_of = own.0;
      version = λ x at.
          let p = facts.control.chains.opener e.latest x at in
          let same = same_Some p.0 own.1.0 (sym p.1 ∙ own.1.1) in
          sym p.2 ∙ ap (λ (p : Operand). p.object) same ∙ own.1.2;
      opening = λ c at.
          let among = (facts.control.chains.opens e.latest c at).operand in
          let same = same_Some c.operand own.1.0 (sym among ∙ own.1.1) in
          ap (λ (p : Operand). p.object) same ∙ own.1.2;
    }

-- ---- the ranges of memory lie beside the scratch

all_in : {X : Type 0} → (test : X → Bool) (xs : List X)
    → ((k : ℕ) (d : X) → k < length xs → test (get_or xs k d) ≡ true) → list_all test xs ≡ true
all_in test [] each = refl
all_in test (x ∷ xs) each =
    and_from (test x) (list_all test xs) (each zero x (omega arith))
    (all_in test xs (λ k d h. each (suc k) d (omega (arith, h))))

segment_beside : (s : SegmentState) → segment_end s ≤ SEGMENTS_END
    → not (meets (segment_range s) scratch_range) ≡ true
segment_beside s h =
    not_from_false (meets (segment_range s) scratch_range)
    (le-ltb (max s.base scratch_range.base) (min (segment_end s) (end_of scratch_range)) (omega (arith, h)))

ranges_beside : (i : ImageState) → IsAccepted i
    → list_all (λ m. not (meets m.range scratch_range)) (memory_ranges i) ≡ true
ranges_beside i accepted =
    list_all-append (λ m. not (meets m.range scratch_range)) (map memory_range i.segments)
    (record { range = stack_range; writable = true } ∷ [])
    ∙ and_from (list_all (λ m. not (meets m.range scratch_range)) (map memory_range i.segments)) true
    (list_all-map (λ m. not (meets m.range scratch_range)) memory_range i.segments
    ∙ all_in (λ s. not (meets (segment_range s) scratch_range)) i.segments
    (λ k d h. segment_beside (get_or i.segments k d) (accepted.each k d h).1))
    refl

-- ---- held names

module _ (m : Machine) (i : ImageState) (S : State) (r : Reached m i S) (n : OpName) (bank : ℕ) where
  place_bank : get S.places n ≡ Some bank → bank < m.sizes.banks
  place_bank at =
      let places = (facts_reached m i S r).ground.places in
      elim (places.held n bank at) [
        | inl c ↦ below (c.0).operand.object (places.opens n c.0 c.1).0
        | inr (inl x) ↦ below (x.0).object (places.versions n x.0 x.1).0
        | inr (inr (inl g)) ↦ below (g.0).object (places.gones n g.0 g.1).0
        | inr (inr (inr k)) ↦
            let c = places.copied k.0 k.1 k.2 in
            below (k.1).object (ap (get S.places) (sym k.3) ∙ c.0 ∙ ap Some (sym c.1))
      ]
    where
      below : (x : Range) → get S.places n ≡ Some (bank_of m.sizes x) → bank < m.sizes.banks
      below x own =
          let same = one_value S.places n bank (bank_of m.sizes x) at own in
          let few = bank_below m r.admissible x in
          omega (arith, same, few)

  buffer_bank : get S.buffers n ≡ Some bank → bank < m.sizes.banks
  buffer_bank at =
      let q = banks_reached m i S r n bank at in
      let same = q.2 in
      let few = bank_below m r.admissible (q.0).object in
      omega (arith, same, few)

pub held_banks : HeldBanksLaw
held_banks m i S n bank r = (place_bank m i S r n bank, buffer_bank m i S r n bank)

pub contents_whole : ContentsLaw
contents_whole m i S n bytes r there =
    whole_run m i r.reachable.0 S r.accepted r.admissible r.reachable.1 n bytes there

pub grounded : GroundLaw
grounded m i S r =
    let ground = HasGround-run m i r.reachable.0 S r.reachable.1 in
    record {
      code = ground.code;
      ranges = ground.ranges;
      beside =
          ap (list_all (λ m. not (meets m.range scratch_range))) ground.ranges ∙ ranges_beside i r.accepted;
    }

pub main_limits : MainLaw
main_limits m i S r =
    let within = within_run m i r.reachable.0 S r.reachable.1 in
    record {
      done = within.done;
      spawned = (facts_reached m i S r).ground.numbers.few;
      output = within.output;
      calls = call_left m S;
    }
