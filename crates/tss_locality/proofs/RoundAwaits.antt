-- The round after an accepted await: the object that main takes back is named no longer, and nothing in use is it.
use Rattle.std.proofs.Common.{◌≡◌, ℕ, zero, suc, ◌≤◌, Bool, true, List, [], ◌∷◌, Option, Some, None, refl, sym, ap, ◌∙◌}
use Rattle.std.proofs.Common.{arith, true≢false}
use Rattle.std.specs.Prelude.{◌==◌, ◌&&◌, not, slice_get}
use Rattle.std.specs.List.{list_any}
use Rattle.std.proofs.lemmas.Bool.Decides.{nat_tests}
use Rattle.std.proofs.lemmas.Bool.{and_parts, and_from, or_left, or_right}
use Rattle.std.proofs.lemmas.Option.{none-some, same_Some}
use Rattle.std.specs.FinMap.{get}
use Rattle.tss_base.specs.declared.range.Range.{Range}
use Rattle.tss_base.specs.declared.operand.OpName.{OpName}
use Rattle.tss_base.specs.declared.operand.Operand.{Operand}
use Rattle.tss_base.specs.declared.operand.Task.{Task}
use Rattle.tss_base.specs.declared.machine.Machine.{Machine}
use Rattle.tss_base.specs.declared.event.Event.{Event}
use Rattle.tss_base.specs.declared.event.Event.TheVariants as event
use Rattle.tss_maps.specs.Sums.{count_of}
use Rattle.tss_maps.proofs.Keys.{name_order}
use Rattle.tss_maps.proofs.Sums.{counted}
use Rattle.tss_model.specs.Access.{operands_of}
use Rattle.tss_model.specs.MainStep.{MainState, await_base, awaited_object, await_done, await_on}
use Rattle.tss_model.specs.Spawn.{same_range, unnamed}
use Rattle.tss_protocol.specs.State.{Entry, State}
use Rattle.tss_protocol.specs.MainEvent.{is_entry_of, is_operand_on, is_arriving, has_no_decode, is_at_home, may_await}
use Rattle.tss_locality.specs.Rounds.{object_in, IsIn, AreInUse, IsRounded}
use Rattle.tss_locality.proofs.SeparateObjects.{separate_fewer, found_at, left_named, still_left}
use Rattle.tss_locality.proofs.RoundObjects.{one_at_base}
use Rattle.tss_locality.proofs.RoundFrames.{within_main, main_round}

same_range_itself : (x : Range) → same_range x x ≡ true
same_range_itself x =
    and_from (x.base == x.base) (x.len == x.len) (number_itself x.base) (number_itself x.len)
  where
    number_itself : (a : ℕ) → (a == a) ≡ true
    number_itself a = grind (arith, nat_tests)

-- an element that passes a test
any_from_place : {X : Type 0} (p : X → Bool) (xs : List X) (j : ℕ) (x : X) → slice_get xs j ≡ Some x → p x ≡ true →
    list_any p xs ≡ true
any_from_place p [] j x e on = absurd (none-some x e)
any_from_place p (y ∷ ys) zero x e on = or_left (p y) (list_any p ys) (ap p (same_Some y x e) ∙ on)
any_from_place p (y ∷ ys) (suc j) x e on = or_right (p y) (list_any p ys) (any_from_place p ys j x e on)

not_zero : (n : ℕ) → (n == 0) ≡ true → 1 ≤ n → ⊥
not_zero n e h = let is : n ≡ 0 = grind (arith, nat_tests, e) in omega (arith, is, h)

module _ (m : Machine) (S : State) (ts : List Task) (r : IsRounded S ts) where
  module _ (object : Range) (found : awaited_object S.main ≡ Some object) (home : is_at_home S object ≡ true) where
    abbrev no_entry : Bool
    no_entry = not (is_entry_of object (get S.entries object.base))

    abbrev no_arrival : Bool
    no_arrival = not (is_arriving object S.inbox)

    waited : (no_entry ≡ true) × (no_arrival ≡ true) × (has_no_decode object S.mail.decodes ≡ true)
    waited =
        let parts = and_parts (no_entry && no_arrival) (has_no_decode object S.mail.decodes) home in
        let first = and_parts no_entry no_arrival parts.0 in
        (first.0, first.1, parts.1)

    own_range : (x : Range) → x ≡ object → same_range x object ≡ true
    own_range x same = ap (λ x. same_range x object) same ∙ same_range_itself object

    -- what is in use isn't the object
    not_arriving : (t : Task) → S.inbox ≡ Some t → (j : ℕ) (p : Operand) → slice_get (operands_of t) j ≡ Some p →
        p.object ≡ object → ⊥
    not_arriving t there j p at same =
        let some = any_from_place (is_operand_on object) (operands_of t) j p at (own_range p.object same) in
        true≢false (sym waited.1 ∙ ap not (ap (is_arriving object) there ∙ some))

    not_decoding : (o : OpName) (p : Operand) → get S.mail.decodes o ≡ Some p → p.object ≡ object → ⊥
    not_decoding o p e same =
        let some = counted name_order (λ o p. is_operand_on object p) S.mail.decodes o p e (own_range p.object same) in
        not_zero (count_of (λ o p. is_operand_on object p) S.mail.decodes) waited.2 some

    not_entered : (b : ℕ) (e : Entry) → get S.entries b ≡ Some e → e.object ≡ object → ⊥
    not_entered b e at same =
        let base = sym (r.within.named.entries b e at).1 ∙ ap (λ (r : Range). r.base) same in
        let there = ap (get S.entries) (sym base) ∙ at in
        true≢false (sym waited.0 ∙ ap (λ e. not (is_entry_of object e)) there ∙ ap not (own_range e.object same))

    -- so it stays named
    stays : (y : Range) → IsIn y S.main.epoch → (y ≡ object → ⊥) → IsIn y (unnamed S.main.epoch object.base)
    stays y in_y other =
        let in_x = (found_at S.main.epoch (await_base S.main.registers) object found).0 in
        still_left S.main.epoch object.base y
        (λ same. other (one_at_base S.main.epoch r.separate y object in_y in_x same)) in_y

    awaited_in_use : (x : MainState) → AreInUse (unnamed S.main.epoch object.base) (record S { main = x })
    awaited_in_use x = record {
      arriving = λ t there j p at. stays p.object (r.named.arriving t there j p at) (not_arriving t there j p at);
      decoding = λ o p e. stays p.object (r.named.decoding o p e) (not_decoding o p e);
      entered = λ b e at. stays e.object (r.named.entered b e at) (not_entered b e at);
    }

    awaited_round : IsRounded (record S { main = await_done S.main object }) ts
    awaited_round = record {
      numbers = r.numbers;
      one = r.one;
      named = awaited_in_use (await_done S.main object);
      separate = separate_fewer S.main.epoch (unnamed S.main.epoch object.base)
          (left_named S.main.epoch object.base) r.separate;
      arrived = r.arrived;
      flying = r.flying;
      below = r.below;
      busy = r.busy;
      within = within_main (object_in ts) S (await_done S.main object) S.home S.inbox r.within.named.arrivals r.within;
    }

  pub await_round : (x : Option Range) → awaited_object S.main ≡ x → may_await S x ≡ true →
      IsRounded (record S { main = await_on S.main x }) ts
  await_round None found on =
      main_round m S ts r (await_on S.main None) S.home (record { spawned = refl; epoch = refl })
  await_round (Some object) found on = awaited_round object found on
