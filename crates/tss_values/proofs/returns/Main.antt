-- Main leaves what is brought home: it stores nothing in an object that it has named.
use Rattle.std.proofs.Common.{◌≡◌, ℕ, Bool, true, false, List, [], ◌∷◌, append-nil, Option, Some, None, refl, sym, ap}
use Rattle.std.proofs.Common.{◌∙◌, subst, inl, inr}
use Rattle.std.specs.Prelude.{unwrap_or, ◌||◌}
use Rattle.std.specs.List.{list_any}
use Rattle.std.specs.FinMap.{get}
use Rattle.std.proofs.lemmas.Option.{none-some}
use Rattle.tss_base.specs.declared.range.Range.{Range}
use Rattle.tss_base.specs.declared.operand.OpName.{OpName}
use Rattle.tss_base.specs.declared.operand.Operand.{Operand}
use Rattle.tss_base.specs.declared.operand.Task.{Task}
use Rattle.tss_base.specs.declared.machine.Machine.{Machine}
use Rattle.tss_base.specs.declared.event.Event.TheVariants as event
use Rattle.tss_base.specs.Image.{ImageState}
use Rattle.tss_model.specs.InOrder.{Started}
use Rattle.tss_model.specs.MainStep.{MainState, Call, ExitCall, Spawn, Barrier, Print, Await, Unknown}
use Rattle.tss_model.specs.Spawn.{same_range}
use Rattle.tss_protocol.specs.State.{State}
use Rattle.tss_protocol.specs.Buffers.{buffer_bytes}
use Rattle.tss_protocol.specs.MainEvent.{call_next, flat_of}
use Rattle.tss_protocol.specs.Needs.{round_after_call, round_after_main, round_after_event}
use Rattle.tss_protocol.specs.UnitMachine.{after_event}
use Rattle.tss_locality.specs.Rounds.{object_in, IsIn}
use Rattle.tss_locality.proofs.LeftFields.{Leaves-after_event}
use Rattle.tss_control.specs.Members.{operand_among}
use Rattle.tss_program_order.proofs.FlatNames.{Has, covers-touch, same_range-refl}
use Rattle.tss_program_order.proofs.FlatNaming.{named_not_loaded}
use Rattle.tss_program_order.proofs.MainEvent.{main_stores}
use Rattle.tss_control.proofs.rounds.Spawned.{operand_among-more}
use Rattle.tss_control.proofs.rounds.EntriesNames.{operand_of_object}
use Rattle.tss_values.proofs.Values.{IsKnown, HasReturns}
use Rattle.tss_values.proofs.returns.Returns.{SameAtHome, KeepsReturns, returns_kept}
use Rattle.tss_values.proofs.returns.Copy.{copy_object, gone_object}
use Rattle.tss_values.proofs.LiveObjects.{going_named}
use Rattle.tss_control.proofs.rounds.Facts.{Facts}

-- ---- named objects

or_left : (a b : Bool) → a ≡ true → (a || b) ≡ true
or_left true b e = refl
or_left false b e = absurd (cc)

or_right : (a b : Bool) → b ≡ true → (a || b) ≡ true
or_right true b e = refl
or_right false b e = e

-- a member of a list is found in it
found_member : (x : Range) (xs : List Range) → IsIn x xs → Has xs x
found_member x [] h = absurd h
found_member x (y ∷ ys) (inl same) =
    or_left (same_range x y) (list_any (same_range x) ys) (ap (same_range x) same ∙ same_range-refl x)
found_member x (y ∷ ys) (inr later) =
    or_right (same_range x y) (list_any (same_range x) ys) (found_member x ys later)

module _ (m : Machine) (S : State) where
  -- main leaves the bytes of an object that it has named
  pub main_at_home : (x : Range) → IsIn x S.main.epoch → SameAtHome S (after_event m S event.Main) x
  main_at_home x named a inside =
      ap (λ (o : Option ℕ). unwrap_or o 0)
      (main_stores m S a
      (named_not_loaded (flat_of S) a (covers-touch S.main.epoch x a (found_member x S.main.epoch named) inside)))

-- ---- the round after it

-- an operand that was in the round is the same there, if the round hasn't ended
known_by_call : (ts : List Task) (v : OpName) (p q : Operand) → operand_among ts v ≡ Some q → (c : Call)
    → (d : MainState × Option Task) → operand_among (round_after_call ts c d) v ≡ Some p → operand_among ts v ≡ Some p
known_by_call ts v p q before ExitCall d e = e
known_by_call ts v p q before Spawn (main, None) e = subst (λ us. operand_among us v ≡ Some p) (append-nil ts) e
known_by_call ts v p q before Spawn (main, Some t) e =
    before ∙ sym (operand_among-more ts t v q before) ∙ e
known_by_call ts v p q before Barrier d e = absurd (none-some p e)
known_by_call ts v p q before Print d e = e
known_by_call ts v p q before Await d e = e
known_by_call ts v p q before (Unknown n) d e = e

module _ (m : Machine) (i : ImageState) (S : State) (facts : Facts m S) where
  open facts use {basis, ts}

  abbrev T : State
  T = after_event m S event.Main

  known_by : (v : OpName) (p q : Operand) → operand_among ts v ≡ Some q → (c : Option Call)
      → operand_among (round_after_main m S ts c) v ≡ Some p → operand_among ts v ≡ Some p
  known_by v p q before None e = e
  known_by v p q before (Some c) e = known_by_call ts v p q before c _ e

  -- what is known of a name of the round was known before
  pub known_before_main : (v : OpName) (x : Range) → object_in ts v ≡ Some x → (p : Operand) (s : Started)
      → IsKnown m i (round_after_event m S ts event.Main) v p s → IsKnown m i ts v p s
  known_before_main v x named p s k =
      let q = operand_of_object ts v x named in
      record { operand = known_by v p q.0 q.1 (call_next m S) k.operand; starts = k.starts }

  keeps : KeepsReturns S T
  keeps =
      let left = Leaves-after_event m S event.Main in
      record {
        copies = λ bank c at.
            let old = ap (λ m. get m bank) (sym (λ j. (left j).copies)) ∙ at in (
              old,
              λ j. buffer_bytes (left j).contents c.buffer,
              main_at_home m S c.object
                  (going_named m S facts c.version c.object (copy_object m S basis bank c old)
                  (inl (bank, c, old, refl, refl))),
            );
        gones = λ v g at last.
            let old = ap (λ m. get m v) (sym (λ j. (left j).mail.gones)) ∙ at in (
              old,
              main_at_home m S g.object
                  (going_named m S facts v g.object (gone_object m S basis v g old) (inr (g, old, last, refl))),
            );
      }

  -- what is brought home after main's event
  pub HasReturns-main : HasReturns m i ts S → HasReturns m i (round_after_event m S ts event.Main) T
  HasReturns-main h =
      let r = returns_kept m i ts S T keeps h in
      let left = Leaves-after_event m S event.Main in
      record {
        copied = λ bank c p s at known good.
            let old = ap (λ m. get m bank) (sym (λ j. (left j).copies)) ∙ at in
            r.copied bank c p s at
            (known_before_main c.version c.object (copy_object m S basis bank c old) p s known) good;
        within = r.within;
        moved = r.moved;
        gone = λ v g p s at last known good.
            let old = ap (λ m. get m v) (sym (λ j. (left j).mail.gones)) ∙ at in
            r.gone v g p s at last
            (known_before_main v g.object (gone_object m S basis v g old) p s known) good;
      }
