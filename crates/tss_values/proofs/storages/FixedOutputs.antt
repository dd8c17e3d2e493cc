-- Each buffer that is held was taken for an output of the round.
use Rattle.std.proofs.Common.{◌≡◌, inl, inr, ℕ, Bool, true, false, List, [], ◌∷◌, ◌++◌, Option, Some, None, refl, sym}
use Rattle.std.proofs.Common.{ap, subst, ◌∙◌}
use Rattle.std.specs.Prelude.{◌&&◌, ◌==◌, is_none, option_to_list}
use Rattle.std.specs.FinMap.{get, len, get-empty}
use Rattle.std.proofs.lemmas.Bool.{and_parts, eqb-true}
use Rattle.std.proofs.lemmas.Option.{none-some}
use Rattle.tss_base.specs.declared.operand.OpName.{OpName}
use Rattle.tss_base.specs.declared.operand.Mode.{Mode}
use Rattle.tss_base.specs.declared.operand.Mode.TheVariants.{Input, Output, Inout}
use Rattle.tss_base.specs.declared.operand.Operand.{Operand}
use Rattle.tss_base.specs.declared.operand.Task.{Task}
use Rattle.tss_base.specs.declared.machine.Machine.{Machine}
use Rattle.tss_base.specs.declared.event.Event.{Event}
use Rattle.tss_base.specs.declared.event.Event.TheVariants as event
use Rattle.tss_base.specs.Image.{ImageState}
use Rattle.tss_base.specs.Names.{Named, name_cmp}
use Rattle.tss_maps.proofs.Keys.{name_order}
use Rattle.tss_maps.proofs.Changes.{from_inserted, from_removed}
use Rattle.tss_maps.proofs.Entries.{absent_empty}
use Rattle.tss_model.specs.MainStep.{Call, Spawn, Barrier, main_call}
use Rattle.tss_protocol.specs.Names.{bank_of}
use Rattle.tss_protocol.specs.Mail.{GoneContents}
use Rattle.tss_protocol.specs.State.{State, Entry, initial_state}
use Rattle.tss_protocol.specs.Renaming.{takes_buffer, buffers_after_decode, buffers_after_gone}
use Rattle.tss_protocol.specs.MainEvent.{call_next, may_call, has_no_task, has_no_object}
use Rattle.tss_protocol.specs.Needs.{round_after_main, round_after_event}
use Rattle.tss_protocol.specs.UnitMachine.{IsEnabled, is_enabled, after_event, without, decode_message_taken}
use Rattle.tss_protocol.specs.UnitMachine.{gone_message_taken}
use Rattle.tss_locality.proofs.LeftFields.{Leaves-after_event, left_buffers}
use Rattle.tss_phases.specs.Orderly.{AreOrderly}
use Rattle.tss_control.specs.Members.{operand_among}
use Rattle.tss_control.proofs.rounds.Spawned.{operand_among-more}
use Rattle.tss_control.proofs.rounds.EntriesNames.{decode_among}
use Rattle.tss_control.proofs.rounds.Facts.{Basis}

-- it is an output of the round
abbrev IsOutputIn : List Task → OpName → Type 0
IsOutputIn ts b = (q : Operand) × (operand_among ts b ≡ Some q) × (q.mode ≡ Output)

-- each held buffer is of one
abbrev HoldsOutputs : List Task → Named ℕ → Type 0
HoldsOutputs ts buffers = (b : OpName) (bank : ℕ) → get buffers b ≡ Some bank → IsOutputIn ts b

-- in a state
abbrev pub HasOutputs : List Task → State → Type 0
HasOutputs ts S = HoldsOutputs ts S.buffers

-- at first none is held
pub HasOutputs-initial_state : (ts : List Task) (i : ImageState) → HasOutputs ts (initial_state i)
HasOutputs-initial_state ts i b bank e = absurd (none-some bank (sym (get-empty name_cmp b) ∙ e))

-- a live entry's output takes one, and nobody else
takes_output : (entry : Option Entry) (mode : Mode) → takes_buffer entry mode ≡ true → mode ≡ Output
takes_output None mode e = absurd (cc)
takes_output (Some x) Input e = absurd (cc)
takes_output (Some x) Output e = refl
takes_output (Some x) Inout e = absurd (cc)

module _ (m : Machine) (S : State) (basis : Basis m S) (orderly : AreOrderly S)
    (outputs : HasOutputs basis.ts S) where
  open basis use {all, ts}

  same_outputs : (T : State) → T.buffers ≡ S.buffers → HasOutputs ts T
  same_outputs T same = subst (HoldsOutputs ts) (sym same) outputs

  -- ---- decode

  decoded_by : (o : OpName) (operand : Operand) (bank : ℕ) → get S.mail.decodes o ≡ Some operand → (takes : Bool)
      → (takes ≡ true → operand.mode ≡ Output) → HoldsOutputs ts (buffers_after_decode S.buffers o bank takes)
  decoded_by o operand bank e true output = λ b k at. elim (from_inserted name_order S.buffers o bank b k at) [
    | inl new ↦
        subst (IsOutputIn ts) (sym new.0) (operand, decode_among m S basis orderly o operand e, output refl)
    | inr old ↦ outputs b k old.1
  ]
  decoded_by o operand bank e false output = outputs

  decoded : (o : OpName) (x : Option Operand) → get S.mail.decodes o ≡ x
      → HasOutputs ts (decode_message_taken m (without S (event.Decode o)) o x)
  decoded o None e = outputs
  decoded o (Some operand) e =
      let entry = get S.entries operand.object.base in
      decoded_by o operand (bank_of m.sizes operand.object) e (takes_buffer entry operand.mode)
      (takes_output entry operand.mode)

  -- ---- gone

  gone_by : (freed : Option OpName) → HoldsOutputs ts (buffers_after_gone S.buffers freed)
  gone_by None = outputs
  gone_by (Some n) = λ b k at. outputs b k (from_removed name_order S.buffers n b k at).1

  gone : (v : OpName) (x : Option GoneContents) → HasOutputs ts (gone_message_taken (without S (event.Gone v)) v x)
  gone v None = outputs
  gone v (Some c) = gone_by c.buffer

  -- ---- main

  no_buffer : may_call S (Some Barrier) ≡ true → (b : OpName) → get S.buffers b ≡ None
  no_buffer drained b =
      let objects = (and_parts (has_no_task S) (has_no_object S)
      (and_parts (has_no_task S && has_no_object S) _ drained).0).1 in
      let few = and_parts
      ((len S.entries == 0) && (len S.places == 0) && (len S.buffers == 0) && (len S.versions == 0))
      (len S.copies == 0) objects in
      let less = and_parts ((len S.entries == 0) && (len S.places == 0) && (len S.buffers == 0)) (len S.versions == 0)
      few.0 in
      let none = (and_parts ((len S.entries == 0) && (len S.places == 0)) (len S.buffers == 0) less.0).1 in
      absent_empty S.buffers b (eqb-true (len S.buffers) 0 none)

  spawned : (t : Option Task) → HoldsOutputs (ts ++ option_to_list t) S.buffers
  spawned None b k at = let q = outputs b k at in (q.0, still ts q.0 q.1, q.2)
    where
      nothing : (us : List Task) → us ++ [] ≡ us
      nothing [] = refl
      nothing (u ∷ us) = ap (λ ws. u ∷ ws) (nothing us)

      still : (us : List Task) (q : Operand) → operand_among us b ≡ Some q → operand_among (us ++ []) b ≡ Some q
      still us q e = ap (λ ws. operand_among ws b) (nothing us) ∙ e
  spawned (Some t) b k at = let q = outputs b k at in (q.0, operand_among-more ts t b q.0 q.1, q.2)

  main_by_call : (c : Option Call) → may_call S c ≡ true → HoldsOutputs (round_after_main m S ts c) S.buffers
  main_by_call (Some Spawn) may = spawned (main_call m.limits S.home S.main Spawn).1
  main_by_call (Some Barrier) may = λ b k at. absurd (none-some k (sym (no_buffer may b) ∙ at))
  main_by_call other may = outputs

  outputs-main : IsEnabled m S event.Main
      → HasOutputs (round_after_event m S ts event.Main) (after_event m S event.Main)
  unfolding is_enabled
  outputs-main on =
      let same : (after_event m S event.Main).buffers ≡ S.buffers =
      λ i. (Leaves-after_event m S event.Main i).buffers in
      subst (HoldsOutputs (round_after_event m S ts event.Main)) (sym same)
      (main_by_call (call_next m S) (and_parts (is_none S.main.ending && is_none S.trap) _ on).1)

  -- ---- all events

  outputs-decode : (o : OpName) → HasOutputs ts (after_event m S (event.Decode o))
  unfolding after_event
  outputs-decode o = decoded o (get S.mail.decodes o) refl

  outputs-gone : (v : OpName) → HasOutputs ts (after_event m S (event.Gone v))
  unfolding after_event
  outputs-gone v = gone v (get S.mail.gones v)

  -- every event leaves it so
  pub HasOutputs-after_event : (e : Event) → IsEnabled m S e
      → HasOutputs (round_after_event m S ts e) (after_event m S e)
  HasOutputs-after_event event.Main on = outputs-main on
  HasOutputs-after_event (event.Decode o) on = outputs-decode o
  HasOutputs-after_event (event.Gone v) on = outputs-gone v
  HasOutputs-after_event e on = same_outputs (after_event m S e) (left_buffers m S e refl)
