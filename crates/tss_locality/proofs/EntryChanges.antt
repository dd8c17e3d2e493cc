-- What an entry was before an event: it stood there, or was made by decode for its operand, or is about to leave by
-- idle.
use Rattle.std.proofs.Common.{◌≡◌, ℕ, Bool, true, false, cond, Option, Some, None, refl, sym, ap, ◌∙◌, inl, inr, ◌⊎◌}
use Rattle.std.proofs.Common.{true≢false}
use Rattle.std.specs.Prelude.{◌==◌}
use Rattle.std.specs.FinMap.{get, remove}
use Rattle.std.proofs.lemmas.Bool.{and_parts}
use Rattle.tss_base.specs.declared.range.Range.{Range}
use Rattle.tss_base.specs.declared.operand.OpName.{OpName}
use Rattle.tss_base.specs.declared.operand.Mode.{Mode}
use Rattle.tss_base.specs.declared.operand.Mode.TheVariants.{Input, Output, Inout}
use Rattle.tss_base.specs.declared.operand.Operand.{Operand}
use Rattle.tss_base.specs.declared.machine.Machine.{Machine}
use Rattle.tss_base.specs.declared.event.Event.TheVariants as event
use Rattle.tss_maps.proofs.Keys.{nat_order, name_order, decide_key, other_key}
use Rattle.tss_maps.proofs.Changes.{from_inserted, from_removed}
use Rattle.tss_protocol.specs.Names.{same_name}
use Rattle.tss_protocol.specs.Mail.{IdleContents, GoneContents}
use Rattle.tss_protocol.specs.State.{Entry, State}
use Rattle.tss_protocol.specs.Renaming.{live_entry, entry_after_decode, may_retire, idle_by}
use Rattle.tss_protocol.specs.UnitMachine.{without, decode_message_taken, idle_message_taken, gone_message_taken}
use Rattle.tss_protocol.specs.UnitMachine.{after_event}

-- ---- decode

live_object : (o : OpName) (e : Entry) (mode : Mode) → (live_entry o e mode).object ≡ e.object
live_object o e Input = refl
live_object o e Output = refl
live_object o e Inout = refl

-- an entry that decode makes or changes has the object of the entry that it finds, or else of its operand
abbrev pub object_found : Range → Option Entry → Range
object_found x None = x
object_found x (Some e) = e.object

pub decoded_object : (o : OpName) (p : Operand) (e : Option Entry)
    → (entry_after_decode o p e).object ≡ object_found p.object e
decoded_object o p None = refl
decoded_object o p (Some e) = live_object o e p.mode

-- the entry that decode leaves at its operand's base
pub record IsDecoded (S : State) (o : OpName) (b : ℕ) (y : Entry) : Type 0 where
  pub operand : Operand
  pub there : get S.mail.decodes o ≡ Some operand
  pub base : b ≡ operand.object.base
  pub entry : y ≡ entry_after_decode o operand (get S.entries operand.object.base)

module _ (m : Machine) (S : State) where
  decoded_by : (o : OpName) (p : Option Operand) → get S.mail.decodes o ≡ p → (b : ℕ) (y : Entry)
      → get (decode_message_taken m (without S (event.Decode o)) o p).entries b ≡ Some y
      → (get S.entries b ≡ Some y) ⊎ IsDecoded S o b y
  decoded_by o None there b y e = inl e
  decoded_by o (Some p) there b y e =
      elim (from_inserted nat_order S.entries p.object.base
      (entry_after_decode o p (get S.entries p.object.base)) b y e) [
        | inl new ↦ inr (record { operand = p; there = there; base = new.0; entry = new.1 })
        | inr old ↦ inl old.1
      ]

  pub entries_decoded : (o : OpName) (b : ℕ) (y : Entry) → get (after_event m S (event.Decode o)).entries b ≡ Some y
      → (get S.entries b ≡ Some y) ⊎ IsDecoded S o b y
  unfolding after_event
  entries_decoded o = decoded_by o (get S.mail.decodes o) refl

-- ---- idle

-- an entry that is about to leave, since its latest version is v
pub record IsRetired (S : State) (v : OpName) (b : ℕ) (y : Entry) : Type 0 where
  pub entry : Entry
  pub there : get S.entries b ≡ Some entry
  pub latest : entry.latest ≡ v
  pub object : y.object ≡ entry.object
  pub same : y.latest ≡ entry.latest

name_from_test : (o q : OpName) → same_name o q ≡ true → o ≡ q
name_from_test o q e = elim (decide_key name_order o q) [
  | inl same ↦ same
  | inr apart ↦ absurd (true≢false (sym e ∙ other_key name_order o q apart))
]

module _ (m : Machine) (S : State) where
  retired_by : (v : OpName) (base count : ℕ) (e : Option Entry) → get S.entries base ≡ e → (may : Bool)
      → may_retire v count e ≡ may → (b : ℕ) (y : Entry) → get (idle_by S.entries v base e may).part b ≡ Some y
      → (get S.entries b ≡ Some y) ⊎ IsRetired S v b y
  retired_by v base count e there false test b y at = inl at
  retired_by v base count None there true test b y at = inl at
  retired_by v base count (Some e) there true test b y at =
      elim (from_inserted nat_order S.entries base (record e { retiring = true }) b y at) [
        | inl new ↦ inr (record {
          entry = e;
          there = ap (get S.entries) new.0 ∙ there;
          latest = name_from_test e.latest v (and_parts (same_name e.latest v) (e.sent == count) test).0;
          object = ap (λ (e : Entry). e.object) new.1;
          same = ap (λ (e : Entry). e.latest) new.1;
        })
        | inr old ↦ inl old.1
      ]

  idle_by_message : (v : OpName) (i : Option IdleContents) (b : ℕ) (y : Entry)
      → get (idle_message_taken (without S (event.Idle v)) v i).entries b ≡ Some y
      → (get S.entries b ≡ Some y) ⊎ IsRetired S v b y
  idle_by_message v None b y e = inl e
  idle_by_message v (Some i) b y e =
      retired_by v i.base i.count (get S.entries i.base) refl (may_retire v i.count (get S.entries i.base)) refl b y e

  pub entries_idle : (v : OpName) (b : ℕ) (y : Entry) → get (after_event m S (event.Idle v)).entries b ≡ Some y
      → (get S.entries b ≡ Some y) ⊎ IsRetired S v b y
  unfolding after_event
  entries_idle v = idle_by_message v (get S.mail.idles v)

  -- ---- gone

  removed_by : (base : ℕ) (retired : Bool) (b : ℕ) (y : Entry)
      → get (cond retired (remove S.entries base) S.entries) b ≡ Some y → get S.entries b ≡ Some y
  removed_by base true b y e = (from_removed nat_order S.entries base b y e).1
  removed_by base false b y e = e

  gone_by : (v : OpName) (g : Option GoneContents) (b : ℕ) (y : Entry)
      → get (gone_message_taken (without S (event.Gone v)) v g).entries b ≡ Some y → get S.entries b ≡ Some y
  gone_by v None b y e = e
  gone_by v (Some g) b y e = removed_by g.object.base g.retired b y e

  pub entries_gone : (v : OpName) (b : ℕ) (y : Entry) → get (after_event m S (event.Gone v)).entries b ≡ Some y
      → get S.entries b ≡ Some y
  unfolding after_event
  entries_gone v = gone_by v (get S.mail.gones v)
