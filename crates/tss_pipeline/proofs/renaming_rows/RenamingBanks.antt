-- What the joined tables say of a decode is what the bank of its object says.
use Rattle.std.proofs.Common.{◌≡◌, ℕ, ◌<◌, List, length, get_or, Option, Some, None, option_map, is_none, is_some, Bool, not, true, false, refl, sym, ap, ◌∙◌, arith}
use Rattle.std.specs.Prelude.{slice_get}
use Rattle.std.specs.FinMap.{get, len}
use Rattle.std.proofs.lemmas.Option.{none-some, slice_get_read}
use Rattle.tss_base.specs.declared.machine.Key.TheVariants as key
use Rattle.tss_base.specs.declared.operand.OpName.{OpName}
use Rattle.tss_base.specs.declared.operand.Operand.{Operand}
use Rattle.tss_base.specs.declared.event.Event.TheVariants as event
use Rattle.tss_maps.proofs.MappedLemmas.{len-mapped}
use Rattle.tss_protocol.specs.Names.{bank_of}
use Rattle.tss_protocol.specs.Renaming.{bank_wait}
use Rattle.tss_protocol.specs.UnitMachine.{is_enabled, can_decode_message}
use Rattle.tss_banks.specs.Tables.{own_fill}
use Rattle.tss_banks.proofs.BankCounts.{wait_in_bank}
use Rattle.tss_renaming.specs.Bank.{RenamingState, tables_of, fill_in}
use Rattle.tss_renaming.specs.Decoding.{wait_here}
use Rattle.tss_events.specs.declared.message.Message.TheVariants as message
use Rattle.tss_pipeline.specs.declared.units.Units.{Units}
use Rattle.tss_pipeline.specs.declared.bank.Bank.{Bank}
use Rattle.tss_pipeline.specs.State.{bank_tables, state_of}
use Rattle.tss_pipeline.specs.Fit.{IsFit}
use Rattle.tss_pipeline.proofs.places.Lookups.{tables_here}

-- ---- letters

-- the operand of a letter
pub decode_letter_there : (o q : OpName) (d : Option Operand) (p : Operand)
    → option_map (message.Decode o) d ≡ Some (message.Decode q p) → d ≡ Some p
decode_letter_there o q None p e = absurd (none-some (message.Decode q p) e)
decode_letter_there o q (Some x) p e = ap Some cc

-- no letter, no operand
pub decode_letter_none : (o : OpName) (d : Option Operand) → option_map (message.Decode o) d ≡ None → d ≡ None
decode_letter_none o None e = refl
decode_letter_none o (Some x) e = absurd cc

-- an answer is there where it isn't said that none is
pub is_none_by : {X : Type 0} (b : Bool) (o : Option X) → not b ≡ is_some o → b ≡ is_none o
is_none_by true None e = refl
is_none_by true (Some x) e = absurd cc
is_none_by false None e = absurd cc
is_none_by false (Some x) e = refl

-- an answer that is mapped is one still
pub is_none-mapped : {X Y : Type 0} (f : X → Y) (o : Option X) → is_none (option_map f o) ≡ is_none o
is_none-mapped f None = refl
is_none-mapped f (Some x) = refl

-- without its letter no operand may be decoded
pub none_to_decode : (u : Units) (o : OpName) → get u.mail.decodes o ≡ None
    → is_enabled u.machine (state_of u) (event.Decode o) ≡ false
unfolding is_enabled
none_to_decode u o none = ap (can_decode_message u.machine (state_of u) o) none

-- ---- one bank

-- what a bank has in use by its tables
fill_of_tables : (r : RenamingState) → own_fill (tables_of r) ≡ fill_in r
fill_of_tables r = λ i. record {
  entries = len r.entries;
  places = len-mapped (λ p. r.bank) r.places i;
  buffers = len-mapped (λ p. r.bank) r.buffers i;
}

-- what is read at the place of an object's bank stands there
pub bank_there : (items : List Bank) (n own : ℕ) (b : Bank) → n ≡ own → n < length items → b ≡ get_or items n b
    → slice_get items own ≡ Some b
bank_there items n own b is within read =
    ap (slice_get items) (sym is) ∙ slice_get_read items (length items) n b refl within read

module _ (u : Units) (fit : IsFit u) where
  -- there is a bank
  pub some_banks : 0 < u.machine.sizes.banks
  some_banks =
      let least = (fit.reached.reached.admissible.sizes key.Banks u.machine.sizes.banks refl).0 in
      omega (arith, least)

  module _ (o : OpName) (p : Operand) (b : Bank)
      (there : slice_get u.banks.items (bank_of u.machine.sizes p.object) ≡ Some b) where
    -- an operand waits in its bank for what it waits for in all
    pub wait_joined : get u.mail.decodes o ≡ Some p
        → is_enabled u.machine (state_of u) (event.Decode o) ≡ is_none (wait_here b.renaming o p)
    unfolding is_enabled
    wait_joined at =
        let sizes = u.machine.sizes in
        let n = bank_of sizes p.object in
        let ts = bank_tables u.banks.items in
        let here = tables_here sizes u.banks.items fit.placed.tables n b there in
        let sized = fit.sized.banks.each n b there in
        ap (can_decode_message u.machine (state_of u) o) at
        ∙ ap is_none (wait_in_bank sizes ts fit.placed.tables u.mail.decodes o p)
        ∙ (λ i. is_none (bank_wait (sym sized.sizes i) ((ap own_fill here ∙ fill_of_tables b.renaming) i)
        (sym ((fit.placed.letters n b there).line) i) o (get (here i).entries p.object.base) p.mode))
