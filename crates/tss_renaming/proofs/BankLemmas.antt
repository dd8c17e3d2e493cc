-- The rows of a bank, on what contracts see of it and on the definitions' tables.
use Rattle.std.proofs.Common.{◌≡◌, ℕ, Bool, true, false, Option, None, Some, refl}
use Rattle.std.specs.FinMap.{get, insert}
use Rattle.tss_base.specs.declared.operand.OpName.{OpName}
use Rattle.tss_base.specs.declared.operand.Operand.{Operand}
use Rattle.tss_base.specs.Names.{Named}
use Rattle.tss_maps.proofs.Keys.{name_order}
use Rattle.tss_maps.proofs.MappedLemmas.{mapped-insert, mapped-remove}
use Rattle.tss_protocol.specs.Mail.{GoneContents}
use Rattle.tss_protocol.specs.Renaming.{entry_after_decode, takes_place, takes_buffer, places_after_decode, buffers_after_decode, buffers_after_gone, after_gone}
use Rattle.tss_renaming.specs.Bank.{RenamingState, of_bank, tables_of, state_after_gone}
use Rattle.tss_renaming.specs.Decoding.{state_after_decode, decoded_in}

-- ---- decode

-- places of a bank, where one is taken or not
of_bank_after : (bank : ℕ) (places : Named ℕ) (o : OpName) (place : ℕ) (takes : Bool)
    → of_bank bank (places_after_decode places o place takes) ≡ places_after_decode (of_bank bank places) o bank takes
of_bank_after bank places o place true = mapped-insert name_order (λ p. bank) places o place
of_bank_after bank places o place false = refl

buffers_of_bank_after : (bank : ℕ) (buffers : Named ℕ) (o : OpName) (place : ℕ) (takes : Bool)
    → of_bank bank (buffers_after_decode buffers o place takes)
    ≡ buffers_after_decode (of_bank bank buffers) o bank takes
buffers_of_bank_after bank buffers o place true = mapped-insert name_order (λ p. bank) buffers o place
buffers_of_bank_after bank buffers o place false = refl

-- the tables after a decode are the definitions', whichever place and buffer it takes
pub decoded_tables : (s : RenamingState) (o : OpName) (operand : Operand) (place buffer : ℕ)
    → tables_of (state_after_decode s o operand (get s.entries operand.object.base) place buffer)
    ≡ (decoded_in s o operand).part
decoded_tables s o operand place buffer =
    let entry = get s.entries operand.object.base in
    λ i. record {
      entries = insert s.entries operand.object.base (entry_after_decode o operand entry);
      places = of_bank_after s.bank s.places o place (takes_place entry operand.mode) i;
      buffers = buffers_of_bank_after s.bank s.buffers o buffer (takes_buffer entry operand.mode) i;
    }

-- ---- gone

buffers_of_bank_less : (bank : ℕ) (buffers : Named ℕ) (b : Option OpName)
    → of_bank bank (buffers_after_gone buffers b) ≡ buffers_after_gone (of_bank bank buffers) b
buffers_of_bank_less bank buffers None = refl
buffers_of_bank_less bank buffers (Some b) = mapped-remove name_order (λ p. bank) buffers b

-- the tables after a gone are the definitions'
pub gone_tables : (s : RenamingState) (v : OpName) (g : GoneContents)
    → tables_of (state_after_gone s v g) ≡ after_gone (tables_of s) v g
gone_tables s v g = λ i. record {
  entries = (after_gone (tables_of s) v g).entries;
  places = mapped-remove name_order (λ p. s.bank) s.places v i;
  buffers = buffers_of_bank_less s.bank s.buffers g.buffer i;
}
