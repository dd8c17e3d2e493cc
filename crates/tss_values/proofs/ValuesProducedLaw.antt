-- Produced versions have the bytes of program order in every run that has the values.
use Rattle.std.proofs.Common.{◌≡◌, Option, Some, None, refl, sym, ap, ◌∙◌, true≢false}
use Rattle.std.specs.Prelude.{option_map}
use Rattle.tss_base.specs.declared.range.Range.{Range}
use Rattle.tss_model.specs.Memory.{bytes_of}
use Rattle.tss_model.specs.InOrder.{end_of_started}
use Rattle.tss_protocol.specs.Mail.{StorageName}
use Rattle.tss_protocol.specs.Workers.{stored_bytes}
use Rattle.tss_protocol.specs.UnitMachine.{stores_of}
use Rattle.tss_program_order.specs.Refinement.{ProducedBytesLaw}
use Rattle.tss_control.proofs.GroundworkControl.{IsControlled-Run}
use Rattle.tss_values.proofs.NamingLemmas.{end_bytes}
use Rattle.tss_values.proofs.ValuesJoin.{HaveValues}
use Rattle.tss_control.proofs.GroundworkControl.{Facts-Run}

-- they do
pub produced_of_values : HaveValues → ProducedBytesLaw
produced_of_values have m i es S accepted admissible run v x k s there made start number ends =
    by x.storage refl
  where
    by : (storage : Option StorageName) → x.storage ≡ storage
        → option_map (stored_bytes (stores_of S) x.object) storage
        ≡ Some (bytes_of (end_of_started i m.limits s).memory x.object)
    by None e =
        let control = IsControlled-Run m i es S run in
        absurd (true≢false (sym made ∙ ((control.chains.storages v x there).waits e).0))
    by (Some st) e =
        let values = have m i es S accepted admissible run in
        let facts = Facts-Run m i es S run in
        let p = facts.control.chains.opener v x there in
        ap Some (values.stored.produced v x st p.0 s there made e
        (record { operand = p.1; starts = (k, start, number) }) (λ writer. ends)
        ∙ sym (end_bytes m i S facts.basis values.main values.naming v p.0 s p.1 (k, start, number))
        ∙ ap (λ (r : Range). bytes_of (end_of_started i m.limits s).memory r) p.2)
