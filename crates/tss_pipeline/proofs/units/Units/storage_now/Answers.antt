-- A buffer's place is the one that its bank holds under its name.
use Rattle.std.proofs.Common.{slice_get, Some, refl, sym, ap, ◌∙◌}
use Rattle.std.specs.FinMap.{get}
use Rattle.std.proofs.lemmas.Option.{same_Some}
use Rattle.tss_base.specs.declared.operand.Storage.TheVariants as storage
use Rattle.tss_pipeline.specs.declared.bank.Bank.{Bank}
use Rattle.tss_pipeline.specs.Beginning.{told_name}
use Rattle.tss_pipeline.proofs.worker_rows.CopyLemmas.{at_place}
use Rattle.tss_pipeline.proofs.worker_rows.StorageLemmas.{not_there}
use Rattle.tss_pipeline.proofs.units.Units.storage_now.Goals as goal

pub unreachable-requires : goal.unreachable-requires
unreachable-requires c =
    let bs = c.args.self.now.banks.items in
    let b = c.index.result.now in
    let n = c.in-Buffer.name in
    let found = at_place bs c.bank_of-bank.result b c.bank_of-bank.ensures.within c.index.ensures in
    not_there (get b.renaming.buffers n) c.in-None.ensures.exact
    (c.requires.held c.in-Buffer.field-0 n b (ap Some c.in-Buffer.is)
    (ap (slice_get bs) (sym c.bank_of-bank.ensures.exact) ∙ found))

pub returns-in-Some : goal.returns-in-Some
returns-in-Some c =
    let bs = c.args.self.now.banks.items in
    let x = c.index.result.now in
    let n = c.in-Buffer.name in
    let found = at_place bs c.bank_of-bank.result x c.bank_of-bank.ensures.within c.index.ensures in
    record {
      storage = storage.Buffer c.in-Some.place n;
      there = refl;
      name = ap told_name (sym (ap Some c.in-Buffer.is));
      held = λ b at.
          ap (λ (b : Bank). get b.renaming.buffers n)
          (same_Some b x (sym at ∙ ap (slice_get bs) (sym c.bank_of-bank.ensures.exact) ∙ found))
          ∙ sym c.in-Some.ensures.exact;
    }
