-- The bank in which a version is registered.
use Rattle.std.proofs.Common.{sym, ap, ◌∙◌, inl, inr, arith}
use Rattle.std.specs.Prelude.{slice_get, is_some}
use Rattle.std.specs.FinMap.{get}
use Rattle.std.proofs.lemmas.Option.{same_Some, slice_get_within}
use Rattle.tss_pipeline.specs.declared.bank.Bank.{Bank}
use Rattle.tss_pipeline.proofs.version_rows.VersionLookups.{read_there, none_there, here_or_before}
use Rattle.tss_pipeline.proofs.units.Units.bank_with.Goals as goal

pub returns-then-has : goal.returns-then-has
returns-then-has c =
    let below = c.loop-bank-test.true in
    let count = c.requires.count in
    record {
      bank = c.index.result.now;
      there =
          read_there c.args.self.now.banks.items c.loop-bank.bank c.index.result.now (omega (arith, below, count))
          c.index.ensures;
      registered = sym c.has.ensures ∙ c.if-has.true;
    }

pub loop-bank-preserved : goal.loop-bank-preserved
loop-bank-preserved c i b within at = elim (here_or_before i c.loop-bank.bank within) [
  | inl here ↦
      let below = c.loop-bank-test.true in
      let count = c.requires.count in
      let there = read_there c.args.self.now.banks.items c.loop-bank.bank c.index.result.now
      (omega (arith, below, count)) c.index.ensures in
      let same = same_Some c.index.result.now b (sym there
      ∙ ap (slice_get c.args.self.now.banks.items) (sym here)
      ∙ at) in
      none_there (get b.versions.versions c.args.v)
      (ap (λ (b : Bank). is_some (get b.versions.versions c.args.v)) (sym same) ∙ sym c.has.ensures ∙ c.if-has.false)
  | inr before ↦ c.loop-bank.invariant i b before at
]

pub returns : goal.returns
returns c n b at =
    let within = slice_get_within c.args.self.now.banks.items n b at in
    let end = c.loop-bank-test.false in
    let count = c.requires.count in
    c.loop-bank.invariant n b (omega (arith, within, end, count)) at
