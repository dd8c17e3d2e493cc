-- The banks are asked one after another.
use Rattle.std.proofs.Common.{◌≡◌, ◌+◌, ◌<◌, sym, ap, ◌∙◌, subst, arith}
use Rattle.std.specs.Prelude.{option_map}
use Rattle.tss_base.specs.declared.machine.Machine.{Machine}
use Rattle.tss_base.specs.declared.machine.Key.TheVariants as key
use Rattle.tss_banks.proofs.BankCounts.{bank_of_base_below}
use Rattle.std.proofs.Common.{refl}
use Rattle.tss_state_text.specs.Versions.{shown}
use Rattle.tss_state_text.proofs.NextEntries.{IsFirst}
use Rattle.tss_state_text.proofs.EarlierVersions.{IsBefore, earlier_entry, shown_earlier, first_of_none, first_with, first_of_all}
use Rattle.tss_state_text.proofs.versions.next_version.Goals as goal

pub loop-bank-init : goal.loop-bank-init
loop-bank-init c = first_of_none c.args.p.now.machine.sizes c.args.p.now.state.versions c.args.last

pub loop-bank-preserved : goal.loop-bank-preserved
loop-bank-preserved c =
    let sizes = c.args.p.now.machine.sizes in
    let vs = c.args.p.now.state.versions in
    let last = c.args.last in
    let b = c.loop-bank.bank in
    let first = c.loop-bank.first in
    let same =
    ap (option_map shown) c.earlier-first.ensures
    ∙ shown_earlier first c.next_in.result
    ∙ ap (earlier_entry (option_map shown first)) c.next_in.ensures in
    subst (IsFirst vs (IsBefore sizes last (b + 1))) (sym same)
    (first_with sizes vs last b (option_map shown first) c.loop-bank.invariant)

pub returns : goal.returns
returns c =
    let m = c.args.p.now.machine in
    let vs = c.args.p.now.state.versions in
    let last = c.args.last in
    let first = option_map shown c.loop-bank.first in
    let range = c.reached.ensures.reached.reached.admissible.sizes key.Banks m.sizes.banks refl in
    let some : 0 < m.sizes.banks = omega (arith, range) in
    let count : c.machine.result.now.sizes.banks ≡ m.sizes.banks = ap (λ (m : Machine). m.sizes.banks) c.machine.ensures in
    let past = c.loop-bank-test.false in
    let upto = c.loop-bank.auto.bank-end in
    let end : c.loop-bank.bank ≡ m.sizes.banks = omega (arith, count, past, upto) in
    first_of_all m.sizes vs last m.sizes.banks first (λ x. bank_of_base_below m.sizes x.object.base some)
    (subst (λ b. IsFirst vs (IsBefore m.sizes last b) first) end c.loop-bank.invariant)
