-- A store by the rule of access.
use Rattle.std.proofs.Common.{◌≡◌, ℕ, List, ◌++◌, length, take, drop, arith}
use Rattle.std.proofs.lemmas.Grind.{common_steps}
use Rattle.tss_core.specs.Views.{stored}
use Rattle.tss_core_tests.specs.Plain.{main_sight, bytes_after}
use Rattle.tss_core_tests.proofs.PlainLemmas.{LiesIn, IsAfter-main_sight}
use Rattle.tss_core_tests.proofs.tests.plain_main.PlainMainView.store.Goals as goal

pub returns-clause-bytes : goal.returns-clause-bytes
returns-clause-bytes c =
    let bytes : List ℕ = c.args.self.now.bytes.items in
    let new : List ℕ = take c.args.self.now.bytes.len (c.put.new.bytes ++ drop (length c.put.new.bytes) bytes) in
    let writable = c.args.self.now.writable in
    let named = c.args.self.now.named.items in
    let text = c.args.self.now.text in
    let code = c.args.self.now.code.items in
    let w = stored (main_sight bytes writable named text code) c.args.at c.args.width c.args.value in
    let left : new ≡ bytes_after bytes w = grind (arith, common_steps) in
    let there : LiesIn bytes w = grind (arith, common_steps) in
    IsAfter-main_sight bytes new writable named text code w left there
