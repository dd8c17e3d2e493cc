-- The bytes are those of the form.
use Rattle.std.proofs.Common.{◌≡◌, IfOk, subst, sym}
use Rattle.tss_gen.specs.Workload.{workload_bytes}
use Rattle.tss_self.proofs.image.workload_in.Goals as goal

pub returns-in-Shifts-clause-exact : goal.returns-in-Shifts-clause-exact
returns-in-Shifts-clause-exact c =
    subst (λ form. IfOk c.workload.result (λ bytes. bytes.items ≡ workload_bytes form c.args.n)) (sym c.in-Shifts.is)
    c.workload.ensures.exact

pub returns-in-Products-clause-exact : goal.returns-in-Products-clause-exact
returns-in-Products-clause-exact c =
    subst (λ form. IfOk c.workload_mul.result (λ bytes. bytes.items ≡ workload_bytes form c.args.n)) (sym c.in-Products.is)
    c.workload_mul.ensures.exact
