-- A restart leaves main a budget, and follows program order where that stands there.
use Rattle.std.proofs.Common.{◌<◌, sym, ap, subst, ◌∙◌}
use Rattle.tss_inorder.specs.Restarts.{restarted}
use Rattle.tss_inorder.specs.Flats.{FlatState}
use Rattle.tss_inorder.specs.Order.{Follows}
use Rattle.tss_inorder.proofs.RestartLemmas.{follows-restarted, left_at-barrier}
use Rattle.tss_inorder.proofs.flat.Flat.restart.Goals as goal

pub restart-requires-clause-left : goal.restart-requires-clause-left
restart-requires-clause-left c =
    subst (λ (s : FlatState). c.args.regs.now.done < s.limits.main_budget) (sym c.self.view_is)
    (left_at-barrier c.args.self.now.code c.args.self.now.limits c.args.regs.now c.args.space.now c.requires.barrier)

pub returns-clause-follows : goal.returns-clause-follows
returns-clause-follows c i stands =
    subst (Follows i)
    (ap (λ (s : FlatState). restarted s c.args.regs.now c.args.spawned c.args.output.now c.args.space.now) (sym c.self.view_is)
    ∙ (λ j. record {
      limits = (sym c.restart.ensures j).limits;
      code = c.self.inside.code;
      main = (sym c.restart.ensures j).main;
      memory = sym c.copy_writable.ensures.copied j;
    }))
    (follows-restarted i c.args.self.now c.args.regs.now c.args.spawned c.args.output.now c.args.space.now stands c.requires.barrier)
