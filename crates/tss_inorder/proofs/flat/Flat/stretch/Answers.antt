-- An event beside program order.
use Rattle.std.proofs.Common.{sym, ap, subst, ◌∙◌}
use Rattle.tss_inorder.specs.Flats.{FlatState, GoesFurther}
use Rattle.tss_inorder.specs.Order.{Follows, StandsInOrder, EndsInOrder}
use Rattle.tss_inorder.proofs.OrderLemmas.{follows-stretched, stands_in_order, ends_in_order, by_did, goes_further}
use Rattle.tss_inorder.proofs.flat.Flat.stretch.Goals as goal

pub returns-clause-further : goal.returns-clause-further
returns-clause-further c =
    by_did c.args.self.now c.event.new.self (GoesFurther c.args.self.now c.event.new.self) (λ e. Unit {0})
    (λ none.
    subst (λ (s : FlatState). GoesFurther c.args.self.now s) (sym c.event.ensures.exact)
    (goes_further c.args.quantum c.requires c.args.self.now (ap (λ (s : FlatState). s.main.ending) (sym c.event.ensures.exact) ∙ none)))
    (λ e some. tt) c.event.result c.event.ensures.did

pub returns-clause-follows : goal.returns-clause-follows
returns-clause-follows c i follows =
    subst (Follows i) (sym c.event.ensures.exact) (follows-stretched i c.args.self.now follows c.args.quantum)

pub returns-clause-in_order : goal.returns-clause-in_order
returns-clause-in_order c i follows =
    let after = subst (Follows i) (sym c.event.ensures.exact) (follows-stretched i c.args.self.now follows c.args.quantum) in
    by_did c.args.self.now c.event.new.self (StandsInOrder i c.event.new.self) (EndsInOrder i c.event.new.self)
    (stands_in_order i c.event.new.self after) (ends_in_order i c.event.new.self after) c.event.result c.event.ensures.did
