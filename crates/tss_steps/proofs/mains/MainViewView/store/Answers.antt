-- What main sees after a store.
use Rattle.tss_steps.proofs.ViewLemmas.{main_after}
use Rattle.tss_steps.proofs.mains.MainViewView.store.Goals as goal

pub returns-clause-bytes : goal.returns-clause-bytes
returns-clause-bytes c =
    main_after c.args.self.now.code.now c.args.self.now.epoch.now.objects c.args.self.now.space.now c.set_number.new.self
    c.args.at c.args.width c.args.value c.in_ok-found.ensures.granted c.set_number.ensures
