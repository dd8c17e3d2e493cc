-- The number of each kind, in order.
use Rattle.std.proofs.Common.{◌∷◌, [], refl, ◌∙◌}
use Rattle.tss_base.specs.declared.event.Event.TheVariants as event
use Rattle.tss_protocol.specs.UnitMachine.{is_enabled}
use Rattle.tss_mail.specs.declared.kind.Kind.TheVariants as kind
use Rattle.tss_pipeline.specs.State.{state_of}
use Rattle.tss_pipeline.proofs.listed.KeptNumbers.{one_event}
use Rattle.tss_pipeline.proofs.listed.ListedNames.{listed_count}
use Rattle.tss_pipeline.proofs.units.Units.numbers.Goals as goal

pub returns : goal.returns
returns c =
    let u = c.args.self.now in
    let may = is_enabled u.machine (state_of u) in
    let w = c.requires.waiting in
    let main = c.one_if.ensures ∙ one_event may event.Main c.can_main.result c.can_main.ensures in
    let take = c.one_if-2.ensures ∙ one_event may event.Take c.can_take.result c.can_take.ensures in
    let opens = c.len.ensures.exact ∙ listed_count u kind.Open refl c.args.waiting.now.opens w.opens in
    let uses = c.len-2.ensures.exact ∙ listed_count u kind.Use refl c.args.waiting.now.uses w.uses in
    λ i.
    main i
    ∷ take i
    ∷ w.decodes i
    ∷ c.letters.ensures i
    ∷ opens i
    ∷ uses i
    ∷ c.letters-2.ensures i
    ∷ c.letters-3.ensures i
    ∷ w.starts i
    ∷ w.execs i
    ∷ w.finishes i
    ∷ c.letters-4.ensures i
    ∷ c.letters-5.ensures i
    ∷ c.letters-6.ensures i
    ∷ c.letters-7.ensures i
    ∷ w.retires i
    ∷ w.copies i
    ∷ c.letters-8.ensures i
    ∷ []
