-- A version is gone from the bank of its object.
use Rattle.std.proofs.Common.{ℕ, refl, sym, ap, ◌∙◌, subst}
use Rattle.std.specs.Vec.{with_item}
use Rattle.tss_base.specs.declared.event.Event.TheVariants as event
use Rattle.tss_protocol.specs.Names.{bank_of}
use Rattle.tss_renaming.specs.Bank.{RenamingState, state_after_gone}
use Rattle.tss_events.specs.Events.{gone_of}
use Rattle.tss_pipeline.specs.Does.{Does}
use Rattle.tss_pipeline.specs.Fit.{HoldsGone}
use Rattle.tss_pipeline.proofs.renaming_rows.RenamingBanks.{some_banks, bank_there}
use Rattle.tss_pipeline.proofs.renaming_rows.GoneBanks.{gone_letter}
use Rattle.tss_pipeline.proofs.renaming_rows.GoneLemmas.{gone_does}
use Rattle.tss_pipeline.proofs.units.Units.gone.Goals as goal

pub take_gone-gone-requires : goal.take_gone-gone-requires
take_gone-gone-requires c = gone_letter c.args.self.now c.args.v c.requires.may

pub bank_of-bank-requires-clause-some : goal.bank_of-bank-requires-clause-some
bank_of-bank-requires-clause-some c = some_banks c.args.self.now c.requires.fit

-- its tokens are those of the bank of its object
tokens : (c : goal.After-gone-arg-1) → HoldsGone c.index_mut.result.now.renaming c.take_gone-gone.result
tokens c =
    let u = c.args.self.now in
    let x = c.take_gone-gone.result in
    let b = c.index_mut.result.now in
    let there =
    bank_there u.banks.items c.bank_of-bank.result (bank_of u.machine.sizes x.object) b c.bank_of-bank.ensures.exact
    c.bank_of-bank.ensures.within c.index_mut.ensures.value in
    (c.requires.fit.placed.letters (bank_of u.machine.sizes x.object) b there).gones c.args.v x
    c.take_gone-gone.ensures.exact refl

pub gone-requires-clause-place_number : goal.gone-requires-clause-place_number
gone-requires-clause-place_number c = (tokens c).place.number

pub gone-requires-clause-place : goal.gone-requires-clause-place
gone-requires-clause-place c = (tokens c).place.place

pub gone-requires-clause-buffer_number : goal.gone-requires-clause-buffer_number
gone-requires-clause-buffer_number c = λ h e. ((tokens c).buffer h e).number

pub gone-requires-clause-buffer : goal.gone-requires-clause-buffer
gone-requires-clause-buffer c = λ h e. ((tokens c).buffer h e).place

pub returns : goal.returns
returns c =
    let u = c.args.self.now in
    let v = c.args.v in
    let x = c.take_gone-gone.result in
    let b = c.index_mut.result.now in
    let there =
    bank_there u.banks.items c.bank_of-bank.result (bank_of u.machine.sizes x.object) b c.bank_of-bank.ensures.exact
    c.bank_of-bank.ensures.within c.index_mut.ensures.value in
    let left =
    c.gone.ensures.exact ∙ ap (λ w. state_after_gone b.renaming w (gone_of x)) c.take_gone-gone.ensures.named in
    subst
    (λ (p : ℕ × RenamingState). Does (event.Gone v) u
    (record u { banks = with_item u.banks p.0 (record b { renaming = p.1 }); mail = c.take_gone-gone.new.mail }))
    (λ i. (sym c.bank_of-bank.ensures.exact i, sym left i))
    (gone_does u c.requires.fit v x c.take_gone-gone.ensures.exact b there c.requires.may c.take_gone-gone.new.mail
    c.take_gone-gone.ensures.others c.take_gone-gone.ensures.taken)
