-- Operand by operand the first release may be posted, and then the others.
use Rattle.std.proofs.Common.{◌+◌, refl, sym, ap, ◌∙◌, subst, arith}
use Rattle.std.specs.FinMap.{get}
use Rattle.tss_protocol.specs.Names.{operand_name}
use Rattle.tss_protocol.specs.Mail.{posted_all}
use Rattle.tss_stations.specs.Views.{flight_of, state_of}
use Rattle.tss_mail.specs.Letters.{mail_of}
use Rattle.tss_conditions.specs.Posting.{MayPostAll}
use Rattle.tss_pipeline.specs.Ending.{releases_in, release_by}
use Rattle.tss_pipeline.proofs.worker_rows.ReleaseLemmas.{may_first, may_rest, posted_both, next_release, no_release, past_releases, all_releases}
use Rattle.tss_pipeline.proofs.worker_events.release_all.Goals as goal

pub loop-place-init : goal.loop-place-init
loop-place-init c =
    let flight = flight_of c.args.stations.now.slots in
    let all = all_releases c.args.task flight in
    record {
      few = omega arith;
      may = subst (MayPostAll c.args.mail.now.size (mail_of c.args.mail.now)) all c.requires.may;
      posted = ap (posted_all (mail_of c.args.mail.now)) (sym all);
      rest = refl;
    }

pub returns-in_default-clause-posted : goal.returns-in_default-clause-posted
returns-in_default-clause-posted c =
    let flight = flight_of c.args.stations.now.slots in
    let none = no_release c.args.task flight c.loop-place.place (sym c.in_default.ensures.state) in
    ap (posted_all (mail_of c.loop-place.mail)) (sym none) ∙ c.loop-place.invariant.posted

pub returns-in_default-clause-rest : goal.returns-in_default-clause-rest
returns-in_default-clause-rest c = c.loop-place.invariant.rest

pub release-requires : goal.release-requires
release-requires c =
    let flight = flight_of c.args.stations.now.slots in
    let place = c.loop-place.place in
    let m = mail_of c.loop-place.mail in
    let view = c.in-Some.view in
    let own = release_by (operand_name c.args.task place) view in
    let others = releases_in c.args.task (place + 1) (get flight c.args.task) in
    let next = next_release c.args.task flight place (state_of view) (sym c.in-Some.ensures.state) in
    subst (λ n. MayPostAll n m own) (ap (λ l. l.size) (sym c.loop-place.invariant.rest))
    (may_first c.args.mail.now.size m own others
    (subst (MayPostAll c.args.mail.now.size m) next c.loop-place.invariant.may))

pub loop-place-preserved : goal.loop-place-preserved
loop-place-preserved c =
    let flight = flight_of c.args.stations.now.slots in
    let place = c.loop-place.place in
    let m = mail_of c.loop-place.mail in
    let view = c.in-Some.view in
    let own = release_by (operand_name c.args.task place) view in
    let others = releases_in c.args.task (place + 1) (get flight c.args.task) in
    let next = next_release c.args.task flight place (state_of view) (sym c.in-Some.ensures.state) in
    let less = c.loop-place-test.true in
    let rest = c.loop-place.invariant.rest in
    record {
      few = omega (arith, less);
      may =
          subst (λ n. MayPostAll c.args.mail.now.size n others) (sym c.release.ensures.posted)
          (may_rest c.args.mail.now.size m own others
          (subst (MayPostAll c.args.mail.now.size m) next c.loop-place.invariant.may));
      posted =
          ap (λ n. posted_all n others) c.release.ensures.posted
          ∙ posted_both m own others
          ∙ ap (posted_all m) (sym next)
          ∙ c.loop-place.invariant.posted;
      rest = c.release.ensures.rest ∙ (λ i. record (rest i) { releases = c.release.new.mail.releases });
    }

pub returns-clause-posted : goal.returns-clause-posted
returns-clause-posted c =
    let flight = flight_of c.args.stations.now.slots in
    let past = c.loop-place-test.false in
    let none = past_releases c.args.task flight c.loop-place.place
    (λ x at. let few = c.requires.few x at in omega (arith, few, past)) in
    ap (posted_all (mail_of c.loop-place.mail)) (sym none) ∙ c.loop-place.invariant.posted

pub returns-clause-rest : goal.returns-clause-rest
returns-clause-rest c = c.loop-place.invariant.rest
