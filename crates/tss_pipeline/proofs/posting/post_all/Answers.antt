-- Each message may be posted before those that are left.
use Rattle.std.proofs.Common.{length, refl, sym, ap, subst, ◌∙◌, arith}
use Rattle.std.proofs.lemmas.List.{length-map}
use Rattle.tss_protocol.specs.Mail.{posted_all}
use Rattle.tss_events.specs.Events.{message_of, messages_of}
use Rattle.tss_mail.specs.Letters.{mail_of}
use Rattle.tss_conditions.specs.Posting.{MayPostAll, MayPostNext}
use Rattle.tss_conditions.proofs.Postable.{post_next}
use Rattle.tss_pipeline.specs.Letters.{with_letters}
use Rattle.tss_pipeline.proofs.places.LetterLemmas.{size_with_letter}
use Rattle.tss_pipeline.proofs.posting.post_all.Goals as goal

pub loop-message-init : goal.loop-message-init
loop-message-init c = record {
  size = refl;
  may = record {
    fresh = c.requires.fresh;
    room = let few = c.requires.room in let same = length-map c.args.sent message_of in omega (arith, few, same);
  };
  letters = refl;
  posted = refl;
}

-- the first of the messages that are left may be posted
next_may : (c : goal.After-post-arg-1)
    → MayPostNext c.loop-message.mail.size (mail_of c.loop-message.mail) (message_of c.in-Some.message)
    (messages_of c.pop.new.self)
next_may c =
    post_next c.loop-message.mail.size (mail_of c.loop-message.mail) (message_of c.in-Some.message)
    (messages_of c.pop.new.self)
    (subst (λ s. MayPostAll c.loop-message.mail.size (mail_of c.loop-message.mail) (messages_of s)) c.in-Some.ensures
    c.loop-message.invariant.may)

pub post-requires-clause-room : goal.post-requires-clause-room
post-requires-clause-room c = (next_may c).room

pub post-requires-clause-fresh : goal.post-requires-clause-fresh
post-requires-clause-fresh c = (next_may c).fresh

pub loop-message-smaller : goal.loop-message-smaller
loop-message-smaller c = let shorter = ap (λ s. length s) c.in-Some.ensures in omega (arith, shorter)

pub loop-message-preserved : goal.loop-message-preserved
loop-message-preserved c =
    let m = c.loop-message.mail in
    let x = c.in-Some.message in
    let xs = c.pop.new.self in
    let may =
    post_next m.size (mail_of m) (message_of x) (messages_of xs)
    (subst (λ s. MayPostAll m.size (mail_of m) (messages_of s)) c.in-Some.ensures c.loop-message.invariant.may) in
    let size = ap (λ n. n.size) c.post.ensures.exact ∙ size_with_letter m x in
    record {
      size = size ∙ c.loop-message.invariant.size;
      may =
          subst (λ n. MayPostAll n (mail_of c.post.new.self) (messages_of xs)) (sym size)
          (subst (λ n. MayPostAll m.size n (messages_of xs)) (sym c.post.ensures.posted) may.rest);
      letters =
          ap (λ n. with_letters n xs) c.post.ensures.exact
          ∙ ap (with_letters m) (sym c.in-Some.ensures)
          ∙ c.loop-message.invariant.letters;
      posted =
          ap (λ n. posted_all n (messages_of xs)) c.post.ensures.posted
          ∙ ap (λ s. posted_all (mail_of m) (messages_of s)) (sym c.in-Some.ensures)
          ∙ c.loop-message.invariant.posted;
    }

pub returns-clause-exact : goal.returns-clause-exact
returns-clause-exact c =
    ap (with_letters c.loop-message.mail) (sym c.in_default.ensures.0) ∙ c.loop-message.invariant.letters

pub returns-clause-posted : goal.returns-clause-posted
returns-clause-posted c =
    ap (λ s. posted_all (mail_of c.loop-message.mail) (messages_of s)) (sym c.in_default.ensures.0)
    ∙ c.loop-message.invariant.posted
