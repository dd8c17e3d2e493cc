-- A message is taken, and messages are sent: nothing beyond the scope is changed.
use Rattle.std.proofs.Common.{List}
use Rattle.tss_base.specs.declared.event.Event.{Event}
use Rattle.tss_protocol.specs.Mail.{Message, posted_all, taken}
use Rattle.tss_protocol.specs.State.{State}
use Rattle.tss_protocol.specs.Versions.{Versioned}
use Rattle.tss_protocol.specs.UnitMachine.{without, with_sent, with_versioned}
use Rattle.tss_locality.specs.Scopes.{Scope, beyond, ChangesOnly, AreSentIn}
use Rattle.tss_locality.proofs.Messages.{TakesIn, mail_taken, mail_posted_all, named_from_all_in}
use Rattle.tss_locality.proofs.States.{same_state, state_mail, state_versions}
use Rattle.tss_locality.proofs.VersionChanges.{StaysIn}

module _ (c : Scope) (S : State) where
  -- a state as it stands
  pub changes_none : ChangesOnly c S S
  changes_none = same_state (beyond c) S

  -- the message of an event is taken
  pub changes_taken : (e : Event) → TakesIn c e → ChangesOnly c S (without S e)
  changes_taken e p = state_mail (beyond c) S S changes_none (taken S.mail e) (mail_taken c S.mail e p)

  -- messages are sent after other changes
  pub changes_sent : (T : State) → ChangesOnly c S T → (ms : List Message) → AreSentIn c ms →
      ChangesOnly c S (with_sent T ms)
  changes_sent T f ms p =
      state_mail (beyond c) S T f (posted_all T.mail ms) (mail_posted_all c S.mail T.mail f.mail ms p)

  -- versions are changed and messages sent, after a message was taken
  pub changes_versioned : (e : Event) → TakesIn c e → (d : Versioned) → StaysIn c S.versions d →
      ChangesOnly c S (with_versioned (without S e) d)
  changes_versioned e p d s =
      changes_sent (record (without S e) { versions = d.part })
      (state_versions (beyond c) S (without S e) (changes_taken e p) d.part s.versions.same) d.sent
      (named_from_all_in c d.sent s.sent)
