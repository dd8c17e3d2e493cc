-- A closed state stays closed where one of its fields is changed and stays closed.
use Rattle.std.proofs.Common.{◌≡◌, Option, Some}
use Rattle.tss_base.specs.declared.operand.OpName.{OpName}
use Rattle.tss_base.specs.declared.operand.Operand.{Operand}
use Rattle.tss_base.specs.declared.operand.Task.{Task}
use Rattle.tss_base.specs.Names.{Named, Numbered}
use Rattle.tss_protocol.specs.Mail.{Mail}
use Rattle.tss_protocol.specs.State.{Flying, Entry, Version, State}
use Rattle.tss_locality.specs.Agreement.{operand_in}
use Rattle.tss_locality.specs.Scopes.{Scope, ClosedVersions, ClosedMail, ClosedFlight, ClosedEntries, ClosedCopies}
use Rattle.tss_locality.specs.Scopes.{ClosedWorkers, Closed}

-- what the inbox's operands of a scope name
abbrev pub ClosedInbox : Scope → Option Task → Type 0
ClosedInbox c inbox = (o : OpName) (p : Operand) → c.names o → operand_in inbox o ≡ Some p → c.objects p.object

module _ (c : Scope) (S : State) where
  -- by its fields, in their order
  pub closed_by : ClosedInbox c S.inbox → ClosedFlight c S.flight → ClosedWorkers c S.workers →
      ClosedEntries c S.entries
      → ClosedVersions c S.versions → ClosedMail c S.mail → ClosedCopies c S.copies → Closed c S
  closed_by a f w e v m k = record {
    arrivals = a;
    flight = f;
    workers = w;
    entries = e;
    versions = v;
    mail = m;
    copies = k;
  }

module _ (c : Scope) (S : State) (f : Closed c S) where
  -- other tasks in flight
  pub closed_flight : (x : Numbered Flying) → ClosedFlight c x → Closed c (record S { flight = x })
  closed_flight x p = closed_by c (record S { flight = x }) f.arrivals p f.workers f.entries f.versions f.mail f.copies

  -- other entries
  pub closed_entries : (x : Numbered Entry) → ClosedEntries c x → Closed c (record S { entries = x })
  closed_entries x p = closed_by c (record S { entries = x }) f.arrivals f.flight f.workers p f.versions f.mail f.copies

  -- other versions
  pub closed_versions : (x : Named Version) → ClosedVersions c x → Closed c (record S { versions = x })
  closed_versions x p = closed_by c (record S { versions = x }) f.arrivals f.flight f.workers f.entries p f.mail
      f.copies

  -- other messages
  pub closed_mail : (x : Mail) → ClosedMail c x → Closed c (record S { mail = x })
  closed_mail x p = closed_by c (record S { mail = x }) f.arrivals f.flight f.workers f.entries f.versions p f.copies
