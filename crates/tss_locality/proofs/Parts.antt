-- Agreement on less, and that a change leaves the part of every object that it doesn't concern.
use Rattle.std.proofs.Common.{ℕ, sym, ap, ◌∙◌}
use Rattle.tss_base.specs.declared.range.Range.{Range}
use Rattle.tss_base.specs.declared.operand.OpName.{OpName}
use Rattle.tss_protocol.specs.State.{State}
use Rattle.tss_locality.specs.Extents.{Extent, SameOn, object_part}
use Rattle.tss_locality.specs.Scopes.{Scope, ChangesOnly, IsApart}
use Rattle.tss_locality.proofs.Agreements.{agree_less}
use Rattle.tss_locality.proofs.Messages.{mail_less}

-- a part that lies in another
record LiesIn (d e : Extent) : Type 0 where
  pub names : (o : OpName) → d.names o → e.names o
  pub own : (o : OpName) → d.own o → e.own o
  pub bases : (b : ℕ) → d.bases b → e.bases b
  pub addresses : (a : ℕ) → d.addresses a → e.addresses a
  pub objects : (x : Range) → d.objects x → e.objects x
  pub tasks : (n : ℕ) → d.tasks n → e.tasks n

-- two states that agree on a part agree on what lies in it
same_less : (d e : Extent) (S T : State) → LiesIn d e → SameOn e S T → SameOn d S T
same_less d e S T less f = record {
  code = f.code;
  ranges = f.ranges;
  home = λ a p. f.home a (less.addresses a p);
  inbox = λ t p. f.inbox t (less.tasks t.number p);
  arrivals = λ o p. f.arrivals o (less.names o p);
  gateway = agree_less e.own d.own S.gateway T.gateway less.own f.gateway;
  flight = agree_less e.tasks d.tasks S.flight T.flight less.tasks f.flight;
  shapes = f.shapes;
  operands = λ o p. f.operands o (less.names o p);
  queue = λ n p. f.queue n (less.tasks n p);
  workers = λ w b p. f.workers w b (less.tasks b.task.number p);
  entries = agree_less e.bases d.bases S.entries T.entries less.bases f.entries;
  places = agree_less e.names d.names S.places T.places less.names f.places;
  buffers = agree_less e.names d.names S.buffers T.buffers less.names f.buffers;
  contents = agree_less e.names d.names S.contents T.contents less.names f.contents;
  versions = agree_less e.names d.names S.versions T.versions less.names f.versions;
  mail = mail_less e.names e.own d.names d.own S.mail T.mail less.names less.own f.mail;
  copies = λ b k p. f.copies b k (less.objects k.object p);
  trap = λ h p there. f.trap h (less.tasks h.task p) there;
}

-- an object that a change doesn't concern has the same part after it
pub same_object : (c : Scope) (names : OpName → Type 0) (x : Range) (S T : State) → IsApart c names x →
    ChangesOnly c S T
    → SameOn (object_part names x) S T
same_object c names x S T apart only = same_less (object_part names x) _ S T (record {
  names = apart.names;
  own = λ o p in_c. apart.names o p in_c.0;
  bases = λ b same base. apart.base base.0 base.1 (sym same ∙ base.2);
  addresses = λ a there inside. apart.addresses a there inside;
  objects = λ y same object. apart.base y object (ap (λ (y : Range). y.base) (sym same));
  tasks = λ n p. absurd p;
}) only
