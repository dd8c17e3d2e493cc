-- Closed messages stay closed where a message is sent with contents of its name's scope, and where one is taken.
use Rattle.std.proofs.Common.{List, [], ◌∷◌}
use Rattle.tss_base.specs.declared.event.Event.{Event}
use Rattle.tss_base.specs.declared.event.Event.TheVariants as event
use Rattle.tss_maps.proofs.Keys.{name_order}
use Rattle.tss_protocol.specs.Mail.{Message, Decode, Ack, Open, Use, Ready, Link, Release, Bye, Idle, Nack, Retire}
use Rattle.tss_protocol.specs.Mail.{Gone, Mail, posted, posted_all, taken}
use Rattle.tss_locality.specs.Agreement.{ClosedAt}
use Rattle.tss_locality.specs.Scopes.{Scope, IsBase, SourceIn, OpeningIn, GoingIn, MessageIn, MessagesIn, ClosedMail}
use Rattle.tss_locality.proofs.Agreements.{closed_put, closed_removed}

-- the contents of a message whose name is of the scope are of the scope
abbrev KeepsIn : Scope → Message → Type 0
KeepsIn c (Decode o operand) = c.names o → c.objects operand.object
KeepsIn c (Ack o) = Unit {0}
KeepsIn c (Open o x) = c.names o → OpeningIn c x
KeepsIn c (Use o v) = c.names o → c.names v
KeepsIn c (Ready o s) = c.names o → SourceIn c s
KeepsIn c (Link o next) = c.names o → c.names next
KeepsIn c (Release o r) = c.names o → c.names r.version
KeepsIn c (Bye o promised) = Unit {0}
KeepsIn c (Idle v i) = c.names v → IsBase c i.base
KeepsIn c (Nack v) = Unit {0}
KeepsIn c (Retire v) = Unit {0}
KeepsIn c (Gone v g) = c.names v → GoingIn c g

-- of each message of a list
abbrev pub KeepAllIn : Scope → List Message → Type 0
KeepAllIn c [] = Unit {0}
KeepAllIn c (m ∷ ms) = KeepsIn c m × KeepAllIn c ms

module _ (c : Scope) where
  -- by the eight kinds with contents that name something, in their order
  mail_closed : (m : Mail)
      → ClosedAt c.names (λ p. c.objects p.object) m.decodes
      → ClosedAt c.names (OpeningIn c) m.opens
      → ClosedAt c.names c.names m.uses
      → ClosedAt c.names (SourceIn c) m.readies
      → ClosedAt c.names c.names m.links
      → ClosedAt c.names (λ r. c.names r.version) m.releases
      → ClosedAt c.names (λ i. IsBase c i.base) m.idles
      → ClosedAt c.names (GoingIn c) m.gones
      → ClosedMail c m
  mail_closed m a b d e f g h i = record {
    decodes = a;
    opens = b;
    uses = d;
    readies = e;
    links = f;
    releases = g;
    idles = h;
    gones = i;
  }

  module _ (m : Mail) (f : ClosedMail c m) where
    -- a message with such contents is sent
    closed_posted : (x : Message) → KeepsIn c x → ClosedMail c (posted m x)
    closed_posted (Decode o operand) p =
        mail_closed (posted m (Decode o operand))
        (closed_put name_order c.names (λ p. c.objects p.object) m.decodes o operand f.decodes p) f.opens f.uses
        f.readies f.links f.releases f.idles f.gones
    closed_posted (Open o x) p =
        mail_closed (posted m (Open o x)) f.decodes
        (closed_put name_order c.names (OpeningIn c) m.opens o x f.opens p) f.uses f.readies f.links f.releases
        f.idles f.gones
    closed_posted (Use o v) p =
        mail_closed (posted m (Use o v)) f.decodes f.opens
        (closed_put name_order c.names c.names m.uses o v f.uses p) f.readies f.links f.releases f.idles f.gones
    closed_posted (Ready o s) p =
        mail_closed (posted m (Ready o s)) f.decodes f.opens f.uses
        (closed_put name_order c.names (SourceIn c) m.readies o s f.readies p) f.links f.releases f.idles f.gones
    closed_posted (Link o next) p =
        mail_closed (posted m (Link o next)) f.decodes f.opens f.uses f.readies
        (closed_put name_order c.names c.names m.links o next f.links p) f.releases f.idles f.gones
    closed_posted (Release o r) p =
        mail_closed (posted m (Release o r)) f.decodes f.opens f.uses f.readies f.links
        (closed_put name_order c.names (λ r. c.names r.version) m.releases o r f.releases p) f.idles f.gones
    closed_posted (Idle v i) p =
        mail_closed (posted m (Idle v i)) f.decodes f.opens f.uses f.readies f.links f.releases
        (closed_put name_order c.names (λ i. IsBase c i.base) m.idles v i f.idles p) f.gones
    closed_posted (Gone v g) p =
        mail_closed (posted m (Gone v g)) f.decodes f.opens f.uses f.readies f.links f.releases f.idles
        (closed_put name_order c.names (GoingIn c) m.gones v g f.gones p)
    closed_posted other p =
        mail_closed (posted m other) f.decodes f.opens f.uses f.readies f.links f.releases f.idles f.gones

    -- a message is taken
    pub closed_taken : (e : Event) → ClosedMail c (taken m e)
    closed_taken (event.Decode o) =
        mail_closed (taken m (event.Decode o))
        (closed_removed name_order c.names (λ p. c.objects p.object) m.decodes o f.decodes) f.opens f.uses
        f.readies f.links f.releases f.idles f.gones
    closed_taken (event.Open o) =
        mail_closed (taken m (event.Open o)) f.decodes
        (closed_removed name_order c.names (OpeningIn c) m.opens o f.opens) f.uses f.readies f.links f.releases
        f.idles f.gones
    closed_taken (event.Use o) =
        mail_closed (taken m (event.Use o)) f.decodes f.opens
        (closed_removed name_order c.names c.names m.uses o f.uses) f.readies f.links f.releases f.idles f.gones
    closed_taken (event.Ready o) =
        mail_closed (taken m (event.Ready o)) f.decodes f.opens f.uses
        (closed_removed name_order c.names (SourceIn c) m.readies o f.readies) f.links f.releases f.idles f.gones
    closed_taken (event.Link o) =
        mail_closed (taken m (event.Link o)) f.decodes f.opens f.uses f.readies
        (closed_removed name_order c.names c.names m.links o f.links) f.releases f.idles f.gones
    closed_taken (event.Release o) =
        mail_closed (taken m (event.Release o)) f.decodes f.opens f.uses f.readies f.links
        (closed_removed name_order c.names (λ r. c.names r.version) m.releases o f.releases) f.idles f.gones
    closed_taken (event.Idle o) =
        mail_closed (taken m (event.Idle o)) f.decodes f.opens f.uses f.readies f.links f.releases
        (closed_removed name_order c.names (λ i. IsBase c i.base) m.idles o f.idles) f.gones
    closed_taken (event.Gone o) =
        mail_closed (taken m (event.Gone o)) f.decodes f.opens f.uses f.readies f.links f.releases f.idles
        (closed_removed name_order c.names (GoingIn c) m.gones o f.gones)
    closed_taken event.Main = f
    closed_taken event.Take = f
    closed_taken (event.Start n) = f
    closed_taken (event.Exec n) = f
    closed_taken (event.Finish n) = f
    closed_taken (event.Copy n) = f
    closed_taken e = mail_closed (taken m e) f.decodes f.opens f.uses f.readies f.links f.releases f.idles f.gones

  -- messages with such contents are sent
  pub closed_posted_all : (m : Mail) → ClosedMail c m → (xs : List Message) → KeepAllIn c xs →
      ClosedMail c (posted_all m xs)
  closed_posted_all m f [] p = f
  closed_posted_all m f (x ∷ xs) p = closed_posted_all (posted m x) (closed_posted m f x p.0) xs p.1

  -- a message of the scope is one
  keeps_from_in : (x : Message) → MessageIn c x → KeepsIn c x
  keeps_from_in (Ack o) p = tt
  keeps_from_in (Bye o promised) p = tt
  keeps_from_in (Nack v) p = tt
  keeps_from_in (Retire v) p = tt
  keeps_from_in other p = λ q. p.1

  -- and each of a list
  pub keep_all_from_in : (xs : List Message) → MessagesIn c xs → KeepAllIn c xs
  keep_all_from_in [] p = tt
  keep_all_from_in (x ∷ xs) p = (keeps_from_in x p.0, keep_all_from_in xs p.1)
