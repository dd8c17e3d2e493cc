-- Messages agree: a change of one kind, what is sent and what is taken.
use Rattle.std.proofs.Common.{Bool, List, [], ◌∷◌}
use Rattle.std.specs.FinMap.{insert, remove}
use Rattle.tss_base.specs.declared.operand.OpName.{OpName}
use Rattle.tss_base.specs.declared.operand.Operand.{Operand}
use Rattle.tss_base.specs.declared.event.Event.{Event}
use Rattle.tss_base.specs.declared.event.Event.TheVariants as event
use Rattle.tss_base.specs.Names.{Named}
use Rattle.tss_maps.proofs.Keys.{name_order}
use Rattle.tss_protocol.specs.Mail.{Source, OpenContents, ReleaseContents, IdleContents, GoneContents, Message, Decode}
use Rattle.tss_protocol.specs.Mail.{Ack, Open, Use, Ready, Link, Release, Bye, Idle, Nack, Retire, Gone, Mail, posted}
use Rattle.tss_protocol.specs.Mail.{posted_all, taken}
use Rattle.tss_locality.specs.Agreement.{Beyond, AgreeAt, MailAgrees}
use Rattle.tss_locality.specs.Scopes.{Scope, IsOwn, MessageIn, MessagesIn, IsSentIn, AreSentIn}
use Rattle.tss_locality.proofs.Agreements.{agree_same, agree_then, agree_less, agree_inserted, agree_removed}

module _ (names own : OpName → Type 0) where
  -- by its twelve kinds, in their order
  mail_by : (m n : Mail)
      → AgreeAt own m.decodes n.decodes
      → AgreeAt own m.acks n.acks
      → AgreeAt own m.opens n.opens
      → AgreeAt own m.uses n.uses
      → AgreeAt own m.releases n.releases
      → AgreeAt own m.byes n.byes
      → AgreeAt names m.readies n.readies
      → AgreeAt names m.links n.links
      → AgreeAt names m.idles n.idles
      → AgreeAt names m.nacks n.nacks
      → AgreeAt names m.retires n.retires
      → AgreeAt names m.gones n.gones
      → MailAgrees names own m n
  mail_by m n a b c d e f g h i j k l = record {
    decodes = a;
    acks = b;
    opens = c;
    uses = d;
    releases = e;
    byes = f;
    readies = g;
    links = h;
    idles = i;
    nacks = j;
    retires = k;
    gones = l;
  }

  -- messages agree with themselves
  pub mail_same : (m : Mail) → MailAgrees names own m m
  mail_same m =
      mail_by m m
      (agree_same own m.decodes) (agree_same own m.acks) (agree_same own m.opens) (agree_same own m.uses)
      (agree_same own m.releases) (agree_same own m.byes) (agree_same names m.readies) (agree_same names m.links)
      (agree_same names m.idles) (agree_same names m.nacks) (agree_same names m.retires) (agree_same names m.gones)

  -- a change of one kind after others
  module _ (m n : Mail) (f : MailAgrees names own m n) where
    mail_decodes : (x : Named Operand) → AgreeAt own n.decodes x → MailAgrees names own m (record n { decodes = x })
    mail_decodes x p =
        mail_by m (record n { decodes = x }) (agree_then own m.decodes n.decodes x f.decodes p) f.acks f.opens f.uses
        f.releases
        f.byes f.readies f.links f.idles f.nacks f.retires f.gones

    mail_acks : (x : Named (Unit {0})) → AgreeAt own n.acks x → MailAgrees names own m (record n { acks = x })
    mail_acks x p =
        mail_by m (record n { acks = x }) f.decodes (agree_then own m.acks n.acks x f.acks p) f.opens f.uses f.releases
        f.byes f.readies f.links f.idles f.nacks f.retires f.gones

    mail_opens : (x : Named OpenContents) → AgreeAt own n.opens x → MailAgrees names own m (record n { opens = x })
    mail_opens x p =
        mail_by m (record n { opens = x }) f.decodes f.acks (agree_then own m.opens n.opens x f.opens p) f.uses
        f.releases
        f.byes f.readies f.links f.idles f.nacks f.retires f.gones

    mail_uses : (x : Named OpName) → AgreeAt own n.uses x → MailAgrees names own m (record n { uses = x })
    mail_uses x p =
        mail_by m (record n { uses = x }) f.decodes f.acks f.opens (agree_then own m.uses n.uses x f.uses p) f.releases
        f.byes f.readies f.links f.idles f.nacks f.retires f.gones

    mail_releases : (x : Named ReleaseContents) → AgreeAt own n.releases x →
        MailAgrees names own m (record n { releases = x })
    mail_releases x p =
        mail_by m (record n { releases = x }) f.decodes f.acks f.opens f.uses
        (agree_then own m.releases n.releases x f.releases p)
        f.byes f.readies f.links f.idles f.nacks f.retires f.gones

    mail_byes : (x : Named Bool) → AgreeAt own n.byes x → MailAgrees names own m (record n { byes = x })
    mail_byes x p =
        mail_by m (record n { byes = x }) f.decodes f.acks f.opens f.uses f.releases
        (agree_then own m.byes n.byes x f.byes p) f.readies f.links f.idles f.nacks f.retires f.gones

    mail_readies : (x : Named Source) → AgreeAt names n.readies x → MailAgrees names own m (record n { readies = x })
    mail_readies x p =
        mail_by m (record n { readies = x }) f.decodes f.acks f.opens f.uses f.releases
        f.byes (agree_then names m.readies n.readies x f.readies p) f.links f.idles f.nacks f.retires f.gones

    mail_links : (x : Named OpName) → AgreeAt names n.links x → MailAgrees names own m (record n { links = x })
    mail_links x p =
        mail_by m (record n { links = x }) f.decodes f.acks f.opens f.uses f.releases
        f.byes f.readies (agree_then names m.links n.links x f.links p) f.idles f.nacks f.retires f.gones

    mail_idles : (x : Named IdleContents) → AgreeAt names n.idles x → MailAgrees names own m (record n { idles = x })
    mail_idles x p =
        mail_by m (record n { idles = x }) f.decodes f.acks f.opens f.uses f.releases
        f.byes f.readies f.links (agree_then names m.idles n.idles x f.idles p) f.nacks f.retires f.gones

    mail_nacks : (x : Named (Unit {0})) → AgreeAt names n.nacks x → MailAgrees names own m (record n { nacks = x })
    mail_nacks x p =
        mail_by m (record n { nacks = x }) f.decodes f.acks f.opens f.uses f.releases
        f.byes f.readies f.links f.idles (agree_then names m.nacks n.nacks x f.nacks p) f.retires f.gones

    mail_retires : (x : Named (Unit {0})) → AgreeAt names n.retires x →
        MailAgrees names own m (record n { retires = x })
    mail_retires x p =
        mail_by m (record n { retires = x }) f.decodes f.acks f.opens f.uses f.releases
        f.byes f.readies f.links f.idles f.nacks (agree_then names m.retires n.retires x f.retires p) f.gones

    mail_gones : (x : Named GoneContents) → AgreeAt names n.gones x → MailAgrees names own m (record n { gones = x })
    mail_gones x p =
        mail_by m (record n { gones = x }) f.decodes f.acks f.opens f.uses f.releases
        f.byes f.readies f.links f.idles f.nacks f.retires (agree_then names m.gones n.gones x f.gones p)

-- agreement on less
pub mail_less : (names own names_less own_less : OpName → Type 0) (m n : Mail) →
    ((o : OpName) → names_less o → names o) →
    ((o : OpName) → own_less o → own o) → MailAgrees names own m n → MailAgrees names_less own_less m n
mail_less names own names_less own_less m n less less_own f = record {
  decodes = agree_less own own_less m.decodes n.decodes less_own f.decodes;
  acks = agree_less own own_less m.acks n.acks less_own f.acks;
  opens = agree_less own own_less m.opens n.opens less_own f.opens;
  uses = agree_less own own_less m.uses n.uses less_own f.uses;
  releases = agree_less own own_less m.releases n.releases less_own f.releases;
  byes = agree_less own own_less m.byes n.byes less_own f.byes;
  readies = agree_less names names_less m.readies n.readies less f.readies;
  links = agree_less names names_less m.links n.links less f.links;
  idles = agree_less names names_less m.idles n.idles less f.idles;
  nacks = agree_less names names_less m.nacks n.nacks less f.nacks;
  retires = agree_less names names_less m.retires n.retires less f.retires;
  gones = agree_less names names_less m.gones n.gones less f.gones;
}

module _ (c : Scope) where
  abbrev Names : OpName → Type 0
  Names = Beyond c.names

  abbrev Own : OpName → Type 0
  Own = Beyond (IsOwn c)

  -- nothing beyond the scope has other messages
  abbrev MailOnly : Mail → Mail → Type 0
  MailOnly m n = MailAgrees (Beyond c.names) (Beyond (IsOwn c)) m n

  module _ (m n : Mail) (f : MailOnly m n) where
    -- a message of the scope is sent
    mail_posted : (x : Message) → IsSentIn c x → MailOnly m (posted n x)
    mail_posted (Decode o operand) p =
        mail_decodes Names Own m n f (insert n.decodes o operand)
        (agree_inserted name_order (IsOwn c) n.decodes o operand p)
    mail_posted (Ack o) p =
        mail_acks Names Own m n f (insert n.acks o tt) (agree_inserted name_order (IsOwn c) n.acks o tt p)
    mail_posted (Open o x) p =
        mail_opens Names Own m n f (insert n.opens o x) (agree_inserted name_order (IsOwn c) n.opens o x p)
    mail_posted (Use o v) p =
        mail_uses Names Own m n f (insert n.uses o v) (agree_inserted name_order (IsOwn c) n.uses o v p)
    mail_posted (Ready o s) p =
        mail_readies Names Own m n f (insert n.readies o s) (agree_inserted name_order c.names n.readies o s p)
    mail_posted (Link o next) p =
        mail_links Names Own m n f (insert n.links o next) (agree_inserted name_order c.names n.links o next p)
    mail_posted (Release o r) p =
        mail_releases Names Own m n f (insert n.releases o r) (agree_inserted name_order (IsOwn c) n.releases o r p)
    mail_posted (Bye o promised) p =
        mail_byes Names Own m n f (insert n.byes o promised) (agree_inserted name_order (IsOwn c) n.byes o promised p)
    mail_posted (Idle v i) p =
        mail_idles Names Own m n f (insert n.idles v i) (agree_inserted name_order c.names n.idles v i p)
    mail_posted (Nack v) p =
        mail_nacks Names Own m n f (insert n.nacks v tt) (agree_inserted name_order c.names n.nacks v tt p)
    mail_posted (Retire v) p =
        mail_retires Names Own m n f (insert n.retires v tt) (agree_inserted name_order c.names n.retires v tt p)
    mail_posted (Gone v g) p =
        mail_gones Names Own m n f (insert n.gones v g) (agree_inserted name_order c.names n.gones v g p)

  -- messages of the scope are sent
  pub mail_posted_all : (m n : Mail) → MailOnly m n → (xs : List Message) → AreSentIn c xs →
      MailOnly m (posted_all n xs)
  mail_posted_all m n f [] p = f
  mail_posted_all m n f (x ∷ xs) p = mail_posted_all m (posted n x) (mail_posted m n f x p.0) xs p.1

  -- a name of an event that takes a message, where that is of the scope
  abbrev pub TakesIn : Event → Type 0
  TakesIn (event.Decode o) = IsOwn c o
  TakesIn (event.Ack o) = IsOwn c o
  TakesIn (event.Open o) = IsOwn c o
  TakesIn (event.Use o) = IsOwn c o
  TakesIn (event.Ready o) = c.names o
  TakesIn (event.Link o) = c.names o
  TakesIn (event.Release o) = IsOwn c o
  TakesIn (event.Bye o) = IsOwn c o
  TakesIn (event.Idle o) = c.names o
  TakesIn (event.Nack o) = c.names o
  TakesIn (event.Retire o) = c.names o
  TakesIn (event.Gone o) = c.names o
  TakesIn e = Unit {0}

  -- a message of the scope is taken
  pub mail_taken : (m : Mail) (e : Event) → TakesIn e → MailOnly m (taken m e)
  mail_taken m (event.Decode o) p =
      mail_decodes Names Own m m (mail_same Names Own m) (remove m.decodes o)
      (agree_removed name_order (IsOwn c) m.decodes o p)
  mail_taken m (event.Ack o) p =
      mail_acks Names Own m m (mail_same Names Own m) (remove m.acks o) (agree_removed name_order (IsOwn c) m.acks o p)
  mail_taken m (event.Open o) p =
      mail_opens Names Own m m (mail_same Names Own m) (remove m.opens o)
      (agree_removed name_order (IsOwn c) m.opens o p)
  mail_taken m (event.Use o) p =
      mail_uses Names Own m m (mail_same Names Own m) (remove m.uses o) (agree_removed name_order (IsOwn c) m.uses o p)
  mail_taken m (event.Ready o) p =
      mail_readies Names Own m m (mail_same Names Own m) (remove m.readies o)
      (agree_removed name_order c.names m.readies o p)
  mail_taken m (event.Link o) p =
      mail_links Names Own m m (mail_same Names Own m) (remove m.links o) (agree_removed name_order c.names m.links o p)
  mail_taken m (event.Release o) p =
      mail_releases Names Own m m (mail_same Names Own m) (remove m.releases o)
      (agree_removed name_order (IsOwn c) m.releases o p)
  mail_taken m (event.Bye o) p =
      mail_byes Names Own m m (mail_same Names Own m) (remove m.byes o) (agree_removed name_order (IsOwn c) m.byes o p)
  mail_taken m (event.Idle o) p =
      mail_idles Names Own m m (mail_same Names Own m) (remove m.idles o) (agree_removed name_order c.names m.idles o p)
  mail_taken m (event.Nack o) p =
      mail_nacks Names Own m m (mail_same Names Own m) (remove m.nacks o) (agree_removed name_order c.names m.nacks o p)
  mail_taken m (event.Retire o) p =
      mail_retires Names Own m m (mail_same Names Own m) (remove m.retires o)
      (agree_removed name_order c.names m.retires o p)
  mail_taken m (event.Gone o) p =
      mail_gones Names Own m m (mail_same Names Own m) (remove m.gones o) (agree_removed name_order c.names m.gones o p)
  mail_taken m e p = mail_same Names Own m

  -- the name of a message of the scope
  pub named_from_in : (x : Message) → MessageIn c x → IsSentIn c x
  named_from_in (Ack o) p = p
  named_from_in (Bye o promised) p = p
  named_from_in (Nack v) p = p
  named_from_in (Retire v) p = p
  named_from_in other p = p.0

  -- of each message
  pub named_from_all_in : (xs : List Message) → MessagesIn c xs → AreSentIn c xs
  named_from_all_in [] p = tt
  named_from_all_in (x ∷ xs) p = (named_from_in x p.0, named_from_all_in xs p.1)
