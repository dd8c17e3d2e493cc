-- States that agree on a part: a state with itself, and after a change of one of its fields.
use Rattle.std.proofs.Common.{◌≡◌, ℕ, List, Option, Some, None, refl, inl}
use Rattle.std.specs.FinMap.{get}
use Rattle.tss_base.specs.declared.operand.OpName.{OpName}
use Rattle.tss_base.specs.declared.operand.Task.{Task}
use Rattle.tss_base.specs.Names.{Named, Numbered}
use Rattle.tss_model.specs.Memory.{Memory, byte_at}
use Rattle.tss_model.specs.MainStep.{MainState}
use Rattle.tss_protocol.specs.Mail.{Mail}
use Rattle.tss_protocol.specs.State.{Flying, Busy, Entry, Version, CopyState, HeldTrap, State}
use Rattle.tss_protocol.specs.Stations.{operand_at}
use Rattle.tss_locality.specs.Agreement.{AgreeAt, SameFor, MailAgrees, SameOperand, SameShape, operand_in, times_in}
use Rattle.tss_locality.specs.Extents.{Extent, SameOn}
use Rattle.tss_locality.proofs.Agreements.{agree_same, same_for}
use Rattle.tss_locality.proofs.Messages.{mail_same}

-- a task has its own shape
pub shape_same : (x : Option Flying) → SameShape x x
shape_same None = tt
shape_same (Some x) = (refl, refl)

-- what two states agree on of the tasks in flight
pub record FlightOn (e : Extent) (x y : Numbered Flying) : Type 0 where
  pub flight : AgreeAt e.tasks x y
  pub shapes : (n : ℕ) → SameShape (get x n) (get y n)
  pub operands : (o : OpName) → e.names o → SameOperand (operand_at x o) (operand_at y o)

-- the same tasks
pub same_flight : (e : Extent) (x : Numbered Flying) → FlightOn e x x
same_flight e x = record {
  flight = agree_same e.tasks x;
  shapes = λ n. shape_same (get x n);
  operands = λ o p. inl refl;
}

-- what they agree on of home
pub record HomeOn (e : Extent) (x y : Memory) : Type 0 where
  pub ranges : y.ranges ≡ x.ranges
  pub bytes : (a : ℕ) → e.addresses a → byte_at y a ≡ byte_at x a

-- what they agree on of the inbox
pub record InboxOn (e : Extent) (x y : Option Task) : Type 0 where
  pub task : SameFor (λ t. e.tasks t.number) x y
  pub arrivals : (o : OpName) → e.names o → operand_in y o ≡ operand_in x o

module _ (e : Extent) (S : State) where
  -- a state agrees with itself
  pub same_state : SameOn e S S
  same_state = record {
    code = refl;
    ranges = refl;
    home = λ a p. refl;
    inbox = same_for (λ t. e.tasks t.number) S.inbox;
    arrivals = λ o p. refl;
    gateway = agree_same e.own S.gateway;
    flight = agree_same e.tasks S.flight;
    shapes = λ n. shape_same (get S.flight n);
    operands = λ o p. inl refl;
    queue = λ n p. refl;
    workers = λ w. same_for (λ b. e.tasks b.task.number) (get S.workers w);
    entries = agree_same e.bases S.entries;
    places = agree_same e.names S.places;
    buffers = agree_same e.names S.buffers;
    contents = agree_same e.names S.contents;
    versions = agree_same e.names S.versions;
    mail = mail_same e.names e.own S.mail;
    copies = λ b. same_for (λ k. e.objects k.object) (get S.copies b);
    trap = λ h p there. there;
  }

  -- by all of its fields, in their order
  state_by : (T : State)
      → T.code ≡ S.code
      → T.home.ranges ≡ S.home.ranges
      → ((a : ℕ) → e.addresses a → byte_at T.home a ≡ byte_at S.home a)
      → SameFor (λ t. e.tasks t.number) S.inbox T.inbox
      → ((o : OpName) → e.names o → operand_in T.inbox o ≡ operand_in S.inbox o)
      → AgreeAt e.own S.gateway T.gateway
      → AgreeAt e.tasks S.flight T.flight
      → ((n : ℕ) → SameShape (get S.flight n) (get T.flight n))
      → ((o : OpName) → e.names o → SameOperand (operand_at S.flight o) (operand_at T.flight o))
      → ((n : ℕ) → e.tasks n → times_in n T.queue ≡ times_in n S.queue)
      → ((w : ℕ) → SameFor (λ b. e.tasks b.task.number) (get S.workers w) (get T.workers w))
      → AgreeAt e.bases S.entries T.entries
      → AgreeAt e.names S.places T.places
      → AgreeAt e.names S.buffers T.buffers
      → AgreeAt e.names S.contents T.contents
      → AgreeAt e.names S.versions T.versions
      → MailAgrees e.names e.own S.mail T.mail
      → ((b : ℕ) → SameFor (λ k. e.objects k.object) (get S.copies b) (get T.copies b))
      → ((h : HeldTrap) → e.tasks h.task → T.trap ≡ Some h → S.trap ≡ Some h)
      → SameOn e S T
  state_by T a b c d g h i j k l m n o p q r s u v = record {
    code = a;
    ranges = b;
    home = c;
    inbox = d;
    arrivals = g;
    gateway = h;
    flight = i;
    shapes = j;
    operands = k;
    queue = l;
    workers = m;
    entries = n;
    places = o;
    buffers = p;
    contents = q;
    versions = r;
    mail = s;
    copies = u;
    trap = v;
  }

  -- a change of one field after others
  module _ (T : State) (f : SameOn e S T) where
    -- main
    pub state_main : (x : MainState) → SameOn e S (record T { main = x })
    state_main x =
        state_by (record T { main = x })
        f.code f.ranges f.home f.inbox f.arrivals f.gateway f.flight
        f.shapes f.operands f.queue f.workers f.entries f.places f.buffers
        f.contents f.versions f.mail f.copies f.trap

    -- home
    pub state_home : (x : Memory) → HomeOn e S.home x → SameOn e S (record T { home = x })
    state_home x p =
        state_by (record T { home = x })
        f.code p.ranges p.bytes f.inbox f.arrivals f.gateway f.flight
        f.shapes f.operands f.queue f.workers f.entries f.places f.buffers
        f.contents f.versions f.mail f.copies f.trap

    -- the inbox
    pub state_inbox : (x : Option Task) → InboxOn e S.inbox x → SameOn e S (record T { inbox = x })
    state_inbox x p =
        state_by (record T { inbox = x })
        f.code f.ranges f.home p.task p.arrivals f.gateway f.flight
        f.shapes f.operands f.queue f.workers f.entries f.places f.buffers
        f.contents f.versions f.mail f.copies f.trap

    -- the gateway
    pub state_gateway : (x : Named (Unit {0})) → AgreeAt e.own S.gateway x → SameOn e S (record T { gateway = x })
    state_gateway x p =
        state_by (record T { gateway = x })
        f.code f.ranges f.home f.inbox f.arrivals p f.flight
        f.shapes f.operands f.queue f.workers f.entries f.places f.buffers
        f.contents f.versions f.mail f.copies f.trap

    -- the tasks in flight
    pub state_flight : (x : Numbered Flying) → FlightOn e S.flight x → SameOn e S (record T { flight = x })
    state_flight x p =
        state_by (record T { flight = x })
        f.code f.ranges f.home f.inbox f.arrivals f.gateway p.flight
        p.shapes p.operands f.queue f.workers f.entries f.places f.buffers
        f.contents f.versions f.mail f.copies f.trap

    -- the queue
    pub state_queue : (x : List ℕ) → ((n : ℕ) → e.tasks n → times_in n x ≡ times_in n S.queue) →
        SameOn e S (record T { queue = x })
    state_queue x p =
        state_by (record T { queue = x })
        f.code f.ranges f.home f.inbox f.arrivals f.gateway f.flight
        f.shapes f.operands p f.workers f.entries f.places f.buffers
        f.contents f.versions f.mail f.copies f.trap

    -- the workers
    pub state_workers : (x : Numbered Busy) →
        ((w : ℕ) → SameFor (λ b. e.tasks b.task.number) (get S.workers w) (get x w)) → SameOn e S
        (record T { workers = x })
    state_workers x p =
        state_by (record T { workers = x })
        f.code f.ranges f.home f.inbox f.arrivals f.gateway f.flight
        f.shapes f.operands f.queue p f.entries f.places f.buffers
        f.contents f.versions f.mail f.copies f.trap

    -- the entries
    pub state_entries : (x : Numbered Entry) → AgreeAt e.bases S.entries x → SameOn e S (record T { entries = x })
    state_entries x p =
        state_by (record T { entries = x })
        f.code f.ranges f.home f.inbox f.arrivals f.gateway f.flight
        f.shapes f.operands f.queue f.workers p f.places f.buffers
        f.contents f.versions f.mail f.copies f.trap

    -- the places held
    pub state_places : (x : Named ℕ) → AgreeAt e.names S.places x → SameOn e S (record T { places = x })
    state_places x p =
        state_by (record T { places = x })
        f.code f.ranges f.home f.inbox f.arrivals f.gateway f.flight
        f.shapes f.operands f.queue f.workers f.entries p f.buffers
        f.contents f.versions f.mail f.copies f.trap

    -- the buffers held
    pub state_buffers : (x : Named ℕ) → AgreeAt e.names S.buffers x → SameOn e S (record T { buffers = x })
    state_buffers x p =
        state_by (record T { buffers = x })
        f.code f.ranges f.home f.inbox f.arrivals f.gateway f.flight
        f.shapes f.operands f.queue f.workers f.entries f.places p
        f.contents f.versions f.mail f.copies f.trap

    -- the contents of the buffers
    pub state_contents : (x : Named (List ℕ)) → AgreeAt e.names S.contents x → SameOn e S (record T { contents = x })
    state_contents x p =
        state_by (record T { contents = x })
        f.code f.ranges f.home f.inbox f.arrivals f.gateway f.flight
        f.shapes f.operands f.queue f.workers f.entries f.places f.buffers
        p f.versions f.mail f.copies f.trap

    -- the versions
    pub state_versions : (x : Named Version) → AgreeAt e.names S.versions x → SameOn e S (record T { versions = x })
    state_versions x p =
        state_by (record T { versions = x })
        f.code f.ranges f.home f.inbox f.arrivals f.gateway f.flight
        f.shapes f.operands f.queue f.workers f.entries f.places f.buffers
        f.contents p f.mail f.copies f.trap

    -- the messages
    pub state_mail : (x : Mail) → MailAgrees e.names e.own S.mail x → SameOn e S (record T { mail = x })
    state_mail x p =
        state_by (record T { mail = x })
        f.code f.ranges f.home f.inbox f.arrivals f.gateway f.flight
        f.shapes f.operands f.queue f.workers f.entries f.places f.buffers
        f.contents f.versions p f.copies f.trap

    -- the copies
    pub state_copies : (x : Numbered CopyState) →
        ((b : ℕ) → SameFor (λ k. e.objects k.object) (get S.copies b) (get x b)) → SameOn e S (record T { copies = x })
    state_copies x p =
        state_by (record T { copies = x })
        f.code f.ranges f.home f.inbox f.arrivals f.gateway f.flight
        f.shapes f.operands f.queue f.workers f.entries f.places f.buffers
        f.contents f.versions f.mail p f.trap

    -- the held trap
    pub state_trap : (x : Option HeldTrap) → ((h : HeldTrap) → e.tasks h.task → x ≡ Some h → S.trap ≡ Some h) →
        SameOn e S (record T { trap = x })
    state_trap x p =
        state_by (record T { trap = x })
        f.code f.ranges f.home f.inbox f.arrivals f.gateway f.flight
        f.shapes f.operands f.queue f.workers f.entries f.places f.buffers
        f.contents f.versions f.mail f.copies p
