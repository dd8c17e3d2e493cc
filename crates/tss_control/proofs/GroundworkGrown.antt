-- A round with one more task: what was controlled by the shorter round is by the longer one.
use Rattle.std.proofs.Common.{◌≡◌, ◌≤◌, inl, inr, List, Some, sym, ap, ◌∙◌, subst}
use Rattle.std.specs.FinMap.{get}
use Rattle.tss_base.specs.declared.range.Range.{Range}
use Rattle.tss_base.specs.declared.operand.OpName.{OpName}
use Rattle.tss_base.specs.declared.operand.Mode.TheVariants.{Input, Inout}
use Rattle.tss_base.specs.declared.operand.Operand.{Operand}
use Rattle.tss_base.specs.declared.operand.Task.{Task}
use Rattle.tss_protocol.specs.Mail.{OpenContents}
use Rattle.tss_protocol.specs.State.{State, Entry, Version}
use Rattle.tss_locality.specs.Rounds.{IsRounded}
use Rattle.tss_phases.specs.Phase.{Waiting, phase_of, is_decoded}
use Rattle.tss_control.specs.Members.{operand_among, IsMember}
use Rattle.tss_control.specs.Chains.{HasStorage, IsOpenInOrder, IsUseInOrder, HasChains}
use Rattle.tss_control.specs.Entries.{HasEntryOf, IsUsed, IsLeaving, IsAbsent, IsRetiring, HasEntries}
use Rattle.tss_control.specs.Readers.{Arrivals, IsArrival, HasArrivals, HasReaders}
use Rattle.tss_control.specs.Holders.{HasHolders}
use Rattle.tss_control.specs.Control.{IsControlled}
use Rattle.tss_control.proofs.rounds.Spawned.{IsLonger, on_still, on_back, writer_back, no_writer_still, among_object}
use Rattle.tss_control.proofs.rounds.Spawned.{named_spawned, decoded_spawned}

module _ (ts us : List Task) (S : State) (long : IsLonger S.main.spawned ts us) (round : IsRounded S ts)
    (g : Arrivals) (h : IsControlled ts g S) where
  -- ---- versions

  old_version : (v : OpName) (y : Version) → get S.versions v ≡ Some y → v.task ≤ S.main.spawned
  old_version v y e = let p = h.chains.opener v y e in long.old v p.0 p.1

  longer_storage : (v : OpName) (y : Version) → get S.versions v ≡ Some y → HasStorage us S v y
  longer_storage v y e =
      let k = h.chains.storages v y e in
      record {
        over = k.over;
        waits = λ none. let w = k.waits none in (w.0, on_still S.main.spawned ts us long y.object Inout v w.1);
        home = k.home;
        input = λ on. k.input (on_back S.main.spawned ts us long y.object Input v (old_version v y e) on);
        alone = λ f next over.
            let n = (h.chains.linked v y e).followed f next in
            no_writer_still S.main.spawned ts us long y.object v f.version
            (old_version f.version n.version n.there) (k.alone f next over);
      }

  longer_open : (o : OpName) (c : OpenContents) → get S.mail.opens o ≡ Some c → IsOpenInOrder us S o c
  longer_open o c e =
      let k = h.chains.opens o c e in
      record {
        operand = long.still o c.operand k.operand;
        behind = k.behind;
        first = k.first;
        after = λ f follows.
            let a = k.after f follows in
            record {
              member = a.member;
              older = a.older;
              near = a.near;
              last = a.last;
              way = a.way;
              alone =
                  no_writer_still S.main.spawned ts us long c.operand.object f.version o
                  (long.old o c.operand k.operand) a.alone;
            };
      }

  longer_use : (o v : OpName) → get S.mail.uses o ≡ Some v → IsUseInOrder us S o v
  longer_use o v e =
      let k = h.chains.uses o v e in
      record {
        operand = k.operand;
        there = long.still o k.operand k.there;
        mode = k.mode;
        member = k.member;
        older = k.older;
        alone =
            no_writer_still S.main.spawned ts us long k.operand.object v o (long.old o k.operand k.there) k.alone;
      }

  -- all of them
  HasChains-longer : HasChains us S
  HasChains-longer = record {
    one = h.chains.one;
    opener = λ v y e. let p = h.chains.opener v y e in (p.0, long.still v p.0 p.1, p.2);
    linked = h.chains.linked;
    storages = longer_storage;
    opens = longer_open;
    uses = longer_use;
  }

  -- ---- entries

  old_used : (x : Range) → IsUsed us S x → IsUsed ts S x
  old_used x used =
      let o = used.0 in
      let k = h.chains.uses o used.1 used.3 in
      (o, used.1, used.2, used.3, long.back o used.2 (long.old o k.operand k.there) used.4, used.5)

  -- an operand of the round is on the object
  abbrev IsOnObject : Range → Type 0
  IsOnObject x = (q : OpName) × (p : Operand) × (operand_among ts q ≡ Some p) × (p.object ≡ x)

  on_member : (x : Range) (v : OpName) → IsMember S x v → IsOnObject x
  on_member x v (inl r) = let p = h.chains.opener v r.0 r.1 in (v, p.0, p.1, p.2 ∙ r.2)
  on_member x v (inr r) = (v, r.0.operand, (h.chains.opens v r.0 r.1).operand, r.2)

  on_leaving : (x : Range) (v : OpName) → IsLeaving S x v → IsOnObject x
  on_leaving x v (inl may) = on_member x v (inl may.1)
  on_leaving x v (inr (inl copy)) =
      let c = copy.1 in
      let a = among_object ts c.version c.object (round.within.named.copies copy.0 c copy.2) in
      (c.version, a.0, a.1, a.2 ∙ copy.4)
  on_leaving x v (inr (inr gone)) =
      let named = round.within.named.mail.gones v gone.0 gone.1 in
      let same = (round.within.links v named.0 named.1).mail.gones v gone.0 named.1 gone.1 in
      let a = among_object ts v named.0 named.1 in
      (v, a.0, a.1, a.2 ∙ sym same.object ∙ gone.3)

  absent_on : (x : Range) → (HasEntryOf S x → ⊥) → IsOnObject x → IsAbsent ts S x
  absent_on x none on =
      subst (IsAbsent ts S) on.3
      (h.entries.absent on.0 on.1 on.2 (λ f. none (subst (HasEntryOf S) on.3 f)))

  longer_absent : (x : Range) → (HasEntryOf S x → ⊥) → IsAbsent us S x
  longer_absent x none = record {
    members = λ v in_x. (absent_on x none (on_member x v in_x)).members v in_x;
    unused = λ used.
        let u = old_used x used in
        (absent_on x none (u.0, u.2, u.4, u.5)).unused u;
    stays = λ v leaves. (absent_on x none (on_leaving x v leaves)).stays v leaves;
  }

  longer_retiring : (x : Range) (e : Entry) → IsRetiring ts S x e → IsRetiring us S x e
  longer_retiring x e k = record {
    no_open = k.no_open;
    unused = λ used. k.unused (old_used x used);
    leaving = k.leaving;
    only = k.only;
    last = k.last;
    none = k.none;
  }

  -- all of them
  HasEntries-longer : HasEntries us S
  HasEntries-longer = record {
    absent = λ o p at none. longer_absent p.object none;
    operand = λ b e there.
        let k = h.entries.operand b e there in
        (k.0, (k.1.0, long.still e.latest k.1.0 k.1.1, k.1.2));
    live = h.entries.live;
    retiring = λ b e there going. longer_retiring e.object e (h.entries.retiring b e there going);
    decoded = λ b e o there writes past.
        h.entries.decoded b e o there
        (writer_back S.main.spawned ts us long e.object o (decoded_spawned S h.orderly o past) writes) past;
  }

  -- ---- readers

  longer_arrival : (v : OpName) (y : Version) (a : OpName) → IsArrival ts S v y a → IsArrival us S v y a
  longer_arrival v y a k = record {
    on = on_still S.main.spawned ts us long y.object Input a k.on;
    arrived = k.arrived;
    younger = k.younger;
    alone = no_writer_still S.main.spawned ts us long y.object v a (long.old a k.on.operand k.on.there) k.alone;
  }

  longer_arrivals : (v : OpName) (y : Version) → get S.versions v ≡ Some y → HasArrivals us (g v) S v y
  longer_arrivals v y e =
      let k = h.readers.versions v y e in
      record {
        once = k.once;
        each = λ a has. longer_arrival v y a (k.each a has);
        opener = λ on. k.opener (on_back S.main.spawned ts us long y.object Input v (old_version v y e) on);
        own = k.own;
        registered = k.registered;
        released = k.released;
        head = k.head;
        tail = k.tail;
        first = k.first;
        chained = k.chained;
        newest = k.newest;
      }

  -- all of them
  HasReaders-longer : HasReaders us g S
  HasReaders-longer = record {
    versions = longer_arrivals;
    apart = h.readers.apart;
    links = h.readers.links;
    held = h.readers.held;
  }

  -- ---- holders

  old_name : (o : OpName) (p : Operand) → o.task ≤ S.main.spawned → operand_among us o ≡ Some p
      → operand_among ts o ≡ Some p
  old_name o p low at = long.back o p low at

  waits_spawned : (o : OpName) → phase_of S o ≡ Waiting → o.task ≤ S.main.spawned
  waits_spawned o waits = decoded_spawned S h.orderly o (ap is_decoded waits)

  -- all of them
  HasHolders-longer : HasHolders us g S
  HasHolders-longer =
      let k = h.holders in
      let named = round.within.named in
      record {
        told = λ o p s at e.
            k.told o p s (old_name o p (named_spawned S ts round o (named.mail.readies o s e)) at) e;
        ready = λ o p r s at e.
            k.ready o p r s (old_name o p (named_spawned S ts round o (named.records o r e)) at) e;
        linking = λ o next p r s at e.
            k.linking o next p r s (old_name o p (named_spawned S ts round o (named.records o r e)) at) e;
        releases = λ o p c at e.
            k.releases o p c (old_name o p (named_spawned S ts round o (named.mail.releases o c e)) at) e;
        waiting_writer = λ o p at writes waits.
            k.waiting_writer o p (old_name o p (waits_spawned o waits) at) writes waits;
        waiting_reader = λ o p at reads waits.
            k.waiting_reader o p (old_name o p (waits_spawned o waits) at) reads waits;
        openers = λ v y p e at. k.openers v y p e (old_name v p (old_version v y e) at);
        records = k.records;
        runners = k.runners;
        links = λ o p r at e. k.links o p r (old_name o p (named_spawned S ts round o (named.records o r e)) at) e;
      }

  -- ---- the whole

  -- the longer round controls the state
  pub IsControlled-longer : IsControlled us g S
  IsControlled-longer = record {
    orderly = h.orderly;
    chains = HasChains-longer;
    entries = HasEntries-longer;
    retirement = h.retirement;
    readers = HasReaders-longer;
    holders = HasHolders-longer;
  }
