-- Entries after an event that leaves them, by what it leaves of versions, messages and copies.
use Rattle.std.proofs.Common.{◌≡◌, ℕ, inl, inr, true, List, Some, sym, ap, ◌∙◌}
use Rattle.std.specs.FinMap.{get}
use Rattle.tss_base.specs.declared.range.Range.{Range}
use Rattle.tss_base.specs.declared.operand.OpName.{OpName}
use Rattle.tss_base.specs.declared.operand.Operand.{Operand}
use Rattle.tss_base.specs.declared.operand.Task.{Task}
use Rattle.tss_protocol.specs.State.{State, Entry, Version}
use Rattle.tss_phases.specs.Phase.{phase_of, is_decoded}
use Rattle.tss_control.proofs.rounds.EntryOf.{entry_of_left}
use Rattle.tss_control.specs.Members.{operand_among, IsVersionOf, IsOpenOf, IsMember, total}
use Rattle.tss_control.specs.Entries.{IsGoingHome, IsLeaving, IsUsed, IsAbsent, IsLive, IsLastVersion, IsRetiring}
use Rattle.tss_control.specs.Entries.{HasEntries}

-- ---- what an event has to leave

-- no object has more members, opens, uses, or versions that leave
pub record HasNoMore (ts : List Task) (S T : State) : Type 0 where
  pub members : (x : Range) (v : OpName) → IsMember T x v → IsMember S x v
  pub opens : (x : Range) (v : OpName) → IsOpenOf T x v → IsOpenOf S x v
  pub uses : (x : Range) → IsUsed ts T x → IsUsed ts S x
  pub leaving : (x : Range) (v : OpName) → IsLeaving T x v → IsLeaving S x v

-- the latest version of a live entry is there, with as many readers
pub record KeepsLatest (S T : State) (e : Entry) : Type 0 where
  pub member : IsMember T e.object e.latest
  pub sent : total T e.latest ≡ total S e.latest

-- the version of a retiring entry leaves as it did
pub record KeepsLeaving (S T : State) (e : Entry) : Type 0 where
  pub leaving : IsLeaving T e.object e.latest
  pub last : (y : Version) → get T.mail.retires e.latest ≡ Some tt → get T.versions e.latest ≡ Some y
      → IsLastVersion T e.object e y
  pub none : IsGoingHome T e.object e.latest → (v : OpName) → IsVersionOf T e.object v → ⊥

-- an operand that is decoded was decoded before
abbrev pub DecodesNoMore : List Task → State → State → Type 0
DecodesNoMore ts S T =
    (o : OpName) (p : Operand) → operand_among ts o ≡ Some p
    → is_decoded (phase_of T o) ≡ true → is_decoded (phase_of S o) ≡ true

-- the entries are left, and what they say of versions
pub record KeepsEntries (ts : List Task) (S T : State) : Type 0 where
  pub entries : T.entries ≡ S.entries
  pub more : HasNoMore ts S T
  pub live : (b : ℕ) (e : Entry) → get S.entries b ≡ Some e → IsLive S e.object e → KeepsLatest S T e
  pub retiring : (b : ℕ) (e : Entry) → get S.entries b ≡ Some e → e.retiring ≡ true → IsRetiring ts S e.object e
      → KeepsLeaving S T e
  pub decoded : DecodesNoMore ts S T

module _ (ts : List Task) (S T : State) (m : HasNoMore ts S T) where
  -- an object without an entry still has none
  absent_still : (x : Range) → IsAbsent ts S x → IsAbsent ts T x
  absent_still x a = record {
    members = λ v h. a.members v (m.members x v h);
    unused = λ u. a.unused (m.uses x u);
    stays = λ v h. a.stays v (m.leaving x v h);
  }

  -- a live entry is still right
  live_still : (e : Entry) → KeepsLatest S T e → IsLive S e.object e → IsLive T e.object e
  live_still e k l = record {
    member = k.member;
    latest = λ v h. l.latest v (m.members e.object v h);
    sent = l.sent ∙ sym k.sent;
    stays = λ v h. l.stays v (m.leaving e.object v h);
  }

  -- and so is one that retires
  retiring_still : (e : Entry) → KeepsLeaving S T e → IsRetiring ts S e.object e → IsRetiring ts T e.object e
  retiring_still e k r = record {
    no_open = λ v h. r.no_open v (m.opens e.object v h);
    unused = λ u. r.unused (m.uses e.object u);
    leaving = k.leaving;
    only = λ v h. r.only v (m.leaving e.object v h);
    last = k.last;
    none = k.none;
  }

-- entries that are left are right
pub entries_kept : (ts : List Task) (S T : State) → HasEntries ts S → KeepsEntries ts S T → HasEntries ts T
entries_kept ts S T h k =
    let before : (b : ℕ) (e : Entry) → get T.entries b ≡ Some e → get S.entries b ≡ Some e =
    λ b e there. ap (λ es. get es b) (sym k.entries) ∙ there in
    record {
      absent = λ o p at none. absent_still ts S T k.more p.object
          (h.absent o p at (λ f. none (entry_of_left S T k.entries p.object f)));
      operand = λ b e there. h.operand b e (before b e there);
      live = λ b e there live.
          let l = h.live b e (before b e there) live in
          live_still ts S T k.more e (k.live b e (before b e there) l) l;
      retiring = λ b e there on.
          let r = h.retiring b e (before b e there) on in
          retiring_still ts S T k.more e (k.retiring b e (before b e there) on r) r;
      decoded = λ b e o there writer on. h.decoded b e o (before b e there) writer
          (k.decoded o writer.operand writer.there on);
    }

-- ---- nothing of it is changed

-- versions, copies and the messages of which entries speak are left
pub record SameObjects (S T : State) : Type 0 where
  pub versions : T.versions ≡ S.versions
  pub copies : T.copies ≡ S.copies
  pub opens : T.mail.opens ≡ S.mail.opens
  pub uses : T.mail.uses ≡ S.mail.uses
  pub retires : T.mail.retires ≡ S.mail.retires
  pub gones : T.mail.gones ≡ S.mail.gones

-- the other way round
same_back : (S T : State) → SameObjects S T → SameObjects T S
same_back S T s = record {
  versions = sym s.versions;
  copies = sym s.copies;
  opens = sym s.opens;
  uses = sym s.uses;
  retires = sym s.retires;
  gones = sym s.gones;
}

module _ (S T : State) (s : SameObjects S T) where
  -- a version that is there afterwards was there before
  same_version : (x : Range) (v : OpName) → IsVersionOf T x v → IsVersionOf S x v
  same_version x v h = (h.0, ap (λ m. get m v) (sym s.versions) ∙ h.1, h.2)

  -- and so was an open
  same_open : (x : Range) (v : OpName) → IsOpenOf T x v → IsOpenOf S x v
  same_open x v h = (h.0, ap (λ m. get m v) (sym s.opens) ∙ h.1, h.2)

  -- either
  same_member : (x : Range) (v : OpName) → IsMember T x v → IsMember S x v
  same_member x v (inl h) = inl (same_version x v h)
  same_member x v (inr h) = inr (same_open x v h)

  -- a use
  same_use : (ts : List Task) (x : Range) → IsUsed ts T x → IsUsed ts S x
  same_use ts x u = (u.0, u.1, u.2, ap (λ m. get m u.0) (sym s.uses) ∙ u.3, u.4, u.5)

  -- a version that goes home
  same_going : (x : Range) (v : OpName) → IsGoingHome T x v → IsGoingHome S x v
  same_going x v (inl c) = inl (c.0, c.1, ap (λ m. get m c.0) (sym s.copies) ∙ c.2, c.3, c.4)
  same_going x v (inr g) = inr (g.0, ap (λ m. get m v) (sym s.gones) ∙ g.1, g.2, g.3)

  -- one that leaves
  same_leaving : (x : Range) (v : OpName) → IsLeaving T x v → IsLeaving S x v
  same_leaving x v (inl r) = inl (ap (λ m. get m v) (sym s.retires) ∙ r.0, same_version x v r.1)
  same_leaving x v (inr g) = inr (same_going x v g)

  -- how many readers were directed to it
  same_total : (v : OpName) → total T v ≡ total S v
  same_total v = λ i. total (record S {
    versions = s.versions i;
    mail = record S.mail { opens = s.opens i; uses = s.uses i };
  }) v

  -- no more of all this
  same_no_more : (ts : List Task) → HasNoMore ts S T
  same_no_more ts = record {
    members = same_member;
    opens = same_open;
    uses = same_use ts;
    leaving = same_leaving;
  }

-- where nothing is changed, entries are kept
same_entries : (ts : List Task) (S T : State) → SameObjects S T → T.entries ≡ S.entries
    → DecodesNoMore ts S T → KeepsEntries ts S T
same_entries ts S T s es decoded = record {
  entries = es;
  more = same_no_more S T s ts;
  live = λ b e there l. record {
    member = same_member T S (same_back S T s) e.object e.latest l.member;
    sent = same_total S T s e.latest;
  };
  retiring = λ b e there on r. record {
    leaving = same_leaving T S (same_back S T s) e.object e.latest r.leaving;
    last = λ y retires version.
        let l = r.last y (ap (λ m. get m e.latest) (sym s.retires) ∙ retires)
        (ap (λ m. get m e.latest) (sym s.versions) ∙ version) in
        record {
          only = λ v h. l.only v (same_version S T s e.object v h);
          asked = l.asked;
          registered = l.registered;
          released = l.released;
        };
    none = λ g v h. r.none (same_going S T s e.object e.latest g) v (same_version S T s e.object v h);
  };
  decoded = decoded;
}

-- a state that is the same in all this has the same entries
pub HasEntries-same : (ts : List Task) (S T : State) → SameObjects S T → T.entries ≡ S.entries → DecodesNoMore ts S T
    → HasEntries ts S → HasEntries ts T
HasEntries-same ts S T s es decoded h = entries_kept ts S T h (same_entries ts S T s es decoded)
