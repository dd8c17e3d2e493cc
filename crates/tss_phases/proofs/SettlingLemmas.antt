-- What a settle sends: news alone, with a ready only for the successor of a version that is followed over.
use Rattle.std.proofs.Common.{◌≡◌, ℕ, zero, suc, Bool, true, false, Option, Some, None, refl, sym, ap, ◌∙◌, inl, inr}
use Rattle.std.specs.Prelude.{◌||◌, if◌then◌else◌}
use Rattle.std.specs.FinMap.{get}
use Rattle.tss_base.specs.declared.operand.OpName.{OpName}
use Rattle.tss_base.specs.declared.marks.How.{How}
use Rattle.tss_base.specs.declared.marks.How.TheVariants.{Beside, Over}
use Rattle.tss_base.specs.declared.marks.Follow.{Follow}
use Rattle.tss_base.specs.Names.{Named}
use Rattle.tss_maps.proofs.Keys.{name_order, decide_key}
use Rattle.tss_protocol.specs.Names.{same_name}
use Rattle.tss_protocol.specs.Mail.{StorageName}
use Rattle.tss_protocol.specs.State.{Version}
use Rattle.tss_protocol.specs.Versions.{Settling, Versioned, ready_with, may_die, may_ask, unlinked, settle_asking}
use Rattle.tss_protocol.specs.Versions.{settle_how, settle_by, settle_at, settle, unchanged}
use Rattle.tss_phases.specs.Told.{tells}
use Rattle.tss_phases.specs.Settling.{TakesOver, SettleTells}
use Rattle.tss_protocol.specs.Settled.{GivesWay}
use Rattle.tss_phases.proofs.Received.{own_name, other_name}
use Rattle.tss_phases.proofs.News.{AreNews}
use Rattle.tss_phases.proofs.Tests.{not_both, or_false}

-- ---- names

-- names that pass the test are equal
pub name_from_test : (q o : OpName) → same_name q o ≡ true → q ≡ o
name_from_test q o e = elim (decide_key name_order q o) [
  | inl same ↦ same
  | inr apart ↦ absurd (not_both (same_name q o) e (other_name q o apart))
]

-- ---- a ready of a version with a storage

-- it is news
pub news_ready_with : (o v : OpName) (s : Option StorageName) → AreNews (ready_with o v s)
news_ready_with o v None = tt
news_ready_with o v (Some s) = (tt, tt)

-- whom it tells is its operand, and the version has a storage
pub ready_with_tells : (o v : OpName) (s : Option StorageName) (q : OpName) → tells (ready_with o v s) q ≡ true
    → (q ≡ o) × ((t : StorageName) × (s ≡ Some t))
ready_with_tells o v None q e = absurd (cc)
ready_with_tells o v (Some s) q e = (name_from_test q o (or_false (same_name q o) e), (s, refl))

-- and it does tell it then
pub ready_with_told : (o v : OpName) (s : Option StorageName) (t : StorageName) → s ≡ Some t
    → tells (ready_with o v s) o ≡ true
ready_with_told o v s t e = ap (λ s. tells (ready_with o v s) o) e ∙ (λ i. own_name o i || false)

-- ---- settle

-- what settles the next version sends news
abbrev SettlesWithNews : Settling → Type 0
SettlesWithNews next = (vs : Named Version) (v : OpName) → AreNews (next vs v).sent

module _ (vs : Named Version) (v : OpName) (next : Settling) (news : SettlesWithNews next) where
  how_news : (x : Version) (f : Follow) (h : How) → AreNews (settle_how vs v x f next h).sent
  how_news x f Beside = (tt, news (unlinked vs v x f.version) f.version)
  how_news x f Over = (tt, news_ready_with f.version f.version x.storage)

  dying_news : (x : Version) (f : Follow) (b : Bool)
      → AreNews (if b then settle_how vs v x f next f.how else unchanged vs).sent
  dying_news x f true = how_news x f f.how
  dying_news x f false = tt

  asking_news : (x : Version) (b : Bool) → AreNews (if b then settle_asking vs v x else unchanged vs).sent
  asking_news x true = (tt, tt)
  asking_news x false = tt

  by_news : (x : Version) (f : Option Follow) → AreNews (settle_by vs v x next f).sent
  by_news x None = asking_news x (may_ask x)
  by_news x (Some f) = dying_news x f (may_die x f.last)

  at_news : (x : Option Version) → AreNews (settle_at vs v next x).sent
  at_news None = tt
  at_news (Some x) = by_news x x.successor

-- a settle sends news
pub news_settle : (n : ℕ) → SettlesWithNews (settle n)
unfolding settle
news_settle zero vs v = tt
news_settle (suc n) vs v = at_news vs v (settle n) (news_settle n) (get vs v)

-- ---- whom a settle tells

module _ (n : ℕ) (vs : Named Version) (v s : OpName) (next : Settling)
    (again : (us : Named Version) (w : OpName) → tells (next us w).sent s ≡ true → SettleTells n us w s) where
  how_tells : (x : Version) (f : Follow) (h : How) → GivesWay vs v x f h
      → tells (settle_how vs v x f next h).sent s ≡ true → SettleTells (suc n) vs v s
  how_tells x f Beside g e =
      inr (record {
        version = x;
        follow = f;
        gives = g;
        on = again (unlinked vs v x f.version) f.version e;
      })
  how_tells x f Over g e =
      let found = ready_with_tells f.version f.version x.storage s e in
      inl (record {
        version = x;
        follow = f;
        gives = g;
        successor = sym found.0;
        storage = found.1.0;
        kept = found.1.1;
      })

  dying_tells : (x : Version) (f : Follow) → get vs v ≡ Some x → x.successor ≡ Some f → (b : Bool)
      → may_die x f.last ≡ b → tells (if b then settle_how vs v x f next f.how else unchanged vs).sent s ≡ true
      → SettleTells (suc n) vs v s
  dying_tells x f at to true done e =
      how_tells x f f.how (record { there = at; next = to; way = refl; done = done }) e
  dying_tells x f at to false done e = absurd (cc)

  asking_tells : (x : Version) (b : Bool) → tells (if b then settle_asking vs v x else unchanged vs).sent s ≡ true → ⊥
  asking_tells x true e = cc
  asking_tells x false e = cc

  by_tells : (x : Version) (f : Option Follow) → get vs v ≡ Some x → x.successor ≡ f
      → tells (settle_by vs v x next f).sent s ≡ true → SettleTells (suc n) vs v s
  by_tells x None at to e = absurd (asking_tells x (may_ask x) e)
  by_tells x (Some f) at to e = dying_tells x f at to (may_die x f.last) refl e

  at_tells : (x : Option Version) → get vs v ≡ x → tells (settle_at vs v next x).sent s ≡ true
      → SettleTells (suc n) vs v s
  at_tells None at e = absurd (cc)
  at_tells (Some x) at e = by_tells x x.successor at refl e

-- whom a settle tells takes over a version to which it comes
pub settle_tells : (n : ℕ) (vs : Named Version) (v s : OpName) → tells (settle n vs v).sent s ≡ true
    → SettleTells n vs v s
unfolding settle
settle_tells zero vs v s e = absurd (cc)
settle_tells (suc n) vs v s e =
    at_tells n vs v s (settle n) (λ us w d. settle_tells n us w s d) (get vs v) refl e

gives_way : (vs : Named Version) (v : OpName) (x : Version) (f : Follow) (h : How) (next : Settling)
    → GivesWay vs v x f h → settle_at vs v next (get vs v) ≡ settle_how vs v x f next h
gives_way vs v x f h next g =
    ap (settle_at vs v next) g.there
    ∙ ap (settle_by vs v x next) g.next
    ∙ ap (λ b. if b then settle_how vs v x f next f.how else unchanged vs) g.done
    ∙ ap (settle_how vs v x f next) g.way

-- and that one it tells
pub settle_tells_successor : (n : ℕ) (vs : Named Version) (v s : OpName) → SettleTells n vs v s
    → tells (settle n vs v).sent s ≡ true
unfolding settle
settle_tells_successor zero vs v s h = absurd h
settle_tells_successor (suc n) vs v s (inl t) =
    let x = t.version in
    let f = t.follow in
    ap (λ (d : Versioned). tells d.sent s) (gives_way vs v x f Over (settle n) t.gives)
    ∙ ap (tells (ready_with f.version f.version x.storage)) (sym t.successor)
    ∙ ready_with_told f.version f.version x.storage t.storage t.kept
settle_tells_successor (suc n) vs v s (inr g) =
    ap (λ (d : Versioned). tells d.sent s) (gives_way vs v g.version g.follow Beside (settle n) g.gives)
    ∙ settle_tells_successor n (unlinked vs v g.version g.follow.version) g.follow.version s g.on

-- what a settle keeps while it goes on, and what then holds of whom it tells
pub settle_tells_by : (P : Named Version → OpName → Type 0) (Q : OpName → Type 0)
    → ((us : Named Version) (w : OpName) (x : Version) (f : Follow) → P us w → GivesWay us w x f Beside
    → P (unlinked us w x f.version) f.version)
    → ((us : Named Version) (w s : OpName) → P us w → TakesOver us w s → Q s)
    → (n : ℕ) (vs : Named Version) (v s : OpName) → P vs v → SettleTells n vs v s → Q s
settle_tells_by P Q on over zero vs v s p h = absurd h
settle_tells_by P Q on over (suc n) vs v s p (inl t) = over vs v s p t
settle_tells_by P Q on over (suc n) vs v s p (inr g) =
    settle_tells_by P Q on over n (unlinked vs v g.version g.follow.version) g.follow.version s
    (on vs v g.version g.follow p g.gives) g.on
