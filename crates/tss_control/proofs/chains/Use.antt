-- The chains after a use: its version has one more registered reader, and one less on its way.
use Rattle.std.proofs.Common.{◌≡◌, ◌≢◌, ℕ, suc, ◌+◌, Bool, true, false, List, Option, Some, None, refl, sym, ap, ◌∙◌}
use Rattle.std.proofs.Common.{subst, inl, inr, arith, true≢false}
use Rattle.std.specs.Prelude.{is_some}
use Rattle.std.specs.FinMap.{get, remove}
use Rattle.tss_base.specs.declared.operand.OpName.{OpName}
use Rattle.tss_base.specs.declared.operand.Task.{Task}
use Rattle.tss_base.specs.declared.machine.Machine.{Machine}
use Rattle.tss_base.specs.declared.event.Event.TheVariants as event
use Rattle.tss_base.specs.Names.{Named}
use Rattle.tss_maps.specs.Sums.{one_if}
use Rattle.tss_maps.proofs.Keys.{name_order, decide_key}
use Rattle.tss_maps.proofs.Changes.{at_inserted, beside_inserted, from_removed}
use Rattle.tss_maps.proofs.Sums.{sum_removed}
use Rattle.tss_protocol.specs.Names.{same_name}
use Rattle.tss_protocol.specs.Mail.{taken}
use Rattle.tss_protocol.specs.State.{State, Version}
use Rattle.tss_protocol.specs.Versions.{Versioned, put_version, enlisted, used_alone, used_behind, used_at, after_use}
use Rattle.tss_protocol.specs.UnitMachine.{IsEnabled, is_enabled, can_use_message, after_event, with_versioned, without}
use Rattle.tss_protocol.specs.UnitMachine.{use_message_taken}
use Rattle.tss_phases.proofs.Received.{own_name, other_name}
use Rattle.tss_control.specs.Members.{registered_of, opening_reader, uses_of, total}
use Rattle.tss_control.specs.Chains.{HasChains}
use Rattle.tss_protocol.proofs.SentLemmas.{posted_all-later, after_use-later}
use Rattle.tss_control.proofs.chains.Alike.{AreAlike, HasChains-alike}
use Rattle.tss_control.proofs.chains.Settled.{alike_written}

-- ---- how many are on their way

-- one less to the version of a use that is taken
uses_taken : (us : Named OpName) (o v : OpName) → get us o ≡ Some v → uses_of (remove us o) v + 1 ≡ uses_of us v
uses_taken us o v e =
    ap (λ b. uses_of (remove us o) v + one_if b) (sym (own_name v))
    ∙ sum_removed name_order (λ q w. one_if (same_name w v)) us o v e

plus_none : (a b : ℕ) → a + 0 ≡ b → a ≡ b
plus_none a b e = omega (arith, e)

-- and as many to others
uses_beside : (us : Named OpName) (o v w : OpName) → get us o ≡ Some v → v ≢ w
    → uses_of (remove us o) w ≡ uses_of us w
uses_beside us o v w e apart =
    plus_none (uses_of (remove us o) w) (uses_of us w)
    (ap (λ b. uses_of (remove us o) w + one_if b) (sym (other_name v w apart))
    ∙ sum_removed name_order (λ q z. one_if (same_name z w)) us o v e)

-- ---- the version with one more reader

-- a version is like this one, with one more reader
pub record HasOneMore (x y : Version) : Type 0 where
  pub like : AreAlike x y
  pub registered : y.registered ≡ suc x.registered
  pub produced : y.produced ≡ x.produced

-- the version after a use
pub record IsUsed (vs : Named Version) (v : OpName) (x : Version) (d : Versioned) : Type 0 where
  pub version : Version
  pub put : d.part ≡ put_version vs v version
  pub more : HasOneMore x version

module _ (vs : Named Version) (o v : OpName) (x : Version) where
  one_more : HasOneMore x (enlisted x o)
  one_more = record {
    like = record { object = refl; storage = refl; predecessor = refl; successor = refl; produced = λ e. refl };
    registered = refl;
    produced = refl;
  }

  used_alone_more : (b : Bool) → IsUsed vs v x (used_alone vs o v x b)
  used_alone_more true = record { version = enlisted x o; put = refl; more = one_more }
  used_alone_more false = record {
    version = record (enlisted x o) { head = Some o };
    put = refl;
    more = record {
      like = record { object = refl; storage = refl; predecessor = refl; successor = refl; produced = λ e. refl };
      registered = refl;
      produced = refl;
    };
  }

  -- it has one more reader
  pub used_more : (tail : Option OpName) → IsUsed vs v x (used_behind vs o v x tail)
  used_more None = used_alone_more x.produced
  used_more (Some last) = record { version = enlisted x o; put = refl; more = one_more }

-- ---- the chains

shifted : (r k u n s : ℕ) → s ≡ suc r → n + 1 ≡ u → s + k + n ≡ r + k + u
shifted r k u n s e d = omega (arith, e, d)

module _ (ts : List Task) (S T : State) (o v : OpName) (x : Version) (there : get S.versions v ≡ Some x)
    (using : get S.mail.uses o ≡ Some v) (d : Versioned) (used : IsUsed S.versions v x d)
    (part : T.versions ≡ d.part) (opens : T.mail.opens ≡ S.mail.opens)
    (uses : T.mail.uses ≡ remove S.mail.uses o) where
  put : T.versions ≡ put_version S.versions v used.version
  put = part ∙ used.put

  same_total : total T v ≡ total S v
  same_total =
      let registered : registered_of (get T.versions v) ≡ suc x.registered =
      ap (λ m. registered_of (get m v)) put
      ∙ ap registered_of (at_inserted name_order S.versions v used.version)
      ∙ used.more.registered in
      (λ i.
      registered_of (get T.versions v)
      + opening_reader (get (opens i) v)
      + uses_of (uses i) v)
      ∙ shifted x.registered (opening_reader (get S.mail.opens v)) (uses_of S.mail.uses v)
      (uses_of (remove S.mail.uses o) v) (registered_of (get T.versions v)) registered
      (uses_taken S.mail.uses o v using)
      ∙ ap (λ r. registered_of r + opening_reader (get S.mail.opens v) + uses_of S.mail.uses v) (sym there)

  other_total : (w : OpName) → v ≢ w → total T w ≡ total S w
  other_total w apart =
      let registered : registered_of (get T.versions w) ≡ registered_of (get S.versions w) =
      ap (λ m. registered_of (get m w)) put
      ∙ ap registered_of
      (beside_inserted name_order S.versions v used.version w (λ e. apart (sym e))) in
      let left : uses_of T.mail.uses w ≡ uses_of S.mail.uses w =
      ap (λ us. uses_of us w) uses ∙ uses_beside S.mail.uses o v w using apart in
      λ i. registered i + opening_reader (get (opens i) w) + left i

  -- as many readers were directed to each version
  pub used_total : (w : OpName) → total T w ≡ total S w
  used_total w = elim (decide_key name_order v w) [
    | inl is ↦ subst (λ k. total T k ≡ total S k) is same_total
    | inr apart ↦ other_total w apart
  ]

  chains_used : HasChains ts S → HasChains ts T
  chains_used h =
      HasChains-alike ts S T
      (alike_written S T v x used.version (record {
        there = there;
        put = put;
        like = used.more.like;
        opens = opens;
        uses = λ q w e. (from_removed name_order S.mail.uses o q w (sym (ap (λ us. get us q) uses) ∙ e)).1;
        all = used_total;
      })) h

module _ (m : Machine) (ts : List Task) (S : State) (h : HasChains ts S) where
  chains_use_at : (o v : OpName) → get S.mail.uses o ≡ Some v → (x : Option Version) → get S.versions v ≡ x
      → is_some x ≡ true → HasChains ts (with_versioned (without S (event.Use o)) (after_use S.versions o v))
  chains_use_at o v using None there on = absurd (true≢false (sym on))
  chains_use_at o v using (Some x) there on =
      let d = after_use S.versions o v in
      let same = posted_all-later (taken S.mail (event.Use o)) d.sent (after_use-later S.versions o v) in
      chains_used ts S (with_versioned (without S (event.Use o)) d) o v x there using (used_at S.versions o v (Some x))
      (used_more S.versions o v x x.tail)
      (ap (λ y. (used_at S.versions o v y).part) there)
      same.opens same.uses h

  chains_use : (o : OpName) (c : Option OpName) → get S.mail.uses o ≡ c → can_use_message S c ≡ true
      → HasChains ts (use_message_taken (without S (event.Use o)) o c)
  chains_use o None e on = absurd (true≢false (sym on))
  chains_use o (Some v) e on = chains_use_at o v e (get S.versions v) refl on

  -- use
  pub HasChains-use : (o : OpName) → IsEnabled m S (event.Use o) → HasChains ts (after_event m S (event.Use o))
  unfolding is_enabled after_event
  HasChains-use o on = chains_use o (get S.mail.uses o) refl on
