-- What the tests check of a bank before a call is what the call asks.
use Rattle.std.proofs.Common.{◌≡◌, ◌<◌, ◌+◌, ℕ, Bool, List, true, false, Option, Some, None, refl, sym, ap, subst, ◌∙◌, ◌⊎◌, inl, inr, arith, option_map}
use Rattle.std.specs.Prelude.{is_some, not, nat_lt}
use Rattle.std.proofs.lemmas.Bool.Decides.{nat_tests}
use Rattle.std.specs.FinMap.{get, len}
use Rattle.std.proofs.lemmas.Option.{none-some, same_Some}
use Rattle.tss_base.specs.declared.operand.OpName.{OpName}
use Rattle.tss_base.specs.declared.marks.Follow.{Follow}
use Rattle.tss_base.specs.declared.marks.How.TheVariants.{Over}
use Rattle.tss_base.specs.Names.{Named}
use Rattle.tss_maps.specs.Ordered.{key_at}
use Rattle.tss_maps.proofs.Keys.{name_order}
use Rattle.tss_maps.proofs.OrderedLemmas.{key_from_get, key_at_within}
use Rattle.tss_protocol.specs.State.{Version}
use Rattle.tss_protocol.specs.Versions.{may_die, may_ask}
use Rattle.tss_protocol.specs.Settled.{IsSettled}
use Rattle.tss_events.specs.Events.{storage_name}
use Rattle.tss_events.specs.declared.message.Message.{Message}
use Rattle.tss_versions.specs.declared.kept.Kept.{Kept}
use Rattle.tss_versions.specs.declared.kept.Store.{Store}
use Rattle.tss_versions.specs.declared.status.Next.{Next}
use Rattle.tss_versions.specs.declared.status.Site.{Site}
use Rattle.tss_versions.specs.declared.status.Status.{Status}
use Rattle.tss_versions.specs.Known.{follow_of, storage_in, version_by, version_of, versions_of}
use Rattle.tss_versions.specs.Conditions.{AreChained, IsBefore, IsChainedAt, IsNext}
use Rattle.tss_versions.specs.Numbers.{AreSentNumbered}
use Rattle.tss_versions.proofs.RowLemmas.{version_there}
use Rattle.tss_versions.proofs.SettleLemmas.{kept_there}

-- ---- tests

pub below : (m n : ℕ) → nat_lt m n ≡ true → m < n
below m n e = grind (arith, nat_tests)

pub unset : (s : Option Store) (r : Bool) → is_some s ≡ not r → r ≡ true → s ≡ None
unset None r e t = refl
unset (Some x) true e t = absurd (cc)
unset (Some x) false e t = absurd (cc)

-- ---- a version is settled

-- one that another follows may not give way
pub settled_followed : (s : Status) (n : Next) → s.successor ≡ Some n → may_die (version_by None s) n.last ≡ false →
    IsSettled (version_by None s)
settled_followed s n to stays = record {
  dies = λ f e.
      subst (λ (g : Follow). may_die (version_by None s) g.last ≡ false)
      (same_Some (follow_of n) f (sym (ap (option_map follow_of) to) ∙ e)) stays;
  asks = λ e. absurd (none-some (follow_of n) (sym e ∙ ap (option_map follow_of) to));
}

-- the last may not ask
pub settled_last : (s : Status) → s.successor ≡ None → may_ask (version_by None s) ≡ false → IsSettled (version_by None s)
settled_last s to stays = record {
  dies = λ f e. absurd (none-some f (sym (ap (option_map follow_of) to) ∙ e));
  asks = λ e. stays;
}

-- ---- its neighbours

is_there : (vs : Named Kept) (v : OpName) → is_some (get vs v) ≡ true → (x : Kept) × (get vs v ≡ Some x)
is_there vs v e = by (get vs v) refl
  where
    by : (o : Option Kept) → get vs v ≡ o → (x : Kept) × (get vs v ≡ Some x)
    by None none = absurd (cc)
    by (Some x) there = (x, there)

-- an older one is before it
pub older_there : (vs : Named Kept) (v q : OpName) → is_some (get vs q) ≡ true → q.task < v.task →
    IsBefore (versions_of vs) v q
older_there vs v q e older =
    let k = is_there vs q e in
    record { version = version_of k.0; there = version_there vs q k.0 k.1; older = older }

-- a younger one follows it, without storage where it is to have its storage
pub younger_there : (vs : Named Kept) (v : OpName) (n : Next) (x : Kept) → get vs n.site.name ≡ Some x →
    v.task < n.site.name.task → (n.how ≡ Over → x.store ≡ None) → IsNext (versions_of vs) v (follow_of n)
younger_there vs v n x there younger bare = record {
  version = version_of x;
  there = version_there vs n.site.name x there;
  younger = younger;
  bare = λ over. ap (λ s. option_map storage_name (storage_in s)) (bare over);
}

named_before : (p : Option Site) (q : OpName) → option_map (λ (s : Site). s.name) p ≡ Some q →
    (s : Site) × (p ≡ Some s) × (s.name ≡ q)
named_before None q e = absurd (none-some q e)
named_before (Some s) q e = (s, refl, same_Some s.name q e)

next_after : (p : Option Next) (f : Follow) → option_map follow_of p ≡ Some f → (n : Next) × (p ≡ Some n) × (follow_of n ≡ f)
next_after None f e = absurd (none-some f e)
next_after (Some n) f e = (n, refl, same_Some (follow_of n) f e)

-- ---- a version stands settled between its neighbours

pub chained_absent : (vs : Named Kept) (v : OpName) → get vs v ≡ None → IsChainedAt (versions_of vs) v
chained_absent vs v none = record {
  settled = λ y e. missing y e;
  before = λ q y e to. missing y e;
  after = λ y f e to. missing y e;
}
  where
    missing : {A : Type 0} (y : Version) → get (versions_of vs) v ≡ Some y → A
    missing y e = let k = kept_there vs v y e in absurd (none-some k.0 (sym none ∙ k.1))

pub chained_here : (vs : Named Kept) (v : OpName) (x : Kept) → get vs v ≡ Some x → IsSettled (version_by None x.status) →
    ((s : Site) → x.status.predecessor ≡ Some s → IsBefore (versions_of vs) v s.name) →
    ((n : Next) → x.status.successor ≡ Some n → IsNext (versions_of vs) v (follow_of n)) →
    IsChainedAt (versions_of vs) v
chained_here vs v x there settled before after = record {
  settled = λ y e. subst IsSettled (is y e) (record { dies = settled.dies; asks = settled.asks });
  before = λ q y e to.
      let s = named_before x.status.predecessor q (ap (λ (y : Version). y.predecessor) (is y e) ∙ to) in
      subst (IsBefore (versions_of vs) v) s.2 (before s.0 s.1);
  after = λ y f e to.
      let n = next_after x.status.successor f (ap (λ (y : Version). y.successor) (is y e) ∙ to) in
      subst (IsNext (versions_of vs) v) n.2 (after n.0 n.1);
}
  where
    is : (y : Version) → get (versions_of vs) v ≡ Some y → version_of x ≡ y
    is y e = same_Some (version_of x) y (sym (version_there vs v x there) ∙ e)

-- ---- all versions, by their names in order

last_or_before : (i j : ℕ) → j < i + 1 → (j < i) ⊎ (j ≡ i)
last_or_before i j below = grind arith

-- one name more
pub one_more : (vs : Named Kept) (P : OpName → Type 0) (i : ℕ) →
    ((j : ℕ) (v : OpName) → j < i → key_at vs j ≡ Some v → P v) → ((v : OpName) → key_at vs i ≡ Some v → P v) →
    (j : ℕ) (v : OpName) → j < i + 1 → key_at vs j ≡ Some v → P v
one_more vs P i before here j v below at = elim (last_or_before i j below) [
  | inl less ↦ before j v less at
  | inr same ↦ here v (ap (λ k. key_at vs k) (sym same) ∙ at)
]

pub each_name : (vs : Named Kept) (P : OpName → Type 0) →
    ((i : ℕ) (v : OpName) → i < len vs → key_at vs i ≡ Some v → P v) →
    (v : OpName) (x : Kept) → get vs v ≡ Some x → P v
each_name vs P all v x there =
    let k = key_from_get name_order vs v x there in
    all k.0 v (key_at_within name_order vs k.0 v k.1) k.1

pub chained_each : (vs : Named Kept) →
    ((i : ℕ) (v : OpName) → i < len vs → key_at vs i ≡ Some v → IsChainedAt (versions_of vs) v) →
    AreChained (versions_of vs)
chained_each vs all = record {
  settled = λ v y e. (here v y e).settled y e;
  before = λ v q y e to. (here v y e).before q y e to;
  after = λ v y f e to. (here v y e).after y f e to;
}
  where
    here : (v : OpName) (y : Version) → get (versions_of vs) v ≡ Some y → IsChainedAt (versions_of vs) v
    here v y e = let k = kept_there vs v y e in each_name vs (IsChainedAt (versions_of vs)) all v k.0 k.1

-- ---- numbers of pools

pub sent_by : (places buffers : ℕ) (ms : List Message) → places ≡ 0 → buffers ≡ 1 → AreSentNumbered 0 1 ms →
    AreSentNumbered places buffers ms
sent_by places buffers ms zero one sent =
    subst (λ p. AreSentNumbered p buffers ms) (sym zero) (subst (λ b. AreSentNumbered 0 b ms) (sym one) sent)
