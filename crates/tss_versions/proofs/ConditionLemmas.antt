-- What the calls ask holds where a version is written or opened, and at each step of a settle.
use Rattle.std.proofs.Common.{◌≡◌, ◌≢◌, ◌<◌, false, Option, Some, None, refl, sym, ap, subst, ◌∙◌, inl, inr, arith, option_map}
use Rattle.std.specs.FinMap.{get, insert}
use Rattle.std.proofs.lemmas.Option.{none-some, same_Some}
use Rattle.tss_base.specs.declared.operand.OpName.{OpName}
use Rattle.tss_base.specs.declared.marks.How.TheVariants.{Over}
use Rattle.tss_base.specs.declared.marks.Follow.{Follow}
use Rattle.tss_base.specs.Names.{Named}
use Rattle.tss_maps.proofs.Keys.{name_order, decide_key}
use Rattle.tss_maps.proofs.Changes.{at_inserted, beside_inserted, apart_absent}
use Rattle.tss_protocol.specs.State.{Version}
use Rattle.tss_protocol.specs.Mail.{OpenContents}
use Rattle.tss_protocol.specs.Versions.{followed}
use Rattle.tss_protocol.specs.Settled.{IsSettled}
use Rattle.tss_protocol.proofs.SettleCases.{OthersSettled, at_changed, beside_changed}
use Rattle.tss_events.specs.Events.{storage_name}
use Rattle.tss_versions.specs.declared.kept.Kept.{Kept}
use Rattle.tss_versions.specs.declared.kept.Store.{Store}
use Rattle.tss_versions.specs.declared.status.Site.{Site}
use Rattle.tss_versions.specs.declared.status.Next.{Next}
use Rattle.tss_versions.specs.Known.{storage_of, storage_in, follow_of, version_of, versions_of, IsAt, HaveSites}
use Rattle.tss_versions.specs.Conditions.{AreChained, IsBehind, IsBetween, IsUnstored, MaySettle, IsUnnamed}
use Rattle.tss_versions.proofs.RowLemmas.{version_there}
use Rattle.tss_versions.proofs.SettleLemmas.{kept_there}

-- an older version is another one
apart_older : (q v : OpName) → q.task < v.task → q ≢ v
apart_older q v older same = let t = ap (λ (o : OpName). o.task) same in omega (arith, t, older)

-- ---- a version is written

module _ (vs : Named Version) (v : OpName) (x : Version) (there : get vs v ≡ Some x) (chained : AreChained vs) (y : Version)
    (before : y.predecessor ≡ x.predecessor) (after : y.successor ≡ x.successor) where
  written_is : (z : Version) → get (insert vs v y) v ≡ Some z → z ≡ y
  written_is z e = same_Some z y (sym e ∙ at_inserted name_order vs v y)

  -- its neighbours are as they were
  pub may_settle_written : MaySettle (insert vs v y) v
  may_settle_written = record {
    before = λ z q e to.
        let b = chained.before v q x there (sym before ∙ ap (λ (z : Version). z.predecessor) (sym (written_is z e)) ∙ to) in
        let far = apart_older q v b.older in
        ((b.version, beside_inserted name_order vs v y q far ∙ b.there), far);
    after = λ z f e to.
        let n = chained.after v x f there (sym after ∙ ap (λ (z : Version). z.successor) (sym (written_is z e)) ∙ to) in
        let far : f.version ≢ v = λ same. apart_older v f.version n.younger (sym same) in
        record {
          version = n.version;
          there = beside_inserted name_order vs v y f.version far ∙ n.there;
          apart = far;
          after = λ back.
              let b = chained.before v f.version x there (sym before ∙ ap (λ (z : Version). z.predecessor) (sym (written_is z e)) ∙ back) in
              let older = b.older in
              let younger = n.younger in
              omega (arith, older, younger);
          bare = n.bare;
        };
  }

  -- and the others are settled
  pub others_written : OthersSettled (insert vs v y) v
  others_written q z e apart = chained.settled q z (sym (beside_inserted name_order vs v y q apart) ∙ e)

-- ---- a version is opened behind another one

module _ (vs : Named Version) (o : OpName) (c : OpenContents) (f : Follow) (fresh : get vs o ≡ None) (p : Version)
    (there : get vs f.version ≡ Some p) (chained : AreChained vs)
    (bare : f.how ≡ Over → c.storage ≡ None) where
  other : f.version ≢ o
  other = apart_absent vs f.version o p there fresh

  abbrev opened : Version
  opened = record {
    object = c.operand.object;
    storage = c.storage;
    produced = false;
    registered = 0;
    released = 0;
    head = None;
    tail = None;
    predecessor = Some f.version;
    successor = None;
    asked = None;
    refused = None;
  }

  abbrev more : Named Version
  more = insert vs o opened

  abbrev linked : Version → Version
  linked p = record p { successor = Some (record f { version = o }) }

  before_there : get more f.version ≡ Some p
  before_there = beside_inserted name_order vs o opened f.version other ∙ there

  followed_at : get (followed vs o c f) f.version ≡ Some (linked p)
  followed_at = at_changed linked more f.version p before_there

  followed_new : get (followed vs o c f) o ≡ Some opened
  followed_new = beside_changed linked more f.version o (λ e. other (sym e)) ∙ at_inserted name_order vs o opened

  followed_beside : (q : OpName) → q ≢ f.version → q ≢ o → get (followed vs o c f) q ≡ get vs q
  followed_beside q apart far =
      beside_changed linked more f.version q apart ∙ beside_inserted name_order vs o opened q far

  linked_is : (z : Version) → get (followed vs o c f) f.version ≡ Some z → z ≡ linked p
  linked_is z e = same_Some z (linked p) (sym e ∙ followed_at)

  -- it may be settled
  pub may_settle_followed : MaySettle (followed vs o c f) f.version
  may_settle_followed = record {
    before = λ z q e to.
        let b = chained.before f.version q p there (ap (λ (z : Version). z.predecessor) (sym (linked_is z e)) ∙ to) in
        let far = apart_older q f.version b.older in
        ((b.version, followed_beside q far (apart_absent vs q o b.version b.there fresh) ∙ b.there), far);
    after = λ z g e to.
        let same : record f { version = o } ≡ g = same_Some _ _ (ap (λ (z : Version). z.successor) (sym (linked_is z e)) ∙ to) in
        subst (IsBehind (followed vs o c f) f.version z) same (record {
          version = opened;
          there = followed_new;
          apart = λ e. other (sym e);
          after = λ back.
              let b = chained.before f.version o p there (ap (λ (z : Version). z.predecessor) (sym (linked_is z e)) ∙ back) in
              none_some_of fresh b.there;
          bare = bare;
        });
  }
    where
      none_some_of : {z : Version} → get vs o ≡ None → get vs o ≡ Some z → ⊥
      none_some_of {z} none some = none-some z (sym none ∙ some)

  opened_settled : IsSettled opened
  opened_settled = record { dies = λ g to. refl; asks = λ to. refl }

  -- and all others are settled
  pub others_followed : OthersSettled (followed vs o c f) f.version
  others_followed q z e apart = elim (decide_key name_order q o) [
    | inl new ↦
        subst IsSettled (same_Some opened z (sym followed_new ∙ ap (get (followed vs o c f)) (sym new) ∙ e)) opened_settled
    | inr far ↦ chained.settled q z (sym (followed_beside q apart far) ∙ e)
  ]

-- ---- no version has a link to a new one

-- by the versions' names alone
pub unnamed_fresh : (vs : Named Kept) (v : OpName) → get vs v ≡ None → AreChained (versions_of vs) → IsUnnamed vs v
unnamed_fresh vs v fresh chained = record {
  before = λ w x s there to same.
      let b = chained.before w s.name (version_of x) (version_there vs w x there) (ap (option_map (λ (s : Site). s.name)) to) in
      absent s.name same b.version b.there;
  after = λ w x n there to same.
      let b = chained.after w (version_of x) (follow_of n) (version_there vs w x there) (ap (option_map follow_of) to) in
      absent n.site.name same b.version b.there;
}
  where
    absent : (q : OpName) → q ≡ v → (y : Version) → get (versions_of vs) q ≡ Some y → ⊥
    absent q same y there =
        let k = kept_there vs q y there in
        none-some k.0 (sym fresh ∙ ap (get vs) (sym same) ∙ k.1)

-- ---- the steps of a settle

unstored : (s : Option Store) → option_map storage_name (storage_in s) ≡ None → s ≡ None
unstored None e = refl
unstored (Some s) e = absurd (none-some (storage_name (storage_of s)) (sym e))

module _ (vs : Named Kept) (v : Site) (at : IsAt vs v) (may : MaySettle (versions_of vs) v.name) (x : Kept)
    (there : get vs v.name ≡ Some x) (sites : HaveSites vs x.status) (n : Next) (to : x.status.successor ≡ Some n) where
  ahead : IsBehind (versions_of vs) v.name (version_of x) (follow_of n)
  ahead = may.after (version_of x) (follow_of n) (version_there vs v.name x there) (ap (option_map follow_of) to)

  -- a version stands between its neighbours
  pub stands_between : IsBetween vs v n.site
  stands_between = record {
    here = at;
    ahead =
        let k = kept_there vs n.site.name ahead.version ahead.there in
        (k.0, k.1, sites.after n to k.0 k.1);
    apart = ahead.apart;
    before = λ y s e back.
        let same : y ≡ x = same_Some y x (sym e ∙ there) in
        let b = may.before (version_of y) s.name (version_there vs v.name y e) (ap (option_map (λ (s : Site). s.name)) back) in
        let k = kept_there vs s.name b.0.0 b.0.1 in
        ((k.0, k.1, sites.before s (ap (λ (k : Kept). k.status.predecessor) (sym same) ∙ back) k.0 k.1), b.1);
  }

  -- one that is to take the storage has none
  pub next_unstored : n.how ≡ Over → IsUnstored vs n.site.name
  next_unstored over y e =
      let same : ahead.version ≡ version_of y = same_Some _ _ (sym ahead.there ∙ version_there vs n.site.name y e) in
      unstored y.store (ap (λ (y : Version). y.storage) (sym same) ∙ ahead.bare over)
