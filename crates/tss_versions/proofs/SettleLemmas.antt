-- A settle of the versions with their tokens is that of the definitions, where all other versions are settled.
use Rattle.std.proofs.Common.{◌≡◌, ℕ, zero, suc, Bool, true, false, if◌then◌else◌, [], ◌∷◌, Option, Some, None, refl, sym, ap, ◌∙◌, arith, option_map}
use Rattle.std.specs.FinMap.{get, len}
use Rattle.std.proofs.lemmas.Option.{none-some, same_Some}
use Rattle.tss_base.specs.declared.operand.OpName.{OpName}
use Rattle.tss_base.specs.declared.marks.How.{How}
use Rattle.tss_base.specs.declared.marks.How.TheVariants.{Beside, Over}
use Rattle.tss_base.specs.Names.{Named}
use Rattle.tss_maps.proofs.Entries.{len_there}
use Rattle.tss_protocol.specs.State.{Version}
use Rattle.tss_protocol.specs.Versions.{sending, may_die, settle_how, settle_by, unchanged, settle, settled}
use Rattle.tss_protocol.proofs.SettleCases.{OthersSettled, moved_up, at_unlinked}
use Rattle.tss_events.specs.declared.message.Message.TheVariants as message
use Rattle.tss_versions.specs.declared.kept.Kept.{Kept}
use Rattle.tss_versions.specs.declared.status.Next.{Next}
use Rattle.tss_versions.specs.Known.{follow_of, version_of, versions_of}
use Rattle.tss_versions.specs.Rows.{row_of, same, gone_by, asking, unlinked_kept, passed_by, gives_way, settled_by, settled_at, settled_kept}
use Rattle.tss_versions.specs.Conditions.{IsBehind, MaySettle}
use Rattle.tss_versions.proofs.RowLemmas.{get-versions_of, version_there, unlinked_row, gone_row, sending_row, asking_last, settle_there, asking_settled, over_row}

-- the version of a name has one with its tokens
pub kept_there : (vs : Named Kept) (v : OpName) (y : Version) → get (versions_of vs) v ≡ Some y →
    (x : Kept) × (get vs v ≡ Some x) × (version_of x ≡ y)
kept_there vs v y e = by (get vs v) refl
  where
    by : (o : Option Kept) → get vs v ≡ o → (x : Kept) × (get vs v ≡ Some x) × (version_of x ≡ y)
    by None none = absurd (none-some y (sym (get-versions_of vs v ∙ ap (option_map version_of) none) ∙ e))
    by (Some x) there = (x, there, same_Some _ _ (sym (version_there vs v x there) ∙ e))

module _ (vs : Named Kept) (v : OpName) (x : Kept) (there : get vs v ≡ Some x) (may : MaySettle (versions_of vs) v)
    (others : OthersSettled (versions_of vs) v) where
  abbrev x' : Version
  x' = version_of x

  module _ (n : Next) (to : x.status.successor ≡ Some n) where
    ahead : IsBehind (versions_of vs) v x' (follow_of n)
    ahead = may.after x' (follow_of n) (version_there vs v x there) (ap (option_map follow_of) to)

    -- what stands there after v has given way
    next_stands : get (versions_of (unlinked_kept vs v x n.site)) n.site.name ≡ Some (moved_up x' ahead.version)
    next_stands =
        ap (λ m. get m n.site.name) (unlinked_row vs v x n.site)
        ∙ at_unlinked (versions_of vs) v x' n.site.name ahead.apart ahead.after ahead.version ahead.there

    -- it isn't done
    next_calm : (z : Kept) (m : Next) → get (unlinked_kept vs v x n.site) n.site.name ≡ Some z → z.status.successor ≡ Some m →
        may_die (version_of z) m.last ≡ false
    next_calm z m at on =
        let same : version_of z ≡ moved_up x' ahead.version =
        same_Some _ _ (sym (version_there (unlinked_kept vs v x n.site) n.site.name z at) ∙ next_stands) in
        let calm = others n.site.name ahead.version ahead.there ahead.apart in
        ap (λ y. may_die y m.last) same
        ∙ calm.dies (follow_of m) (sym (ap (λ (y : Version). y.successor) same) ∙ ap (option_map follow_of) on)

    beside_row : (k : ℕ) → row_of (passed_by vs v x n.site)
        ≡ settle_how (versions_of vs) v x' (follow_of n) (settle (suc k)) Beside
    beside_row k =
        sending_row (message.Gone (gone_by v x false) ∷ []) (asking (unlinked_kept vs v x n.site) n.site.name)
        ∙ (λ i. sending (gone_row v x i ∷ [])
        ((asking_settled k (unlinked_kept vs v x n.site) n.site.name next_calm
        ∙ ap (λ m. settle (suc k) m n.site.name) (unlinked_row vs v x n.site)) i))

    gives_row : (k : ℕ) (h : How) → row_of (gives_way vs v x n h) ≡ settle_how (versions_of vs) v x' (follow_of n) (settle (suc k)) h
    gives_row k Beside = beside_row k
    gives_row k Over = over_row vs v x n.site

    done_row : (k : ℕ) (b : Bool) → row_of (if b then gives_way vs v x n n.how else same vs)
        ≡ (if b then settle_how (versions_of vs) v x' (follow_of n) (settle (suc k)) n.how else unchanged (versions_of vs))
    done_row k true = gives_row k n.how
    done_row k false = refl

  by_row : (k : ℕ) (o : Option Next) → x.status.successor ≡ o →
      row_of (settled_by vs v x o) ≡ settle (suc (suc k)) (versions_of vs) v
  by_row k None to =
      asking_last vs v x (settle (suc k))
      ∙ sym (settle_there (suc k) (versions_of vs) v x' (version_there vs v x there)
      ∙ ap (settle_by (versions_of vs) v x' (settle (suc k))) (ap (option_map follow_of) to))
  by_row k (Some n) to =
      done_row n to k (may_die x' n.last)
      ∙ sym (settle_there (suc k) (versions_of vs) v x' (version_there vs v x there)
      ∙ ap (settle_by (versions_of vs) v x' (settle (suc k))) (ap (option_map follow_of) to))

  enough_row : (k : ℕ) → k ≡ len (versions_of vs) → row_of (settled_by vs v x x.status.successor) ≡ settle (suc k) (versions_of vs) v
  enough_row zero e = absurd (omega (arith, e, len_there (versions_of vs) v x' (version_there vs v x there)))
  enough_row (suc k) e = by_row k x.status.successor refl

-- of a version that is there
pub settled_row : (vs : Named Kept) (v : OpName) (x : Kept) → get vs v ≡ Some x → MaySettle (versions_of vs) v →
    OthersSettled (versions_of vs) v → row_of (settled_kept vs v) ≡ settled (versions_of vs) v
settled_row vs v x there may others =
    ap (λ o. row_of (settled_at vs v o)) there ∙ enough_row vs v x there may others (len (versions_of vs)) refl
