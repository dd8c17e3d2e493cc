-- What the steps of a call leave together.
use Rattle.std.proofs.Common.{◌≡◌, suc, ◌≤◌, Bool, true, false, [], ◌∷◌, ◌++◌, length, Option, Some, None, refl, sym, ap, ◌∙◌, arith, option_map}
use Rattle.std.specs.Prelude.{is_some}
use Rattle.std.specs.FinMap.{get}
use Rattle.std.proofs.lemmas.Option.{none-some, same_Some}
use Rattle.tss_base.specs.declared.operand.OpName.{OpName}
use Rattle.tss_base.specs.declared.operand.Storage.{Storage}
use Rattle.tss_base.specs.Names.{Named}
use Rattle.tss_protocol.specs.Versions.{tail_without}
use Rattle.tss_events.specs.declared.message.Message.TheVariants as message
use Rattle.tss_versions.specs.declared.kept.Kept.{Kept}
use Rattle.tss_versions.specs.declared.status.Site.{Site}
use Rattle.tss_versions.specs.Known.{storage_in, version_of, versions_of, IsAt, site_of}
use Rattle.tss_versions.specs.Rows.{ready_by, head_by, leaving_kept}
use Rattle.tss_versions.specs.Conditions.{Remain}
use Rattle.tss_versions.proofs.RowLemmas.{get-versions_of, version_there}
use Rattle.tss_versions.proofs.UnlinkLemmas.{remain_written}

-- ---- a version that was found

-- it has the site's name, and stands at its place
pub record IsFound (vs : Named Kept) (v : OpName) (at : Site) : Type 0 where
  pub kept : Kept
  pub there : get vs v ≡ Some kept
  pub name : at.name ≡ v
  pub place : kept.place.place ≡ at.place

pub found_site : (vs : Named Kept) (v : OpName) (at : Site) → option_map (site_of v) (get vs v) ≡ Some at → IsFound vs v at
found_site vs v at e = by (get vs v) refl
  where
    by : (o : Option Kept) → get vs v ≡ o → IsFound vs v at
    by None none = absurd (none-some at (sym (ap (option_map (site_of v)) none) ∙ e))
    by (Some x) there =
        let same : site_of v x ≡ at = same_Some _ _ (sym (ap (option_map (site_of v)) there) ∙ e) in
        record { kept = x; there = there; name = ap (λ (s : Site). s.name) (sym same); place = ap (λ (s : Site). s.place) same }

pub found_at : (vs : Named Kept) (v : OpName) (at : Site) → IsFound vs v at → IsAt vs at
found_at vs v at f = (f.kept, ap (get vs) f.name ∙ f.there, f.place)

-- one that wasn't found isn't there
pub absent_site : (vs : Named Kept) (v : OpName) → option_map (site_of v) (get vs v) ≡ None → get vs v ≡ None
absent_site vs v e = by (get vs v) refl
  where
    by : (o : Option Kept) → get vs v ≡ o → get vs v ≡ None
    by None none = none
    by (Some x) there = absurd (none-some (site_of v x) (sym e ∙ ap (option_map (site_of v)) there))

-- ---- whether one is registered

pub registered_row : (vs : Named Kept) (v : OpName) (x : Kept) → get vs v ≡ Some x → is_some (get (versions_of vs) v) ≡ true
registered_row vs v x there = ap is_some (version_there vs v x there)

pub unregistered_row : (vs : Named Kept) (v : OpName) → get vs v ≡ None → is_some (get (versions_of vs) v) ≡ false
unregistered_row vs v none = ap is_some (get-versions_of vs v ∙ ap (option_map version_of) none)

-- ---- a task that leaves

few_ready : (o v : OpName) (s : Option Storage) → length (ready_by o v s) ≤ 1
few_ready o v None = omega arith
few_ready o v (Some s) = omega arith

few_head : (o v : OpName) (s : Option Storage) (head : Option OpName) →
    length (head_by v s head ++ message.Bye o false ∷ []) ≤ 2
few_head o v s None = omega arith
few_head o v s (Some h) = by s
  where
    by : (s : Option Storage) → length (ready_by h v s ++ message.Bye o false ∷ []) ≤ 2
    by None = omega arith
    by (Some s) = omega arith

module _ (vs : Named Kept) (o v : OpName) (x : Kept) where
  -- it sends two messages at most
  pub few_sent : (producer : Bool) → length (leaving_kept vs o v x producer).sent ≤ 2
  few_sent true = few_head o v (storage_in x.store) x.status.head
  few_sent false = omega arith

  -- the versions remain
  pub remain_leaving : get vs v ≡ Some x → (producer : Bool) → Remain vs (leaving_kept vs o v x producer).part
  remain_leaving there true = remain_written vs v x there (record (x.status) { produced = true; head = None })
  remain_leaving there false =
      remain_written vs v x there
      (record (x.status) { released = suc x.status.released; tail = tail_without o x.status.tail })
