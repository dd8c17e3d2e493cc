-- The same changes of two maps of versions that agree at some names, where what stands there links these names alone.
use Rattle.std.proofs.Common.{◌≡◌, Option, Some, None, refl, sym, ap, ◌∙◌, subst, inl, inr}
use Rattle.std.specs.FinMap.{get, insert, remove}
use Rattle.std.proofs.lemmas.Option.{none-some, same_Some}
use Rattle.tss_base.specs.declared.range.Range.{Range}
use Rattle.tss_base.specs.declared.operand.OpName.{OpName}
use Rattle.tss_base.specs.declared.marks.Follow.{Follow}
use Rattle.tss_base.specs.Names.{Named}
use Rattle.tss_maps.proofs.Keys.{name_order, decide_key}
use Rattle.tss_maps.proofs.Changes.{at_inserted, beside_inserted, from_inserted, at_removed, beside_removed}
use Rattle.tss_maps.proofs.Changes.{from_removed}
use Rattle.tss_protocol.specs.State.{Version}
use Rattle.tss_protocol.specs.Versions.{put_version, drop_version, version_changed, change_version, change_named}
use Rattle.tss_protocol.specs.Versions.{followed_by, unlinked}
use Rattle.tss_banks.specs.Versions.{IsOfKind, AreAlike}

module _ (P : OpName → Type 0) (A : Range → Type 0) (all own : Named Version) where
  -- a change that leaves the object, and links to the names alone
  abbrev Keeps : (Version → Version) → Type 0
  Keeps f = (x : Version) → IsOfKind P A x → IsOfKind P A (f x)

  -- before any change
  pub alike_at_first : ((q : OpName) → P q → get all q ≡ get own q)
      → ((q : OpName) (x : Version) → P q → get own q ≡ Some x → IsOfKind P A x) → AreAlike P A all own all own
  alike_at_first same kinds = record {
    same = same;
    beyond_all = λ q out. refl;
    beyond_own = λ q out. refl;
    of_kind = kinds;
  }

  module _ (ws vs : Named Version) (c : AreAlike P A all own ws vs) where
    module _ (v : OpName) (p : P v) where
      -- a version is put
      pub alike_put : (x : Version) → IsOfKind P A x
          → AreAlike P A all own (put_version ws v x) (put_version vs v x)
      alike_put x kind = record {
        same = λ q in_p. elim (decide_key name_order q v) [
          | inl is ↦
              ap (get (insert ws v x)) is
              ∙ at_inserted name_order ws v x
              ∙ sym (ap (get (insert vs v x)) is ∙ at_inserted name_order vs v x)
          | inr apart ↦
              beside_inserted name_order ws v x q apart
              ∙ c.same q in_p
              ∙ sym (beside_inserted name_order vs v x q apart)
        ];
        beyond_all = λ q out.
            beside_inserted name_order ws v x q (λ is. out (subst P (sym is) p)) ∙ c.beyond_all q out;
        beyond_own = λ q out.
            beside_inserted name_order vs v x q (λ is. out (subst P (sym is) p)) ∙ c.beyond_own q out;
        of_kind = λ q y in_p there. elim (from_inserted name_order vs v x q y there) [
          | inl new ↦ subst (IsOfKind P A) (sym new.1) kind
          | inr old ↦ c.of_kind q y in_p old.1
        ];
      }

      -- a version is dropped
      pub alike_drop : AreAlike P A all own (drop_version ws v) (drop_version vs v)
      alike_drop = record {
        same = λ q in_p. elim (decide_key name_order q v) [
          | inl is ↦
              ap (get (remove ws v)) is
              ∙ at_removed name_order ws v
              ∙ sym (ap (get (remove vs v)) is ∙ at_removed name_order vs v)
          | inr apart ↦
              beside_removed name_order ws v q apart
              ∙ c.same q in_p
              ∙ sym (beside_removed name_order vs v q apart)
        ];
        beyond_all = λ q out.
            beside_removed name_order ws v q (λ is. out (subst P (sym is) p)) ∙ c.beyond_all q out;
        beyond_own = λ q out.
            beside_removed name_order vs v q (λ is. out (subst P (sym is) p)) ∙ c.beyond_own q out;
        of_kind = λ q y in_p there. c.of_kind q y in_p (from_removed name_order vs v q y there).1;
      }

      module _ (f : Version → Version) (keeps : Keeps f) where
        alike_changed_by : (o : Option Version) → get vs v ≡ o
            → AreAlike P A all own (version_changed ws v f o) (version_changed vs v f o)
        alike_changed_by None there = c
        alike_changed_by (Some x) there = alike_put (f x) (keeps x (c.of_kind v x p there))

        -- a version is changed where it is there
        pub alike_change : AreAlike P A all own (change_version ws v f) (change_version vs v f)
        alike_change =
            subst (λ o. AreAlike P A all own (version_changed ws v f o) (change_version vs v f)) (sym (c.same v p))
            (alike_changed_by (get vs v) refl)

    -- the same of a version that may not be named
    alike_change_named : (v : Option OpName) → ((q : OpName) → v ≡ Some q → P q) → (f : Version → Version)
        → Keeps f → AreAlike P A all own (change_named ws v f) (change_named vs v f)
    alike_change_named None p f keeps = c
    alike_change_named (Some v) p f keeps = alike_change v (p v refl) f keeps

  -- ---- a version gives way to its successor

  followed_in : (s : OpName) → P s → (o : Option Follow) (f : Follow) → followed_by s o ≡ Some f → P f.version
  followed_in s p None f e = absurd (none-some f e)
  followed_in s p (Some g) f e =
      subst P (ap (λ (f : Follow). f.version) (same_Some (record g { version = s }) f e)) p

  -- so both lose it
  pub alike_unlinked : (ws vs : Named Version) → AreAlike P A all own ws vs → (v : OpName) → P v → (x : Version)
      → IsOfKind P A x → (s : OpName) → P s → AreAlike P A all own (unlinked ws v x s) (unlinked vs v x s)
  alike_unlinked ws vs c v p x kind s next =
      let bridge : Version → Version = λ y. record y { successor = followed_by s y.successor } in
      alike_change
      (change_named (drop_version ws v) x.predecessor bridge)
      (change_named (drop_version vs v) x.predecessor bridge)
      (alike_change_named (drop_version ws v) (drop_version vs v) (alike_drop ws vs c v p) x.predecessor
      kind.predecessor bridge
      (λ y i. record {
        object = i.object;
        predecessor = i.predecessor;
        successor = followed_in s next y.successor;
      }))
      s next
      (λ y. record y { predecessor = x.predecessor })
      (λ y i. record {
        object = i.object;
        predecessor = kind.predecessor;
        successor = i.successor;
      })
