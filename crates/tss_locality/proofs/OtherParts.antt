-- The scope of an object with any tasks is closed where it is with all, and is apart from every object with another
-- base and other addresses.
use Rattle.std.proofs.Common.{◌≡◌, ℕ, Some, sym, ap, ◌∙◌, subst}
use Rattle.std.proofs.lemmas.Option.{same_Some}
use Rattle.tss_base.specs.declared.range.Range.{Range}
use Rattle.tss_base.specs.Range.{Covers}
use Rattle.tss_protocol.specs.State.{State}
use Rattle.tss_locality.specs.Scopes.{IsApart, Closed}
use Rattle.tss_locality.specs.Objects.{Objects, object_scope, Every}
use Rattle.tss_locality.proofs.closed.FamilyScopes.{closed_family}

module _ (f : Objects) (x : Range) (tasks : ℕ → Type 0) where
  -- the links of an object stay in it whatever the tasks
  pub closed_tasks : (S : State) → Closed (object_scope f x Every) S → Closed (object_scope f x tasks) S
  closed_tasks S closed =
      let c = object_scope f x Every in
      closed_family (object_scope f x tasks) S (record {
        of_name = λ o p. (c, record { closed = closed; within = record { names = λ o p. p; objects = λ x p. p } }, p);
        of_object = λ y p. (c, record { closed = closed; within = record { names = λ o p. p; objects = λ x p. p } }, p);
      })

  -- another object, with another base and other addresses, is apart from it
  pub apart_object : (y : Range) → (x.base ≡ y.base → ⊥) → ((a : ℕ) → Covers x a → Covers y a → ⊥) →
      IsApart (object_scope f x tasks) (λ o. f o ≡ Some y) y
  apart_object y bases addresses = record {
    names = λ o in_y in_x. bases (ap (λ (r : Range). r.base) (same_Some x y (sym in_x ∙ in_y)));
    base = λ z is_x same. bases (ap (λ (r : Range). r.base) (sym is_x) ∙ sym same);
    addresses = λ a in_y inside. addresses a (subst (λ z. Covers z a) inside.1 inside.2) in_y;
  }
