-- A change that concerns one scope leaves a scope apart from it closed.
use Rattle.std.proofs.Common.{◌≡◌, ℕ, Some, sym, ◌∙◌, subst, inl, inr}
use Rattle.std.specs.declared.cmp.Ordering.{Ordering}
use Rattle.std.specs.FinMap.{FinMap, get}
use Rattle.std.proofs.lemmas.Option.{none-some}
use Rattle.tss_base.specs.declared.range.Range.{Range}
use Rattle.tss_base.specs.declared.operand.OpName.{OpName}
use Rattle.tss_protocol.specs.State.{Entry, State}
use Rattle.tss_locality.specs.Agreement.{Beyond, AgreeAt, ClosedAt}
use Rattle.tss_locality.specs.Scopes.{Scope, SourceIn, VersionIn, OpeningIn, GoingIn, ChangesOnly, ClosedWorkers}
use Rattle.tss_locality.specs.Scopes.{Closed}

-- what agrees at some keys stays closed at these
closed_agree : {K X : Type 0} {R : K → K → Ordering} (A P : K → Type 0) (Q : X → Type 0) (m n : FinMap R X) →
    ((q : K) → P q → A q) → AgreeAt A m n → ClosedAt P Q m → ClosedAt P Q n
closed_agree A P Q m n less same c q x p e = c q x p (sym (same q (less q p)) ∙ e)

-- no name is in both scopes, and no object
pub record AreApart (c d : Scope) : Type 0 where
  pub names : (o : OpName) → d.names o → c.names o → ⊥
  pub objects : (x : Range) → d.objects x → c.objects x → ⊥

-- an entry after a change that is of no object of the scope was there before
abbrev pub OthersWere : Scope → State → State → Type 0
OthersWere c S T = (b : ℕ) (e : Entry) → get T.entries b ≡ Some e → (c.objects e.object → ⊥) → get S.entries b ≡ Some e

module _ (c d : Scope) (S T : State) (apart : AreApart c d) (f : ChangesOnly c S T) (were : OthersWere c S T)
    (closed : Closed d S) where
  -- an event that leaves the workers, and concerns another scope
  pub closed_apart : T.workers ≡ S.workers → Closed d T
  closed_apart workers =
      let out : (o : OpName) → d.names o → Beyond c.names o = apart.names in
      let own : (o : OpName) → d.names o → c.names o × c.tasks o.task → ⊥ = λ o p q. apart.names o p q.0 in
      record {
        arrivals = λ o p in_d e. closed.arrivals o p in_d (sym (f.arrivals o (out o in_d)) ∙ e);
        flight = λ o r in_d e. elim (f.operands o (out o in_d)) [
          | inl same ↦ closed.flight o r in_d (sym same ∙ e)
          | inr gone ↦ absurd (none-some r (sym gone.1 ∙ e))
        ];
        workers = subst (ClosedWorkers d) (sym workers) closed.workers;
        entries = λ b e there in_d.
            closed.entries b e (were b e there (apart.objects e.object in_d)) in_d;
        versions = closed_agree _ d.names (VersionIn d) S.versions T.versions out f.versions closed.versions;
        mail = record {
          decodes = closed_agree _ d.names _ S.mail.decodes T.mail.decodes own f.mail.decodes closed.mail.decodes;
          opens = closed_agree _ d.names (OpeningIn d) S.mail.opens T.mail.opens own f.mail.opens closed.mail.opens;
          uses = closed_agree _ d.names d.names S.mail.uses T.mail.uses own f.mail.uses closed.mail.uses;
          readies = closed_agree _ d.names (SourceIn d) S.mail.readies T.mail.readies out f.mail.readies
              closed.mail.readies;
          links = closed_agree _ d.names d.names S.mail.links T.mail.links out f.mail.links closed.mail.links;
          releases = closed_agree _ d.names _ S.mail.releases T.mail.releases own f.mail.releases closed.mail.releases;
          idles = closed_agree _ d.names _ S.mail.idles T.mail.idles out f.mail.idles closed.mail.idles;
          gones = closed_agree _ d.names (GoingIn d) S.mail.gones T.mail.gones out f.mail.gones closed.mail.gones;
        };
        copies = λ b k in_d there.
            closed.copies b k in_d ((f.copies b k (apart.objects k.object in_d)).1 there);
      }
