-- Each name has its object: in the first state, and where nothing is changed under names without one.
use Rattle.std.proofs.Common.{◌≡◌, Option, Some, None, refl, sym, ◌∙◌, ap, inl, inr, ◌⊎◌}
use Rattle.std.specs.FinMap.{get-empty}
use Rattle.std.specs.Ordering.{nat_cmp}
use Rattle.std.proofs.lemmas.Option.{none-some}
use Rattle.tss_base.specs.declared.range.Range.{Range}
use Rattle.tss_base.specs.declared.operand.OpName.{OpName}
use Rattle.tss_base.specs.Names.{Named, Numbered, name_cmp}
use Rattle.tss_base.specs.Image.{ImageState}
use Rattle.tss_protocol.specs.Mail.{Mail}
use Rattle.tss_protocol.specs.State.{OperandState, Flying, initial_state}
use Rattle.tss_protocol.specs.Stations.{operand_at}
use Rattle.tss_locality.specs.Agreement.{Beyond, AgreeAt, MailAgrees, SameOperand}
use Rattle.tss_locality.proofs.Flights.{record_in}
use Rattle.tss_locality.specs.Scopes.{Scope, IsOwn}
use Rattle.tss_locality.specs.Objects.{Objects, HasObject, AreNamed, MailNamed, IsNamed}

module _ (f : Objects) where
  -- a name with an object, or one without
  object_by : (o : OpName) (x : Option Range) → f o ≡ x → (HasObject f o → ⊥) ⊎ HasObject f o
  object_by o None e = inl (λ h. none-some h.0 (sym e ∙ h.1))
  object_by o (Some x) e = inr (x, e)

  -- names that agree where there is no object
  pub named_agree : {X : Type 0} (P : OpName → Type 0) (m n : Named X) → ((o : OpName) → P o → HasObject f o) →
      AgreeAt (Beyond P) m n → AreNamed f m → AreNamed f n
  named_agree P m n less same named o x e = elim (object_by o (f o) refl) [
    | inl none ↦ named o x (sym (same o (λ p. none (less o p))) ∙ e)
    | inr there ↦ there
  ]

  -- records likewise
  pub records_named : (P : OpName → Type 0) (x y : Numbered Flying) → ((o : OpName) → P o → HasObject f o) →
      ((o : OpName) → Beyond P o → SameOperand (operand_at x o) (operand_at y o)) →
      ((o : OpName) (r : OperandState) → operand_at x o ≡ Some r → HasObject f o) →
      (o : OpName) (r : OperandState) → operand_at y o ≡ Some r → HasObject f o
  records_named P x y less same named o r e = elim (object_by o (f o) refl) [
    | inl none ↦ elim (same o (λ p. none (less o p))) [
      | inl kept ↦ named o r (sym kept ∙ e)
      | inr gone ↦ absurd (none-some r (sym gone.1 ∙ e))
    ]
    | inr there ↦ there
  ]

  -- messages likewise
  pub mail_named : (c : Scope) (m n : Mail) → ((o : OpName) → c.names o → HasObject f o) →
      MailAgrees (Beyond c.names) (Beyond (IsOwn c)) m n → MailNamed f m → MailNamed f n
  mail_named c m n less same named =
      let own : (o : OpName) → IsOwn c o → HasObject f o = λ o p. less o p.0 in
      record {
        decodes = named_agree (IsOwn c) m.decodes n.decodes own same.decodes named.decodes;
        acks = named_agree (IsOwn c) m.acks n.acks own same.acks named.acks;
        opens = named_agree (IsOwn c) m.opens n.opens own same.opens named.opens;
        uses = named_agree (IsOwn c) m.uses n.uses own same.uses named.uses;
        readies = named_agree c.names m.readies n.readies less same.readies named.readies;
        links = named_agree c.names m.links n.links less same.links named.links;
        releases = named_agree (IsOwn c) m.releases n.releases own same.releases named.releases;
        byes = named_agree (IsOwn c) m.byes n.byes own same.byes named.byes;
        idles = named_agree c.names m.idles n.idles less same.idles named.idles;
        nacks = named_agree c.names m.nacks n.nacks less same.nacks named.nacks;
        retires = named_agree c.names m.retires n.retires less same.retires named.retires;
        gones = named_agree c.names m.gones n.gones less same.gones named.gones;
      }

  -- nothing stands in the first state
  pub IsNamed-initial_state : (i : ImageState) → IsNamed f (initial_state i)
  IsNamed-initial_state i = record {
    arrivals = λ o p e. absurd (none-some p e);
    records = λ o r e. absurd (none-some r
        (sym (ap (record_in o.place) (get-empty nat_cmp o.task)) ∙ e));
    workers = λ w b e. absurd (none-some b (sym (get-empty nat_cmp w) ∙ e));
    entries = λ b e there. absurd (none-some e (sym (get-empty nat_cmp b) ∙ there));
    places = λ o x e. absurd (none-some x (sym (get-empty name_cmp o) ∙ e));
    buffers = λ o x e. absurd (none-some x (sym (get-empty name_cmp o) ∙ e));
    versions = λ o x e. absurd (none-some x (sym (get-empty name_cmp o) ∙ e));
    mail = record {
      decodes = λ o x e. absurd (none-some x (sym (get-empty name_cmp o) ∙ e));
      acks = λ o x e. absurd (none-some x (sym (get-empty name_cmp o) ∙ e));
      opens = λ o x e. absurd (none-some x (sym (get-empty name_cmp o) ∙ e));
      uses = λ o x e. absurd (none-some x (sym (get-empty name_cmp o) ∙ e));
      readies = λ o x e. absurd (none-some x (sym (get-empty name_cmp o) ∙ e));
      links = λ o x e. absurd (none-some x (sym (get-empty name_cmp o) ∙ e));
      releases = λ o x e. absurd (none-some x (sym (get-empty name_cmp o) ∙ e));
      byes = λ o x e. absurd (none-some x (sym (get-empty name_cmp o) ∙ e));
      idles = λ o x e. absurd (none-some x (sym (get-empty name_cmp o) ∙ e));
      nacks = λ o x e. absurd (none-some x (sym (get-empty name_cmp o) ∙ e));
      retires = λ o x e. absurd (none-some x (sym (get-empty name_cmp o) ∙ e));
      gones = λ o x e. absurd (none-some x (sym (get-empty name_cmp o) ∙ e));
    };
    copies = λ b k e. absurd (none-some k (sym (get-empty nat_cmp b) ∙ e));
  }
