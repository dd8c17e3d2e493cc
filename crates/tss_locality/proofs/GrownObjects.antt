-- Where more names get objects, each name still has its object, and links stay within it.
use Rattle.std.proofs.Common.{◌≡◌, Some, sym, ap, ◌∙◌}
use Rattle.std.proofs.lemmas.Option.{same_Some}
use Rattle.tss_base.specs.declared.range.Range.{Range}
use Rattle.tss_base.specs.declared.operand.OpName.{OpName}
use Rattle.tss_base.specs.Names.{Named}
use Rattle.tss_protocol.specs.Names.{operand_name}
use Rattle.tss_protocol.specs.State.{State}
use Rattle.tss_locality.specs.Agreement.{ClosedAt}
use Rattle.tss_locality.specs.Scopes.{Scope, IsBase, SourceIn, VersionIn, OpeningIn, GoingIn, Closed}
use Rattle.tss_locality.specs.Objects.{Objects, object_scope, Every, HasObject, AreNamed, IsNamed, IsWithinObjects}
use Rattle.tss_locality.proofs.closed.FamilyScopes.{LiesWithin, storage_more, source_more, base_more, version_more}
use Rattle.tss_locality.proofs.closed.FamilyScopes.{record_more, opening_more, going_more, copy_more}

module _ (f g : Objects) (grows : (o : OpName) (x : Range) → f o ≡ Some x → g o ≡ Some x) where
  has_more : (o : OpName) → HasObject f o → HasObject g o
  has_more o h = (h.0, grows o h.0 h.1)

  named_more : {X : Type 0} (m : Named X) → AreNamed f m → AreNamed g m
  named_more m named o x e = has_more o (named o x e)

  -- each name still has its object
  IsNamed-grown : (S : State) → IsNamed f S → IsNamed g S
  IsNamed-grown S n = record {
    arrivals = λ o p e. grows o p.object (n.arrivals o p e);
    records = λ o r e. has_more o (n.records o r e);
    workers = λ w b there k s e. has_more (operand_name b.task.number k) (n.workers w b there k s e);
    entries = λ b e there. let t = n.entries b e there in (grows e.latest e.object t.0, t.1);
    places = named_more S.places n.places;
    buffers = named_more S.buffers n.buffers;
    versions = named_more S.versions n.versions;
    mail = record {
      decodes = named_more S.mail.decodes n.mail.decodes;
      acks = named_more S.mail.acks n.mail.acks;
      opens = named_more S.mail.opens n.mail.opens;
      uses = named_more S.mail.uses n.mail.uses;
      readies = named_more S.mail.readies n.mail.readies;
      links = named_more S.mail.links n.mail.links;
      releases = named_more S.mail.releases n.mail.releases;
      byes = named_more S.mail.byes n.mail.byes;
      idles = named_more S.mail.idles n.mail.idles;
      nacks = named_more S.mail.nacks n.mail.nacks;
      retires = named_more S.mail.retires n.mail.retires;
      gones = named_more S.mail.gones n.mail.gones;
    };
    copies = λ b k e. grows k.version k.object (n.copies b k e);
  }

  module _ (S : State) (within : IsWithinObjects f S) (o : OpName) (x : Range) (go : g o ≡ Some x) where
    abbrev old : Scope
    old = object_scope f x Every

    abbrev new : Scope
    new = object_scope g x Every

    more : LiesWithin old new
    more = record { names = λ q p. grows q x p; objects = λ y p. p }

    -- a name with an object had that before
    before : (q : OpName) → HasObject f q → g q ≡ Some x → f q ≡ Some x
    before q h p = h.1 ∙ ap Some (same_Some h.0 x (sym (grows q h.0 h.1) ∙ p))

    closed_before : (q : OpName) → HasObject f q → g q ≡ Some x → Closed old S
    closed_before q h p = within.links q x (before q h p)

    at_more : {X : Type 0} (Q R : X → Type 0) (m : Named X) → AreNamed f m → ((y : X) → Q y → R y) →
        (Closed old S → ClosedAt (λ q. f q ≡ Some x) Q m) → ClosedAt (λ q. g q ≡ Some x) R m
    at_more Q R m named step closed q y p e =
        let h = named q y e in
        step y (closed (closed_before q h p) q y (before q h p) e)

    closed_grown : Closed new S
    closed_grown = record {
      arrivals = λ q p in_g e. same_Some p.object x (sym (grows q p.object (within.named.arrivals q p e)) ∙ in_g);
      flight = λ q r in_g e.
          let h = within.named.records q r e in
          record_more old new more r ((closed_before q h in_g).flight q r (before q h in_g) e);
      workers = λ w b there k s in_g e.
          let q = operand_name b.task.number k in
          let h = within.named.workers w b there k s e in
          storage_more old new more s ((closed_before q h in_g).workers w b there k s (before q h in_g) e);
      entries = λ b e there is_x.
          grows e.latest e.object (within.named.entries b e there).0 ∙ ap Some is_x;
      versions = at_more (VersionIn old) (VersionIn new) S.versions within.named.versions (version_more old new more)
          (λ c. c.versions);
      mail = record {
        decodes = at_more _ _ S.mail.decodes within.named.mail.decodes (λ p i. i) (λ c. c.mail.decodes);
        opens = at_more (OpeningIn old) (OpeningIn new) S.mail.opens within.named.mail.opens (opening_more old new more)
            (λ c. c.mail.opens);
        uses = at_more old.names new.names S.mail.uses within.named.mail.uses (λ v p. grows v x p) (λ c. c.mail.uses);
        readies = at_more (SourceIn old) (SourceIn new) S.mail.readies within.named.mail.readies
            (source_more old new more)
            (λ c. c.mail.readies);
        links = at_more old.names new.names S.mail.links within.named.mail.links (λ v p. grows v x p)
            (λ c. c.mail.links);
        releases = at_more (λ r. old.names r.version) (λ r. new.names r.version) S.mail.releases
            within.named.mail.releases
            (λ r p. grows r.version x p) (λ c. c.mail.releases);
        idles = at_more (λ i. IsBase old i.base) (λ i. IsBase new i.base) S.mail.idles within.named.mail.idles
            (λ i p. base_more old new more i.base p) (λ c. c.mail.idles);
        gones = at_more (GoingIn old) (GoingIn new) S.mail.gones within.named.mail.gones (going_more old new more)
            (λ c. c.mail.gones);
      };
      copies = λ b k is_x e.
          let fo = within.named.copies b k e ∙ ap Some is_x in
          copy_more old new more k ((within.links k.version x fo).copies b k is_x e);
    }

  -- and links stay within it
  pub IsWithinObjects-grown : (S : State) → IsWithinObjects f S → IsWithinObjects g S
  IsWithinObjects-grown S within = record {
    named = IsNamed-grown S within.named;
    links = λ o x go. closed_grown S within o x go;
  }
