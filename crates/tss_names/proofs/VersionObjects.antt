-- No event but open makes a version, and none changes the object of one.
use Rattle.std.proofs.Common.{sym, subst}
use Rattle.tss_base.specs.declared.range.Range.{Range}
use Rattle.tss_base.specs.declared.operand.OpName.{OpName}
use Rattle.tss_base.specs.Names.{Named}
use Rattle.tss_protocol.specs.Mail.{OpenContents, ReleaseContents}
use Rattle.tss_protocol.specs.State.{Version}
use Rattle.tss_protocol.specs.Versions.{after_open, after_use, after_release, after_nack, after_retire}
use Rattle.tss_names.specs.Names.{EachEntry}
use Rattle.tss_names.proofs.VersionFacts.{IsOfEach, each_open, each_use, each_release, each_nack, each_retire}

-- a fact of each version's name and object
module _ (B : OpName → Range → Type 0) where
  -- of each version
  abbrev EachObject : Named Version → Type 0
  EachObject vs = EachEntry (λ v x. B v x.object) vs

  -- no change but open's is one of an object
  of_object : IsOfEach (λ v x. B v x.object)
  of_object = record {
    links = λ v x p h. h;
    follows = λ v x f h. h;
    stores = λ v x s h. h;
    asks = λ v x n h. h;
    produces = λ v x h. h;
    releases = λ v x o h. h;
    refuses = λ v x h. h;
  }

  -- what open leaves
  pub objects_open : (vs : Named Version) (o : OpName) (c : OpenContents) → EachObject vs → B o c.operand.object
      → EachObject (after_open vs o c).part
  objects_open vs o c each new =
      each_open (λ v x. B v x.object) of_object vs o c each (λ x object few. subst (B o) (sym object) new)

  module _ (vs : Named Version) (each : EachObject vs) where
    -- what use leaves
    pub objects_use : (o v : OpName) → EachObject (after_use vs o v).part
    objects_use o v =
        each_use (λ v x. B v x.object) of_object vs o v each (λ x e. (each v x e, each v x e))

    -- what release leaves
    pub objects_release : (o : OpName) (r : ReleaseContents) → EachObject (after_release vs o r).part
    objects_release o r = each_release (λ v x. B v x.object) of_object vs each o r

    -- what nack leaves
    pub objects_nack : (v : OpName) → EachObject (after_nack vs v).part
    objects_nack v = each_nack (λ v x. B v x.object) of_object vs each v

    -- what retire leaves
    pub objects_retire : (v : OpName) → EachObject (after_retire vs v)
    objects_retire v = each_retire (λ v x. B v x.object) of_object vs each v
