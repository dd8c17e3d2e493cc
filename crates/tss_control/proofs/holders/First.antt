-- What an open does to versions, and one that follows nothing.
use Rattle.std.proofs.Common.{◌≡◌, ◌≢◌, ◌⊎◌, true, false, List, Option, Some, None, refl, sym, ap, ◌∙◌, inl, inr}
use Rattle.std.specs.FinMap.{get}
use Rattle.std.proofs.lemmas.Option.{none-some}
use Rattle.tss_base.specs.declared.operand.OpName.{OpName}
use Rattle.tss_base.specs.declared.operand.Mode.{Mode}
use Rattle.tss_base.specs.declared.operand.Mode.TheVariants.{Input, Output, Inout}
use Rattle.tss_base.specs.Names.{Named}
use Rattle.tss_maps.proofs.Keys.{name_order}
use Rattle.tss_maps.proofs.Changes.{at_inserted, beside_inserted}
use Rattle.tss_protocol.specs.Mail.{StorageName, Home, OpenContents, Message}
use Rattle.tss_protocol.specs.State.{Version}
use Rattle.tss_protocol.specs.Versions.{ready_with, put_version, first_version}
use Rattle.tss_phases.specs.Told.{tells}
use Rattle.tss_phases.proofs.SettlingLemmas.{ready_with_told}
use Rattle.tss_protocol.proofs.SentLemmas.{AllSent}
use Rattle.tss_control.proofs.holders.Settled.{HeldAlike, TellsOwn}
use Rattle.tss_control.proofs.holders.Thinned.{ThinsHeld}

-- the new version: its operand is told its storage, or it has none yet
pub record IsNewVersion (us : Named Version) (o : OpName) (c : OpenContents) (ms : List Message) : Type 0 where
  pub version : Version
  pub stands : get us o ≡ Some version
  pub object : version.object ≡ c.operand.object
  pub state : ((tells ms o ≡ true) × ((s : StorageName) × (version.storage ≡ Some s))
      × ((version.produced ≡ false) ⊎ ((c.operand.mode ≡ Input) × (version.produced ≡ true) × (c.follows ≡ None))))
      ⊎ ((tells ms o ≡ false) × (version.storage ≡ None) × (version.produced ≡ false) × (c.operand.mode ≡ Inout))
  pub reader : c.operand.mode ≡ Input → c.follows ≡ None

-- what an open does
pub record OpensHeld (vs us : Named Version) (o : OpName) (c : OpenContents) (ms : List Message) : Type 0 where
  pub thins : ThinsHeld vs us
  pub still : (w : OpName) (y : Version) → get vs w ≡ Some y → y.storage ≡ None
      → (z : Version) × (get us w ≡ Some z) × (z.storage ≡ None)
  pub from : (w : OpName) (z : Version) → w ≢ o → get us w ≡ Some z
      → (y : Version) × (get vs w ≡ Some y) × HeldAlike y z
  pub own : IsNewVersion us o c ms
  pub sent : AllSent (TellsOwn us) ms

-- ---- one that follows nothing

module _ (vs : Named Version) (o : OpName) (c : OpenContents) (fresh : get vs o ≡ None)
    (storage : c.storage ≡ Some Home) (first : c.follows ≡ None) where
  abbrev new : Version
  new = first_version o c.operand.object c.storage c.operand.mode

  abbrev with_new : Named Version
  with_new = put_version vs o new

  old_apart : (w : OpName) (y : Version) → get vs w ≡ Some y → w ≢ o
  old_apart w y e same = none-some y (sym fresh ∙ ap (get vs) (sym same) ∙ e)

  old_stays : (w : OpName) (y : Version) → get vs w ≡ Some y → get with_new w ≡ Some y
  old_stays w y e = beside_inserted name_order vs o new w (old_apart w y e) ∙ e

  new_by : (mode : Mode) → c.operand.mode ≡ mode
      → (new.object ≡ c.operand.object) × (new.storage ≡ c.storage)
      × ((new.produced ≡ false) ⊎ ((c.operand.mode ≡ Input) × (new.produced ≡ true)))
  new_by Input e = (
    ap (λ m. (first_version o c.operand.object c.storage m).object) e,
    ap (λ m. (first_version o c.operand.object c.storage m).storage) e,
    inr (e, ap (λ m. (first_version o c.operand.object c.storage m).produced) e),
  )
  new_by Output e = (
    ap (λ m. (first_version o c.operand.object c.storage m).object) e,
    ap (λ m. (first_version o c.operand.object c.storage m).storage) e,
    inl (ap (λ m. (first_version o c.operand.object c.storage m).produced) e),
  )
  new_by Inout e = (
    ap (λ m. (first_version o c.operand.object c.storage m).object) e,
    ap (λ m. (first_version o c.operand.object c.storage m).storage) e,
    inl (ap (λ m. (first_version o c.operand.object c.storage m).produced) e),
  )

  at_new : get with_new o ≡ Some new
  at_new = at_inserted name_order vs o new

  sent_first : (x : Option StorageName) → c.storage ≡ x → AllSent (TellsOwn with_new) (ready_with o o x)
  sent_first None e = tt
  sent_first (Some s) e = ((refl, (new, at_new, (new_by c.operand.mode refl).1 ∙ e)), tt)

  -- an open that follows nothing tells its operand where it holds
  pub opens_first : OpensHeld vs with_new o c (ready_with o o c.storage)
  opens_first =
      let n = new_by c.operand.mode refl in
      record {
        thins = λ w y e. inl (y, old_stays w y e, refl, λ s k. k);
        still = λ w y e none. (y, old_stays w y e, none);
        from = λ w z apart e. (
          z,
          sym (beside_inserted name_order vs o new w apart) ∙ e,
          record { object = refl; produced = refl; storage = refl },
        );
        own = record {
          version = new;
          stands = at_new;
          object = n.0;
          state = inl (
            ap (λ x. tells (ready_with o o x) o) storage ∙ ready_with_told o o (Some Home) Home refl,
            (Home, n.1 ∙ storage),
            elim n.2 [
              | inl open_yet ↦ inl open_yet
              | inr is ↦ inr (is.0, is.1, first)
            ],
          );
          reader = λ e. first;
        };
        sent = sent_first c.storage refl;
      }
