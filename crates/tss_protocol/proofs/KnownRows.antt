-- What some rows leave in every state: a reader that is decoded in time keeps a version from retiring, and a version
-- that follows over another has no storage until the other gives way.
use Rattle.std.proofs.Common.{◌≡◌, ◌≢◌, ℕ, suc, Bool, true, false, Option, Some, None, refl, sym, ap, ◌∙◌, arith}
use Rattle.std.specs.Prelude.{◌==◌, ◌&&◌, if◌then◌else◌, is_none}
use Rattle.std.proofs.lemmas.Bool.Decides.{nat_tests}
use Rattle.std.specs.FinMap.{get, insert, len}
use Rattle.tss_base.specs.declared.range.Range.{Range}
use Rattle.tss_base.specs.declared.operand.OpName.{OpName}
use Rattle.tss_base.specs.declared.operand.Mode.TheVariants.{Input}
use Rattle.tss_base.specs.declared.operand.Operand.{Operand}
use Rattle.tss_base.specs.declared.machine.Machine.{Machine}
use Rattle.tss_base.specs.declared.event.Event.TheVariants as event
use Rattle.tss_base.specs.declared.marks.How.TheVariants.{Over}
use Rattle.tss_base.specs.declared.marks.Follow.{Follow}
use Rattle.tss_base.specs.Names.{Named}
use Rattle.tss_maps.proofs.Keys.{nat_order, name_order, same_key}
use Rattle.tss_maps.proofs.Changes.{at_inserted, beside_inserted}
use Rattle.tss_protocol.specs.Names.{bank_of, same_name}
use Rattle.tss_protocol.specs.Mail.{OpenContents, IdleContents}
use Rattle.tss_protocol.specs.State.{State, Entry, Version}
use Rattle.tss_protocol.specs.Renaming.{decoded_by, idle_by, may_retire}
use Rattle.tss_protocol.specs.Versions.{Versioned, new_version, followed, after_open, settle, settled, settle_at}
use Rattle.tss_protocol.specs.Versions.{settle_how, opened_how, unchanged, version_changed, put_version, settle_over}
use Rattle.tss_protocol.specs.Versions.{unlinked}
use Rattle.tss_protocol.specs.UnitMachine.{tables_of, without, with_decoded, decode_message_taken, with_entries}
use Rattle.tss_protocol.specs.UnitMachine.{idle_message_taken, after_event}

-- ---- idle against a reader that is decoded in between

never_next : (n : ℕ) → (suc n == n) ≡ false
never_next n = grind (arith, nat_tests)

same_number : (n : ℕ) → (n == n) ≡ true
same_number n = grind (arith, nat_tests)

and_false : (b : Bool) → b && false ≡ false
and_false true = refl
and_false false = refl

-- in a state where a version asks, with as many readers as its object's entry has sent it, and a reader of the object
-- is still to be decoded
module _ (m : Machine) (S : State) (v o : OpName) (x : Range) (e : Entry) (there : get S.entries x.base ≡ Some e) where
  abbrev reader : Operand
  reader = record { object = x; mode = Input }

  abbrev asks : IdleContents
  asks = record { base = x.base; count = e.sent }

  module _ (decodes : get S.mail.decodes o ≡ Some reader) (idles : get S.mail.idles v ≡ Some asks) where
    abbrev decoded_with : Option Entry → State
    decoded_with entry =
        with_decoded (without S (event.Decode o)) (decoded_by (tables_of S) o reader (bank_of m.sizes x) entry)

    -- one more reader was sent
    abbrev decoded : State
    decoded = decoded_with (Some e)

    decoding : after_event m S (event.Decode o) ≡ decoded
    unfolding after_event
    decoding =
        ap (decode_message_taken m (without S (event.Decode o)) o) decodes ∙ ap decoded_with there

    abbrev counted : Entry
    counted = record e { sent = suc e.sent }

    -- so the version is refused
    refuses : may_retire v e.sent (Some counted) ≡ false
    refuses = ap (λ b. same_name e.latest v && b) (never_next e.sent) ∙ and_false (same_name e.latest v)

    abbrev answered : Option Entry → Bool → State
    answered entry may = with_entries (without decoded (event.Idle v)) (idle_by decoded.entries v x.base entry may)

    abbrev refused : State
    refused = answered (Some counted) false

    refusing : after_event m decoded (event.Idle v) ≡ refused
    unfolding after_event
    refusing =
        ap (idle_message_taken (without decoded (event.Idle v)) v) idles
        ∙ ap (λ entry. answered entry (may_retire v e.sent entry)) (at_inserted nat_order S.entries x.base counted)
        ∙ ap (answered (Some counted)) refuses

    abbrev after_both : State
    after_both = after_event m (after_event m S (event.Decode o)) (event.Idle v)

    both : after_both ≡ refused
    both = ap (λ T. after_event m T (event.Idle v)) decoding ∙ refusing

    -- a nack is sent, and no retire
    pub race_sends_nack : get after_both.mail.nacks v ≡ Some tt
    race_sends_nack = ap (λ T. get T.mail.nacks v) both ∙ at_inserted name_order S.mail.nacks v tt

    pub race_sends_no_retire : get after_both.mail.retires v ≡ get S.mail.retires v
    race_sends_no_retire = ap (λ T. get T.mail.retires v) both

  -- without the reader in between it is a retire
  module _ (latest : e.latest ≡ v) (idles : get S.mail.idles v ≡ Some asks) where
    grants : may_retire v e.sent (Some e) ≡ true
    grants =
        ap (λ u. same_name u v && (e.sent == e.sent)) latest ∙ (λ i. same_key name_order v i && same_number e.sent i)

    abbrev answered_at_once : Option Entry → Bool → State
    answered_at_once entry may = with_entries (without S (event.Idle v)) (idle_by S.entries v x.base entry may)

    abbrev granted : State
    granted = answered_at_once (Some e) true

    granting : after_event m S (event.Idle v) ≡ granted
    unfolding after_event
    granting =
        ap (idle_message_taken (without S (event.Idle v)) v) idles
        ∙ ap (λ entry. answered_at_once entry (may_retire v e.sent entry)) there
        ∙ ap (answered_at_once (Some e)) grants

    pub idle_sends_retire : get (after_event m S (event.Idle v)).mail.retires v ≡ Some tt
    idle_sends_retire = ap (λ T. get T.mail.retires v) granting ∙ at_inserted name_order S.mail.retires v tt

-- ---- over

-- a version is registered over another
module _ (vs : Named Version) (o : OpName) (operand : Operand) (f : Follow) (apart : o ≢ f.version) where
  abbrev opening : OpenContents
  opening = record { operand = operand; storage = None; follows = Some f }

  abbrev opened : Version
  opened = record (new_version operand.object None) { predecessor = Some f.version }

  -- the other knows it as its successor
  abbrev known : Version → Version
  known p = record p { successor = Some (record f { version = o }) }

  abbrev registered : Option Version → Named Version
  registered p = version_changed (put_version vs o opened) f.version known p

  at_opened : (p : Option Version) → get (registered p) o ≡ Some opened
  at_opened None = at_inserted name_order vs o opened
  at_opened (Some p) =
      beside_inserted name_order (insert vs o opened) f.version (known p) o apart ∙ at_inserted name_order vs o opened

  -- it has no storage
  pub over_has_no_storage : get (followed vs o opening f) o ≡ Some opened
  over_has_no_storage = at_opened (get (put_version vs o opened) f.version)

  -- nor is it told one while the other isn't produced
  module _
      (p : Version)
      (there : get vs f.version ≡ Some p)
      (over : f.how ≡ Over)
      (open_still : p.produced ≡ false)
    where
      abbrev linked : Version
      linked = known p

      found : get (put_version vs o opened) f.version ≡ Some p
      found = beside_inserted name_order vs o opened f.version (λ e. apart (sym e)) ∙ there

      abbrev joined : Named Version
      joined = put_version (put_version vs o opened) f.version linked

      joining : followed vs o opening f ≡ joined
      joining = ap registered found

      abbrev given_way : ℕ → Versioned
      given_way n = settle_how joined f.version linked (record f { version = o }) (settle n) f.how

      waits : (n : ℕ) → settle (suc n) joined f.version ≡ unchanged joined
      unfolding settle
      waits n =
          ap (settle_at joined f.version (settle n)) (at_inserted name_order (put_version vs o opened) f.version linked)
          ∙ ap
          (λ b. if b && (p.released == f.last) && is_none p.asked then given_way n else unchanged joined)
          open_still

      pub over_waits : after_open vs o opening ≡ unchanged joined
      over_waits =
          ap (opened_how vs o opening f) over ∙ ap (λ ws. settled ws f.version) joining ∙ waits (len joined)

-- once the other gives way it has its storage
module _ (vs : Named Version) (v s : OpName) (x y : Version) (there : get (unlinked vs v x s) s ≡ Some y) where
  pub over_takes_storage : get (settle_over vs v x s).part s ≡ Some (record y { storage = x.storage })
  over_takes_storage =
      ap (λ z. get (version_changed (unlinked vs v x s) s (λ y. record y { storage = x.storage }) z) s) there
      ∙ at_inserted name_order (unlinked vs v x s) s (record y { storage = x.storage })
