-- Nothing is anywhere in a drained state, so any objects may have names there.
use Rattle.std.proofs.Common.{◌≡◌, ℕ, true, Option, Some, None, sym, ap, ◌∙◌, arith}
use Rattle.std.specs.Prelude.{◌==◌, ◌&&◌, is_none, length}
use Rattle.std.specs.declared.cmp.Ordering.{Ordering}
use Rattle.std.specs.FinMap.{FinMap, get, len}
use Rattle.std.proofs.lemmas.Bool.{and_parts}
use Rattle.std.proofs.lemmas.Bool.Decides.{nat_tests}
use Rattle.std.proofs.lemmas.Option.{none-some}
use Rattle.tss_base.specs.declared.operand.OpName.{OpName}
use Rattle.tss_base.specs.declared.operand.Operand.{Operand}
use Rattle.tss_base.specs.declared.operand.Task.{Task}
use Rattle.tss_maps.proofs.Entries.{absent_empty}
use Rattle.tss_protocol.specs.Mail.{message_count, is_silent}
use Rattle.tss_protocol.specs.State.{OperandState, State}
use Rattle.tss_protocol.specs.Stations.{operand_at}
use Rattle.tss_protocol.specs.Gateway.{is_idle}
use Rattle.tss_protocol.specs.MainEvent.{has_no_task, has_no_object, is_drained}
use Rattle.tss_locality.specs.Agreement.{operand_in}
use Rattle.tss_locality.specs.Objects.{Objects, LinksStay, IsNamed, IsWithinObjects}
use Rattle.tss_locality.proofs.Flights.{record_in}

-- ---- a drained state

zero_from_test : (n : ℕ) → (n == 0) ≡ true → n ≡ 0
zero_from_test n e = grind (arith, nat_tests)

-- in an empty map nothing stands at any key
pub nothing_there : {K X : Type 0} {R : K → K → Ordering} (m : FinMap R X) → len m ≡ 0 → (k : K) (x : X) →
    get m k ≡ Some x → ⊥
nothing_there m empty k x e = none-some x (sym (absent_empty m k empty) ∙ e)

nothing_in : (inbox : Option Task) → is_none inbox ≡ true → (o : OpName) (p : Operand) → operand_in inbox o ≡ Some p → ⊥
nothing_in None e o p there = none-some p there
nothing_in (Some t) e o p there = absurd (cc)

-- each part of a drained state is empty
pub record IsEmpty (S : State) : Type 0 where
  pub inbox : is_none S.inbox ≡ true
  pub flight : len S.flight ≡ 0
  pub workers : len S.workers ≡ 0
  pub entries : len S.entries ≡ 0
  pub places : len S.places ≡ 0
  pub buffers : len S.buffers ≡ 0
  pub versions : len S.versions ≡ 0
  pub copies : len S.copies ≡ 0
  pub messages : message_count S.mail ≡ 0

-- each part of it
pub empty_drained : (S : State) → is_drained S ≡ true → IsEmpty S
empty_drained S drained =
    let outer = and_parts (has_no_task S && has_no_object S) (is_silent S.mail) drained in
    let inner = and_parts (has_no_task S) (has_no_object S) outer.0 in
    let i = is_none S.inbox in
    let g = is_idle S.gateway in
    let t4 = and_parts (i && g && (len S.flight == 0) && (length S.queue == 0)) (len S.workers == 0) inner.0 in
    let t3 = and_parts (i && g && (len S.flight == 0)) (length S.queue == 0) t4.0 in
    let t2 = and_parts (i && g) (len S.flight == 0) t3.0 in
    let t1 = and_parts i g t2.0 in
    let e = len S.entries == 0 in
    let p = len S.places == 0 in
    let b = len S.buffers == 0 in
    let v = len S.versions == 0 in
    let o4 = and_parts (e && p && b && v) (len S.copies == 0) inner.1 in
    let o3 = and_parts (e && p && b) v o4.0 in
    let o2 = and_parts (e && p) b o3.0 in
    let o1 = and_parts e p o2.0 in
    record {
      inbox = t1.0;
      flight = zero_from_test (len S.flight) t2.1;
      workers = zero_from_test (len S.workers) t4.1;
      entries = zero_from_test (len S.entries) o1.0;
      places = zero_from_test (len S.places) o1.1;
      buffers = zero_from_test (len S.buffers) o2.1;
      versions = zero_from_test (len S.versions) o3.1;
      copies = zero_from_test (len S.copies) o4.1;
      messages = zero_from_test (message_count S.mail) outer.1;
    }

no_record : (S : State) → len S.flight ≡ 0 → (o : OpName) (r : OperandState) → operand_at S.flight o ≡ Some r → ⊥
no_record S empty o r e = none-some r (sym (ap (record_in o.place) (absent_empty S.flight o.task empty)) ∙ e)

module _ (f : Objects) (S : State) (empty : IsEmpty S) where
  pub none_decodes : len S.mail.decodes ≡ 0
  none_decodes = let e = empty.messages in omega (arith, e)

  none_acks : len S.mail.acks ≡ 0
  none_acks = let e = empty.messages in omega (arith, e)

  none_opens : len S.mail.opens ≡ 0
  none_opens = let e = empty.messages in omega (arith, e)

  none_uses : len S.mail.uses ≡ 0
  none_uses = let e = empty.messages in omega (arith, e)

  none_readies : len S.mail.readies ≡ 0
  none_readies = let e = empty.messages in omega (arith, e)

  none_links : len S.mail.links ≡ 0
  none_links = let e = empty.messages in omega (arith, e)

  none_releases : len S.mail.releases ≡ 0
  none_releases = let e = empty.messages in omega (arith, e)

  none_byes : len S.mail.byes ≡ 0
  none_byes = let e = empty.messages in omega (arith, e)

  none_idles : len S.mail.idles ≡ 0
  none_idles = let e = empty.messages in omega (arith, e)

  none_nacks : len S.mail.nacks ≡ 0
  none_nacks = let e = empty.messages in omega (arith, e)

  none_retires : len S.mail.retires ≡ 0
  none_retires = let e = empty.messages in omega (arith, e)

  none_gones : len S.mail.gones ≡ 0
  none_gones = let e = empty.messages in omega (arith, e)

  links_empty : LinksStay f S
  links_empty o x named = record {
    arrivals = λ q p in_c e. absurd (nothing_in S.inbox empty.inbox q p e);
    flight = λ q r in_c e. absurd (no_record S empty.flight q r e);
    workers = λ w b e. absurd (nothing_there S.workers empty.workers w b e);
    entries = λ b e there. absurd (nothing_there S.entries empty.entries b e there);
    versions = λ v y in_c e. absurd (nothing_there S.versions empty.versions v y e);
    mail = record {
      decodes = λ q y in_c e. absurd (nothing_there S.mail.decodes none_decodes q y e);
      opens = λ q y in_c e. absurd (nothing_there S.mail.opens none_opens q y e);
      uses = λ q y in_c e. absurd (nothing_there S.mail.uses none_uses q y e);
      readies = λ q y in_c e. absurd (nothing_there S.mail.readies none_readies q y e);
      links = λ q y in_c e. absurd (nothing_there S.mail.links none_links q y e);
      releases = λ q y in_c e. absurd (nothing_there S.mail.releases none_releases q y e);
      idles = λ q y in_c e. absurd (nothing_there S.mail.idles none_idles q y e);
      gones = λ q y in_c e. absurd (nothing_there S.mail.gones none_gones q y e);
    };
    copies = λ b k in_c e. absurd (nothing_there S.copies empty.copies b k e);
  }

  named_empty : IsNamed f S
  named_empty = record {
    arrivals = λ o p e. absurd (nothing_in S.inbox empty.inbox o p e);
    records = λ o r e. absurd (no_record S empty.flight o r e);
    workers = λ w b e. absurd (nothing_there S.workers empty.workers w b e);
    entries = λ b e there. absurd (nothing_there S.entries empty.entries b e there);
    places = λ o x e. absurd (nothing_there S.places empty.places o x e);
    buffers = λ o x e. absurd (nothing_there S.buffers empty.buffers o x e);
    versions = λ o x e. absurd (nothing_there S.versions empty.versions o x e);
    mail = record {
      decodes = λ o x e. absurd (nothing_there S.mail.decodes none_decodes o x e);
      acks = λ o x e. absurd (nothing_there S.mail.acks none_acks o x e);
      opens = λ o x e. absurd (nothing_there S.mail.opens none_opens o x e);
      uses = λ o x e. absurd (nothing_there S.mail.uses none_uses o x e);
      readies = λ o x e. absurd (nothing_there S.mail.readies none_readies o x e);
      links = λ o x e. absurd (nothing_there S.mail.links none_links o x e);
      releases = λ o x e. absurd (nothing_there S.mail.releases none_releases o x e);
      byes = λ o x e. absurd (nothing_there S.mail.byes none_byes o x e);
      idles = λ o x e. absurd (nothing_there S.mail.idles none_idles o x e);
      nacks = λ o x e. absurd (nothing_there S.mail.nacks none_nacks o x e);
      retires = λ o x e. absurd (nothing_there S.mail.retires none_retires o x e);
      gones = λ o x e. absurd (nothing_there S.mail.gones none_gones o x e);
    };
    copies = λ b k e. absurd (nothing_there S.copies empty.copies b k e);
  }

-- a drained state is within any objects
pub IsWithinObjects-drained : (f : Objects) (S : State) → is_drained S ≡ true → IsWithinObjects f S
IsWithinObjects-drained f S drained =
    let empty = empty_drained S drained in
    record { named = named_empty f S empty; links = links_empty f S empty }
