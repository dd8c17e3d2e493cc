-- In a drained state nothing is anywhere, and without messages there is none of any kind.
use Rattle.std.proofs.Common.{◌≡◌, ℕ, Bool, true, false, List, [], ◌∷◌, length, Option, Some, None, refl, arith}
use Rattle.std.specs.Prelude.{◌==◌, ◌&&◌, is_none}
use Rattle.std.proofs.lemmas.Bool.Decides.{nat_tests}
use Rattle.std.specs.FinMap.{len}
use Rattle.tss_protocol.specs.Mail.{Mail, message_count, is_silent}
use Rattle.tss_protocol.specs.State.{State}
use Rattle.tss_protocol.specs.Gateway.{is_idle}
use Rattle.tss_protocol.specs.MainEvent.{has_no_task, has_no_object}
use Rattle.tss_protocol.specs.Result.{IsDrained}

-- two tests that both pass
pub first_passes : (a b : Bool) → a && b ≡ true → a ≡ true
first_passes true b e = refl
first_passes false b e = e

second_passes : (a b : Bool) → a && b ≡ true → b ≡ true
second_passes true b e = e
second_passes false b e = absurd (cc)

-- ---- what passing tests say

pub zero_from_test : (n : ℕ) → (n == 0) ≡ true → n ≡ 0
zero_from_test n e = grind (arith, nat_tests)

pub none_from_test : {X : Type 0} (o : Option X) → is_none o ≡ true → o ≡ None
none_from_test None e = refl
none_from_test (Some x) e = absurd (cc)

empty_from_test : (ns : List ℕ) → (length ns == 0) ≡ true → ns ≡ []
empty_from_test [] e = refl
empty_from_test (n ∷ ns) e = let none = zero_from_test (length (n ∷ ns)) e in absurd (omega (arith, none))

-- ---- a drained state

-- nothing is anywhere
pub record HasNothing (S : State) : Type 0 where
  pub inbox : S.inbox ≡ None
  pub gateway : is_idle S.gateway ≡ true
  pub flight : len S.flight ≡ 0
  pub queue : S.queue ≡ []
  pub workers : len S.workers ≡ 0
  pub entries : len S.entries ≡ 0
  pub places : len S.places ≡ 0
  pub buffers : len S.buffers ≡ 0
  pub versions : len S.versions ≡ 0
  pub copies : len S.copies ≡ 0
  pub messages : message_count S.mail ≡ 0

-- by the test
pub nothing_drained : (S : State) → IsDrained S → HasNothing S
nothing_drained S drained =
    let outer = parts (has_no_task S && has_no_object S) (is_silent S.mail) drained in
    let inner = parts (has_no_task S) (has_no_object S) outer.0 in
    let i = is_none S.inbox in
    let g = is_idle S.gateway in
    let t4 = parts (i && g && (len S.flight == 0) && (length S.queue == 0)) (len S.workers == 0) inner.0 in
    let t3 = parts (i && g && (len S.flight == 0)) (length S.queue == 0) t4.0 in
    let t2 = parts (i && g) (len S.flight == 0) t3.0 in
    let t1 = parts i g t2.0 in
    let e = len S.entries == 0 in
    let p = len S.places == 0 in
    let b = len S.buffers == 0 in
    let v = len S.versions == 0 in
    let o4 = parts (e && p && b && v) (len S.copies == 0) inner.1 in
    let o3 = parts (e && p && b) v o4.0 in
    let o2 = parts (e && p) b o3.0 in
    let o1 = parts e p o2.0 in
    record {
      inbox = none_from_test S.inbox t1.0;
      gateway = t1.1;
      flight = zero_from_test (len S.flight) t2.1;
      queue = empty_from_test S.queue t3.1;
      workers = zero_from_test (len S.workers) t4.1;
      entries = zero_from_test (len S.entries) o1.0;
      places = zero_from_test (len S.places) o1.1;
      buffers = zero_from_test (len S.buffers) o2.1;
      versions = zero_from_test (len S.versions) o3.1;
      copies = zero_from_test (len S.copies) o4.1;
      messages = zero_from_test (message_count S.mail) outer.1;
    }
  where
    parts : (a b : Bool) → a && b ≡ true → (a ≡ true) × (b ≡ true)
    parts a b e = (first_passes a b e, second_passes a b e)

-- ---- its messages

-- without messages there is none of any kind
pub record HasNone (m : Mail) : Type 0 where
  pub decodes : len m.decodes ≡ 0
  pub acks : len m.acks ≡ 0
  pub opens : len m.opens ≡ 0
  pub uses : len m.uses ≡ 0
  pub readies : len m.readies ≡ 0
  pub links : len m.links ≡ 0
  pub releases : len m.releases ≡ 0
  pub byes : len m.byes ≡ 0
  pub idles : len m.idles ≡ 0
  pub nacks : len m.nacks ≡ 0
  pub retires : len m.retires ≡ 0
  pub gones : len m.gones ≡ 0

pub has_none : (m : Mail) → message_count m ≡ 0 → HasNone m
has_none m e = record {
  decodes = omega (arith, e);
  acks = omega (arith, e);
  opens = omega (arith, e);
  uses = omega (arith, e);
  readies = omega (arith, e);
  links = omega (arith, e);
  releases = omega (arith, e);
  byes = omega (arith, e);
  idles = omega (arith, e);
  nacks = omega (arith, e);
  retires = omega (arith, e);
  gones = omega (arith, e);
}
