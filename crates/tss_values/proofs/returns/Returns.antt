-- What is copied home, or has come there: the events that leave it.
use Rattle.std.proofs.Common.{◌≡◌, ℕ, ◌+◌, ◌<◌, ◌≤◌, nat_le, nat_lt, Bool, true, false, List, take, Option, Some, None}
use Rattle.std.proofs.Common.{sym, ap, ◌∙◌, arith}
use Rattle.std.specs.Prelude.{slice_index}
use Rattle.std.specs.FinMap.{get}
use Rattle.std.proofs.lemmas.Bool.{and_from, le-leb, lt-ltb}
use Rattle.tss_base.specs.declared.range.Range.{Range}
use Rattle.tss_base.specs.declared.operand.OpName.{OpName}
use Rattle.tss_base.specs.declared.operand.Mode.{Mode}
use Rattle.tss_base.specs.declared.operand.Mode.TheVariants.{Input, Output, Inout}
use Rattle.tss_base.specs.declared.operand.Operand.{Operand}
use Rattle.tss_base.specs.declared.operand.Task.{Task}
use Rattle.tss_base.specs.declared.machine.Machine.{Machine}
use Rattle.tss_base.specs.declared.event.Event.{Event}
use Rattle.tss_base.specs.declared.event.Event.TheVariants as event
use Rattle.tss_base.specs.Image.{ImageState}
use Rattle.tss_base.specs.Range.{end_of}
use Rattle.tss_model.specs.Memory.{byte_at, bytes_of, covers}
use Rattle.tss_protocol.specs.Mail.{OpenContents, ReleaseContents, IdleContents, GoneContents, posted_all, taken}
use Rattle.tss_protocol.specs.State.{State, Entry, CopyState}
use Rattle.tss_protocol.specs.Renaming.{idle_by, may_retire, sent_by_decode, live_message, decode_message}
use Rattle.tss_protocol.specs.Buffers.{buffer_bytes}
use Rattle.tss_protocol.specs.UnitMachine.{after_event, without, decode_message_taken, open_message_taken}
use Rattle.tss_protocol.specs.UnitMachine.{use_message_taken, release_message_taken, idle_message_taken}
use Rattle.tss_protocol.specs.UnitMachine.{nack_message_taken}
use Rattle.tss_locality.proofs.LeftFields.{Leaves-after_event}
use Rattle.tss_program_order.proofs.FlatLoads.{same_bytes}
use Rattle.tss_control.proofs.rounds.EntriesQuiet.{quiet_objects}
use Rattle.tss_names.proofs.SentUnretired.{IsUnretired, NoMoreRetired, posted_all_unretired, after_open_unretired}
use Rattle.tss_names.proofs.SentUnretired.{after_use_unretired, after_release_unretired, after_nack_unretired}
use Rattle.tss_values.proofs.Values.{HasReturns}

-- home has the same bytes of an object
abbrev pub SameAtHome : State → State → Range → Type 0
SameAtHome S T x = (a : ℕ) → covers x a ≡ true → byte_at T.home a ≡ byte_at S.home a

-- so all of them
pub same_at_home : (S T : State) (x : Range) → SameAtHome S T x → bytes_of T.home x ≡ bytes_of S.home x
same_at_home S T x same =
    same_bytes (byte_at T.home) (byte_at S.home) x.base x.len
    (λ a low high. same a
    (and_from (nat_le x.base a) (nat_lt a (end_of x)) (le-leb x.base a low) (lt-ltb a (end_of x) high)))

-- what is left
pub record KeepsReturns (S T : State) : Type 0 where
  pub copies : (bank : ℕ) (c : CopyState) → get T.copies bank ≡ Some c
      → (get S.copies bank ≡ Some c) × (buffer_bytes T.contents c.buffer ≡ buffer_bytes S.contents c.buffer)
      × SameAtHome S T c.object
  pub gones : (v : OpName) (g : GoneContents) → get T.mail.gones v ≡ Some g → g.retired ≡ true
      → (get S.mail.gones v ≡ Some g) × SameAtHome S T g.object

-- an address of an object by its place
pub place_inside : (x : Range) (k n : ℕ) → k < n → n ≤ x.len → covers x (x.base + k) ≡ true
place_inside x k n low high =
    and_from (nat_le x.base (x.base + k)) (nat_lt (x.base + k) (end_of x)) (le-leb x.base (x.base + k) (omega arith))
    (lt-ltb (x.base + k) (end_of x) (omega (arith, low, high)))

-- where it is left it is right
pub returns_kept : (m : Machine) (i : ImageState) (ts : List Task) (S T : State) → KeepsReturns S T
    → HasReturns m i ts S
    → HasReturns m i ts T
returns_kept m i ts S T k h = record {
  copied = λ bank c p s at known good.
      let o = k.copies bank c at in
      ap (take c.object.len) o.1 ∙ h.copied bank c p s o.0 known good;
  within = λ bank c at. h.within bank c (k.copies bank c at).0;
  moved = λ bank c n at small.
      let o = k.copies bank c at in
      o.2 (c.object.base + n) (place_inside c.object n c.moved small (h.within bank c o.0))
      ∙ h.moved bank c n o.0 small
      ∙ ap (λ bytes. slice_index bytes n) (sym o.1);
  gone = λ v g p s at last known good.
      let o = k.gones v g at last in
      same_at_home S T g.object o.1 ∙ h.gone v g p s o.0 last known good;
}

-- where copies, buffers and home are left, and nothing more has retired
returns_same : (S T : State) → T.copies ≡ S.copies → T.contents ≡ S.contents → T.home ≡ S.home
    → NoMoreRetired S.mail T.mail → KeepsReturns S T
returns_same S T copies contents home gones = record {
  copies = λ bank c at. (
    ap (λ m. get m bank) (sym copies) ∙ at,
    ap (λ m. buffer_bytes m c.buffer) contents,
    λ a inside. ap (λ m. byte_at m a) home,
  );
  gones = λ v g at last. (gones v g at last, λ a inside. ap (λ m. byte_at m a) home);
}

-- ---- events that leave copies, buffers and home

module _ (m : Machine) (S : State) where
  none_retired : (T : State) → T.mail.gones ≡ S.mail.gones → NoMoreRetired S.mail T.mail
  none_retired T e v g at last = ap (λ m. get m v) (sym e) ∙ at

  live_unretired : (o : OpName) (p : Operand) (e : Entry) (mode : Mode) → IsUnretired (live_message o p e mode)
  live_unretired o p e Input = tt
  live_unretired o p e Output = tt
  live_unretired o p e Inout = tt

  decode_unretired : (o : OpName) (p : Operand) (e : Option Entry) → IsUnretired (decode_message o p e)
  decode_unretired o p None = tt
  decode_unretired o p (Some e) = live_unretired o p e p.mode

  retired_decode : (o : OpName) (p : Option Operand)
      → NoMoreRetired S.mail (decode_message_taken m (without S (event.Decode o)) o p).mail
  retired_decode o None = λ v g at last. at
  retired_decode o (Some p) =
      posted_all_unretired (taken S.mail (event.Decode o)) (sent_by_decode o p (get S.entries p.object.base))
      (decode_unretired o p (get S.entries p.object.base), (tt, tt))

  retired_open : (o : OpName) (c : Option OpenContents)
      → NoMoreRetired S.mail (open_message_taken (without S (event.Open o)) o c).mail
  retired_open o None = λ v g at last. at
  retired_open o (Some c) = posted_all_unretired (taken S.mail (event.Open o)) _ (after_open_unretired S.versions o c)

  retired_use : (o : OpName) (v : Option OpName)
      → NoMoreRetired S.mail (use_message_taken (without S (event.Use o)) o v).mail
  retired_use o None = λ v g at last. at
  retired_use o (Some v) = posted_all_unretired (taken S.mail (event.Use o)) _ (after_use_unretired S.versions o v)

  retired_release : (o : OpName) (c : Option ReleaseContents)
      → NoMoreRetired S.mail (release_message_taken (without S (event.Release o)) o c).mail
  retired_release o None = λ v g at last. at
  retired_release o (Some c) =
      posted_all_unretired (taken S.mail (event.Release o)) _ (after_release_unretired S.versions o c)

  retired_answer : (v : OpName) (base : ℕ) (e : Option Entry) (may : Bool)
      → NoMoreRetired S.mail (posted_all (taken S.mail (event.Idle v)) (idle_by S.entries v base e may).sent)
  retired_answer v base e true w g at last = at
  retired_answer v base e false w g at last = at

  retired_idle : (v : OpName) (c : Option IdleContents)
      → NoMoreRetired S.mail (idle_message_taken (without S (event.Idle v)) v c).mail
  retired_idle v None = λ w g at last. at
  retired_idle v (Some c) =
      retired_answer v c.base (get S.entries c.base) (may_retire v c.count (get S.entries c.base))

  retired_nack : (v : OpName) → NoMoreRetired S.mail (nack_message_taken (without S (event.Nack v)) v).mail
  retired_nack v = posted_all_unretired (taken S.mail (event.Nack v)) _ (after_nack_unretired S.versions v)

  -- the events that bring nothing home
  abbrev StaysAbroad : Event → Type 0
  StaysAbroad event.Main = ⊥
  StaysAbroad (event.Start w) = ⊥
  StaysAbroad (event.Exec w) = ⊥
  StaysAbroad (event.Retire v) = ⊥
  StaysAbroad (event.Copy b) = ⊥
  StaysAbroad (event.Gone v) = ⊥
  StaysAbroad e = Unit {0}

  -- leave it
  pub returns_left : (e : Event) → StaysAbroad e → KeepsReturns S (after_event m S e)
  unfolding after_event
  returns_left event.Main q = absurd q
  returns_left event.Take q =
      let k = Leaves-after_event m S event.Take in
      returns_same S (after_event m S event.Take) (λ i. (k i).copies) (λ i. (k i).contents) (λ i. (k i).home)
      (none_retired (after_event m S event.Take) (quiet_objects m S event.Take tt).gones)
  returns_left (event.Decode o) q =
      let k = Leaves-after_event m S (event.Decode o) in
      returns_same S (after_event m S (event.Decode o)) (λ i. (k i).copies) (λ i. (k i).contents) (λ i. (k i).home)
      (retired_decode o (get S.mail.decodes o))
  returns_left (event.Ack o) q =
      let k = Leaves-after_event m S (event.Ack o) in
      returns_same S (after_event m S (event.Ack o)) (λ i. (k i).copies) (λ i. (k i).contents) (λ i. (k i).home)
      (none_retired (after_event m S (event.Ack o)) (quiet_objects m S (event.Ack o) tt).gones)
  returns_left (event.Open o) q =
      let k = Leaves-after_event m S (event.Open o) in
      returns_same S (after_event m S (event.Open o)) (λ i. (k i).copies) (λ i. (k i).contents) (λ i. (k i).home)
      (retired_open o (get S.mail.opens o))
  returns_left (event.Use o) q =
      let k = Leaves-after_event m S (event.Use o) in
      returns_same S (after_event m S (event.Use o)) (λ i. (k i).copies) (λ i. (k i).contents) (λ i. (k i).home)
      (retired_use o (get S.mail.uses o))
  returns_left (event.Ready o) q =
      let k = Leaves-after_event m S (event.Ready o) in
      returns_same S (after_event m S (event.Ready o)) (λ i. (k i).copies) (λ i. (k i).contents) (λ i. (k i).home)
      (none_retired (after_event m S (event.Ready o)) (quiet_objects m S (event.Ready o) tt).gones)
  returns_left (event.Link o) q =
      let k = Leaves-after_event m S (event.Link o) in
      returns_same S (after_event m S (event.Link o)) (λ i. (k i).copies) (λ i. (k i).contents) (λ i. (k i).home)
      (none_retired (after_event m S (event.Link o)) (quiet_objects m S (event.Link o) tt).gones)
  returns_left (event.Start w) q = absurd q
  returns_left (event.Exec w) q = absurd q
  returns_left (event.Finish w) q =
      let k = Leaves-after_event m S (event.Finish w) in
      returns_same S (after_event m S (event.Finish w)) (λ i. (k i).copies) (λ i. (k i).contents) (λ i. (k i).home)
      (none_retired (after_event m S (event.Finish w)) (quiet_objects m S (event.Finish w) tt).gones)
  returns_left (event.Release o) q =
      let k = Leaves-after_event m S (event.Release o) in
      returns_same S (after_event m S (event.Release o)) (λ i. (k i).copies) (λ i. (k i).contents) (λ i. (k i).home)
      (retired_release o (get S.mail.releases o))
  returns_left (event.Bye o) q =
      let k = Leaves-after_event m S (event.Bye o) in
      returns_same S (after_event m S (event.Bye o)) (λ i. (k i).copies) (λ i. (k i).contents) (λ i. (k i).home)
      (none_retired (after_event m S (event.Bye o)) (quiet_objects m S (event.Bye o) tt).gones)
  returns_left (event.Idle v) q =
      let k = Leaves-after_event m S (event.Idle v) in
      returns_same S (after_event m S (event.Idle v)) (λ i. (k i).copies) (λ i. (k i).contents) (λ i. (k i).home)
      (retired_idle v (get S.mail.idles v))
  returns_left (event.Nack v) q =
      let k = Leaves-after_event m S (event.Nack v) in
      returns_same S (after_event m S (event.Nack v)) (λ i. (k i).copies) (λ i. (k i).contents) (λ i. (k i).home)
      (retired_nack v)
  returns_left (event.Retire v) q = absurd q
  returns_left (event.Copy b) q = absurd q
  returns_left (event.Gone v) q = absurd q
