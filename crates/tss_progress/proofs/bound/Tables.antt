-- Events of the tables lower the measure: decode, ack, open, use, release, idle, nack, copy and gone.
use Rattle.std.proofs.Common.{◌≡◌, ℕ, suc, ◌+◌, ◌≤◌, Bool, true, false, List, [], ◌∷◌, ◌++◌, Option, Some, None, refl}
use Rattle.std.proofs.Common.{sym, ap, ◌∙◌, arith}
use Rattle.std.specs.Prelude.{cond, is_some}
use Rattle.std.specs.FinMap.{get}
use Rattle.std.proofs.lemmas.Option.{same_Some}
use Rattle.tss_base.specs.declared.operand.OpName.{OpName}
use Rattle.tss_base.specs.declared.operand.Mode.{Mode}
use Rattle.tss_base.specs.declared.operand.Mode.TheVariants.{Input, Output, Inout}
use Rattle.tss_base.specs.declared.operand.Operand.{Operand}
use Rattle.tss_base.specs.declared.operand.Task.{Task}
use Rattle.tss_base.specs.declared.range.Range.{Range}
use Rattle.tss_base.specs.declared.machine.Machine.{Machine}
use Rattle.tss_base.specs.declared.event.Event.TheVariants as event
use Rattle.tss_base.specs.declared.marks.How.{How}
use Rattle.tss_base.specs.declared.marks.How.TheVariants.{Beside, Over}
use Rattle.tss_base.specs.declared.marks.Follow.{Follow}
use Rattle.tss_base.specs.Names.{Named}
use Rattle.tss_protocol.specs.Mail.{StorageName, OpenContents, ReleaseContents, IdleContents, GoneContents, Bye, taken}
use Rattle.tss_protocol.specs.State.{State, Entry, Version}
use Rattle.tss_protocol.specs.Renaming.{live_message, decode_message, sent_by_decode, idle_by, after_idle, may_retire}
use Rattle.tss_protocol.specs.Versions.{is_count, put_version, settled, ready_with, first_version, new_version}
use Rattle.tss_protocol.specs.Versions.{followed, opened_how, opened_by, after_open, enlisted, used_alone, used_behind}
use Rattle.tss_protocol.specs.Versions.{used_at, after_use, head_ready, produced_now, released_once, released_by}
use Rattle.tss_protocol.specs.Versions.{released_at, after_release, refused_once, nacked_at, after_nack}
use Rattle.tss_protocol.specs.Counts.{pieces_of_object}
use Rattle.tss_protocol.specs.UnitMachine.{IsEnabled, is_enabled, after_event, without, can_decode_message}
use Rattle.tss_protocol.specs.UnitMachine.{decode_message_taken, can_open_message, open_message_taken, can_use_message}
use Rattle.tss_protocol.specs.UnitMachine.{use_message_taken, release_message_taken, idle_message_taken}
use Rattle.tss_protocol.specs.UnitMachine.{gone_message_taken}
use Rattle.tss_names.specs.Asking.{HasAsking, AsksFor}
use Rattle.tss_progress.proofs.bound.Measure.{message_left, messages_left, left_posted_all, left_append, last_asked}
use Rattle.tss_progress.proofs.bound.Measure.{asking_left, version_left, versions_left, took_decode, took_ack}
use Rattle.tss_progress.proofs.bound.Measure.{took_open, took_use, took_release, took_idle, took_nack, took_gone}
use Rattle.tss_progress.proofs.bound.Measure.{IsLowered}
use Rattle.tss_progress.proofs.bound.Settle.{outcome_left, left_sending, left_ready_with, left_put, left_new}
use Rattle.tss_progress.proofs.bound.Settle.{left_change, left_settled}

-- ---- decode

module _ (c : ℕ) (o : OpName) (operand : Operand) where
  left_live : (e : Entry) (mode : Mode) → message_left c (live_message o operand e mode) ≤ 4 + c
  left_live e Input = omega arith
  left_live e Output = omega arith
  left_live e Inout = omega arith

  left_decode : (e : Option Entry) → message_left c (decode_message o operand e) ≤ 4 + c
  left_decode None = omega arith
  left_decode (Some e) = left_live e operand.mode

-- ---- versions

module _ (c : ℕ) (vs : Named Version) (o : OpName) where
  -- an open's version
  left_first : (object : Range) (s : Option StorageName) (mode : Mode)
      → version_left c o (first_version o object s mode) ≡ c + 3
  left_first object s Input = omega arith
  left_first object s Output = omega arith
  left_first object s Inout = omega arith

  left_followed : (opening : OpenContents) (f : Follow)
      → versions_left c (followed vs o opening f) ≤ versions_left c vs + (c + 3)
  left_followed opening f =
      let x : Version = record (new_version opening.operand.object opening.storage) { predecessor = Some f.version } in
      let a = left_new c vs o x in
      let b = left_change c (λ p. record p { successor = Some (record f { version = o }) }) (λ w q. refl)
      (put_version vs o x) f.version in
      omega (arith, a, b)

  left_opened_how : (opening : OpenContents) (f : Follow) (how : How)
      → outcome_left c (opened_how vs o opening f how) ≤ versions_left c vs + (c + 3)
  left_opened_how opening f Beside =
      let a = left_followed opening f in
      let b = left_settled c (followed vs o opening f) f.version in
      let d = left_sending c (ready_with o o opening.storage) (settled (followed vs o opening f) f.version) in
      let r = left_ready_with c o o opening.storage in
      omega (arith, a, b, d, r)
  left_opened_how opening f Over =
      let a = left_followed opening f in
      let b = left_settled c (followed vs o opening f) f.version in
      omega (arith, a, b)

  left_opened_by : (opening : OpenContents) (f : Option Follow)
      → outcome_left c (opened_by vs o opening f) ≤ versions_left c vs + (c + 3)
  left_opened_by opening None =
      let a = left_new c vs o (first_version o opening.operand.object opening.storage opening.operand.mode) in
      let b = left_first opening.operand.object opening.storage opening.operand.mode in
      let r = left_ready_with c o o opening.storage in
      omega (arith, a, b, r)
  left_opened_by opening (Some f) = left_opened_how opening f f.how

  -- a use lets a version ask once more
  asking_most : (last : Option ℕ) (n : ℕ) → asking_left last n ≤ 2
  asking_most last n = by (is_count last n)
    where
      by : (b : Bool) → cond {A = ℕ} b 0 2 ≤ 2
      by true = omega arith
      by false = omega arith

  module _ (v : OpName) (x : Version) (e : get vs v ≡ Some x) where
    left_used_alone : (produced : Bool)
        → outcome_left c (used_alone vs o v x produced) ≤ versions_left c vs + 2
    left_used_alone true =
        let a = left_put c vs v x (enlisted x o) e in
        let b = asking_most (last_asked x.asked x.refused) (suc x.registered) in
        let r = left_ready_with c o v x.storage in
        omega (arith, a, b, r)
    left_used_alone false =
        let a = left_put c vs v x (record (enlisted x o) { head = Some o }) e in
        let b = asking_most (last_asked x.asked x.refused) (suc x.registered) in
        omega (arith, a, b)

    left_used_behind : (last : Option OpName)
        → outcome_left c (used_behind vs o v x last) ≤ versions_left c vs + 2
    left_used_behind None = left_used_alone x.produced
    left_used_behind (Some last) =
        let a = left_put c vs v x (enlisted x o) e in
        let b = asking_most (last_asked x.asked x.refused) (suc x.registered) in
        omega (arith, a, b)

    left_head_ready : (head : Option OpName) → messages_left c (head_ready v x head) ≡ 0
    left_head_ready None = refl
    left_head_ready (Some h) = left_ready_with c h v x.storage

    left_released_by : (producer : Bool)
        → outcome_left c (released_by vs o v x producer) ≤ versions_left c vs + 1
    left_released_by true =
        let ws = put_version vs v (produced_now x) in
        let a = left_put c vs v x (produced_now x) e in
        let b = left_settled c ws v in
        let d = left_sending c (head_ready v x x.head ++ Bye o false ∷ []) (settled ws v) in
        let f = left_append c (head_ready v x x.head) (Bye o false ∷ []) in
        let h = left_head_ready x.head in
        omega (arith, a, b, d, f, h)
    left_released_by false =
        let ws = put_version vs v (released_once x o) in
        let a = left_put c vs v x (released_once x o) e in
        let b = left_settled c ws v in
        omega (arith, a, b)

  left_used_at : (v : OpName) (x : Option Version) → get vs v ≡ x
      → outcome_left c (used_at vs o v x) ≤ versions_left c vs + 2
  left_used_at v None e = omega arith
  left_used_at v (Some x) e = left_used_behind v x e x.tail

  left_released_at : (v : OpName) (producer : Bool) (x : Option Version) → get vs v ≡ x
      → outcome_left c (released_at vs o v producer x) ≤ versions_left c vs + 1
  left_released_at v producer None e = omega arith
  left_released_at v producer (Some x) e = left_released_by v x e producer

-- what a nack makes of a version that asks weighs the same
left_refused : (asked refused : Option ℕ) (k n : ℕ) → asked ≡ Some k
    → asking_left (last_asked None asked) n ≡ asking_left (last_asked asked refused) n
left_refused None refused k n e = absurd (cc)
left_refused (Some j) refused k n e = refl

left_nacked : (c : ℕ) (vs : Named Version) (v : OpName) (count : ℕ) → AsksFor vs v count → (x : Option Version)
    → get vs v ≡ x → outcome_left c (nacked_at vs v x) ≤ versions_left c vs
left_nacked c vs v count asks None e = omega arith
left_nacked c vs v count asks (Some x) e =
    let same = same_Some asks.0 x (sym asks.1 ∙ e) in
    let asked = ap (λ (z : Version). z.asked) (sym same) ∙ asks.2 in
    let w = left_refused x.asked x.refused count x.registered asked in
    let a = left_put c vs v x (refused_once x) e in
    let b = left_settled c (put_version vs v (refused_once x)) v in
    omega (arith, w, a, b)

-- ---- the events

module _ (m : Machine) (S : State) where
  abbrev pieces : ℕ
  pieces = pieces_of_object m

  decode_less : (o : OpName) (x : Option Operand) → get S.mail.decodes o ≡ x → can_decode_message m S o x ≡ true
      → IsLowered m S (decode_message_taken m (without S (event.Decode o)) o x)
  decode_less o None e can = absurd (cc)
  decode_less o (Some x) e can =
      let entry = get S.entries x.object.base in
      let t = took_decode pieces S.mail o x e in
      let d = left_decode pieces o x entry in
      let p = left_posted_all pieces (taken S.mail (event.Decode o)) (sent_by_decode o x entry) in
      omega (arith, t, d, p)

  -- a decode pays for its ack, and its open or its use
  pub lowered_decode : (o : OpName) → IsEnabled m S (event.Decode o) → IsLowered m S (after_event m S (event.Decode o))
  unfolding is_enabled after_event
  lowered_decode o on = decode_less o (get S.mail.decodes o) refl on

  ack_there : (x : Option (Unit {0})) → is_some x ≡ true → x ≡ Some tt
  ack_there None e = absurd (cc)
  ack_there (Some x) e = refl

  -- an ack is spent
  pub lowered_ack : (o : OpName) → IsEnabled m S (event.Ack o) → IsLowered m S (after_event m S (event.Ack o))
  unfolding is_enabled after_event
  lowered_ack o on =
      let t = took_ack pieces S.mail o (ack_there (get S.mail.acks o) on) in omega (arith, t)

  open_less : (o : OpName) (x : Option OpenContents) → get S.mail.opens o ≡ x → can_open_message S x ≡ true
      → IsLowered m S (open_message_taken (without S (event.Open o)) o x)
  open_less o None e can = absurd (cc)
  open_less o (Some x) e can =
      let d = after_open S.versions o x in
      let t = took_open pieces S.mail o x e in
      let a = left_opened_by pieces S.versions o x x.follows in
      let p = left_posted_all pieces (taken S.mail (event.Open o)) d.sent in
      omega (arith, t, a, p)

  -- an open pays for its version
  pub lowered_open : (o : OpName) → IsEnabled m S (event.Open o) → IsLowered m S (after_event m S (event.Open o))
  unfolding is_enabled after_event
  lowered_open o on = open_less o (get S.mail.opens o) refl on

  use_less : (o : OpName) (x : Option OpName) → get S.mail.uses o ≡ x → can_use_message S x ≡ true
      → IsLowered m S (use_message_taken (without S (event.Use o)) o x)
  use_less o None e can = absurd (cc)
  use_less o (Some v) e can =
      let d = after_use S.versions o v in
      let t = took_use pieces S.mail o v e in
      let a = left_used_at pieces S.versions o v (get S.versions v) refl in
      let p = left_posted_all pieces (taken S.mail (event.Use o)) d.sent in
      omega (arith, t, a, p)

  -- a use pays for the version that may ask once more
  pub lowered_use : (o : OpName) → IsEnabled m S (event.Use o) → IsLowered m S (after_event m S (event.Use o))
  unfolding is_enabled after_event
  lowered_use o on = use_less o (get S.mail.uses o) refl on

  release_less : (o : OpName) (x : Option ReleaseContents) → get S.mail.releases o ≡ x → is_some x ≡ true
      → IsLowered m S (release_message_taken (without S (event.Release o)) o x)
  release_less o None e can = absurd (cc)
  release_less o (Some r) e can =
      let d = after_release S.versions o r in
      let t = took_release pieces S.mail o r e in
      let a = left_released_at pieces S.versions o r.version r.producer (get S.versions r.version) refl in
      let p = left_posted_all pieces (taken S.mail (event.Release o)) d.sent in
      omega (arith, t, a, p)

  -- a release pays for its bye
  pub lowered_release : (o : OpName) → IsEnabled m S (event.Release o)
      → IsLowered m S (after_event m S (event.Release o))
  unfolding is_enabled after_event
  lowered_release o on = release_less o (get S.mail.releases o) refl on

  left_idle : (v : OpName) (base : ℕ) (entry : Option Entry) (b : Bool)
      → messages_left pieces (idle_by S.entries v base entry b).sent ≡ 1
  left_idle v base entry true = refl
  left_idle v base entry false = refl

  idle_less : (v : OpName) (x : Option IdleContents) → get S.mail.idles v ≡ x → is_some x ≡ true
      → IsLowered m S (idle_message_taken (without S (event.Idle v)) v x)
  idle_less v None e can = absurd (cc)
  idle_less v (Some i) e can =
      let entry = get S.entries i.base in
      let t = took_idle pieces S.mail v i e in
      let d = after_idle S.entries v i.base i.count in
      let a = left_idle v i.base entry (may_retire v i.count entry) in
      let p = left_posted_all pieces (taken S.mail (event.Idle v)) d.sent in
      omega (arith, t, a, p)

  -- an idle pays for its answer
  pub lowered_idle : (v : OpName) → IsEnabled m S (event.Idle v) → IsLowered m S (after_event m S (event.Idle v))
  unfolding is_enabled after_event
  lowered_idle v on = idle_less v (get S.mail.idles v) refl on

  -- a version that was refused asks no more for as many readers
  pub lowered_nack : (all : List Task) → HasAsking m all S → (v : OpName) → IsEnabled m S (event.Nack v)
      → IsLowered m S (after_event m S (event.Nack v))
  unfolding is_enabled after_event
  lowered_nack all asking v on =
      let there = ack_there (get S.mail.nacks v) on in
      let asks = (asking.nacks v there).0 in
      let d = after_nack S.versions v in
      let t = took_nack pieces S.mail v there in
      let a = left_nacked pieces S.versions v asks.0 asks.1 (get S.versions v) refl in
      let p = left_posted_all pieces (taken S.mail (event.Nack v)) d.sent in
      omega (arith, t, a, p)

  gone_less : (v : OpName) (x : Option GoneContents) → get S.mail.gones v ≡ x → is_some x ≡ true
      → IsLowered m S (gone_message_taken (without S (event.Gone v)) v x)
  gone_less v None e can = absurd (cc)
  gone_less v (Some g) e can = let t = took_gone pieces S.mail v g e in omega (arith, t)

  -- a gone is spent
  pub lowered_gone : (v : OpName) → IsEnabled m S (event.Gone v) → IsLowered m S (after_event m S (event.Gone v))
  unfolding is_enabled after_event
  lowered_gone v on = gone_less v (get S.mail.gones v) refl on
