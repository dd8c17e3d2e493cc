-- What is looked up of an operand where messages are sent, and where one is taken.
use Rattle.std.proofs.Common.{◌≡◌, ◌≢◌, Bool, true, false, cond, List, [], ◌∷◌, Some, None, refl, ap, ◌∙◌}
use Rattle.std.specs.FinMap.{get-insert, get-remove}
use Rattle.tss_base.specs.declared.operand.OpName.{OpName}
use Rattle.tss_base.specs.declared.event.Event.{Event}
use Rattle.tss_base.specs.declared.event.Event.TheVariants as event
use Rattle.tss_maps.proofs.Keys.{name_order, same_key, other_key}
use Rattle.tss_protocol.specs.Names.{same_name}
use Rattle.tss_protocol.specs.Mail.{Message, Decode, Ack, Open, Use, Ready, Link, Release, Bye, Idle, Nack, Retire}
use Rattle.tss_protocol.specs.Mail.{Gone}
use Rattle.tss_protocol.specs.State.{State}
use Rattle.tss_protocol.specs.UnitMachine.{with_sent, without}
use Rattle.tss_phases.specs.Phase.{LookUps, look_ups}

-- ---- names

-- a name is its own
pub own_name : (o : OpName) → same_name o o ≡ true
own_name o = same_key name_order o

-- and no other
pub other_name : (q o : OpName) → q ≢ o → same_name q o ≡ false
other_name q o apart = other_key name_order q o apart

-- ---- messages are sent

-- what is looked up of an operand where a message is sent
abbrev pub received : Message → OpName → LookUps → LookUps
received (Decode o operand) q l = record l { decoding = cond (same_name q o) (Some operand) l.decoding }
received (Open o opening) q l = record l { opening = cond (same_name q o) (Some opening) l.opening }
received (Use o v) q l = record l { using = cond (same_name q o) (Some v) l.using }
received (Ready o source) q l = record l { telling = cond (same_name q o) (Some source) l.telling }
received (Release o releasing) q l = record l { releasing = cond (same_name q o) (Some releasing) l.releasing }
received (Bye o promised) q l = record l { leaving = cond (same_name q o) (Some promised) l.leaving }
received other q l = l

-- the same for a list of messages
abbrev pub received_all : List Message → OpName → LookUps → LookUps
received_all [] q l = l
received_all (m ∷ ms) q l = received_all ms q (received m q l)

-- a message that is sent
look_ups-posted : (S : State) (m : Message) (q : OpName)
    → look_ups (with_sent S (m ∷ [])) q ≡ received m q (look_ups S q)
look_ups-posted S (Decode o operand) q =
    λ i. record (look_ups S q) { decoding = get-insert name_order.total S.mail.decodes o operand q i }
look_ups-posted S (Open o opening) q =
    λ i. record (look_ups S q) { opening = get-insert name_order.total S.mail.opens o opening q i }
look_ups-posted S (Use o v) q =
    λ i. record (look_ups S q) { using = get-insert name_order.total S.mail.uses o v q i }
look_ups-posted S (Ready o source) q =
    λ i. record (look_ups S q) { telling = get-insert name_order.total S.mail.readies o source q i }
look_ups-posted S (Release o releasing) q =
    λ i. record (look_ups S q) { releasing = get-insert name_order.total S.mail.releases o releasing q i }
look_ups-posted S (Bye o promised) q =
    λ i. record (look_ups S q) { leaving = get-insert name_order.total S.mail.byes o promised q i }
look_ups-posted S other q = refl

-- messages that are sent, one after the other
pub look_ups-sent : (S : State) (ms : List Message) (q : OpName)
    → look_ups (with_sent S ms) q ≡ received_all ms q (look_ups S q)
look_ups-sent S [] q = refl
look_ups-sent S (m ∷ ms) q =
    look_ups-sent (with_sent S (m ∷ [])) ms q ∙ ap (received_all ms q) (look_ups-posted S m q)

-- the operand or version that a message is for
abbrev pub receiver : Message → OpName
receiver (Decode o operand) = o
receiver (Ack o) = o
receiver (Open o opening) = o
receiver (Use o v) = o
receiver (Ready o source) = o
receiver (Link o next) = o
receiver (Release o releasing) = o
receiver (Bye o promised) = o
receiver (Idle v asking) = v
receiver (Nack v) = v
receiver (Retire v) = v
receiver (Gone v going) = v

received_by_test : (m : Message) (q : OpName) (l : LookUps) → same_name q (receiver m) ≡ false → received m q l ≡ l
received_by_test (Decode o operand) q l e = λ i. record l { decoding = cond (e i) (Some operand) l.decoding }
received_by_test (Open o opening) q l e = λ i. record l { opening = cond (e i) (Some opening) l.opening }
received_by_test (Use o v) q l e = λ i. record l { using = cond (e i) (Some v) l.using }
received_by_test (Ready o source) q l e = λ i. record l { telling = cond (e i) (Some source) l.telling }
received_by_test (Release o releasing) q l e = λ i. record l { releasing = cond (e i) (Some releasing) l.releasing }
received_by_test (Bye o promised) q l e = λ i. record l { leaving = cond (e i) (Some promised) l.leaving }
received_by_test other q l e = refl

-- a message for another operand leaves everything
pub received_other : (m : Message) (q : OpName) (l : LookUps) → q ≢ receiver m → received m q l ≡ l
received_other m q l apart = received_by_test m q l (other_name q (receiver m) apart)

-- ---- a message is taken

-- what is looked up of an operand where the message of an event is taken
abbrev pub missing : Event → OpName → LookUps → LookUps
missing (event.Decode o) q l = record l { decoding = cond (same_name q o) None l.decoding }
missing (event.Open o) q l = record l { opening = cond (same_name q o) None l.opening }
missing (event.Use o) q l = record l { using = cond (same_name q o) None l.using }
missing (event.Ready o) q l = record l { telling = cond (same_name q o) None l.telling }
missing (event.Release o) q l = record l { releasing = cond (same_name q o) None l.releasing }
missing (event.Bye o) q l = record l { leaving = cond (same_name q o) None l.leaving }
missing e q l = l

-- the state without the message
pub look_ups-without : (S : State) (e : Event) (q : OpName)
    → look_ups (without S e) q ≡ missing e q (look_ups S q)
look_ups-without S (event.Decode o) q =
    λ i. record (look_ups S q) { decoding = get-remove name_order.total S.mail.decodes o q i }
look_ups-without S (event.Open o) q =
    λ i. record (look_ups S q) { opening = get-remove name_order.total S.mail.opens o q i }
look_ups-without S (event.Use o) q =
    λ i. record (look_ups S q) { using = get-remove name_order.total S.mail.uses o q i }
look_ups-without S (event.Ready o) q =
    λ i. record (look_ups S q) { telling = get-remove name_order.total S.mail.readies o q i }
look_ups-without S (event.Release o) q =
    λ i. record (look_ups S q) { releasing = get-remove name_order.total S.mail.releases o q i }
look_ups-without S (event.Bye o) q =
    λ i. record (look_ups S q) { leaving = get-remove name_order.total S.mail.byes o q i }
look_ups-without S e q = refl

-- whether the message of an event is one for an operand that tells its phase
abbrev takes : Event → OpName → Bool
takes (event.Decode o) q = same_name q o
takes (event.Open o) q = same_name q o
takes (event.Use o) q = same_name q o
takes (event.Ready o) q = same_name q o
takes (event.Release o) q = same_name q o
takes (event.Bye o) q = same_name q o
takes e q = false

-- an operand whose message isn't taken has everything as before
pub missing_other : (e : Event) (q : OpName) (l : LookUps) → takes e q ≡ false → missing e q l ≡ l
missing_other (event.Decode o) q l t = λ i. record l { decoding = cond (t i) None l.decoding }
missing_other (event.Open o) q l t = λ i. record l { opening = cond (t i) None l.opening }
missing_other (event.Use o) q l t = λ i. record l { using = cond (t i) None l.using }
missing_other (event.Ready o) q l t = λ i. record l { telling = cond (t i) None l.telling }
missing_other (event.Release o) q l t = λ i. record l { releasing = cond (t i) None l.releasing }
missing_other (event.Bye o) q l t = λ i. record l { leaving = cond (t i) None l.leaving }
missing_other e q l t = refl
