-- The phase that look-ups give, and when another record gives the same.
use Rattle.std.proofs.Common.{◌≡◌, Bool, Option, Some, None, refl, ap, ◌∙◌}
use Rattle.tss_base.specs.declared.operand.Operand.{Operand}
use Rattle.tss_base.specs.declared.operand.OpName.{OpName}
use Rattle.tss_protocol.specs.Mail.{Source, OpenContents, ReleaseContents}
use Rattle.tss_protocol.specs.State.{OperandState}
use Rattle.tss_phases.specs.Phase.{Decoding, Sent, Told, Releasing, Leaving, LookUps, where_there, told_phase}
use Rattle.tss_phases.specs.Phase.{record_phase, station_phase, phase_at}
use Rattle.tss_phases.specs.Alone.{IsSilent, HasRecord}

-- with no message under way the record tells the phase
pub phase_silent : (l : LookUps) → IsSilent l → phase_at l ≡ station_phase l.station l.ahead
phase_silent l s = λ i.
    where_there (s.decoding i) Decoding
    (where_there (s.opening i) Sent
    (where_there (s.using i) Sent
    (where_there (s.telling i) Told
    (where_there (s.releasing i) Releasing
    (where_there (s.leaving i) Leaving (station_phase l.station l.ahead))))))

-- a decode under way
pub phase_decoding : (l : LookUps) (x : Operand) → l.decoding ≡ Some x → phase_at l ≡ Decoding
phase_decoding l x e = λ i.
    where_there (e i) Decoding
    (where_there l.opening Sent
    (where_there l.using Sent
    (where_there l.telling Told
    (where_there l.releasing Releasing
    (where_there l.leaving Leaving (station_phase l.station l.ahead))))))

-- an open under way
pub phase_opening : (l : LookUps) (x : OpenContents) → l.decoding ≡ None → l.opening ≡ Some x → phase_at l ≡ Sent
phase_opening l x d e = λ i.
    where_there (d i) Decoding
    (where_there (e i) Sent
    (where_there l.using Sent
    (where_there l.telling Told
    (where_there l.releasing Releasing
    (where_there l.leaving Leaving (station_phase l.station l.ahead))))))

both_sent : (x : Option OpenContents) → where_there x Sent Sent ≡ Sent
both_sent None = refl
both_sent (Some x) = refl

-- a use under way
pub phase_using : (l : LookUps) (x : OpName) → l.decoding ≡ None → l.using ≡ Some x → phase_at l ≡ Sent
phase_using l x d e =
    (λ i. where_there (d i) Decoding
    (where_there l.opening Sent
    (where_there (e i) Sent
    (where_there l.telling Told
    (where_there l.releasing Releasing
    (where_there l.leaving Leaving (station_phase l.station l.ahead)))))))
    ∙ both_sent l.opening

-- a ready under way
pub phase_telling : (l : LookUps) (x : Source) → l.decoding ≡ None → l.opening ≡ None → l.using ≡ None
    → l.telling ≡ Some x → phase_at l ≡ Told
phase_telling l x d o u e = λ i.
    where_there (d i) Decoding
    (where_there (o i) Sent
    (where_there (u i) Sent
    (where_there (e i) Told
    (where_there l.releasing Releasing
    (where_there l.leaving Leaving (station_phase l.station l.ahead))))))

-- a release under way
pub phase_releasing : (l : LookUps) (x : ReleaseContents) → l.decoding ≡ None → l.opening ≡ None → l.using ≡ None
    → l.telling ≡ None → l.releasing ≡ Some x → phase_at l ≡ Releasing
phase_releasing l x d o u t e = λ i.
    where_there (d i) Decoding
    (where_there (o i) Sent
    (where_there (u i) Sent
    (where_there (t i) Told
    (where_there (e i) Releasing (where_there l.leaving Leaving (station_phase l.station l.ahead))))))

-- a bye under way
pub phase_leaving : (l : LookUps) (x : Bool) → l.decoding ≡ None → l.opening ≡ None → l.using ≡ None
    → l.telling ≡ None → l.releasing ≡ None → l.leaving ≡ Some x → phase_at l ≡ Leaving
phase_leaving l x d o u t r e = λ i.
    where_there (d i) Decoding
    (where_there (o i) Sent
    (where_there (u i) Sent
    (where_there (t i) Told
    (where_there (r i) Releasing (where_there (e i) Leaving (station_phase l.station l.ahead))))))

-- a record tells a phase by what the operand was told, where it has not said farewell
pub station_told : (l : LookUps) (source : Option Source) → HasRecord l source
    → station_phase l.station l.ahead ≡ told_phase source
station_told l source h =
    ap (λ x. station_phase x l.ahead) h.there ∙ (λ i. record_phase (h.stays i) (h.told i))

-- ---- another record

-- a record that gives the same phase leaves the operand's
pub same_station : (l : LookUps) (x : Option OperandState)
    → station_phase x l.ahead ≡ station_phase l.station l.ahead → phase_at (record l { station = x }) ≡ phase_at l
same_station l x e = λ i.
    where_there l.decoding Decoding
    (where_there l.opening Sent
    (where_there l.using Sent
    (where_there l.telling Told (where_there l.releasing Releasing (where_there l.leaving Leaving (e i))))))

-- messages say nothing of the record
pub silent_station : (l : LookUps) (x : Option OperandState) → IsSilent l → IsSilent (record l { station = x })
silent_station l x s = record {
  decoding = s.decoding;
  opening = s.opening;
  using = s.using;
  telling = s.telling;
  releasing = s.releasing;
  leaving = s.leaving;
}
