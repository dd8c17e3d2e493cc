-- Look-ups that are in order, as messages, a record and the phase give them.
use Rattle.std.proofs.Common.{◌≡◌, ◌≢◌, ◌≤◌, Bool, true, false, List, Option, Some, None, refl, sym, ap, ◌∙◌, subst}
use Rattle.std.proofs.Common.{inl, inr}
use Rattle.tss_base.specs.declared.operand.OpName.{OpName}
use Rattle.tss_base.specs.declared.operand.Operand.{Operand}
use Rattle.tss_base.specs.declared.marks.Farewell.TheVariants as farewell
use Rattle.std.proofs.lemmas.Option.{none-some}
use Rattle.tss_maps.proofs.Keys.{name_order, decide_key}
use Rattle.tss_protocol.specs.Mail.{Source, OpenContents, ReleaseContents, Message}
use Rattle.tss_protocol.specs.State.{OperandState}
use Rattle.tss_phases.specs.Phase.{Phase, Ahead, Decoding, Sent, Waiting, Told, Ready, Releasing, Leaving, Promised}
use Rattle.tss_phases.specs.Phase.{Left, LookUps, station_phase, record_phase, phase_at}
use Rattle.tss_phases.specs.Alone.{under_way, IsSilent, HasRecord}
use Rattle.tss_phases.specs.Told.{tells}
use Rattle.tss_phases.specs.Orderly.{IsUntold, IsInformed, FitsPhase, IsOrderly}
use Rattle.tss_phases.proofs.Received.{received_all}
use Rattle.tss_phases.proofs.News.{AreNews, untold, told}
use Rattle.tss_phases.proofs.PhaseLemmas.{phase_silent, phase_decoding, phase_opening, phase_using, phase_telling}
use Rattle.tss_phases.proofs.PhaseLemmas.{phase_releasing, phase_leaving, station_told}
use Rattle.tss_phases.proofs.Shown.{waiting_shows}
use Rattle.tss_phases.proofs.AloneLemmas.{silent_but_decoding, silent_but_opening, silent_but_using, silent_but_telling}
use Rattle.tss_phases.proofs.AloneLemmas.{silent_but_releasing, silent_but_leaving, alone_decoding, alone_opening}
use Rattle.tss_phases.proofs.AloneLemmas.{alone_using, alone_telling, alone_releasing, alone_leaving}
use Rattle.tss_phases.proofs.Tests.{not_both}

-- ---- by the phase

-- the record fits a phase that is known
pub fits_at : (l : LookUps) (p : Phase) → IsOrderly l → phase_at l ≡ p → FitsPhase p l
fits_at l p o e = subst (λ p. FitsPhase p l) e o.fits

-- and the other way round
orderly_at : (l : LookUps) (p : Phase) → under_way l ≤ 1 → phase_at l ≡ p → FitsPhase p l → IsOrderly l
orderly_at l p alone e fits = record { alone = alone; fits = subst (λ p. FitsPhase p l) (sym e) fits }

-- a record that stays is the same record
same_record : (l k : LookUps) (s : Option Source) → k.station ≡ l.station → HasRecord l s → HasRecord k s
same_record l k s e h = record { kept = h.kept; there = e ∙ h.there; told = h.told; stays = h.stays }

-- ---- one message

-- a decode, to an operand that knows nothing
pub orderly_decoding : (l : LookUps) (x : Operand) → IsSilent (record l { decoding = None }) → l.decoding ≡ Some x
    → IsUntold l → IsOrderly l
orderly_decoding l x s e h = orderly_at l Decoding (alone_decoding l s) (phase_decoding l x e) h

-- an open
pub orderly_opening : (l : LookUps) (x : OpenContents) → IsSilent (record l { opening = None })
    → l.opening ≡ Some x → IsUntold l → IsOrderly l
orderly_opening l x s e h = orderly_at l Sent (alone_opening l s) (phase_opening l x s.decoding e) h

-- a use
pub orderly_using : (l : LookUps) (x : OpName) → IsSilent (record l { using = None }) → l.using ≡ Some x
    → IsUntold l → IsOrderly l
orderly_using l x s e h = orderly_at l Sent (alone_using l s) (phase_using l x s.decoding e) h

-- a ready
orderly_telling : (l : LookUps) (x : Source) → IsSilent (record l { telling = None }) → l.telling ≡ Some x
    → IsUntold l → IsOrderly l
orderly_telling l x s e h =
    orderly_at l Told (alone_telling l s) (phase_telling l x s.decoding s.opening s.using e) h

-- a release, of an operand that was told its version
pub orderly_releasing : (l : LookUps) (x : ReleaseContents) → IsSilent (record l { releasing = None })
    → l.releasing ≡ Some x → IsInformed l → IsOrderly l
orderly_releasing l x s e h =
    orderly_at l Releasing (alone_releasing l s) (phase_releasing l x s.decoding s.opening s.using s.telling e) h

-- a bye
pub orderly_leaving : (l : LookUps) (x : Bool) → IsSilent (record l { leaving = None }) → l.leaving ≡ Some x
    → IsInformed l → IsOrderly l
orderly_leaving l x s e h =
    orderly_at l Leaving (alone_leaving l s)
    (phase_leaving l x s.decoding s.opening s.using s.telling s.releasing e) h

-- ---- no message

silent_alone : (l : LookUps) → IsSilent l → under_way l ≤ 1
silent_alone l s = alone_decoding l (record {
  decoding = refl;
  opening = s.opening;
  using = s.using;
  telling = s.telling;
  releasing = s.releasing;
  leaving = s.leaving;
})

-- an operand that waits
pub orderly_waiting : (l : LookUps) → IsSilent l → IsUntold l → IsOrderly l
orderly_waiting l s h = orderly_at l Waiting (silent_alone l s) (phase_silent l s ∙ station_told l None h.0) h

-- one that is ready
pub orderly_ready : (l : LookUps) → IsSilent l → IsInformed l → IsOrderly l
orderly_ready l s h =
    orderly_at l Ready (silent_alone l s) (phase_silent l s ∙ station_told l (Some h.0.0) h.0.1) h

-- one that awaits a promised link
pub orderly_promised : (l : LookUps) (k : OperandState) (x : Source) → IsSilent l → l.station ≡ Some k
    → k.farewell ≡ farewell.Promised → k.source ≡ Some x → l.ahead ≡ false → IsOrderly l
orderly_promised l k x s e f t a =
    orderly_at l Promised (silent_alone l s)
    (phase_silent l s ∙ ap (λ r. station_phase r l.ahead) e ∙ ap (λ f. record_phase f k.source) f)
    ((k, e, (x, t)), a)

-- one that has left
pub orderly_left : (l : LookUps) (k : OperandState) (x : Source) → IsSilent l → l.station ≡ Some k
    → k.farewell ≡ farewell.Left → k.source ≡ Some x → l.ahead ≡ false → IsOrderly l
orderly_left l k x s e f t a =
    orderly_at l Left (silent_alone l s)
    (phase_silent l s ∙ ap (λ r. station_phase r l.ahead) e ∙ ap (λ f. record_phase f k.source) f)
    (inr (k, e, (x, t)), a)

-- one that has no record, whose task was taken
pub orderly_absent : (l : LookUps) → IsSilent l → l.station ≡ None → l.ahead ≡ false → IsOrderly l
orderly_absent l s e a =
    orderly_at l Left (silent_alone l s) (phase_silent l s ∙ (λ i. station_phase (e i) (a i))) (inl e, a)

-- one that has no record, whose task wasn't taken
pub orderly_ahead : (l : LookUps) → IsSilent l → l.station ≡ None → l.ahead ≡ true → IsOrderly l
orderly_ahead l s e a =
    orderly_at l Ahead (silent_alone l s) (phase_silent l s ∙ (λ i. station_phase (e i) (a i))) (e, a)

-- ---- news

-- where a waiting operand is told, and any other isn't
pub orderly_news : (ms : List Message) (q : OpName) (l : LookUps) → IsOrderly l → AreNews ms
    → (tells ms q ≡ true → phase_at l ≡ Waiting) → IsOrderly (received_all ms q l)
orderly_news ms q l o news waits = by (tells ms q) refl
  where
    new : (s : Source) → phase_at l ≡ Waiting → IsOrderly (record l { telling = Some s })
    new s e =
        let shown = waiting_shows l e in
        let k : LookUps = record l { telling = Some s } in
        orderly_telling k s (record {
          decoding = shown.0.decoding;
          opening = shown.0.opening;
          using = shown.0.using;
          telling = refl;
          releasing = shown.0.releasing;
          leaving = shown.0.leaving;
        }) refl (same_record l k None refl shown.1, (fits_at l Waiting o e).1)

    by : (b : Bool) → tells ms q ≡ b → IsOrderly (received_all ms q l)
    by false e = subst IsOrderly (sym (untold ms q l news e)) o
    by true e = let t = told ms q l news e in subst IsOrderly (sym t.1) (new t.0 (waits e))

-- ---- what stands of an operand with a message

-- with a decode
pub decoding_stands : (l : LookUps) (x : Operand) → IsOrderly l → l.decoding ≡ Some x
    → IsSilent (record l { decoding = None }) × IsUntold l
decoding_stands l x o e =
    (silent_but_decoding l x o.alone e, fits_at l Decoding o (phase_decoding l x e))

-- with an open
pub opening_stands : (l : LookUps) (x : OpenContents) → IsOrderly l → l.opening ≡ Some x
    → IsSilent (record l { opening = None }) × IsUntold l
opening_stands l x o e =
    let s = silent_but_opening l x o.alone e in
    (s, fits_at l Sent o (phase_opening l x s.decoding e))

-- with a use
pub using_stands : (l : LookUps) (x : OpName) → IsOrderly l → l.using ≡ Some x
    → IsSilent (record l { using = None }) × IsUntold l
using_stands l x o e =
    let s = silent_but_using l x o.alone e in
    (s, fits_at l Sent o (phase_using l x s.decoding e))

-- with a ready
pub telling_stands : (l : LookUps) (x : Source) → IsOrderly l → l.telling ≡ Some x
    → IsSilent (record l { telling = None }) × IsUntold l
telling_stands l x o e =
    let s = silent_but_telling l x o.alone e in
    (s, fits_at l Told o (phase_telling l x s.decoding s.opening s.using e))

-- with a release
pub releasing_stands : (l : LookUps) (x : ReleaseContents) → IsOrderly l → l.releasing ≡ Some x
    → IsSilent (record l { releasing = None }) × IsInformed l
releasing_stands l x o e =
    let s = silent_but_releasing l x o.alone e in
    (s, fits_at l Releasing o (phase_releasing l x s.decoding s.opening s.using s.telling e))

-- with a bye
pub leaving_stands : (l : LookUps) (x : Bool) → IsOrderly l → l.leaving ≡ Some x
    → IsSilent (record l { leaving = None }) × IsInformed l
leaving_stands l x o e =
    let s = silent_but_leaving l x o.alone e in
    (s, fits_at l Leaving o (phase_leaving l x s.decoding s.opening s.using s.telling s.releasing e))

-- ---- the record and the task

-- look-ups with the same record say nothing yet where the others don't
pub same_untold : (l k : LookUps) → k.station ≡ l.station → k.ahead ≡ l.ahead → IsUntold l → IsUntold k
same_untold l k e a h = (same_record l k None e h.0, a ∙ h.1)

-- and have what the operand was told where the others have it
pub same_informed : (l k : LookUps) → k.station ≡ l.station → k.ahead ≡ l.ahead → IsInformed l → IsInformed k
same_informed l k e a h = ((h.0.0, same_record l k (Some h.0.0) e h.0.1), a ∙ h.1)

-- an operand in order whose task hasn't been taken is ahead
pub ahead_by_test : (l : LookUps) → IsOrderly l → l.ahead ≡ true → phase_at l ≡ Ahead
ahead_by_test l o a = by (phase_at l) refl o.fits
  where
    by : (p : Phase) → phase_at l ≡ p → FitsPhase p l → phase_at l ≡ Ahead
    by Ahead e h = e
    by other e h = absurd (not_both l.ahead a h.1)

-- the task of an operand in order that has a record has been taken
pub taken_by_record : (l : LookUps) (r : OperandState) → IsOrderly l → l.station ≡ Some r → l.ahead ≡ false
taken_by_record l r o kept = by (phase_at l) o.fits
  where
    by : (p : Phase) → FitsPhase p l → l.ahead ≡ false
    by Ahead h = absurd (none-some r (sym h.0 ∙ kept))
    by other h = h.1

-- an operand in order that has no record, whose task has been taken, has left
pub left_by_absence : (l : LookUps) → IsOrderly l → l.station ≡ None → l.ahead ≡ false → phase_at l ≡ Left
left_by_absence l o none taken = by (phase_at l) refl o.fits
  where
    no_record : (s : Option Source) → HasRecord l s → ⊥
    no_record s h = none-some h.kept (sym none ∙ h.there)

    by : (p : Phase) → phase_at l ≡ p → FitsPhase p l → phase_at l ≡ Left
    by Ahead e h = absurd (not_both l.ahead h.1 taken)
    by Decoding e h = absurd (no_record None h.0)
    by Sent e h = absurd (no_record None h.0)
    by Waiting e h = absurd (no_record None h.0)
    by Told e h = absurd (no_record None h.0)
    by Ready e h = absurd (no_record (Some h.0.0) h.0.1)
    by Releasing e h = absurd (no_record (Some h.0.0) h.0.1)
    by Leaving e h = absurd (no_record (Some h.0.0) h.0.1)
    by Promised e h = absurd (none-some h.0.0 (sym none ∙ h.0.1))
    by Left e h = e

-- ---- one operand and all others

-- what holds of an operand, and of each other one
pub at_and_beside : (P : OpName → Type 0) (o : OpName) → P o → ((q : OpName) → q ≢ o → P q) → (q : OpName) → P q
at_and_beside P o own other q = elim (decide_key name_order q o) [
  | inl same ↦ subst P (sym same) own
  | inr apart ↦ other q apart
]
