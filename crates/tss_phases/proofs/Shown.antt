-- What a phase shows of the look-ups.
use Rattle.std.proofs.Common.{◌≡◌, ◌≢◌, Bool, true, false, Option, Some, None, refl, sym, ap, ◌∙◌, inl, inr, ◌⊎◌}
use Rattle.tss_base.specs.declared.marks.Farewell.{Farewell}
use Rattle.tss_base.specs.declared.marks.Farewell.TheVariants as farewell
use Rattle.tss_protocol.specs.Mail.{Source}
use Rattle.tss_protocol.specs.State.{OperandState}
use Rattle.tss_phases.specs.Phase.{Phase, Ahead, Decoding, Sent, Waiting, Told, Ready, Releasing, Leaving, Promised}
use Rattle.tss_phases.specs.Phase.{Left, LookUps, where_there, absent_phase, record_phase, station_phase, phase_at}
use Rattle.tss_phases.specs.Alone.{IsSilent, HasRecord}

-- the phases in which no message is under way
abbrev pub is_still : Phase → Bool
is_still Decoding = false
is_still Sent = false
is_still Told = false
is_still Releasing = false
is_still Leaving = false
is_still other = true

-- a still phase isn't one with a message
not_still : (p q : Phase) → is_still p ≡ true → is_still q ≡ false → q ≢ p
not_still p q a b e = false_true (sym b ∙ ap is_still e ∙ a)
  where
    false_true : false ≡ true → ⊥
    false_true e = cc

-- where the phase isn't that of the first look-up, nothing is there, and the rest gives it
past : {X : Type 0} (x : Option X) (q rest p : Phase) → where_there x q rest ≡ p → q ≢ p → (x ≡ None) × (rest ≡ p)
past None q rest p e n = (refl, e)
past (Some x) q rest p e n = absurd (n e)

-- in a still phase no message is under way, and the record tells it
still_shows : (l : LookUps) (p : Phase) → is_still p ≡ true → phase_at l ≡ p
    → IsSilent l × (station_phase l.station l.ahead ≡ p)
still_shows l p still e =
    let d = past l.decoding _ _ p e (not_still p Decoding still refl) in
    let o = past l.opening _ _ p d.1 (not_still p Sent still refl) in
    let u = past l.using _ _ p o.1 (not_still p Sent still refl) in
    let t = past l.telling _ _ p u.1 (not_still p Told still refl) in
    let r = past l.releasing _ _ p t.1 (not_still p Releasing still refl) in
    let b = past l.leaving _ _ p r.1 (not_still p Leaving still refl) in
    (record { decoding = d.0; opening = o.0; using = u.0; telling = t.0; releasing = r.0; leaving = b.0 }, b.1)

-- a waiting operand has a record and was told nothing
pub waiting_shows : (l : LookUps) → phase_at l ≡ Waiting → IsSilent l × HasRecord l None
waiting_shows l e =
    let s = still_shows l Waiting refl e in
    (s.0, by l.station refl s.1)
  where
    at : (k : OperandState) (f : Farewell) (o : Option Source) → k.farewell ≡ f → k.source ≡ o
        → record_phase f o ≡ Waiting → l.station ≡ Some k → HasRecord l None
    at k farewell.Nothing None ef eo e es = record { kept = k; there = es; told = eo; stays = ef }
    at k farewell.Nothing (Some x) ef eo e es = absurd (cc)
    at k farewell.Promised o ef eo e es = absurd (cc)
    at k farewell.Left o ef eo e es = absurd (cc)

    absent : (b : Bool) → absent_phase b ≡ Waiting → ⊥
    absent true e = cc
    absent false e = cc

    by : (x : Option OperandState) → l.station ≡ x → station_phase x l.ahead ≡ Waiting → HasRecord l None
    by None es e = absurd (absent l.ahead e)
    by (Some k) es e = at k k.farewell k.source refl refl e es

-- a ready operand has a record, and was told something
pub ready_shows : (l : LookUps) → phase_at l ≡ Ready → IsSilent l × ((s : Source) × HasRecord l (Some s))
ready_shows l e =
    let s = still_shows l Ready refl e in
    (s.0, by l.station refl s.1)
  where
    at : (k : OperandState) (f : Farewell) (o : Option Source) → k.farewell ≡ f → k.source ≡ o
        → record_phase f o ≡ Ready → l.station ≡ Some k → (s : Source) × HasRecord l (Some s)
    at k farewell.Nothing None ef eo e es = absurd (cc)
    at k farewell.Nothing (Some x) ef eo e es = (x, record { kept = k; there = es; told = eo; stays = ef })
    at k farewell.Promised o ef eo e es = absurd (cc)
    at k farewell.Left o ef eo e es = absurd (cc)

    absent : (b : Bool) → absent_phase b ≡ Ready → ⊥
    absent true e = cc
    absent false e = cc

    by : (x : Option OperandState) → l.station ≡ x → station_phase x l.ahead ≡ Ready
        → (s : Source) × HasRecord l (Some s)
    by None es e = absurd (absent l.ahead e)
    by (Some k) es e = at k k.farewell k.source refl refl e es

-- an operand that awaits a promised link has a record that says so
pub promised_shows : (l : LookUps) → phase_at l ≡ Promised
    → IsSilent l × ((k : OperandState) × (l.station ≡ Some k) × (k.farewell ≡ farewell.Promised))
promised_shows l e =
    let s = still_shows l Promised refl e in
    (s.0, by l.station refl s.1)
  where
    at : (k : OperandState) (f : Farewell) (o : Option Source) → k.farewell ≡ f → record_phase f o ≡ Promised
        → k.farewell ≡ farewell.Promised
    at k farewell.Nothing None ef e = absurd (cc)
    at k farewell.Nothing (Some x) ef e = absurd (cc)
    at k farewell.Promised o ef e = ef
    at k farewell.Left o ef e = absurd (cc)

    absent : (b : Bool) → absent_phase b ≡ Promised → ⊥
    absent true e = cc
    absent false e = cc

    by : (x : Option OperandState) → l.station ≡ x → station_phase x l.ahead ≡ Promised
        → (k : OperandState) × (l.station ≡ Some k) × (k.farewell ≡ farewell.Promised)
    by None es e = absurd (absent l.ahead e)
    by (Some k) es e = (k, es, at k k.farewell k.source refl e)

-- an operand that has left has a record that says so, or none, and then its task has been taken
pub left_shows : (l : LookUps) → phase_at l ≡ Left
    → IsSilent l × (((l.station ≡ None) × (l.ahead ≡ false))
    ⊎ ((k : OperandState) × (l.station ≡ Some k) × (k.farewell ≡ farewell.Left)))
left_shows l e =
    let s = still_shows l Left refl e in
    (s.0, by l.station refl s.1)
  where
    at : (k : OperandState) (f : Farewell) (o : Option Source) → k.farewell ≡ f → record_phase f o ≡ Left
        → k.farewell ≡ farewell.Left
    at k farewell.Nothing None ef e = absurd (cc)
    at k farewell.Nothing (Some x) ef e = absurd (cc)
    at k farewell.Promised o ef e = absurd (cc)
    at k farewell.Left o ef e = ef

    absent : (b : Bool) → absent_phase b ≡ Left → b ≡ false
    absent true e = absurd (cc)
    absent false e = refl

    by : (x : Option OperandState) → l.station ≡ x → station_phase x l.ahead ≡ Left
        → ((l.station ≡ None) × (l.ahead ≡ false))
        ⊎ ((k : OperandState) × (l.station ≡ Some k) × (k.farewell ≡ farewell.Left))
    by None es e = inl (es, absent l.ahead e)
    by (Some k) es e = inr (k, es, at k k.farewell k.source refl e)

-- an operand that is ahead has no record, and its task hasn't been taken
pub ahead_shows : (l : LookUps) → phase_at l ≡ Ahead → IsSilent l × ((l.station ≡ None) × (l.ahead ≡ true))
ahead_shows l e =
    let s = still_shows l Ahead refl e in
    (s.0, by l.station refl s.1)
  where
    at : (f : Farewell) (o : Option Source) → record_phase f o ≡ Ahead → ⊥
    at farewell.Nothing None e = cc
    at farewell.Nothing (Some x) e = cc
    at farewell.Promised o e = cc
    at farewell.Left o e = cc

    absent : (b : Bool) → absent_phase b ≡ Ahead → b ≡ true
    absent true e = refl
    absent false e = absurd (cc)

    by : (x : Option OperandState) → l.station ≡ x → station_phase x l.ahead ≡ Ahead
        → (l.station ≡ None) × (l.ahead ≡ true)
    by None es e = (es, absent l.ahead e)
    by (Some k) es e = absurd (at k.farewell k.source e)
