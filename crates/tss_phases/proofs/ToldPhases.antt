-- The phase of an operand where news is sent: a waiting operand that is told one is told, and any other stays.
use Rattle.std.proofs.Common.{◌≡◌, ◌≢◌, Bool, true, false, cond, List, [], ◌∷◌, ◌++◌, Some, refl, sym, ap, ◌∙◌, inl}
use Rattle.std.proofs.Common.{inr, ◌⊎◌}
use Rattle.std.specs.Prelude.{◌||◌}
use Rattle.tss_base.specs.declared.operand.OpName.{OpName}
use Rattle.tss_protocol.specs.Mail.{Message, Bye}
use Rattle.tss_phases.specs.Phase.{Phase, Waiting, LookUps, phase_at}
use Rattle.tss_phases.specs.Told.{is_ready_for, tells, phase_told}
use Rattle.tss_phases.proofs.Received.{own_name, received_all, received_other}
use Rattle.tss_phases.proofs.News.{AreNews, untold_one, untold, told}
use Rattle.tss_phases.proofs.Shown.{waiting_shows}
use Rattle.tss_phases.proofs.PhaseLemmas.{phase_telling}
use Rattle.tss_phases.proofs.Tests.{neither}

-- where news is sent
pub phase_news : (ms : List Message) (q : OpName) (l : LookUps) → AreNews ms
    → (tells ms q ≡ true → phase_at l ≡ Waiting)
    → phase_at (received_all ms q l) ≡ phase_told (tells ms q) (phase_at l)
phase_news ms q l news waits = by (tells ms q) refl
  where
    by : (b : Bool) → tells ms q ≡ b → phase_at (received_all ms q l) ≡ phase_told b (phase_at l)
    by false e = ap phase_at (untold ms q l news e)
    by true e =
        let new = told ms q l news e in
        let shown = (waiting_shows l (waits e)).0 in
        ap phase_at new.1
        ∙ phase_telling (record l { telling = Some new.0 }) new.0 shown.decoding shown.opening shown.using refl

-- an operand that is in another phase than waiting isn't told
pub not_told : (ms : List Message) (q : OpName) (l : LookUps) (p : Phase) → phase_at l ≡ p → p ≢ Waiting
    → (tells ms q ≡ true → phase_at l ≡ Waiting) → tells ms q ≡ false
not_told ms q l p e apart waits = by (tells ms q) refl
  where
    by : (b : Bool) → tells ms q ≡ b → tells ms q ≡ false
    by false t = t
    by true t = absurd (apart (sym e ∙ waits t))

-- two lists tell whom one of them tells
pub either_tells : (ms ns : List Message) (q : OpName) → tells (ms ++ ns) q ≡ true
    → (tells ms q ≡ true) ⊎ (tells ns q ≡ true)
either_tells [] ns q e = inr e
either_tells (m ∷ ms) ns q e = by (is_ready_for m q) e (either_tells ms ns q)
  where
    by : (b : Bool) → b || tells (ms ++ ns) q ≡ true
        → (tells (ms ++ ns) q ≡ true → (tells ms q ≡ true) ⊎ (tells ns q ≡ true))
        → (b || tells ms q ≡ true) ⊎ (tells ns q ≡ true)
    by true e again = inl refl
    by false e again = again e

-- whom the first of two lists tells, both tell
pub first_tells : (ms ns : List Message) (q : OpName) → tells ms q ≡ true → tells (ms ++ ns) q ≡ true
first_tells [] ns q e = absurd (cc)
first_tells (m ∷ ms) ns q e = by (is_ready_for m q) e (first_tells ms ns q)
  where
    by : (b : Bool) → b || tells ms q ≡ true → (tells ms q ≡ true → tells (ms ++ ns) q ≡ true)
        → b || tells (ms ++ ns) q ≡ true
    by true e again = refl
    by false e again = again e

-- and whom the second tells
pub second_tells : (ms ns : List Message) (q : OpName) → tells ns q ≡ true → tells (ms ++ ns) q ≡ true
second_tells [] ns q e = e
second_tells (m ∷ ms) ns q e = by (is_ready_for m q) (second_tells ms ns q e)
  where
    by : (b : Bool) → tells (ms ++ ns) q ≡ true → b || tells (ms ++ ns) q ≡ true
    by true again = refl
    by false again = again

-- ---- news with a bye among it

-- of another operand the bye says nothing
pub beside_bye : (hs ns : List Message) (o : OpName) (p : Bool) (q : OpName) (l : LookUps) → q ≢ o
    → received_all ((hs ++ Bye o p ∷ []) ++ ns) q l ≡ received_all (hs ++ ns) q l
beside_bye [] ns o p q l apart = ap (received_all ns q) (received_other (Bye o p) q l apart)
beside_bye (h ∷ hs) ns o p q l apart = beside_bye hs ns o p q _ apart

-- and it tells no one
pub bye_tells : (hs ns : List Message) (o : OpName) (p : Bool) (q : OpName)
    → tells ((hs ++ Bye o p ∷ []) ++ ns) q ≡ tells (hs ++ ns) q
bye_tells [] ns o p q = refl
bye_tells (h ∷ hs) ns o p q = ap (λ b. is_ready_for h q || b) (bye_tells hs ns o p q)

-- its operand, where it isn't told, has the bye and all else as before
pub own_bye : (hs ns : List Message) (o : OpName) (p : Bool) (l : LookUps) → AreNews hs → AreNews ns
    → tells ((hs ++ Bye o p ∷ []) ++ ns) o ≡ false
    → received_all ((hs ++ Bye o p ∷ []) ++ ns) o l ≡ record l { leaving = Some p }
own_bye [] ns o p l hn nn e =
    (λ i. received_all ns o (record l { leaving = cond (own_name o i) (Some p) l.leaving }))
    ∙ untold ns o (record l { leaving = Some p }) nn e
own_bye (h ∷ hs) ns o p l hn nn e =
    let tests = neither (is_ready_for h o) _ e in
    ap (received_all ((hs ++ Bye o p ∷ []) ++ ns) o) (untold_one h o l hn.0 tests.0)
    ∙ own_bye hs ns o p l hn.1 nn tests.1
