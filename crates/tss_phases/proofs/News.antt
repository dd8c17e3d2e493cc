-- Messages that change nothing that is looked up but whether an operand is being told, as those that a settle, a link
-- or a ready sends.
use Rattle.std.proofs.Common.{◌≡◌, Bool, true, false, cond, List, [], ◌∷◌, ◌++◌, Some, refl, ap, ◌∙◌}
use Rattle.std.specs.Prelude.{◌||◌}
use Rattle.tss_base.specs.declared.operand.OpName.{OpName}
use Rattle.tss_protocol.specs.Mail.{Source, Message, Decode, Open, Use, Ready, Release, Bye}
use Rattle.tss_phases.specs.Phase.{LookUps}
use Rattle.tss_phases.specs.Told.{is_ready_for, tells}
use Rattle.tss_phases.proofs.Received.{received, received_all}
use Rattle.tss_phases.proofs.Tests.{neither}

-- a message is no decode, open, use, release or bye
abbrev IsNews : Message → Type 0
IsNews (Decode o operand) = ⊥
IsNews (Open o opening) = ⊥
IsNews (Use o v) = ⊥
IsNews (Release o releasing) = ⊥
IsNews (Bye o promised) = ⊥
IsNews other = Unit {0}

-- none of a list is
abbrev pub AreNews : List Message → Type 0
AreNews [] = Unit {0}
AreNews (m ∷ ms) = IsNews m × AreNews ms

-- two lists
pub news_both : (ms ns : List Message) → AreNews ms → AreNews ns → AreNews (ms ++ ns)
news_both [] ns h k = k
news_both (m ∷ ms) ns h k = (h.0, news_both ms ns h.1 k)

-- one message: who isn't told has everything as before
pub untold_one : (m : Message) (q : OpName) (l : LookUps) → IsNews m → is_ready_for m q ≡ false → received m q l ≡ l
untold_one (Decode o operand) q l n e = absurd n
untold_one (Open o opening) q l n e = absurd n
untold_one (Use o v) q l n e = absurd n
untold_one (Ready o source) q l n e = λ i. record l { telling = cond (e i) (Some source) l.telling }
untold_one (Release o releasing) q l n e = absurd n
untold_one (Bye o promised) q l n e = absurd n
untold_one other q l n e = refl

-- what an operand is told last
abbrev HasNews : LookUps → LookUps → Type 0
HasNews l k = (s : Source) × (k ≡ record l { telling = Some s })

told_one : (m : Message) (q : OpName) (l : LookUps) → is_ready_for m q ≡ true → HasNews l (received m q l)
told_one (Ready o source) q l e = (source, λ i. record l { telling = cond (e i) (Some source) l.telling })
told_one other q l e = absurd (cc)

-- who isn't told has everything as before
pub untold : (ms : List Message) (q : OpName) (l : LookUps) → AreNews ms → tells ms q ≡ false → received_all ms q l ≡ l
untold [] q l n e = refl
untold (m ∷ ms) q l n e =
    let tests = neither (is_ready_for m q) (tells ms q) e in
    ap (received_all ms q) (untold_one m q l n.0 tests.0) ∙ untold ms q l n.1 tests.1

-- who is told has a ready, and all else as before
pub told : (ms : List Message) (q : OpName) (l : LookUps) → AreNews ms → tells ms q ≡ true
    → HasNews l (received_all ms q l)
told [] q l n e = absurd (cc)
told (m ∷ ms) q l n e = by (is_ready_for m q) (tells ms q) refl refl e (λ k. told ms q k n.1)
  where
    by : (a b : Bool) → is_ready_for m q ≡ a → tells ms q ≡ b → a || b ≡ true
        → ((k : LookUps) → tells ms q ≡ true → HasNews k (received_all ms q k)) → HasNews l (received_all (m ∷ ms) q l)
    by false true ea eb e again =
        let rest = again l eb in
        (rest.0, ap (received_all ms q) (untold_one m q l n.0 ea) ∙ rest.1)
    by true false ea eb e again =
        let here = told_one m q l ea in
        (here.0, ap (received_all ms q) here.1 ∙ untold ms q (record l { telling = Some here.0 }) n.1 eb)
    by true true ea eb e again =
        let here = told_one m q l ea in
        let rest = again (record l { telling = Some here.0 }) eb in
        (rest.0, ap (received_all ms q) here.1 ∙ rest.1)
    by false false ea eb e again = absurd (cc)
