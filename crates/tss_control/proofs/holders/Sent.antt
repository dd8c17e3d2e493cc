-- Messages that tell an operand its own version, and the openers of versions that are alike.
use Rattle.std.proofs.Common.{◌≡◌, Bool, true, false, List, [], ◌∷◌, Option, Some, None, refl, sym, ap, ◌∙◌, inl, inr}
use Rattle.std.proofs.Common.{true≢false}
use Rattle.std.specs.FinMap.{get}
use Rattle.std.proofs.lemmas.Bool.{or_cases}
use Rattle.tss_base.specs.declared.operand.OpName.{OpName}
use Rattle.tss_base.specs.declared.operand.Mode.{Mode}
use Rattle.tss_base.specs.declared.operand.Mode.TheVariants.{Input, Output, Inout}
use Rattle.tss_base.specs.Names.{Named}
use Rattle.tss_protocol.specs.Mail.{StorageName, Source, Message, Ready}
use Rattle.tss_protocol.specs.State.{Version}
use Rattle.tss_phases.specs.Phase.{Phase, Waiting}
use Rattle.tss_phases.specs.Told.{is_ready_for, tells}
use Rattle.tss_phases.proofs.SettlingLemmas.{name_from_test}
use Rattle.tss_phases.specs.Openers.{version_opener, opener_by, produced_opener, open_opener}
use Rattle.tss_protocol.proofs.SentLemmas.{AllSent}
use Rattle.tss_control.proofs.holders.Moves.{TellsTrue}
use Rattle.tss_control.proofs.holders.Settled.{HeldAlike, TellsOwn}

-- ---- messages that tell

-- one that is told has what is told
pub told_own : (us : Named Version) (q : OpName) (ms : List Message) → AllSent (TellsOwn us) ms → tells ms q ≡ true
    → (s : Source) × (z : Version) × (get us q ≡ Some z) × (z.storage ≡ Some s.storage)
told_own us q [] all e = absurd (true≢false (sym e))
told_own us q (m ∷ ms) all e = elim (or_cases (is_ready_for m q) (tells ms q) e) [
  | inl here ↦ one m here all.0
  | inr rest ↦ told_own us q ms all.1 rest
]
  where
    one : (m : Message) → is_ready_for m q ≡ true → TellsOwn us m
        → (s : Source) × (z : Version) × (get us q ≡ Some z) × (z.storage ≡ Some s.storage)
    one (Ready o s) e h = (s, h.1.0, ap (get us) (name_from_test q o e) ∙ h.1.1, h.1.2)
    one other e h = absurd (true≢false (sym e))

-- what is told is true of who is told, where that is so of its own version
pub tells_true : (us : Named Version) (q : OpName) (T : Source → Type 0) (ms : List Message) → AllSent (TellsOwn us) ms
    → ((s : Source) (z : Version) → s.version ≡ q → get us q ≡ Some z → z.storage ≡ Some s.storage → T s)
    → AllSent (TellsTrue q T) ms
tells_true us q T [] all own = tt
tells_true us q T (m ∷ ms) all own = (one m all.0, tells_true us q T ms all.1 own)
  where
    one : (m : Message) → TellsOwn us m → TellsTrue q T m
    one (Ready o s) h = λ same. own s h.1.0 (h.0 ∙ sym same) (ap (get us) same ∙ h.1.1) h.1.2
    one other h = tt

-- ---- an opener that waits

-- has opened a version without a storage, which isn't produced
pub waiting_opener : (y : Version) (mode : Mode) → version_opener y mode Waiting ≡ true
    → (y.produced ≡ false) × (y.storage ≡ None)
waiting_opener y mode opens = (by y.produced refl opens, at y.produced y.storage refl opens)
  where
    produced : (mode : Mode) → produced_opener mode Waiting ≡ true → ⊥
    produced Input e = true≢false (sym e)
    produced Output e = true≢false (sym e)
    produced Inout e = true≢false (sym e)

    by : (b : Bool) → y.produced ≡ b → opener_by y mode Waiting b ≡ true → y.produced ≡ false
    by true e o = absurd (produced mode o)
    by false e o = e

    at : (b : Bool) (s : Option StorageName) → y.storage ≡ s → opener_by y mode Waiting b ≡ true → y.storage ≡ None
    at true s e o = absurd (produced mode o)
    at false None e o = e
    at false (Some s) e o = absurd (true≢false (sym (sym (ap (λ s. open_opener s Waiting) e) ∙ o)))

-- by the produced bit and the storage
abbrev pub opener_from : Bool → Option StorageName → Mode → Phase → Bool
opener_from true s mode p = produced_opener mode p
opener_from false s mode p = open_opener s p

-- what a version says of its opener, by whether it is produced and by its storage
pub version_opener-from : (y : Version) (mode : Mode) (p : Phase)
    → version_opener y mode p ≡ opener_from y.produced y.storage mode p
version_opener-from y mode p = by y.produced
  where
    by : (b : Bool) → opener_by y mode p b ≡ opener_from b y.storage mode p
    by true = refl
    by false = refl

-- versions that are alike have openers in the same phases
pub same_opener : (y z : Version) (mode : Mode) (p : Phase) → HeldAlike y z
    → version_opener z mode p ≡ version_opener y mode p
same_opener y z mode p k =
    version_opener-from z mode p
    ∙ (λ i. opener_from (k.produced i) (k.storage i) mode p)
    ∙ sym (version_opener-from y mode p)
