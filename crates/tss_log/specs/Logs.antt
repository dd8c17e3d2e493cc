-- What a log means, and what its calls leave of it.
use Rattle.std.specs.Prelude.{◌≡◌, ℕ, List, ◌++◌, Option, Some, IfSome, option_map}
use Rattle.tss_base.specs.declared.event.Event.{Event}
use Rattle.tss_outside.specs.Outside.{IsPrefix}
use Rattle.tss_protocol.specs.Text.{event_text, ended_line}

-- an event's line in a log, with its end
abbrev pub event_line : Event → List ℕ
event_line e = ended_line (event_text e)

-- a text, where it is told, with more after it
abbrev pub followed_by : List ℕ → Option (List ℕ) → Option (List ℕ)
followed_by more text = option_map (λ t. t ++ more) text

-- a text is what is held, with what is still kept after it: both are told, or neither is
abbrev pub Follows : Option (List ℕ) → Option (List ℕ) → Type 0
Follows held text = (kept : List ℕ) × (text ≡ followed_by kept held)

-- what is told now was told before, and is the same
abbrev pub Stays : {X : Type 0} → Option X → Option X → Type 0
Stays old new = IfSome new (λ b. old ≡ Some b)

-- what is told now begins with what was told before
abbrev pub Grows : Option (List ℕ) → Option (List ℕ) → Type 0
Grows old new = IfSome new (λ b. (a : List ℕ) × (old ≡ Some a) × IsPrefix a b)

-- what is held, where that is told, is a part from the beginning of a text that was told
abbrev pub HoldsPart : Option (List ℕ) → Option (List ℕ) → Type 0
HoldsPart text held = IfSome held (λ b. (t : List ℕ) × (text ≡ Some t) × IsPrefix b t)
