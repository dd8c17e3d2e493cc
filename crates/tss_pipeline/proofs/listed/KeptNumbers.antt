-- How many events of each kind may happen, in the order of the kinds.
use Rattle.std.proofs.Common.{◌≡◌, ℕ, ◌<◌, Bool, true, false, cond, List, [], ◌∷◌, length, get_or, refl, ap, ◌∙◌}
use Rattle.std.specs.Prelude.{filter, if◌then◌else◌}
use Rattle.std.proofs.lemmas.List.{get_or-map}
use Rattle.tss_base.specs.declared.event.Event.{Event}
use Rattle.tss_pipeline.specs.declared.enabling.Source.TheVariants as source
use Rattle.tss_pipeline.specs.declared.enabling.TheConstants.{SOURCES}
use Rattle.tss_pipeline.specs.declared.units.Units.{Units}
use Rattle.tss_pipeline.specs.Keeping.{count_enabled, numbers_of}

-- of one event
pub one_event : (p : Event → Bool) (e : Event) (b : Bool) → b ≡ p e
    → ◌≡◌ {A = ℕ} (if b then 1 else 0) (length (filter p (e ∷ [])))
one_event p e b is =
    ap (λ b. if b then 1 else 0) is
    ∙ elim (p e) as (λ b. ◌≡◌ {A = ℕ} (if b then 1 else 0) (length (cond b (e ∷ []) []))) [
      | true ↦ refl
      | false ↦ refl
    ]

-- at a kind's place
pub number_at : (u : Units) (ns : List ℕ) → ns ≡ numbers_of u → (k : ℕ) → k < length SOURCES
    → get_or ns k 0 ≡ count_enabled u (get_or SOURCES k source.Main)
number_at u ns is k within =
    ap (λ (ns : List ℕ). get_or ns k 0) is ∙ get_or-map (count_enabled u) SOURCES k source.Main 0 within
