-- Lists of readers, the newest first: who comes right after whom, the oldest and the newest, and names that stand once.
use Rattle.std.proofs.Common.{◌≡◌, ◌≢◌, ◌⊎◌, inl, inr, List, [], ◌∷◌, Option, Some, None, refl, sym, ap, ◌∙◌, subst}
use Rattle.std.proofs.lemmas.Option.{none-some, same_Some}
use Rattle.tss_base.specs.declared.operand.OpName.{OpName}
use Rattle.tss_protocol.specs.State.{State}
use Rattle.tss_control.specs.Readers.{Has, AreOnce, oldest_of, AreNeighbours, IsNewest, AreChained, NewestIs}

-- ---- neighbours

-- the newest of a list
abbrev pub newest_of : List OpName → Option OpName
newest_of [] = None
newest_of (a ∷ bs) = Some a

-- b has come right after a
abbrev pub IsNext : OpName → OpName → List OpName → Type 0
IsNext a b [] = ⊥
IsNext a b (x ∷ []) = ⊥
IsNext a b (x ∷ y ∷ ys) = ((x ≡ b) × (y ≡ a)) ⊎ IsNext a b (y ∷ ys)

-- the older of two neighbours isn't the first of the list
older_behind : (a b x : OpName) (xs : List OpName) → IsNext a b (x ∷ xs) → Has a xs
older_behind a b x [] h = absurd h
older_behind a b x (y ∷ ys) (inl p) = inl p.1
older_behind a b x (y ∷ ys) (inr h) = inr (older_behind a b y ys h)

-- both are in the list
pub has_older : (a b : OpName) (xs : List OpName) → IsNext a b xs → Has a xs
has_older a b [] h = absurd h
has_older a b (x ∷ xs) h = inr (older_behind a b x xs h)

-- and the newer one
pub has_newer : (a b : OpName) (xs : List OpName) → IsNext a b xs → Has b xs
has_newer a b [] h = absurd h
has_newer a b (x ∷ []) h = absurd h
has_newer a b (x ∷ y ∷ ys) (inl p) = inl p.0
has_newer a b (x ∷ y ∷ ys) (inr h) = inr (has_newer a b (y ∷ ys) h)

-- the oldest is in the list
pub has_oldest : (a : OpName) (xs : List OpName) → oldest_of xs ≡ Some a → Has a xs
has_oldest a [] e = absurd (none-some a e)
has_oldest a (x ∷ []) e = inl (same_Some x a e)
has_oldest a (x ∷ y ∷ ys) e = inr (has_oldest a (y ∷ ys) e)

-- and so is the newest
pub has_newest : (a : OpName) (xs : List OpName) → newest_of xs ≡ Some a → Has a xs
has_newest a [] e = absurd (none-some a e)
has_newest a (x ∷ xs) e = inl (same_Some x a e)

-- two neighbours of a list in which each stands once differ
pub next_apart : (a b : OpName) (xs : List OpName) → AreOnce xs → IsNext a b xs → a ≢ b
next_apart a b [] once h = absurd h
next_apart a b (x ∷ []) once h = absurd h
next_apart a b (x ∷ y ∷ ys) once (inl p) = λ same. once.0 (inl (p.1 ∙ same ∙ sym p.0))
next_apart a b (x ∷ y ∷ ys) once (inr h) = next_apart a b (y ∷ ys) once.1 h

-- no two come right before one
pub one_older : (a c b : OpName) (xs : List OpName) → AreOnce xs → IsNext a b xs → IsNext c b xs → a ≡ c
one_older a c b [] once h k = absurd h
one_older a c b (x ∷ []) once h k = absurd h
one_older a c b (x ∷ y ∷ ys) once (inl p) (inl q) = sym p.1 ∙ q.1
one_older a c b (x ∷ y ∷ ys) once (inl p) (inr k) =
    absurd (once.0 (subst (λ z. Has z (y ∷ ys)) (sym p.0) (has_newer c b (y ∷ ys) k)))
one_older a c b (x ∷ y ∷ ys) once (inr h) (inl q) =
    absurd (once.0 (subst (λ z. Has z (y ∷ ys)) (sym q.0) (has_newer a b (y ∷ ys) h)))
one_older a c b (x ∷ y ∷ ys) once (inr h) (inr k) = one_older a c b (y ∷ ys) once.1 h k

-- nobody comes before the oldest
pub none_before_oldest : (a b : OpName) (xs : List OpName) → AreOnce xs → IsNext a b xs → oldest_of xs ≡ Some b → ⊥
none_before_oldest a b [] once h e = h
none_before_oldest a b (x ∷ []) once h e = h
none_before_oldest a b (x ∷ y ∷ ys) once (inl p) e =
    once.0 (subst (λ z. Has z (y ∷ ys)) (sym p.0) (has_oldest b (y ∷ ys) e))
none_before_oldest a b (x ∷ y ∷ ys) once (inr h) e = none_before_oldest a b (y ∷ ys) once.1 h e

-- nobody comes after the newest
pub none_after_newest : (a b : OpName) (xs : List OpName) → AreOnce xs → IsNext a b xs → newest_of xs ≡ Some a → ⊥
none_after_newest a b [] once h e = h
none_after_newest a b (x ∷ xs) once h e =
    once.0 (subst (λ z. Has z xs) (sym (same_Some x a e)) (older_behind a b x xs h))

-- a member is the newest, or somebody has come right after it
pub newest_or_older : (a : OpName) (xs : List OpName) → Has a xs
    → (newest_of xs ≡ Some a) ⊎ ((b : OpName) × IsNext a b xs)
newest_or_older a [] h = absurd h
newest_or_older a (x ∷ xs) (inl e) = inl (ap Some e)
newest_or_older a (x ∷ []) (inr h) = absurd h
newest_or_older a (x ∷ y ∷ ys) (inr h) = elim (newest_or_older a (y ∷ ys) h) [
  | inl e ↦ inr (x, inl (refl, same_Some y a e))
  | inr k ↦ inr (k.0, inr k.1)
]

-- ---- facts of neighbours

-- a chained list says so of each two neighbours
pub chained_at : (S : State) (xs : List OpName) → AreChained S xs → (a b : OpName) → IsNext a b xs
    → AreNeighbours S a b
chained_at S [] c a b h = absurd h
chained_at S (x ∷ []) c a b h = absurd h
chained_at S (x ∷ y ∷ ys) c a b (inl p) =
    subst (λ z. AreNeighbours S z b) p.1 (subst (AreNeighbours S y) p.0 c.0)
chained_at S (x ∷ y ∷ ys) c a b (inr h) = chained_at S (y ∷ ys) c.1 a b h

-- and the other way round
pub chained_by : (S : State) (xs : List OpName) → ((a b : OpName) → IsNext a b xs → AreNeighbours S a b)
    → AreChained S xs
chained_by S [] each = tt
chained_by S (x ∷ []) each = tt
chained_by S (x ∷ y ∷ ys) each =
    (each y x (inl (refl, refl)), chained_by S (y ∷ ys) (λ a b h. each a b (inr h)))

-- the newest of a list
pub newest_at : (S : State) (xs : List OpName) → NewestIs S xs → (a : OpName) → newest_of xs ≡ Some a → IsNewest S a
newest_at S [] n a e = absurd (none-some a e)
newest_at S (x ∷ xs) n a e = subst (IsNewest S) (same_Some x a e) n

-- and the other way round
pub newest_by : (S : State) (xs : List OpName) → ((a : OpName) → newest_of xs ≡ Some a → IsNewest S a) → NewestIs S xs
newest_by S [] each = tt
newest_by S (x ∷ xs) each = each x refl
