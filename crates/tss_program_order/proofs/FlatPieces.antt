-- Pieces that main has printed, by the tasks that it had spawned before them.
use Rattle.std.proofs.Common.{◌≡◌, ℕ, ◌<◌, ◌≤◌, inl, inr, Bool, List, [], ◌∷◌, ◌++◌, refl, sym, ap, subst, ◌∙◌, arith}
use Rattle.std.proofs.Common.{nat_lt}
use Rattle.std.specs.Prelude.{cond, filter}
use Rattle.std.proofs.lemmas.Bool.{lt-ltb, le-ltb}
use Rattle.tss_model.specs.MainStep.{Piece, MainState}
use Rattle.tss_program_order.proofs.FlatSpawn.{Rises}

-- no piece has more tasks before it
abbrev pub NoneAfter : ℕ → List Piece → Type 0
NoneAfter n [] = Unit {0}
NoneAfter n (p ∷ ps) = (p.before ≤ n) × NoneAfter n ps

-- the pieces with fewer than n tasks before them
abbrev pub pieces_below : ℕ → List Piece → List Piece
pieces_below n ps = filter (λ p. nat_lt p.before n) ps

NoneAfter-more : (n k : ℕ) (ps : List Piece) → n ≤ k → NoneAfter n ps → NoneAfter k ps
NoneAfter-more n k [] more none = tt
NoneAfter-more n k (p ∷ ps) more none = (omega (arith, none.0, more), NoneAfter-more n k ps more none.1)

NoneAfter-push : (n : ℕ) (ps : List Piece) (p : Piece) → NoneAfter n ps → p.before ≤ n → NoneAfter n (ps ++ p ∷ [])
NoneAfter-push n [] p none last = (last, tt)
NoneAfter-push n (q ∷ ps) p none last = (none.0, NoneAfter-push n ps p none.1 last)

-- an event of main keeps that no piece has more tasks before it than main has spawned
pub NoneAfter-rises : (s t : MainState) → Rises s t → NoneAfter s.spawned s.pieces → NoneAfter t.spawned t.pieces
NoneAfter-rises s t rises none = elim rises.pieces [
  | inl same ↦ subst (NoneAfter t.spawned) (sym same) (NoneAfter-more s.spawned t.spawned s.pieces rises.spawned none)
  | inr one ↦ subst (NoneAfter t.spawned) (sym one.1)
      (NoneAfter-push t.spawned s.pieces (record { before = s.spawned; bytes = one.0 })
      (NoneAfter-more s.spawned t.spawned s.pieces rises.spawned none) rises.spawned)
]

-- those below a later task are all
pub pieces_below-all : (n k : ℕ) (ps : List Piece) → n < k → NoneAfter n ps → pieces_below k ps ≡ ps
pieces_below-all n k [] later none = refl
pieces_below-all n k (p ∷ ps) later none =
    ap (λ (b : Bool). cond b (p ∷ pieces_below k ps) (pieces_below k ps))
    (lt-ltb p.before k (omega (arith, none.0, later)))
    ∙ ap (λ (qs : List Piece). p ∷ qs) (pieces_below-all n k ps later none.1)

-- a piece after them changes nothing of them
pieces_below-push : (n : ℕ) (ps : List Piece) (p : Piece) → n ≤ p.before
    → pieces_below n (ps ++ p ∷ []) ≡ pieces_below n ps
pieces_below-push n [] p after = ap (λ (b : Bool). cond b (p ∷ []) []) (le-ltb p.before n after)
pieces_below-push n (q ∷ ps) p after =
    ap (λ (qs : List Piece). cond (nat_lt q.before n) (q ∷ qs) qs) (pieces_below-push n ps p after)

-- nor does an event of main that has spawned as many tasks
pub pieces_below-rises : (n : ℕ) (s t : MainState) → Rises s t → n ≤ s.spawned
    → pieces_below n t.pieces ≡ pieces_below n s.pieces
pieces_below-rises n s t rises few = elim rises.pieces [
  | inl same ↦ ap (pieces_below n) same
  | inr one ↦ ap (pieces_below n) one.1
      ∙ pieces_below-push n s.pieces (record { before = s.spawned; bytes = one.0 }) few
]
