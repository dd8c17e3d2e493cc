-- What main has printed, piece by piece.
use Rattle.std.specs.Prelude.{◌≡◌, ℕ, zero, suc, ◌-◌, ◌<◌, ◌≤◌, ◌^◌, nat_lt, if◌then◌else◌, List, [], ◌∷◌, length, take, drop}
use Rattle.tss_model.specs.MainStep.{Piece}
use Rattle.tss_steps.specs.declared.printed.Mark.{Mark}

-- the most bytes that may be printed, and the pieces that are
pub record PrintedState : Type 0 where
  pub limit : ℕ
  pub pieces : List Piece

-- no piece was printed with fewer tasks spawned than the one before, and none with more than so many
abbrev pub RiseTo : ℕ → List Piece → ℕ → Type 0
RiseTo from [] most = from ≤ most
RiseTo from (p ∷ ps) most = (from ≤ p.before) × RiseTo p.before ps most

-- whatever the most is
abbrev pub Rise : List Piece → Type 0
Rise ps = (most : ℕ) × RiseTo 0 ps most

-- ---- as they are kept. No public clause speaks of these

-- the bytes from one place to another
abbrev pub part : List ℕ → ℕ → ℕ → List ℕ
part xs from until = take (until - from) (drop from xs)

-- the pieces of bytes from a place on, by where each ends
abbrev pub pieces_from : List ℕ → ℕ → List Mark → List Piece
pieces_from bytes at [] = []
pieces_from bytes at (m ∷ ms) = record { before = m.before; bytes = part bytes at m.end } ∷ pieces_from bytes m.end ms

-- where the piece at a place begins
abbrev pub start_at : ℕ → ℕ → List Mark → ℕ
start_at zero at ms = at
start_at (suc i) at [] = at
start_at (suc i) at (m ∷ ms) = start_at i m.end ms

-- where the first pieces end, up to one before which at least so many tasks were spawned
abbrev pub end_before : ℕ → ℕ → List Mark → ℕ
end_before task at [] = at
end_before task at (m ∷ ms) = if nat_lt m.before task then end_before task m.end ms else at

-- the marks go on from a place, each with at least one byte, up to another
abbrev pub GoOn : ℕ → List Mark → ℕ → Type 0
GoOn at [] until = at ≡ until
GoOn at (m ∷ ms) until = (at < m.end) × GoOn m.end ms until

-- so many bytes and marks, with room for as many as may be printed
pub record IsPrinted (limit : ℕ) (bytes : List ℕ) (marks : List Mark) (room spare : ℕ) : Type 0 where
  pub word : limit < 2 ^ 32
  pub few : length bytes ≤ limit
  pub fits : limit ≤ room
  pub mark_fits : limit ≤ spare
  pub goes_on : GoOn 0 marks (length bytes)
