-- One piece of what main has printed, and the first pieces.
use Rattle.std.proofs.Common.{◌≡◌, ℕ, zero, suc, ◌+◌, ◌-◌, ◌<◌, ◌≤◌, Bool, true, false, cond, nat_lt, List, [], ◌∷◌, ◌++◌, length, take, drop, slice_index_or, get_or, Some, None, option_map, refl, sym, ap, ◌∙◌, arith}
use Rattle.std.specs.Prelude.{filter, slice_get, if◌then◌else◌}
use Rattle.std.proofs.lemmas.Bool.Decides.{nat_tests}
use Rattle.std.proofs.lemmas.Option.{none-some, same_Some, slice_get-get_or, slice_get_read, slice_get_past}
use Rattle.std.proofs.lemmas.List.{drop-drop}
use Rattle.std.proofs.Math.Seq.{take-add}
use Rattle.tss_model.specs.MainStep.{Piece, output_of}
use Rattle.tss_steps.specs.declared.printed.Mark.{Mark}
use Rattle.tss_steps.specs.Printing.{part, pieces_from, GoOn, RiseTo, start_at, end_before}
use Rattle.tss_steps.proofs.PrintedLemmas.{GoOn-long}

-- ---- how many

pub length-pieces_from : (bytes : List ℕ) (at : ℕ) (ms : List Mark) → length (pieces_from bytes at ms) ≡ length ms
length-pieces_from bytes at [] = refl
length-pieces_from bytes at (m ∷ ms) = ap suc (length-pieces_from bytes m.end ms)

-- ---- one piece

-- a piece by its mark
abbrev pub piece_by : List ℕ → ℕ → Mark → Piece
piece_by bytes start m = record { before = m.before; bytes = part bytes start m.end }

pub piece_at_mark : (bytes : List ℕ) (at : ℕ) (ms : List Mark) (i : ℕ)
    → slice_get (pieces_from bytes at ms) i ≡ option_map (piece_by bytes (start_at i at ms)) (slice_get ms i)
piece_at_mark bytes at [] zero = refl
piece_at_mark bytes at [] (suc i) = refl
piece_at_mark bytes at (m ∷ ms) zero = refl
piece_at_mark bytes at (m ∷ ms) (suc i) = piece_at_mark bytes m.end ms i

-- it begins where the one before ends
pub start_after : (at : ℕ) (ms : List Mark) (k : ℕ) (m : Mark) → slice_get ms k ≡ Some m → start_at (suc k) at ms ≡ m.end
start_after at [] k m e = absurd (none-some m e)
start_after at (x ∷ xs) zero m e = ap (λ (m : Mark). m.end) (same_Some x m e)
start_after at (x ∷ xs) (suc k) m e = start_after x.end xs k m e

-- and ends further on, within all bytes
pub piece_within : (at : ℕ) (ms : List Mark) (until i : ℕ) (m : Mark) → GoOn at ms until → slice_get ms i ≡ Some m
    → (start_at i at ms ≤ m.end) × (m.end ≤ until)
piece_within at [] until i m g e = absurd (none-some m e)
piece_within at (x ∷ xs) until zero m g e =
    let rest = GoOn-long xs x.end until g.1 in
    let low = g.0 in
    let same = ap (λ (m : Mark). m.end) (same_Some x m e) in
    (omega (arith, low, same), omega (arith, rest, same))
piece_within at (x ∷ xs) until (suc i) m g e = piece_within x.end xs until i m g.1 e

-- ---- the first pieces

-- a list from a place on
pub drop_there : (ms : List Mark) (i : ℕ) (m : Mark) → slice_get ms i ≡ Some m → drop i ms ≡ m ∷ drop (suc i) ms
drop_there [] i m e = absurd (none-some m e)
drop_there (x ∷ xs) zero m e = ap (λ x. x ∷ xs) (same_Some x m e)
drop_there (x ∷ xs) (suc i) m e = drop_there xs i m e

pub end_within : (task at : ℕ) (ms : List Mark) (until : ℕ) → GoOn at ms until
    → (at ≤ end_before task at ms) × (end_before task at ms ≤ until)
end_within task at [] until g = (omega arith, omega (arith, g))
end_within task at (m ∷ ms) until g =
    let rest = GoOn-long ms m.end until g.1 in
    let low = g.0 in
    let more = end_within task m.end ms until g.1 in
    let first = more.0 in
    by (nat_lt m.before task) (omega (arith, low, first)) more.1 (omega (arith, low, rest))
  where
    by : (b : Bool) → at ≤ end_before task m.end ms → end_before task m.end ms ≤ until → at ≤ until
        → (at ≤ (if b then end_before task m.end ms else at)) × ((if b then end_before task m.end ms else at) ≤ until)
    by true low high all = (low, high)
    by false low high all = (omega arith, all)

-- two parts that follow one another
part_joined : (bytes : List ℕ) (a b c : ℕ) → a ≤ b → b ≤ c → part bytes a b ++ part bytes b c ≡ part bytes a c
part_joined bytes a b c low high =
    let first : a + (b - a) ≡ b = omega (arith, low) in
    let both : (b - a) + (c - b) ≡ c - a = omega (arith, low, high) in
    ap (λ xs. take (b - a) (drop a bytes) ++ take (c - b) xs)
    (ap (λ n. drop n bytes) (sym first) ∙ sym (drop-drop (b - a) a bytes))
    ∙ sym (take-add (b - a) (c - b) (drop a bytes))
    ∙ ap (λ n. take n (drop a bytes)) both

not_below : (a b : ℕ) → b ≤ a → nat_lt a b ≡ false
not_below a b h = grind (arith, nat_tests)

at_least : (a b : ℕ) → nat_lt a b ≡ false → b ≤ a
at_least a b h = grind (arith, nat_tests)

-- the pieces before which fewer tasks were spawned
abbrev pub early : ℕ → List Piece → List Piece
early task ps = filter (λ p. nat_lt p.before task) ps

-- no later piece was printed with fewer tasks spawned
none_later : (bytes : List ℕ) (task from at : ℕ) (ms : List Mark) (most : ℕ) → task ≤ from
    → RiseTo from (pieces_from bytes at ms) most → output_of (early task (pieces_from bytes at ms)) ≡ []
none_later bytes task from at [] most late rise = refl
none_later bytes task from at (m ∷ ms) most late rise =
    let low = rise.0 in
    let off = not_below m.before task (omega (arith, late, low)) in
    let rest = early task (pieces_from bytes m.end ms) in
    ap (λ b. output_of (cond b (piece_by bytes at m ∷ rest) rest)) off
    ∙ none_later bytes task m.before m.end ms most (omega (arith, late, low)) rise.1

-- nothing lies between a place and itself
nothing : (bytes : List ℕ) (at : ℕ) → [] ≡ part bytes at at
nothing bytes at = let none : 0 ≡ at - at = omega arith in ap (λ n. take n (drop at bytes)) none

-- the first piece with the others, or without any
with_rest : (bytes : List ℕ) (task at : ℕ) (m : Mark) (end : ℕ) (rest : List Piece) (b : Bool) → nat_lt m.before task ≡ b
    → output_of rest ≡ part bytes m.end end → part bytes at m.end ++ part bytes m.end end ≡ part bytes at end
    → (task ≤ m.before → output_of rest ≡ [])
    → output_of (cond b (piece_by bytes at m ∷ rest) rest) ≡ part bytes at (if b then end else at)
with_rest bytes task at m end rest true e more joined none = ap (λ xs. part bytes at m.end ++ xs) more ∙ joined
with_rest bytes task at m end rest false e more joined none = none (at_least m.before task e) ∙ nothing bytes at

pub front_pieces : (bytes : List ℕ) (task from at : ℕ) (ms : List Mark) (most until : ℕ) → GoOn at ms until
    → RiseTo from (pieces_from bytes at ms) most
    → output_of (early task (pieces_from bytes at ms)) ≡ part bytes at (end_before task at ms)
front_pieces bytes task from at [] most until g rise = nothing bytes at
front_pieces bytes task from at (m ∷ ms) most until g rise =
    let low = g.0 in
    let further = end_within task m.end ms until g.1 in
    with_rest bytes task at m (end_before task m.end ms) (early task (pieces_from bytes m.end ms)) (nat_lt m.before task)
    refl (front_pieces bytes task m.before m.end ms most until g.1 rise.1)
    (part_joined bytes at m.end (end_before task m.end ms) (omega (arith, low)) further.0)
    (λ late. none_later bytes task m.before m.end ms most late rise.1)

-- all from the first place on
pub front_of_all : (bytes : List ℕ) (task : ℕ) (ms : List Mark) (most : ℕ) → GoOn 0 ms (length bytes)
    → RiseTo 0 (pieces_from bytes 0 ms) most
    → take (end_before task 0 ms) bytes ≡ output_of (early task (pieces_from bytes 0 ms))
front_of_all bytes task ms most g rise =
    let all : end_before task 0 ms ≡ end_before task 0 ms - 0 = omega arith in
    ap (λ n. take n bytes) all ∙ sym (front_pieces bytes task 0 0 ms most (length bytes) g rise)

-- a piece begins where the one before ends
pub start_by : (at : ℕ) (ms : List Mark) (i : ℕ) (d : Mark) → 0 < i → i < length ms
    → (slice_index_or ms (i - 1) d).end ≡ start_at i at ms
start_by at ms zero d some within = absurd (omega (arith, some))
start_by at ms (suc i) d some within =
    let one : suc i - 1 ≡ i = omega arith in
    ap (λ k. (slice_index_or ms k d).end) one
    ∙ sym (start_after at ms i (slice_index_or ms i d) (slice_get-get_or ms i d (omega (arith, within))))

-- a mark that was read
pub mark_read : (xs ms : List Mark) (i : ℕ) (m : Mark) → xs ≡ ms → i < length xs → m ≡ get_or xs i m
    → slice_get ms i ≡ Some m
mark_read xs ms i m same within read =
    ap (λ xs. slice_get xs i) (sym same) ∙ slice_get_read xs (length xs) i m refl within read

-- no mark is there, and so no piece
pub no_piece : (xs ms : List Mark) (bytes : List ℕ) (i : ℕ) → xs ≡ ms → length xs ≤ i
    → slice_get (pieces_from bytes 0 ms) i ≡ None
no_piece xs ms bytes i same past =
    piece_at_mark bytes 0 ms i
    ∙ ap (option_map (piece_by bytes (start_at i 0 ms))) (ap (λ xs. slice_get xs i) (sym same) ∙ slice_get_past xs i past)

-- the piece of a mark
pub some_piece : (ms : List Mark) (bytes : List ℕ) (i : ℕ) (m : Mark) → slice_get ms i ≡ Some m
    → slice_get (pieces_from bytes 0 ms) i ≡ Some (piece_by bytes (start_at i 0 ms) m)
some_piece ms bytes i m there = piece_at_mark bytes 0 ms i ∙ ap (option_map (piece_by bytes (start_at i 0 ms))) there
