-- Where the counts of the machine's files stand, and one of them risen.
use Rattle.std.proofs.Common.{◌≡◌, ◌≢◌, ℕ, suc, ◌+◌, ◌<◌, ◌≤◌, Bool, true, false, cond, not, ◌||◌, List, [], ◌∷◌, map, length, get_or, refl, sym, ap, ◌∙◌, subst, arith}
use Rattle.std.proofs.Math.ListN.{set}
use Rattle.std.specs.List.{list_any, position_or_len}
use Rattle.std.specs.Str.{bytes_eq}
use Rattle.std.proofs.lemmas.Slice.Eq.{bytes_eq-Decides}
use Rattle.std.proofs.lemmas.List.{get_or-set_other}
use Rattle.std.proofs.lemmas.List.Sums.{passes_at_first}
use Rattle.tss_outside.specs.Outside.{RaisesOnly}
use Rattle.tss_outside.specs.Real.{counted_names, is_counted, count_place, count_of}

-- a write beside a place leaves what is there
get_or-set_beside : (xs : List ℕ) (i k x : ℕ) → k ≢ i → get_or (set xs i x) k 0 ≡ get_or xs k 0
get_or-set_beside xs i k x h = rw get_or-set_other

-- a search among mapped elements
pub position_or_len-map : {X Y : Type 0} (f : X → Y) (p : Y → Bool) (xs : List X) → position_or_len p (map f xs) ≡ position_or_len (λ x. p (f x)) xs
position_or_len-map f p [] = refl
position_or_len-map f p (x ∷ xs) = ap (λ k. cond (not (p (f x))) (1 + k) 0) (position_or_len-map f p xs)

by_first : (a b : Bool) (k len : ℕ) → a || b ≡ true → (b ≡ true → k < len) → cond (not a) (1 + k) 0 < 1 + len
by_first true b k len e h = omega arith
by_first false b k len e h = let more : k < len = h e in omega arith

-- what some element passes is found within
some_within : {X : Type 0} (p : X → Bool) (xs : List X) → list_any p xs ≡ true → position_or_len p xs < length xs
some_within p [] e = absurd (cc)
some_within p (x ∷ xs) e =
    let h = by_first (p x) (list_any p xs) (position_or_len p xs) (length xs) e (some_within p xs) in
    omega (arith, h)

-- the count of a known name stands apart from that of any other
pub apart : (names : List (List ℕ)) (m n : List ℕ) → is_counted names m ≡ true → m ≢ n → count_place names m ≢ count_place names n
apart names m n known other same =
    let within = some_within (λ w. bytes_eq w m) (counted_names names) known in
    let here : List ℕ = get_or (counted_names names) (count_place names m) [] in
    let is_m : here ≡ m = (bytes_eq-Decides here m).0 (passes_at_first (λ w. bytes_eq w m) (counted_names names) [] within) in
    let is_n : here ≡ n = (bytes_eq-Decides here n).0 (subst (λ k. bytes_eq (get_or (counted_names names) k []) n ≡ true) (sym same) (passes_at_first (λ w. bytes_eq w n) (counted_names names) [] (subst (λ k. k < length (counted_names names)) same within))) in
    other (sym is_m ∙ is_n)

none_first : (b : Bool) (k len : ℕ) → b ≡ false → k ≡ len → cond (not b) (1 + k) 0 ≡ 1 + len
none_first true k len e f = absurd (cc)
none_first false k len e f = ap (λ n. 1 + n) f

-- where each element fails the first place is the length
pub all_fail : {X : Type 0} (p : X → Bool) (xs : List X) → ((k : ℕ) (d : X) → k < length xs → p (get_or xs k d) ≡ false) → position_or_len p xs ≡ length xs
all_fail p [] h = refl
all_fail p (x ∷ xs) h =
    let rest = all_fail p xs (λ k d below. h (suc k) d (omega arith)) in
    none_first (p x) (position_or_len p xs) (length xs) (h 0 x (omega arith)) rest ∙ omega arith

-- where one count has risen no count has fallen, and those of the other known names are as they were
pub raised : (names : List (List ℕ)) (n : List ℕ) (old new : List ℕ) (place count : ℕ) → place ≡ count_place names n → new ≡ set old place count → ((k : ℕ) → get_or old k 0 ≤ get_or new k 0) → RaisesOnly (is_counted names) (count_of names old) (count_of names new) n
raised names n old new place count at is grows = record {
  never_falls = λ m. grows (count_place names m);
  others = λ m known other. ap (λ xs. get_or xs (count_place names m) 0) is ∙ get_or-set_beside old place (count_place names m) count (λ e. apart names m n known other (e ∙ at));
}
