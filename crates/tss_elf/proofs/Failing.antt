-- The first check that fails, in lists of checks that are joined and in those of one header after the other.
use Rattle.std.proofs.Common.{◌≡◌, ℕ, ◌+◌, ◌*◌, ◌<◌, Bool, true, false, List, [], ◌∷◌, ◌++◌, length, get_or, take, drop}
use Rattle.std.proofs.Common.{Option, Some, None, cond, refl, sym, ap, ◌∙◌, subst, arith}
use Rattle.std.specs.Prelude.{flat_map, filter, option_map, Result, Ok, Err, IsErrAnd}
use Rattle.std.proofs.lemmas.List.{append-nil, take_more, take-append-drop, drop_more}
use Rattle.std.proofs.lemmas.List.Elements.{filter_more}
use Rattle.std.proofs.lemmas.List.FromFn.{length-map-range_with_len, get_or-map-range_with_len}
use Rattle.std.proofs.lemmas.Grind.{flat_map-append}
use Rattle.tss_elf.specs.declared.header.ProgramHeader.{ProgramHeader}
use Rattle.tss_elf.specs.declared.refusal.ImageFault.{ImageFault}
use Rattle.tss_elf.specs.declared.refusal.ImageFault.TheVariants as fault
use Rattle.tss_elf.specs.declared.refusal.Refusal.{Refusal}
use Rattle.tss_elf.specs.Fields.{headers, header_at, headers_place, header_count, place_of, is_kept}
use Rattle.tss_elf.specs.Checks.{first_failing}
use Rattle.tss_elf.specs.Elf.{Passes, number_of}

-- where a check of the first list fails, it is the first of both that does
pub failing_before : (cs ds : List (Refusal × Bool)) (r : Refusal) → first_failing cs ≡ Some r
    → first_failing (cs ++ ds) ≡ Some r
failing_before [] ds r e = cc
failing_before ((check, true) ∷ cs) ds r e = e
failing_before ((check, false) ∷ cs) ds r e = failing_before cs ds r e

-- where none of the first list fails, it is that of the second
pub failing_after : (cs ds : List (Refusal × Bool)) → first_failing cs ≡ None
    → first_failing (cs ++ ds) ≡ first_failing ds
failing_after [] ds e = refl
failing_after ((check, true) ∷ cs) ds e = cc
failing_after ((check, false) ∷ cs) ds e = failing_after cs ds e

-- where none of two lists fails, none of both does, and the other way round
pub passed_before : (cs ds : List (Refusal × Bool)) → first_failing (cs ++ ds) ≡ None → first_failing cs ≡ None
passed_before [] ds e = refl
passed_before ((check, true) ∷ cs) ds e = cc
passed_before ((check, false) ∷ cs) ds e = passed_before cs ds e

pub passed_after : (cs ds : List (Refusal × Bool)) → first_failing (cs ++ ds) ≡ None → first_failing ds ≡ None
passed_after cs ds e = sym (failing_after cs ds (passed_before cs ds e)) ∙ e

-- the checks of one thing after the other: one thing more passes
pub passed_more : {X : Type 0} (f : X → List (Refusal × Bool)) (xs : List X) (i : ℕ) (d : X) → i < length xs
    → first_failing (flat_map f (take i xs)) ≡ None → first_failing (f (get_or xs i d)) ≡ None
    → first_failing (flat_map f (take (i + 1) xs)) ≡ None
passed_more {X} f xs i d within before here =
    let e : flat_map f (take (i + 1) xs) ≡ flat_map f (take i xs) ++ flat_map f (get_or xs i d ∷ []) =
    ap (flat_map f) (take_more xs i d within) ∙ flat_map-append f (take i xs) (get_or xs i d ∷ []) in
    ap first_failing e ∙ failing_after (flat_map f (take i xs)) (flat_map f (get_or xs i d ∷ [])) before
    ∙ ap first_failing (append-nil (f (get_or xs i d))) ∙ here

-- one thing is the first that fails
pub fails_at : {X : Type 0} (f : X → List (Refusal × Bool)) (xs : List X) (i : ℕ) (d : X) (r : Refusal)
    → i < length xs → first_failing (flat_map f (take i xs)) ≡ None → first_failing (f (get_or xs i d)) ≡ Some r
    → first_failing (flat_map f xs) ≡ Some r
fails_at {X} f xs i d r within before here =
    let rest = drop (i + 1) xs in
    let e : xs ≡ take i xs ++ (get_or xs i d ∷ rest) =
    sym (take-append-drop i xs) ∙ ap (λ ys. take i xs ++ ys) (drop_more xs i d within) in
    ap (λ ys. first_failing (flat_map f ys)) e
    ∙ ap first_failing (flat_map-append f (take i xs) (get_or xs i d ∷ rest))
    ∙ failing_after (flat_map f (take i xs)) (f (get_or xs i d) ++ flat_map f rest) before
    ∙ failing_before (f (get_or xs i d)) (flat_map f rest) r here

-- the program headers are as many as the file header says, and each stands at its place
pub length-headers : (bytes : List ℕ) → length (headers bytes) ≡ header_count bytes
unfolding headers
length-headers bytes = length-map-range_with_len (λ i. header_at bytes (place_of bytes i)) 0 (header_count bytes)

pub get_or-headers : (bytes : List ℕ) (i : ℕ) (d : ProgramHeader) → i < header_count bytes
    → get_or (headers bytes) i d ≡ header_at bytes (place_of bytes i)
unfolding headers
get_or-headers bytes i d within =
    get_or-map-range_with_len (λ i. header_at bytes (place_of bytes i)) 0 (header_count bytes) i i d
    within (omega arith)

-- the program header that was read is the one of its number
pub header_read : (bytes : List ℕ) (i place : ℕ) (h : ProgramHeader) → i < header_count bytes
    → place ≡ headers_place bytes → h ≡ header_at bytes (place + 32 * i) → get_or (headers bytes) i h ≡ h
header_read bytes i place h within at is =
    get_or-headers bytes i h within ∙ ap (λ p. header_at bytes (p + 32 * i)) (sym at) ∙ sym is

-- one program header more is kept, or isn't
pub kept_more : (hs : List ProgramHeader) (i : ℕ) (d h : ProgramHeader) (b : Bool) (old new : List ProgramHeader)
    → i < length hs → get_or hs i d ≡ h → b ≡ is_kept h → old ≡ filter is_kept (take i hs)
    → new ≡ old ++ cond b (h ∷ []) [] → new ≡ filter is_kept (take (i + 1) hs)
kept_more hs i d h b old new within here test before now =
    now ∙ ap (λ ks. ks ++ cond b (h ∷ []) []) before ∙ ap (λ t. filter is_kept (take i hs) ++ cond t (h ∷ []) []) test
    ∙ ap (λ g. filter is_kept (take i hs) ++ cond (is_kept g) (g ∷ []) []) (sym here)
    ∙ sym (filter_more is_kept hs i d within)

-- an answer that names the first check that fails
pub failed : {X : Type 0} (result : Result X ImageFault) (first : Option Refusal) (P : X → Type 0) (r : Refusal)
    → first ≡ Some r → IsErrAnd result (λ e. e ≡ fault.Check (number_of r)) → Passes result first P
failed (Ok x) first P r is h = absurd h
failed (Err e) first P r is h = subst (λ f. Passes (Err f) first P) (sym h) (ap (option_map number_of) is)
