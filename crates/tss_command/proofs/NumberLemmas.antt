-- The number that a word writes is the one whose digits it is.
use Rattle.std.proofs.Common.{◌≡◌, ◌≢◌, ℕ, ◌+◌, ◌*◌, ◌-◌, ◌/◌, ◌%◌, ◌<◌, ◌≤◌, ◌^◌, Bool, true, false, List, [], ◌∷◌, ◌++◌, Some, None, Result, Ok, Err, refl, sym, ap, ◌∙◌, subst, arith}
use Rattle.std.specs.Prelude.{◌&&◌, cond, nat_lt, decimal, bytes_eq}
use Rattle.std.specs.Str.Parse.{ParsesUnsigned}
use Rattle.std.proofs.lemmas.Bool.Decides.{nat_tests}
use Rattle.std.proofs.lemmas.Fmt.{decimal_by_steps, parse-decimal}
use Rattle.std.proofs.lemmas.List.Sums.{fold-append}
use Rattle.std.proofs.lemmas.Slice.Eq.{bytes_eq-Decides}
use Rattle.tss_protocol.specs.Text.{number_in}
use Rattle.tss_command.specs.Words.{number_if_spelled, number_of}

-- the digits of a number are read as that number
number_in-decimal : (n : ℕ) → n < 2 ^ 64 → number_in (decimal n) ≡ n
number_in-decimal n h = decimal_by_steps (λ m ds. number_in ds ≡ m) one more n h
  where
    one : (m : ℕ) → m < 10 → number_in ((48 + m) ∷ []) ≡ m
    one m l = omega arith

    more : (m : ℕ) (ds : List ℕ) → 10 ≤ m → number_in ds ≡ m / 10 → number_in (ds ++ (48 + m % 10) ∷ []) ≡ m
    more m ds l e =
        fold-append (λ n c. 10 * n + (c - 48)) 0 ds ((48 + m % 10) ∷ []) ∙ (let r : 10 * number_in ds + (48 + m % 10 - 48) ≡ m = omega (arith, e) in r)

below : (m n : ℕ) → m < n → nat_lt m n ≡ true
below m n h = grind (arith, nat_tests)

is_below : (m n : ℕ) → nat_lt m n ≡ true → m < n
is_below m n h = grind (arith, nat_tests)

pub number_is : (word : List ℕ) (n : ℕ) → decimal n ≡ word → n < 2 ^ 64 → Some n ≡ number_of word
number_is word n e h =
    sym (ap (number_if_spelled word) (ap number_in (sym e) ∙ number_in-decimal n h)
    ∙ ap (λ b. cond (b && nat_lt n (2 ^ 64)) (Some n) None) ((bytes_eq-Decides (decimal n) word).1 e)
    ∙ ap (λ b. cond b (Some n) None) (below n (2 ^ 64) h))

none_by : (word : List ℕ) (n : ℕ) (b c : Bool) → bytes_eq (decimal n) word ≡ b → nat_lt n (2 ^ 64) ≡ c → (decimal n ≡ word → n < 2 ^ 64 → ⊥) → cond (b && c) (Some n) None ≡ None
none_by word n true true e h never = absurd (never ((bytes_eq-Decides (decimal n) word).0 e) (is_below n (2 ^ 64) h))
none_by word n true false e h never = refl
none_by word n false c e h never = refl

pub number_none : {E : Type 0} (word : List ℕ) (r : Result ℕ E) → ParsesUnsigned 64 10 word r → ((n : ℕ) → r ≡ Ok n → decimal n ≢ word) → None ≡ number_of word
number_none word r parses other =
    sym (none_by word (number_in word) _ _ refl refl (λ e h. other (number_in word) (parse-decimal 64 (number_in word) word r h h (sym e) parses) e))

same_below : (n m : ℕ) → n ≡ m → m < 2 ^ 64 → n < 2 ^ 64
same_below n m e h = omega (arith, e, h)

-- what was parsed has 64 bits
pub parsed_below : {E : Type 0} (word : List ℕ) (r : Result ℕ E) (n : ℕ) → ParsesUnsigned 64 10 word r → r ≡ Ok n → n < 2 ^ 64
parsed_below {E = E} word r n parses is =
    let ok = subst (λ (x : Result ℕ E). ParsesUnsigned 64 10 word x) is parses in
    same_below n _ ok.1 ok.0.1

err_ok : {E : Type 0} {e : E} {n : ℕ} → ◌≡◌ {A = Result ℕ E} (Err e) (Ok n) → ⊥
err_ok e = cc

ok_same : {E : Type 0} {m n : ℕ} → ◌≡◌ {A = Result ℕ E} (Ok m) (Ok n) → m ≡ n
ok_same e = cc

-- another number was parsed than the word writes, or none
pub other_number : {E : Type 0} (word : List ℕ) (r : Result ℕ E) (n : ℕ) → r ≡ Ok n → decimal n ≢ word → (m : ℕ) → r ≡ Ok m → decimal m ≢ word
other_number word r n is other m same = subst (λ k. decimal k ≢ word) (ok_same (sym is ∙ same)) other

pub no_number : {E : Type 0} (word : List ℕ) (r : Result ℕ E) (e : E) → r ≡ Err e → (m : ℕ) → r ≡ Ok m → decimal m ≢ word
no_number word r e is m same = absurd (err_ok (sym is ∙ same))

-- two texts that are compared
pub texts_same : (xs ys : List ℕ) (b : Bool) → b ≡ true → b ≡ bytes_eq xs ys → xs ≡ ys
texts_same xs ys b is told = (bytes_eq-Decides xs ys).0 (sym told ∙ is)

pub texts_differ : (xs ys : List ℕ) (b : Bool) → b ≡ false → b ≡ bytes_eq xs ys → xs ≢ ys
texts_differ xs ys b is told same = true_false (sym ((bytes_eq-Decides xs ys).1 same) ∙ sym told ∙ is)
  where
    true_false : true ≡ false → ⊥
    true_false e = cc
