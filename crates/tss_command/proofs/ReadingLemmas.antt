-- From what is said of each file to what a reading comes to.
use Rattle.std.proofs.Common.{◌≡◌, inl, inr, ℕ, suc, Bool, true, false, List, [], ◌∷◌, length, Option, Some, IfSome, Result, Ok, Err, IsErrAnd, All, Vec, Global, refl, sym, ap, ◌∙◌, subst, arith}
use Rattle.std.specs.Prelude.{cond, nat_lt}
use Rattle.std.specs.Option.{option_and_then}
use Rattle.tss_outside.specs.Outside.{Held}
use Rattle.tss_command.specs.declared.outcome.Input.{Input}
use Rattle.tss_command.specs.declared.outcome.Refusal.{Refusal}
use Rattle.tss_command.specs.declared.outcome.Refusal.TheVariants as refusal
use Rattle.tss_command.specs.Work.{all_bytes}
use Rattle.tss_command.specs.Reading.{Reading, Found, Read, with_found, file_reading, within, found_on, names_after, names_read, Finds, ComesTo, Gives, bytes_found, IsRead}

ok_err : {T : Type 0} {x : T} {e : Refusal} → ◌≡◌ {A = Result T Refusal} (Ok x) (Err e) → ⊥
ok_err e = cc

err_same : {T U : Type 0} {e f : Refusal} → ◌≡◌ {A = Result T Refusal} (Err e) (Err f) → ◌≡◌ {A = Result U Refusal} (Err e) (Err f)
err_same e = ap Err (cc)

some_same : {X : Type 0} {x y : X} → Some x ≡ Some y → x ≡ y
some_same e = cc

cond-false : {A : Type 0} (b : Bool) (x y : A) → b ≡ false → cond b x y ≡ y
cond-false true x y e = absurd (cc)
cond-false false x y e = refl

cond-true : {A : Type 0} (b : Bool) (x y : A) → b ≡ true → cond b x y ≡ x
cond-true true x y e = refl
cond-true false x y e = absurd (cc)

-- an error that is known
pub err_is : {T : Type 0} (r : Result T Refusal) (e : Refusal) → IsErrAnd r (λ f. f ≡ e) → r ≡ Err e
err_is (Ok v) e is = absurd is
err_is (Err f) e is = ap Err is

-- ---- one file

module _ {T : Type 0} (which : Input) (limit : ℕ) (from : List ℕ → Result T Refusal) (told : Option Held) (failed : List ℕ → Type 0) (name : List ℕ) where
  -- its bytes were read
  pub reads_given : (v : Vec ℕ Global) (r : Result T Refusal) → IsRead told (failed name) which name limit (Ok v) → Gives r (from v.items) →
      ComesTo told failed (file_reading which name (within which limit from)) r
  reads_given v r read gives = elim gives [
    | inl e ↦ inl e
    | inr e ↦ inr (inr (v.items, read.0, e ∙ sym (cond-false _ _ _ read.1)))
  ]

  long : (e : Refusal) → (bytes : List ℕ) × IfSome told (λ h. h name ≡ Some bytes) × (nat_lt limit (length bytes) ≡ true) × (e ≡ refusal.TooLong which) →
      ComesTo told failed (file_reading which name (within which limit from)) (Err e)
  long e l = inr (inr (l.0, l.1, ap Err l.3 ∙ sym (cond-true _ _ _ l.2)))

  pub failed_read : (e : Refusal) → IsRead told (failed name) which name limit (Err e) → ComesTo told failed (file_reading which name (within which limit from)) (Err e)
  failed_read refusal.Usage read = long refusal.Usage read
  failed_read (refusal.ReadFault other) read = inr (inl (ap (λ w. Err (refusal.ReadFault w)) read.0, read.1))
  failed_read (refusal.TooLong other) read = long (refusal.TooLong other) read
  failed_read (refusal.Machine f) read = long (refusal.Machine f) read
  failed_read (refusal.Image n) read = long (refusal.Image n) read
  failed_read (refusal.Schedule fault) read = long (refusal.Schedule fault) read
  failed_read refusal.WriteLog read = long refusal.WriteLog read
  failed_read refusal.NoMemory read = inl refl

  -- or they weren't
  pub reads_failed : (r : Result T Refusal) (e : Refusal) → IsErrAnd r (λ f. f ≡ e) → IsRead told (failed name) which name limit (Err e) →
      ComesTo told failed (file_reading which name (within which limit from)) r
  reads_failed r e is read =
      subst (ComesTo told failed (file_reading which name (within which limit from))) (sym (err_is r e is)) (failed_read e read)

-- all of a file's bytes are found
pub bytes_read : (which : Input) (limit : ℕ) (told : Option Held) (failed : List ℕ → Type 0) (name : List ℕ) (r : Result (Vec ℕ Global) Refusal) →
    IsRead told (failed name) which name limit r → ComesTo told failed (file_reading which name (within which limit all_bytes)) (bytes_found r)
bytes_read which limit told failed name (Ok v) read = reads_given which limit all_bytes told failed name v (Ok v.items) read (inr refl)
bytes_read which limit told failed name (Err e) read = failed_read which limit all_bytes told failed name e read

-- ---- one reading after another

module _ {T U : Type 0} (told : Option Held) (failed : List ℕ → Type 0) (next : T → Reading U) where
  -- nothing is found, and so nothing further
  pub stops_with : (w : Reading T) (e : Refusal) → ComesTo told failed w (Err e) → ComesTo told failed (with_found next w) (Err e)
  stops_with w e (inl ran_out) = inl (err_same ran_out)
  stops_with (Found r) e (inr is) = inr (subst (λ x. Finds told failed (with_found next (Found x)) (Err e)) is refl)
  stops_with (Read which name more) e (inr (inl fault)) = inr (inl (err_same fault.0, fault.1))
  stops_with (Read which name more) e (inr (inr found)) = elim (stops_with (more found.0) e (inr found.2)) [
    | inl ran_out ↦ inl ran_out
    | inr finds ↦ inr (inr (found.0, found.1, finds))
  ]

  pub stops : (w : Reading T) (e : Refusal) (r : Result U Refusal) → IsErrAnd r (λ f. f ≡ e) → ComesTo told failed w (Err e) → ComesTo told failed (with_found next w) r
  stops w e r is comes = subst (ComesTo told failed (with_found next w)) (sym (err_is r e is)) (stops_with w e comes)

  -- something is found, and the reading goes on with it
  pub goes_on : (w : Reading T) (x : T) (r : Result U Refusal) → ComesTo told failed w (Ok x) → ComesTo told failed (next x) r →
      ComesTo told failed (with_found next w) r
  goes_on w x r (inl ran_out) then = absurd (ok_err ran_out)
  goes_on (Found y) x r (inr is) then = subst (λ y. ComesTo told failed (with_found next (Found y)) r) is then
  goes_on (Read which name more) x r (inr (inl fault)) then = absurd (ok_err fault.0)
  goes_on (Read which name more) x r (inr (inr found)) then = elim (goes_on (more found.0) x r (inr found.2) then) [
    | inl ran_out ↦ inl ran_out
    | inr finds ↦ inr (inr (found.0, found.1, finds))
  ]

-- the same where reading has failed in a longer time
pub weaker : {T : Type 0} (told : Option Held) (P Q : List ℕ → Type 0) → ((n : List ℕ) → P n → Q n) → (w : Reading T) (r : Result T Refusal) →
    ComesTo told P w r → ComesTo told Q w r
weaker told P Q f w r (inl ran_out) = inl ran_out
weaker told P Q f (Found x) r (inr is) = inr is
weaker told P Q f (Read which name more) r (inr (inl fault)) = inr (inl (fault.0, f name fault.1))
weaker told P Q f (Read which name more) r (inr (inr found)) = elim (weaker told P Q f (more found.0) r (inr found.2)) [
  | inl ran_out ↦ inl ran_out
  | inr finds ↦ inr (inr (found.0, found.1, finds))
]

-- ---- over files that tell what they hold

all_tail : (P : List ℕ → Type 0) (x : List ℕ) (xs : List (List ℕ)) → All P (x ∷ xs) → All P xs
all_tail P x xs all k d h = all (suc k) d (omega (arith, h))

-- where no file that is read has failed, what is found is found in what is held
pub follows : {T : Type 0} (held : Held) (failed : List ℕ → Type 0) (w : Reading T) (o : Result T Refusal) → found_on held w ≡ Some o →
    All (λ n. failed n → ⊥) (names_read held w) → (a : Result T Refusal) → Finds (Some held) failed w a → a ≡ o
follows held failed (Found x) o e none a finds = finds ∙ some_same e
follows held failed (Read which name next) o e none a (inl fault) = absurd (none 0 [] (omega arith) fault.1)
follows held failed (Read which name next) o e none a (inr found) =
    let rest = all_tail (λ n. failed n → ⊥) name (names_after (λ bytes. names_read held (next bytes)) (held name)) none in
    follows held failed (next found.0) o (ap (option_and_then (λ bytes. found_on held (next bytes))) (sym found.1) ∙ e)
    (subst (λ b. All (λ n. failed n → ⊥) (names_after (λ bytes. names_read held (next bytes)) b)) found.1 rest) a found.2

-- what is found, and isn't refused, is found in what is held
pub is_found : {T : Type 0} (held : Held) (failed : List ℕ → Type 0) (w : Reading T) (x : T) → ComesTo (Some held) failed w (Ok x) → found_on held w ≡ Some (Ok x)
is_found held failed w x (inl ran_out) = absurd (ok_err ran_out)
is_found held failed (Found y) x (inr is) = ap Some (sym is)
is_found held failed (Read which name more) x (inr (inl fault)) = absurd (ok_err fault.0)
is_found held failed (Read which name more) x (inr (inr found)) =
    ap (option_and_then (λ bytes. found_on held (more bytes))) found.1 ∙ is_found held failed (more found.0) x (inr found.2)

-- ---- back from what was found

ok_same : {T : Type 0} {x y : T} → ◌≡◌ {A = Result T Refusal} (Ok x) (Ok y) → x ≡ y
ok_same e = cc

-- a reading that went on has found what it went on with, and then the rest
pub parts_found : {T U : Type 0} (told : Option Held) (failed : List ℕ → Type 0) (next : T → Reading U) (w : Reading T) (y : U)
    → Finds told failed (with_found next w) (Ok y)
    → (x : T) × Finds told failed w (Ok x) × Finds told failed (next x) (Ok y)
parts_found told failed next (Found (Ok x)) y h = (x, refl, h)
parts_found told failed next (Found (Err e)) y h = absurd (ok_err h)
parts_found told failed next (Read which name more) y (inl fault) = absurd (ok_err fault.0)
parts_found told failed next (Read which name more) y (inr found) =
    let rest = parts_found told failed next (more found.0) y found.2 in
    (rest.0, inr (found.0, found.1, rest.1), rest.2)

not_long : {T : Type 0} (x : T) (e : Refusal) (r : Result T Refusal) (b : Bool) → Ok x ≡ cond b (Err e) r → r ≡ Ok x
not_long x e r true h = absurd (ok_err h)
not_long x e r false h = sym h

-- what one file was found to be is what its bytes are
pub file_found : {T : Type 0} (which : Input) (name : List ℕ) (limit : ℕ) (from : List ℕ → Result T Refusal) (told : Option Held)
    (failed : List ℕ → Type 0) (x : T) → Finds told failed (file_reading which name (within which limit from)) (Ok x)
    → (bytes : List ℕ) × (from bytes ≡ Ok x)
file_found which name limit from told failed x (inl fault) = absurd (ok_err fault.0)
file_found which name limit from told failed x (inr found) =
    (found.0, not_long x (refusal.TooLong which) (from found.0) (nat_lt limit (length found.0)) found.2)
