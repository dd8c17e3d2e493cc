-- The text of an event that fits is read as that event.
use Rattle.std.proofs.Common.{◌≡◌, ℕ, suc, ◌+◌, ◌*◌, ◌-◌, ◌/◌, ◌%◌, ◌<◌, ◌≤◌, ◌^◌, Bool, true, false, List, [], ◌∷◌, ◌++◌, length, Some, None, refl, ap, ◌∙◌, arith}
use Rattle.std.specs.Prelude.{◌&&◌, if◌then◌else◌, not, cond, take, drop, codes, decimal, bytes_eq, nat_lt, nat_le}
use Rattle.std.specs.List.{before_first, after_first, position_or_len}
use Rattle.std.proofs.lemmas.Bool.Decides.{nat_tests}
use Rattle.std.proofs.lemmas.Fmt.{decimal_by_steps, length-decimal-le}
use Rattle.std.proofs.lemmas.List.{append_assoc}
use Rattle.std.proofs.lemmas.List.Sums.{fold-append}
use Rattle.std.proofs.lemmas.Slice.Eq.{bytes_eq-Decides}
use Rattle.tss_base.specs.declared.operand.OpName.{OpName}
use Rattle.tss_base.specs.declared.event.Event.{Event}
use Rattle.tss_base.specs.declared.event.Event.TheVariants.{Main, Take, Decode, Ack, Open, Use, Ready, Link, Start, Exec, Finish, Release, Bye, Idle, Nack, Retire, Copy, Gone}
use Rattle.tss_base.specs.Event.{fits, name_fits, worker_fits}
use Rattle.tss_protocol.specs.Text.{name_text, event_text, number_in, name_in, is_full_stop, event_if_spelled, event_of_text}

-- ---- numbers

-- the digits of a number are read as that number
pub number_in-decimal : (n : ℕ) → n < 2 ^ 64 → number_in (decimal n) ≡ n
number_in-decimal n h = decimal_by_steps (λ m ds. number_in ds ≡ m) one more n h
  where
    one : (m : ℕ) → m < 10 → number_in ((48 + m) ∷ []) ≡ m
    one m l = omega arith

    more : (m : ℕ) (ds : List ℕ) → 10 ≤ m → number_in ds ≡ m / 10 → number_in (ds ++ (48 + m % 10) ∷ []) ≡ m
    more m ds l e =
        fold-append (λ n c. 10 * n + (c - 48)) 0 ds ((48 + m % 10) ∷ []) ∙ (let r : 10 * number_in ds + (48 + m % 10 - 48) ≡ m = omega (arith, e) in r)

-- no digit is a full stop
abbrev pub HasNoStop : List ℕ → Type 0
HasNoStop [] = Unit {0}
HasNoStop (c ∷ cs) = (is_full_stop c ≡ false) × HasNoStop cs

no_stop-append : (xs : List ℕ) (c : ℕ) → HasNoStop xs → is_full_stop c ≡ false → HasNoStop (xs ++ c ∷ [])
no_stop-append [] c h e = (e, tt)
no_stop-append (x ∷ xs) c h e = (h.0, no_stop-append xs c h.1 e)

no_stop_digit : (m : ℕ) → is_full_stop (48 + m) ≡ false
no_stop_digit m = grind (arith, nat_tests)

no_stop-decimal : (n : ℕ) → n < 2 ^ 64 → HasNoStop (decimal n)
no_stop-decimal n h = decimal_by_steps (λ m ds. HasNoStop ds) (λ m l. (no_stop_digit m, tt)) (λ m ds l e. no_stop-append ds (48 + m % 10) e (no_stop_digit (m % 10))) n h

-- what stands before and after the first full stop
before_stop : (xs ys : List ℕ) → HasNoStop xs → before_first is_full_stop (xs ++ 46 ∷ ys) ≡ xs
before_stop [] ys h = refl
before_stop (x ∷ xs) ys h =
    let n = position_or_len is_full_stop (xs ++ 46 ∷ ys) in
    let one : 1 + n ≡ suc n = omega arith in
    ap (λ b. take (cond (not b) (1 + n) 0) (x ∷ (xs ++ 46 ∷ ys))) h.0
    ∙ ap (λ k. take k (x ∷ (xs ++ 46 ∷ ys))) one
    ∙ ap (λ zs. x ∷ zs) (before_stop xs ys h.1)

after_stop : (xs ys : List ℕ) → HasNoStop xs → after_first is_full_stop (xs ++ 46 ∷ ys) ≡ ys
after_stop [] ys h = refl
after_stop (x ∷ xs) ys h =
    let n = position_or_len is_full_stop (xs ++ 46 ∷ ys) in
    let one : 1 + n + 1 ≡ suc (n + 1) = omega arith in
    ap (λ b. drop (cond (not b) (1 + n) 0 + 1) (x ∷ (xs ++ 46 ∷ ys))) h.0
    ∙ ap (λ k. drop k (x ∷ (xs ++ 46 ∷ ys))) one
    ∙ after_stop xs ys h.1

-- ---- what fits

both_true : (a b : Bool) → (a && b) ≡ true → (a ≡ true) × (b ≡ true)
both_true true b e = (refl, e)
both_true false b e = absurd (cc)

at_most : (n m : ℕ) → nat_le n m ≡ true → n ≤ m
at_most n m e = grind (arith, nat_tests)

below : (n m : ℕ) → nat_lt n m ≡ true → n < m
below n m e = grind (arith, nat_tests)

pub task_fits : (o : OpName) → name_fits o ≡ true → o.task ≤ 65536
task_fits o e =
    at_most o.task 65536 (both_true (nat_le 1 o.task) (nat_le o.task 65536) (both_true (nat_le 1 o.task && nat_le o.task 65536) (nat_lt o.place 7) e).0).1

pub place_fits : (o : OpName) → name_fits o ≡ true → o.place < 7
place_fits o e =
    below o.place 7 (both_true (nat_le 1 o.task && nat_le o.task 65536) (nat_lt o.place 7) e).1

pub unit_below : (n : ℕ) → worker_fits n ≡ true → n < 64
unit_below n e = below n 64 e

-- how many digits there are
pub task_digits : (o : OpName) → name_fits o ≡ true → length (decimal o.task) ≤ 5
task_digits o e = let t = task_fits o e in length-decimal-le 5 o.task (omega arith) (omega (arith, t)) (omega (arith, t))

pub place_digits : (o : OpName) → name_fits o ≡ true → length (decimal o.place) ≤ 1
place_digits o e = let p = place_fits o e in length-decimal-le 1 o.place (omega arith) (omega (arith, p)) (omega (arith, p))

pub unit_digits : (n : ℕ) → worker_fits n ≡ true → length (decimal n) ≤ 2
unit_digits n e = let u = unit_below n e in length-decimal-le 2 n (omega arith) (omega (arith, u)) (omega (arith, u))

-- ---- events

name_in-text : (o : OpName) → name_fits o ≡ true → name_in (name_text o) ≡ o
name_in-text o e =
    let t = task_fits o e in
    let p = place_fits o e in
    let no_stop = no_stop-decimal o.task (omega (arith, t)) in
    let one = append_assoc (decimal o.task) (46 ∷ []) (decimal o.place) in
    λ i. record {
      task = (ap (λ l. number_in (before_first is_full_stop l)) one
          ∙ ap number_in (before_stop (decimal o.task) (decimal o.place) no_stop)
          ∙ number_in-decimal o.task (omega (arith, t))) i;
      place = (ap (λ l. number_in (after_first is_full_stop l)) one
          ∙ ap number_in (after_stop (decimal o.task) (decimal o.place) no_stop)
          ∙ number_in-decimal o.place (omega (arith, p))) i;
    }

number_in-text : (n : ℕ) → worker_fits n ≡ true → number_in (decimal n) ≡ n
number_in-text n e = let u = unit_below n e in number_in-decimal n (omega (arith, u))

pub if_spelled : (line : List ℕ) (e : Event) (b : Bool) → fits e ≡ true → bytes_eq (event_text e) line ≡ b →
    event_if_spelled line (Some e) ≡ (if b then Some e else None)
if_spelled line e b f same = λ i. if f i && same i then Some e else None

spelled : (e : Event) → fits e ≡ true → event_if_spelled (event_text e) (Some e) ≡ Some e
spelled e f = if_spelled (event_text e) e true f ((bytes_eq-Decides (event_text e) (event_text e)).1 refl)

-- the text of an event is read as the event
pub event_of_text-event_text : (e : Event) → fits e ≡ true → event_of_text (event_text e) ≡ Some e
unfolding event_of_text event_text
event_of_text-event_text Main f = refl
event_of_text-event_text Take f = refl
event_of_text-event_text (Decode o) f =
    ap (λ q. event_if_spelled (codes "decode " ++ name_text o) (Some (Decode q))) (name_in-text o f) ∙ spelled (Decode o) f
event_of_text-event_text (Ack o) f =
    ap (λ q. event_if_spelled (codes "ack " ++ name_text o) (Some (Ack q))) (name_in-text o f) ∙ spelled (Ack o) f
event_of_text-event_text (Open o) f =
    ap (λ q. event_if_spelled (codes "open " ++ name_text o) (Some (Open q))) (name_in-text o f) ∙ spelled (Open o) f
event_of_text-event_text (Use o) f =
    ap (λ q. event_if_spelled (codes "use " ++ name_text o) (Some (Use q))) (name_in-text o f) ∙ spelled (Use o) f
event_of_text-event_text (Ready o) f =
    ap (λ q. event_if_spelled (codes "ready " ++ name_text o) (Some (Ready q))) (name_in-text o f) ∙ spelled (Ready o) f
event_of_text-event_text (Link o) f =
    ap (λ q. event_if_spelled (codes "link " ++ name_text o) (Some (Link q))) (name_in-text o f) ∙ spelled (Link o) f
event_of_text-event_text (Start n) f =
    ap (λ m. event_if_spelled (codes "start " ++ decimal n) (Some (Start m))) (number_in-text n f) ∙ spelled (Start n) f
event_of_text-event_text (Exec n) f =
    ap (λ m. event_if_spelled (codes "exec " ++ decimal n) (Some (Exec m))) (number_in-text n f) ∙ spelled (Exec n) f
event_of_text-event_text (Finish n) f =
    ap (λ m. event_if_spelled (codes "finish " ++ decimal n) (Some (Finish m))) (number_in-text n f) ∙ spelled (Finish n) f
event_of_text-event_text (Release o) f =
    ap (λ q. event_if_spelled (codes "release " ++ name_text o) (Some (Release q))) (name_in-text o f) ∙ spelled (Release o) f
event_of_text-event_text (Bye o) f =
    ap (λ q. event_if_spelled (codes "bye " ++ name_text o) (Some (Bye q))) (name_in-text o f) ∙ spelled (Bye o) f
event_of_text-event_text (Idle o) f =
    ap (λ q. event_if_spelled (codes "idle " ++ name_text o) (Some (Idle q))) (name_in-text o f) ∙ spelled (Idle o) f
event_of_text-event_text (Nack o) f =
    ap (λ q. event_if_spelled (codes "nack " ++ name_text o) (Some (Nack q))) (name_in-text o f) ∙ spelled (Nack o) f
event_of_text-event_text (Retire o) f =
    ap (λ q. event_if_spelled (codes "retire " ++ name_text o) (Some (Retire q))) (name_in-text o f) ∙ spelled (Retire o) f
event_of_text-event_text (Copy n) f =
    ap (λ m. event_if_spelled (codes "copy " ++ decimal n) (Some (Copy m))) (number_in-text n f) ∙ spelled (Copy n) f
event_of_text-event_text (Gone o) f =
    ap (λ q. event_if_spelled (codes "gone " ++ name_text o) (Some (Gone q))) (name_in-text o f) ∙ spelled (Gone o) f
