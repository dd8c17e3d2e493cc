-- Numbers as 32 bits hold them, while digits are read.
use Rattle.std.proofs.Common.{◌≡◌, ℕ, suc, ◌+◌, ◌*◌, ◌-◌, ◌<◌, ◌^◌, min, Bool, true, false, List, [], ◌∷◌, length, get_or, drop, Option, Some, None, refl, sym, ap, ◌∙◌, arith, option_map}
use Rattle.std.specs.Prelude.{fold, nat_lt, nat_le, ◌&&◌, if◌then◌else◌, bytes_eq}
use Rattle.std.proofs.Math.Seq.{drop-cons}
use Rattle.std.proofs.lemmas.Bool.Decides.{nat_tests}
use Rattle.tss_base.specs.declared.operand.OpName.{OpName}
use Rattle.tss_base.specs.declared.event.Event.{Event}
use Rattle.tss_base.specs.declared.event.Event.TheVariants.{Main, Take, Decode, Ack, Open, Use, Ready, Link, Start, Exec, Finish, Release, Bye, Idle, Nack, Retire, Copy, Gone}
use Rattle.tss_base.specs.Event.{fits, name_fits, worker_fits}
use Rattle.std.specs.List.{before_first, after_first}
use Rattle.std.proofs.lemmas.Option.{none-some, same_Some}
use Rattle.tss_protocol.specs.Text.{is_space, event_in, event_if_spelled, event_text, event_of_text}
use Rattle.tss_events.specs.Reading.{clipped, clipped_name, clipped_event}
use Rattle.tss_events.proofs.EventTexts.{task_fits, place_fits, unit_below, if_spelled}

-- one digit more
abbrev pub with_digit : ℕ → ℕ → ℕ
with_digit n c = 10 * n + (c - 48)

-- the number that digits write after those of n
abbrev pub number_from : ℕ → List ℕ → ℕ
number_from n digits = fold with_digit n digits

-- a digit more of a number that is clipped
pub clipped_step : (n c : ℕ) → clipped (with_digit (clipped n) c) ≡ clipped (with_digit n c)
clipped_step n c = omega arith

-- as the code computes it
pub clipped_sum : (n d : ℕ) → min (min (n * 10) (2 ^ 32 - 1) + d) (2 ^ 32 - 1) ≡ clipped (10 * n + d)
clipped_sum n d = omega arith

-- what is left of the digits doesn't tell a number from its clipped one
pub clipped_from : (digits : List ℕ) (n : ℕ) → clipped (number_from (clipped n) digits) ≡ clipped (number_from n digits)
clipped_from [] n = omega arith
clipped_from (c ∷ digits) n =
    sym (clipped_from digits (with_digit (clipped n) c))
    ∙ ap (λ m. clipped (number_from m digits)) (clipped_step n c)
    ∙ clipped_from digits (with_digit n c)

-- the next digit
pub number_next : (n : ℕ) (digits : List ℕ) (i d : ℕ) → i < length digits →
    number_from n (drop i digits) ≡ number_from (with_digit n (get_or digits i d)) (drop (i + 1) digits)
number_next n digits i d h =
    let next : suc i ≡ i + 1 = omega arith in
    ap (number_from n) (drop-cons digits i d h)
    ∙ ap (λ k. number_from (with_digit n (get_or digits i d)) (drop k digits)) next

-- ---- fitting

clipped_below : (n m : ℕ) → m < 2 ^ 32 → nat_lt (clipped n) m ≡ nat_lt n m
clipped_below n m h = grind (arith, nat_tests)

clipped_above : (n m : ℕ) → m < 2 ^ 32 - 1 → nat_le m (clipped n) ≡ nat_le m n
clipped_above n m h = grind (arith, nat_tests)

clipped_at_most : (n m : ℕ) → m < 2 ^ 32 - 1 → nat_le (clipped n) m ≡ nat_le n m
clipped_at_most n m h = grind (arith, nat_tests)

both : (a b c d : Bool) → a ≡ b → c ≡ d → (a && c) ≡ (b && d)
both a b c d e f = λ i. e i && f i

fits-clipped_name : (o : OpName) → name_fits (clipped_name o) ≡ name_fits o
fits-clipped_name o = λ i.
    clipped_above o.task 1 (omega arith) i
    && clipped_at_most o.task 65536 (omega arith) i
    && clipped_below o.place 7 (omega arith) i

fits-clipped_unit : (n : ℕ) → worker_fits (clipped n) ≡ worker_fits n
fits-clipped_unit n = clipped_below n 64 (omega arith)

-- clipping doesn't tell what fits
pub fits-clipped : (e : Event) → fits (clipped_event e) ≡ fits e
fits-clipped Main = refl
fits-clipped Take = refl
fits-clipped (Decode o) = fits-clipped_name o
fits-clipped (Ack o) = fits-clipped_name o
fits-clipped (Open o) = fits-clipped_name o
fits-clipped (Use o) = fits-clipped_name o
fits-clipped (Ready o) = fits-clipped_name o
fits-clipped (Link o) = fits-clipped_name o
fits-clipped (Start n) = fits-clipped_unit n
fits-clipped (Exec n) = fits-clipped_unit n
fits-clipped (Finish n) = fits-clipped_unit n
fits-clipped (Release o) = fits-clipped_name o
fits-clipped (Bye o) = fits-clipped_name o
fits-clipped (Idle o) = fits-clipped_name o
fits-clipped (Nack o) = fits-clipped_name o
fits-clipped (Retire o) = fits-clipped_name o
fits-clipped (Copy n) = fits-clipped_unit n
fits-clipped (Gone o) = fits-clipped_name o

pub clipped_same : (n : ℕ) → n < 2 ^ 32 → clipped n ≡ n
clipped_same n h = omega (arith, h)

clipped_name_same : (o : OpName) → name_fits o ≡ true → clipped_name o ≡ o
clipped_name_same o f =
    let t = task_fits o f in
    let p = place_fits o f in
    λ i. record { task = clipped_same o.task (omega (arith, t)) i; place = clipped_same o.place (omega (arith, p)) i }

clipped_unit_same : (n : ℕ) → worker_fits n ≡ true → clipped n ≡ n
clipped_unit_same n f = let u = unit_below n f in clipped_same n (omega (arith, u))

-- what fits isn't clipped
pub clipped_event_same : (e : Event) → fits e ≡ true → clipped_event e ≡ e
clipped_event_same Main f = refl
clipped_event_same Take f = refl
clipped_event_same (Decode o) f = ap Decode (clipped_name_same o f)
clipped_event_same (Ack o) f = ap Ack (clipped_name_same o f)
clipped_event_same (Open o) f = ap Open (clipped_name_same o f)
clipped_event_same (Use o) f = ap Use (clipped_name_same o f)
clipped_event_same (Ready o) f = ap Ready (clipped_name_same o f)
clipped_event_same (Link o) f = ap Link (clipped_name_same o f)
clipped_event_same (Start n) f = ap Start (clipped_unit_same n f)
clipped_event_same (Exec n) f = ap Exec (clipped_unit_same n f)
clipped_event_same (Finish n) f = ap Finish (clipped_unit_same n f)
clipped_event_same (Release o) f = ap Release (clipped_name_same o f)
clipped_event_same (Bye o) f = ap Bye (clipped_name_same o f)
clipped_event_same (Idle o) f = ap Idle (clipped_name_same o f)
clipped_event_same (Nack o) f = ap Nack (clipped_name_same o f)
clipped_event_same (Retire o) f = ap Retire (clipped_name_same o f)
clipped_event_same (Copy n) f = ap Copy (clipped_unit_same n f)
clipped_event_same (Gone o) f = ap Gone (clipped_name_same o f)

-- ---- a line

-- no event would be written so
pub none_read : (line : List ℕ) (r : Option Event) → option_map clipped_event r ≡ None → event_if_spelled line r ≡ None
none_read line None e = refl
none_read line (Some x) e = absurd (none-some (clipped_event x) (sym e))

-- an event that doesn't fit
pub unfit_read : (line : List ℕ) (r : Option Event) (e : Event) → option_map clipped_event r ≡ Some e → fits e ≡ false →
    event_if_spelled line r ≡ None
unfit_read line None e is f = refl
unfit_read line (Some x) e is f =
    let unfit = sym (fits-clipped x) ∙ ap fits (same_Some (clipped_event x) e is) ∙ f in
    λ i. if unfit i && bytes_eq (event_text x) line then Some x else None

-- an event that fits
pub fit_read : (line : List ℕ) (r : Option Event) (e : Event) (b : Bool) → option_map clipped_event r ≡ Some e →
    fits e ≡ true → bytes_eq (event_text e) line ≡ b → event_if_spelled line r ≡ (if b then Some e else None)
fit_read line None e b is f same = absurd (none-some e is)
fit_read line (Some x) e b is f same =
    let fit = sym (fits-clipped x) ∙ ap fits (same_Some (clipped_event x) e is) ∙ f in
    let own = sym (clipped_event_same x fit) ∙ same_Some (clipped_event x) e is in
    ap (λ y. event_if_spelled line (Some y)) own ∙ if_spelled line e b f same

-- what a line is read as, by its parts
pub event_of_parts : (line kind rest : List ℕ) → kind ≡ before_first is_space line → rest ≡ after_first is_space line →
    event_of_text line ≡ event_if_spelled line (event_in kind rest)
unfolding event_of_text
event_of_parts line kind rest e f = λ i. event_if_spelled line (event_in (sym e i) (sym f i))
