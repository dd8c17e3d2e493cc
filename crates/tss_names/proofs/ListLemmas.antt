-- Who uses an object in a list of tasks whose numbers rise: the last that writes it, and those that read it after that.
use Rattle.std.proofs.Common.{◌≡◌, ℕ, zero, suc, ◌<◌, Bool, true, false, List, [], ◌∷◌, Some, refl, sym, ap, ◌∙◌, subst}
use Rattle.std.proofs.Common.{true≢false}
use Rattle.std.specs.Prelude.{◌||◌, cond, filter, flat_map, fold, slice_get}
use Rattle.std.specs.List.{list_all, list_any}
use Rattle.std.proofs.lemmas.Bool.{and_parts, or_left, or_right}
use Rattle.std.proofs.lemmas.List.Folds.{list_all-append}
use Rattle.std.proofs.lemmas.Option.{none-some, same_Some}
use Rattle.tss_base.specs.declared.range.Range.{Range}
use Rattle.tss_base.specs.declared.operand.Task.{Task}
use Rattle.tss_protocol.specs.Needs.{Users, has_written, has_read, users_with}

-- ---- lists

-- a list passes a test where one of its elements does
pub any_at : {X : Type 0} (test : X → Bool) (xs : List X) (k : ℕ) (x : X) → slice_get xs k ≡ Some x → test x ≡ true
    → list_any test xs ≡ true
any_at test [] k x at e = absurd (none-some x at)
any_at test (y ∷ xs) zero x at e = or_left (test y) (list_any test xs) (ap test (same_Some y x at) ∙ e)
any_at test (y ∷ xs) (suc k) x at e = or_right (test y) (list_any test xs) (any_at test xs k x at e)

-- and only there
pub from_any : {X : Type 0} (test : X → Bool) (xs : List X) → list_any test xs ≡ true
    → (k : ℕ) × (x : X) × (slice_get xs k ≡ Some x) × (test x ≡ true)
from_any test [] e = absurd (true≢false (sym e))
from_any {X} test (y ∷ xs) e = by (test y) refl e (from_any test xs)
  where
    by : (b : Bool) → test y ≡ b → (b || list_any test xs) ≡ true
        → (list_any test xs ≡ true → (k : ℕ) × (x : X) × (slice_get xs k ≡ Some x) × (test x ≡ true))
        → (k : ℕ) × (x : X) × (slice_get (y ∷ xs) k ≡ Some x) × (test x ≡ true)
    by true here e rest = (0, y, refl, here)
    by false here e rest = let f = rest e in (suc f.0, f.1, f.2, f.3)

-- where all that a list's elements give pass a test, so does what one of them gives
pub all_given : {X Y : Type 0} (test : Y → Bool) (f : X → List Y) (xs : List X) → list_all test (flat_map f xs) ≡ true
    → (k : ℕ) (x : X) → slice_get xs k ≡ Some x → list_all test (f x) ≡ true
all_given test f [] e k x at = absurd (none-some x at)
all_given test f (y ∷ xs) e zero x at =
    ap (λ x. list_all test (f x)) (sym (same_Some y x at))
    ∙ (and_parts (list_all test (f y)) (list_all test (flat_map f xs))
    (sym (list_all-append test (f y) (flat_map f xs)) ∙ e)).0
all_given test f (y ∷ xs) e (suc k) x at =
    all_given test f xs (and_parts (list_all test (f y)) (list_all test (flat_map f xs))
    (sym (list_all-append test (f y) (flat_map f xs)) ∙ e)).1 k x at

-- an element that passes a test stays, where those that fail it are left out
pub in_filtered : {X : Type 0} (test : X → Bool) (xs : List X) (k : ℕ) (x : X) → slice_get xs k ≡ Some x
    → test x ≡ true → (j : ℕ) × (slice_get (filter test xs) j ≡ Some x)
in_filtered test [] k x at e = absurd (none-some x at)
in_filtered {X} test (y ∷ xs) zero x at e =
    (0, ap (λ b. slice_get (cond b (y ∷ filter test xs) (filter test xs)) 0) (ap test (same_Some y x at) ∙ e) ∙ at)
in_filtered {X} test (y ∷ xs) (suc k) x at e = by (test y) (in_filtered test xs k x at e)
  where
    by : (b : Bool) → ((j : ℕ) × (slice_get (filter test xs) j ≡ Some x))
        → (j : ℕ) × (slice_get (cond b (y ∷ filter test xs) (filter test xs)) j ≡ Some x)
    by true rest = (suc rest.0, rest.1)
    by false rest = rest

-- and no other
pub from_filtered : {X : Type 0} (test : X → Bool) (xs : List X) (k : ℕ) (x : X)
    → slice_get (filter test xs) k ≡ Some x → ((j : ℕ) × (slice_get xs j ≡ Some x)) × (test x ≡ true)
from_filtered test [] k x at = absurd (none-some x at)
from_filtered {X} test (y ∷ xs) k x at = by (test y) refl k at (from_filtered test xs)
  where
    by : (b : Bool) → test y ≡ b → (k : ℕ) → slice_get (cond b (y ∷ filter test xs) (filter test xs)) k ≡ Some x
        → ((k : ℕ) (x : X) → slice_get (filter test xs) k ≡ Some x
        → ((j : ℕ) × (slice_get xs j ≡ Some x)) × (test x ≡ true))
        → ((j : ℕ) × (slice_get (y ∷ xs) j ≡ Some x)) × (test x ≡ true)
    by true here zero at rest = ((0, at), ap test (sym (same_Some y x at)) ∙ here)
    by true here (suc k) at rest = let f = rest k x at in ((suc f.0.0, f.0.1), f.1)
    by false here k at rest = let f = rest k x at in ((suc f.0.0, f.0.1), f.1)

-- ---- tasks in order

-- a task comes before all of a list
abbrev ComesBefore : Task → List Task → Type 0
ComesBefore t ts = (k : ℕ) (u : Task) → slice_get ts k ≡ Some u → t.number < u.number

-- their numbers rise
abbrev pub AreRising : List Task → Type 0
AreRising [] = Unit {0}
AreRising (t ∷ ts) = ComesBefore t ts × AreRising ts

-- also where some are left out
pub AreRising-filter : (test : Task → Bool) (ts : List Task) → AreRising ts → AreRising (filter test ts)
AreRising-filter test [] rise = tt
AreRising-filter test (t ∷ ts) rise = by (test t) (AreRising-filter test ts rise.1)
  where
    by : (b : Bool) → AreRising (filter test ts) → AreRising (cond b (t ∷ filter test ts) (filter test ts))
    by true rest = ((λ k u at. let f = from_filtered test ts k u at in rise.0 f.0.0 u f.0.1), rest)
    by false rest = rest

-- ---- the users of an object

module _ (x : Range) where
  -- after the tasks of a list, where these used it before
  abbrev users_from : Users → List Task → Users
  users_from u ts = fold (λ u t. users_with u t.number (has_written x t) (has_read x t)) u ts

  -- with one more
  abbrev users_more : Users → Task → Users
  users_more u t = users_with u t.number (has_written x t) (has_read x t)

  -- no task of a list writes it
  abbrev NoneWrites : List Task → Type 0
  NoneWrites ts = (k : ℕ) (t : Task) → slice_get ts k ≡ Some t → has_written x t ≡ false

  -- none of those that come after a task
  abbrev pub NoneWritesAfter : Task → List Task → Type 0
  NoneWritesAfter s ts = (k : ℕ) (t : Task) → slice_get ts k ≡ Some t → s.number < t.number → has_written x t ≡ false

  none_behind : (s t : Task) (ts : List Task) → t ≡ s → ComesBefore t ts → NoneWritesAfter s (t ∷ ts) → NoneWrites ts
  none_behind s t ts same before none k u at =
      none (suc k) u at (subst (λ (t : Task). t.number < u.number) same (before k u at))

  reader_writes : (u : Users) (n : ℕ) (read : Bool) → (users_with u n false read).writer ≡ u.writer
  reader_writes u n true = refl
  reader_writes u n false = refl

  -- the last writer stays where none writes
  writer_stays : (u : Users) (ts : List Task) → NoneWrites ts → (users_from u ts).writer ≡ u.writer
  writer_stays u [] none = refl
  writer_stays u (t ∷ ts) none =
      writer_stays (users_more u t) ts (λ k v at. none (suc k) v at)
      ∙ ap (λ w. (users_with u t.number w (has_read x t)).writer) (none 0 t refl)
      ∙ reader_writes u t.number (has_read x t)

  -- so it is one after which none writes
  pub last_writer : (u : Users) (ts : List Task) (k : ℕ) (s : Task) → slice_get ts k ≡ Some s → AreRising ts
      → has_written x s ≡ true → NoneWritesAfter s ts → (users_from u ts).writer ≡ Some (s.number)
  last_writer u [] k s at rise wrote none = absurd (none-some s at)
  last_writer u (t ∷ ts) zero s at rise wrote none =
      let same = same_Some t s at in
      writer_stays (users_more u t) ts (none_behind s t ts same rise.0 none)
      ∙ ap (λ w. (users_with u t.number w (has_read x t)).writer) (ap (has_written x) same ∙ wrote)
      ∙ ap (λ (t : Task). Some (t.number)) same
  last_writer u (t ∷ ts) (suc k) s at rise wrote none =
      last_writer (users_more u t) ts k s at rise.1 wrote (λ j v there. none (suc j) v there)

  module _ (test : ℕ → Bool) where
    -- all readers since the last writer pass a test
    abbrev ReadersPass : Users → Type 0
    ReadersPass u = list_all test u.readers ≡ true

    one_fewer : (u : Users) (n : ℕ) (read : Bool) → ReadersPass (users_with u n false read) → ReadersPass u
    one_fewer u n true e =
        (and_parts (list_all test u.readers) (list_all test (n ∷ []))
        (sym (list_all-append test u.readers (n ∷ [])) ∙ e)).0
    one_fewer u n false e = e

    -- those before pass it, where none writes
    readers_stay : (u : Users) (ts : List Task) → NoneWrites ts → ReadersPass (users_from u ts) → ReadersPass u
    readers_stay u [] none e = e
    readers_stay u (t ∷ ts) none e =
        one_fewer u t.number (has_read x t)
        (subst (λ w. ReadersPass (users_with u t.number w (has_read x t))) (none 0 t refl)
        (readers_stay (users_more u t) ts (λ k v at. none (suc k) v at) e))

    -- so does one that only reads it, and after which none writes
    pub last_reader : (u : Users) (ts : List Task) (k : ℕ) (s : Task) → slice_get ts k ≡ Some s → AreRising ts
        → has_written x s ≡ false → has_read x s ≡ true → NoneWritesAfter s ts → ReadersPass (users_from u ts)
        → test s.number ≡ true
    last_reader u [] k s at rise unwritten read none e = absurd (none-some s at)
    last_reader u (t ∷ ts) (suc k) s at rise unwritten read none e =
        last_reader (users_more u t) ts k s at rise.1 unwritten read (λ j v there. none (suc j) v there) e
    last_reader u (t ∷ ts) zero s at rise unwritten read none e =
        let same = same_Some t s at in
        let rest = readers_stay (users_more u t) ts (none_behind s t ts same rise.0 none) e in
        let mine : ReadersPass (users_with u t.number false true) =
        subst (λ r. ReadersPass (users_with u t.number false r)) (ap (has_read x) same ∙ read)
        (subst (λ w. ReadersPass (users_with u t.number w (has_read x t)))
        (ap (has_written x) same ∙ unwritten) rest) in
        let last = (and_parts (list_all test u.readers) (list_all test (t.number ∷ []))
        (sym (list_all-append test u.readers (t.number ∷ [])) ∙ mine)).1 in
        ap (λ (t : Task). test t.number) (sym same) ∙ (and_parts (test t.number) true last).0
