-- Names in their order as a set: one more at the end, one less, and its keys.
use Rattle.std.proofs.Common.{◌≡◌, ◌≢◌, ◌⊎◌, ℕ, zero, suc, ◌+◌, ◌<◌, ◌≤◌, Bool, true, false, cond, List, [], ◌∷◌, ◌++◌, length, get_or, map, Option, Some, None, refl, sym, ap, subst, ◌∙◌, inl, inr, arith}
use Rattle.std.specs.Prelude.{T, ◌&&◌, slice_get}
use Rattle.std.specs.List.{remove}
use Rattle.std.proofs.lemmas.List.{append_assoc, append-nil, length-map}
use Rattle.std.proofs.lemmas.Option.{none-some, same_Some}
use Rattle.std.specs.declared.cmp.Ordering.{Ordering}
use Rattle.std.specs.declared.cmp.Ordering.TheVariants.{Less, Equal, Greater}
use Rattle.std.specs.Ordering.{nat_cmp, is_lt, eq_by_cmp, ordering_then}
use Rattle.std.specs.Cmp.{nat_cmp_total, tied_itself}
use Rattle.std.specs.FinMap as map
use Rattle.std.specs.FinMap.{get, insert, entries, keys, len-entries, len-empty, from_entries, from_entries_push, get-from_entries, get-remove, entries-insert}
use Rattle.std.specs.FinMap.Entries.{find, put, by_order, is_sorted, below_all}
use Rattle.tss_base.specs.declared.operand.OpName.{OpName}
use Rattle.tss_base.specs.Names.{name_cmp, name_cmp_total, name_cmp-IsAntisymmetric}
use Rattle.tss_maps.proofs.Keys.{name_order, same_key, other_key, apart_below, decide_key, less_from_below}
use Rattle.tss_maps.proofs.Changes.{same_by_get}
use Rattle.tss_protocol.specs.Names.{operand_name}
use Rattle.tss_base.specs.declared.operand.Operand.{Operand}
use Rattle.tss_protocol.specs.Gateway.{held_with, names_from}
use Rattle.tss_gateway.specs.declared.names.Held.{Held}
use Rattle.tss_gateway.specs.Names.{names_in, pairs_of, set_of, names_upto, AreLow}

abbrev pub IsRising : List OpName → Type 0
IsRising os = T (is_sorted name_cmp (pairs_of os))

abbrev IsBelow : OpName → List OpName → Type 0
IsBelow o os = T (below_all name_cmp o (pairs_of os))

both : (a b : Bool) → T a → T b → T (a && b)
both true b p q = q
both false b p q = p

first : (a b : Bool) → T (a && b) → T a
first true b p = tt
first false b p = p

second : (a b : Bool) → T (a && b) → T b
second true b p = p
second false b p = absurd p

less : (r : Ordering) → T (is_lt r) → r ≡ Less
less Less p = refl
less Equal p = absurd p
less Greater p = absurd p

lt : (r : Ordering) → r ≡ Less → T (is_lt r)
lt r e = subst (λ q. T (is_lt q)) (sym e) tt

-- ---- keys

no_length : {A : Type 0} (es : List A) → length es ≡ 0 → es ≡ []
no_length [] e = refl
no_length (x ∷ es) e = absurd (omega (arith, e))

put_below : (o : OpName) (os : List OpName) → IsBelow o os → put name_cmp o tt (pairs_of os) ≡ (o, tt) ∷ pairs_of os
put_below o [] b = refl
put_below o (p ∷ ps) b =
    let l = less (name_cmp o p) (first (is_lt (name_cmp o p)) (below_all name_cmp o (pairs_of ps)) b) in
    ap (λ r. by_order r ((o, tt) ∷ (p, tt) ∷ pairs_of ps) ((p, tt) ∷ pairs_of ps) ((p, tt) ∷ put name_cmp o tt (pairs_of ps))) l

-- the entries of a set of rising names
entries-set_of : (os : List OpName) → IsRising os → entries (set_of os) ≡ pairs_of os
entries-set_of [] s = no_length (entries (set_of [])) (sym (len-entries (set_of [])) ∙ len-empty name_cmp (Unit {0}))
entries-set_of (o ∷ os) s =
    entries-insert name_cmp_total (set_of os) o tt
    ∙ ap (put name_cmp o tt) (entries-set_of os (second (below_all name_cmp o (pairs_of os)) (is_sorted name_cmp (pairs_of os)) s))
    ∙ put_below o os (first (below_all name_cmp o (pairs_of os)) (is_sorted name_cmp (pairs_of os)) s)

names_of_pairs : (os : List OpName) → map (λ e. e.0) (pairs_of os) ≡ os
names_of_pairs [] = refl
names_of_pairs (o ∷ os) = ap (λ ps. o ∷ ps) (names_of_pairs os)

-- its keys are the names in their order
pub keys-set_of : (os : List OpName) → IsRising os → keys (set_of os) ≡ os
keys-set_of os s = ap (map (λ e. e.0)) (entries-set_of os s) ∙ names_of_pairs os

-- ---- one more at the end

-- each name is below o
abbrev pub AreBefore : List OpName → OpName → Type 0
AreBefore [] o = Unit {0}
AreBefore (p ∷ ps) o = (name_cmp p o ≡ Less) × AreBefore ps o

find_new : (os : List OpName) (o : OpName) → AreBefore os o → find name_cmp o (pairs_of os) ≡ None
find_new [] o b = refl
find_new (p ∷ ps) o b =
    let other : eq_by_cmp name_cmp o p ≡ false = other_key name_order o p (λ same. apart_below name_order p o b.0 (sym same)) in
    ap (λ t. cond t (Some tt) (find name_cmp o (pairs_of ps))) other ∙ find_new ps o b.1

pairs-push : (os : List OpName) (o : OpName) → pairs_of (os ++ o ∷ []) ≡ pairs_of os ++ (o, tt) ∷ []
pairs-push [] o = refl
pairs-push (p ∷ ps) o = ap (λ es. (p, tt) ∷ es) (pairs-push ps o)

set-push : (os : List OpName) (o : OpName) → AreBefore os o → set_of (os ++ o ∷ []) ≡ insert (set_of os) o tt
set-push os o b =
    ap from_entries (pairs-push os o)
    ∙ from_entries_push name_cmp_total name_cmp-IsAntisymmetric (pairs_of os) o tt (find_new os o b)

below-push : (p : OpName) (os : List OpName) (o : OpName) → IsBelow p os → name_cmp p o ≡ Less → IsBelow p (os ++ o ∷ [])
below-push p [] o b l = both (is_lt (name_cmp p o)) true (lt (name_cmp p o) l) tt
below-push p (q ∷ qs) o b l =
    both (is_lt (name_cmp p q)) (below_all name_cmp p (pairs_of (qs ++ o ∷ [])))
    (first (is_lt (name_cmp p q)) (below_all name_cmp p (pairs_of qs)) b)
    (below-push p qs o (second (is_lt (name_cmp p q)) (below_all name_cmp p (pairs_of qs)) b) l)

rising-push : (os : List OpName) (o : OpName) → IsRising os → AreBefore os o → IsRising (os ++ o ∷ [])
rising-push [] o s b = tt
rising-push (p ∷ ps) o s b =
    both (below_all name_cmp p (pairs_of (ps ++ o ∷ []))) (is_sorted name_cmp (pairs_of (ps ++ o ∷ [])))
    (below-push p ps o (first (below_all name_cmp p (pairs_of ps)) (is_sorted name_cmp (pairs_of ps)) s) b.0)
    (rising-push ps o (second (below_all name_cmp p (pairs_of ps)) (is_sorted name_cmp (pairs_of ps)) s) b.1)

before-push : (os : List OpName) (o q : OpName) → AreBefore os q → name_cmp o q ≡ Less → AreBefore (os ++ o ∷ []) q
before-push [] o q b l = (l, tt)
before-push (p ∷ ps) o q b l = (b.0, before-push ps o q b.1 l)

low-push : (os : List OpName) (o : OpName) → AreLow os → o.place < 7 → AreLow (os ++ o ∷ [])
low-push [] o low l = (l, tt)
low-push (p ∷ ps) o low l = (low.0, low-push ps o low.1 l)

-- ---- a task's names at the end

-- two places of a task are in order
places_rise : (task i j : ℕ) → i < j → name_cmp (operand_name task i) (operand_name task j) ≡ Less
places_rise task i j h =
    ap (λ r. ordering_then r (nat_cmp i j)) (tied_itself nat_cmp_total task) ∙ less_from_below i j h

-- names that are below a task's place are below its later ones
before_later : (os : List OpName) (task i j : ℕ) → i < j → AreBefore os (operand_name task i) → AreBefore os (operand_name task j)
before_later [] task i j h b = tt
before_later (p ∷ ps) task i j h b =
    (name_cmp_total.trans p (operand_name task i) (operand_name task j) b.0 (places_rise task i j h), before_later ps task i j h b.1)

pub set-names : (n place : ℕ) (os : List OpName) (task : ℕ) → AreBefore os (operand_name task place) →
    set_of (os ++ names_upto task place n) ≡ held_with (set_of os) (names_upto task place n)
set-names zero place os task b = ap set_of (append-nil os)
set-names (suc n) place os task b =
    let o = operand_name task place in
    ap set_of (sym (append_assoc os (o ∷ []) (names_upto task (suc place) n)))
    ∙ set-names n (suc place) (os ++ o ∷ []) task
    (before-push os o (operand_name task (suc place)) (before_later os task place (suc place) (omega arith) b) (places_rise task place (suc place) (omega arith)))
    ∙ ap (λ m. held_with m (names_upto task (suc place) n)) (set-push os o b)

pub rising-names : (n place : ℕ) (os : List OpName) (task : ℕ) → IsRising os → AreBefore os (operand_name task place) →
    IsRising (os ++ names_upto task place n)
rising-names zero place os task s b = subst IsRising (sym (append-nil os)) s
rising-names (suc n) place os task s b =
    let o = operand_name task place in
    subst IsRising (append_assoc os (o ∷ []) (names_upto task (suc place) n))
    (rising-names n (suc place) (os ++ o ∷ []) task (rising-push os o s b)
    (before-push os o (operand_name task (suc place)) (before_later os task place (suc place) (omega arith) b) (places_rise task place (suc place) (omega arith))))

pub low-names : (n place : ℕ) (os : List OpName) (task : ℕ) → AreLow os → place + n ≤ 7 → AreLow (os ++ names_upto task place n)
low-names zero place os task low h = subst AreLow (sym (append-nil os)) low
low-names (suc n) place os task low h =
    let o = operand_name task place in
    subst AreLow (append_assoc os (o ∷ []) (names_upto task (suc place) n))
    (low-names n (suc place) (os ++ o ∷ []) task (low-push os o low (omega (arith, h))) (omega (arith, h)))

-- names of earlier tasks are below those of a task
pub before_task : (os : List OpName) (task : ℕ) → ((o : OpName) → get (set_of os) o ≡ Some tt → o.task < task) → IsRising os →
    AreBefore os (operand_name task 0)
before_task [] task earlier s = tt
before_task (o ∷ os) task earlier s =
    let below = first (below_all name_cmp o (pairs_of os)) (is_sorted name_cmp (pairs_of os)) s in
    let here : get (set_of (o ∷ os)) o ≡ Some tt =
    get-from_entries name_cmp_total (pairs_of (o ∷ os)) o
    ∙ ap (λ t. cond t (Some tt) (find name_cmp o (pairs_of os))) (same_key name_order o)
    in (
      ap (λ r. ordering_then r (nat_cmp o.place 0)) (less_from_below o.task task (earlier o here)),
      before_task os task (λ q there. earlier q (later q there)) (second (below_all name_cmp o (pairs_of os)) (is_sorted name_cmp (pairs_of os)) s),
    )
  where
    later : (q : OpName) → get (set_of os) q ≡ Some tt → get (set_of (o ∷ os)) q ≡ Some tt
    later q there =
        get-from_entries name_cmp_total (pairs_of (o ∷ os)) q
        ∙ by (eq_by_cmp name_cmp q o)
      where
        by : (b : Bool) → cond b (Some tt) (find name_cmp q (pairs_of os)) ≡ Some tt
        by true = refl
        by false = sym (get-from_entries name_cmp_total (pairs_of os) q) ∙ there

-- ---- one less

below_none : (o : OpName) (os : List OpName) → IsBelow o os → find name_cmp o (pairs_of os) ≡ None
below_none o [] b = refl
below_none o (p ∷ ps) b =
    let l = less (name_cmp o p) (first (is_lt (name_cmp o p)) (below_all name_cmp o (pairs_of ps)) b) in
    let other : eq_by_cmp name_cmp o p ≡ false = other_key name_order o p (apart_below name_order o p l) in
    ap (λ t. cond t (Some tt) (find name_cmp o (pairs_of ps))) other
    ∙ below_none o ps (second (is_lt (name_cmp o p)) (below_all name_cmp o (pairs_of ps)) b)

-- a name above all of a list isn't the one below them
below_there : (p : OpName) (os : List OpName) (i : ℕ) (o : OpName) → IsBelow p os → slice_get os i ≡ Some o → name_cmp p o ≡ Less
below_there p [] i o b e = absurd (none-some o e)
below_there p (q ∷ qs) zero o b e =
    subst (λ x. name_cmp p x ≡ Less) (same_Some q o e) (less (name_cmp p q) (first (is_lt (name_cmp p q)) (below_all name_cmp p (pairs_of qs)) b))
below_there p (q ∷ qs) (suc i) o b e = below_there p qs i o (second (is_lt (name_cmp p q)) (below_all name_cmp p (pairs_of qs)) b) e

either_found : (b : Bool) (r : Option (Unit {0})) → r ≡ Some tt → cond b (Some tt) r ≡ Some tt
either_found true r e = refl
either_found false r e = e

-- what is found where a name is there
pub find_there : (os : List OpName) (i : ℕ) (o : OpName) → IsRising os → slice_get os i ≡ Some o → find name_cmp o (pairs_of os) ≡ Some tt
find_there [] i o s e = absurd (none-some o e)
find_there (p ∷ ps) zero o s e =
    ap (λ t. cond t (Some tt) (find name_cmp o (pairs_of ps))) (ap (eq_by_cmp name_cmp o) (same_Some p o e) ∙ same_key name_order o)
find_there (p ∷ ps) (suc i) o s e =
    either_found (eq_by_cmp name_cmp o p) (find name_cmp o (pairs_of ps))
    (find_there ps i o (second (below_all name_cmp p (pairs_of ps)) (is_sorted name_cmp (pairs_of ps)) s) e)

find_removed : (os : List OpName) (i : ℕ) (o q : OpName) → IsRising os → slice_get os i ≡ Some o →
    find name_cmp q (pairs_of (remove os i)) ≡ cond (eq_by_cmp name_cmp q o) None (find name_cmp q (pairs_of os))
find_removed [] i o q s e = absurd (none-some o e)
find_removed (p ∷ ps) zero o q s e = by (decide_key name_order q o)
  where
    same : p ≡ o
    same = same_Some p o e

    below : IsBelow p ps
    below = first (below_all name_cmp p (pairs_of ps)) (is_sorted name_cmp (pairs_of ps)) s

    by : (q ≡ o) ⊎ (q ≢ o) → find name_cmp q (pairs_of ps)
        ≡ cond (eq_by_cmp name_cmp q o) None (cond (eq_by_cmp name_cmp q p) (Some tt) (find name_cmp q (pairs_of ps)))
    by (inl is) =
        ap (λ x. find name_cmp x (pairs_of ps)) (is ∙ sym same) ∙ below_none p ps below
        ∙ sym (ap (λ b. cond b None (cond (eq_by_cmp name_cmp q p) (Some tt) (find name_cmp q (pairs_of ps)))) (ap (λ x. eq_by_cmp name_cmp x o) is ∙ same_key name_order o))
    by (inr apart) =
        sym (ap (λ b. cond b None (cond (eq_by_cmp name_cmp q p) (Some tt) (find name_cmp q (pairs_of ps)))) (other_key name_order q o apart)
        ∙ ap (λ b. cond b (Some tt) (find name_cmp q (pairs_of ps))) (other_key name_order q p (λ z. apart (z ∙ same))))
find_removed (p ∷ ps) (suc i) o q s e =
    by (decide_key name_order q p)
    (find_removed ps i o q (second (below_all name_cmp p (pairs_of ps)) (is_sorted name_cmp (pairs_of ps)) s) e)
  where
    lower : name_cmp p o ≡ Less
    lower = below_there p ps i o (first (below_all name_cmp p (pairs_of ps)) (is_sorted name_cmp (pairs_of ps)) s) e

    by : (q ≡ p) ⊎ (q ≢ p) →
        find name_cmp q (pairs_of (remove ps i)) ≡ cond (eq_by_cmp name_cmp q o) None (find name_cmp q (pairs_of ps)) →
        cond (eq_by_cmp name_cmp q p) (Some tt) (find name_cmp q (pairs_of (remove ps i)))
        ≡ cond (eq_by_cmp name_cmp q o) None (cond (eq_by_cmp name_cmp q p) (Some tt) (find name_cmp q (pairs_of ps)))
    by (inl is) rest =
        let here = ap (λ x. eq_by_cmp name_cmp x p) is ∙ same_key name_order p in
        let other = other_key name_order q o (λ z. apart_below name_order p o lower (sym is ∙ z)) in
        ap (λ b. cond b (Some tt) (find name_cmp q (pairs_of (remove ps i)))) here
        ∙ sym (ap (λ b. cond b None (cond (eq_by_cmp name_cmp q p) (Some tt) (find name_cmp q (pairs_of ps)))) other
        ∙ ap (λ b. cond b (Some tt) (find name_cmp q (pairs_of ps))) here)
    by (inr apart) rest =
        let other = other_key name_order q p apart in
        ap (λ b. cond b (Some tt) (find name_cmp q (pairs_of (remove ps i)))) other
        ∙ rest
        ∙ ap (λ r. cond (eq_by_cmp name_cmp q o) None r) (sym (ap (λ b. cond b (Some tt) (find name_cmp q (pairs_of ps))) other))

-- the set without a name
pub set-removed : (os : List OpName) (i : ℕ) (o : OpName) → IsRising os → slice_get os i ≡ Some o →
    set_of (remove os i) ≡ map.remove (set_of os) o
set-removed os i o s e = same_by_get name_order _ _ (λ q.
    get-from_entries name_cmp_total (pairs_of (remove os i)) q
    ∙ find_removed os i o q s e
    ∙ ap (λ r. cond (eq_by_cmp name_cmp q o) None r) (sym (get-from_entries name_cmp_total (pairs_of os) q))
    ∙ sym (get-remove name_cmp_total (set_of os) o q))

removed_nil : (i : ℕ) → remove {X = OpName} [] i ≡ []
removed_nil zero = refl
removed_nil (suc i) = refl

below-removed : (p : OpName) (os : List OpName) (i : ℕ) → IsBelow p os → IsBelow p (remove os i)
below-removed p [] i b = subst (IsBelow p) (sym (removed_nil i)) tt
below-removed p (q ∷ qs) zero b = second (is_lt (name_cmp p q)) (below_all name_cmp p (pairs_of qs)) b
below-removed p (q ∷ qs) (suc i) b =
    both (is_lt (name_cmp p q)) (below_all name_cmp p (pairs_of (remove qs i)))
    (first (is_lt (name_cmp p q)) (below_all name_cmp p (pairs_of qs)) b)
    (below-removed p qs i (second (is_lt (name_cmp p q)) (below_all name_cmp p (pairs_of qs)) b))

pub rising-removed : (os : List OpName) (i : ℕ) → IsRising os → IsRising (remove os i)
rising-removed [] i s = subst IsRising (sym (removed_nil i)) tt
rising-removed (p ∷ ps) zero s = second (below_all name_cmp p (pairs_of ps)) (is_sorted name_cmp (pairs_of ps)) s
rising-removed (p ∷ ps) (suc i) s =
    both (below_all name_cmp p (pairs_of (remove ps i))) (is_sorted name_cmp (pairs_of (remove ps i)))
    (below-removed p ps i (first (below_all name_cmp p (pairs_of ps)) (is_sorted name_cmp (pairs_of ps)) s))
    (rising-removed ps i (second (below_all name_cmp p (pairs_of ps)) (is_sorted name_cmp (pairs_of ps)) s))

pub low-removed : (os : List OpName) (i : ℕ) → AreLow os → AreLow (remove os i)
low-removed [] i low = subst AreLow (sym (removed_nil i)) tt
low-removed (p ∷ ps) zero low = low.1
low-removed (p ∷ ps) (suc i) low = (low.0, low-removed ps i low.1)

-- ---- what is held

-- the name at a place
pub name_at : (xs : List Held) (i : ℕ) (d : Held) → get_or (names_in xs) i d.name ≡ (get_or xs i d).name
name_at [] i d = refl
name_at (x ∷ xs) zero d = refl
name_at (x ∷ xs) (suc i) d = name_at xs i d

pub length-names_in : (xs : List Held) → length (names_in xs) ≡ length xs
length-names_in xs = length-map xs (λ h. h.name)

pub names_removed : (xs : List Held) (i : ℕ) → names_in (remove xs i) ≡ remove (names_in xs) i
names_removed [] zero = refl
names_removed [] (suc i) = refl
names_removed (x ∷ xs) zero = refl
names_removed (x ∷ xs) (suc i) = ap (λ os. x.name ∷ os) (names_removed xs i)

pub names_pushed : (xs : List Held) (h : Held) → names_in (xs ++ h ∷ []) ≡ names_in xs ++ h.name ∷ []
names_pushed [] h = refl
names_pushed (x ∷ xs) h = ap (λ os. x.name ∷ os) (names_pushed xs h)

-- a name more of a task
pub upto_next : (task place n : ℕ) → names_upto task place (suc n) ≡ names_upto task place n ++ operand_name task (place + n) ∷ []
upto_next task place zero = let e : place ≡ place + 0 = omega arith in ap (λ k. operand_name task k ∷ []) e
upto_next task place (suc n) =
    let e : suc place + n ≡ place + suc n = omega arith in
    ap (λ os. operand_name task place ∷ os) (upto_next task (suc place) n ∙ ap (λ k. names_upto task (suc place) n ++ operand_name task k ∷ []) e)

-- the names of a task's operands
pub names_from-upto : (task place : ℕ) (os : List Operand) → names_from task place os ≡ names_upto task place (length os)
names_from-upto task place [] = refl
names_from-upto task place (o ∷ os) = ap (λ ns. operand_name task place ∷ ns) (names_from-upto task (suc place) os)

pub length-upto : (task place n : ℕ) → length (names_upto task place n) ≡ n
length-upto task place zero = refl
length-upto task place (suc n) = ap suc (length-upto task (suc place) n)
