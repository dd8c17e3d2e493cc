-- What a message more or less leaves of the facts of the mail's tables.
use Rattle.std.proofs.Common.{◌≡◌, ℕ, zero, suc, ◌+◌, ◌-◌, ◌<◌, ◌≤◌, ◌^◌, List, [], ◌∷◌, length, get_or, set, Option, Some, None, refl, sym, ap, subst, ◌∙◌, inl, inr, arith, option_map, Bor}
use Rattle.std.proofs.Math.ListN.{replicate}
use Rattle.std.proofs.lemmas.List.{get_or-set_same, get_or-set_other, get_or_default, length-set, get_or-replicate, length-replicate}
use Rattle.std.proofs.lemmas.List.Sums.{sum_by-set, sum_by-cons}
use Rattle.std.proofs.lemmas.Option.{none-some, same_Some}
use Rattle.std.specs.FinMap.{get, insert, remove, len, empty, get-empty, len-empty}
use Rattle.tss_base.specs.declared.operand.OpName.{OpName}
use Rattle.tss_base.specs.declared.event.Event.{Event}
use Rattle.tss_base.specs.Names.{name_cmp}
use Rattle.tss_maps.proofs.MappedLemmas.{mapped-empty}
use Rattle.tss_maps.proofs.Keys.{name_order, nat_order, decide_key}
use Rattle.tss_maps.proofs.Changes.{from_inserted, from_removed, absent_removed}
use Rattle.tss_maps.proofs.Entries.{len_added, len_removed}
use Rattle.tss_protocol.specs.Mail as mail
use Rattle.tss_events.specs.declared.message.Message.{Message}
use Rattle.tss_events.specs.Events.{message_of}
use Rattle.tss_mail.specs.declared.kind.Kind.{Kind}
use Rattle.tss_mail.specs.Kinds.{number_of, kind_at, event_of, address_of}
use Rattle.tss_mail.specs.Letters.{no_letters, mail_of, letter_at, with_letter, without_letter}
use Rattle.tss_mail.specs.Kept.{Letters, table_in, table_at, letters_of, IsFor, total, AreLetters, decode_in, ack_in, open_in, use_in, ready_in, link_in, release_in, bye_in, idle_in, gone_in}
use Rattle.tss_mail.proofs.TableLemmas.{label, address_of-label, name_of-label, IsFor-label, kind_at-number_of, number_within, letter_at-kind, message_at-kind, filled, emptied, counted}

-- no table is more than all
len_within : (ts : List Letters) (k : ℕ) → k < length ts → len (table_at ts k) ≤ total ts
len_within [] k h = absurd (omega (arith, h))
len_within (t ∷ ts) zero h =
    let here : len (table_at (t ∷ ts) 0) ≡ len t.entries = refl in
    let all : total (t ∷ ts) ≡ len t.entries + total ts = sum_by-cons (λ u. len u.entries) t ts in
    omega (arith, here, all)
len_within (t ∷ ts) (suc k) h =
    let there : len (table_at (t ∷ ts) (suc k)) ≡ len (table_at ts k) = refl in
    let all : total (t ∷ ts) ≡ len t.entries + total ts = sum_by-cons (λ u. len u.entries) t ts in
    let rest = len_within ts k (omega (arith, h)) in
    omega (arith, there, all, rest)

-- what holds of each table holds of each after one was changed, where it holds of that
set_each : (Q : ℕ → Letters → Type 0) (ts : List Letters) (p : ℕ) (t : Letters) → p < length ts → Q p t →
    ((j : ℕ) → j < 12 → Q j (table_in ts j)) → (j : ℕ) → j < 12 → Q j (table_in (set ts p t) j)
set_each Q ts p t h new old j below = elim (decide_key nat_order j p) [
  | inl same ↦ subst (λ i. Q i (table_in (set ts p t) i)) (sym same) (subst (Q p) (sym (get_or-set_same ts p t (record { size = 0; entries = empty }) h)) new)
  | inr apart ↦ subst (Q j) (sym (get_or-set_other ts p j t (record { size = 0; entries = empty }) apart)) (old j below)
]

mapped_none : {A B : Type 0} (f : A → B) (r : Option A) → option_map f r ≡ None → r ≡ None
mapped_none f None e = refl
mapped_none f (Some x) e = absurd (none-some (f x) (sym e))

-- ---- a table of the mail

module _ (size n : ℕ) (ts : List Letters) (are : AreLetters size n ts) (k : Kind) (p : ℕ) (is : p ≡ number_of k)
    (now : Letters) (read : now ≡ get_or ts p now) where
  place_within : p < length ts
  place_within = let w = number_within k in let l = are.tables in omega (arith, w, l, is)

  pub now_in : now ≡ table_in ts (number_of k)
  now_in =
      read ∙ sym (get_or_default ts p (record { size = 0; entries = empty }) now place_within) ∙ ap (table_in ts) is

  pub now_size : now.size ≡ size
  now_size = ap (λ t. t.size) now_in ∙ are.sizes (number_of k) (number_within k)

  pub now_kept : (o : OpName) (m : Message) → get (table_at ts (number_of k)) o ≡ Some m → IsFor k o m
  now_kept o m e =
      subst (λ q. IsFor q o m) (kind_at-number_of k) (are.kept (number_of k) (number_within k) o m e)

  -- the message of a name
  pub letter_now : (o : OpName) → letter_at (letters_of size ts) (event_of k o) ≡ get now.entries o
  letter_now o = letter_at-kind size ts k o (now_kept o) ∙ ap (λ t. get t.entries o) (sym now_in)

  -- the same of the definitions
  pub message_now : (o : OpName) →
      mail.message_at (mail_of (letters_of size ts)) (event_of k o) ≡ option_map message_of (get now.entries o)
  message_now o = message_at-kind size ts k o (now_kept o) ∙ ap (λ t. option_map message_of (get t.entries o)) (sym now_in)

  -- a table has no more than there are
  pub now_few : len now.entries ≤ n
  now_few =
      let w = len_within ts p place_within in
      let same = ap (λ t. len t.entries) now_in in
      let at = ap (λ q. len (table_at ts q)) is in
      let c = are.count in
      omega (arith, w, same, at, c)

  -- the facts after a table was changed
  changed : (t : Letters) (after : ℕ) → t.size ≡ size → ((o : OpName) (m : Message) → get t.entries o ≡ Some m → IsFor k o m) →
      after + len now.entries ≡ n + len t.entries → after ≤ size → AreLetters size after (set ts p t)
  changed t after sized kept counts few = record {
    tables = length-set ts p t ∙ are.tables;
    sizes = set_each (λ j u. u.size ≡ size) ts p t place_within sized are.sizes;
    kept = set_each (λ j u. (o : OpName) (m : Message) → get u.entries o ≡ Some m → IsFor (kind_at j) o m) ts p t place_within
        (λ o m e. subst (λ q. IsFor q o m) (sym (ap kind_at is ∙ kind_at-number_of k)) (kept o m e)) are.kept;
    count =
        let sum = sum_by-set (λ u. len u.entries) ts p t now place_within in
        let same = ap (λ u. len u.entries) read in
        let c = are.count in
        omega (arith, sum, same, c, counts);
    within = few;
    short = are.short;
  }

-- ---- a message more

module _ (size n : ℕ) (ts : List Letters) (are : AreLetters size n ts) (m : Message) (k : Kind) (o : OpName)
    (at : label m ≡ (k, o)) (p : ℕ) (is : p ≡ number_of k) (now : Letters) (read : now ≡ get_or ts p now)
    (room : mail.message_count (mail_of (letters_of size ts)) < size)
    (fresh : mail.message_at (mail_of (letters_of size ts)) (mail.name_of (message_of m)) ≡ None) where
  pub room_now : len now.entries < now.size
  room_now =
      let all = counted size ts are.tables in
      let few = now_few size n ts are k p is now read in
      let c = are.count in
      let sized = now_size size n ts are k p is now read in
      omega (arith, all, few, c, sized, room)

  pub room_all : n < size
  room_all = let all = counted size ts are.tables in let c = are.count in omega (arith, all, c, room)

  pub fresh_now : get now.entries o ≡ None
  fresh_now = mapped_none message_of (get now.entries o)
      (sym (message_now size n ts are k p is now read o)
      ∙ ap (λ q. mail.message_at (mail_of (letters_of size ts)) (event_of q.0 q.1)) (sym at)
      ∙ ap (mail.message_at (mail_of (letters_of size ts))) (sym (name_of-label m))
      ∙ fresh)

  module _ (t : Letters) (put : t ≡ record now { entries = insert now.entries o m }) where
    put_kept : (q : OpName) (x : Message) → get t.entries q ≡ Some x → IsFor k q x
    put_kept q x e =
        elim (from_inserted name_order now.entries o m q x (ap (λ u. get u.entries q) (sym put) ∙ e)) [
          | inl new ↦ subst (λ r. IsFor k r x) (sym new.0) (subst (λ y. IsFor k o y) (sym new.1) (subst (λ r. IsFor r.0 r.1 m) at (IsFor-label m)))
          | inr old ↦ now_kept size n ts are k p is now read q x (ap (λ u. get u.entries q) (sym (now_in size n ts are k p is now read)) ∙ old.1)
        ]

    pub kept_after : AreLetters size (n + 1) (set ts p t)
    kept_after = changed size n ts are k p is now read t (n + 1)
        (ap (λ u. u.size) put ∙ now_size size n ts are k p is now read)
        put_kept
        (let more = len_added name_order now.entries o m fresh_now in
        let same = ap (λ u. len u.entries) put in
        omega (arith, more, same))
        (let r = room_all in omega (arith, r))

    pub seen_after : letters_of size (set ts p t) ≡ with_letter (letters_of size ts) m
    seen_after =
        ap (λ q. letters_of size (set ts q t)) (is ∙ ap (λ r. number_of r.0) (sym at))
        ∙ filled size ts are.tables m t
        (ap (λ u. u.entries) put
        ∙ (λ i. insert (now_in size n ts are k p is now read i).entries o m)
        ∙ (λ i. insert (table_at ts (number_of (sym at i).0)) (sym at i).1 m))

-- ---- a message less

module _ (size n : ℕ) (ts : List Letters) (are : AreLetters size n ts) (k : Kind) (o : OpName) (p : ℕ)
    (is : p ≡ number_of k) (now : Letters) (read : now ≡ get_or ts p now) (t : Letters)
    (took : t ≡ record now { entries = remove now.entries o }) where
  took_kept : (q : OpName) (x : Message) → get t.entries q ≡ Some x → IsFor k q x
  took_kept q x e =
      let old = from_removed name_order now.entries o q x (ap (λ u. get u.entries q) (sym took) ∙ e) in
      now_kept size n ts are k p is now read q x (ap (λ u. get u.entries q) (sym (now_in size n ts are k p is now read)) ∙ old.1)

  took_size : t.size ≡ size
  took_size = ap (λ u. u.size) took ∙ now_size size n ts are k p is now read

  pub some_before : (m : Message) → get now.entries o ≡ Some m → 1 ≤ n
  some_before m there =
      let less = len_removed name_order now.entries o m there in
      let few = now_few size n ts are k p is now read in
      omega (arith, less, few)

  pub kept_less : (m : Message) → get now.entries o ≡ Some m → AreLetters size (n - 1) (set ts p t)
  kept_less m there = changed size n ts are k p is now read t (n - 1) took_size took_kept
      (let less = len_removed name_order now.entries o m there in
      let same = ap (λ u. len u.entries) took in
      let some = some_before m there in
      omega (arith, less, same, some))
      (let w = are.within in omega (arith, w))

  pub kept_same : get now.entries o ≡ None → AreLetters size n (set ts p t)
  kept_same absent = changed size n ts are k p is now read t n took_size took_kept
      (let same = ap (λ u. len u.entries) took in
      let none = ap len (absent_removed name_order now.entries o absent) in
      omega (arith, same, none))
      are.within

  pub seen_less : letters_of size (set ts p t) ≡ without_letter (letters_of size ts) (event_of k o)
  seen_less =
      ap (λ q. letters_of size (set ts q t)) is
      ∙ emptied size ts are.tables k o t
      (ap (λ u. u.entries) took ∙ (λ i. remove (now_in size n ts are k p is now read i).entries o))

-- the kind and the name that an address gives
pub label_is : (m : Message) (e : Event) (r : Option (Kind × OpName)) (p : Kind × OpName) →
    e ≡ mail.name_of (message_of m) → r ≡ address_of e → r ≡ Some p → label m ≡ p
label_is m e r p named addressed there =
    same_Some (label m) p (sym (address_of-label m) ∙ ap address_of (sym named) ∙ sym addressed ∙ there)

-- a look at a message, and at what it is
pub seen_twice : (r : Option (Bor Message)) →
    option_map (λ m. message_of m.now) r ≡ option_map message_of (option_map (λ m. m.now) r)
seen_twice None = refl
seen_twice (Some x) = refl

-- ---- tables that are all empty

pub none_in : (ts : List Letters) → total ts ≡ 0 → (k : ℕ) (d : Letters) → k < length ts → len (get_or ts k d).entries ≡ 0
none_in [] z k d h = absurd (omega (arith, h))
none_in (t ∷ ts) z zero d h =
    let all : total (t ∷ ts) ≡ len t.entries + total ts = sum_by-cons (λ u. len u.entries) t ts in
    let none : len t.entries ≡ 0 = omega (arith, z, all) in
    none
none_in (t ∷ ts) z (suc k) d h =
    let all : total (t ∷ ts) ≡ len t.entries + total ts = sum_by-cons (λ u. len u.entries) t ts in
    none_in ts (omega (arith, z, all)) k d (omega (arith, h))

module _ (size : ℕ) where
  -- an empty table
  abbrev pub new_table : Letters
  new_table = record { size = size; entries = empty }

  pub len_new : (n k : ℕ) (d : Letters) → k < n → len (get_or (replicate n new_table) k d).entries ≡ 0
  len_new n k d h = ap (λ t. len t.entries) (get_or-replicate n k new_table d h) ∙ len-empty name_cmp Message

  -- no table has a message
  pub kept_new : size < 2 ^ 32 → AreLetters size 0 (replicate 12 new_table)
  kept_new short = record {
    tables = length-replicate 12 new_table;
    sizes = λ k h. ap (λ t. t.size) (get_or-replicate 12 k new_table (record { size = 0; entries = empty }) h);
    kept = λ k h o m e. absurd (none-some m (sym (get-empty name_cmp o) ∙ sym (ap (λ t. get t.entries o) (get_or-replicate 12 k new_table (record { size = 0; entries = empty }) h)) ∙ e));
    count = let z = len-empty name_cmp Message in omega (arith, z);
    within = omega arith;
    short = short;
  }

  -- the mail is empty
  pub seen_new : letters_of size (replicate 12 new_table) ≡ no_letters size
  seen_new = λ i. record {
    size = size;
    decodes = mapped-empty name_order decode_in i;
    acks = mapped-empty name_order ack_in i;
    opens = mapped-empty name_order open_in i;
    uses = mapped-empty name_order use_in i;
    readies = mapped-empty name_order ready_in i;
    links = mapped-empty name_order link_in i;
    releases = mapped-empty name_order release_in i;
    byes = mapped-empty name_order bye_in i;
    idles = mapped-empty name_order idle_in i;
    nacks = mapped-empty name_order ack_in i;
    retires = mapped-empty name_order ack_in i;
    gones = mapped-empty name_order gone_in i;
  }
