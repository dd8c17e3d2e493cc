-- Tables of messages as the mail: what stands under a name, and what a message more or less leaves.
use Rattle.std.proofs.Common.{◌≡◌, ℕ, ◌+◌, ◌<◌, List, [], ◌∷◌, ◌++◌, length, set, map, Option, Some, None, refl, sym, ap, ◌∙◌, arith, option_map}
use Rattle.std.specs.Prelude.{Bool}
use Rattle.std.proofs.lemmas.List.{append_assoc, append-nil}
use Rattle.std.proofs.lemmas.Option.{none-some, same_Some}
use Rattle.std.specs.FinMap.{get, insert, remove, keys}
use Rattle.tss_base.specs.declared.operand.OpName.{OpName}
use Rattle.tss_base.specs.declared.operand.Storage.{Storage}
use Rattle.tss_base.specs.declared.event.Event.{Event}
use Rattle.tss_base.specs.declared.event.Event.TheVariants as event
use Rattle.tss_base.specs.Names.{Named}
use Rattle.tss_maps.specs.Mapped.{mapped}
use Rattle.tss_maps.proofs.Keys.{name_order}
use Rattle.tss_maps.proofs.MappedLemmas.{get-mapped, mapped-insert, mapped-remove, len-mapped, keys-mapped}
use Rattle.tss_protocol.specs.Mail as mail
use Rattle.tss_events.specs.declared.message.Message.{Message}
use Rattle.tss_events.specs.declared.message.Message.TheVariants as message
use Rattle.tss_events.specs.Events.{opening_of, gone_of, message_of}
use Rattle.tss_mail.specs.declared.kind.Kind.{Kind}
use Rattle.tss_mail.specs.declared.kind.Kind.TheVariants as kind
use Rattle.tss_mail.specs.Kinds.{number_of, kind_at, event_of, address_of}
use Rattle.tss_mail.specs.Letters.{MailState, told_source, told_release, told_idle, mail_of, letter_at, with_letter, without_letter}
use Rattle.tss_mail.specs.Kept.{Letters, table_at, letters_of, IsFor, total, decode_in, ack_in, open_in, use_in, ready_in, link_in, release_in, bye_in, idle_in, gone_in}
use Rattle.tss_mail.proofs.Naming.{names_from}

-- ---- kinds and names

-- the kind and the name of a message
abbrev pub label : Message → Kind × OpName
label (message.Decode o x) = (kind.Decode, o)
label (message.Ack o) = (kind.Ack, o)
label (message.Open x) = (kind.Open, x.o)
label (message.Use o v) = (kind.Use, o)
label (message.Ready o v s) = (kind.Ready, o)
label (message.Link o next) = (kind.Link, o)
label (message.Release o v b) = (kind.Release, o)
label (message.Bye o b) = (kind.Bye, o)
label (message.Idle v b n) = (kind.Idle, v)
label (message.Nack v) = (kind.Nack, v)
label (message.Retire v) = (kind.Retire, v)
label (message.Gone x) = (kind.Gone, x.version)

pub address_of-label : (m : Message) → address_of (mail.name_of (message_of m)) ≡ Some (label m)
address_of-label (message.Decode o x) = refl
address_of-label (message.Ack o) = refl
address_of-label (message.Open x) = refl
address_of-label (message.Use o v) = refl
address_of-label (message.Ready o v s) = refl
address_of-label (message.Link o next) = refl
address_of-label (message.Release o v b) = refl
address_of-label (message.Bye o b) = refl
address_of-label (message.Idle v b n) = refl
address_of-label (message.Nack v) = refl
address_of-label (message.Retire v) = refl
address_of-label (message.Gone x) = refl

pub name_of-label : (m : Message) → mail.name_of (message_of m) ≡ event_of (label m).0 (label m).1
name_of-label (message.Decode o x) = refl
name_of-label (message.Ack o) = refl
name_of-label (message.Open x) = refl
name_of-label (message.Use o v) = refl
name_of-label (message.Ready o v s) = refl
name_of-label (message.Link o next) = refl
name_of-label (message.Release o v b) = refl
name_of-label (message.Bye o b) = refl
name_of-label (message.Idle v b n) = refl
name_of-label (message.Nack v) = refl
name_of-label (message.Retire v) = refl
name_of-label (message.Gone x) = refl

-- a message is for its own name
pub IsFor-label : (m : Message) → IsFor (label m).0 (label m).1 m
IsFor-label (message.Decode o x) = refl
IsFor-label (message.Ack o) = refl
IsFor-label (message.Open x) = (refl, refl)
IsFor-label (message.Use o v) = refl
IsFor-label (message.Ready o v s) = refl
IsFor-label (message.Link o next) = refl
IsFor-label (message.Release o v b) = refl
IsFor-label (message.Bye o b) = refl
IsFor-label (message.Idle v b n) = refl
IsFor-label (message.Nack v) = refl
IsFor-label (message.Retire v) = refl
IsFor-label (message.Gone x) = (refl, refl)

pub kind_at-number_of : (k : Kind) → kind_at (number_of k) ≡ k
kind_at-number_of kind.Decode = refl
kind_at-number_of kind.Ack = refl
kind_at-number_of kind.Open = refl
kind_at-number_of kind.Use = refl
kind_at-number_of kind.Ready = refl
kind_at-number_of kind.Link = refl
kind_at-number_of kind.Release = refl
kind_at-number_of kind.Bye = refl
kind_at-number_of kind.Idle = refl
kind_at-number_of kind.Nack = refl
kind_at-number_of kind.Retire = refl
kind_at-number_of kind.Gone = refl

pub number_within : (k : Kind) → number_of k < 12
number_within kind.Decode = omega arith
number_within kind.Ack = omega arith
number_within kind.Open = omega arith
number_within kind.Use = omega arith
number_within kind.Ready = omega arith
number_within kind.Link = omega arith
number_within kind.Release = omega arith
number_within kind.Bye = omega arith
number_within kind.Idle = omega arith
number_within kind.Nack = omega arith
number_within kind.Retire = omega arith
number_within kind.Gone = omega arith

-- an event that takes a message is its name
pub event_of_address : (e : Event) (p : Kind × OpName) → address_of e ≡ Some p → e ≡ event_of p.0 p.1
event_of_address (event.Decode o) p is = ap (λ q. event_of q.0 q.1) (same_Some (kind.Decode, o) p is)
event_of_address (event.Ack o) p is = ap (λ q. event_of q.0 q.1) (same_Some (kind.Ack, o) p is)
event_of_address (event.Open o) p is = ap (λ q. event_of q.0 q.1) (same_Some (kind.Open, o) p is)
event_of_address (event.Use o) p is = ap (λ q. event_of q.0 q.1) (same_Some (kind.Use, o) p is)
event_of_address (event.Ready o) p is = ap (λ q. event_of q.0 q.1) (same_Some (kind.Ready, o) p is)
event_of_address (event.Link o) p is = ap (λ q. event_of q.0 q.1) (same_Some (kind.Link, o) p is)
event_of_address (event.Release o) p is = ap (λ q. event_of q.0 q.1) (same_Some (kind.Release, o) p is)
event_of_address (event.Bye o) p is = ap (λ q. event_of q.0 q.1) (same_Some (kind.Bye, o) p is)
event_of_address (event.Idle o) p is = ap (λ q. event_of q.0 q.1) (same_Some (kind.Idle, o) p is)
event_of_address (event.Nack o) p is = ap (λ q. event_of q.0 q.1) (same_Some (kind.Nack, o) p is)
event_of_address (event.Retire o) p is = ap (λ q. event_of q.0 q.1) (same_Some (kind.Retire, o) p is)
event_of_address (event.Gone o) p is = ap (λ q. event_of q.0 q.1) (same_Some (kind.Gone, o) p is)
event_of_address event.Main p is = absurd (none-some p is)
event_of_address event.Take p is = absurd (none-some p is)
event_of_address (event.Start n) p is = absurd (none-some p is)
event_of_address (event.Exec n) p is = absurd (none-some p is)
event_of_address (event.Finish n) p is = absurd (none-some p is)
event_of_address (event.Copy n) p is = absurd (none-some p is)

-- ---- what stands under a name

restored : {C : Type 0} (f : C → Message) (g : Message → C) (r : Option Message) →
    ((m : Message) → r ≡ Some m → f (g m) ≡ m) → option_map f (option_map g r) ≡ r
restored f g None h = refl
restored f g (Some m) h = ap Some (h m refl)

module _ (size : ℕ) (ts : List Letters) where
  pub letter_at-kind : (k : Kind) (o : OpName) →
      ((m : Message) → get (table_at ts (number_of k)) o ≡ Some m → IsFor k o m) →
      letter_at (letters_of size ts) (event_of k o) ≡ get (table_at ts (number_of k)) o
  letter_at-kind kind.Decode o h =
      ap (option_map (message.Decode o)) (get-mapped decode_in (table_at ts 0) o)
      ∙ restored (message.Decode o) decode_in (get (table_at ts 0) o) h
  letter_at-kind kind.Ack o h =
      ap (option_map (λ (x : Unit {0}). message.Ack o)) (get-mapped ack_in (table_at ts 1) o)
      ∙ restored (λ (x : Unit {0}). message.Ack o) ack_in (get (table_at ts 1) o) h
  letter_at-kind kind.Open o h =
      ap (option_map (message.Open)) (get-mapped open_in (table_at ts 2) o)
      ∙ restored (message.Open) open_in (get (table_at ts 2) o) (λ m e. (h m e).0)
  letter_at-kind kind.Use o h =
      ap (option_map (message.Use o)) (get-mapped use_in (table_at ts 3) o)
      ∙ restored (message.Use o) use_in (get (table_at ts 3) o) h
  letter_at-kind kind.Ready o h =
      ap (option_map (λ (r : OpName × Storage). message.Ready o r.0 r.1)) (get-mapped ready_in (table_at ts 4) o)
      ∙ restored (λ (r : OpName × Storage). message.Ready o r.0 r.1) ready_in (get (table_at ts 4) o) h
  letter_at-kind kind.Link o h =
      ap (option_map (message.Link o)) (get-mapped link_in (table_at ts 5) o)
      ∙ restored (message.Link o) link_in (get (table_at ts 5) o) h
  letter_at-kind kind.Release o h =
      ap (option_map (λ (r : OpName × Bool). message.Release o r.0 r.1)) (get-mapped release_in (table_at ts 6) o)
      ∙ restored (λ (r : OpName × Bool). message.Release o r.0 r.1) release_in (get (table_at ts 6) o) h
  letter_at-kind kind.Bye o h =
      ap (option_map (message.Bye o)) (get-mapped bye_in (table_at ts 7) o)
      ∙ restored (message.Bye o) bye_in (get (table_at ts 7) o) h
  letter_at-kind kind.Idle o h =
      ap (option_map (λ (r : ℕ × ℕ). message.Idle o r.0 r.1)) (get-mapped idle_in (table_at ts 8) o)
      ∙ restored (λ (r : ℕ × ℕ). message.Idle o r.0 r.1) idle_in (get (table_at ts 8) o) h
  letter_at-kind kind.Nack o h =
      ap (option_map (λ (x : Unit {0}). message.Nack o)) (get-mapped ack_in (table_at ts 9) o)
      ∙ restored (λ (x : Unit {0}). message.Nack o) ack_in (get (table_at ts 9) o) h
  letter_at-kind kind.Retire o h =
      ap (option_map (λ (x : Unit {0}). message.Retire o)) (get-mapped ack_in (table_at ts 10) o)
      ∙ restored (λ (x : Unit {0}). message.Retire o) ack_in (get (table_at ts 10) o) h
  letter_at-kind kind.Gone o h =
      ap (option_map (message.Gone)) (get-mapped gone_in (table_at ts 11) o)
      ∙ restored (message.Gone) gone_in (get (table_at ts 11) o) (λ m e. (h m e).0)

reread : {C D : Type 0} (f : C → D) (g : Message → C) (h : Message → D) (r : Option Message) →
    ((m : Message) → r ≡ Some m → f (g m) ≡ h m) → option_map f (option_map g r) ≡ option_map h r
reread f g h None same = refl
reread f g h (Some m) same = ap Some (same m refl)

composed : {A B C : Type 0} (f : B → C) (g : A → B) (r : Option A) →
    option_map f (option_map g r) ≡ option_map (λ x. f (g x)) r
composed f g None = refl
composed f g (Some x) = refl

twice : {A B C : Type 0} (f : B → C) (g : A → B) (m : Named A) (o : OpName) →
    get (mapped f (mapped g m)) o ≡ option_map (λ x. f (g x)) (get m o)
twice f g m o = get-mapped f (mapped g m) o ∙ ap (option_map f) (get-mapped g m o) ∙ composed f g (get m o)

module _ (size : ℕ) (ts : List Letters) where
  pub message_at-kind : (k : Kind) (o : OpName) →
      ((m : Message) → get (table_at ts (number_of k)) o ≡ Some m → IsFor k o m) →
      mail.message_at (mail_of (letters_of size ts)) (event_of k o)
      ≡ option_map message_of (get (table_at ts (number_of k)) o)
  message_at-kind kind.Decode o h =
      ap (option_map (mail.Decode o)) (get-mapped decode_in (table_at ts 0) o)
      ∙ reread (mail.Decode o) decode_in message_of (get (table_at ts 0) o) (λ m e. ap message_of (h m e))
  message_at-kind kind.Ack o h =
      ap (option_map (λ (x : Unit {0}). mail.Ack o)) (get-mapped ack_in (table_at ts 1) o)
      ∙ reread (λ (x : Unit {0}). mail.Ack o) ack_in message_of (get (table_at ts 1) o) (λ m e. ap message_of (h m e))
  message_at-kind kind.Open o h =
      ap (option_map (mail.Open o)) (twice opening_of open_in (table_at ts 2) o)
      ∙ reread (mail.Open o) (λ (m : Message). opening_of (open_in m)) message_of (get (table_at ts 2) o) (λ m e. ap (λ q. mail.Open q (opening_of (open_in m))) (sym (h m e).1) ∙ ap message_of (h m e).0)
  message_at-kind kind.Use o h =
      ap (option_map (mail.Use o)) (get-mapped use_in (table_at ts 3) o)
      ∙ reread (mail.Use o) use_in message_of (get (table_at ts 3) o) (λ m e. ap message_of (h m e))
  message_at-kind kind.Ready o h =
      ap (option_map (mail.Ready o)) (twice told_source ready_in (table_at ts 4) o)
      ∙ reread (mail.Ready o) (λ (m : Message). told_source (ready_in m)) message_of (get (table_at ts 4) o) (λ m e. ap message_of (h m e))
  message_at-kind kind.Link o h =
      ap (option_map (mail.Link o)) (get-mapped link_in (table_at ts 5) o)
      ∙ reread (mail.Link o) link_in message_of (get (table_at ts 5) o) (λ m e. ap message_of (h m e))
  message_at-kind kind.Release o h =
      ap (option_map (mail.Release o)) (twice told_release release_in (table_at ts 6) o)
      ∙ reread (mail.Release o) (λ (m : Message). told_release (release_in m)) message_of (get (table_at ts 6) o) (λ m e. ap message_of (h m e))
  message_at-kind kind.Bye o h =
      ap (option_map (mail.Bye o)) (get-mapped bye_in (table_at ts 7) o)
      ∙ reread (mail.Bye o) bye_in message_of (get (table_at ts 7) o) (λ m e. ap message_of (h m e))
  message_at-kind kind.Idle o h =
      ap (option_map (mail.Idle o)) (twice told_idle idle_in (table_at ts 8) o)
      ∙ reread (mail.Idle o) (λ (m : Message). told_idle (idle_in m)) message_of (get (table_at ts 8) o) (λ m e. ap message_of (h m e))
  message_at-kind kind.Nack o h =
      ap (option_map (λ (x : Unit {0}). mail.Nack o)) (get-mapped ack_in (table_at ts 9) o)
      ∙ reread (λ (x : Unit {0}). mail.Nack o) ack_in message_of (get (table_at ts 9) o) (λ m e. ap message_of (h m e))
  message_at-kind kind.Retire o h =
      ap (option_map (λ (x : Unit {0}). mail.Retire o)) (get-mapped ack_in (table_at ts 10) o)
      ∙ reread (λ (x : Unit {0}). mail.Retire o) ack_in message_of (get (table_at ts 10) o) (λ m e. ap message_of (h m e))
  message_at-kind kind.Gone o h =
      ap (option_map (mail.Gone o)) (twice gone_of gone_in (table_at ts 11) o)
      ∙ reread (mail.Gone o) (λ (m : Message). gone_of (gone_in m)) message_of (get (table_at ts 11) o) (λ m e. ap (λ q. mail.Gone q (gone_of (gone_in m))) (sym (h m e).1) ∙ ap message_of (h m e).0)

-- ---- changes

-- a list of twelve, one by one
pub by_twelve : (P : List Letters → Type 0) →
    ((a b c d e f g h i j k l : Letters) → P (a ∷ b ∷ c ∷ d ∷ e ∷ f ∷ g ∷ h ∷ i ∷ j ∷ k ∷ l ∷ [])) →
    (ts : List Letters) → length ts ≡ 12 → P ts
by_twelve P all ([]) n = absurd (omega (arith, n))
by_twelve P all (a ∷ []) n = absurd (omega (arith, n))
by_twelve P all (a ∷ b ∷ []) n = absurd (omega (arith, n))
by_twelve P all (a ∷ b ∷ c ∷ []) n = absurd (omega (arith, n))
by_twelve P all (a ∷ b ∷ c ∷ d ∷ []) n = absurd (omega (arith, n))
by_twelve P all (a ∷ b ∷ c ∷ d ∷ e ∷ []) n = absurd (omega (arith, n))
by_twelve P all (a ∷ b ∷ c ∷ d ∷ e ∷ f ∷ []) n = absurd (omega (arith, n))
by_twelve P all (a ∷ b ∷ c ∷ d ∷ e ∷ f ∷ g ∷ []) n = absurd (omega (arith, n))
by_twelve P all (a ∷ b ∷ c ∷ d ∷ e ∷ f ∷ g ∷ h ∷ []) n = absurd (omega (arith, n))
by_twelve P all (a ∷ b ∷ c ∷ d ∷ e ∷ f ∷ g ∷ h ∷ i ∷ []) n = absurd (omega (arith, n))
by_twelve P all (a ∷ b ∷ c ∷ d ∷ e ∷ f ∷ g ∷ h ∷ i ∷ j ∷ []) n = absurd (omega (arith, n))
by_twelve P all (a ∷ b ∷ c ∷ d ∷ e ∷ f ∷ g ∷ h ∷ i ∷ j ∷ k ∷ []) n = absurd (omega (arith, n))
by_twelve P all (a ∷ b ∷ c ∷ d ∷ e ∷ f ∷ g ∷ h ∷ i ∷ j ∷ k ∷ l ∷ []) n = all a b c d e f g h i j k l
by_twelve P all (a ∷ b ∷ c ∷ d ∷ e ∷ f ∷ g ∷ h ∷ i ∷ j ∷ k ∷ l ∷ m ∷ ts) n = absurd (omega (arith, n))

five : {X : Type 0} (a b c d e r : List X) → a ++ b ++ c ++ d ++ e ++ r ≡ a ++ (b ++ (c ++ (d ++ (e ++ r))))
five a b c d e r =
    append_assoc (a ++ b ++ c ++ d) e r
    ∙ append_assoc (a ++ b ++ c) d (e ++ r)
    ∙ append_assoc (a ++ b) c (d ++ (e ++ r))
    ∙ append_assoc a b (c ++ (d ++ (e ++ r)))

six : {X : Type 0} (a b c d e f r : List X) →
    a ++ b ++ c ++ d ++ e ++ f ++ r ≡ a ++ (b ++ (c ++ (d ++ (e ++ (f ++ r)))))
six a b c d e f r =
    append_assoc (a ++ b ++ c ++ d ++ e) f r
    ∙ five a b c d e (f ++ r)

-- twelve lists in a row, in the two groups of the mail and the last
gathered : {X : Type 0} (a b c d e f g h i j k l : List X) →
    a ++ (b ++ (c ++ (d ++ (e ++ (f ++ (g ++ (h ++ (i ++ (j ++ (k ++ (l ++ [])))))))))))
    ≡ (a ++ b ++ c ++ d ++ e ++ f) ++ (g ++ h ++ i ++ j ++ k) ++ l
gathered a b c d e f g h i j k l =
    ap (λ x. a ++ (b ++ (c ++ (d ++ (e ++ (f ++ (g ++ (h ++ (i ++ (j ++ (k ++ x))))))))))) (append-nil l)
    ∙ ap (λ x. a ++ (b ++ (c ++ (d ++ (e ++ (f ++ x)))))) (sym (five g h i j k l))
    ∙ sym (six a b c d e f (g ++ h ++ i ++ j ++ k ++ l))
    ∙ sym (append_assoc (a ++ b ++ c ++ d ++ e ++ f) (g ++ h ++ i ++ j ++ k) l)

module _ (size : ℕ) (a b c d e f g h i j k l : Letters) where
  abbrev twelve : List Letters
  twelve = a ∷ b ∷ c ∷ d ∷ e ∷ f ∷ g ∷ h ∷ i ∷ j ∷ k ∷ l ∷ []

  abbrev seen : MailState
  seen = letters_of size twelve

  filled_one : (m : Message) (t : Letters) →
      t.entries ≡ insert (table_at twelve (number_of (label m).0)) (label m).1 m →
      letters_of size (set twelve (number_of (label m).0) t) ≡ with_letter seen m
  filled_one (message.Decode o x) t is = λ z. record seen {
    decodes = (ap (mapped decode_in) is ∙ mapped-insert name_order decode_in a.entries o (message.Decode o x)) z;
  }
  filled_one (message.Ack o) t is = λ z. record seen {
    acks = (ap (mapped ack_in) is ∙ mapped-insert name_order ack_in b.entries o (message.Ack o)) z;
  }
  filled_one (message.Open x) t is = λ z. record seen {
    opens = (ap (mapped open_in) is ∙ mapped-insert name_order open_in c.entries x.o (message.Open x)) z;
  }
  filled_one (message.Use o v) t is = λ z. record seen {
    uses = (ap (mapped use_in) is ∙ mapped-insert name_order use_in d.entries o (message.Use o v)) z;
  }
  filled_one (message.Ready o v s) t is = λ z. record seen {
    readies = (ap (mapped ready_in) is ∙ mapped-insert name_order ready_in e.entries o (message.Ready o v s)) z;
  }
  filled_one (message.Link o next) t is = λ z. record seen {
    links = (ap (mapped link_in) is ∙ mapped-insert name_order link_in f.entries o (message.Link o next)) z;
  }
  filled_one (message.Release o v b) t is = λ z. record seen {
    releases = (ap (mapped release_in) is ∙ mapped-insert name_order release_in g.entries o (message.Release o v b)) z;
  }
  filled_one (message.Bye o b) t is = λ z. record seen {
    byes = (ap (mapped bye_in) is ∙ mapped-insert name_order bye_in h.entries o (message.Bye o b)) z;
  }
  filled_one (message.Idle v b n) t is = λ z. record seen {
    idles = (ap (mapped idle_in) is ∙ mapped-insert name_order idle_in i.entries v (message.Idle v b n)) z;
  }
  filled_one (message.Nack v) t is = λ z. record seen {
    nacks = (ap (mapped ack_in) is ∙ mapped-insert name_order ack_in j.entries v (message.Nack v)) z;
  }
  filled_one (message.Retire v) t is = λ z. record seen {
    retires = (ap (mapped ack_in) is ∙ mapped-insert name_order ack_in k.entries v (message.Retire v)) z;
  }
  filled_one (message.Gone x) t is = λ z. record seen {
    gones = (ap (mapped gone_in) is ∙ mapped-insert name_order gone_in l.entries x.version (message.Gone x)) z;
  }

  emptied_one : (q : Kind) (o : OpName) (t : Letters) → t.entries ≡ remove (table_at twelve (number_of q)) o →
      letters_of size (set twelve (number_of q) t) ≡ without_letter seen (event_of q o)
  emptied_one kind.Decode o t is = λ z. record seen {
    decodes = (ap (mapped decode_in) is ∙ mapped-remove name_order decode_in a.entries o) z;
  }
  emptied_one kind.Ack o t is = λ z. record seen {
    acks = (ap (mapped ack_in) is ∙ mapped-remove name_order ack_in b.entries o) z;
  }
  emptied_one kind.Open o t is = λ z. record seen {
    opens = (ap (mapped open_in) is ∙ mapped-remove name_order open_in c.entries o) z;
  }
  emptied_one kind.Use o t is = λ z. record seen {
    uses = (ap (mapped use_in) is ∙ mapped-remove name_order use_in d.entries o) z;
  }
  emptied_one kind.Ready o t is = λ z. record seen {
    readies = (ap (mapped ready_in) is ∙ mapped-remove name_order ready_in e.entries o) z;
  }
  emptied_one kind.Link o t is = λ z. record seen {
    links = (ap (mapped link_in) is ∙ mapped-remove name_order link_in f.entries o) z;
  }
  emptied_one kind.Release o t is = λ z. record seen {
    releases = (ap (mapped release_in) is ∙ mapped-remove name_order release_in g.entries o) z;
  }
  emptied_one kind.Bye o t is = λ z. record seen {
    byes = (ap (mapped bye_in) is ∙ mapped-remove name_order bye_in h.entries o) z;
  }
  emptied_one kind.Idle o t is = λ z. record seen {
    idles = (ap (mapped idle_in) is ∙ mapped-remove name_order idle_in i.entries o) z;
  }
  emptied_one kind.Nack o t is = λ z. record seen {
    nacks = (ap (mapped ack_in) is ∙ mapped-remove name_order ack_in j.entries o) z;
  }
  emptied_one kind.Retire o t is = λ z. record seen {
    retires = (ap (mapped ack_in) is ∙ mapped-remove name_order ack_in k.entries o) z;
  }
  emptied_one kind.Gone o t is = λ z. record seen {
    gones = (ap (mapped gone_in) is ∙ mapped-remove name_order gone_in l.entries o) z;
  }

  counted_one : mail.message_count (mail_of seen) ≡ total twelve
  counted_one =
      let n0 = len-mapped decode_in a.entries in
      let n1 = len-mapped ack_in b.entries in
      let n2 = len-mapped opening_of (mapped open_in c.entries) ∙ len-mapped open_in c.entries in
      let n3 = len-mapped use_in d.entries in
      let n4 = len-mapped told_source (mapped ready_in e.entries) ∙ len-mapped ready_in e.entries in
      let n5 = len-mapped link_in f.entries in
      let n6 = len-mapped told_release (mapped release_in g.entries) ∙ len-mapped release_in g.entries in
      let n7 = len-mapped bye_in h.entries in
      let n8 = len-mapped told_idle (mapped idle_in i.entries) ∙ len-mapped idle_in i.entries in
      let n9 = len-mapped ack_in j.entries in
      let n10 = len-mapped ack_in k.entries in
      let n11 = len-mapped gone_of (mapped gone_in l.entries) ∙ len-mapped gone_in l.entries in
      omega (arith, n0, n1, n2, n3, n4, n5, n6, n7, n8, n9, n10, n11)

  named_one : names_from 0 twelve ≡ mail.message_names (mail_of seen)
  named_one =
      let n0 = ap (map event.Decode) (sym (keys-mapped decode_in a.entries)) in
      let n1 = ap (map event.Ack) (sym (keys-mapped ack_in b.entries)) in
      let n2 = ap (map event.Open) (sym (keys-mapped opening_of (mapped open_in c.entries) ∙ keys-mapped open_in c.entries)) in
      let n3 = ap (map event.Use) (sym (keys-mapped use_in d.entries)) in
      let n4 = ap (map event.Ready) (sym (keys-mapped told_source (mapped ready_in e.entries) ∙ keys-mapped ready_in e.entries)) in
      let n5 = ap (map event.Link) (sym (keys-mapped link_in f.entries)) in
      let n6 = ap (map event.Release) (sym (keys-mapped told_release (mapped release_in g.entries) ∙ keys-mapped release_in g.entries)) in
      let n7 = ap (map event.Bye) (sym (keys-mapped bye_in h.entries)) in
      let n8 = ap (map event.Idle) (sym (keys-mapped told_idle (mapped idle_in i.entries) ∙ keys-mapped idle_in i.entries)) in
      let n9 = ap (map event.Nack) (sym (keys-mapped ack_in j.entries)) in
      let n10 = ap (map event.Retire) (sym (keys-mapped ack_in k.entries)) in
      let n11 = ap (map event.Gone) (sym (keys-mapped gone_of (mapped gone_in l.entries) ∙ keys-mapped gone_in l.entries)) in
      (λ z. n0 z ++ (n1 z ++ (n2 z ++ (n3 z ++ (n4 z ++ (n5 z ++ (n6 z ++ (n7 z ++ (n8 z ++ (n9 z ++ (n10 z ++ (n11 z ++ []))))))))))))
      ∙ gathered (map event.Decode (keys (mail_of seen).decodes))
      (map event.Ack (keys (mail_of seen).acks))
      (map event.Open (keys (mail_of seen).opens))
      (map event.Use (keys (mail_of seen).uses))
      (map event.Ready (keys (mail_of seen).readies))
      (map event.Link (keys (mail_of seen).links))
      (map event.Release (keys (mail_of seen).releases))
      (map event.Bye (keys (mail_of seen).byes))
      (map event.Idle (keys (mail_of seen).idles))
      (map event.Nack (keys (mail_of seen).nacks))
      (map event.Retire (keys (mail_of seen).retires))
      (map event.Gone (keys (mail_of seen).gones))

module _ (size : ℕ) (ts : List Letters) (twelve : length ts ≡ 12) where
  -- a message more in its table is a message more in the mail
  pub filled : (m : Message) (t : Letters) → t.entries ≡ insert (table_at ts (number_of (label m).0)) (label m).1 m →
      letters_of size (set ts (number_of (label m).0) t) ≡ with_letter (letters_of size ts) m
  filled = by_twelve
      (λ us. (m : Message) (t : Letters) → t.entries ≡ insert (table_at us (number_of (label m).0)) (label m).1 m →
      letters_of size (set us (number_of (label m).0) t) ≡ with_letter (letters_of size us) m)
      (filled_one size) ts twelve

  -- a message less
  pub emptied : (q : Kind) (o : OpName) (t : Letters) → t.entries ≡ remove (table_at ts (number_of q)) o →
      letters_of size (set ts (number_of q) t) ≡ without_letter (letters_of size ts) (event_of q o)
  emptied = by_twelve
      (λ us. (q : Kind) (o : OpName) (t : Letters) → t.entries ≡ remove (table_at us (number_of q)) o →
      letters_of size (set us (number_of q) t) ≡ without_letter (letters_of size us) (event_of q o))
      (emptied_one size) ts twelve

  -- how many there are
  pub counted : mail.message_count (mail_of (letters_of size ts)) ≡ total ts
  counted = by_twelve (λ us. mail.message_count (mail_of (letters_of size us)) ≡ total us) (counted_one size) ts twelve

  -- their names
  pub named : names_from 0 ts ≡ mail.message_names (mail_of (letters_of size ts))
  named = by_twelve (λ us. names_from 0 us ≡ mail.message_names (mail_of (letters_of size us))) (named_one size) ts twelve

-- ---- the mail of the definitions

pub posted-with_letter : (s : MailState) (m : Message) →
    mail_of (with_letter s m) ≡ mail.posted (mail_of s) (message_of m)
posted-with_letter s (message.Decode o x) = refl
posted-with_letter s (message.Ack o) = refl
posted-with_letter s (message.Open x) =
    λ z. record (mail_of s) { opens = mapped-insert name_order opening_of s.opens x.o x z }
posted-with_letter s (message.Use o v) = refl
posted-with_letter s (message.Ready o v w) =
    λ z. record (mail_of s) { readies = mapped-insert name_order told_source s.readies o (v, w) z }
posted-with_letter s (message.Link o next) = refl
posted-with_letter s (message.Release o v b) =
    λ z. record (mail_of s) { releases = mapped-insert name_order told_release s.releases o (v, b) z }
posted-with_letter s (message.Bye o b) = refl
posted-with_letter s (message.Idle v b n) =
    λ z. record (mail_of s) { idles = mapped-insert name_order told_idle s.idles v (b, n) z }
posted-with_letter s (message.Nack v) = refl
posted-with_letter s (message.Retire v) = refl
posted-with_letter s (message.Gone x) =
    λ z. record (mail_of s) { gones = mapped-insert name_order gone_of s.gones x.version x z }

pub taken-without_letter : (s : MailState) (e : Event) → mail_of (without_letter s e) ≡ mail.taken (mail_of s) e
taken-without_letter s (event.Decode o) = refl
taken-without_letter s (event.Ack o) = refl
taken-without_letter s (event.Open o) =
    λ z. record (mail_of s) { opens = mapped-remove name_order opening_of s.opens o z }
taken-without_letter s (event.Use o) = refl
taken-without_letter s (event.Ready o) =
    λ z. record (mail_of s) { readies = mapped-remove name_order told_source s.readies o z }
taken-without_letter s (event.Link o) = refl
taken-without_letter s (event.Release o) =
    λ z. record (mail_of s) { releases = mapped-remove name_order told_release s.releases o z }
taken-without_letter s (event.Bye o) = refl
taken-without_letter s (event.Idle o) =
    λ z. record (mail_of s) { idles = mapped-remove name_order told_idle s.idles o z }
taken-without_letter s (event.Nack o) = refl
taken-without_letter s (event.Retire o) = refl
taken-without_letter s (event.Gone o) =
    λ z. record (mail_of s) { gones = mapped-remove name_order gone_of s.gones o z }
taken-without_letter s event.Main = refl
taken-without_letter s event.Take = refl
taken-without_letter s (event.Start n) = refl
taken-without_letter s (event.Exec n) = refl
taken-without_letter s (event.Finish n) = refl
taken-without_letter s (event.Copy n) = refl
