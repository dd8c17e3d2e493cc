-- Lists of messages that may be posted: one list after another, and how many messages there are with them.
use Rattle.std.proofs.Common.{◌≡◌, ℕ, suc, ◌+◌, List, [], ◌∷◌, ◌++◌, length, Option, Some, None, refl, arith}
use Rattle.std.specs.Prelude.{option_map}
use Rattle.std.specs.FinMap.{get}
use Rattle.tss_maps.proofs.Keys.{name_order}
use Rattle.tss_maps.proofs.Entries.{len_added}
use Rattle.tss_protocol.specs.Mail.{Message, Decode, Ack, Open, Use, Ready, Link, Release, Bye, Idle, Nack, Retire}
use Rattle.tss_protocol.specs.Mail.{Gone, Mail, name_of, posted, posted_all, message_at, message_count}
use Rattle.tss_conditions.specs.Posting.{ArePostable, MayPostAll, MayPostNext}

-- one list after another
pub postable_append : (m : Mail) (xs ys : List Message) → ArePostable m xs → ArePostable (posted_all m xs) ys
    → ArePostable m (xs ++ ys)
postable_append m [] ys a b = b
postable_append m (x ∷ xs) ys a b = (a.0, postable_append (posted m x) xs ys a.1 b)

-- nothing stands where no message is made of it
pub nothing_there : {X : Type 0} → (f : X → Message) (x : Option X) → option_map f x ≡ None → x ≡ None
nothing_there f None e = refl
nothing_there f (Some x) e = absurd (cc)

-- one more message
one_more : (m : Mail) (x : Message) → message_at m (name_of x) ≡ None
    → message_count (posted m x) ≡ suc (message_count m)
one_more m (Decode o p) e =
    let a = len_added name_order m.decodes o p (nothing_there (Decode o) (get m.decodes o) e) in omega (arith, a)
one_more m (Ack o) e =
    let a = len_added name_order m.acks o tt (nothing_there (λ x. Ack o) (get m.acks o) e) in omega (arith, a)
one_more m (Open o c) e =
    let a = len_added name_order m.opens o c (nothing_there (Open o) (get m.opens o) e) in omega (arith, a)
one_more m (Use o v) e =
    let a = len_added name_order m.uses o v (nothing_there (Use o) (get m.uses o) e) in omega (arith, a)
one_more m (Ready o s) e =
    let a = len_added name_order m.readies o s (nothing_there (Ready o) (get m.readies o) e) in omega (arith, a)
one_more m (Link o next) e =
    let a = len_added name_order m.links o next (nothing_there (Link o) (get m.links o) e) in omega (arith, a)
one_more m (Release o r) e =
    let a = len_added name_order m.releases o r (nothing_there (Release o) (get m.releases o) e) in omega (arith, a)
one_more m (Bye o promised) e =
    let a = len_added name_order m.byes o promised (nothing_there (Bye o) (get m.byes o) e) in omega (arith, a)
one_more m (Idle v i) e =
    let a = len_added name_order m.idles v i (nothing_there (Idle v) (get m.idles v) e) in omega (arith, a)
one_more m (Nack v) e =
    let a = len_added name_order m.nacks v tt (nothing_there (λ x. Nack v) (get m.nacks v) e) in omega (arith, a)
one_more m (Retire v) e =
    let a = len_added name_order m.retires v tt (nothing_there (λ x. Retire v) (get m.retires v) e) in omega (arith, a)
one_more m (Gone v g) e =
    let a = len_added name_order m.gones v g (nothing_there (Gone v) (get m.gones v) e) in omega (arith, a)

-- with a list that may be posted there are as many more as it has
pub message_count-posted_all : (m : Mail) (xs : List Message) → ArePostable m xs
    → message_count (posted_all m xs) ≡ message_count m + length xs
message_count-posted_all m [] h = omega arith
message_count-posted_all m (x ∷ xs) h =
    let rest = message_count-posted_all (posted m x) xs h.1 in
    let one = one_more m x h.0 in
    omega (arith, rest, one)

-- the first of a list may be posted, and then the others
pub post_next : (most : ℕ) (m : Mail) (x : Message) (xs : List Message) → MayPostAll most m (x ∷ xs)
    → MayPostNext most m x xs
post_next most m x xs may =
    let few = may.room in
    let one = one_more m x may.fresh.0 in
    record {
      fresh = may.fresh.0;
      room = omega (arith, few);
      rest = record { fresh = may.fresh.1; room = omega (arith, few, one) };
    }
