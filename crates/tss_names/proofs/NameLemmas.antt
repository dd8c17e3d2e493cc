-- A fact of each name, and what keeps it.
use Rattle.std.proofs.Common.{inl, inr, List, [], ◌∷◌, sym, ◌∙◌, subst}
use Rattle.std.specs.declared.cmp.Ordering.{Ordering}
use Rattle.std.specs.FinMap.{FinMap, insert, remove, empty, get-empty}
use Rattle.std.proofs.lemmas.Option.{none-some}
use Rattle.tss_base.specs.declared.event.Event.{Event}
use Rattle.tss_base.specs.declared.event.Event.TheVariants as event
use Rattle.tss_maps.proofs.Keys.{IsKeyOrder, name_order}
use Rattle.tss_maps.proofs.Changes.{from_inserted, from_removed}
use Rattle.tss_protocol.specs.Mail.{Message, Decode, Ack, Open, Use, Ready, Link, Release, Bye, Idle, Nack, Retire}
use Rattle.tss_protocol.specs.Mail.{Gone, Mail, posted, posted_all, taken, no_mail}
use Rattle.tss_names.specs.Names.{EachEntry, EachMessage}
use Rattle.tss_protocol.proofs.SentLemmas.{AllSent}

module _ {K X : Type 0} {R : K → K → Ordering} (order : IsKeyOrder R) (P : K → X → Type 0) where
  -- of one more entry
  pub each_inserted : (m : FinMap R X) (k : K) (v : X) → EachEntry P m → P k v → EachEntry P (insert m k v)
  each_inserted m k v each new q x e =
      elim (from_inserted order m k v q x e) [
        | inl here ↦ subst (λ q. P q x) (sym here.0) (subst (P k) (sym here.1) new)
        | inr before ↦ each q x before.1
      ]

  -- of one less
  pub each_removed : (m : FinMap R X) (k : K) → EachEntry P m → EachEntry P (remove m k)
  each_removed m k each q x e = each q x (from_removed order m k q x e).1

  -- of none
  pub each_empty : EachEntry P (empty {X = X} {R = R})
  each_empty q x e = absurd (none-some x (sym (get-empty R q) ∙ e))

-- a fact of each message but decodes, by kind
abbrev pub EachSent : (Message → Type 0) → Mail → Type 0
EachSent Q m =
    EachEntry (λ o x. Q (Ack o)) m.acks
    × EachEntry (λ o c. Q (Open o c)) m.opens
    × EachEntry (λ o v. Q (Use o v)) m.uses
    × EachEntry (λ o s. Q (Ready o s)) m.readies
    × EachEntry (λ o next. Q (Link o next)) m.links
    × EachEntry (λ o r. Q (Release o r)) m.releases
    × EachEntry (λ o promised. Q (Bye o promised)) m.byes
    × EachEntry (λ v i. Q (Idle v i)) m.idles
    × EachEntry (λ v x. Q (Nack v)) m.nacks
    × EachEntry (λ v x. Q (Retire v)) m.retires
    × EachEntry (λ v g. Q (Gone v g)) m.gones

module _ (Q : Message → Type 0) where
  -- of one more message
  each_posted : (m : Mail) (x : Message) → EachSent Q m → Q x → EachSent Q (posted m x)
  each_posted m (Decode o operand) e new = e
  each_posted m (Ack o) e new =
      let f = each_inserted name_order (λ o x. Q (Ack o)) m.acks o tt e.0 new in
      (f, e.1, e.2, e.3, e.4, e.5, e.6, e.7, e.8, e.9, e.10)
  each_posted m (Open o c) e new =
      let f = each_inserted name_order (λ o c. Q (Open o c)) m.opens o c e.1 new in
      (e.0, f, e.2, e.3, e.4, e.5, e.6, e.7, e.8, e.9, e.10)
  each_posted m (Use o v) e new =
      let f = each_inserted name_order (λ o v. Q (Use o v)) m.uses o v e.2 new in
      (e.0, e.1, f, e.3, e.4, e.5, e.6, e.7, e.8, e.9, e.10)
  each_posted m (Ready o s) e new =
      let f = each_inserted name_order (λ o s. Q (Ready o s)) m.readies o s e.3 new in
      (e.0, e.1, e.2, f, e.4, e.5, e.6, e.7, e.8, e.9, e.10)
  each_posted m (Link o next) e new =
      let f = each_inserted name_order (λ o next. Q (Link o next)) m.links o next e.4 new in
      (e.0, e.1, e.2, e.3, f, e.5, e.6, e.7, e.8, e.9, e.10)
  each_posted m (Release o r) e new =
      let f = each_inserted name_order (λ o r. Q (Release o r)) m.releases o r e.5 new in
      (e.0, e.1, e.2, e.3, e.4, f, e.6, e.7, e.8, e.9, e.10)
  each_posted m (Bye o promised) e new =
      let f = each_inserted name_order (λ o promised. Q (Bye o promised)) m.byes o promised e.6 new in
      (e.0, e.1, e.2, e.3, e.4, e.5, f, e.7, e.8, e.9, e.10)
  each_posted m (Idle v i) e new =
      let f = each_inserted name_order (λ v i. Q (Idle v i)) m.idles v i e.7 new in
      (e.0, e.1, e.2, e.3, e.4, e.5, e.6, f, e.8, e.9, e.10)
  each_posted m (Nack v) e new =
      let f = each_inserted name_order (λ v x. Q (Nack v)) m.nacks v tt e.8 new in
      (e.0, e.1, e.2, e.3, e.4, e.5, e.6, e.7, f, e.9, e.10)
  each_posted m (Retire v) e new =
      let f = each_inserted name_order (λ v x. Q (Retire v)) m.retires v tt e.9 new in
      (e.0, e.1, e.2, e.3, e.4, e.5, e.6, e.7, e.8, f, e.10)
  each_posted m (Gone v g) e new =
      let f = each_inserted name_order (λ v g. Q (Gone v g)) m.gones v g e.10 new in
      (e.0, e.1, e.2, e.3, e.4, e.5, e.6, e.7, e.8, e.9, f)

  -- of more
  pub each_posted_all : (m : Mail) (xs : List Message) → EachSent Q m → AllSent Q xs → EachSent Q (posted_all m xs)
  each_posted_all m [] each new = each
  each_posted_all m (x ∷ xs) each new = each_posted_all (posted m x) xs (each_posted m x each new.0) new.1

  -- of one less
  pub each_taken : (m : Mail) (e : Event) → EachSent Q m → EachSent Q (taken m e)
  each_taken m (event.Decode o) e = e
  each_taken m (event.Ack o) e =
      let f = each_removed name_order (λ o x. Q (Ack o)) m.acks o e.0 in
      (f, e.1, e.2, e.3, e.4, e.5, e.6, e.7, e.8, e.9, e.10)
  each_taken m (event.Open o) e =
      let f = each_removed name_order (λ o c. Q (Open o c)) m.opens o e.1 in
      (e.0, f, e.2, e.3, e.4, e.5, e.6, e.7, e.8, e.9, e.10)
  each_taken m (event.Use o) e =
      let f = each_removed name_order (λ o v. Q (Use o v)) m.uses o e.2 in
      (e.0, e.1, f, e.3, e.4, e.5, e.6, e.7, e.8, e.9, e.10)
  each_taken m (event.Ready o) e =
      let f = each_removed name_order (λ o s. Q (Ready o s)) m.readies o e.3 in
      (e.0, e.1, e.2, f, e.4, e.5, e.6, e.7, e.8, e.9, e.10)
  each_taken m (event.Link o) e =
      let f = each_removed name_order (λ o next. Q (Link o next)) m.links o e.4 in
      (e.0, e.1, e.2, e.3, f, e.5, e.6, e.7, e.8, e.9, e.10)
  each_taken m (event.Release o) e =
      let f = each_removed name_order (λ o r. Q (Release o r)) m.releases o e.5 in
      (e.0, e.1, e.2, e.3, e.4, f, e.6, e.7, e.8, e.9, e.10)
  each_taken m (event.Bye o) e =
      let f = each_removed name_order (λ o promised. Q (Bye o promised)) m.byes o e.6 in
      (e.0, e.1, e.2, e.3, e.4, e.5, f, e.7, e.8, e.9, e.10)
  each_taken m (event.Idle v) e =
      let f = each_removed name_order (λ v i. Q (Idle v i)) m.idles v e.7 in
      (e.0, e.1, e.2, e.3, e.4, e.5, e.6, f, e.8, e.9, e.10)
  each_taken m (event.Nack v) e =
      let f = each_removed name_order (λ v x. Q (Nack v)) m.nacks v e.8 in
      (e.0, e.1, e.2, e.3, e.4, e.5, e.6, e.7, f, e.9, e.10)
  each_taken m (event.Retire v) e =
      let f = each_removed name_order (λ v x. Q (Retire v)) m.retires v e.9 in
      (e.0, e.1, e.2, e.3, e.4, e.5, e.6, e.7, e.8, f, e.10)
  each_taken m (event.Gone v) e =
      let f = each_removed name_order (λ v g. Q (Gone v g)) m.gones v e.10 in
      (e.0, e.1, e.2, e.3, e.4, e.5, e.6, e.7, e.8, e.9, f)
  each_taken m other e = e

  -- of none
  pub each_no_mail : EachSent Q no_mail
  each_no_mail = (
    each_empty name_order (λ o x. Q (Ack o)),
    each_empty name_order (λ o c. Q (Open o c)),
    each_empty name_order (λ o v. Q (Use o v)),
    each_empty name_order (λ o s. Q (Ready o s)),
    each_empty name_order (λ o next. Q (Link o next)),
    each_empty name_order (λ o r. Q (Release o r)),
    each_empty name_order (λ o promised. Q (Bye o promised)),
    each_empty name_order (λ v i. Q (Idle v i)),
    each_empty name_order (λ v x. Q (Nack v)),
    each_empty name_order (λ v x. Q (Retire v)),
    each_empty name_order (λ v g. Q (Gone v g)),
  )

-- and of each message
pub each_sent_weaker : (P Q : Message → Type 0) (m : Mail) → ((x : Message) → P x → Q x) → EachSent P m → EachSent Q m
each_sent_weaker P Q m weaker each = (
  λ o x e. weaker (Ack o) (each.0 o x e),
  λ o c e. weaker (Open o c) (each.1 o c e),
  λ o v e. weaker (Use o v) (each.2 o v e),
  λ o s e. weaker (Ready o s) (each.3 o s e),
  λ o next e. weaker (Link o next) (each.4 o next e),
  λ o r e. weaker (Release o r) (each.5 o r e),
  λ o promised e. weaker (Bye o promised) (each.6 o promised e),
  λ v i e. weaker (Idle v i) (each.7 v i e),
  λ v x e. weaker (Nack v) (each.8 v x e),
  λ v x e. weaker (Retire v) (each.9 v x e),
  λ v g e. weaker (Gone v g) (each.10 v g e),
)

-- as the law says it
pub each_message : (Q : Message → Type 0) (m : Mail) → EachSent Q m → EachMessage Q m
each_message Q m e = record {
  acks = e.0;
  opens = e.1;
  uses = e.2;
  readies = e.3;
  links = e.4;
  releases = e.5;
  byes = e.6;
  idles = e.7;
  nacks = e.8;
  retires = e.9;
  gones = e.10;
}
