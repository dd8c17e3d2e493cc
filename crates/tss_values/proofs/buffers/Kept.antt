-- What a state has to keep so that each buffer has one holder, and what a settle leaves of them.
use Rattle.std.proofs.Common.{◌≡◌, ◌≢◌, ◌⊎◌, inl, inr, ℕ, ◌<◌, ◌≤◌, List, ◌∷◌, Option, Some, None, refl, sym, ap, ◌∙◌}
use Rattle.std.proofs.Common.{subst, arith}
use Rattle.std.specs.FinMap.{get}
use Rattle.std.proofs.lemmas.Option.{none-some, same_Some}
use Rattle.tss_base.specs.declared.operand.OpName.{OpName}
use Rattle.tss_base.specs.declared.operand.Operand.{Operand}
use Rattle.tss_base.specs.declared.operand.Task.{Task}
use Rattle.tss_base.specs.Names.{Named}
use Rattle.tss_maps.proofs.Keys.{name_order}
use Rattle.tss_maps.proofs.Changes.{from_inserted}
use Rattle.tss_protocol.specs.Mail.{StorageName, Home, Buffer, GoneContents, Message, Gone, Mail, posted, posted_all}
use Rattle.tss_protocol.specs.State.{State, Version}
use Rattle.tss_protocol.specs.Versions.{buffer_of, settled}
use Rattle.tss_control.specs.Members.{operand_among}
use Rattle.tss_control.specs.Chains.{HasChains}
use Rattle.tss_names.specs.Held.{IsCopied}
use Rattle.tss_values.specs.Buffers.{OpenHas, VersionHas, GoneHas, CopyHas, HasBuffer, HasBuffers}
use Rattle.tss_protocol.proofs.SettleCases.{OthersSettled}
use Rattle.tss_control.proofs.chains.Settled.{chains_next}
use Rattle.tss_protocol.proofs.SentLemmas.{AllSent}
use Rattle.tss_values.proofs.buffers.Settled.{KeepsStorages, IsNoGone, gones_kept, LeavesAll, GivesStorage}
use Rattle.tss_values.proofs.buffers.Settled.{TakesStorage, SettlesBuffers, settles_buffers}

-- ---- holders

-- who has a buffer had it before
pub record PassesBuffers (S T : State) : Type 0 where
  pub opens : (v b : OpName) → OpenHas T v b → HasBuffer S v b
  pub versions : (v b : OpName) → VersionHas T v b → HasBuffer S v b
  pub gones : (v b : OpName) → GoneHas T v b → HasBuffer S v b
  pub copies : (v b : OpName) → CopyHas T v b → HasBuffer S v b

-- of each
pub had_before : (S T : State) → PassesBuffers S T → (v b : OpName) → HasBuffer T v b → HasBuffer S v b
had_before S T k v b (inl h) = k.opens v b h
had_before S T k v b (inr (inl h)) = k.versions v b h
had_before S T k v b (inr (inr (inl h))) = k.gones v b h
had_before S T k v b (inr (inr (inr h))) = k.copies v b h

-- then each still has one holder, where those that are left are held
pub buffers_kept : (ts : List Task) (S T : State) → HasBuffers ts S → PassesBuffers S T
    → ((v b : OpName) (bank : ℕ) → HasBuffer T v b → get S.buffers b ≡ Some bank → get T.buffers b ≡ Some bank)
    → HasBuffers ts T
buffers_kept ts S T h k still = record {
  held = λ v b t.
      let f = h.held v b (had_before S T k v b t) in
      (f.0, still v b f.0 t f.1);
  one = λ v w b t u. h.one v w b (had_before S T k v b t) (had_before S T k w b u);
  own = λ v b t. h.own v b (had_before S T k v b t);
}

-- the same maps but for versions, which keep their storages
pub record SameHolders (S T : State) : Type 0 where
  pub opens : T.mail.opens ≡ S.mail.opens
  pub versions : KeepsStorages S.versions T.versions
  pub gones : T.mail.gones ≡ S.mail.gones
  pub copies : T.copies ≡ S.copies
  pub buffers : T.buffers ≡ S.buffers

-- a version that keeps its storage had the buffer
version_had : (S : State) (us : Named Version) → KeepsStorages S.versions us → (v b : OpName) (y : Version)
    → get us v ≡ Some y → y.storage ≡ Some (Buffer b) → VersionHas S v b
version_had S us k v b y e s = let h = k v y e in (h.0, h.1, sym h.2 ∙ s)

-- so each buffer has one holder
pub HasBuffers-same : (ts : List Task) (S T : State) → SameHolders S T → HasBuffers ts S → HasBuffers ts T
HasBuffers-same ts S T k h = buffers_kept ts S T h (record {
  opens = λ v b t. inl (t.0, sym (ap (λ os. get os v) k.opens) ∙ t.1, t.2);
  versions = λ v b t. inr (inl (version_had S T.versions k.versions v b t.0 t.1 t.2));
  gones = λ v b t. inr (inr (inl (t.0, sym (ap (λ gs. get gs v) k.gones) ∙ t.1, t.2)));
  copies = λ v b t. inr (inr (inr (t.0, t.1, sym (ap (λ cs. get cs t.0) k.copies) ∙ t.2, t.3, t.4)));
}) (λ v b bank t e. ap (λ bs. get bs b) k.buffers ∙ e)

-- ---- a buffer passes on

-- v has given its buffer to s, and has none
record GivesBuffer (ts : List Task) (S T : State) (v s : OpName) : Type 0 where
  pub buffers : T.buffers ≡ S.buffers
  pub from : (w b : OpName) → HasBuffer T w b → HasBuffer S w b ⊎ ((w ≡ s) × HasBuffer S v b)
  pub free : (b : OpName) → HasBuffer T v b → ⊥
  pub from_one : Operand
  pub from_there : operand_among ts v ≡ Some from_one
  pub to_one : Operand
  pub to_there : operand_among ts s ≡ Some to_one
  pub object : to_one.object ≡ from_one.object
  pub younger : v.task < s.task

below : (a b c : ℕ) → a ≤ b → b < c → a ≤ c
below a b c h k = omega (arith, h, k)

module _ (ts : List Task) (S T : State) (v s : OpName) (h : HasBuffers ts S) (k : GivesBuffer ts S T v s) where
  abbrev Before : OpName → OpName → Type 0
  Before w b = HasBuffer S w b ⊎ ((w ≡ s) × HasBuffer S v b)

  held_then : (w b : OpName) → Before w b → (bank : ℕ) × (get T.buffers b ≡ Some bank)
  held_then w b (inl t) = let f = h.held w b t in (f.0, ap (λ bs. get bs b) k.buffers ∙ f.1)
  held_then w b (inr p) = let f = h.held v b p.1 in (f.0, ap (λ bs. get bs b) k.buffers ∙ f.1)

  one_then : (w u b : OpName) → HasBuffer T w b → HasBuffer T u b → Before w b → Before u b → w ≡ u
  one_then w u b t r (inl p) (inl q) = h.one w u b p q
  one_then w u b t r (inl p) (inr q) =
      absurd (k.free b (subst (λ w. HasBuffer T w b) (h.one w v b p q.1) t))
  one_then w u b t r (inr p) (inl q) =
      absurd (k.free b (subst (λ u. HasBuffer T u b) (h.one u v b q p.1) r))
  one_then w u b t r (inr p) (inr q) = p.0 ∙ sym q.0

  abbrev Own : OpName → OpName → Type 0
  Own w b = (p : Operand) × (q : Operand) × (operand_among ts w ≡ Some p) × (operand_among ts b ≡ Some q)
      × (q.object ≡ p.object) × (b.task ≤ w.task)

  own_then : (w b : OpName) → Before w b → Own w b
  own_then w b (inl t) = h.own w b t
  own_then w b (inr p) =
      let f = h.own v b p.1 in
      let same = same_Some f.0 k.from_one (sym f.2 ∙ k.from_there) in (
        k.to_one,
        f.1,
        ap (operand_among ts) p.0 ∙ k.to_there,
        f.3,
        f.4 ∙ ap (λ (p : Operand). p.object) same ∙ sym k.object,
        below b.task v.task w.task f.5 (subst (λ (q : OpName). v.task < q.task) (sym p.0) k.younger),
      )

  -- each buffer has one holder
  buffers_given : HasBuffers ts T
  buffers_given = record {
    held = λ w b t. held_then w b (k.from w b t);
    one = λ w u b t r. one_then w u b t r (k.from w b t) (k.from u b r);
    own = λ w b t. own_then w b (k.from w b t);
  }

-- ---- a settle

buffer_from : (s : Option StorageName) (b : OpName) → buffer_of s ≡ Some b → s ≡ Some (Buffer b)
buffer_from None b e = absurd (none-some b e)
buffer_from (Some Home) b e = absurd (none-some b e)
buffer_from (Some (Buffer n)) b e = ap (λ b. Some (Buffer b)) (same_Some n b e)

-- what an event leaves beside the settle of a version
pub record Settles (S T : State) (v : OpName) (k : Mail) : Type 0 where
  pub versions : T.versions ≡ (settled S.versions v).part
  pub opens : T.mail.opens ≡ S.mail.opens
  pub copies : T.copies ≡ S.copies
  pub buffers : T.buffers ≡ S.buffers
  pub gones : T.mail.gones ≡ (posted_all k (settled S.versions v).sent).gones
  pub before : k.gones ≡ S.mail.gones
  pub no_open : (x : Version) → get S.versions v ≡ Some x → get S.mail.opens v ≡ None
  pub no_copy : (x : Version) → get S.versions v ≡ Some x → IsCopied S.copies v → ⊥

module _ (ts : List Task) (S T : State) (v : OpName) (k : Mail) (h : HasBuffers ts S) (chains : HasChains ts S)
    (d : Settles S T v k) where
  open_was : (w b : OpName) → OpenHas T w b → HasBuffer S w b
  open_was w b t = inl (t.0, sym (ap (λ os. get os w) d.opens) ∙ t.1, t.2)

  copy_was : (w b : OpName) → CopyHas T w b → HasBuffer S w b
  copy_was w b t = inr (inr (inr (t.0, t.1, sym (ap (λ cs. get cs t.0) d.copies) ∙ t.2, t.3, t.4)))

  version_now : (w : OpName) (z : Version) → get T.versions w ≡ Some z → get (settled S.versions v).part w ≡ Some z
  version_now w z e = sym (ap (λ vs. get vs w) d.versions) ∙ e

  gone_now : (w : OpName) (g : GoneContents) → get T.mail.gones w ≡ Some g
      → get (posted_all k (settled S.versions v).sent).gones w ≡ Some g
  gone_now w g e = sym (ap (λ gs. get gs w) d.gones) ∙ e

  gone_was : (w b : OpName) (g : GoneContents) → get k.gones w ≡ Some g → g.buffer ≡ Some b → HasBuffer S w b
  gone_was w b g e s = inr (inr (inl (g, ap (λ gs. get gs w) (sym d.before) ∙ e, s)))

  leaves_all : LeavesAll S.versions (settled S.versions v) → HasBuffers ts T
  leaves_all l = buffers_kept ts S T h (record {
    opens = open_was;
    versions = λ w b t.
        inr (inl (version_had S (settled S.versions v).part l.storages w b t.0 (version_now w t.0 t.1) t.2));
    gones = λ w b t.
        gone_was w b t.0
        (sym (ap (λ gs. get gs w) (gones_kept k (settled S.versions v).sent l.sent)) ∙ gone_now w t.0 t.1) t.2;
    copies = copy_was;
  }) (λ w b bank t e. ap (λ bs. get bs b) d.buffers ∙ e)

  -- the message of the version that went stands in front
  gone_of : (c : GoneContents) (ms : List Message) → (settled S.versions v).sent ≡ Gone v c ∷ ms → AllSent IsNoGone ms
      → (w : OpName) (g : GoneContents) → get T.mail.gones w ≡ Some g
      → ((w ≡ v) × (g ≡ c)) ⊎ ((w ≢ v) × (get k.gones w ≡ Some g))
  gone_of c ms sent none w g e =
      from_inserted name_order k.gones v c w g
      (sym (ap (λ gs. get gs w) (gones_kept (posted k (Gone v c)) ms none))
      ∙ sym (ap (λ xs. get (posted_all k xs).gones w) sent)
      ∙ gone_now w g e)

  takes : TakesStorage S.versions v (settled S.versions v) → HasBuffers ts T
  takes l = buffers_kept ts S T h (record {
    opens = open_was;
    versions = λ w b t.
        let s = (l.storages w t.0 (version_now w t.0 t.1)).1 in
        inr (inl (s.0, s.1, sym s.2 ∙ t.2));
    gones = λ w b t. elim (gone_of l.contents l.rest l.sent l.others w t.0 t.1) [
      | inr old ↦ gone_was w b t.0 old.1 t.2
      | inl new ↦
          inr (inl (
            l.version,
            ap (get S.versions) new.0 ∙ l.there,
            buffer_from l.version.storage b
                (sym l.buffer ∙ ap (λ (g : GoneContents). g.buffer) (sym new.1) ∙ t.2),
          ))
    ];
    copies = copy_was;
  }) (λ w b bank t e. ap (λ bs. get bs b) d.buffers ∙ e)

  module _ (l : GivesStorage S.versions v (settled S.versions v)) where
    gives_from : (w b : OpName) → HasBuffer T w b → HasBuffer S w b ⊎ ((w ≡ l.follow.version) × HasBuffer S v b)
    gives_from w b (inl t) = inl (open_was w b t)
    gives_from w b (inr (inl t)) = elim (l.storages w t.0 (version_now w t.0 t.1)).1 [
      | inl s ↦ inl (inr (inl (s.0, s.1, sym s.2 ∙ t.2)))
      | inr p ↦ inr (p.0, inr (inl (l.version, l.there, sym p.1 ∙ t.2)))
    ]
    gives_from w b (inr (inr (inl t))) = elim (gone_of l.contents l.rest l.sent l.others w t.0 t.1) [
      | inr old ↦ inl (gone_was w b t.0 old.1 t.2)
      | inl new ↦
          absurd (none-some b (sym l.free ∙ ap (λ (g : GoneContents). g.buffer) (sym new.1) ∙ t.2))
    ]
    gives_from w b (inr (inr (inr t))) = inl (copy_was w b t)

    gives_free : (b : OpName) → HasBuffer T v b → ⊥
    gives_free b (inl t) =
        none-some t.0 (sym (d.no_open l.version l.there) ∙ sym (ap (λ os. get os v) d.opens) ∙ t.1)
    gives_free b (inr (inl t)) = (l.storages v t.0 (version_now v t.0 t.1)).0 refl
    gives_free b (inr (inr (inl t))) = elim (gone_of l.contents l.rest l.sent l.others v t.0 t.1) [
      | inl new ↦ none-some b (sym l.free ∙ ap (λ (g : GoneContents). g.buffer) (sym new.1) ∙ t.2)
      | inr old ↦ old.0 refl
    ]
    gives_free b (inr (inr (inr t))) =
        d.no_copy l.version l.there (t.0, t.1, sym (ap (λ cs. get cs t.0) d.copies) ∙ t.2, t.3)

    gives : HasBuffers ts T
    gives =
        let s = (chains.linked v l.version l.there).followed l.follow l.next in
        let p = chains.opener v l.version l.there in
        let q = chains.opener l.follow.version s.version s.there in
        buffers_given ts S T v l.follow.version h (record {
          buffers = d.buffers;
          from = gives_from;
          free = gives_free;
          from_one = p.0;
          from_there = p.1;
          to_one = q.0;
          to_there = q.1;
          object = q.2 ∙ s.object ∙ sym p.2;
          younger = s.younger;
        })

  by_case : SettlesBuffers S.versions v (settled S.versions v) → HasBuffers ts T
  by_case (inl l) = leaves_all l
  by_case (inr (inl l)) = gives l
  by_case (inr (inr l)) = takes l

  -- each buffer has one holder after a settle
  pub buffers_settled : OthersSettled S.versions v → HasBuffers ts T
  buffers_settled others =
      by_case (settles_buffers S.versions v others (λ x there. chains_next ts S chains v x there))
