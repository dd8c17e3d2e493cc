-- What a bank copies, and the state after a piece.
use Rattle.std.proofs.Common.{◌≡◌, ℕ, zero, suc, ◌+◌, ◌-◌, ◌<◌, ◌≤◌, Bool, true, false, true≢false, min, List, [], ◌∷◌, length, take, drop, set, get_or, slice_get, Option, Some, None, refl, sym, ap, ◌∙◌, subst, inl, inr, ◌⊎◌, arith}
use Rattle.std.specs.Prelude.{is_some, unwrap_or, IfSome}
use Rattle.std.specs.FinMap.{get}
use Rattle.std.proofs.lemmas.Option.{same_Some, slice_get_within}
use Rattle.tss_base.specs.declared.bounds.TheConstants.{COPY_BYTES}
use Rattle.tss_base.specs.declared.operand.OpName.{OpName}
use Rattle.tss_base.specs.declared.range.Range.{Range}
use Rattle.tss_base.specs.declared.event.Event.TheVariants as event
use Rattle.tss_base.specs.Range.{end_of}
use Rattle.tss_base.specs.Names.{Named, Numbered}
use Rattle.tss_model.specs.Memory.{Memory, put_bytes}
use Rattle.tss_memory.specs.Ranges.{CanWrite, memory_end}
use Rattle.tss_memory.proofs.RangeLemmas.{found_end, contains_from}
use Rattle.tss_steps.proofs.PlaceLemmas.{range_of-inside}
use Rattle.tss_banks.specs.Joined.{joined}
use Rattle.tss_banks.specs.Tables.{joined_tables}
use Rattle.tss_banks.specs.Collected.{with_at}
use Rattle.tss_banks.specs.Versions.{VersionsInBanks}
use Rattle.tss_protocol.specs.Names.{bank_of}
use Rattle.tss_protocol.specs.Mail.{posted_all}
use Rattle.tss_protocol.specs.State.{CopyState}
use Rattle.tss_protocol.specs.Buffers.{buffer_bytes, home_after_copy, copies_after_copy, sent_by_copy}
use Rattle.tss_protocol.specs.Counts.{message_limit}
use Rattle.tss_protocol.specs.UnitMachine.{is_enabled, after_event, after_copy}
use Rattle.tss_renaming.specs.Bank.{RenamingState, tables_of}
use Rattle.tss_versions.specs.Known.{versions_of}
use Rattle.tss_buffers.specs.Contents.{HasBuffer, seat}
use Rattle.tss_buffers.specs.declared.copying.Copying.{Copying}
use Rattle.tss_buffers.specs.Copies.{copy_of, next_len, is_last, copying_after}
use Rattle.tss_mail.specs.Letters.{MailState, mail_of}
use Rattle.tss_conditions.specs.Posting.{MayPostAll, copy_sends}
use Rattle.tss_conditions.specs.Copying.{IsCopying}
use Rattle.tss_conditions.proofs.Copying.{copying}
use Rattle.tss_conditions.proofs.Posting.{may_post}
use Rattle.tss_pipeline.specs.declared.bank.Bank.{Bank}
use Rattle.tss_pipeline.specs.declared.bank.Job.{Job}
use Rattle.tss_pipeline.specs.declared.bank.Piece.{Piece}
use Rattle.tss_pipeline.specs.declared.units.Units.{Units}
use Rattle.tss_pipeline.specs.State.{state_of, job_copy, bank_copy, copies_from, bank_tables, bank_versions, contents_of, contents_in}
use Rattle.tss_pipeline.specs.Does.{May}
use Rattle.tss_pipeline.specs.Fit.{IsFit, ground_of, ArePlaced, HoldsOwn, HoldsJob, HoldsGone, HoldsBuffer, IsEngaged, IsSized, AreBanks}
use Rattle.tss_pipeline.specs.Pieces.{PieceOf, IsPieceOf, CopiesWithin, gone_with, gone_after, job_after, gone_messages, gones_with}
use Rattle.tss_pipeline.proofs.places.BankChanges.{copies_set, tables_kept, versions_kept, versions_set, contents_kept, banks_set, slice_get-set}
use Rattle.tss_pipeline.proofs.places.Placing.{placed_beside, placed_gone}
use Rattle.tss_pipeline.proofs.worker_rows.CopyLemmas.{copy_here, no_copy_here, at_place}
use Rattle.tss_pipeline.proofs.worker_rows.BufferSeats.{contents_there}
use Rattle.tss_pipeline.proofs.worker_rows.SeatedTasks.{ranges_are}

-- ---- which bank copies

-- a bank that copies, with its engine and its job
pub record Copies (bs : List Bank) (n : ℕ) : Type 0 where
  pub bank : Bank
  pub there : slice_get bs n ≡ Some bank
  pub copy : Copying
  pub job : Job
  pub engine : bank.engine ≡ Some copy
  pub its : bank.job ≡ Some job

bank_or_none : (bs : List Bank) (n : ℕ) → ((b : Bank) × (slice_get bs n ≡ Some b)) ⊎ (length bs ≤ n)
bank_or_none [] n = inr (omega arith)
bank_or_none (w ∷ ws) zero = inl (w, refl)
bank_or_none (w ∷ ws) (suc n) = elim (bank_or_none ws n) [
  | inl b ↦ inl b
  | inr past ↦ inr (omega (arith, past))
]

engaged_by : (bs : List Bank) (n : ℕ) (b : Bank) → slice_get bs n ≡ Some b → (c : Option Copying) (j : Option Job)
    → b.engine ≡ c → b.job ≡ j → is_some (job_copy c j) ≡ true → Copies bs n
engaged_by bs n b there None j e f on = absurd (true≢false (sym on))
engaged_by bs n b there (Some c) None e f on = absurd (true≢false (sym on))
engaged_by bs n b there (Some c) (Some j) e f on =
    record { bank = b; there = there; copy = c; job = j; engine = e; its = f }

copies_by : (bs : List Bank) (n : ℕ) → is_some (get (copies_from 0 bs) n) ≡ true → Copies bs n
copies_by bs n on = elim (bank_or_none bs n) [
  | inl b ↦
      engaged_by bs n b.0 b.1 b.0.engine b.0.job refl refl (ap is_some (sym (copy_here bs n b.0 b.1)) ∙ on)
  | inr past ↦ absurd (true≢false (sym on ∙ ap is_some (no_copy_here bs n past)))
]

-- ---- a piece

shorter : (m n : ℕ) → min m n ≤ n
shorter m n = grind arith

zero_first : (n : ℕ) → n ≡ 0 + n
zero_first n = omega arith

engaged_after : (x : RenamingState) (c : Copying) (j : Job) (last : Bool) → HoldsJob x c j
    → IsEngaged x (copying_after c last) (job_after j last)
engaged_after x c j true h = tt
engaged_after x c j false h = record { place = h.place; buffer = h.buffer; object = h.object }

copies_after : (copies : Numbered CopyState) (n : ℕ) (c : Copying) (j : Job) (last : Bool)
    → with_at copies n (job_copy (copying_after c last) (job_after j last))
    ≡ copies_after_copy copies n (copy_of j.version j.buffer c) last
copies_after copies n c j true = refl
copies_after copies n c j false = refl

sent_after : (c : Copying) (j : Job) (last : Bool) → j.object ≡ c.object
    → gone_messages (gone_after c j last) ≡ sent_by_copy (copy_of j.version j.buffer c) last
sent_after c j true e =
    λ i. gone_messages (Some (record {
      version = j.version;
      object = e i;
      place = j.place;
      buffer = Some (record { name = j.buffer; token = c.buffer });
      retired = true;
    }))
sent_after c j false e = refl

bytes_by : (contents : Named (List ℕ)) (n : OpName) (bytes : List ℕ) → get contents n ≡ Some bytes
    → buffer_bytes contents n ≡ bytes
bytes_by contents n bytes e = ap (λ o. unwrap_or o []) e

if_some : {X : Type 0} (P : X → Type 0) (o : Option X) (x : X) → o ≡ Some x → IfSome o P → P x
if_some P o x e h = subst (λ o. IfSome o P) e h

module _ (u : Units) (fit : IsFit u) (n : ℕ) (may : May (event.Copy n) u) where
  pub copies : Copies u.banks.items n
  unfolding is_enabled
  copies = copies_by u.banks.items n may

  pub holds : HoldsJob copies.bank.renaming copies.copy copies.job
  holds =
      subst (λ (p : Option Copying × Option Job). IsEngaged copies.bank.renaming p.0 p.1)
      (λ i. (copies.engine i, copies.its i)) (fit.placed.own n copies.bank copies.there).engine

  copy_there : get (state_of u).copies n ≡ Some (copy_of copies.job.version copies.job.buffer copies.copy)
  copy_there =
      copy_here u.banks.items n copies.bank copies.there ∙ (λ i. job_copy (copies.engine i) (copies.its i))

  law : IsCopying u.machine (state_of u) n (copy_of copies.job.version copies.job.buffer copies.copy)
  law =
      copying u.machine fit.reached.image (state_of u) n (copy_of copies.job.version copies.job.buffer copies.copy)
      fit.reached.reached copy_there

  -- it copies to addresses
  object_end : end_of copies.copy.object ≤ memory_end
  object_end = found_end u.space.ranges (ranges_are u fit) copies.copy.object true law.within

  pub copies_within : CopiesWithin copies.bank.engine copies.bank.job
  copies_within =
      let end = object_end in
      let moved = law.moved in
      let same = ap (λ (r : Range). r.base) holds.object in
      subst (λ (p : Option Copying × Option Job). CopiesWithin p.0 p.1)
      (λ i. (sym copies.engine i, sym copies.its i)) (omega (arith, end, moved, same))

  -- the bank has the buffer
  pub buffer_place : HasBuffer u.buffers n copies.copy.buffer.place
  buffer_place =
      let sized = fit.sized.banks.each n copies.bank copies.there in (
        subst (λ m. n < m) (sym fit.sized.buffer_banks) law.number,
        subst (λ m. copies.copy.buffer.place < m) (ap (λ s. s.buffers) sized.sizes ∙ sym fit.sized.buffers)
            ((fit.placed.own n copies.bank copies.there).apart.buffer_within copies.job.buffer copies.copy.buffer.place
            holds.buffer.place),
      )

  -- the piece is one of its bytes
  pub piece_there : copies.copy.moved + next_len copies.copy ≤ u.buffers.object_bytes
  piece_there =
      let less = shorter COPY_BYTES (copies.copy.object.len - copies.copy.moved) in
      let short = law.short in
      let moved = law.moved in
      let bytes = fit.sized.object_bytes in
      omega (arith, less, short, moved, bytes)

  pub can_write : CanWrite u.space.ranges (copies.job.object.base + copies.copy.moved) (next_len copies.copy)
  can_write some =
      let less = shorter COPY_BYTES (copies.copy.object.len - copies.copy.moved) in
      let moved = law.moved in
      let same = ap (λ (r : Range). r.base) holds.object in
      range_of-inside u.space.ranges (ranges_are u fit) copies.copy.object
      (record { base = copies.job.object.base + copies.copy.moved; len = next_len copies.copy }) true some
      (contains_from copies.copy.object
      (record { base = copies.job.object.base + copies.copy.moved; len = next_len copies.copy })
      (omega (arith, same)) (omega (arith, less, moved, same)))
      law.within

  -- the buffer's bytes are those under its name
  pub bytes_are : (bytes : List ℕ) → IfSome (get u.buffers.contents (seat n copies.copy.buffer.place)) (λ x. bytes ≡ x)
      → buffer_bytes (state_of u).contents copies.job.buffer ≡ bytes
  bytes_are bytes h =
      let s = law.set in
      let at = contents_there u fit n copies.bank copies.there copies.job.buffer copies.copy.buffer.place
      holds.buffer.place u.buffers in
      bytes_by (state_of u).contents copies.job.buffer s.0 s.1
      ∙ sym (if_some (λ x. bytes ≡ x) (get u.buffers.contents (seat n copies.copy.buffer.place)) s.0 (sym at ∙ s.1) h)

  -- its message may be posted
  pub may_send : MayPostAll u.mail.size (mail_of u.mail)
      (gone_messages (gone_after copies.copy copies.job (is_last copies.copy)))
  may_send =
      let post = may_post u.machine fit.reached.image (state_of u) (event.Copy n) fit.reached.reached may in
      let sent = ap copy_sends copy_there in
      subst (λ k. MayPostAll k (mail_of u.mail)
      (gone_messages (gone_after copies.copy copies.job (is_last copies.copy))))
      (sym fit.sized.mail)
      (subst (MayPostAll (message_limit u.machine) (mail_of u.mail))
      (sent ∙ sym (sent_after copies.copy copies.job (is_last copies.copy) holds.object))
      (record { fresh = post.fresh; room = post.room }))

  -- ---- the state after it

  module _ (new : Bank) (left : new ≡ record (copies.bank) {
    engine = copying_after copies.copy (is_last copies.copy);
    job = job_after copies.job (is_last copies.copy);
  }) where
    renaming_same : new.renaming ≡ copies.bank.renaming
    renaming_same = ap (λ (b : Bank). b.renaming) left

    versions_same : new.versions ≡ copies.bank.versions
    versions_same = ap (λ (b : Bank). b.versions) left

    copies_left : copies_from 0 (set u.banks.items n new)
        ≡ copies_after_copy (copies_from 0 u.banks.items) n
        (copy_of copies.job.version copies.job.buffer copies.copy) (is_last copies.copy)
    copies_left =
        copies_set 0 u.banks.items n copies.bank new copies.there
        ∙ ap (λ k. with_at (copies_from 0 u.banks.items) k (bank_copy new)) (sym (zero_first n))
        ∙ ap (λ (b : Bank). with_at (copies_from 0 u.banks.items) n (bank_copy b)) left
        ∙ copies_after (copies_from 0 u.banks.items) n copies.copy copies.job (is_last copies.copy)

    pub piece_state : (space : Memory) (mail : MailState) (bytes : List ℕ)
        → IfSome (get u.buffers.contents (seat n copies.copy.buffer.place)) (λ x. bytes ≡ x)
        → space ≡ put_bytes u.space (copies.job.object.base + copies.copy.moved)
        (take (next_len copies.copy) (drop copies.copy.moved bytes))
        → mail_of mail ≡ posted_all (mail_of u.mail)
        (gone_messages (gone_after copies.copy copies.job (is_last copies.copy)))
        → record (state_of u) {
          home = space;
          entries = (joined_tables (bank_tables (set u.banks.items n new))).entries;
          places = (joined_tables (bank_tables (set u.banks.items n new))).places;
          buffers = (joined_tables (bank_tables (set u.banks.items n new))).buffers;
          contents = contents_of u.buffers (set u.banks.items n new);
          versions = joined (bank_versions (set u.banks.items n new));
          mail = mail_of mail;
          copies = copies_from 0 (set u.banks.items n new);
        }
        ≡ after_event u.machine (state_of u) (event.Copy n)
    unfolding after_event
    piece_state space mail bytes h s m =
        let tables = tables_kept u.banks.items n copies.bank new copies.there (ap tables_of renaming_same) in
        let versions = versions_kept u.banks.items n copies.bank new copies.there
        (ap (λ v. versions_of v.versions) versions_same) in
        let contents = contents_kept u.banks.items n copies.bank new copies.there u.buffers
        (ap (λ (b : Bank). contents_in u.buffers b) left) in
        let home =
        s
        ∙ ap (λ (r : Range). put_bytes u.space (r.base + copies.copy.moved)
        (take (next_len copies.copy) (drop copies.copy.moved bytes))) holds.object
        ∙ ap (home_after_copy u.space (copy_of copies.job.version copies.job.buffer copies.copy))
        (sym (bytes_are bytes h)) in
        let sent = m ∙ ap (posted_all (mail_of u.mail))
        (sent_after copies.copy copies.job (is_last copies.copy) holds.object) in
        (λ i. record (state_of u) {
          home = home i;
          entries = (joined_tables (tables i)).entries;
          places = (joined_tables (tables i)).places;
          buffers = (joined_tables (tables i)).buffers;
          contents = contents i;
          versions = joined (versions i);
          mail = sent i;
          copies = copies_left i;
        })
        ∙ ap (after_copy (state_of u) n) (sym copy_there)

    -- ---- each thing in its place

    sized_left : IsSized u.machine n new
    sized_left =
        let old = fit.sized.banks.each n copies.bank copies.there in
        record {
          bank = ap (λ r. r.bank) renaming_same ∙ old.bank;
          sizes = ap (λ r. r.sizes) renaming_same ∙ old.sizes;
          versions = ap (λ v. v.size) versions_same ∙ old.versions;
        }

    pub banks_left : AreBanks u.machine (set u.banks.items n new)
    banks_left = banks_set u.banks.items n copies.bank new copies.there u.machine fit.sized.banks sized_left

    own_left : HoldsOwn new
    own_left =
        let old = fit.placed.own n copies.bank copies.there in
        subst HoldsOwn (sym left) (record {
          apart = old.apart;
          versions = old.versions;
          engine = engaged_after copies.bank.renaming copies.copy copies.job (is_last copies.copy) holds;
        })

    beside : ArePlaced (record (ground_of u) { banks = set u.banks.items n new })
    beside =
        placed_beside (ground_of u) fit.placed n copies.bank new copies.there renaming_same
        (subst (VersionsInBanks u.machine.sizes)
        (sym (versions_kept u.banks.items n copies.bank new copies.there
        (ap (λ v. versions_of v.versions) versions_same))
        ∙ versions_set u.banks.items n copies.bank new copies.there)
        fit.placed.versions)
        own_left

    gone_holds : (b : Bank) → slice_get (set u.banks.items n new) (bank_of u.machine.sizes copies.job.object) ≡ Some b
        → HoldsGone b.renaming (gone_with copies.job copies.copy.buffer)
    gone_holds b at =
        let here = ap (bank_of u.machine.sizes) holds.object ∙ law.bank in
        let is = same_Some new b (sym (slice_get-set u.banks.items n copies.bank new copies.there)
        ∙ ap (slice_get (set u.banks.items n new)) (sym here) ∙ at) in
        subst (λ r. HoldsGone r (gone_with copies.job copies.copy.buffer))
        (sym renaming_same ∙ ap (λ (b : Bank). b.renaming) is)
        (record {
          place = holds.place;
          buffer = λ h e. subst (HoldsBuffer copies.bank.renaming)
              (same_Some (record { name = copies.job.buffer; token = copies.copy.buffer }) h e) holds.buffer;
        })

    gone_by : (last : Bool) → ArePlaced (record (ground_of u) {
      banks = set u.banks.items n new;
      gones = gones_with u.mail.gones (gone_after copies.copy copies.job last);
    })
    gone_by true =
        placed_gone (record (ground_of u) { banks = set u.banks.items n new })
        (gone_with copies.job copies.copy.buffer) beside gone_holds
    gone_by false = beside

    pub placed_left : (mail : MailState)
        → mail ≡ record (u.mail) {
          gones =
              gones_with u.mail.gones (gone_after copies.copy copies.job (is_last copies.copy));
        }
        → ArePlaced (record (ground_of u) {
          banks = set u.banks.items n new;
          opens = mail.opens;
          gones = mail.gones;
          decodes = mail.decodes;
        })
    placed_left mail m =
        subst ArePlaced (λ i. record (ground_of u) {
          banks = set u.banks.items n new;
          opens = (sym m i).opens;
          gones = (sym m i).gones;
          decodes = (sym m i).decodes;
        }) (gone_by (is_last copies.copy))

-- the bank that an index finds is the one that copies
pub index_copies : (bs : List Bank) (n : ℕ) (x : Copies bs n) (b : Bank) → b ≡ get_or bs n b → x.bank ≡ b
index_copies bs n x b e =
    same_Some x.bank b (sym x.there ∙ at_place bs n b (slice_get_within bs n x.bank x.there) e)

-- the piece of a bank that copies
pub piece_of_bank : (bs : List Bank) (n : ℕ) (x : Copies bs n) (b new : Bank) (p : Piece) → b ≡ get_or bs n b
    → IsPieceOf b b.engine b.job p new → PieceOf x.bank x.copy x.job p new
piece_of_bank bs n x b new p e h =
    subst (λ (q : Option Copying × Option Job). IsPieceOf x.bank q.0 q.1 p new) (λ i. (x.engine i, x.its i))
    (subst (λ b. IsPieceOf b b.engine b.job p new) (sym (index_copies bs n x b e)) h)
