-- No event but retire and copy says of a version that it is gone as the last of its object.
use Rattle.std.proofs.Common.{◌≡◌, ℕ, zero, suc, Bool, true, false, if◌then◌else◌, List, [], ◌∷◌, ◌++◌, Option, Some}
use Rattle.std.proofs.Common.{None, refl, ap, ◌∙◌, inl, inr}
use Rattle.std.specs.FinMap.{get}
use Rattle.tss_base.specs.declared.operand.OpName.{OpName}
use Rattle.tss_base.specs.declared.marks.How.{How}
use Rattle.tss_base.specs.declared.marks.How.TheVariants.{Beside, Over}
use Rattle.tss_base.specs.declared.marks.Follow.{Follow}
use Rattle.tss_base.specs.Names.{Named}
use Rattle.tss_maps.proofs.Keys.{name_order}
use Rattle.tss_maps.proofs.Changes.{from_inserted}
use Rattle.tss_protocol.specs.Mail.{StorageName, ReleaseContents, OpenContents, GoneContents, Message}
use Rattle.tss_protocol.specs.Mail.{Bye, Gone, Mail, posted}
use Rattle.tss_protocol.specs.Mail.{posted_all}
use Rattle.tss_protocol.specs.State.{Version}
use Rattle.tss_protocol.specs.Versions.{Settling, ready_with, settle_how, settle_by, settle_at, settle_asking}
use Rattle.tss_protocol.specs.Versions.{unchanged, settle, settled, may_ask, may_die, opened_how, opened_by, after_open}
use Rattle.tss_protocol.specs.Versions.{used_alone, used_behind, used_at, after_use, head_ready, released_by}
use Rattle.tss_protocol.specs.Versions.{released_at, after_release, nacked_at, after_nack}
use Rattle.tss_phases.proofs.Tests.{not_both}
use Rattle.tss_protocol.proofs.SentLemmas.{AllSent, AllSent-append}

-- a message doesn't say so
abbrev pub IsUnretired : Message → Type 0
IsUnretired (Gone v g) = g.retired ≡ false
IsUnretired other = Unit {0}

-- what is said to be gone as the last was said so before
abbrev pub NoMoreRetired : Mail → Mail → Type 0
NoMoreRetired m n =
    (v : OpName) (g : GoneContents) → get n.gones v ≡ Some g → g.retired ≡ true → get m.gones v ≡ Some g

posted_unretired : (m : Mail) (x : Message) → IsUnretired x → NoMoreRetired m (posted m x)
posted_unretired m (Gone w c) h v g e last = elim (from_inserted name_order m.gones w c v g e) [
  | inl new ↦ absurd (not_both g.retired last (ap (λ (g : GoneContents). g.retired) new.1 ∙ h))
  | inr old ↦ old.1
]
posted_unretired m other h v g e last = e

-- by such messages
pub posted_all_unretired : (m : Mail) (xs : List Message) → AllSent IsUnretired xs → NoMoreRetired m (posted_all m xs)
posted_all_unretired m [] h v g e last = e
posted_all_unretired m (x ∷ xs) h v g e last =
    posted_unretired m x h.0 v g (posted_all_unretired (posted m x) xs h.1 v g e last) last

-- ---- versions

ready_unretired : (o v : OpName) (storage : Option StorageName) → AllSent IsUnretired (ready_with o v storage)
ready_unretired o v None = tt
ready_unretired o v (Some s) = (tt, tt)

module _ (vs : Named Version) (v : OpName) (x : Version) (next : Settling)
    (rest : (ws : Named Version) (w : OpName) → AllSent IsUnretired (next ws w).sent) where
  how_unretired : (f : Follow) (how : How) → AllSent IsUnretired (settle_how vs v x f next how).sent
  how_unretired f Beside = (refl, rest _ _)
  how_unretired f Over = (refl, ready_unretired f.version f.version x.storage)

  by_unretired : (f : Option Follow) → AllSent IsUnretired (settle_by vs v x next f).sent
  by_unretired None =
      elim (may_ask x) as (λ b. AllSent IsUnretired (if b then settle_asking vs v x else unchanged vs).sent) [
        | true ↦ (tt, tt)
        | false ↦ tt
      ]
  by_unretired (Some f) =
      elim (may_die x f.last) as
      (λ b. AllSent IsUnretired (if b then settle_how vs v x f next f.how else unchanged vs).sent) [
        | true ↦ how_unretired f f.how
        | false ↦ tt
      ]

at_unretired : (vs : Named Version) (v : OpName) (next : Settling)
    → ((ws : Named Version) (w : OpName) → AllSent IsUnretired (next ws w).sent) → (x : Option Version)
    → AllSent IsUnretired (settle_at vs v next x).sent
at_unretired vs v next rest None = tt
at_unretired vs v next rest (Some x) = by_unretired vs v x next rest x.successor

settle_unretired : (n : ℕ) (vs : Named Version) (v : OpName) → AllSent IsUnretired (settle n vs v).sent
unfolding settle
settle_unretired zero vs v = tt
settle_unretired (suc n) vs v = at_unretired vs v (settle n) (settle_unretired n) (get vs v)

settled_unretired : (vs : Named Version) (v : OpName) → AllSent IsUnretired (settled vs v).sent
settled_unretired vs v = settle_unretired _ vs v

module _ (vs : Named Version) (o : OpName) where
  opened_how_unretired : (c : OpenContents) (f : Follow) (how : How)
      → AllSent IsUnretired (opened_how vs o c f how).sent
  opened_how_unretired c f Beside =
      AllSent-append IsUnretired (ready_with o o c.storage) _ (ready_unretired o o c.storage) (settled_unretired _ _)
  opened_how_unretired c f Over = settled_unretired _ _

  opened_unretired : (c : OpenContents) (f : Option Follow) → AllSent IsUnretired (opened_by vs o c f).sent
  opened_unretired c None = ready_unretired o o c.storage
  opened_unretired c (Some f) = opened_how_unretired c f f.how

  -- what open sends
  pub after_open_unretired : (c : OpenContents) → AllSent IsUnretired (after_open vs o c).sent
  after_open_unretired c = opened_unretired c c.follows

  alone_unretired : (v : OpName) (x : Version) (b : Bool) → AllSent IsUnretired (used_alone vs o v x b).sent
  alone_unretired v x true = ready_unretired o v x.storage
  alone_unretired v x false = tt

  behind_unretired : (v : OpName) (x : Version) (tail : Option OpName)
      → AllSent IsUnretired (used_behind vs o v x tail).sent
  behind_unretired v x None = alone_unretired v x x.produced
  behind_unretired v x (Some last) = (tt, tt)

  used_unretired : (v : OpName) (x : Option Version) → AllSent IsUnretired (used_at vs o v x).sent
  used_unretired v None = tt
  used_unretired v (Some x) = behind_unretired v x x.tail

  -- what use sends
  pub after_use_unretired : (v : OpName) → AllSent IsUnretired (after_use vs o v).sent
  after_use_unretired v = used_unretired v (get vs v)

  head_unretired : (v : OpName) (x : Version) (head : Option OpName) → AllSent IsUnretired (head_ready v x head)
  head_unretired v x None = tt
  head_unretired v x (Some h) = ready_unretired h v x.storage

  released_unretired : (v : OpName) (x : Version) (b : Bool) → AllSent IsUnretired (released_by vs o v x b).sent
  released_unretired v x true =
      AllSent-append IsUnretired (head_ready v x x.head ++ Bye o false ∷ []) _
      (AllSent-append IsUnretired (head_ready v x x.head) _ (head_unretired v x x.head) (tt, tt))
      (settled_unretired _ _)
  released_unretired v x false = (tt, settled_unretired _ _)

  released_at_unretired : (v : OpName) (b : Bool) (x : Option Version)
      → AllSent IsUnretired (released_at vs o v b x).sent
  released_at_unretired v b None = tt
  released_at_unretired v b (Some x) = released_unretired v x b

  -- what release sends
  pub after_release_unretired : (r : ReleaseContents) → AllSent IsUnretired (after_release vs o r).sent
  after_release_unretired r = released_at_unretired r.version r.producer (get vs r.version)

  nacked_unretired : (x : Option Version) → AllSent IsUnretired (nacked_at vs o x).sent
  nacked_unretired None = tt
  nacked_unretired (Some x) = settled_unretired _ _

  -- what nack sends
  pub after_nack_unretired : AllSent IsUnretired (after_nack vs o).sent
  after_nack_unretired = nacked_unretired (get vs o)
