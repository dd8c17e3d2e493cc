-- Settle and the rows of versioning on two maps that agree at some names, to which the links of what stands there keep:
-- both are changed alike, at these names alone, and the messages are the same. The maps may differ in how many versions
-- they have, and so in how far a settle may go.
use Rattle.std.proofs.Common.{◌≡◌, ℕ, zero, suc, ◌+◌, ◌<◌, Bool, true, false, not, if◌then◌else◌, List, [], ◌∷◌, ◌++◌}
use Rattle.std.proofs.Common.{Option, Some, None, refl, sym, ap, ◌∙◌, subst, arith}
use Rattle.std.specs.FinMap.{get, len}
use Rattle.std.proofs.lemmas.Option.{none-some}
use Rattle.tss_base.specs.declared.range.Range.{Range}
use Rattle.tss_base.specs.declared.operand.OpName.{OpName}
use Rattle.tss_base.specs.declared.operand.Mode.{Mode}
use Rattle.tss_base.specs.declared.operand.Mode.TheVariants.{Input, Output, Inout}
use Rattle.tss_base.specs.declared.marks.How.{How}
use Rattle.tss_base.specs.declared.marks.How.TheVariants.{Beside, Over}
use Rattle.tss_base.specs.declared.marks.Follow.{Follow}
use Rattle.tss_base.specs.Names.{Named}
use Rattle.tss_protocol.specs.Mail.{OpenContents, ReleaseContents, Message, Bye}
use Rattle.tss_protocol.specs.State.{Version}
use Rattle.tss_protocol.specs.Versions.{Versioned, sending, put_version, ready_with, buffer_of, died, may_die, may_ask}
use Rattle.tss_protocol.specs.Versions.{unlinked, settle_how, settle_asking, unchanged, settle_by, settle_at, settle}
use Rattle.tss_protocol.specs.Versions.{settled, new_version, first_version, followed, opened_how, opened_by}
use Rattle.tss_protocol.specs.Versions.{after_open, enlisted, used_alone, used_behind, used_at, after_use, head_ready}
use Rattle.tss_protocol.specs.Versions.{produced_now, is_last, released_once, released_by, released_at, after_release}
use Rattle.tss_protocol.specs.Versions.{refused_once, nacked_at, after_nack, after_retire}
use Rattle.tss_banks.specs.Versions.{IsOfKind, AreAlike, AreRowsAlike}
use Rattle.tss_banks.proofs.VersionsLeft.{len_unlinked}
use Rattle.tss_banks.proofs.AlikeChanges.{alike_put, alike_drop, alike_change, alike_unlinked}

less_left : (a b n : ℕ) → a < suc n → b + 1 ≡ a → b < n
less_left a b n h e = omega (arith, h, e)

none_below : (a : ℕ) → a < zero → ⊥
none_below a h = omega (arith, h)

module _ (P : OpName → Type 0) (A : Range → Type 0) (all own : Named Version) where
  -- maps that are changed alike
  abbrev Alike : Named Version → Named Version → Type 0
  Alike ws vs = AreAlike P A all own ws vs

  -- and with the same messages
  abbrev RowsAlike : Versioned → Versioned → Type 0
  RowsAlike d e = AreRowsAlike P A all own d e

  -- the same messages before both
  alike_sending : (ms : List Message) (d e : Versioned) → RowsAlike d e → RowsAlike (sending ms d) (sending ms e)
  alike_sending ms d e r = record { part = r.part; sent = ap (λ ns. ms ++ ns) r.sent }

  -- a version with the same object and links
  same_links : (x y : Version) → y.object ≡ x.object → y.predecessor ≡ x.predecessor → y.successor ≡ x.successor
      → IsOfKind P A x → IsOfKind P A y
  same_links x y object predecessor successor kind = record {
    object = subst A (sym object) kind.object;
    predecessor = λ p e. kind.predecessor p (sym predecessor ∙ e);
    successor = λ f e. kind.successor f (sym successor ∙ e);
  }

  -- ---- settle

  -- settles with so much fuel for the two, which is more than there are versions
  abbrev SettleAlike : ℕ → ℕ → Type 0
  SettleAlike n k =
      (ws vs : Named Version) → Alike ws vs → (v : OpName) → P v → len ws < n → len vs < k
      → RowsAlike (settle n ws v) (settle k vs v)

  module _ (n k : ℕ) (again : SettleAlike n k) (ws vs : Named Version) (c : Alike ws vs) (v : OpName) (p : P v)
      (enough : len ws < suc n) (enough_own : len vs < suc k) where
    alike_how : (x : Version) → get vs v ≡ Some x → (f : Follow) → P f.version → (h : How)
        → RowsAlike (settle_how ws v x f (settle n) h) (settle_how vs v x f (settle k) h)
    alike_how x there f next Beside =
        let s = f.version in
        alike_sending (died v x.object (buffer_of x.storage) ∷ []) (settle n (unlinked ws v x s) s)
        (settle k (unlinked vs v x s) s)
        (again (unlinked ws v x s) (unlinked vs v x s)
        (alike_unlinked P A all own ws vs c v p x (c.of_kind v x p there) s next) s next
        (less_left (len ws) (len (unlinked ws v x s)) n enough (len_unlinked ws v x x s (c.same v p ∙ there)))
        (less_left (len vs) (len (unlinked vs v x s)) k enough_own (len_unlinked vs v x x s there)))
    alike_how x there f next Over = record {
      part =
          alike_change P A all own (unlinked ws v x f.version) (unlinked vs v x f.version)
          (alike_unlinked P A all own ws vs c v p x (c.of_kind v x p there) f.version next) f.version next
          (λ y. record y { storage = x.storage })
          (λ y i. record { object = i.object; predecessor = i.predecessor; successor = i.successor });
      sent = refl;
    }

    alike_dying : (x : Version) → get vs v ≡ Some x → (f : Follow) → P f.version → (b : Bool)
        → RowsAlike (if b then settle_how ws v x f (settle n) f.how else unchanged ws)
        (if b then settle_how vs v x f (settle k) f.how else unchanged vs)
    alike_dying x there f next true = alike_how x there f next f.how
    alike_dying x there f next false = record { part = c; sent = refl }

    alike_asking : (x : Version) → get vs v ≡ Some x → (b : Bool)
        → RowsAlike (if b then settle_asking ws v x else unchanged ws)
        (if b then settle_asking vs v x else unchanged vs)
    alike_asking x there true = record {
      part =
          alike_put P A all own ws vs c v p (record x { asked = Some x.registered })
          (same_links x (record x { asked = Some x.registered }) refl refl refl (c.of_kind v x p there));
      sent = refl;
    }
    alike_asking x there false = record { part = c; sent = refl }

    alike_by : (x : Version) → get vs v ≡ Some x → (f : Option Follow) → x.successor ≡ f
        → RowsAlike (settle_by ws v x (settle n) f) (settle_by vs v x (settle k) f)
    alike_by x there None to = alike_asking x there (may_ask x)
    alike_by x there (Some f) to = alike_dying x there f ((c.of_kind v x p there).successor f to) (may_die x f.last)

    alike_at : (o : Option Version) → get vs v ≡ o
        → RowsAlike (settle_at ws v (settle n) o) (settle_at vs v (settle k) o)
    alike_at None there = record { part = c; sent = refl }
    alike_at (Some x) there = alike_by x there x.successor refl

    alike_settle_at : RowsAlike (settle_at ws v (settle n) (get ws v)) (settle_at vs v (settle k) (get vs v))
    alike_settle_at =
        subst (λ o. RowsAlike (settle_at ws v (settle n) o) (settle_at vs v (settle k) (get vs v)))
        (sym (c.same v p)) (alike_at (get vs v) refl)

  -- with more fuel than there are versions each settle does the same
  alike_settle : (n k : ℕ) → SettleAlike n k
  unfolding settle
  alike_settle zero k ws vs c v p enough enough_own = absurd (none_below (len ws) enough)
  alike_settle (suc n) zero ws vs c v p enough enough_own = absurd (none_below (len vs) enough_own)
  alike_settle (suc n) (suc k) ws vs c v p enough enough_own =
      alike_settle_at n k (alike_settle n k) ws vs c v p enough enough_own

  module _ (ws vs : Named Version) (c : Alike ws vs) where
    alike_put_settled : (v : OpName) → P v → (x : Version) → IsOfKind P A x
        → RowsAlike (settled (put_version ws v x) v) (settled (put_version vs v x) v)
    alike_put_settled v p x kind =
        alike_settle (suc (len (put_version ws v x))) (suc (len (put_version vs v x))) (put_version ws v x)
        (put_version vs v x) (alike_put P A all own ws vs c v p x kind) v p (omega arith) (omega arith)

    -- ---- open

    module _ (o : OpName) (opening : OpenContents) (new : P o) (of_kind : A opening.operand.object) where
      new_kind : IsOfKind P A (new_version opening.operand.object opening.storage)
      new_kind = record {
        object = of_kind;
        predecessor = λ p e. absurd (none-some p e);
        successor = λ f e. absurd (none-some f e);
      }

      first_kind : (mode : Mode) → IsOfKind P A (first_version o opening.operand.object opening.storage mode)
      first_kind Input = same_links (new_version opening.operand.object opening.storage)
          (first_version o opening.operand.object opening.storage Input) refl refl refl new_kind
      first_kind Output = new_kind
      first_kind Inout = new_kind

      alike_followed : (f : Follow) → P f.version → Alike (followed ws o opening f) (followed vs o opening f)
      alike_followed f before =
          let x : Version =
          record (new_version opening.operand.object opening.storage) { predecessor = Some f.version } in
          alike_change P A all own (put_version ws o x) (put_version vs o x)
          (alike_put P A all own ws vs c o new x (record {
            object = of_kind;
            predecessor = λ q e. subst P (ap (λ o. name_or f.version o) e) before;
            successor = λ g e. absurd (none-some g e);
          }))
          f.version before
          (λ y. record y { successor = Some (record f { version = o }) })
          (λ y i. record {
            object = i.object;
            predecessor = i.predecessor;
            successor = λ g e. subst P (ap (λ g. followed_name o g) e) new;
          })
        where
          name_or : OpName → Option OpName → OpName
          name_or d None = d
          name_or d (Some q) = q

          followed_name : OpName → Option Follow → OpName
          followed_name d None = d
          followed_name d (Some g) = g.version

      alike_followed_settled : (f : Follow) → P f.version
          → RowsAlike (settled (followed ws o opening f) f.version) (settled (followed vs o opening f) f.version)
      alike_followed_settled f before =
          alike_settle (suc (len (followed ws o opening f))) (suc (len (followed vs o opening f)))
          (followed ws o opening f) (followed vs o opening f) (alike_followed f before) f.version before
          (omega arith) (omega arith)

      alike_opened_how : (f : Follow) → P f.version → (h : How)
          → RowsAlike (opened_how ws o opening f h) (opened_how vs o opening f h)
      alike_opened_how f before Beside =
          alike_sending (ready_with o o opening.storage) (settled (followed ws o opening f) f.version)
          (settled (followed vs o opening f) f.version) (alike_followed_settled f before)
      alike_opened_how f before Over = alike_followed_settled f before

      alike_opened : (f : Option Follow) → ((g : Follow) → f ≡ Some g → P g.version)
          → RowsAlike (opened_by ws o opening f) (opened_by vs o opening f)
      alike_opened None before = record {
        part =
            alike_put P A all own ws vs c o new
            (first_version o opening.operand.object opening.storage opening.operand.mode)
            (first_kind opening.operand.mode);
        sent = refl;
      }
      alike_opened (Some f) before = alike_opened_how f (before f refl) f.how

      -- a version of the names is opened, behind another of them
      pub alike_open : ((f : Follow) → opening.follows ≡ Some f → P f.version)
          → RowsAlike (after_open ws o opening) (after_open vs o opening)
      alike_open before = alike_opened opening.follows before

    -- ---- use

    module _ (o v : OpName) (p : P v) where
      alike_enlisted : (x y : Version) → get vs v ≡ Some x → y.object ≡ x.object → y.predecessor ≡ x.predecessor
          → y.successor ≡ x.successor → Alike (put_version ws v y) (put_version vs v y)
      alike_enlisted x y there object predecessor successor =
          alike_put P A all own ws vs c v p y
          (same_links x y object predecessor successor (c.of_kind v x p there))

      alike_alone : (x : Version) → get vs v ≡ Some x → (produced : Bool)
          → RowsAlike (used_alone ws o v x produced) (used_alone vs o v x produced)
      alike_alone x there true = record {
        part = alike_enlisted x (enlisted x o) there refl refl refl;
        sent = refl;
      }
      alike_alone x there false = record {
        part = alike_enlisted x (record (enlisted x o) { head = Some o }) there refl refl refl;
        sent = refl;
      }

      alike_behind : (x : Version) → get vs v ≡ Some x → (tail : Option OpName)
          → RowsAlike (used_behind ws o v x tail) (used_behind vs o v x tail)
      alike_behind x there None = alike_alone x there x.produced
      alike_behind x there (Some last) = record {
        part = alike_enlisted x (enlisted x o) there refl refl refl;
        sent = refl;
      }

      alike_used : (x : Option Version) → get vs v ≡ x → RowsAlike (used_at ws o v x) (used_at vs o v x)
      alike_used None there = record { part = c; sent = refl }
      alike_used (Some x) there = alike_behind x there x.tail

      -- a version of the names is used
      pub alike_use : RowsAlike (after_use ws o v) (after_use vs o v)
      alike_use =
          subst (λ x. RowsAlike (used_at ws o v x) (after_use vs o v)) (sym (c.same v p))
          (alike_used (get vs v) refl)

    -- ---- release

    module _ (o v : OpName) (p : P v) where
      alike_released_by : (x : Version) → get vs v ≡ Some x → (producer : Bool)
          → RowsAlike (released_by ws o v x producer) (released_by vs o v x producer)
      alike_released_by x there true =
          alike_sending (head_ready v x x.head ++ Bye o false ∷ [])
          (settled (put_version ws v (produced_now x)) v) (settled (put_version vs v (produced_now x)) v)
          (alike_put_settled v p (produced_now x)
          (same_links x (produced_now x) refl refl refl (c.of_kind v x p there)))
      alike_released_by x there false =
          alike_sending (Bye o (not (is_last o x.tail)) ∷ [])
          (settled (put_version ws v (released_once x o)) v) (settled (put_version vs v (released_once x o)) v)
          (alike_put_settled v p (released_once x o)
          (same_links x (released_once x o) refl refl refl (c.of_kind v x p there)))

      alike_released : (producer : Bool) (x : Option Version) → get vs v ≡ x
          → RowsAlike (released_at ws o v producer x) (released_at vs o v producer x)
      alike_released producer None there = record { part = c; sent = refl }
      alike_released producer (Some x) there = alike_released_by x there producer

    -- it is released
    pub alike_release : (o : OpName) (r : ReleaseContents) → P r.version
        → RowsAlike (after_release ws o r) (after_release vs o r)
    alike_release o r p =
        subst (λ x. RowsAlike (released_at ws o r.version r.producer x) (after_release vs o r))
        (sym (c.same r.version p))
        (alike_released o r.version p r.producer (get vs r.version) refl)

    -- ---- nack and retire

    module _ (v : OpName) (p : P v) where
      alike_nacked : (x : Option Version) → get vs v ≡ x → RowsAlike (nacked_at ws v x) (nacked_at vs v x)
      alike_nacked None there = record { part = c; sent = refl }
      alike_nacked (Some x) there =
          alike_put_settled v p (refused_once x)
          (same_links x (refused_once x) refl refl refl (c.of_kind v x p there))

      -- it may not retire
      pub alike_nack : RowsAlike (after_nack ws v) (after_nack vs v)
      alike_nack =
          subst (λ x. RowsAlike (nacked_at ws v x) (after_nack vs v)) (sym (c.same v p))
          (alike_nacked (get vs v) refl)

      -- it retires
      pub alike_retire : Alike (after_retire ws v) (after_retire vs v)
      alike_retire = alike_drop P A all own ws vs c v p
