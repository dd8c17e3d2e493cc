-- A piece that goes out changes no other file.
use Rattle.std.proofs.Common.{◌≡◌, ℕ, Bool, true, false, cond, List, Option, Some, None, IfSome, Result, Ok, Err, refl, sym, ap, ◌∙◌, subst}
use Rattle.std.specs.Prelude.{bytes_eq}
use Rattle.std.proofs.lemmas.Slice.Eq.{bytes_eq-Decides}
use Rattle.tss_outside.specs.declared.files.Failed.{Failed}
use Rattle.tss_outside.specs.declared.files.Files.{Ghosts}
use Rattle.tss_outside.specs.Outside.{Held, SameOthers, AppendsTo, PutsPrefixTo}
use Rattle.tss_log.specs.declared.file_log.FileLog.{FileLog}
use Rattle.tss_log.specs.Logs.{Stays}
use Rattle.tss_log.specs.FileLogs.{held_beside, other_by, KeepsFiles, AppendsPiece, Puts}

stays_same : {X : Type 0} (told : Option X) → Stays told told
stays_same None = tt
stays_same (Some x) = refl

-- where files are told now they were told before, and but one they hold the same
abbrev SameBeside : Option Held → Option Held → List ℕ → Type 0
SameBeside old new name = IfSome new (λ b. (a : Held) × (old ≡ Some a) × SameOthers a b name)

same_appended : (old new : Option Held) (name bytes : List ℕ) → AppendsTo old new name bytes → SameBeside old new name
same_appended old None name bytes h = tt
same_appended old (Some b) name bytes h = (h.0, h.1, h.3)

same_prefix : (old new : Option Held) (name bytes : List ℕ) → PutsPrefixTo old new name bytes → SameBeside old new name
same_prefix old None name bytes h = tt
same_prefix old (Some b) name bytes h = (h.0, h.1, h.3)

-- a name is this one, or its file holds the same
same_at : (a b : Held) (name : List ℕ) → SameOthers a b name → (n : List ℕ)
    → cond (bytes_eq n name) None (a n) ≡ cond (bytes_eq n name) None (b n)
same_at a b name same n = by (bytes_eq n name) refl
  where
    by : (t : Bool) → bytes_eq n name ≡ t → cond t None (a n) ≡ cond t None (b n)
    by true e = refl
    by false e = sym (same n (λ is. true_false (sym ((bytes_eq-Decides n name).1 is) ∙ e)))
      where
        true_false : true ≡ false → ⊥
        true_false e = cc

beside_stays : (old new : Option Held) (name : List ℕ) → SameBeside old new name
    → Stays (held_beside name old) (held_beside name new)
beside_stays old None name h = tt
beside_stays old (Some b) name h =
    ap (held_beside name) h.1 ∙ (λ i. Some (λ n. same_at h.0 b name h.2 n i))

module _ {F : Type 0} (g : Ghosts F) (old new : FileLog F) where
  appends_beside : (result : Result (Unit {0}) Failed) (line : List ℕ) → AppendsPiece g old new result line
      → SameBeside (g.held old.files.now) (g.held new.files.now) old.name.now
  appends_beside (Ok v) line h = same_appended _ _ _ _ h.ok
  appends_beside (Err e) line h = same_prefix _ _ _ _ h.prefix

  -- other files stay, whether a piece goes out or not
  pub others_stay : (flag : Bool) (result : Result (Unit {0}) Failed) (line : List ℕ) → KeepsFiles g old new
      → Puts g flag old new result line → Stays (other_by g old) (other_by g new)
  others_stay true result line keeps h =
      subst (λ name. Stays (other_by g old) (held_beside name (g.held new.files.now))) (sym keeps.name)
      (beside_stays (g.held old.files.now) (g.held new.files.now) old.name.now (appends_beside result line h))
  others_stay false result line keeps h =
      subst (Stays (other_by g old)) (λ i. held_beside (sym keeps.name i) (g.held (sym h.files i)))
      (stays_same (other_by g old))
