-- What is kept of the code's words, with one more.
use Rattle.std.proofs.Common.{true, Option, IfSome, ◌≡◌, ℕ, zero, suc, ◌+◌, ◌*◌, List, [], ◌∷◌, ◌++◌, length, Some, ap, sym, refl, subst, inl, inr, ◌⊎◌}
use Rattle.std.specs.Prelude.{slice_get}
use Rattle.tss_base.specs.Image.{SegmentState}
use Rattle.tss_isa.specs.declared.instr.Instr.{Instr}
use Rattle.tss_isa.specs.declared.instr.Instr.TheVariants.{Lui, Auipc, Jal, Jalr, Branch, Load, Store, OpImm, Op, Fence, Ecall, Ebreak}
use Rattle.tss_isa.specs.InstrTable.{instr_at, fits}
use Rattle.tss_model.specs.Memory.{code_word}
use Rattle.tss_memory.specs.Segments.{AreKept, IsKept, unless_break}

-- what stands at a place of a list with one more at its end
last_or_before : {X : Type 0} (xs : List X) (x y : X) (k : ℕ) → slice_get (xs ++ x ∷ []) k ≡ Some y
    → (slice_get xs k ≡ Some y) ⊎ ((k ≡ length xs) × (x ≡ y))
last_or_before [] x y zero e = inr (refl, cc)
last_or_before [] x y (suc k) e = absurd (cc)
last_or_before (a ∷ xs) x y zero e = inl e
last_or_before (a ∷ xs) x y (suc k) e =
    elim (last_or_before xs x y k e) [ inl before ↦ inl before | inr last ↦ inr (ap suc last.0, last.1) ]

pub AreKept-more : (segments : List SegmentState) (start : ℕ) (kept : List Instr) (f : Instr)
    → AreKept segments start kept → IsKept (code_word segments (start + 4 * length kept)) f
    → AreKept segments start (kept ++ f ∷ [])
AreKept-more segments start kept f before here k g e =
    elim (last_or_before kept f g k e) [
      | inl there ↦ before k g there
      | inr last ↦
          subst (λ (x : Instr). IsKept (code_word segments (start + 4 * k)) x) last.1
          (subst (λ (n : ℕ). IsKept (code_word segments (start + 4 * n)) f) (sym last.0) here)
    ]

-- what is kept, where it isn't EBREAK, is the word's instruction
abbrev pub IsInstrOf : Option ℕ → Instr → Type 0
IsInstrOf word i = (instr_at word ≡ Some i) × (fits i ≡ true)

pub kept_unless_break : (word : Option ℕ) (i : Instr) → IsKept word i → IfSome (unless_break i) (IsInstrOf word)
kept_unless_break word (Lui d m) h = elim h [ inl e ↦ absurd (cc) | inr p ↦ p ]
kept_unless_break word (Auipc d m) h = elim h [ inl e ↦ absurd (cc) | inr p ↦ p ]
kept_unless_break word (Jal d m) h = elim h [ inl e ↦ absurd (cc) | inr p ↦ p ]
kept_unless_break word (Jalr d s m) h = elim h [ inl e ↦ absurd (cc) | inr p ↦ p ]
kept_unless_break word (Branch t s r m) h = elim h [ inl e ↦ absurd (cc) | inr p ↦ p ]
kept_unless_break word (Load k d s m) h = elim h [ inl e ↦ absurd (cc) | inr p ↦ p ]
kept_unless_break word (Store k r s m) h = elim h [ inl e ↦ absurd (cc) | inr p ↦ p ]
kept_unless_break word (OpImm o d s m) h = elim h [ inl e ↦ absurd (cc) | inr p ↦ p ]
kept_unless_break word (Op o d s r) h = elim h [ inl e ↦ absurd (cc) | inr p ↦ p ]
kept_unless_break word (Fence d s b) h = elim h [ inl e ↦ absurd (cc) | inr p ↦ p ]
kept_unless_break word Ecall h = elim h [ inl e ↦ absurd (cc) | inr p ↦ p ]
kept_unless_break word Ebreak h = tt
