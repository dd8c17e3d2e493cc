-- The lines of the banks while decodes are sent, one by one.
use Rattle.std.proofs.Common.{◌≡◌, ◌≢◌, ◌<◌, ℕ, zero, suc, ◌+◌, List, [], ◌∷◌, length, map, set, get_or, Some, None, refl, sym, ap, ◌∙◌, subst, arith}
use Rattle.std.specs.Prelude.{slice_get}
use Rattle.std.specs.FinMap.{get, insert}
use Rattle.std.proofs.lemmas.Option.{none-some, same_Some, slice_get-get_or}
use Rattle.tss_base.specs.declared.machine.Sizes.{Sizes}
use Rattle.tss_base.specs.declared.operand.OpName.{OpName}
use Rattle.tss_base.specs.declared.operand.Operand.{Operand}
use Rattle.tss_base.specs.Names.{Named}
use Rattle.tss_protocol.specs.Names.{bank_of}
use Rattle.tss_protocol.specs.Renaming.{line_of}
use Rattle.tss_banks.proofs.BankLines.{line_joined, line_passed}
use Rattle.tss_base.specs.declared.machine.Machine.{Machine}
use Rattle.tss_banks.specs.Collected.{with_at}
use Rattle.tss_banks.specs.Tables.{AreBankTables}
use Rattle.tss_banks.specs.Versions.{VersionsInBanks}
use Rattle.tss_events.specs.declared.message.Opening.{Opening}
use Rattle.tss_events.specs.declared.message.Gone.{Gone}
use Rattle.tss_renaming.specs.Bank.{tables_of}
use Rattle.tss_versions.specs.Known.{versions_of}
use Rattle.tss_pipeline.specs.declared.bank.Bank.{Bank}
use Rattle.tss_pipeline.specs.State.{bank_copy, copies_from}
use Rattle.tss_pipeline.specs.Fit.{IsSized, AreBanks, HoldsOpening, HoldsGone, HoldsOwn, Ground, HoldsLetters, ArePlaced}
use Rattle.tss_pipeline.specs.Lines.{with_line, lined, AwaitDecodes}
use Rattle.tss_pipeline.proofs.places.Holds.{HoldsAll, opening_held, gone_held, kept_held, engine_held}
use Rattle.tss_pipeline.proofs.places.Placing.{storages_by}

same_number : (n : ℕ) → n + 0 ≡ n
same_number n = omega arith

later_number : (n k : ℕ) → n + suc k ≡ suc n + k
later_number n k = omega arith

pub from_first : (k : ℕ) → k ≡ 0 + k
from_first k = omega arith

-- each bank from a number on has the line of these decodes
abbrev pub HaveLines : Sizes → Named Operand → ℕ → List Bank → Type 0
HaveLines sizes decodes n bs =
    (k : ℕ) (b : Bank) → slice_get bs k ≡ Some b → b.renaming.line ≡ line_of sizes (n + k) decodes

module _ (sizes : Sizes) where
  pub length-lined : (decodes : Named Operand) (n : ℕ) (bs : List Bank)
      → length (lined sizes decodes n bs) ≡ length bs
  length-lined decodes n [] = refl
  length-lined decodes n (b ∷ bs) = ap suc (length-lined decodes (suc n) bs)

  -- other lines take the place of lines
  pub lined_again : (decodes more : Named Operand) (n : ℕ) (bs : List Bank)
      → lined sizes more n (lined sizes decodes n bs) ≡ lined sizes more n bs
  lined_again decodes more n [] = refl
  lined_again decodes more n (b ∷ bs) =
      λ i. with_line b (line_of sizes n more) ∷ lined_again decodes more (suc n) bs i

  -- a bank with its line is one of the banks
  pub from_lined : (decodes : Named Operand) (n : ℕ) (bs : List Bank) (k : ℕ) (x : Bank)
      → slice_get (lined sizes decodes n bs) k ≡ Some x
      → (b : Bank) × (slice_get bs k ≡ Some b) × (x ≡ with_line b (line_of sizes (n + k) decodes))
  from_lined decodes n [] k x at = absurd (none-some x at)
  from_lined decodes n (b ∷ bs) zero x at = (
    b,
    refl,
    sym (same_Some (with_line b (line_of sizes n decodes)) x at)
        ∙ ap (λ m. with_line b (line_of sizes m decodes)) (sym (same_number n)),
  )
  from_lined decodes n (b ∷ bs) (suc k) x at =
      let t = from_lined decodes (suc n) bs k x at in
      (t.0, t.1, t.2 ∙ ap (λ m. with_line t.0 (line_of sizes m decodes)) (sym (later_number n k)))

  later_lines : (decodes : Named Operand) (n : ℕ) (b : Bank) (bs : List Bank) → HaveLines sizes decodes n (b ∷ bs)
      → HaveLines sizes decodes (suc n) bs
  later_lines decodes n b bs h = λ k x at. h (suc k) x at ∙ ap (λ m. line_of sizes m decodes) (later_number n k)

  first_line : (decodes : Named Operand) (n : ℕ) (b : Bank) (bs : List Bank) → HaveLines sizes decodes n (b ∷ bs)
      → b.renaming.line ≡ line_of sizes n decodes
  first_line decodes n b bs h = h zero b refl ∙ ap (λ m. line_of sizes m decodes) (same_number n)

  -- banks with their own lines
  pub lined_same : (decodes : Named Operand) (n : ℕ) (bs : List Bank) → HaveLines sizes decodes n bs
      → bs ≡ lined sizes decodes n bs
  lined_same decodes n [] h = refl
  lined_same decodes n (b ∷ bs) h = λ i.
      with_line b (first_line decodes n b bs h i)
      ∷ lined_same decodes (suc n) bs (later_lines decodes n b bs h) i

  module _ (decodes : Named Operand) (o : OpName) (p : Operand) (new : get decodes o ≡ None) where
    abbrev more : Named Operand
    more = insert decodes o p

    -- a decode that comes to none of the banks
    pub lined_passed : (n : ℕ) (bs : List Bank) → ((k : ℕ) → bank_of sizes p.object ≢ n + k)
        → HaveLines sizes decodes n bs → bs ≡ lined sizes (insert decodes o p) n bs
    lined_passed n bs other h =
        lined_same more n bs (λ k b at. h k b at ∙ sym (line_passed sizes (n + k) decodes o p (other k) new))

    -- one that comes to a bank
    pub lined_joined : (n : ℕ) (bs : List Bank) (k : ℕ) (b : Bank) → slice_get bs k ≡ Some b
        → bank_of sizes p.object ≡ n + k → HaveLines sizes decodes n bs
        → set bs k (with_line b (insert b.renaming.line o tt)) ≡ lined sizes (insert decodes o p) n bs
    lined_joined n [] k b at own h = absurd (none-some b at)
    lined_joined n (x ∷ xs) zero b at own h =
        let is = same_Some b x (sym at) in
        let joins = line_joined sizes n decodes o p (own ∙ same_number n) in
        let head = (λ i. with_line (is i) (insert ((is i).renaming.line) o tt))
        ∙ ap (with_line x) (ap (λ l. insert l o tt) (first_line decodes n x xs h) ∙ sym joins) in
        let tail = lined_passed (suc n) xs (λ k e. omega (arith, own, e)) (later_lines decodes n x xs h) in
        λ i. head i ∷ tail i
    lined_joined n (x ∷ xs) (suc k) b at own h =
        let stays = first_line decodes n x xs h
        ∙ sym (line_passed sizes n decodes o p (λ e. omega (arith, own, e)) new) in
        let tail = lined_joined (suc n) xs k b at (own ∙ later_number n k) (later_lines decodes n x xs h) in
        λ i. with_line x (stays i) ∷ tail i

-- a bank stands at its number
pub bank_there : (sizes : Sizes) (bs : List Bank) (n : ℕ) (d : Bank) → n < sizes.banks → length bs ≡ sizes.banks
    → slice_get bs n ≡ Some (get_or bs n d)
bank_there sizes bs n d within count = slice_get-get_or bs n d (omega (arith, within, count))

-- the lines of banks that await decodes
pub own_lines : (sizes : Sizes) (decodes : Named Operand) (bs : List Bank) → AwaitDecodes sizes decodes bs
    → HaveLines sizes decodes 0 bs
own_lines sizes decodes bs h =
    λ k b at. h.lines k b at ∙ ap (λ m. line_of sizes m decodes) (from_first k)

-- with more decodes they await others
pub await_more : (sizes : Sizes) (decodes more : Named Operand) (bs : List Bank) → AwaitDecodes sizes decodes bs
    → AwaitDecodes sizes more (lined sizes more 0 bs)
await_more sizes decodes more bs h = record {
  some = h.some;
  count = length-lined sizes more 0 bs ∙ h.count;
  windows = λ k x at.
      let t = from_lined sizes more 0 bs k x at in
      ap (λ (b : Bank). b.renaming.sizes.window) t.2 ∙ h.windows k t.0 t.1;
  lines = λ k x at.
      let t = from_lined sizes more 0 bs k x at in
      ap (λ (b : Bank). b.renaming.line) t.2 ∙ ap (λ m. line_of sizes m more) (sym (from_first k));
}

-- a part of banks that has no line
pub mapped_lined : {X : Type 0} (f : Bank → X)
    → ((b : Bank) (line : Named (Unit {0})) → f (with_line b line) ≡ f b) → (sizes : Sizes) (decodes : Named Operand)
    (n : ℕ) (bs : List Bank) → map f (lined sizes decodes n bs) ≡ map f bs
mapped_lined f same sizes decodes n [] = refl
mapped_lined f same sizes decodes n (b ∷ bs) =
    λ i. same b (line_of sizes n decodes) i ∷ mapped_lined f same sizes decodes (suc n) bs i

-- the copies
pub copies_lined : (sizes : Sizes) (decodes : Named Operand) (n k : ℕ) (bs : List Bank)
    → copies_from k (lined sizes decodes n bs) ≡ copies_from k bs
copies_lined sizes decodes n k [] = refl
copies_lined sizes decodes n k (b ∷ bs) =
    λ i. with_at (copies_lined sizes decodes (suc n) (suc k) bs i) k (bank_copy b)

-- the sizes
pub banks_lined : (m : Machine) (sizes : Sizes) (decodes : Named Operand) (bs : List Bank) → AreBanks m bs
    → AreBanks m (lined sizes decodes 0 bs)
banks_lined m sizes decodes bs h = record {
  count = length-lined sizes decodes 0 bs ∙ h.count;
  each = λ n x at.
      let t = from_lined sizes decodes 0 bs n x at in
      let own = h.each n t.0 t.1 in
      subst (IsSized m n) (sym t.2) (record { bank = own.bank; sizes = own.sizes; versions = own.versions });
}

module _ (b : Bank) (line : Named (Unit {0})) where
  holds_all : HoldsAll b.renaming (with_line b line).renaming
  holds_all = record { bank = refl; places = λ v p e. e; buffers = λ v p e. e }

  -- a bank's tokens
  pub own_lined : HoldsOwn b → HoldsOwn (with_line b line)
  own_lined h = record {
    apart = record {
      places = h.apart.places;
      buffers = h.apart.buffers;
      place_within = h.apart.place_within;
      buffer_within = h.apart.buffer_within;
    };
    versions = λ v y at. kept_held b.renaming ((with_line b line).renaming) holds_all v y (h.versions v y at);
    engine = engine_held b.renaming ((with_line b line).renaming) holds_all b.engine b.job h.engine;
  }

  pub opening_lined : (x : Opening) → HoldsOpening b.renaming x → HoldsOpening (with_line b line).renaming x
  opening_lined x h = opening_held b.renaming ((with_line b line).renaming) holds_all x h

  pub gone_lined : (x : Gone) → HoldsGone b.renaming x → HoldsGone (with_line b line).renaming x
  gone_lined x h = gone_held b.renaming ((with_line b line).renaming) holds_all x h

-- each thing is in its place, where the lines are those of other decodes
module _ (g : Ground) (decodes : Named Operand) (placed : ArePlaced g) where
  abbrev moved : Ground
  moved = record g { banks = lined g.sizes decodes 0 g.banks; decodes = decodes }

  letters_lined : (n : ℕ) (x : Bank) → slice_get (lined g.sizes decodes 0 g.banks) n ≡ Some x
      → HoldsLetters moved n x
  letters_lined n x at =
      let t = from_lined g.sizes decodes 0 g.banks n x at in
      let old = placed.letters n t.0 t.1 in
      let line = line_of g.sizes (0 + n) decodes in
      subst (HoldsLetters moved n) (sym t.2)
      (record {
        opens = λ o y e of_bank. opening_lined t.0 line y (old.opens o y e of_bank);
        gones = λ v y e of_bank. gone_lined t.0 line y (old.gones v y e of_bank);
        line = ap (λ m. line_of g.sizes m decodes) (sym (from_first n));
      })

  pub placed_lined : ArePlaced (record g { banks = lined g.sizes decodes 0 g.banks; decodes = decodes })
  placed_lined = record {
    tables =
        subst (AreBankTables g.sizes)
        (sym (mapped_lined (λ (b : Bank). tables_of b.renaming) (λ b line. refl) g.sizes decodes 0 g.banks))
        placed.tables;
    versions =
        subst (VersionsInBanks g.sizes)
        (sym (mapped_lined (λ (b : Bank). versions_of b.versions.versions) (λ b line. refl) g.sizes decodes 0 g.banks))
        placed.versions;
    own = λ n x at.
        let t = from_lined g.sizes decodes 0 g.banks n x at in
        subst HoldsOwn (sym t.2) (own_lined t.0 (line_of g.sizes (0 + n) decodes) (placed.own n t.0 t.1));
    letters = letters_lined;
    names = placed.names;
    workers = λ w x at.
        storages_by g moved x refl
        (λ n y there.
        let t = from_lined g.sizes decodes 0 g.banks n y there in
        (t.0, t.1, ap (λ (b : Bank). b.renaming.buffers) t.2))
        (placed.workers w x at);
  }
