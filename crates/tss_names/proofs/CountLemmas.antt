-- Readers are counted once for each decoded operand at most.
use Rattle.std.proofs.Common.{◌≡◌, ℕ, suc, ◌+◌, ◌*◌, ◌≤◌, inl, inr, List, [], ◌∷◌, length, Option, Some, None, refl, ap}
use Rattle.std.proofs.Common.{arith, suc-mul}
use Rattle.std.specs.FinMap.{get, insert, len}
use Rattle.tss_base.specs.declared.operand.OpName.{OpName}
use Rattle.tss_base.specs.declared.operand.Mode.{Mode}
use Rattle.tss_base.specs.declared.operand.Mode.TheVariants.{Input, Output, Inout}
use Rattle.tss_base.specs.declared.operand.Operand.{Operand}
use Rattle.tss_base.specs.declared.operand.Task.{Task}
use Rattle.tss_base.specs.Names.{Named, Numbered}
use Rattle.tss_maps.proofs.Keys.{nat_order, name_order}
use Rattle.tss_maps.proofs.Changes.{from_inserted}
use Rattle.tss_maps.proofs.Entries.{len_inserted}
use Rattle.tss_model.specs.Access.{operands_of}
use Rattle.tss_protocol.specs.Names.{operand_name}
use Rattle.tss_protocol.specs.Mail.{OpenContents, Mail, posted}
use Rattle.tss_protocol.specs.State.{Entry, Version}
use Rattle.tss_protocol.specs.Renaming.{first_readers, live_entry, entry_after_decode, live_message, decode_message}
use Rattle.tss_protocol.specs.Versions.{after_open, after_use}
use Rattle.tss_names.specs.Tasks.{task_at}
use Rattle.tss_names.proofs.TakeLemmas.{spread}
use Rattle.tss_names.proofs.NumberLemmas.{at_newest, still_at}
use Rattle.tss_names.proofs.VersionFacts.{IsOfEach, each_open, each_use}
use Rattle.tss_names.specs.Names.{EachEntry}

-- ---- operands of tasks

-- of all these
abbrev pub operands_in : List Task → ℕ
operands_in [] = 0
operands_in (t ∷ ts) = length (operands_of t) + operands_in ts

-- of the task in the inbox
abbrev pub operands_waiting : Option Task → ℕ
operands_waiting None = 0
operands_waiting (Some t) = length (operands_of t)

-- where no task has more than so many, all have at most their number times that
pub operands_few : (most : ℕ) (ts : List Task)
    → ((n : ℕ) (t : Task) → task_at ts n ≡ Some t → length (operands_of t) ≤ most) → operands_in ts ≤ length ts * most
operands_few most [] each = omega arith
operands_few most (t ∷ ts) each =
    let here = each (suc (length ts)) t (at_newest t ts (suc (length ts)) refl) in
    let rest = operands_few most ts (λ n u e. each n u (still_at t ts n u e)) in
    let step = suc-mul (length ts) most in
    omega (arith, here, rest, step)

-- ---- the counts, where u operands are still to be decoded, and p opens and uses are under way

-- no entry and no version counts more readers than the operands that were decoded or enlisted
pub record Counts (total u p : ℕ) (entries : Numbered Entry) (versions : Named Version) : Type 0 where
  pub fits : u + p ≤ total
  pub sent : (base : ℕ) (e : Entry) → get entries base ≡ Some e → e.sent + u ≤ total
  pub registered : (v : OpName) (x : Version) → get versions v ≡ Some x → x.registered + (u + p) ≤ total

-- with fewer left
pub counts_less : (total more u w p q : ℕ) (es : Numbered Entry) (vs : Named Version) → Counts total u p es vs
    → w ≤ u + more → w + q ≤ u + p + more → Counts (total + more) w q es vs
counts_less total more u w p q es vs h fewer less = record {
  fits = let a = h.fits in omega (arith, a, less);
  sent = λ base e there. let a = h.sent base e there in omega (arith, a, fewer);
  registered = λ v x there. let a = h.registered v x there in omega (arith, a, less);
}

-- the same with as many tasks
pub counts_still : (total u w p q : ℕ) (es : Numbered Entry) (vs : Named Version) → Counts total u p es vs → w ≤ u
    → w + q ≤ u + p → Counts total w q es vs
counts_still total u w p q es vs h fewer less = record {
  fits = let a = h.fits in omega (arith, a, less);
  sent = λ base e there. let a = h.sent base e there in omega (arith, a, fewer);
  registered = λ v x there. let a = h.registered v x there in omega (arith, a, less);
}

-- a bound on a version's readers is kept by all changes but those of open and use
pub readers_of_each : (rest total : ℕ) → IsOfEach (λ v x. x.registered + rest ≤ total)
readers_of_each rest total = record {
  links = λ v x p h. h;
  follows = λ v x f h. h;
  stores = λ v x s h. h;
  asks = λ v x n h. h;
  produces = λ v x h. h;
  releases = λ v x o h. h;
  refuses = λ v x h. h;
}

-- ---- take

-- at most one more for each operand
pub len-spread : {X : Type 0} (f : Operand → X) (m : Named X) (n place : ℕ) (os : List Operand)
    → len (spread f m n place os) ≤ len m + length os
len-spread f m n place [] = omega arith
len-spread f m n place (o ∷ os) =
    let rest = len-spread f (insert m (operand_name n place) (f o)) n (suc place) os in
    let one = (len_inserted name_order m (operand_name n place) (f o)).1 in
    omega (arith, rest, one)

-- ---- decode

one_open : (m : Mail) (o : OpName) (c : OpenContents)
    → len (insert m.opens o c) + len m.uses ≤ len m.opens + len m.uses + 1
one_open m o c = let a = (len_inserted name_order m.opens o c).1 in omega (arith, a)

-- one more open or use
pub len_message : (m : Mail) (o : OpName) (operand : Operand) (e : Option Entry)
    → len (posted m (decode_message o operand e)).opens + len (posted m (decode_message o operand e)).uses
    ≤ len m.opens + len m.uses + 1
len_message m o operand e = by e
  where
    live : (e : Entry) (mode : Mode)
        → len (posted m (live_message o operand e mode)).opens + len (posted m (live_message o operand e mode)).uses
        ≤ len m.opens + len m.uses + 1
    live e Input = let a = (len_inserted name_order m.uses o e.latest).1 in omega (arith, a)
    live e Output = one_open m o _
    live e Inout = one_open m o _

    by : (e : Option Entry)
        → len (posted m (decode_message o operand e)).opens + len (posted m (decode_message o operand e)).uses
        ≤ len m.opens + len m.uses + 1
    by None = one_open m o _
    by (Some e) = live e operand.mode

first_few : (mode : Mode) → first_readers mode ≤ 1
first_few Input = omega arith
first_few Output = omega arith
first_few Inout = omega arith

live_more : (o : OpName) (e : Entry) (mode : Mode) → (live_entry o e mode).sent ≤ e.sent + 1
live_more o e Input = omega arith
live_more o e Output = omega arith
live_more o e Inout = omega arith

-- an entry counts one more, or begins with at most one
pub counts_decoded : (total u w p q : ℕ) (es : Numbered Entry) (vs : Named Version) → Counts total u p es vs
    → w + 1 ≡ u → q ≤ p + 1 → (o : OpName) (operand : Operand) (e : Option Entry) → get es operand.object.base ≡ e
    → Counts total w q (insert es operand.object.base (entry_after_decode o operand e)) vs
counts_decoded total u w p q es vs h fewer more o operand e there = record {
  fits = let a = h.fits in omega (arith, a, fewer, more);
  sent = λ base f is. elim (from_inserted nat_order es operand.object.base (entry_after_decode o operand e) base f is) [
    | inl here ↦ let a = ap (λ (f : Entry). f.sent) here.1 in let b = new e there in omega (arith, a, b)
    | inr before ↦ let a = h.sent base f before.1 in omega (arith, a, fewer)
  ];
  registered = λ v x is. let a = h.registered v x is in omega (arith, a, fewer, more);
}
  where
    new : (e : Option Entry) → get es operand.object.base ≡ e → (entry_after_decode o operand e).sent + w ≤ total
    new None there = let a = first_few operand.mode in let b = h.fits in omega (arith, a, b, fewer)
    new (Some e) there =
        let a = live_more o e operand.mode in
        let b = h.sent operand.object.base e there in
        omega (arith, a, b, fewer)

-- ---- open, use

-- a new version counts at most the operand that opened it
pub counts_opened : (total u p q : ℕ) (es : Numbered Entry) (vs : Named Version) → Counts total u p es vs → q + 1 ≡ p
    → (o : OpName) (c : OpenContents) → Counts total u q es (after_open vs o c).part
counts_opened total u p q es vs h fewer o c =
    let C : OpName → Version → Type 0 = λ v x. x.registered + (u + q) ≤ total in
    let old : EachEntry C vs = λ v x e. let a = h.registered v x e in omega (arith, a, fewer) in
    record {
      fits = let a = h.fits in omega (arith, a, fewer);
      sent = h.sent;
      registered =
          each_open C (readers_of_each (u + q) total) vs o c old
          (λ x object few. let a = h.fits in omega (arith, a, fewer, few));
    }

-- a use counts one more
pub counts_used : (total u p q : ℕ) (es : Numbered Entry) (vs : Named Version) → Counts total u p es vs → q + 1 ≡ p
    → (o v : OpName) → Counts total u q es (after_use vs o v).part
counts_used total u p q es vs h fewer o v =
    let C : OpName → Version → Type 0 = λ v x. x.registered + (u + q) ≤ total in
    let old : EachEntry C vs = λ v x e. let a = h.registered v x e in omega (arith, a, fewer) in
    record {
      fits = let a = h.fits in omega (arith, a, fewer);
      sent = h.sent;
      registered =
          each_use C (readers_of_each (u + q) total) vs o v old
          (λ x e. let a = h.registered v x e in (omega (arith, a, fewer), omega (arith, a, fewer)));
    }
