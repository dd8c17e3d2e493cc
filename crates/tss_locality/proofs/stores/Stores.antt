-- What is written to storages of a scope leaves home beyond its objects and the contents of every other buffer.
use Rattle.std.proofs.Common.{◌≡◌, ℕ, suc, ◌+◌, ◌<◌, ◌≤◌, Bool, true, false, cond, List, [], ◌∷◌, length, Some, refl}
use Rattle.std.proofs.Common.{ap, ◌∙◌, subst, inl, inr, ◌⊎◌, arith}
use Rattle.std.specs.Prelude.{unwrap_or, slice_get}
use Rattle.std.specs.FinMap.{get, insert}
use Rattle.std.proofs.lemmas.Bool.{cases_lt}
use Rattle.std.proofs.lemmas.List.{length-replicate}
use Rattle.tss_base.specs.declared.range.Range.{Range}
use Rattle.tss_base.specs.declared.operand.OpName.{OpName}
use Rattle.tss_base.specs.declared.operand.Operand.{Operand}
use Rattle.tss_base.specs.declared.machine.Limits.{Limits}
use Rattle.tss_base.specs.Names.{Numbered}
use Rattle.tss_maps.proofs.Keys.{nat_order, name_order}
use Rattle.tss_maps.proofs.Changes.{beside_inserted}
use Rattle.tss_model.specs.Memory.{Memory, zeros, byte_at, map_put, put_bytes}
use Rattle.tss_model.specs.Access.{reads}
use Rattle.tss_protocol.specs.Mail.{StorageName, Home, Buffer}
use Rattle.tss_protocol.specs.Workers.{Stores, storage_zeroed, outputs_zeroed}
use Rattle.tss_locality.specs.Agreement.{Beyond, AgreeAt}
use Rattle.tss_locality.specs.Scopes.{Scope, IsInside, beyond, StorageIn}
use Rattle.tss_locality.proofs.Agreements.{agree_same, agree_then, agree_inserted}
use Rattle.tss_locality.proofs.States.{HomeOn}

-- ---- bytes in memory

-- an address before the first byte of a write, or behind the last
abbrev IsBeside : ℕ → List ℕ → ℕ → Type 0
IsBeside at bs a = (a < at) ⊎ (at + length bs ≤ a)

map_put-beside : (bs : List ℕ) (m : Numbered ℕ) (at a : ℕ) → IsBeside at bs a → get (map_put m at bs) a ≡ get m a
map_put-beside [] m at a out = refl
map_put-beside (b ∷ bs) m at a (inl low) =
    beside_inserted nat_order (map_put m (suc at) bs) at b a (λ e. absurd (omega arith))
    ∙ map_put-beside bs m (suc at) a (inl (omega arith))
map_put-beside (b ∷ bs) m at a (inr high) =
    beside_inserted nat_order (map_put m (suc at) bs) at b a (λ e. absurd (omega arith))
    ∙ map_put-beside bs m (suc at) a (inr (omega arith))

-- the byte beside a write
put_bytes-beside : (m : Memory) (at : ℕ) (bs : List ℕ) (a : ℕ) → IsBeside at bs a →
    byte_at (put_bytes m at bs) a ≡ byte_at m a
put_bytes-beside m at bs a out = ap (λ o. unwrap_or o 0) (map_put-beside bs m.bytes at a out)

-- each byte of a write lies inside the scope
abbrev pub IsWrittenIn : Scope → ℕ → List ℕ → Type 0
IsWrittenIn c at bs = (a : ℕ) → at ≤ a → a < at + length bs → IsInside c a

beside_from_beyond : (c : Scope) (at : ℕ) (bs : List ℕ) (a : ℕ) → IsWrittenIn c at bs → Beyond (IsInside c) a →
    IsBeside at bs a
beside_from_beyond c at bs a inside out =
    elim (cases_lt a at) [
      | inl low ↦ inl low
      | inr from ↦ elim (cases_lt a (at + length bs)) [
        | inl below ↦ absurd (out (inside a from below))
        | inr behind ↦ inr behind
      ]
    ]

-- bytes are written inside the scope
pub home_written : (c : Scope) (m n : Memory) (at : ℕ) (bs : List ℕ) → HomeOn (beyond c) m n → IsWrittenIn c at bs →
    HomeOn (beyond c) m (put_bytes n at bs)
home_written c m n at bs f inside = record {
  ranges = f.ranges;
  bytes = λ a out. put_bytes-beside n at bs a (beside_from_beyond c at bs a inside out) ∙ f.bytes a out;
}

-- ---- storages

-- nothing is written beyond the scope
pub record StoresOnly (c : Scope) (s u : Stores) : Type 0 where
  pub home : HomeOn (beyond c) s.home u.home
  pub contents : AgreeAt (Beyond c.names) s.contents u.contents

-- storages as they stand
pub stores_same : (c : Scope) (s : Stores) → StoresOnly c s s
stores_same c s = record {
  home = record { ranges = refl; bytes = λ a out. refl };
  contents = agree_same
      (Beyond c.names) s.contents;
}

module _ (c : Scope) (s u : Stores) (f : StoresOnly c s u) where
  -- bytes are written at home
  pub stores_home : (at : ℕ) (bs : List ℕ) → IsWrittenIn c at bs →
      StoresOnly c s (record u { home = put_bytes u.home at bs })
  stores_home at bs inside = record { home = home_written c s.home u.home at bs f.home inside; contents = f.contents }

  -- a buffer gets other bytes
  pub stores_buffer : (n : OpName) (bs : List ℕ) → c.names n →
      StoresOnly c s (record u { contents = insert u.contents n bs })
  stores_buffer n bs p = record {
    home = f.home;
    contents = agree_then (Beyond c.names) s.contents u.contents (insert u.contents n bs) f.contents
        (agree_inserted name_order c.names u.contents n bs p);
  }

-- ---- start

zeros_inside : (c : Scope) (x : Range) → c.objects x → IsWrittenIn c x.base (zeros x.len)
unfolding zeros
zeros_inside c x p a low high =
    (x, p, (low, subst (λ n. a < x.base + n) (length-replicate x.len 0) high))

-- objects of operands, and the storages that go with them
pub record PlacedIn (c : Scope) (os : List Operand) (ts : List StorageName) : Type 0 where
  pub objects : (k : ℕ) (o : Operand) → slice_get os k ≡ Some o → c.objects o.object
  pub storages : (k : ℕ) (o : Operand) (t : StorageName) → slice_get os k ≡ Some o → slice_get ts k ≡ Some t →
      StorageIn c t

-- those behind the first
pub placed_rest : (c : Scope) (o : Operand) (t : StorageName) (os : List Operand) (ts : List StorageName) →
    PlacedIn c (o ∷ os) (t ∷ ts) → PlacedIn c os ts
placed_rest c o t os ts p = record {
  objects = λ k q there. p.objects (suc k) q there;
  storages = λ k q u there here. p.storages (suc k) q u there here;
}

module _ (c : Scope) (limits : Limits) (s : Stores) where
  stores_zeroed : (u : Stores) → StoresOnly c s u → (x : Range) (t : StorageName) → c.objects x → StorageIn c t →
      StoresOnly c s (storage_zeroed limits u x t)
  stores_zeroed u f x Home p i = stores_home c s u f x.base (zeros x.len) (zeros_inside c x p)
  stores_zeroed u f x (Buffer n) p i = stores_buffer c s u f n (zeros limits.object_bytes) i

  output_only : (u v : Stores) → StoresOnly c s u → StoresOnly c s v → (b : Bool) → StoresOnly c s (cond b u v)
  output_only u v f g true = f
  output_only u v f g false = g

  -- the outputs become zeros
  pub outputs_only : (os : List Operand) (ts : List StorageName) → PlacedIn c os ts →
      StoresOnly c s (outputs_zeroed limits s os ts)
  outputs_only [] ts p = stores_same c s
  outputs_only (o ∷ os) [] p = stores_same c s
  outputs_only (o ∷ os) (t ∷ ts) p =
      let rest = outputs_only os ts (placed_rest c o t os ts p) in
      let u = outputs_zeroed limits s os ts in
      output_only u (storage_zeroed limits u o.object t) rest
      (stores_zeroed u rest o.object t (p.objects 0 o refl) (p.storages 0 o t refl refl))
      (reads o.mode)
