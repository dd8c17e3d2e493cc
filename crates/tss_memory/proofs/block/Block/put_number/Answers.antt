-- The bytes that are put are that part of the block.
use Rattle.std.proofs.Common.{◌≡◌, ℕ, ◌+◌, ◌-◌, ◌≤◌, List, ◌++◌, length, take, drop, sym, ap, subst, ◌∙◌, arith}
use Rattle.std.specs.Prelude.{IsTrue}
use Rattle.std.proofs.Math.Seq.{take-append_seam}
use Rattle.tss_base.specs.Range.{contains}
use Rattle.tss_model.specs.Memory.{list_put}
use Rattle.tss_model.specs.Core.{low_bytes}
use Rattle.tss_memory.specs.Blocks.{BlockState, block_range, put_block, with_part}
use Rattle.tss_memory.proofs.RangeLemmas.{contains_parts}
use Rattle.tss_memory.proofs.PartLemmas.{length-low_bytes, length-with_part, list_put-with_part}
use Rattle.tss_memory.proofs.block.Block.put_number.Goals as goal

pub returns : goal.returns
returns c =
    let b = c.self.inside in
    let xs : List ℕ = b.bytes.items in
    let state : List ℕ → BlockState = λ zs. record { base = b.base; bytes = zs; writable = b.writable } in
    let first : ℕ = c.args.r.now.base - b.base in
    let ys : List ℕ = low_bytes c.args.r.now.len c.args.value in
    let many : length ys ≡ c.args.r.now.len = length-low_bytes c.args.r.now.len c.args.value in
    let inside : IsTrue (contains (block_range (state xs)) c.args.r.now) =
    subst (λ (x : BlockState). IsTrue (contains (block_range x) c.args.r.now)) (sym c.self.view_is) c.requires.inside in
    let parts = contains_parts (block_range (state xs)) c.args.r.now inside in
    let within : first + length ys ≤ length xs = omega (arith, many, parts.0, parts.1) in
    let put : c.put.new.bytes ≡ with_part xs first ys =
    c.put.ensures ∙ ap (λ (zs : List ℕ). list_put zs first ys) c.as_mut_slice.ensures.value ∙ list_put-with_part ys xs first within in
    let long : length c.put.new.bytes ≡ length xs =
    ap (λ (zs : List ℕ). length zs) put ∙ length-with_part xs first ys within in
    let count : b.bytes.len ≡ length c.put.new.bytes = omega (arith, long) in
    let whole : take b.bytes.len (c.put.new.bytes ++ drop (length c.put.new.bytes) xs) ≡ c.put.new.bytes =
    ap (λ (n : ℕ). take n (c.put.new.bytes ++ drop (length c.put.new.bytes) xs)) count
    ∙ take-append_seam c.put.new.bytes (drop (length c.put.new.bytes) xs) in
    ap state (whole ∙ put) ∙ ap (λ (x : BlockState). put_block x c.args.r.now.base ys) c.self.view_is
