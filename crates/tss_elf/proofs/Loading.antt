-- The bytes of a segment: how many they are, and that they are those which the file gives and then zeros.
use Rattle.std.proofs.Common.{◌≡◌, ℕ, ◌+◌, ◌-◌, List, [], ◌++◌, length, take, drop, ap, ◌∙◌, arith}
use Rattle.std.specs.Prelude.{replicate}
use Rattle.std.proofs.lemmas.List.{length-take-le, length-drop, length-append, length-replicate, take_all}
use Rattle.tss_elf.specs.declared.header.ProgramHeader.{ProgramHeader}
use Rattle.tss_elf.specs.Elf.{CanLoad, loaded_bytes}

module _ (bytes : List ℕ) (h : ProgramHeader) (can : CanLoad (length bytes) h) where
  -- the bytes of the file
  length_stored : length (take h.file_size (drop h.offset bytes)) ≡ h.file_size
  length_stored =
      length-take-le h.file_size (drop h.offset bytes) (omega (arith, length-drop h.offset bytes, can.stored))

  -- all bytes
  pub length-loaded_bytes : length (loaded_bytes bytes h) ≡ h.memory_size
  unfolding loaded_bytes
  length-loaded_bytes =
      length-append (take h.file_size (drop h.offset bytes)) (replicate (h.memory_size - h.file_size) 0)
      ∙ omega (arith, length_stored, length-replicate {A = ℕ} (h.memory_size - h.file_size) 0, can.within)

  -- a list with room that gets the bytes of the file and is filled up with zeros
  pub loaded_bytes_is : (start stored filled : List ℕ) (n : ℕ) → start ≡ [] → n ≡ length stored
      → stored ≡ start ++ take (h.offset + h.file_size - h.offset) (drop h.offset bytes)
      → filled ≡ take h.memory_size stored ++ replicate (h.memory_size - n) 0 → filled ≡ loaded_bytes bytes h
  unfolding loaded_bytes
  loaded_bytes_is start stored filled n empty count is filled_is =
      let part = take h.file_size (drop h.offset bytes) in
      let size : h.offset + h.file_size - h.offset ≡ h.file_size = omega arith in
      let same : stored ≡ part =
      is ∙ ap (λ s. s ++ take (h.offset + h.file_size - h.offset) (drop h.offset bytes)) empty
      ∙ ap (λ k. take k (drop h.offset bytes)) size in
      let counted : n ≡ h.file_size = count ∙ ap length same ∙ length_stored in
      let front : take h.memory_size stored ≡ part =
      ap (take h.memory_size) same ∙ take_all h.memory_size part (omega (arith, length_stored, can.within)) in
      filled_is ∙ ap (λ s. s ++ replicate (h.memory_size - n) 0) front
      ∙ ap (λ k. part ++ replicate (h.memory_size - k) 0) counted
