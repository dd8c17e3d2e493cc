-- Bytes that the reader of images accepts.
use Rattle.std.specs.Prelude.{◌≡◌, ℕ, List}
use Rattle.tss_base.specs.Image.{ImageState}
use Rattle.tss_elf.specs.Elf.{image_of, Accepted}

abbrev pub IsImage : List ℕ → Type 0
IsImage bytes = (image : ImageState) × (image_of bytes ≡ Accepted image)
