use Rattle.std.proofs.Common.{◌≡◌, ◌∙◌, arith, length}
use Rattle.tss_elf.proofs.Loading.{loaded_bytes_is}
use Rattle.tss_elf.proofs.reading.segment.Goals as goal

pub returns-clause-ok : goal.returns-clause-ok
returns-clause-ok c =
    let count : c.extend_from_slice.new.self.len ≡ length c.extend_from_slice.new.self.items = omega arith in
    let bytes =
    loaded_bytes_is c.args.bytes.now c.args.header.now c.requires _ _ _ _ c.in_ok-loaded.ensures.items count
    c.in_ok-extend_from_slice.ensures.items c.in_ok-resize.ensures.items in
    c.new.ensures ∙ (λ i. record {
      base = c.args.header.now.address;
      bytes = bytes i;
      writable = c.is_writable.ensures i;
      code = c.is_code.ensures i;
    })
