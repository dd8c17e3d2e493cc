-- Only the count of this name rises.
use Rattle.std.proofs.Common.{map, string_bytes, subst}
use Rattle.tss_outside.specs.Outside.{RaisesOnly}
use Rattle.tss_outside.specs.Real.{RealFilesState, is_counted, count_of}
use Rattle.tss_outside.proofs.RealLemmas.{raised}
use Rattle.tss_outside.proofs.real.RealFilesFiles.read.Goals as goal

pub returns-in-Err-Failed-clause-counts : goal.returns-in-Err-Failed-clause-counts
returns-in-Err-Failed-clause-counts g c =
    let names = map string_bytes c.self.inside.names.now in
    subst (λ (s : RealFilesState). RaisesOnly (is_counted s.names) (count_of s.names s.read_faults) (count_of names c.raise.new.counts) c.args.name.now) c.self.view_is
    (raised names c.args.name.now c.self.inside.read_faults c.raise.new.counts c.place_of-place.result _ c.place_of-place.ensures c.raise.ensures.risen c.raise.ensures.never_falls)
