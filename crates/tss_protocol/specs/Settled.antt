-- Versions that are settled, and those that give way to the version that follows them.
use Rattle.std.specs.Prelude.{◌≡◌, true, false, Some, None}
use Rattle.std.specs.FinMap.{get}
use Rattle.tss_base.specs.declared.operand.OpName.{OpName}
use Rattle.tss_base.specs.declared.marks.How.{How}
use Rattle.tss_base.specs.declared.marks.Follow.{Follow}
use Rattle.tss_base.specs.Names.{Named}
use Rattle.tss_protocol.specs.State.{Version}
use Rattle.tss_protocol.specs.Versions.{may_die, may_ask}

-- a version is settled: it may neither give way to the one that follows it, nor ask
pub record IsSettled (y : Version) : Type 0 where
  pub dies : (f : Follow) → y.successor ≡ Some f → may_die y f.last ≡ false
  pub asks : y.successor ≡ None → may_ask y ≡ false

-- a version is done, and gives way to the one that follows it in this way
pub record GivesWay (vs : Named Version) (v : OpName) (x : Version) (f : Follow) (how : How) : Type 0 where
  pub there : get vs v ≡ Some x
  pub next : x.successor ≡ Some f
  pub way : f.how ≡ how
  pub done : may_die x f.last ≡ true
