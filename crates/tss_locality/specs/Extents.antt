-- Parts of a state: what two states have to agree on to have the same part.
use Rattle.std.specs.Prelude.{◌≡◌, ℕ, Some}
use Rattle.std.specs.FinMap.{get}
use Rattle.tss_base.specs.declared.range.Range.{Range}
use Rattle.tss_base.specs.declared.operand.OpName.{OpName}
use Rattle.tss_base.specs.Range.{Covers}
use Rattle.tss_model.specs.Memory.{byte_at}
use Rattle.tss_protocol.specs.State.{HeldTrap, State}
use Rattle.tss_protocol.specs.Stations.{operand_at}
use Rattle.tss_locality.specs.Agreement.{AgreeAt, SameFor, MailAgrees, SameOperand, SameShape, operand_in, times_in}

-- a part of a state: what stands under these names of operands and versions, what tasks have under these of their own
-- operands, the entries under these bases, home at these addresses, what is copied of these objects, and these tasks
pub record Extent : Type 1 where
  pub names : OpName → Type 0
  pub own : OpName → Type 0
  pub bases : ℕ → Type 0
  pub addresses : ℕ → Type 0
  pub objects : Range → Type 0
  pub tasks : ℕ → Type 0

-- the second state has the same part as the first. Code, the ranges of home, and the task and number of operands of
-- what stays in flight are the same in any case, and a trap of these tasks isn't new
pub record SameOn (e : Extent) (S T : State) : Type 0 where
  pub code : T.code ≡ S.code
  pub ranges : T.home.ranges ≡ S.home.ranges
  pub home : (a : ℕ) → e.addresses a → byte_at T.home a ≡ byte_at S.home a
  pub inbox : SameFor (λ t. e.tasks t.number) S.inbox T.inbox
  pub arrivals : (o : OpName) → e.names o → operand_in T.inbox o ≡ operand_in S.inbox o
  pub gateway : AgreeAt e.own S.gateway T.gateway
  pub flight : AgreeAt e.tasks S.flight T.flight
  pub shapes : (n : ℕ) → SameShape (get S.flight n) (get T.flight n)
  pub operands : (o : OpName) → e.names o → SameOperand (operand_at S.flight o) (operand_at T.flight o)
  pub queue : (n : ℕ) → e.tasks n → times_in n T.queue ≡ times_in n S.queue
  pub workers : (w : ℕ) → SameFor (λ b. e.tasks b.task.number) (get S.workers w) (get T.workers w)
  pub entries : AgreeAt e.bases S.entries T.entries
  pub places : AgreeAt e.names S.places T.places
  pub buffers : AgreeAt e.names S.buffers T.buffers
  pub contents : AgreeAt e.names S.contents T.contents
  pub versions : AgreeAt e.names S.versions T.versions
  pub mail : MailAgrees e.names e.own S.mail T.mail
  pub copies : (b : ℕ) → SameFor (λ k. e.objects k.object) (get S.copies b) (get T.copies b)
  pub trap : (h : HeldTrap) → e.tasks h.task → T.trap ≡ Some h → S.trap ≡ Some h

-- the part of an object, with the names of its operands
abbrev pub object_part : (OpName → Type 0) → Range → Extent
object_part names x = record {
  names = names;
  own = names;
  bases = λ b. b ≡ x.base;
  addresses = Covers x;
  objects = λ y. y ≡ x;
  tasks = λ n. ⊥;
}
