-- The readies that an operand's ready or link sends, with the place of the storage.
use Rattle.std.specs.Prelude.{List, [], ◌∷◌, Option, Some, None}
use Rattle.tss_base.specs.declared.operand.OpName.{OpName}
use Rattle.tss_base.specs.declared.operand.Storage.{Storage}
use Rattle.tss_base.specs.declared.marks.LinkState.{LinkState}
use Rattle.tss_base.specs.declared.marks.LinkState.TheVariants as link
use Rattle.tss_events.specs.declared.message.Message.{Message}
use Rattle.tss_events.specs.declared.message.Message.TheVariants as message
use Rattle.tss_stations.specs.declared.operand_view.OperandView.{OperandView}

-- that of a held link, where its operand is told this
abbrev pub passed_by : OpName → Storage → LinkState → List Message
passed_by v storage link.Nothing = []
passed_by v storage (link.Held next) = message.Ready next v storage ∷ []
passed_by v storage link.Passed = []

-- by what is known of the operand
abbrev pub sent_on_ready : OpName → Storage → Option OperandView → List Message
sent_on_ready v storage None = []
sent_on_ready v storage (Some r) = passed_by v storage r.link

-- that for the next operand, where this was told
abbrev pub told_by : OpName → Option OpName → Option Storage → List Message
told_by next None storage = []
told_by next (Some v) None = []
told_by next (Some v) (Some storage) = message.Ready next v storage ∷ []

-- by what is known of the operand
abbrev pub sent_on_link : OpName → Option OperandView → List Message
sent_on_link next None = []
sent_on_link next (Some r) = told_by next r.version r.storage

-- one ready, or nothing
abbrev pub IsReadyAtMost : List Message → Type 0
IsReadyAtMost [] = Unit {0}
IsReadyAtMost (message.Ready o v storage ∷ []) = Unit {0}
IsReadyAtMost ms = ⊥
