-- The texts of the events that take messages.
use Rattle.std.proofs.Common.{◌≡◌, ◌++◌, refl}
use Rattle.std.specs.Prelude.{codes}
use Rattle.tss_base.specs.declared.operand.OpName.{OpName}
use Rattle.tss_base.specs.declared.event.Event.TheVariants as event
use Rattle.tss_protocol.specs.Text.{name_text, event_text}

pub decode_event : (o : OpName) → codes "decode " ++ name_text o ≡ event_text (event.Decode o)
unfolding event_text
decode_event o = refl

pub ack_event : (o : OpName) → codes "ack " ++ name_text o ≡ event_text (event.Ack o)
unfolding event_text
ack_event o = refl

pub open_event : (o : OpName) → codes "open " ++ name_text o ≡ event_text (event.Open o)
unfolding event_text
open_event o = refl

pub use_event : (o : OpName) → codes "use " ++ name_text o ≡ event_text (event.Use o)
unfolding event_text
use_event o = refl

pub ready_event : (o : OpName) → codes "ready " ++ name_text o ≡ event_text (event.Ready o)
unfolding event_text
ready_event o = refl

pub link_event : (o : OpName) → codes "link " ++ name_text o ≡ event_text (event.Link o)
unfolding event_text
link_event o = refl

pub release_event : (o : OpName) → codes "release " ++ name_text o ≡ event_text (event.Release o)
unfolding event_text
release_event o = refl

pub bye_event : (o : OpName) → codes "bye " ++ name_text o ≡ event_text (event.Bye o)
unfolding event_text
bye_event o = refl

pub idle_event : (o : OpName) → codes "idle " ++ name_text o ≡ event_text (event.Idle o)
unfolding event_text
idle_event o = refl

pub nack_event : (o : OpName) → codes "nack " ++ name_text o ≡ event_text (event.Nack o)
unfolding event_text
nack_event o = refl

pub retire_event : (o : OpName) → codes "retire " ++ name_text o ≡ event_text (event.Retire o)
unfolding event_text
retire_event o = refl

pub gone_event : (o : OpName) → codes "gone " ++ name_text o ≡ event_text (event.Gone o)
unfolding event_text
gone_event o = refl
