-- The mail with a letter more or less: its size stays.
use Rattle.std.proofs.Common.{◌≡◌, refl}
use Rattle.tss_events.specs.declared.message.Message.{Message}
use Rattle.tss_events.specs.declared.message.Message.TheVariants as message
use Rattle.tss_mail.specs.Letters.{MailState, with_letter}

-- a letter takes no room away
pub size_with_letter : (m : MailState) (x : Message) → (with_letter m x).size ≡ m.size
size_with_letter m (message.Decode o operand) = refl
size_with_letter m (message.Ack o) = refl
size_with_letter m (message.Open x) = refl
size_with_letter m (message.Use o v) = refl
size_with_letter m (message.Ready o v storage) = refl
size_with_letter m (message.Link o next) = refl
size_with_letter m (message.Release o v producer) = refl
size_with_letter m (message.Bye o promised) = refl
size_with_letter m (message.Idle v base count) = refl
size_with_letter m (message.Nack v) = refl
size_with_letter m (message.Retire v) = refl
size_with_letter m (message.Gone x) = refl
