-- The mail with the messages of a call.
use Rattle.std.specs.Prelude.{List, [], ◌∷◌}
use Rattle.tss_events.specs.declared.message.Message.{Message}
use Rattle.tss_mail.specs.Letters.{MailState, with_letter}

-- with several messages, one after the other
abbrev pub with_letters : MailState → List Message → MailState
with_letters m [] = m
with_letters m (x ∷ xs) = with_letters (with_letter m x) xs
