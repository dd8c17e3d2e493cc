-- The words are those of the message.
use Rattle.std.proofs.Common.{[], ◌∷◌, sym, ap, ◌∙◌}
use Rattle.std.specs.Prelude.{codes, decimal}
use Rattle.tss_events.specs.Events.{message_of}
use Rattle.tss_text.proofs.PieceLemmas.{same_text}
use Rattle.tss_state_lines.specs.Words.{line}
use Rattle.tss_state_lines.specs.Lines.{message_line}
use Rattle.tss_state_lines.proofs.EventTexts.{decode_event, ack_event, open_event, use_event, ready_event, link_event, release_event, bye_event, idle_event, nack_event, retire_event, gone_event}
use Rattle.tss_state_lines.proofs.message_lines.put_message.Goals as goal

pub returns-in-Decode : goal.returns-in-Decode
returns-in-Decode g c =
    let event = c.named.ensures ∙ decode_event c.in-Decode.o in
    same_text ((λ i. line (codes "message") (event i ∷ c.hex.ensures i ∷ (c.number.ensures ∙ ap decimal c.from.ensures) i ∷ c.mode_word.ensures i ∷ []))
    ∙ ap (λ m. message_line (message_of m)) (sym c.in-Decode.is)) c.put_line.ensures

pub returns-in-Ack : goal.returns-in-Ack
returns-in-Ack g c =
    let event = c.named-in-Ack.ensures ∙ ack_event c.in-Ack.o in
    same_text ((λ i. line (codes "message") (event i ∷ []))
    ∙ ap (λ m. message_line (message_of m)) (sym c.in-Ack.is)) c.put_line-in-Ack.ensures

pub returns-in-Open : goal.returns-in-Open
returns-in-Open g c =
    let event = c.named-in-Open.ensures ∙ open_event c.in-Open.opening.o in
    same_text ((λ i. line (codes "message") (event i ∷ c.hex-in-Open.ensures i ∷ (c.number-in-Open.ensures ∙ ap decimal c.from-in-Open.ensures) i ∷ c.mode_word-in-Open.ensures i ∷ c.optional_storage.ensures i ∷ c.followed_word.ensures i ∷ c.how_word.ensures i ∷ c.final_word.ensures i ∷ []))
    ∙ ap (λ m. message_line (message_of m)) (sym c.in-Open.is)) c.put_line-in-Open.ensures

pub returns-in-Use : goal.returns-in-Use
returns-in-Use g c =
    let event = c.named-in-Use.ensures ∙ use_event c.in-Use.o in
    same_text ((λ i. line (codes "message") (event i ∷ c.name.ensures.text i ∷ []))
    ∙ ap (λ m. message_line (message_of m)) (sym c.in-Use.is)) c.put_line-in-Use.ensures

pub returns-in-Ready : goal.returns-in-Ready
returns-in-Ready g c =
    let event = c.named-in-Ready.ensures ∙ ready_event c.in-Ready.o in
    same_text ((λ i. line (codes "message") (event i ∷ c.name-in-Ready.ensures.text i ∷ c.storage_word.ensures i ∷ []))
    ∙ ap (λ m. message_line (message_of m)) (sym c.in-Ready.is)) c.put_line-in-Ready.ensures

pub returns-in-Link : goal.returns-in-Link
returns-in-Link g c =
    let event = c.named-in-Link.ensures ∙ link_event c.in-Link.o in
    same_text ((λ i. line (codes "message") (event i ∷ c.name-in-Link.ensures.text i ∷ []))
    ∙ ap (λ m. message_line (message_of m)) (sym c.in-Link.is)) c.put_line-in-Link.ensures

pub returns-in-Release : goal.returns-in-Release
returns-in-Release g c =
    let event = c.named-in-Release.ensures ∙ release_event c.in-Release.o in
    same_text ((λ i. line (codes "message") (event i ∷ c.name-in-Release.ensures.text i ∷ c.producer_word.ensures i ∷ []))
    ∙ ap (λ m. message_line (message_of m)) (sym c.in-Release.is)) c.put_line-in-Release.ensures

pub returns-in-Bye : goal.returns-in-Bye
returns-in-Bye g c =
    let event = c.named-in-Bye.ensures ∙ bye_event c.in-Bye.o in
    same_text ((λ i. line (codes "message") (event i ∷ c.promised_word.ensures i ∷ []))
    ∙ ap (λ m. message_line (message_of m)) (sym c.in-Bye.is)) c.put_line-in-Bye.ensures

pub returns-in-Idle : goal.returns-in-Idle
returns-in-Idle g c =
    let event = c.named-in-Idle.ensures ∙ idle_event c.in-Idle.v in
    same_text ((λ i. line (codes "message") (event i ∷ c.hex-in-Idle.ensures i ∷ (c.number-in-Idle.ensures ∙ ap decimal c.from-in-Idle.ensures) i ∷ []))
    ∙ ap (λ m. message_line (message_of m)) (sym c.in-Idle.is)) c.put_line-in-Idle.ensures

pub returns-in-Nack : goal.returns-in-Nack
returns-in-Nack g c =
    let event = c.named-in-Nack.ensures ∙ nack_event c.in-Nack.v in
    same_text ((λ i. line (codes "message") (event i ∷ []))
    ∙ ap (λ m. message_line (message_of m)) (sym c.in-Nack.is)) c.put_line-in-Nack.ensures

pub returns-in-Retire : goal.returns-in-Retire
returns-in-Retire g c =
    let event = c.named-in-Retire.ensures ∙ retire_event c.in-Retire.v in
    same_text ((λ i. line (codes "message") (event i ∷ []))
    ∙ ap (λ m. message_line (message_of m)) (sym c.in-Retire.is)) c.put_line-in-Retire.ensures

pub returns-in-Gone : goal.returns-in-Gone
returns-in-Gone g c =
    let event = c.named-in-Gone.ensures ∙ gone_event c.in-Gone.gone.version in
    same_text ((λ i. line (codes "message") (event i ∷ c.hex-in-Gone.ensures i ∷ c.gone_word.ensures i ∷ c.retired_word.ensures i ∷ []))
    ∙ ap (λ m. message_line (message_of m)) (sym c.in-Gone.is)) c.put_line-in-Gone.ensures
