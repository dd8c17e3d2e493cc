-- What each mode takes and sends, with its tokens.
use Rattle.std.proofs.Common.{◌≡◌, true≢false, None, Some, refl, sym, ap, ◌∙◌}
use Rattle.std.specs.FinMap.{insert}
use Rattle.tss_base.specs.declared.operand.OpName.{OpName}
use Rattle.tss_base.specs.declared.operand.Mode.TheVariants.{Output, Inout}
use Rattle.tss_base.specs.declared.operand.Operand.{Operand}
use Rattle.tss_tokens.specs.Pool.{TokenState}
use Rattle.tss_protocol.specs.State.{Entry}
use Rattle.tss_protocol.specs.Renaming.{takes_place, takes_buffer}
use Rattle.tss_events.specs.declared.message.Message.TheVariants as message
use Rattle.tss_renaming.specs.Holding.{HeldState, IsFree}
use Rattle.tss_renaming.specs.Decoding.{first_opening, over_opening, beside_opening, live_letter, token_at, held_after, IsOpened}

-- a token is its number and its place
pub token_is : (t : TokenState) (number : _) → t.number ≡ number → t ≡ token_at number t.place
token_is t number e = λ i. record { number = e i; place = t.place }

module _ (places places_new buffers : HeldState) (o : OpName) (operand : Operand) (t : TokenState)
    (number : t.number ≡ places.number)
    (holds : places_new ≡ record places { places = insert places.places o t.place })
    (free : IsFree places.places places.size t.place) where
  -- an object's first version takes a place
  pub opened_first :
      IsOpened places places_new buffers buffers o operand None (message.Open (first_opening o operand t))
  opened_first = record {
    place = t.place;
    buffer = 0;
    places_are = holds;
    buffers_are = refl;
    message = ap (λ t. message.Open (first_opening o operand t)) (token_is t places.number number);
    place_free = λ takes. free;
    buffer_free = λ takes. absurd (true≢false (sym takes));
  }

  -- so does an inout
  pub opened_over : (x : Entry) → operand.mode ≡ Inout
      → IsOpened places places_new buffers buffers o operand (Some x) (message.Open (over_opening o operand x t))
  opened_over x mode = record {
    place = t.place;
    buffer = 0;
    places_are = holds ∙ ap (λ m. held_after places o t.place (takes_place (Some x) m)) (sym mode);
    buffers_are = ap (λ m. held_after buffers o 0 (takes_buffer (Some x) m)) (sym mode);
    message =
        ap (λ t. message.Open (over_opening o operand x t)) (token_is t places.number number)
        ∙ ap (live_letter o operand x (token_at places.number t.place) (token_at buffers.number 0)) (sym mode);
    place_free = λ takes. free;
    buffer_free = λ takes. absurd (true≢false (sym takes ∙ ap (takes_buffer (Some x)) mode));
  }

  -- an output takes a buffer too
  pub opened_beside : (x : Entry) → operand.mode ≡ Output
      → (buffers_new : HeldState) (b : TokenState) → b.number ≡ buffers.number
      → buffers_new ≡ record buffers { places = insert buffers.places o b.place }
      → IsFree buffers.places buffers.size b.place
      → IsOpened places places_new buffers buffers_new o operand (Some x)
      (message.Open (beside_opening o operand x t b))
  opened_beside x mode buffers_new b buffer_number buffer_holds buffer_free = record {
    place = t.place;
    buffer = b.place;
    places_are = holds ∙ ap (λ m. held_after places o t.place (takes_place (Some x) m)) (sym mode);
    buffers_are = buffer_holds ∙ ap (λ m. held_after buffers o b.place (takes_buffer (Some x) m)) (sym mode);
    message =
        (λ i. message.Open (beside_opening o operand x (token_is t places.number number i)
        (token_is b buffers.number buffer_number i)))
        ∙ ap (live_letter o operand x (token_at places.number t.place) (token_at buffers.number b.place)) (sym mode);
    place_free = λ takes. free;
    buffer_free = λ takes. buffer_free;
  }
