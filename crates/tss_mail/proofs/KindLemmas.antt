-- The names of the messages of one kind are those of the kind's table.
use Rattle.std.proofs.Common.{◌≡◌, ℕ, List, length, map, sym, ap, ◌∙◌, option_map}
use Rattle.std.specs.Prelude.{slice_get}
use Rattle.std.proofs.lemmas.List.{length-map}
use Rattle.std.proofs.lemmas.Option.{slice_get-map}
use Rattle.std.specs.FinMap.{len, keys, entries, len-entries}
use Rattle.tss_base.specs.declared.event.Event.{Event}
use Rattle.tss_base.specs.declared.event.Event.TheVariants as event
use Rattle.tss_maps.specs.Ordered.{key_at}
use Rattle.tss_maps.proofs.MappedLemmas.{keys-mapped}
use Rattle.tss_events.specs.Events.{opening_of, gone_of}
use Rattle.tss_mail.specs.declared.kind.Kind.{Kind}
use Rattle.tss_mail.specs.declared.kind.Kind.TheVariants as kind
use Rattle.tss_mail.specs.Letters.{mail_of, told_source, told_release, told_idle}
use Rattle.tss_mail.specs.Kinds.{number_of, event_of}
use Rattle.tss_mail.specs.KindNames.{names_of_kind}
use Rattle.tss_mail.specs.Kept.{Letters, table_at, letters_of, decode_in, ack_in, open_in, use_in, ready_in, link_in, release_in, bye_in, idle_in, gone_in}

module _ (size : ℕ) (ts : List Letters) where
  names_by : (k : Kind) → names_of_kind (mail_of (letters_of size ts)) k ≡ map (λ o. event_of k o) (keys (table_at ts (number_of k)))
  names_by kind.Decode = ap (map event.Decode) (keys-mapped decode_in (table_at ts 0))
  names_by kind.Ack = ap (map event.Ack) (keys-mapped ack_in (table_at ts 1))
  names_by kind.Open = ap (map event.Open) (keys-mapped opening_of _ ∙ keys-mapped open_in (table_at ts 2))
  names_by kind.Use = ap (map event.Use) (keys-mapped use_in (table_at ts 3))
  names_by kind.Ready = ap (map event.Ready) (keys-mapped told_source _ ∙ keys-mapped ready_in (table_at ts 4))
  names_by kind.Link = ap (map event.Link) (keys-mapped link_in (table_at ts 5))
  names_by kind.Release = ap (map event.Release) (keys-mapped told_release _ ∙ keys-mapped release_in (table_at ts 6))
  names_by kind.Bye = ap (map event.Bye) (keys-mapped bye_in (table_at ts 7))
  names_by kind.Idle = ap (map event.Idle) (keys-mapped told_idle _ ∙ keys-mapped idle_in (table_at ts 8))
  names_by kind.Nack = ap (map event.Nack) (keys-mapped ack_in (table_at ts 9))
  names_by kind.Retire = ap (map event.Retire) (keys-mapped ack_in (table_at ts 10))
  names_by kind.Gone = ap (map event.Gone) (keys-mapped gone_of _ ∙ keys-mapped gone_in (table_at ts 11))

  -- as many as the table has
  pub counted_of : (k : Kind) (now : Letters) → now.entries ≡ table_at ts (number_of k)
      → len now.entries ≡ length (names_of_kind (mail_of (letters_of size ts)) k)
  counted_of k now e =
      len-entries now.entries
      ∙ sym (length-map (entries now.entries) (λ e. e.0))
      ∙ sym (length-map (keys now.entries) (λ o. event_of k o))
      ∙ ap (λ m. length (map (λ o. event_of k o) (keys m))) e
      ∙ ap length (sym (names_by k))

  -- and in the same order
  pub named_of : (k : Kind) (now : Letters) (i : ℕ) → now.entries ≡ table_at ts (number_of k)
      → slice_get (names_of_kind (mail_of (letters_of size ts)) k) i ≡ option_map (λ o. event_of k o) (key_at now.entries i)
  unfolding key_at
  named_of k now i e =
      ap (λ es. slice_get es i) (names_by k)
      ∙ ap (λ m. slice_get (map (λ o. event_of k o) (keys m)) i) (sym e)
      ∙ slice_get-map (λ o. event_of k o) (keys now.entries) i
