-- The events that may come into question, kind by kind, as the units look for those that may happen.
use Rattle.std.specs.Prelude.{Bool, true, false, ◌||◌, List, [], ◌∷◌, map, filter}
use Rattle.std.specs.List.{flat_map, range_with_len}
use Rattle.tss_base.specs.declared.machine.Machine.{Machine}
use Rattle.tss_base.specs.declared.event.Event.{Event}
use Rattle.tss_base.specs.declared.event.Event.TheVariants as event
use Rattle.tss_locality.specs.Leaves.{changes}
use Rattle.tss_protocol.specs.State.{State}
use Rattle.tss_protocol.specs.UnitMachine.{is_enabled}
use Rattle.tss_mail.specs.declared.kind.Kind.{Kind}
use Rattle.tss_mail.specs.declared.kind.Kind.TheVariants as kind
use Rattle.tss_mail.specs.KindNames.{names_of_kind}
use Rattle.tss_pipeline.specs.declared.enabling.Source.{Source}
use Rattle.tss_pipeline.specs.declared.enabling.Source.TheVariants as source

-- the candidates of a kind, in order: for workers and banks one for each number
abbrev pub candidates_of : Machine → State → Source → List Event
candidates_of m S source.Main = event.Main ∷ []
candidates_of m S source.Take = event.Take ∷ []
candidates_of m S (source.Letters k) = names_of_kind S.mail k
candidates_of m S source.Start = map event.Start (range_with_len 0 m.sizes.workers)
candidates_of m S source.Exec = map event.Exec (range_with_len 0 m.sizes.workers)
candidates_of m S source.Finish = map event.Finish (range_with_len 0 m.sizes.workers)
candidates_of m S source.Copy = map event.Copy (range_with_len 0 m.sizes.banks)

-- those that may happen
abbrev pub enabled_of_kind : Machine → State → Source → List Event
enabled_of_kind m S s = filter (is_enabled m S) (candidates_of m S s)

-- those of several kinds
unfoldable pub enabled_of_kinds : Machine → State → List Source → List Event
enabled_of_kinds m S ss = flat_map (enabled_of_kind m S) ss

-- messages of these kinds may be taken wherever they are
abbrev pub is_always : Kind → Bool
is_always kind.Decode = false
is_always kind.Open = false
is_always kind.Use = false
is_always kind.Retire = false
is_always k = true

-- events of these kinds may happen wherever they come into question
abbrev pub is_free : Source → Bool
is_free (source.Letters k) = is_always k
is_free s = false

-- ---- which events may change what may happen

-- which decodes may: a take, which sends them, and those that change entries
abbrev pub touches_decodes : Event → Bool
touches_decodes event.Take = true
touches_decodes e = (changes e).entries

-- which retires may: an idle, which sends one, and those that change versions or copies
abbrev pub touches_retires : Event → Bool
touches_retires (event.Idle v) = true
touches_retires e = (changes e).versions || (changes e).copies

-- which messages of a kind may
abbrev pub touches_letters : Kind → Event → Bool
touches_letters kind.Decode e = touches_decodes e
touches_letters kind.Retire e = touches_retires e
touches_letters k e = (changes e).mail

-- which events of a kind may happen
abbrev pub touches : Source → Event → Bool
touches source.Main e = true
touches source.Take e = true
touches (source.Letters k) e = touches_letters k e
touches source.Start e = (changes e).workers || (changes e).queue
touches source.Exec e = (changes e).workers
touches source.Finish e = (changes e).workers
touches source.Copy e = (changes e).copies
