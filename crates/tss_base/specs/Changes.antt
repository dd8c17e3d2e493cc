-- The fields of the state that an event of each kind may change: every other field is the same.
use Rattle.std.specs.Prelude.{true}
use Rattle.tss_base.specs.declared.kind.Kind.{Kind}
use Rattle.tss_base.specs.declared.kind.Kind.TheVariants as kind
use Rattle.tss_base.specs.declared.fields.Fields.{Fields}
use Rattle.tss_base.specs.declared.fields.TheConstants.{NO_FIELD}

abbrev pub fields_after : Kind → Fields
fields_after kind.Main = record NO_FIELD { main = true; home = true; inbox = true }
fields_after kind.Take = record NO_FIELD { inbox = true; gateway = true; flight = true; queue = true; mail = true }
fields_after kind.Decode = record NO_FIELD { entries = true; places = true; buffers = true; mail = true }
fields_after kind.Ack = record NO_FIELD { gateway = true; mail = true }
fields_after kind.Open = record NO_FIELD { versions = true; mail = true }
fields_after kind.Use = record NO_FIELD { versions = true; mail = true }
fields_after kind.Ready = record NO_FIELD { flight = true; queue = true; mail = true }
fields_after kind.Link = record NO_FIELD { flight = true; mail = true }
fields_after kind.Start = record NO_FIELD { home = true; flight = true; queue = true; workers = true; contents = true }
fields_after kind.Exec = record NO_FIELD { home = true; workers = true; contents = true }
fields_after kind.Finish = record NO_FIELD { flight = true; workers = true; mail = true; trap = true }
fields_after kind.Release = record NO_FIELD { versions = true; mail = true }
fields_after kind.Bye = record NO_FIELD { flight = true; mail = true }
fields_after kind.Idle = record NO_FIELD { entries = true; mail = true }
fields_after kind.Nack = record NO_FIELD { versions = true; mail = true }
fields_after kind.Retire = record NO_FIELD { versions = true; mail = true; copies = true }
fields_after kind.Copy = record NO_FIELD { home = true; mail = true; copies = true }
fields_after kind.Gone = record NO_FIELD { entries = true; places = true; buffers = true; contents = true; mail = true }
