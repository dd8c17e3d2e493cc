-- How what a contract sees of the mail is stored.
use Rattle.std.specs.Prelude.{ℕ, Bool, refl}
use Rattle.std.specs.Coded.{Coded, code_by, coded×, coded_ℕ, coded_bool}
use Rattle.tss_base.specs.contracts.operand.Storage as storage
use Rattle.tss_base.specs.declared.operand.OpName.{OpName}
use Rattle.tss_base.specs.declared.operand.Operand.{Operand}
use Rattle.tss_base.specs.declared.operand.Storage.{Storage}
use Rattle.tss_base.specs.Names.{Named}
use Rattle.tss_protocol.specs.Codes.{name_code, operand_code, nothing_code, named}
use Rattle.tss_events.specs.contracts.message.Opening as opening
use Rattle.tss_events.specs.contracts.message.Gone as gone
use Rattle.tss_events.specs.declared.message.Opening.{Opening}
use Rattle.tss_events.specs.declared.message.Gone.{Gone}
use Rattle.tss_mail.specs.Letters.{MailState}

-- the tables of decode, ack, open and use
abbrev pub Front : Type 0
Front = Named Operand × (Named (Unit {0}) × (Named Opening × Named OpName))

abbrev pub front_code : Coded Front
front_code =
    coded× (named operand_code) (coded× (named nothing_code) (coded× (named (opening.the_row).coded) (named name_code)))

-- those of ready, link, release and bye
abbrev pub Middle : Type 0
Middle = Named (OpName × Storage) × (Named OpName × (Named (OpName × Bool) × Named Bool))

abbrev pub middle_code : Coded Middle
middle_code =
    coded× (named (coded× name_code (storage.the_row).coded))
    (coded× (named name_code) (coded× (named (coded× name_code coded_bool)) (named coded_bool)))

-- those of idle, nack, retire and gone
abbrev pub Back : Type 0
Back = Named (ℕ × ℕ) × (Named (Unit {0}) × (Named (Unit {0}) × Named Gone))

abbrev pub back_code : Coded Back
back_code =
    coded× (named (coded× coded_ℕ coded_ℕ))
    (coded× (named nothing_code) (coded× (named nothing_code) (named (gone.the_row).coded)))

-- the mail
abbrev pub mail_code : Coded MailState
mail_code =
    code_by (ℕ × (Front × (Middle × Back))) (coded× coded_ℕ (coded× front_code (coded× middle_code back_code)))
    (λ m. (
      m.size,
      (
        (m.decodes, (m.acks, (m.opens, m.uses))),
        ((m.readies, (m.links, (m.releases, m.byes))), (m.idles, (m.nacks, (m.retires, m.gones)))),
      ),
    ))
    (λ p. record {
      size = p.0;
      decodes = p.1.0.0;
      acks = p.1.0.1.0;
      opens = p.1.0.1.1.0;
      uses = p.1.0.1.1.1;
      readies = p.1.1.0.0;
      links = p.1.1.0.1.0;
      releases = p.1.1.0.1.1.0;
      byes = p.1.1.0.1.1.1;
      idles = p.1.1.1.0;
      nacks = p.1.1.1.1.0;
      retires = p.1.1.1.1.1.0;
      gones = p.1.1.1.1.1.1;
    })
    (λ _. refl)
