-- The digits of what was parsed are compared with the word.
use Rattle.std.proofs.Common.{sym, ◌∙◌, ◌≢◌, subst}
use Rattle.tss_command.proofs.NumberLemmas.{number_is, number_none, parsed_below, other_number, no_number, texts_same, texts_differ}
use Rattle.tss_command.proofs.command.number.Goals as goal

pub returns-then-eq : goal.returns-then-eq
returns-then-eq c =
    number_is c.args.word.now c.in-Ok.n
    (sym c.format.ensures.text ∙ texts_same c.format.result.now c.args.word.now c.eq.result c.if-eq.true c.eq.ensures)
    (parsed_below c.args.word.now c.parse.result c.in-Ok.n c.parse.ensures.value.0 c.in-Ok.is)

pub returns-else-eq : goal.returns-else-eq
returns-else-eq c =
    number_none c.args.word.now c.parse.result c.parse.ensures.value.0
    (other_number c.args.word.now c.parse.result c.in-Ok.n c.in-Ok.is
    (subst (λ text. text ≢ c.args.word.now) c.format.ensures.text (texts_differ c.format.result.now c.args.word.now c.eq.result c.if-eq.false c.eq.ensures)))

pub returns-in-Err : goal.returns-in-Err
returns-in-Err c =
    number_none c.args.word.now c.parse.result c.parse.ensures.value.0
    (no_number c.args.word.now c.parse.result c.in-Err.field-0 c.in-Err.is)
