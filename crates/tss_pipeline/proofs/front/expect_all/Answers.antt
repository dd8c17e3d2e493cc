-- Each operand's decode may be sent before those that are left.
use Rattle.std.proofs.Common.{◌*◌, length, get_or, refl, sym, ap, ◌∙◌, subst, arith}
use Rattle.std.specs.FinMap.{insert}
use Rattle.std.proofs.lemmas.List.{drop_more, drop_all}
use Rattle.tss_base.specs.declared.bounds.TheConstants.{MAX_OPERANDS}
use Rattle.tss_model.specs.Access.{operands_of}
use Rattle.tss_model.specs.Spawn.{no_operand}
use Rattle.tss_protocol.specs.Names.{operand_name}
use Rattle.tss_protocol.specs.Gateway.{decodes_from}
use Rattle.tss_protocol.specs.Mail.{posted_all}
use Rattle.tss_mail.specs.Letters.{mail_of}
use Rattle.tss_pipeline.specs.Lines.{AwaitDecodes, lined}
use Rattle.tss_pipeline.proofs.front_rows.LineLemmas.{own_lines, lined_same, lined_again, await_more}
use Rattle.tss_pipeline.proofs.front_rows.DecodeLemmas.{length-decodes_from, next_decode, new_decode, others_may, same_end, same_many}
use Rattle.tss_pipeline.proofs.front.expect_all.Goals as goal

pub loop-place-init : goal.loop-place-init
loop-place-init c =
    let many = length-decodes_from c.args.task.now.number 0 (operands_of c.args.task.now) in
    let count = c.requires.count in
    record {
      mail = refl;
      lines =
          lined_same c.args.sizes.now c.args.mail.now.decodes 0 c.args.banks.now
          (own_lines c.args.sizes.now c.args.mail.now.decodes c.args.banks.now c.requires.banks);
      awaits = c.requires.banks;
      room = let few = c.requires.lines in omega (arith, few, count);
      may = record { fresh = c.requires.fresh; room = let few = c.requires.room in omega (arith, few, count, many) };
      sent = refl;
    }

pub expect_operand-requires-clause-banks : goal.expect_operand-requires-clause-banks
expect_operand-requires-clause-banks c = c.loop-place.invariant.awaits

pub expect_operand-requires-clause-lines : goal.expect_operand-requires-clause-lines
expect_operand-requires-clause-lines c =
    let few = c.loop-place.invariant.room in
    let left =
    ap (λ xs. length xs) (drop_more (operands_of c.args.task.now) c.loop-place.place no_operand c.loop-place-test.true) in
    omega (arith, few, left)

pub expect_operand-requires-clause-fresh : goal.expect_operand-requires-clause-fresh
expect_operand-requires-clause-fresh c =
    new_decode c.args.task.now.number (operands_of c.args.task.now) c.loop-place.place c.loop-place-test.true
    c.loop-place.mail c.loop-place.invariant.may

pub expect_operand-requires-clause-room : goal.expect_operand-requires-clause-room
expect_operand-requires-clause-room c =
    (next_decode c.args.task.now.number (operands_of c.args.task.now) c.loop-place.place c.loop-place-test.true
    c.loop-place.mail c.loop-place.invariant.may).room

pub loop-place-preserved : goal.loop-place-preserved
loop-place-preserved c =
    let sizes = c.args.sizes.now in
    let task = c.args.task.now.number in
    let ops = operands_of c.args.task.now in
    let k = c.loop-place.place in
    let m = c.loop-place.mail in
    let n = c.expect_operand.new.mail in
    let within = c.loop-place-test.true in
    let kept = c.loop-place.invariant in
    let sent = c.expect_operand.ensures.mail in
    record {
      mail =
          sent
          ∙ (λ i. record (kept.mail i) { decodes = insert m.decodes (operand_name task k) (get_or ops k no_operand) })
          ∙ (λ i. record (c.args.mail.now) { decodes = (sym sent i).decodes });
      lines =
          c.expect_operand.ensures.lines
          ∙ ap (lined sizes n.decodes 0) kept.lines
          ∙ lined_again sizes m.decodes n.decodes 0 c.args.banks.now;
      awaits =
          subst (AwaitDecodes sizes n.decodes) (sym c.expect_operand.ensures.lines)
          (await_more sizes m.decodes n.decodes c.loop-place.banks kept.awaits);
      room = same_many task ops k within m kept.may n sent (sizes.window * MAX_OPERANDS) kept.room;
      may = others_may task ops k within m kept.may n sent;
      sent = same_end task ops k within m kept.may n sent ∙ kept.sent;
    }

pub returns-clause-lines : goal.returns-clause-lines
returns-clause-lines c = c.loop-place.invariant.lines

pub returns-clause-mail : goal.returns-clause-mail
returns-clause-mail c = c.loop-place.invariant.mail

pub returns-clause-sent : goal.returns-clause-sent
returns-clause-sent c =
    let m = c.loop-place.mail in
    let task = c.args.task.now in
    let k = c.loop-place.place in
    let past = c.loop-place-test.false in
    let none = drop_all k (operands_of task) (omega (arith, past)) in
    sym (ap (λ os. posted_all (mail_of m) (decodes_from task.number k os)) none) ∙ c.loop-place.invariant.sent
