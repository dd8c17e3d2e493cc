-- The names are asked one after another.
use Rattle.std.proofs.Common.{refl, sym, ◌∙◌, arith}
use Rattle.tss_state_text.specs.StateText.{object_of}
use Rattle.tss_state_text.proofs.FirstObjects.{none_there, next_names, first_here, no_names, name_there}
use Rattle.tss_state_text.proofs.holders.first_object.Goals as goal
use Rattle.tss_state_text.proofs.holders.first_object.Goals.{in-Some+else-is_some, in_default}

pub loop-i-init : goal.loop-i-init
loop-i-init c = refl

pub returns-then-is_some : goal.returns-then-is_some
returns-then-is_some c =
    let s = c.args.p.now.state in
    let f = object_of c.args.p.now.machine.sizes s c.args.bank c.args.n in
    first_here f c.args.bank s.places c.loop-i.i c.in-Some.v c.object_of-object.result (sym c.place_at.ensures ∙ c.in-Some.is)
    c.object_of-object.ensures (sym c.is_some.ensures ∙ c.if-is_some.true)
    ∙ sym c.loop-i.invariant

pub loop-i-preserved : goal.loop-i-preserved
loop-i-preserved c =
    let s = c.args.p.now.state in
    let f = object_of c.args.p.now.machine.sizes s c.args.bank c.args.n in
    c.loop-i.invariant
    ∙ elim c.match-place_at.branch [
      | in-Some+else-is_some w ↦
          next_names f c.args.bank s.places c.loop-i.i w.in-Some.v (sym c.place_at.ensures ∙ w.in-Some.is)
          (sym w.object_of-object.ensures ∙ none_there w.object_of-object.result (sym w.is_some.ensures ∙ w.if-is_some.false))
      | in_default w ↦
          let below = c.loop-i-test.true in
          let count = c.place_count-i-end.ensures in
          absurd (name_there f c.args.bank s.places c.loop-i.i (omega (arith, below, count)) (sym c.place_at.ensures ∙ w.in_default.is))
    ]

pub returns : goal.returns
returns c =
    let s = c.args.p.now.state in
    let f = object_of c.args.p.now.machine.sizes s c.args.bank c.args.n in
    let past = c.loop-i-test.false in
    let count = c.place_count-i-end.ensures in
    sym (c.loop-i.invariant ∙ no_names f c.args.bank s.places c.loop-i.i (omega (arith, past, count)))
