-- What stands at home after main's event: its stores lie beside all named objects, and the first operand on an object
-- finds what main has there.
use Rattle.std.proofs.Common.{◌≡◌, ℕ, suc, ◌⊎◌, inl, inr, Bool, true, false, List, Option, Some, None, refl, sym, ap}
use Rattle.std.proofs.Common.{◌∙◌, subst, arith}
use Rattle.std.specs.Prelude.{is_some, unwrap_or, slice_get}
use Rattle.std.specs.List.{list_any}
use Rattle.std.specs.FinMap.{get}
use Rattle.std.proofs.lemmas.Option.{none-some, same_Some}
use Rattle.tss_base.specs.declared.range.Range.{Range}
use Rattle.tss_base.specs.declared.operand.OpName.{OpName}
use Rattle.tss_base.specs.declared.operand.Operand.{Operand}
use Rattle.tss_base.specs.declared.operand.Task.{Task}
use Rattle.tss_base.specs.declared.machine.Machine.{Machine}
use Rattle.tss_base.specs.declared.event.Event.TheVariants as event
use Rattle.tss_base.specs.Image.{ImageState}
use Rattle.tss_model.specs.Memory.{Memory, covers, byte_at, bytes_of}
use Rattle.tss_model.specs.Access.{operands_of}
use Rattle.tss_model.specs.MainStep.{MainState}
use Rattle.tss_model.specs.InOrder.{Started, flat_stepped}
use Rattle.tss_protocol.specs.Mail.{Mail}
use Rattle.tss_protocol.specs.State.{State}
use Rattle.tss_protocol.specs.MainEvent.{call_next}
use Rattle.tss_protocol.specs.Needs.{round_after_event}
use Rattle.tss_protocol.specs.UnitMachine.{IsEnabled, after_event}
use Rattle.tss_phases.specs.Phase.{is_decoded, phase_of}
use Rattle.tss_phases.proofs.MainEvent.{phase_of-main}
use Rattle.tss_locality.specs.Rounds.{IsRounded, IsIn}
use Rattle.tss_locality.proofs.Subjects.{arrival_task}
use Rattle.tss_locality.proofs.RunRounds.{IsRounded-after_event}
use Rattle.tss_control.specs.Members.{operand_among}
use Rattle.tss_program_order.specs.MainInOrder.{Agrees, FollowsAfter, IsCutOff, flat_beside, started_next, inbox_with}
use Rattle.tss_program_order.specs.MainInOrder.{is_operand_of}
use Rattle.tss_program_order.proofs.FlatLoads.{same_bytes}
use Rattle.tss_program_order.proofs.FlatNumbers.{one_place}
use Rattle.tss_program_order.proofs.FlatOrder.{steps_taken-on, started_at-by}
use Rattle.tss_program_order.proofs.FlatPieces.{NoneAfter}
use Rattle.tss_program_order.proofs.FlatStarts.{started-number}
use Rattle.tss_program_order.proofs.RunKeeps.{HasGround}
use Rattle.tss_program_order.proofs.MainEvent.{main_on-enabled, follows_main, main_rises, cut_off_rises}
use Rattle.tss_control.proofs.rounds.Spawned.{operand_among-more, from_operand_among, of_spawned}
use Rattle.tss_control.proofs.GroundworkMain.{KeepsControl, kept_main}
use Rattle.tss_values.proofs.MainEndings.{EndsItself, own_main}
use Rattle.tss_names.proofs.ListLemmas.{from_any}
use Rattle.tss_values.proofs.Values.{Starts, bytes_before, IsFirstAhead, HasHome, HasMain, IsInside, IsUnclaimed}
use Rattle.tss_values.proofs.ValuesMain.{follows_home, none_later}
use Rattle.tss_values.proofs.returns.Returns.{same_at_home}
use Rattle.tss_values.proofs.returns.Main.{main_at_home}
use Rattle.tss_values.proofs.home.Beside.{bytes_same}
use Rattle.tss_values.proofs.RoundSteps.{RoundGrows, RoundGoesOn, round_goes_on, covers_inside, cut_off_apart}
use Rattle.tss_control.proofs.rounds.Facts.{Facts}
use Rattle.tss_values.proofs.LiveObjects.{inside_covers, undecoded_named, member_named}
use Rattle.tss_locality.proofs.RoundObjects.{arrival_operand}
use Rattle.tss_program_order.proofs.FlatNames.{covers-meet}
use Rattle.tss_control.proofs.rounds.EntriesNames.{decode_among}
use Rattle.tss_phases.proofs.DecodeEvent.{decoding_before}

-- ---- the event

module _ (m : Machine) (i : ImageState) (S : State) (facts : Facts m S) (code : HasGround i S)
    (few : NoneAfter S.main.spawned S.main.pieces) (h : HasHome m i facts.ts S) (main : HasMain m i facts.all S)
    (on : IsEnabled m S event.Main) (own : EndsItself S.main) where
  open facts use {basis, all, ts, ground, control as k}

  abbrev T : State
  T = after_event m S event.Main

  abbrev us : List Task
  us = round_after_event m S ts event.Main

  round : IsRounded T us
  round = IsRounded-after_event m S ts ground.round event.Main on

  kept : KeepsControl S T
  unfolding after_event
  kept = kept_main m S (call_next m S)

  decoded : (o : OpName) → is_decoded (phase_of T o) ≡ is_decoded (phase_of S o)
  decoded o = ap is_decoded (phase_of-main m S o on)

  -- a named object is left
  left : (x : Range) → IsIn x S.main.epoch → bytes_of T.home x ≡ bytes_of S.home x
  left x named = same_at_home S T x (main_at_home m S x named)

  goes_on : is_some S.main.ending ≡ false
  goes_on = main_on-enabled m S on

  module _ (same : S.main ≡ (flat_beside i m.limits S.main).main) where
    follows : FollowsAfter m i S T
    follows = follows_main m i S code goes_on (follows_home m i S basis code few h main same) few

    -- a task that program order starts next isn't one that the inbox had
    started_new : (z : Started) → started_next m i S ≡ Some z → z.task.number ≡ suc S.main.spawned
    started_new z e =
        let number = started-number i m.limits S.main.registers.done z e in
        let taken = steps_taken-on S.main goes_on in
        let spawned = ap (λ (s : MainState). s.spawned) same in
        let here = ap (λ l. (flat_stepped i m.limits l).main.spawned) taken in
        omega (arith, number, spawned, here)

    none_next : T.inbox ≡ S.inbox → started_next m i S ≡ None
    none_next inbox = by (started_next m i S) refl
      where
        by : (z : Option Started) → started_next m i S ≡ z → started_next m i S ≡ None
        by None e = e
        by (Some z) e =
            let box = sym inbox ∙ follows.inbox ∙ ap (λ o. inbox_with o S.inbox) e in
            let old = (ground.numbers.inbox z.task box).number in
            let new = started_new z e in
            absurd (omega (arith, old, new))

  -- ---- home where nobody claims it

  entries_before : (b : ℕ) → get T.entries b ≡ None → get S.entries b ≡ None
  entries_before b none = ap (λ es. get es b) (sym kept.entries) ∙ none

  -- nobody claims less, where the inbox's task stays there
  free_before : (a : ℕ) → ((t : Task) → S.inbox ≡ Some t → T.inbox ≡ Some t) → IsUnclaimed T a → IsUnclaimed S a
  free_before a inbox free = record {
    entered = λ b e at inside. free.entered b e (ap (λ es. get es b) kept.entries ∙ at) inside;
    arriving = λ t at j p of inside. free.arriving t (inbox t at) j p of inside;
    decoding = λ o p at inside. free.decoding o p (ap (λ (m : Mail). get m.decodes o) kept.mail ∙ at) inside;
  }

  -- no address that nobody claims lies in an object of the new task
  new_apart : (r : RoundGrows ts us S T) (a : ℕ) → IsUnclaimed T a
      → list_any (λ o. covers o.object a) (operands_of r.task) ≡ false
  new_apart r a free = by (list_any (λ o. covers o.object a) (operands_of r.task)) refl
    where
      by : (b : Bool) → list_any (λ o. covers o.object a) (operands_of r.task) ≡ b
          → list_any (λ o. covers o.object a) (operands_of r.task) ≡ false
      by false e = e
      by true e =
          let f = from_any (λ (o : Operand). covers o.object a) (operands_of r.task) e in
          absurd (free.arriving r.task r.inbox f.0 f.1 f.2 (covers_inside f.1.object a f.3))

  -- it has there what program order has
  free_bytes : (a : ℕ) → T.main ≡ (flat_beside i m.limits T.main).main → IsUnclaimed T a → Agrees m i T a
  free_bytes a is free = by main.follows
    where
      by_round : (same : S.main ≡ (flat_beside i m.limits S.main).main) → RoundGoesOn ts us S T → Agrees m i T a
      by_round same (inl r) =
          (follows same).beside a (ap (λ o. is_operand_of o a) (none_next same r.inbox))
          (h.beside a same (free_before a (λ t at. r.inbox ∙ at) free))
      by_round same (inr (inl r)) = by_next (started_next m i S) refl
        where
          before : Agrees m i S a
          before = h.beside a same (free_before a (λ t at. absurd (none-some t (sym r.empty ∙ at))) free)

          by_next : (z : Option Started) → started_next m i S ≡ z → Agrees m i T a
          by_next None e = (follows same).beside a (ap (λ o. is_operand_of o a) e) before
          by_next (Some z) e =
              let box = sym r.inbox ∙ (follows same).inbox ∙ ap (λ o. inbox_with o S.inbox) e in
              let task = same_Some r.task z.task box in
              (follows same).beside a
              (ap (λ o. is_operand_of o a) e
              ∙ ap (λ (t : Task). list_any (λ o. covers o.object a) (operands_of t)) (sym task)
              ∙ new_apart r a free)
              before
      by_round same (inr (inr r)) =
          (follows same).beside a (ap (λ o. is_operand_of o a) (none_next same r.inbox))
          (h.beside a same (free_before a (λ t at. r.inbox ∙ at) free))

      by : (S.main ≡ (flat_beside i m.limits S.main).main) ⊎ IsCutOff i m.limits S.main → Agrees m i T a
      by (inl same) = by_round same (round_goes_on m ts S on)
      by (inr cut) =
          absurd (cut_off_apart i m T.main (own_main m S own)
          (cut_off_rises i m.limits S.main T.main (main_rises m S) cut) is)

  -- ---- the first operand on an object

  -- one of a task that was there before finds what it was to find
  first_old : (o : OpName) (p : Operand) → IsFirstAhead us T p.object o p → operand_among ts o ≡ Some p
      → ((q : OpName) (r : Operand) → operand_among ts q ≡ Some r → operand_among us q ≡ Some r)
      → IsFirstAhead ts S p.object o p
  first_old o p f old longer = record {
    operand = old;
    object = refl;
    ahead = sym (decoded o) ∙ f.ahead;
    first = λ q r at same early. f.first q r (longer q r at) same (decoded q ∙ early);
  }

  ahead_old : (o : OpName) (p : Operand) (s : Started) → IsFirstAhead us T p.object o p → operand_among ts o ≡ Some p
      → ((q : OpName) (r : Operand) → operand_among ts q ≡ Some r → operand_among us q ≡ Some r)
      → get T.entries p.object.base ≡ None → Starts m i o.task s → bytes_of T.home p.object ≡ bytes_before s p
  ahead_old o p s f old longer none starts =
      left p.object (undecoded_named m S basis k.orderly o p old (sym (decoded o) ∙ f.ahead))
      ∙ h.ahead p.object o p s (entries_before p.object.base none) (first_old o p f old longer) starts

  -- one of the new task finds what main has there
  ahead_new : (r : RoundGrows ts us S T) (o : OpName) (p : Operand) (s : Started) → IsFirstAhead us T p.object o p
      → o.task ≡ r.task.number → get T.entries p.object.base ≡ None → Starts m i o.task s
      → bytes_of T.home p.object ≡ bytes_before s p
  ahead_new r o p s f new none starts = by main.follows
    where
      -- its object is named after the event
      named : IsIn p.object T.main.epoch
      named = round.named.arriving r.task r.inbox o.place p from_task
        where
          from_task : slice_get (operands_of r.task) o.place ≡ Some p
          from_task = elim (from_operand_among ts r.task o p (ap (λ us. operand_among us o) (sym r.list) ∙ f.operand)) [
            | inl old ↦
                let low = of_spawned S ts ground.round o p old in
                absurd (omega (arith, low, new, r.number))
            | inr after ↦ arrival_operand r.task o p after
          ]

      -- an object that is named after it and has an address of it is it
      is_own : (x : Range) → IsIn x T.main.epoch → (a : ℕ) → IsInside x a → IsInside p.object a → x ≡ p.object
      is_own x also a in_x in_p =
          round.separate.one x p.object also named
          (covers-meet x p.object a (inside_covers x a in_x) (inside_covers p.object a in_p))

      -- nobody claims its addresses before
      free : (a : ℕ) → IsInside p.object a → IsUnclaimed S a
      free a inside = record {
        entered = λ b e at within.
            let same = is_own e.object (round.named.entered b e (ap (λ es. get es b) kept.entries ∙ at)) a within
            inside in
            none-some e (sym (entries_before p.object.base none)
            ∙ ap (get S.entries) (ap (λ (x : Range). x.base) (sym same) ∙ (ground.round.within.named.entries b e at).1)
            ∙ at);
        arriving = λ t at. absurd (none-some t (sym r.empty ∙ at));
        decoding = λ q t at within.
            let same = is_own t.object
            (round.named.decoding q t (ap (λ (m : Mail). get m.decodes q) kept.mail ∙ at)) a within inside in
            let among = decode_among m S basis k.orderly q t at in
            let low = of_spawned S ts ground.round q t among in
            let late = f.first q t (ap (λ us. operand_among us q) r.list ∙ operand_among-more ts r.task q t among) same
            (decoded q ∙ ap is_decoded (decoding_before m S q t at)) in
            omega (arith, late, low, new, r.number);
      }

      by_next : (same : S.main ≡ (flat_beside i m.limits S.main).main) → (z : Option Started)
          → started_next m i S ≡ z → bytes_of T.home p.object ≡ bytes_before s p
      by_next same None e =
          absurd (none-some r.task
          (sym (sym r.inbox ∙ (follows same).inbox ∙ ap (λ o. inbox_with o S.inbox) e ∙ r.empty)))
      by_next same (Some z) e =
          let number = started_new same z e in
          let here = one_place i m.limits starts.0 S.main.registers.done s z starts.1 e
          (starts.2 ∙ new ∙ r.number ∙ sym number) in
          let taken = steps_taken-on S.main goes_on in
          bytes_same S T p.object (λ a inside. ap (λ (h : Memory). get h.bytes a) r.home)
          ∙ same_bytes (byte_at S.home) (byte_at (flat_beside i m.limits S.main).memory) p.object.base p.object.len
          (λ a low high.
          let inside : IsInside p.object a = (low, high) in
          ap (λ (o : Option ℕ). unwrap_or o 0) (h.beside a same (free a inside)))
          ∙ ap (λ l. bytes_of (flat_stepped i m.limits l).memory p.object) (taken ∙ sym here)
          ∙ ap (λ h. bytes_of h p.object) (sym (started_at-by i m.limits starts.0 s starts.1).memory)

      by : (S.main ≡ (flat_beside i m.limits S.main).main) ⊎ IsCutOff i m.limits S.main
          → bytes_of T.home p.object ≡ bytes_before s p
      by (inl same) = by_next same (started_next m i S) refl
      by (inr cut) =
          absurd (none_later m i S basis code few h main cut o.task (omega (arith, new, r.number)) s starts)

  ahead_by : (o : OpName) (p : Operand) (s : Started) → IsFirstAhead us T p.object o p
      → get T.entries p.object.base ≡ None → Starts m i o.task s → RoundGoesOn ts us S T
      → bytes_of T.home p.object ≡ bytes_before s p
  ahead_by o p s f none starts (inl r) =
      ahead_old o p s f (ap (λ us. operand_among us o) (sym r.list) ∙ f.operand)
      (λ q t at. ap (λ us. operand_among us q) r.list ∙ at) none starts
  ahead_by o p s f none starts (inr (inl r)) =
      elim (from_operand_among ts r.task o p (ap (λ us. operand_among us o) (sym r.list) ∙ f.operand)) [
        | inl old ↦
            ahead_old o p s f old
            (λ q t at. ap (λ us. operand_among us q) r.list ∙ operand_among-more ts r.task q t at) none starts
        | inr new ↦ ahead_new r o p s f (arrival_task r.task o p new) none starts
      ]
  ahead_by o p s f none starts (inr (inr r)) =
      absurd (none-some p (ap (λ us. operand_among us o) (sym r.list) ∙ f.operand))

  -- what stands at home after main's event
  pub HasHome-main : HasHome m i us T
  HasHome-main = record {
    ahead = λ x o p s none f starts.
        ap (bytes_of T.home) (sym f.object)
        ∙ ahead_by o p s (subst (λ x. IsFirstAhead us T x o p) (sym f.object) f)
        (ap (λ (x : Range). get T.entries x.base) f.object ∙ none) starts (round_goes_on m ts S on);
    beside = λ a is free. free_bytes a is free;
    opening = λ o c s at first reads starts.
        let old = ap (λ (m : Mail). get m.opens o) (sym kept.mail) ∙ at in
        left c.operand.object
        (member_named m S facts o c.operand (k.chains.opens o c old).operand o (inr (c, old, refl)))
        ∙ h.opening o c s old first reads starts;
  }
