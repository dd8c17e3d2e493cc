-- The first state has the values of program order.
use Rattle.std.proofs.Common.{[], refl, sym, ◌∙◌, inl}
use Rattle.std.specs.Ordering.{nat_cmp}
use Rattle.std.specs.FinMap.{get-empty}
use Rattle.std.proofs.lemmas.Option.{none-some}
use Rattle.tss_base.specs.declared.machine.Machine.{Machine}
use Rattle.tss_base.specs.Names.{name_cmp}
use Rattle.tss_base.specs.Image.{ImageState}
use Rattle.tss_model.specs.TaskRun.{repeated}
use Rattle.tss_protocol.specs.State.{initial_state}
use Rattle.tss_values.proofs.returns.Events.{HasReturns-initial_state}
use Rattle.tss_values.proofs.room.Events.{HasRoom-initial_state}
use Rattle.tss_values.proofs.TrapsHeld.{HasTraps-initial_state}
use Rattle.tss_program_order.proofs.MainFollows.{follows-initial_state}
use Rattle.tss_values.proofs.Values.{HasStored, HasWorkers, HasHome, HasMain, HasNaming, HasValues}

module _ (m : Machine) (i : ImageState) where
  HasStored-first : HasStored m i [] (initial_state i)
  HasStored-first = record {
    produced = λ v y st p s at. absurd (none-some y (sym (get-empty name_cmp v) ∙ at));
    awaited = λ v y st p s at. absurd (none-some y (sym (get-empty name_cmp v) ∙ at));
    releasing = λ v y st p s at. absurd (none-some y (sym (get-empty name_cmp v) ∙ at));
  }

  HasWorkers-first : HasWorkers m i (initial_state i)
  HasWorkers-first = record {
    told = λ w b at. absurd (none-some b (sym (get-empty nat_cmp w) ∙ at));
    runs = λ w b s at. absurd (none-some b (sym (get-empty nat_cmp w) ∙ at));
  }

  HasHome-first : HasHome m i [] (initial_state i)
  unfolding repeated
  HasHome-first = record {
    ahead = λ x o p s none first. absurd (none-some p first.operand);
    beside = λ a same free. refl;
    opening = λ o c s at. absurd (none-some c (sym (get-empty name_cmp o) ∙ at));
  }

  HasMain-first : HasMain m i [] (initial_state i)
  HasMain-first =
      let traps = HasTraps-initial_state m i in
      record {
        follows = inl (follows-initial_state m i).main;
        same = λ n t s at. absurd (none-some t at);
        held = traps.held;
        trap = traps.trap;
        judged = traps.judged;
      }

  HasNaming-first : HasNaming m i [] [] (initial_state i)
  HasNaming-first = record {
    named = λ o p k j s at. absurd (none-some p at);
    among = λ n t o p at. absurd (none-some t at);
  }

  -- all of it
  pub HasValues-initial_state : HasValues m i [] [] (initial_state i)
  HasValues-initial_state = record {
    stored = HasStored-first;
    workers = HasWorkers-first;
    returns = HasReturns-initial_state m i [];
    home = HasHome-first;
    room = HasRoom-initial_state m [] i;
    main = HasMain-first;
    naming = HasNaming-first;
  }
