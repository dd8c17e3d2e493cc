-- How big a workload may be that words ask for.
use Rattle.std.specs.Prelude.{◌≤◌}
use Rattle.tss_command.specs.declared.command.Command.{Command}
use Rattle.tss_command.specs.declared.command.Command.TheVariants as form

-- a workload has 1 to 40 blocks a side
abbrev pub HasSize : Command → Type 0
HasSize (form.Workload n kind) = (1 ≤ n) × (n ≤ 40)
HasSize (form.RunSeeded image machine seed) = Unit {0}
HasSize (form.RunLogged image machine seed log) = Unit {0}
HasSize (form.RunGiven image machine schedule) = Unit {0}
HasSize (form.StateGiven image machine schedule) = Unit {0}
HasSize (form.InOrder image machine) = Unit {0}
HasSize (form.Migrate log new_log) = Unit {0}
