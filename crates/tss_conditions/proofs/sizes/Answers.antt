use Rattle.tss_conditions.proofs.Filling.{within_sizes, entered, held_banks, contents_whole, grounded, main_limits}
use Rattle.tss_conditions.proofs.sizes.Goals as goal

pub returns-clause-within : goal.returns-clause-within
returns-clause-within c = within_sizes

pub returns-clause-entries : goal.returns-clause-entries
returns-clause-entries c = entered

pub returns-clause-held : goal.returns-clause-held
returns-clause-held c = held_banks

pub returns-clause-ground : goal.returns-clause-ground
returns-clause-ground c = grounded

pub returns-clause-main : goal.returns-clause-main
returns-clause-main c = main_limits

pub returns-clause-contents : goal.returns-clause-contents
returns-clause-contents c = contents_whole
