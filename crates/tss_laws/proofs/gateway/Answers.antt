use Rattle.tss_names.proofs.GatewayLemmas.{gateway_of_runs}
use Rattle.tss_laws.proofs.gateway.Goals as goal

pub returns : goal.returns
returns c = gateway_of_runs
