use Rattle.tss_names.proofs.GatewayLemmas.{decode_order_of_runs}
use Rattle.tss_laws.proofs.decode_order.Goals as goal

pub returns : goal.returns
returns c = decode_order_of_runs
