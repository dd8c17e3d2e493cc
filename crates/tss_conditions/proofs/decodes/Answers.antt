use Rattle.tss_conditions.proofs.Decoding.{decodable}
use Rattle.tss_conditions.proofs.decodes.Goals as goal

pub returns : goal.returns
returns c = decodable
