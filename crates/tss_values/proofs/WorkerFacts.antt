-- What lemmas on the bytes of workers hand on: facts of the state, the holders of buffers, and what is in memory and
-- on workers.
use Rattle.tss_base.specs.declared.machine.Machine.{Machine}
use Rattle.tss_base.specs.Image.{ImageState}
use Rattle.tss_protocol.specs.State.{State}
use Rattle.tss_program_order.proofs.RunKeeps.{HasGround}
use Rattle.tss_control.proofs.rounds.Facts.{Facts}
use Rattle.tss_values.specs.Buffers.{HasBuffers}
use Rattle.tss_values.proofs.Values.{HasWorkers}

-- each buffer has one holder, memory is the image's, and each worker stands where program order has its task
pub record WorkerFacts (m : Machine) (i : ImageState) (S : State) : Type 0 where
  pub facts : Facts m S
  pub open facts use *
  pub buffers : HasBuffers ts S
  pub image : HasGround i S
  pub workers : HasWorkers m i S
