-- How a task of the flat machine sees memory: it stands where main's does.
use Rattle.std.specs.Prelude.{List}
use Rattle.tss_base.specs.declared.operand.Operand.{Operand}
use Rattle.tss_base.specs.Image.{SegmentState}
use Rattle.tss_model.specs.Memory.{MemoryRange, Memory, byte_at}
use Rattle.tss_model.specs.Access.{TaskActor}
use Rattle.tss_model.specs.TaskRun.{memory_write}
use Rattle.tss_steps.specs.Seen.{Terms}

abbrev pub home_terms : List SegmentState → List MemoryRange → List Operand → Terms Memory
home_terms code ranges operands = record {
  byte = byte_at;
  write = memory_write;
  code = code;
  actor = TaskActor ranges operands;
}
