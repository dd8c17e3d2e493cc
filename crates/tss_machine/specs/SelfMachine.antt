-- The machine of the workload that comes with the program.
use Rattle.tss_base.specs.declared.machine.Machine.{Machine}

abbrev pub self_machine : Machine
self_machine = record {
  limits = record {
    main_budget = 1000000;
    task_budget = 10000;
    max_tasks = 16384;
    max_operands = 4;
    object_bytes = 64;
    epoch_objects = 1024;
    output_bytes = 1024;
  };
  sizes = record {
    stations = 2;
    slots = 8;
    workers = 4;
    banks = 4;
    entries = 16;
    versions = 32;
    buffers = 8;
    quantum = 64;
    window = 1;
  };
}
