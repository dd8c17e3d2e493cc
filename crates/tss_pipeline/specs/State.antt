-- The definitions' state as the units have it: what stands in the banks is joined.
use Rattle.std.specs.Prelude.{ℕ, suc, List, [], ◌∷◌, Option, Some, None, map, option_map}
use Rattle.std.specs.FinMap.{get, empty}
use Rattle.tss_base.specs.Names.{Named, Numbered}
use Rattle.tss_banks.specs.Joined.{joined}
use Rattle.tss_banks.specs.Collected.{collected, with_at}
use Rattle.tss_banks.specs.Tables.{joined_tables}
use Rattle.tss_protocol.specs.Renaming.{Tables}
use Rattle.tss_protocol.specs.State.{State, Version, CopyState, HeldTrap}
use Rattle.tss_stations.specs.Views.{flight_of}
use Rattle.tss_renaming.specs.Bank.{tables_of}
use Rattle.tss_versions.specs.Known.{versions_of}
use Rattle.tss_buffers.specs.Contents.{BuffersState, seat}
use Rattle.tss_buffers.specs.declared.copying.Copying.{Copying}
use Rattle.tss_buffers.specs.Copies.{copy_of}
use Rattle.tss_workers.specs.Seen.{workers_of}
use Rattle.tss_mail.specs.Letters.{mail_of}
use Rattle.tss_pipeline.specs.Seen.{PipelineState}
use Rattle.tss_pipeline.specs.declared.units.Units.{Units}
use Rattle.tss_pipeline.specs.declared.units.TaskTrap.{TaskTrap}
use Rattle.tss_pipeline.specs.declared.bank.Bank.{Bank}
use Rattle.tss_pipeline.specs.declared.bank.Job.{Job}

-- ---- the banks

-- the tables for renaming, bank by bank, where places and buffers have the number of their bank
abbrev pub bank_tables : List Bank → List Tables
bank_tables bs = map (λ b. tables_of b.renaming) bs

-- the versions, bank by bank
abbrev pub bank_versions : List Bank → List (Named Version)
bank_versions bs = map (λ b. versions_of b.versions.versions) bs

-- the bytes of a bank's buffers, under the names for which they were taken, where they are set
abbrev pub contents_in : BuffersState → Bank → Named (List ℕ)
contents_in buffers b =
    collected (λ name place. get buffers.contents (seat b.renaming.bank place)) b.renaming.buffers

-- those of all banks
abbrev pub contents_of : BuffersState → List Bank → Named (List ℕ)
contents_of buffers bs = joined (map (contents_in buffers) bs)

-- what a bank copies home, as its engine has it
abbrev pub job_copy : Option Copying → Option Job → Option CopyState
job_copy None j = None
job_copy (Some c) None = None
job_copy (Some c) (Some j) = Some (copy_of j.version j.buffer c)

abbrev pub bank_copy : Bank → Option CopyState
bank_copy b = job_copy b.engine b.job

-- the copies of the banks, from the number n on
abbrev pub copies_from : ℕ → List Bank → Numbered CopyState
copies_from n [] = empty
copies_from n (b ∷ bs) = with_at (copies_from (suc n) bs) n (bank_copy b)

-- ---- the state

abbrev pub held_trap : TaskTrap → HeldTrap
held_trap h = record { task = h.task; trap = h.trap }

abbrev pub state_of : Units → State
state_of u = record {
  code = u.code;
  main = u.main.main;
  home = u.space;
  inbox = u.gateway.inbox;
  gateway = u.gateway.gateway;
  flight = flight_of u.stations.slots;
  queue = u.queue.tasks;
  workers = workers_of u.workers.entries;
  entries = (joined_tables (bank_tables u.banks.items)).entries;
  places = (joined_tables (bank_tables u.banks.items)).places;
  buffers = (joined_tables (bank_tables u.banks.items)).buffers;
  contents = contents_of u.buffers u.banks.items;
  versions = joined (bank_versions u.banks.items);
  mail = mail_of u.mail;
  copies = copies_from 0 u.banks.items;
  trap = option_map held_trap u.trap;
}

-- what a contract sees of the units
abbrev pub seen_of : Units → PipelineState
seen_of u = record { machine = u.machine; state = state_of u }
