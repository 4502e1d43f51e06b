use Rattle.std.proofs.Common.{replicate}
use Rattle.saa_core.specs.declared.ticket.Registration.TheVariants.{Unregistered}
use Rattle.saa_core.specs.Tickets.{object_of}
use Rattle.saa_run_workers.proofs.workers.run_with.Given as goal

-- the journal opens with the core that is handed over, and has a share for each part of the blank
abbrev pub ghosts-run_over-J-Journal : goal.ghosts-run_over-J-Journal
ghosts-run_over-J-Journal g a = record { opening = object_of a.core (replicate 0 Unregistered); dealt = a.blank.parts }

abbrev pub ghosts-run_over-J-Ledger : goal.ghosts-run_over-J-Ledger
ghosts-run_over-J-Ledger g a = record { name = a.blank.name; parts = a.blank.parts }
