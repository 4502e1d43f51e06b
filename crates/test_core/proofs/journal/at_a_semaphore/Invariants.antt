use Rattle.std.proofs.Common.{replicate}
use Rattle.saa_core.specs.declared.ticket.Registration.TheVariants.{Unregistered}
use Rattle.saa_core.specs.Tickets.{object_of}
use Rattle.test_core.proofs.journal.at_a_semaphore.Given as goal

-- the journal opens with the core that is handed over, and has a share for each part of the blank
abbrev pub ghosts-made_together-J-Journal : goal.ghosts-made_together-J-Journal
ghosts-made_together-J-Journal g a = record { opening = object_of a.core (replicate 16 Unregistered); dealt = a.blank.parts }

abbrev pub ghosts-made_together-J-Ledger : goal.ghosts-made_together-J-Ledger
ghosts-made_together-J-Ledger g a = record { name = a.blank.name; parts = a.blank.parts }
