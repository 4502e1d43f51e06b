use Rattle.std.proofs.Common.{replicate}
use Rattle.saa_core.specs.declared.ticket.Registration.TheVariants.{Unregistered}
use Rattle.saa_core.specs.Tickets.{object_of}
use Rattle.test_core.proofs.journal.counted_by.Given as goal

-- the journal opens with the core that is handed over, and has a share for each part of the blank
abbrev pub ghosts-three_commands-J-Journal : goal.ghosts-three_commands-J-Journal
ghosts-three_commands-J-Journal a = record { opening = object_of a.core (replicate 2 Unregistered); dealt = a.blank.parts }

abbrev pub ghosts-three_commands-J-Ledger : goal.ghosts-three_commands-J-Ledger
ghosts-three_commands-J-Ledger a = record { name = a.blank.name; parts = a.blank.parts }
