use Rattle.std.proofs.Common.{replicate}
use Rattle.saa_core.specs.declared.ticket.Registration.TheVariants.{Unregistered}
use Rattle.saa_core.specs.Tickets.{object_of}
use Rattle.test_refused.proofs.journalled.made.Given as goal

-- the journal opens with the core that is handed over, and has a share for each part of the blank
abbrev pub ghosts-twenty_calls-J-Journal : goal.ghosts-twenty_calls-J-Journal
ghosts-twenty_calls-J-Journal a = record { opening = object_of a.core (replicate 2 Unregistered); dealt = a.blank.parts }

abbrev pub ghosts-twenty_calls-J-Ledger : goal.ghosts-twenty_calls-J-Ledger
ghosts-twenty_calls-J-Ledger a = record { name = a.blank.name; parts = a.blank.parts }
