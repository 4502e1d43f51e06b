use Rattle.std.specs.Prelude.{[]}
use Rattle.saa_core_bench.specs.Tickets.{object_of}
use Rattle.guide_journal.proofs.main.Given as goal

-- the journal opens with the core that is handed over, and has a share for each part of the blank
abbrev pub ghosts-both-J-Journal : goal.ghosts-both-J-Journal
ghosts-both-J-Journal g a = record { opening = object_of a.core []; dealt = a.blank.parts }

abbrev pub ghosts-both-J-Ledger : goal.ghosts-both-J-Ledger
ghosts-both-J-Ledger g a = record { name = a.blank.name; parts = a.blank.parts }
