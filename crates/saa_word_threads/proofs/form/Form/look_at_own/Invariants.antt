use Rattle.saa_word_threads.proofs.form.Form.look_at_own.Given as goal

-- the load is of the stage that the look is at
abbrev pub ghosts-pending_load : goal.ghosts-pending_load
ghosts-pending_load a = record { about = a.self.now.table.shared.key; place = a.at.value; me = a.pending.now.me }
