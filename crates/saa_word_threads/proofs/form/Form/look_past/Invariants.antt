use Rattle.saa_word_threads.proofs.form.Form.look_past.Given as goal

-- each step is of the stage that the look is at
abbrev pub ghosts-pending_load : goal.ghosts-pending_load
ghosts-pending_load g a = record { about = a.self.now.table.shared.key; place = a.at.value; me = a.pending.now.me }

abbrev pub ghosts-pending_store : goal.ghosts-pending_store
ghosts-pending_store g a = record { about = a.self.now.table.shared.key; place = a.at.value; me = a.pending.now.me }
