use Rattle.saa_word_threads.proofs.form.Form.join_on.Given as goal

-- each step is of the place's stage
abbrev pub ghosts-act : goal.ghosts-act
ghosts-act g a = record { about = a.self.now.table.shared.key; place = a.place; me = a.pending.now.me }

abbrev pub ghosts-pending_load : goal.ghosts-pending_load
ghosts-pending_load g a = record { about = a.self.now.table.shared.key; place = a.at.value; me = a.pending.now.me }
