use Rattle.saa_word_threads.proofs.form.Form.go.Given as goal

-- a step is of the place's stage
abbrev pub ghosts-act : goal.ghosts-act
ghosts-act g a = record { about = a.self.now.table.shared.key; place = a.place; me = a.pending.now.me }
