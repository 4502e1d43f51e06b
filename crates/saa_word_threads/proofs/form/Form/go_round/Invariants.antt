use Rattle.saa_word_threads.proofs.form.Form.go_round.Given as goal

-- each step is of the stage that the walk is at
abbrev pub ghosts-walk_add : goal.ghosts-walk_add
ghosts-walk_add g a = record { about = a.self.now.table.shared.key; place = a.at.value; me = a.seat.now.me.0.number }
