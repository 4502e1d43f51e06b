use Rattle.saa_word_threads.proofs.form.Form.publish_all.Given as goal

-- each step is of the stage that the walk is at
abbrev pub ghosts-walk_exchange : goal.ghosts-walk_exchange
ghosts-walk_exchange g a = record { about = a.self.now.table.shared.key; place = a.at.value; me = a.seat.now.me.0.number }

abbrev pub ghosts-walk_store : goal.ghosts-walk_store
ghosts-walk_store g a = record { about = a.self.now.table.shared.key; place = a.at.value; me = a.seat.now.me.0.number }
