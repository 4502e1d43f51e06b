use Rattle.saa_word_threads.proofs.form.Form.give.Given as goal

abbrev pub ghosts-seek_by_load : goal.ghosts-seek_by_load
ghosts-seek_by_load g a = record { about = a.self.now.table.shared.key; place = a.at.value; me = a.pending.now.me }

abbrev pub ghosts-seek_by_exchange : goal.ghosts-seek_by_exchange
ghosts-seek_by_exchange g a = record { about = a.self.now.table.shared.key; place = a.at.value; me = a.pending.now.me }
