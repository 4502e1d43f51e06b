use Rattle.saa_word_threads.proofs.form.Form.visit_read.Given as goal

abbrev pub ghosts-visit_look : goal.ghosts-visit_look
ghosts-visit_look a = record { about = a.self.now.table.shared.key; place = a.at.value; me = a.seat.now.me.0.number }
