use Rattle.saa_word_threads.proofs.form.Form.visit_give.Given as goal

abbrev pub ghosts-visit_look : goal.ghosts-visit_look
ghosts-visit_look g a = record { about = a.self.now.table.shared.key; place = a.at.value; me = a.seat.now.me.0.number }

abbrev pub ghosts-visit_change : goal.ghosts-visit_change
ghosts-visit_change g a = record { about = a.self.now.table.shared.key; place = a.at.value; me = a.seat.now.me.0.number }
