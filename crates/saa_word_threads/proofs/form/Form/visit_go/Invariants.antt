use Rattle.saa_word_threads.proofs.form.Form.visit_go.Given as goal

-- a step is of the visitor as it stands
abbrev pub ghosts-visit_act : goal.ghosts-visit_act
ghosts-visit_act g a = record { about = a.self.now.table.shared.key; place = a.place; me = a.seat.now.me.0.number }
