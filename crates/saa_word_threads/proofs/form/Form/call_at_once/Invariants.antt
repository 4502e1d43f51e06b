use Rattle.saa_word_threads.proofs.form.Form.call_at_once.Given as goal

abbrev pub ghosts-act : goal.ghosts-act
ghosts-act a = record { about = a.self.now.table.shared.key; place = a.place; me = a.pending.now.me }
