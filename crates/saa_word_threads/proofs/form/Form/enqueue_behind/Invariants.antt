use Rattle.saa_word_threads.proofs.form.Form.enqueue_behind.Given as goal

-- each step is of the stage that the place is at
abbrev pub ghosts-pending_store : goal.ghosts-pending_store
ghosts-pending_store g a = record { about = a.self.now.table.shared.key; place = a.at.value; me = a.pending.now.me }

abbrev pub ghosts-pending_exchange : goal.ghosts-pending_exchange
ghosts-pending_exchange g a = record { about = a.self.now.table.shared.key; place = a.at.value; me = a.pending.now.me }
