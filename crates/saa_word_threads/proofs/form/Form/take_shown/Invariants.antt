use Rattle.saa_word_threads.proofs.form.Form.take_shown.Given as goal

-- the swap is of the stage that the place is at
abbrev pub ghosts-pending_swap : goal.ghosts-pending_swap
ghosts-pending_swap a = record { about = a.self.now.table.shared.key; place = a.at.value; me = a.pending.now.me }
