use Rattle.saa_word_threads.proofs.form.Form.gather.Given as goal

abbrev pub ghosts-join : goal.ghosts-join
ghosts-join a = record { view = a.other.me.0 }
