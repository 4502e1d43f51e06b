use Rattle.saa_word_threads.proofs.form.Form.join_receipt.Given as goal

abbrev pub ghosts-join_received : goal.ghosts-join_received
ghosts-join_received a = record { view = a.other.seat.me.0 }
