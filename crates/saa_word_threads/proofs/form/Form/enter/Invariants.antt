use Rattle.saa_word_proofs.specs.Promises.{idle_place}
use Rattle.saa_word_threads.proofs.form.Form.enter.Given as goal

abbrev pub ghosts-enter_as : goal.ghosts-enter_as
ghosts-enter_as a = record { about = a.self.now.table.shared.key; place = idle_place; me = 0 }
