-- What a reply says, in words.
use Rattle.std.specs.Prelude.{ℕ, ◌++◌, List, codes}
use Rattle.saa_run.specs.declared.schedule.reply.ScheduleReply.{ScheduleReply}
use Rattle.saa_run.specs.declared.schedule.reply.ScheduleReply.TheVariants.{Step, At, Main}
use Rattle.saa_run.specs.MachineWords.{kind_word, main_words, step_words}

-- the words of a reply, whichever line it is to
abbrev pub schedule_words : ScheduleReply → List ℕ
schedule_words (Step is_lock step) = step_words is_lock step
schedule_words (At kind) = codes "at " ++ kind_word kind
schedule_words (Main word) = main_words word
