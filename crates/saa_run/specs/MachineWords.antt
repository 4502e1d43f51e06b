-- What a machine's moves answer, in words.
use Rattle.std.specs.Prelude.{ℕ, Bool, true, false, ◌∷◌, ◌++◌, List, Ok, Err, codes, decimal}
use Rattle.saa_core_words.specs.declared.word.Word.{Word}
use Rattle.saa_word_steps.specs.declared.call.Answer.{Answer}
use Rattle.saa_word_steps.specs.declared.call.Answer.TheVariants.{Bool as Says, Number, Tried, Taken, Unit as Nothing}
use Rattle.saa_word.specs.declared.kind.Kind.{Kind}
use Rattle.saa_word.specs.declared.kind.Kind.TheVariants.{Ask, Prepare, Join, Release, Walk, Publish, Show, Take, Flag, Unlink, Tail, Poison, Clear}
use Rattle.saa_word.specs.declared.moves.Step.{Step}
use Rattle.saa_word.specs.declared.moves.Step.TheVariants.{Idle, Busy, Going, Waits, Done}
use Rattle.saa_run.specs.Replies.{truth_word, error_word}
use Rattle.saa_run.specs.LockWords.{try_word}

-- the word of an answer that is taken: a lock's is whether it was granted, a semaphore's is a grant, or that it was shut
abbrev pub taken_word : Bool → Bool → List ℕ
taken_word true granted = truth_word granted
taken_word false true = codes "ok"
taken_word false false = codes "closed"

-- the words of a call that is done, of a lock or of a semaphore
abbrev pub done_words : Bool → Answer → List ℕ
done_words is_lock (Says truth) = codes "done " ++ truth_word truth
done_words is_lock (Number n) = codes "done " ++ decimal n
done_words is_lock (Tried result) = codes "done " ++ try_word result
done_words is_lock (Taken (Ok granted)) = codes "done " ++ taken_word is_lock granted
done_words is_lock (Taken (Err error)) = codes "done " ++ error_word error
done_words is_lock Nothing = codes "done"

-- the words of what a move did, of a lock or of a semaphore
abbrev pub step_words : Bool → Step → List ℕ
step_words is_lock Idle = codes "idle"
step_words is_lock Busy = codes "busy"
step_words is_lock Going = codes "going"
step_words is_lock Waits = codes "waits"
step_words is_lock (Done answer) = done_words is_lock answer

-- the word of a kind of step
abbrev pub kind_word : Kind → List ℕ
kind_word Ask = codes "ask"
kind_word Prepare = codes "prepare"
kind_word Join = codes "join"
kind_word Release = codes "release"
kind_word Walk = codes "walk"
kind_word Publish = codes "publish"
kind_word Show = codes "show"
kind_word Take = codes "take"
kind_word Flag = codes "flag"
kind_word Unlink = codes "unlink"
kind_word Tail = codes "tail"
kind_word Poison = codes "poison"
kind_word Clear = codes "clear"

-- a mark of a main word, behind a space
abbrev pub mark_word : Bool → List ℕ
mark_word true = codes " 1"
mark_word false = codes " 0"

-- the words of a main word: its count, its flag and poison as 0 or 1, and its tail
abbrev pub main_words : Word → List ℕ
main_words word = decimal word.count ++ mark_word word.is_flagged ++ mark_word word.is_poisoned ++ 32 ∷ decimal word.tail
