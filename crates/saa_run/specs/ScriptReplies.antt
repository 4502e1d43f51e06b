-- What a reply says, in words.
use Rattle.std.specs.Prelude.{ℕ, ◌∷◌, ◌++◌, List, codes, decimal}
use Rattle.saa_run.specs.declared.script.reply.ScriptReply.{ScriptReply}
use Rattle.saa_run.specs.declared.script.reply.ScriptReply.TheVariants.{Truth, Number, Full, Taken, Refused, Dropped, WouldBlock, Poisoned, GateState, NoState, Answered, Turned, Moved, Passed, Barred}
use Rattle.saa_run.specs.Replies.{truth_word, error_word}
use Rattle.saa_run.specs.GateWords.{state_word, gate_error_word}

-- the words of a reply, whichever primitive gave it
abbrev pub script_words : ScriptReply → List ℕ
script_words (Truth truth) = truth_word truth
script_words (Number n) = decimal n
script_words Full = codes "full"
script_words Taken = codes "ok"
script_words (Refused error) = error_word error
script_words Dropped = codes "dropped"
script_words WouldBlock = codes "would_block"
script_words Poisoned = codes "poisoned"
script_words (GateState state) = state_word state
script_words NoState = codes "none"
script_words (Answered n) = codes "ok " ++ decimal n
script_words (Turned state) = codes "err " ++ state_word state
script_words (Moved state n) = state_word state ++ 32 ∷ decimal n
script_words (Passed state) = codes "ok " ++ state_word state
script_words (Barred error) = gate_error_word error
