-- Why a place has to wait for another one at a stage: its answer isn't shown yet, or another place holds the flag. Internal: nobody has to believe
-- this; why a call is blocked is said of the machine's trace.
use Rattle.std.specs.Prelude.{◌≡◌, ℕ, true, ◌||◌, is_some}
use Rattle.saa_core_words.specs.declared.word.Word.{Word}
use Rattle.saa_word_steps.specs.declared.place.Stage.{Stage}
use Rattle.saa_word_steps.specs.declared.place.Stage.TheVariants.{Take, FlagLoad, FlagExchange, PoisonLoad, PoisonExchange}
use Rattle.saa_word_steps.specs.declared.place.PollMode.TheVariants.{Awaits, Gives}
use Rattle.saa_word_steps.specs.Needs.{Needs}
use Rattle.saa_word_steps.specs.AbstractState.{AbstractState, is_in}
use Rattle.saa_word_proofs.specs.Rows.{IsRefusableAndFlagged}

-- a place waits at a stage: a poll in the line or with an answer due, a cancel with an answer due, a cancel that finds the flag set, and
-- poison that finds one owner and the flag set, and a shut that finds the flag set
abbrev pub IsBlockedAt : Needs → AbstractState → ℕ → Word → Stage → Type 0
IsBlockedAt needs state me seen (Take Awaits) = (is_in me state.line || is_some (state.granted me)) ≡ true
IsBlockedAt needs state me seen (Take (Gives request)) = is_some (state.granted me) ≡ true
IsBlockedAt needs state me seen FlagLoad = seen.is_flagged ≡ true
IsBlockedAt needs state me seen (FlagExchange old) = seen.is_flagged ≡ true
IsBlockedAt needs state me seen PoisonLoad = IsRefusableAndFlagged needs seen
IsBlockedAt needs state me seen (PoisonExchange old) = IsRefusableAndFlagged needs seen
IsBlockedAt needs state me seen _ = ⊥
