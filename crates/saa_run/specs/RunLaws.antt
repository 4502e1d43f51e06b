-- The replies to a script's lines beside the run of its commands, of a kind of primitive: the words of its replies, the
-- request of an ask, what its calls do, and what a poll's value means.
use Rattle.std.specs.Prelude.{◌≡◌, ◌++◌, ◌∷◌, ℕ, List, Result, map}
use Rattle.std.specs.List.{flat_map}
use Rattle.saa_core_spec.specs.declared.request.Request.{Request}
use Rattle.saa_core_spec.specs.declared.polling.Error.{Error}
use Rattle.saa_core_spec.specs.declared.run.CommandOf.{CommandOf}
use Rattle.saa_core_spec.specs.declared.run.ReplyOf.{ReplyOf}
use Rattle.saa_core_spec.specs.Object.{Object, After}
use Rattle.saa_core_spec.specs.Run.{replies, state_after}
use Rattle.saa_run.specs.declared.script.command.ScriptLine.{ScriptLine}
use Rattle.saa_run.specs.declared.script.command.ScriptLine.TheVariants.{Do, Registered}
use Rattle.saa_run_text.specs.Text.{reply_line}
use Rattle.saa_run.specs.ScriptText.{commands_in, replies_to, state_behind}
use Rattle.saa_run.specs.Replies.{is_registered, line_does, truth_word}

-- lines that are commands are answered with the replies of their run, from any state, in words, one a line
abbrev pub AnswersCommands : {C K A V : Type 0} → (ReplyOf A V → List ℕ) → (K → Request) → (C → Object → After A) → (Result ℕ Error → V) → Type 0
AnswersCommands {C} {K} words request step value = (s : Object) (commands : List (CommandOf C K))
    → replies_to (line_does words request step value) s (map Do commands) ≡ flat_map (λ reply. reply_line (words reply)) (replies request step value commands s)

-- the state that lines leave is the one that their commands leave
abbrev pub LeavesState : {C K A V : Type 0} → (ReplyOf A V → List ℕ) → (K → Request) → (C → Object → After A) → (Result ℕ Error → V) → Type 0
LeavesState {C} {K} words request step value = (s : Object) (lines : List (ScriptLine C K))
    → state_behind (line_does words request step value) s lines ≡ state_after request step value (commands_in lines) s

-- a question after a pager reads the book as the commands before it left it, and changes nothing
abbrev pub AnswersQuestions : {C K A V : Type 0} → (ReplyOf A V → List ℕ) → (K → Request) → (C → Object → After A) → (Result ℕ Error → V) → Type 0
AnswersQuestions {C} {K} words request step value = (s : Object) (front back : List (ScriptLine C K)) (pager : ℕ)
    → replies_to (line_does words request step value) s (front ++ Registered pager ∷ back)
    ≡ replies_to (line_does words request step value) s front
    ++ (reply_line (truth_word (is_registered (state_after request step value (commands_in front) s) pager))
    ++ replies_to (line_does words request step value) (state_after request step value (commands_in front) s) back)

-- the replies to lines are those of the run of their commands
abbrev pub AnswersAsRun : {C K A V : Type 0} → (ReplyOf A V → List ℕ) → (K → Request) → (C → Object → After A) → (Result ℕ Error → V) → Type 0
AnswersAsRun words request step value = AnswersCommands words request step value × LeavesState words request step value × AnswersQuestions words request step value
