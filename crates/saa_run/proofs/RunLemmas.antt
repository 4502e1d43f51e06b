-- The replies to lines are those of a run of their commands, of every kind of primitive.
use Rattle.std.proofs.Common.{◌≡◌, ℕ, List, [], ◌∷◌, ◌++◌, refl, sym, ap, ◌∙◌, append_assoc, Result}
use Rattle.saa_core_spec.specs.declared.request.Request.{Request}
use Rattle.saa_core_spec.specs.declared.run.ReplyOf.{ReplyOf}
use Rattle.saa_core_spec.specs.declared.polling.Error.{Error}
use Rattle.saa_core_spec.specs.Object.{Object, After}
use Rattle.saa_core_spec.specs.Run.{done}
use Rattle.saa_run.specs.declared.script.command.ScriptLine.{ScriptLine}
use Rattle.saa_run.specs.declared.script.command.ScriptLine.TheVariants.{Do, Registered}
use Rattle.saa_run.specs.Replies.{line_does, truth_word, is_registered}
use Rattle.saa_run.specs.RunLaws.{AnswersCommands, LeavesState, AnswersQuestions, AnswersAsRun}
use Rattle.saa_run_text.specs.Text.{reply_line}
use Rattle.saa_run.specs.ScriptText.{replies_to, state_behind}

module _ {L : Type 0} (act : L → Object → After (List ℕ)) where
  -- lines behind lines are answered from the state that those leave
  replies_to-append : (s : Object) (front back : List L) → replies_to act s (front ++ back) ≡ replies_to act s front ++ replies_to act (state_behind act s front) back
  replies_to-append s [] back = refl
  replies_to-append s (line ∷ front) back =
      ap (λ rest. reply_line (act line s).reply ++ rest) (replies_to-append (act line s).state front back)
      ∙ sym (append_assoc (reply_line (act line s).reply) (replies_to act (act line s).state front) (replies_to act (state_behind act (act line s).state front) back))

module _ {C K A V : Type 0} (words : ReplyOf A V → List ℕ) (request : K → Request) (step : C → Object → After A) (value : Result ℕ Error → V) where
  -- what a line does
  abbrev does : ScriptLine C K → Object → After (List ℕ)
  does line s = line_does words request step value line s

  -- lines that are commands are answered with the replies of their run
  replies_to-commands : AnswersCommands words request step value
  replies_to-commands s [] = refl
  replies_to-commands s (command ∷ commands) =
      ap (λ rest. reply_line (words (done request step value command s).reply) ++ rest) (replies_to-commands (done request step value command s).state commands)

  -- the state that lines leave is the one that their commands leave
  state_behind-commands : LeavesState words request step value
  state_behind-commands s [] = refl
  state_behind-commands s (Do command ∷ lines) = state_behind-commands (done request step value command s).state lines
  state_behind-commands s (Registered pager ∷ lines) = state_behind-commands s lines

  -- a question after a pager reads the book as the commands before it left it
  replies_to-question : AnswersQuestions words request step value
  replies_to-question s front back pager =
      let behind : Object → List ℕ = λ t. replies_to does s front ++ (reply_line (truth_word (is_registered t pager)) ++ replies_to does t back) in
      replies_to-append does s front (Registered pager ∷ back) ∙ ap behind (state_behind-commands s front)

  -- the three together
  pub answers_as_run : AnswersAsRun words request step value
  answers_as_run = (replies_to-commands, state_behind-commands, replies_to-question)
