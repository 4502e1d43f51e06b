-- The words of replies, and what each line of a script answers and leaves.
use Rattle.std.specs.Prelude.{ℕ, Bool, true, false, not, List, [], ◌∷◌, Option, Some, None, Result, Ok, Err, codes}
use Rattle.saa_core_spec.specs.declared.request.Request.{Request}
use Rattle.saa_core_spec.specs.declared.polling.Error.{Error}
use Rattle.saa_core_spec.specs.declared.polling.Error.TheVariants.{NotRegistered, WrongMode, NotReady, Closed}
use Rattle.saa_core_spec.specs.declared.run.ReplyOf.{ReplyOf}
use Rattle.saa_core_spec.specs.declared.run.ReplyOf.TheVariants.{Answered, Registered, Polled, Dropped}
use Rattle.saa_core_spec.specs.Object.{Object, After, entry_at}
use Rattle.saa_core_spec.specs.Asking.{is_idle}
use Rattle.saa_core_spec.specs.Run.{done}
use Rattle.saa_run.specs.declared.script.command.ScriptLine.{ScriptLine}
use Rattle.saa_run.specs.declared.script.command.ScriptLine.TheVariants.{Do, Registered as AskRegistered}

-- the word of a truth value
abbrev pub truth_word : Bool → List ℕ
truth_word true = codes "true"
truth_word false = codes "false"

-- why a poll has no answer, or that the semaphore was shut
abbrev pub error_word : Error → List ℕ
error_word NotRegistered = codes "not_registered"
error_word WrongMode = codes "wrong_mode"
error_word NotReady = codes "not_ready"
error_word Closed = codes "closed"

-- the words of a poll that answers true or false
abbrev pub truth_poll : Result Bool Error → List ℕ
truth_poll (Ok truth) = truth_word truth
truth_poll (Err error) = error_word error

-- a registration that says nothing of what it asks
abbrev pub no_ask : List (List ℕ) → Option (Unit {0})
no_ask [] = Some tt
no_ask (field ∷ fields) = None

-- the words of a reply, by those of a call's answer and of a poll's
abbrev pub reply_words : {A V : Type 0} → (A → List ℕ) → (V → List ℕ) → ReplyOf A V → List ℕ
reply_words answer poll (Answered said) = answer said
reply_words answer poll (Registered (Ok truth)) = truth_word truth
reply_words answer poll (Registered (Err full)) = codes "full"
reply_words answer poll (Polled said) = poll said
reply_words answer poll Dropped = codes "dropped"

-- whether the book has a pager as registered
abbrev pub is_registered : Object → ℕ → Bool
is_registered s pager = not (is_idle (entry_at s.book pager))

-- the words of the reply that a command was given
abbrev pub in_words : {R : Type 0} → (R → List ℕ) → After R → After (List ℕ)
in_words words after = record { state = after.state; reply = words after.reply }

-- What a line behind the first line answers, in words, and what it leaves: a command does what it does in every run,
-- and a question after a pager reads the book. It takes what makes a primitive, and the words of its replies
abbrev pub line_does : {C K A V : Type 0} → (ReplyOf A V → List ℕ) → (K → Request) → (C → Object → After A) → (Result ℕ Error → V) → ScriptLine C K → Object → After (List ℕ)
line_does words request step value (Do command) s = in_words words (done request step value command s)
line_does words request step value (AskRegistered pager) s = record { state = s; reply = truth_word (is_registered s pager) }
