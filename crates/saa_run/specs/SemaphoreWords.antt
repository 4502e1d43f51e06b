-- The language of a semaphore: its calls, what its registrations ask, and its answers, in words.
use Rattle.std.specs.Prelude.{ℕ, List, [], ◌∷◌, Option, None, Result, Ok, Err, codes, decimal}
use Rattle.saa_core_spec.specs.declared.request.Request.TheVariants.{Permits}
use Rattle.saa_core_spec.specs.declared.polling.Error.{Error}
use Rattle.saa_core_spec.specs.declared.run.ReplyOf.{ReplyOf}
use Rattle.saa_core_spec.specs.declared.semaphore.SemaphoreCall.{SemaphoreCall}
use Rattle.saa_core_spec.specs.declared.semaphore.SemaphoreCall.TheVariants.{TryAcquireMany, ReleaseMany, AvailablePermits, IsOpen, IsClosed, Shut, IsShut}
use Rattle.saa_core_spec.specs.declared.semaphore.SemaphoreAnswer.{SemaphoreAnswer}
use Rattle.saa_core_spec.specs.declared.semaphore.SemaphoreAnswer.TheVariants.{Bool as SaysBool, Number}
use Rattle.saa_core_spec.specs.Object.{Object, After}
use Rattle.saa_core_spec.specs.Values.{semaphore_value}
use Rattle.saa_core_spec.specs.Semaphore.{semaphore_step}
use Rattle.saa_run.specs.declared.script.command.ScriptLine.{ScriptLine}
use Rattle.saa_run_text.specs.Fields.{number_of}
use Rattle.saa_run.specs.Language.{Readings}
use Rattle.saa_run.specs.Spelling.{Spellings}
use Rattle.saa_run.specs.Replies.{truth_word, error_word, reply_words, line_does}

-- what a registration asks: a number of permits
abbrev pub semaphore_ask : List (List ℕ) → Option ℕ
semaphore_ask [] = None
semaphore_ask (field ∷ []) = number_of field
semaphore_ask (field ∷ next ∷ fields) = None

-- how its lines are read
abbrev pub semaphore_readings : Readings SemaphoreCall ℕ
semaphore_readings = record {
  lone = (codes "available", AvailablePermits) ∷ (codes "is_open", IsOpen) ∷ (codes "is_closed", IsClosed) ∷ (codes "shut", Shut) ∷ (codes "is_shut", IsShut) ∷ [];
  counted = (codes "try", TryAcquireMany) ∷ (codes "release", ReleaseMany) ∷ [];
  ask = semaphore_ask;
}

-- the fields of a call
abbrev pub semaphore_call_fields : SemaphoreCall → List (List ℕ)
semaphore_call_fields (TryAcquireMany n) = codes "try" ∷ decimal n ∷ []
semaphore_call_fields (ReleaseMany n) = codes "release" ∷ decimal n ∷ []
semaphore_call_fields AvailablePermits = codes "available" ∷ []
semaphore_call_fields IsOpen = codes "is_open" ∷ []
semaphore_call_fields IsClosed = codes "is_closed" ∷ []
semaphore_call_fields Shut = codes "shut" ∷ []
semaphore_call_fields IsShut = codes "is_shut" ∷ []

-- the numbers of a call
abbrev pub semaphore_call_numbers : SemaphoreCall → List ℕ
semaphore_call_numbers (TryAcquireMany n) = n ∷ []
semaphore_call_numbers (ReleaseMany n) = n ∷ []
semaphore_call_numbers AvailablePermits = []
semaphore_call_numbers IsOpen = []
semaphore_call_numbers IsClosed = []
semaphore_call_numbers Shut = []
semaphore_call_numbers IsShut = []

-- how its lines are spelled
abbrev pub semaphore_spellings : Spellings SemaphoreCall ℕ
semaphore_spellings = record {
  call_fields = semaphore_call_fields;
  call_numbers = semaphore_call_numbers;
  ask_fields = λ n. decimal n ∷ [];
  ask_numbers = λ n. n ∷ [];
}

-- the words of a call's answer
abbrev pub semaphore_answer : SemaphoreAnswer → List ℕ
semaphore_answer (SaysBool truth) = truth_word truth
semaphore_answer (Number n) = decimal n

-- the words of a poll's answer
abbrev pub semaphore_poll : Result (Unit {0}) Error → List ℕ
semaphore_poll (Ok taken) = codes "ok"
semaphore_poll (Err error) = error_word error

-- the words of a reply
abbrev pub semaphore_reply : ReplyOf SemaphoreAnswer (Result (Unit {0}) Error) → List ℕ
semaphore_reply reply = reply_words semaphore_answer semaphore_poll reply

-- what a line answers, in words, and what it leaves
abbrev pub semaphore_does : ScriptLine SemaphoreCall ℕ → Object → After (List ℕ)
semaphore_does line s = line_does semaphore_reply Permits semaphore_step semaphore_value line s
