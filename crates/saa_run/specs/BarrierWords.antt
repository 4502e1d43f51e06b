-- The language of a barrier: its calls, its registrations, and its answers, in words.
use Rattle.std.specs.Prelude.{ℕ, Bool, List, [], ◌∷◌, Result, codes, decimal}
use Rattle.saa_core_spec.specs.declared.polling.Error.{Error}
use Rattle.saa_core_spec.specs.declared.run.ReplyOf.{ReplyOf}
use Rattle.saa_core_spec.specs.declared.barrier.BarrierCall.{BarrierCall}
use Rattle.saa_core_spec.specs.declared.barrier.BarrierCall.TheVariants.{Count, Arrive, Join, Leave, Round}
use Rattle.saa_core_spec.specs.declared.barrier.BarrierAnswer.{BarrierAnswer}
use Rattle.saa_core_spec.specs.declared.barrier.BarrierAnswer.TheVariants.{Count as SaysCount, Bool as SaysBool, Round as SaysRound}
use Rattle.saa_core_spec.specs.Object.{Object, After}
use Rattle.saa_core_spec.specs.Values.{barrier_value}
use Rattle.saa_core_spec.specs.Barrier.{barrier_step, arrive_request}
use Rattle.saa_run.specs.declared.script.command.ScriptLine.{ScriptLine}
use Rattle.saa_run.specs.Language.{Readings}
use Rattle.saa_run.specs.Spelling.{Spellings}
use Rattle.saa_run.specs.Replies.{no_ask, truth_word, truth_poll, reply_words, line_does}

-- how its lines are read
abbrev pub barrier_readings : Readings BarrierCall (Unit {0})
barrier_readings = record {
  lone =
      (codes "count", Count) ∷
      (codes "arrive", Arrive) ∷
      (codes "join", Join) ∷
      (codes "leave_barrier", Leave) ∷
      (codes "round", Round) ∷ [];
  counted = [];
  ask = no_ask;
}

-- the word of a call. `leave P` withdraws a pager, so a call by which the barrier is one task smaller has a longer word
abbrev pub barrier_call_word : BarrierCall → List ℕ
barrier_call_word Count = codes "count"
barrier_call_word Arrive = codes "arrive"
barrier_call_word Join = codes "join"
barrier_call_word Leave = codes "leave_barrier"
barrier_call_word Round = codes "round"

-- how its lines are spelled
abbrev pub barrier_spellings : Spellings BarrierCall (Unit {0})
barrier_spellings = record {
  call_fields = λ call. barrier_call_word call ∷ [];
  call_numbers = λ call. [];
  ask_fields = λ ask. [];
  ask_numbers = λ ask. [];
}

-- the words of a call's answer
abbrev pub barrier_answer : BarrierAnswer → List ℕ
barrier_answer (SaysCount n) = decimal n
barrier_answer (SaysBool truth) = truth_word truth
barrier_answer (SaysRound n) = decimal n

-- the words of a reply
abbrev pub barrier_reply : ReplyOf BarrierAnswer (Result Bool Error) → List ℕ
barrier_reply reply = reply_words barrier_answer truth_poll reply

-- what a line answers, in words, and what it leaves
abbrev pub barrier_does : ScriptLine BarrierCall (Unit {0}) → Object → After (List ℕ)
barrier_does line s = line_does barrier_reply arrive_request barrier_step barrier_value line s
