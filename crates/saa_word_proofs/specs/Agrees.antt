-- What a call is that moves alone, from its start to its end. Internal: nobody has to believe this.
use Rattle.std.specs.Prelude.{◌^◌, ◌≡◌, ℕ, ◌<◌, Bool}
use Rattle.saa_core_spec.specs.Object.{Object}
use Rattle.saa_core_words.specs.Words.{count_bits}
use Rattle.saa_word_steps.specs.declared.call.Answer.{Answer}
use Rattle.saa_word_steps.specs.declared.call.WordCall.{WordCall}
use Rattle.saa_word_steps.specs.declared.rules.Rules.{Rules}
use Rattle.saa_word_steps.specs.Needs.{Needs, needs_of}
use Rattle.saa_word_steps.specs.AbstractState.{AbstractState}
use Rattle.saa_word_proofs.specs.Refinement.{Invariant}
use Rattle.saa_word_proofs.specs.Alone.{PlacesAreQuiescent, PlacesRepresent, Configuration}
use Rattle.saa_word_proofs.specs.Represents.{called}

-- At the start no place is in a call, and a sequential object stands for the moment. There are no more permits than a word counts, no
-- more places than it links, and `me` is one of them
pub record Begins (rules : Rules) (places me : ℕ) (now : Configuration) (s : Object) : Type 0 where
  pub small : (needs_of rules).top < 2 ^ count_bits
  pub room : places < 65536
  pub here : me < places
  pub state : AbstractState
  pub invariant : Invariant (needs_of rules) places now.row now.standing state
  pub quiet : PlacesAreQuiescent now.standing
  pub mirrors : PlacesRepresent (needs_of rules) places now.standing state s

-- At the end no place is in a call; the answer is the reply of the sequential object, and what that leaves stands for what
-- the call has left
pub record Agrees (needs : Needs) (places me : ℕ) (is_sync : Bool) (call : WordCall) (s : Object) (answer : Answer) (last : Configuration) : Type 0 where
  pub state : AbstractState
  pub invariant : Invariant needs places last.row last.standing state
  pub quiet : PlacesAreQuiescent last.standing
  pub mirrors : PlacesRepresent needs places last.standing state (called needs.is_lock me is_sync call s).state
  pub same : answer ≡ (called needs.is_lock me is_sync call s).reply
