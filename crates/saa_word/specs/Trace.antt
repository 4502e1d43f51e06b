-- What contracts see beside the words and places of a machine: its trace. A reader of the clauses has to believe this.
use Rattle.std.specs.Prelude.{◌≡◌, ℕ, Bool, List, [], Option, None}
use Rattle.saa_word_steps.specs.declared.call.WordCall.{WordCall}
use Rattle.saa_word_steps.specs.declared.event.Event.{Event}
use Rattle.saa_word_steps.specs.declared.place.Registration.{Registration}
use Rattle.saa_word_steps.specs.declared.place.Registration.TheVariants.{Idle}
use Rattle.saa_word_steps.specs.AbstractState.{AbstractState, opening}

-- a call that a place is in, what the place was registered as when it started, what it has named of the events so far, and whether the place has
-- held the flag since it started
pub record PendingCall : Type 0 where
  pub call : WordCall
  pub registered : Registration
  pub events : List Event
  pub held : Bool

-- How much was held at the opening, and every event since, each with its place; the abstract state behind them; what each place is
-- registered as; the flag's holder, as a link, which is 0 for nobody; the call that each place is in; and how many steps each place has made
-- since its call began, or since another place last changed the main word, whichever is later, those that wait aside
pub record Trace : Type 0 where
  pub withheld : ℕ
  pub history : List (ℕ × Event)
  pub state : AbstractState
  pub registered : ℕ → Registration
  pub holder : ℕ
  pub calls : ℕ → Option PendingCall
  pub steps_since_change : ℕ → ℕ

-- no place is in a call
abbrev pub IsQuiescent : Trace → Type 0
IsQuiescent trace = (place : ℕ) → trace.calls place ≡ None

-- nothing has happened yet
abbrev pub beginning : ℕ → Trace
beginning count = record {
  withheld = count;
  history = [];
  state = opening count;
  registered = λ place. Idle;
  holder = 0;
  calls = λ place. None;
  steps_since_change = λ place. 0;
}
