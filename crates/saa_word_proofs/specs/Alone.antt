-- A call that moves alone, from a moment when no place is in a call. Internal: nobody has to believe this, which reads the stages of places; what a
-- solo run promises is said of the machine's trace.
use Rattle.std.specs.Prelude.{◌≡◌, ℕ, zero, suc}
use Rattle.saa_core_spec.specs.Object.{Object}
use Rattle.saa_word_steps.specs.declared.place.Place.{Place}
use Rattle.saa_word_steps.specs.declared.place.Next.{Next}
use Rattle.saa_word_steps.specs.declared.place.Next.TheVariants.{Going, Waits, Done}
use Rattle.saa_word_steps.specs.declared.place.Stage.TheVariants.{Quiet}
use Rattle.saa_word_steps.specs.declared.call.Answer.{Answer}
use Rattle.saa_word_steps.specs.declared.call.WordCall.{WordCall}
use Rattle.saa_word_steps.specs.Needs.{Needs}
use Rattle.saa_word_steps.specs.AbstractState.{AbstractState}
use Rattle.saa_word_steps.specs.Steps.{word_at, operation_of, next_of, started}
use Rattle.saa_word_proofs.specs.Rows.{updated}
use Rattle.saa_word_proofs.specs.StepRefinement.{place_after, row_after}
use Rattle.saa_word_proofs.specs.Represents.{Represents}

-- no place is in a call
abbrev pub PlacesAreQuiescent : (ℕ → Place) → Type 0
PlacesAreQuiescent standing = (place : ℕ) → (standing place).stage ≡ Quiet

-- the sequential object represents the abstract state with what the places are registered as
abbrev pub PlacesRepresent : Needs → ℕ → (ℕ → Place) → AbstractState → Object → Type 0
PlacesRepresent needs places standing state s = Represents needs places (λ place. (standing place).registration) state s

-- the row of words and the places at a moment
pub record Configuration : Type 0 where
  pub row : ℕ → ℕ
  pub standing : ℕ → Place

-- a moment, with one place as it goes on
abbrev pub put : ℕ → Next → Configuration → Configuration
put me next now = record now { standing = updated now.standing me (place_after (now.standing me) next) }

-- how a place, out of so many, goes on with what it finds at a moment, and the moment once its step is made
abbrev pub next_at : Needs → ℕ → ℕ → Configuration → Next
next_at needs places me now =
    next_of needs me (now.standing me) (now.standing me).stage (now.row (word_at (operation_of needs places me (now.standing me).stage)))

abbrev pub stepped : Needs → ℕ → ℕ → Configuration → Configuration
stepped needs places me now =
    put me (next_at needs places me now) (record now { row = row_after now.row (operation_of needs places me (now.standing me).stage) })

-- one of two things, by how a place goes on: it is in the middle of its call, or done with an answer. Neither where it waits for another
abbrev pub IsEither : Next → (going : Type 0) → (done : Answer → Type 0) → Type 0
IsEither (Going place) going done = going
IsEither Waits going done = ⊥
IsEither (Done place answer) going done = done answer

-- a place makes so many steps while no other makes any, and is done behind the last of them, with this answer and at this moment
abbrev pub IsDoneIn : Needs → ℕ → ℕ → (steps : ℕ) → Configuration → Answer → Configuration → Type 0
IsDoneIn needs places me zero now answer last = ⊥
IsDoneIn needs places me (suc more) now answer last =
    IsEither (next_at needs places me now)
    (IsDoneIn needs places me more (stepped needs places me now) answer last)
    (λ said. (more ≡ 0) × (said ≡ answer) × (stepped needs places me now ≡ last))

-- a call starts at a place and is done in so many steps, while no other place makes any. Some need none
abbrev pub IsCalledAlone : Needs → ℕ → ℕ → WordCall → (steps : ℕ) → Configuration → Answer → Configuration → Type 0
IsCalledAlone needs places me call steps now answer last =
    let start : Next = started needs (now.standing me) call in
    IsEither start
    (IsDoneIn needs places me steps (put me start now) answer last)
    (λ said. (steps ≡ 0) × (said ≡ answer) × (put me start now ≡ last))

-- a call starts at a place, and has to wait for another place before its first step: nothing but its start is to be seen
abbrev pub IsLeftWaiting : Needs → ℕ → ℕ → WordCall → Configuration → Type 0
IsLeftWaiting needs places me call now =
    let begun : Configuration = put me (started needs (now.standing me) call) now in
    (next_at needs places me begun ≡ Waits) × (stepped needs places me begun ≡ begun)

-- a place makes so many steps while no other makes any, and then has to wait
abbrev pub WaitsBehind : Needs → ℕ → ℕ → (steps : ℕ) → Configuration → Type 0
WaitsBehind needs places me zero now = next_at needs places me now ≡ Waits
WaitsBehind needs places me (suc more) now = IsEither (next_at needs places me now) (WaitsBehind needs places me more (stepped needs places me now)) (λ said. ⊥)

-- a call starts at a place, and has to wait behind so many steps, while no other place makes any
abbrev pub IsKeptWaiting : Needs → ℕ → ℕ → WordCall → (steps : ℕ) → Configuration → Type 0
IsKeptWaiting needs places me call steps now =
    let start : Next = started needs (now.standing me) call in
    IsEither start (WaitsBehind needs places me steps (put me start now)) (λ said. ⊥)
