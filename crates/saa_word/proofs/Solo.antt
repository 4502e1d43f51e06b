-- What a call is that moves alone at a machine.
use Rattle.std.proofs.Common.{◌≡◌, ℕ, ◌+◌, ◌*◌, ◌<◌, Bool, true, false, length, Option, refl, subst, ap, ◌∙◌, arith}
use Rattle.saa_core_spec.specs.Object.{Object}
use Rattle.saa_word_steps.specs.declared.call.Answer.{Answer}
use Rattle.saa_word_steps.specs.declared.call.WordCall.{WordCall}
use Rattle.saa_word_steps.specs.declared.call.WordCall.TheVariants.{Poll}
use Rattle.saa_word_steps.specs.declared.place.Place.{Place}
use Rattle.saa_word_steps.specs.declared.place.Next.{Next}
use Rattle.saa_word_steps.specs.declared.operation.Operation.{Operation}
use Rattle.saa_word_steps.specs.AbstractState.{is_in}
use Rattle.saa_word_steps.specs.Steps.{next_of, started, word_at, written_by}
use Rattle.saa_word_steps.specs.Readings.{is_taken}
use Rattle.saa_word_steps.specs.Needs.{needs_of}
use Rattle.saa_word_proofs.specs.Rows.{updated}
use Rattle.saa_word_proofs.specs.StepRefinement.{place_after, row_after}
use Rattle.saa_word_proofs.specs.Promises.{idle_place}
use Rattle.saa_word_proofs.specs.Alone.{IsCalledAlone, PlacesAreQuiescent, PlacesRepresent, Configuration, next_at, put, stepped}
use Rattle.saa_word_proofs.specs.Agrees.{Agrees}
use Rattle.saa_word_proofs.specs.Ends.{Ends}
use Rattle.saa_word_proofs.proofs.SoloLemmas.Alone.{alone, rules-lawful}
use Rattle.saa_word_proofs.proofs.SoloLemmas.Ends.{ends}
use Rattle.saa_word.specs.declared.moves.Move.TheVariants.{Start, Go}
use Rattle.saa_word.specs.Machine.{State, is_lock, place_of, row_of}
use Rattle.saa_word.specs.Moves.{gone, is_quiet, step_of, found_by, operation_at, worked_at}
use Rattle.saa_word.specs.Trace.{IsQuiescent, Trace, PendingCall}
use Rattle.saa_word.specs.Tracks.{IsIn, Tracks}
use Rattle.saa_word.specs.Solo.{IsRepresented}
use Rattle.saa_word_proofs.proofs.SoloLemmas.Books.{mirrored}
use Rattle.saa_word.proofs.Keeping.{set-updated, stepped-by}

-- the words and the places of a machine
abbrev pub moment_of : State → Configuration
moment_of state = record { row = row_of state; standing = place_of state }

-- while no place is in a call, each is quiet
pub all-quiet : (state : State) (trace : Trace) → Tracks state trace → IsQuiescent trace → PlacesAreQuiescent (place_of state)
all-quiet state trace tracks quiescent =
    λ place. subst (λ (u : Option PendingCall). IsIn (needs_of state.rules) u (place_of state place)) (quiescent place) (tracks.calls place)

-- some sequential object represents each machine
pub represented : (state : State) (trace : Trace) → (s : Object) × IsRepresented state trace s
represented state trace =
    let place : ℕ → Place = λ place. record idle_place { registration = trace.registered place } in
    mirrored (needs_of state.rules) (length state.places) place trace.state

-- a moment by its parts
moment-same : (row other_row : ℕ → ℕ) (standing other : ℕ → Place) → row ≡ other_row → standing ≡ other
    → (let one : Configuration = record { row = row; standing = standing } in one) ≡ record { row = other_row; standing = other }
moment-same row other_row standing other rows places =
    ap (λ (r : ℕ → ℕ). let now : Configuration = record { row = r; standing = standing } in now) rows
    ∙ ap (λ (f : ℕ → Place). let now : Configuration = record { row = other_row; standing = f } in now) places

pub begins-alone : (state : State) (me : ℕ) (call : WordCall) → me < length state.places → is_quiet (place_of state me).stage ≡ true
    → (moment_of (gone state (Start me call)).machine ≡ put me (started (needs_of state.rules) (place_of state me) call) (moment_of state))
    × ((gone state (Start me call)).step ≡ step_of (started (needs_of state.rules) (place_of state me) call))
begins-alone state me call here quiet =
    let next : Next = started (needs_of state.rules) (place_of state me) call in
    rw quiet (
      moment-same (row_of state) (row_of state) _ (updated (place_of state) me (place_after (place_of state me) next)) refl
          (set-updated state.places me (place_after (place_of state me) next) idle_place here),
      refl,
    )

pub goes-alone : (state : State) (trace : Trace) (me : ℕ) → Tracks state trace → me < length state.places → is_quiet (place_of state me).stage ≡ false
    → (moment_of (gone state (Go me)).machine ≡ stepped (needs_of state.rules) (length state.places) me (moment_of state))
    × ((gone state (Go me)).step ≡ step_of (next_at (needs_of state.rules) (length state.places) me (moment_of state)))
goes-alone state trace me tracks here busy =
    let operation : Operation = operation_at state me in
    let found : ℕ = found_by state operation in
    let next : Next = next_of (needs_of state.rules) me (place_of state me) (place_of state me).stage found in
    let inside = stepped-by state trace.state me tracks.sized.wide tracks.sized.bounded here tracks.refines in
    rw busy (
      moment-same (row_of (worked_at state me).machine) (row_after (row_of state) operation) (place_of (worked_at state me).machine)
          (updated (place_of state) me (place_after (place_of state me) next))
          (set-updated state.row (word_at operation) (written_by operation found) 0 (omega (arith, inside.inside, tracks.sized.words)))
          (set-updated state.places me (place_after (place_of state me) next) idle_place here),
      refl,
    )

pub ends-alone : (state : State) (trace : Trace) (me : ℕ) (call : WordCall) → Tracks state trace → IsQuiescent trace → me < length state.places
    → is_taken (is_lock state) call ≡ true → (call ≡ Poll → is_in me trace.state.line ≡ false)
    → Ends (needs_of state.rules) (length state.places) me call (moment_of state) (8 * length trace.state.line + 24)
ends-alone state trace me call tracks rests here taken absent =
    ends (needs_of state.rules) (rules-lawful state.rules) tracks.sized.wide (length state.places) (row_of state) (place_of state) trace.state me call
    (omega (arith, tracks.sized.bounded)) here tracks.refines (all-quiet state trace tracks rests) taken absent

pub agrees-alone : (state : State) (trace : Trace) (me : ℕ) (is_sync : Bool) (call : WordCall) (s : Object) (steps : ℕ) (answer : Answer) (last : Configuration)
    → Tracks state trace → IsQuiescent trace → me < length state.places → is_taken (is_lock state) call ≡ true
    → PlacesRepresent (needs_of state.rules) (length state.places) (place_of state) trace.state s
    → IsCalledAlone (needs_of state.rules) (length state.places) me call steps (moment_of state) answer last
    → Agrees (needs_of state.rules) (length state.places) me is_sync call s answer last
agrees-alone state trace me is_sync call s steps answer last tracks rests here taken mirrors called =
    alone state.rules (length state.places) me is_sync call (moment_of state) s
    (record {
      small = tracks.sized.wide;
      room = omega (arith, tracks.sized.bounded);
      here = here;
      state = trace.state;
      invariant = tracks.refines;
      quiet = all-quiet state trace tracks rests;
      mirrors = mirrors;
    })
    steps answer last taken called
