-- What a machine always is, is kept by each move: some trace tracks it.
use Rattle.std.proofs.Common.{◌≡◌, ℕ, ◌*◌, ◌<◌, ◌≤◌, ◌^◌, ◌∷◌, true, false, List, length, replicate, sym, subst}
use Rattle.std.specs.Prelude.{slice_set}
use Rattle.saa_core_words.specs.Words.{count_bits}
use Rattle.saa_word_steps.specs.declared.call.WordCall.{WordCall}
use Rattle.saa_word_steps.specs.declared.place.Place.{Place}
use Rattle.saa_word_steps.specs.declared.rules.Rules.{Rules}
use Rattle.saa_word_steps.specs.Steps.{started}
use Rattle.saa_word_steps.specs.Readings.{is_taken}
use Rattle.saa_word_steps.specs.Needs.{needs_of}
use Rattle.saa_word_proofs.specs.StepRefinement.{place_after}
use Rattle.saa_word_proofs.specs.Promises.{idle_place}
use Rattle.saa_word.specs.Machine.{State, is_lock, place_of}
use Rattle.saa_word.specs.Moves.{is_quiet, worked_at}
use Rattle.saa_word.specs.Trace.{beginning}
use Rattle.saa_word.specs.Tracks.{IsMachine}
use Rattle.saa_word.proofs.Tracking.{begun, made-tracks, went}

pub started-machine : (state : State) (me : ℕ) (call : WordCall) → IsMachine state → me < length state.places
    → is_quiet (place_of state me).stage ≡ true → is_taken (is_lock state) call ≡ true
    → IsMachine (record state { places = slice_set state.places me (place_after (place_of state me) (started (needs_of state.rules) (place_of state me) call)) })
started-machine state me call is here quiet taken =
    let one = begun state is.trace me call here taken is.tracks quiet in
    record { trace = _; tracks = one.tracks }

pub worked-machine : (state : State) (me : ℕ) → IsMachine state → me < length state.places → is_quiet (place_of state me).stage ≡ false
    → IsMachine (worked_at state me).machine
worked-machine state me is here busy =
    let one = went state is.trace me here is.tracks busy in
    record { trace = _; tracks = one.tracks }

-- the words of a machine whose main word alone was loaded
pub loaded-machine : (state : State) (row : List ℕ) (operations last_word : ℕ) → row ≡ state.row → IsMachine state
    → IsMachine (record state { row = row; operations = operations; last_word = last_word })
loaded-machine state row operations last_word same is =
    let t = is.tracks in
    subst (λ (r : List ℕ). IsMachine (record state { row = r; operations = operations; last_word = last_word })) (sym same)
    (record {
      trace = is.trace;
      tracks = record {
        sized = record { wide = t.sized.wide; bounded = t.sized.bounded; words = t.sized.words };
        run = t.run;
        refines = t.refines;
        registered = t.registered;
        held = t.held;
        asks = t.asks;
        holder = t.holder;
        calls = t.calls;
        fresh = t.fresh;
        within = t.within;
      };
    })

-- a machine as it is written down by its parts
pub opened-parts : (rules : Rules) (row : List ℕ) (places : List Place) (operations last_word count many : ℕ) → (needs_of rules).top < 2 ^ count_bits
    → count ≤ (needs_of rules).top → many < 2 ^ 16 → row ≡ count ∷ replicate (2 * many) 0 → places ≡ replicate many idle_place → operations ≡ 0 → last_word ≡ 0
    → IsMachine (record { rules = rules; row = row; places = places; operations = operations; last_word = last_word })
opened-parts rules row places operations last_word count many wide small bounded row_is places_is operations_is last_is =
    record { trace = beginning count; tracks = made-tracks rules row places operations last_word count many wide small bounded row_is places_is operations_is last_is }
