-- A step that is answered that it waits finds no answer or the flag set, and writes what stood there.
use Rattle.std.proofs.Common.{◌≡◌, ℕ, ◌+◌, ◌%◌, ◌<◌, Bool, true, false, ◌||◌, ◌==◌, Some, None, is_some, refl, sym, ap, ◌∙◌, arith}
use Rattle.saa_core_spec.specs.Object.{one_if}
use Rattle.saa_core_words.specs.declared.word.Word.{Word}
use Rattle.saa_core_words.specs.Words.{count_bits, word_number, word_of, answer_number, answer_of}
use Rattle.saa_word_steps.specs.declared.place.Place.{Place}
use Rattle.saa_word_steps.specs.declared.place.ReleaseAmount.{ReleaseAmount}
use Rattle.saa_word_steps.specs.declared.place.AfterWalk.{AfterWalk}
use Rattle.saa_word_steps.specs.declared.place.PollMode.{PollMode}
use Rattle.saa_word_steps.specs.declared.place.PollMode.TheVariants.{Awaits, Gives}
use Rattle.saa_word_steps.specs.declared.place.Stage.{Stage}
use Rattle.saa_word_steps.specs.declared.place.Stage.TheVariants.{ReleaseExchange, Take, FlagLoad, FlagExchange, PoisonLoad, PoisonExchange}
use Rattle.saa_word_steps.specs.declared.place.Next.{Next}
use Rattle.saa_word_steps.specs.declared.place.Next.TheVariants.{Waits}
use Rattle.saa_word_steps.specs.Needs.{Needs}
use Rattle.saa_word_steps.specs.AbstractState.{AbstractState, is_in}
use Rattle.saa_word_steps.specs.Steps.{word_at, operation_of, next_of, finished, given, taken_answer}
use Rattle.saa_word_proofs.specs.Refinement.{Invariant}
use Rattle.saa_word_proofs.specs.Rows.{main_of}
use Rattle.saa_word_proofs.specs.Registering.{is_slot}
use Rattle.saa_word_proofs.specs.StepRefinement.{row_after}
use Rattle.saa_word_proofs.specs.Blocking.{IsBlockedAt}
use Rattle.saa_word_proofs.proofs.RefinementLemmas.Lists.{updated-same}
use Rattle.saa_word_proofs.proofs.RefinementLemmas.Showing.{answer-again, held-else}
use Rattle.saa_word_proofs.proofs.RefinementLemmas.Rows.{at-stage}

-- Which steps go on or are done

-- whether an answer says that its place waits
abbrev pub says_wait : Next → Bool
says_wait Waits = true
says_wait _ = false

-- it doesn't, and neither does what is one of two such
abbrev pub GoesOn : Next → Type 0
GoesOn next = says_wait next ≡ false

-- a call that is done with the line, and who gives something back
pub on-finished : (place : Place) (back : AfterWalk) → GoesOn (finished place back)
on-finished place back = grind arith

on-given : (needs : Needs) (place : Place) (what : ReleaseAmount) (seen : Word) → GoesOn (given needs place what seen)
on-given needs place what seen = grind arith

-- an answer that is there is taken
pub on-some : (needs : Needs) (place : Place) (taking : PollMode) (value : ℕ) → GoesOn (taken_answer needs place taking (Some value))
on-some needs place taking value = grind arith

-- whether a stage is one at which a place may wait
abbrev may_wait : Stage → Bool
may_wait (Take Awaits) = true
may_wait (Take (Gives request)) = true
may_wait FlagLoad = true
may_wait (FlagExchange seen) = true
may_wait PoisonLoad = true
may_wait (PoisonExchange seen) = true
may_wait _ = false

-- every other step
pub goes-on : (needs : Needs) (me : ℕ) (place : Place) (stage : Stage) (found : ℕ) → may_wait stage ≡ false → GoesOn (next_of needs me place stage found)
goes-on needs me place (ReleaseExchange what seen) found other =
    grind (arith, on-finished place place.back, on-given needs place what (word_of count_bits found))
goes-on needs me place stage found other = grind arith

-- a place that is registered in the line and finds no answer
takes-none : (needs : Needs) (places : ℕ) (row : ℕ → ℕ) (standing : ℕ → Place) (state : AbstractState) (me : ℕ)
    → Invariant needs places row standing state → (taking : PollMode) → is_slot (standing me).registration ≡ true
    → taken_answer needs (standing me) taking (answer_of (row (places + me + 1) % 65536)) ≡ Waits
    → ((is_in me state.line || is_some (state.granted me)) ≡ true) × (row_after row (operation_of needs places me (Take taking)) ≡ row)
takes-none needs places row standing state me s taking slot waits =
    let number : row (places + me + 1) ≡ answer_number (state.answered me) = s.answers.words me (s.seats.within me slot) in
    let read = answer-again (state.answered me) (s.answers.small me) in
    let none : state.answered me ≡ None = grind (arith, number, read, waits, on-some needs (standing me) taking) in
    let empty : row (places + me + 1) ≡ 0 = number ∙ ap answer_number none in
    (held-else state me (s.seats.held me ∙ ap one_if slot) none, updated-same row (places + me + 1) 0 (sym empty))

-- A step of a place or of a visitor that is answered that it waits
pub only-stalls-anyone : (needs : Needs) (places : ℕ) (row : ℕ → ℕ) (standing : ℕ → Place) (state : AbstractState) (me : ℕ)
    → Invariant needs places row standing state → (stage : Stage) → (standing me).stage ≡ stage
    → next_of needs me (standing me) stage (row (word_at (operation_of needs places me stage))) ≡ Waits
    → IsBlockedAt needs state me (main_of row) stage × (row_after row (operation_of needs places me stage) ≡ row)
only-stalls-anyone needs places row standing state me s (Take Awaits) at waits =
    takes-none needs places row standing state me s Awaits (at-stage needs places row standing state me s _ at).alone waits
only-stalls-anyone needs places row standing state me s (Take (Gives request)) at waits =
    let known = at-stage needs places row standing state me s (Take (Gives request)) at in
    let both = takes-none needs places row standing state me s (Gives request) (ap is_slot known.alone) waits in
    let out : is_in me state.line ≡ false = known.apart refl in
    (sym (ap (λ (b : Bool). b || is_some (state.granted me)) out) ∙ both.0, both.1)
only-stalls-anyone needs places row standing state me s FlagLoad at waits = (grind (arith, waits), updated-same row 0 (row 0) refl)
only-stalls-anyone needs places row standing state me s (FlagExchange seen) at waits =
    let differs : (row 0 == word_number count_bits seen) ≡ false = grind (arith, waits) in
    (grind (arith, waits), rw differs (updated-same row 0 (row 0) refl))
only-stalls-anyone needs places row standing state me s PoisonLoad at waits = (grind (arith, waits), updated-same row 0 (row 0) refl)
only-stalls-anyone needs places row standing state me s (PoisonExchange seen) at waits =
    let differs : (row 0 == word_number count_bits seen) ≡ false = grind (arith, waits, on-finished (standing me) (standing me).back) in
    (grind (arith, waits, differs), rw differs (updated-same row 0 (row 0) refl))
only-stalls-anyone needs places row standing state me s stage at waits =
    let goes = goes-on needs me (standing me) stage (row (word_at (operation_of needs places me stage))) refl in
    let wrong : false ≡ true = sym goes ∙ ap says_wait waits in
    absurd (cc)

-- the same at a place
pub only-stalls : (needs : Needs) (places : ℕ) (row : ℕ → ℕ) (standing : ℕ → Place) (state : AbstractState) (me : ℕ) → me < places
    → Invariant needs places row standing state → (stage : Stage) → (standing me).stage ≡ stage
    → next_of needs me (standing me) stage (row (word_at (operation_of needs places me stage))) ≡ Waits
    → IsBlockedAt needs state me (main_of row) stage × (row_after row (operation_of needs places me stage) ≡ row)
only-stalls needs places row standing state me here s stage at waits = only-stalls-anyone needs places row standing state me s stage at waits
