-- What a machine always is, is kept by each move.
use Rattle.std.proofs.Common.{◌≡◌, ◌≢◌, ℕ, ◌+◌, ◌*◌, ◌<◌, ◌≤◌, ◌^◌, ◌∷◌, true, false, List, length, get_or, replicate, refl, sym, subst, ◌∙◌, ap, arith, inl, inr, suc, zero}
use Rattle.std.proofs.Math.ListN.{set, length-set}
use Rattle.std.proofs.lemmas.List.{get_or-set_same, get_or-set_other, length-replicate}
use Rattle.std.proofs.lemmas.Bool.{cases_Bool}
use Rattle.std.proofs.lemmas.Bool.Decides.{nat_tests}
use Rattle.std.specs.Prelude.{◌==◌, slice_index, slice_set}
use Rattle.saa_core_spec.proofs.Counts.{number_same, same_number}
use Rattle.saa_core_words.specs.Words.{count_bits}
use Rattle.saa_word_steps.specs.declared.rules.Rules.{Rules}
use Rattle.saa_word_steps.specs.declared.operation.Operation.{Operation}
use Rattle.saa_word_steps.specs.declared.call.WordCall.{WordCall}
use Rattle.saa_word_steps.specs.declared.place.Place.{Place}
use Rattle.saa_word_steps.specs.declared.place.Next.{Next}
use Rattle.saa_word_steps.specs.declared.place.Next.TheVariants.{Going as GoesOn, Waits as HasToWait, Done as IsDone}
use Rattle.saa_word_steps.specs.declared.place.Stage.{Stage}
use Rattle.saa_word_steps.specs.declared.place.Stage.TheVariants.{Quiet, ReadLoad, AcquireLoad, AcquireExchange, Prepare, Join, ReleaseLoad, ReleaseExchange, BackLoad, BackStore, Forward, CutToClose, CutForRetry, Close, Empty, Retry, ShowLoad, ShowStore, Take, FlagLoad, FlagExchange, LookLoad, LookStore, Unlink, DropTail, PoisonLoad, PoisonExchange, Clear}
use Rattle.saa_word_steps.specs.Needs.{Needs, needs_of}
use Rattle.saa_word_steps.specs.AbstractState.{AbstractState, opening}
use Rattle.saa_word_steps.specs.Steps.{next_of, started, word_at, written_by}
use Rattle.saa_word_steps.specs.Readings.{is_taken}
use Rattle.saa_word_proofs.specs.Refinement.{Invariant}
use Rattle.saa_word_proofs.specs.Rows.{updated}
use Rattle.saa_word_proofs.specs.StepRefinement.{StepRefines, place_after}
use Rattle.saa_word_proofs.specs.Promises.{idle_place, opening_row}
use Rattle.saa_word_proofs.proofs.RefinementLemmas.Lists.{all-same}
use Rattle.saa_word_proofs.proofs.RefinementLemmas.Steps.{step}
use Rattle.saa_word_proofs.proofs.RefinementLemmas.Starting.{starts}
use Rattle.saa_word_proofs.proofs.RefinementLemmas.Promises.{opens}
use Rattle.saa_word_proofs.proofs.SoloLemmas.Alone.{rules-lawful}
use Rattle.saa_word.specs.declared.moves.Move.{Move}
use Rattle.saa_word.specs.declared.moves.Move.TheVariants.{Start, Go}
use Rattle.saa_word.specs.declared.moves.Step.{Step}
use Rattle.saa_word.specs.Tracks.{IsMachine, IsSized, RefinesAs}
use Rattle.saa_word.specs.Machine.{IsOneStep, Moved, State, is_lock, opened, place_in, place_of, row_of}
use Rattle.saa_word.specs.Moves.{found_by, gone, is_quiet, operation_by, next_by, operation_at, started_by, step_of, stepped_at, worked_at}

-- what a move did, by its parts
abbrev pub made_of : Rules → Step → List ℕ → List Place → ℕ → ℕ → Moved
made_of rules step row places operations last_word =
    record { step = step; machine = record { rules = rules; row = row; places = places; operations = operations; last_word = last_word } }

-- a place that a test finds in no call is in none
pub quiet-stage : (stage : Stage) → is_quiet stage ≡ true → stage ≡ Quiet
quiet-stage Quiet is = refl
quiet-stage (ReadLoad reading) is = absurd (cc)
quiet-stage (AcquireLoad ask) is = absurd (cc)
quiet-stage (AcquireExchange ask seen) is = absurd (cc)
quiet-stage (Prepare request seen) is = absurd (cc)
quiet-stage (Join request seen) is = absurd (cc)
quiet-stage (ReleaseLoad given) is = absurd (cc)
quiet-stage (ReleaseExchange given seen) is = absurd (cc)
quiet-stage (BackLoad seen current newer) is = absurd (cc)
quiet-stage (BackStore seen current newer line) is = absurd (cc)
quiet-stage (Forward seen current count) is = absurd (cc)
quiet-stage (CutToClose seen current count line) is = absurd (cc)
quiet-stage (CutForRetry seen current count line) is = absurd (cc)
quiet-stage (Close seen count top) is = absurd (cc)
quiet-stage (Empty seen current count line) is = absurd (cc)
quiet-stage (Retry seen count top) is = absurd (cc)
quiet-stage (ShowLoad current value afterwards) is = absurd (cc)
quiet-stage (ShowStore current next value afterwards) is = absurd (cc)
quiet-stage (Take taking) is = absurd (cc)
quiet-stage FlagLoad is = absurd (cc)
quiet-stage (FlagExchange seen) is = absurd (cc)
quiet-stage (LookLoad seen current newer previous) is = absurd (cc)
quiet-stage (LookStore seen current newer line) is = absurd (cc)
quiet-stage (Unlink seen newer line older) is = absurd (cc)
quiet-stage (DropTail seen older) is = absurd (cc)
quiet-stage PoisonLoad is = absurd (cc)
quiet-stage (PoisonExchange seen) is = absurd (cc)
quiet-stage Clear is = absurd (cc)

-- a list with one element written is a function with one value changed
pub set-updated : {A : Type 0} (list : List A) (at : ℕ) (value unknown : A) → at < length list
    → (λ (n : ℕ). get_or (set list at value) n unknown) ≡ updated (λ (n : ℕ). get_or list n unknown) at value
set-updated list at value unknown inside =
    all-same (λ (n : ℕ). get_or (set list at value) n unknown) (updated (λ (n : ℕ). get_or list n unknown) at value) (λ other.
    elim (cases_Bool (other == at)) [
      | inl same ↦
          let is : other ≡ at = same_number other at same in
          rw same (ap (λ (n : ℕ). get_or (set list at value) n unknown) is ∙ get_or-set_same list at value unknown inside)
      | inr apart ↦
          let differs : other ≢ at = λ is. let wrong : other == at ≡ true = ap (λ (n : ℕ). other == n) (sym is) ∙ number_same other in absurd (cc) in
          rw apart (get_or-set_other list at other value unknown differs)
    ])

-- the others keep theirs
pub other-place : (standing : ℕ → Place) (me other : ℕ) (place : Place) → other == me ≡ false → updated standing me place other ≡ standing other
other-place standing me other place differs = rw differs refl

-- the words and places of a machine, where one of each was written
pub stands-set : (needs : Needs) (row : List ℕ) (places : List Place) (at number me : ℕ) (place : Place) (abstract : AbstractState) → at < length row → me < length places
    → Invariant needs (length places) (updated (λ (n : ℕ). get_or row n 0) at number) (updated (place_in places) me place) abstract
    → Invariant needs (length (set places me place)) (λ (n : ℕ). get_or (set row at number) n 0) (place_in (set places me place)) abstract
stands-set needs row places at number me place abstract inside here s =
    subst (λ (n : ℕ). Invariant needs n (λ (n : ℕ). get_or (set row at number) n 0) (place_in (set places me place)) abstract) (sym (length-set places me place))
    (subst (λ (r : ℕ → ℕ). Invariant needs (length places) r (place_in (set places me place)) abstract) (sym (set-updated row at number 0 inside))
    (subst (λ (f : ℕ → Place). Invariant needs (length places) (updated (λ (n : ℕ). get_or row n 0) at number) f abstract) (sym (set-updated places me place idle_place here)) s))

-- the same where a place alone was
pub stands-placed : (needs : Needs) (row : List ℕ) (places : List Place) (me : ℕ) (place : Place) (abstract : AbstractState) → me < length places
    → Invariant needs (length places) (λ (n : ℕ). get_or row n 0) (updated (place_in places) me place) abstract
    → Invariant needs (length (set places me place)) (λ (n : ℕ). get_or row n 0) (place_in (set places me place)) abstract
stands-placed needs row places me place abstract here s =
    subst (λ (n : ℕ). Invariant needs n (λ (n : ℕ). get_or row n 0) (place_in (set places me place)) abstract) (sym (length-set places me place))
    (subst (λ (f : ℕ → Place). Invariant needs (length places) (λ (n : ℕ). get_or row n 0) f abstract) (sym (set-updated places me place idle_place here)) s)

-- what a place in a call does next
pub stepped-by : (state : State) (abstract : AbstractState) (me : ℕ) → (needs_of state.rules).top < 2 ^ count_bits → length state.places < 2 ^ 16 → me < length state.places → RefinesAs state abstract
    → StepRefines (needs_of state.rules) (length state.places) (row_of state) (place_of state) abstract me (place_of state me).stage
stepped-by state abstract me wide bounded here s =
    step (needs_of state.rules) (rules-lawful state.rules) wide (length state.places) (row_of state) (place_of state) abstract me bounded here s (place_of state me).stage refl

-- its word is one of the row
pub inside-by : (state : State) (me : ℕ) → IsMachine state → me < length state.places → word_at (operation_at state me) < length state.row
inside-by state me is here =
    let stepped = stepped-by state is.trace.state me is.tracks.sized.wide is.tracks.sized.bounded here is.tracks.refines in
    omega (arith, stepped.inside, is.tracks.sized.words)

-- so a machine at which a place made its step stands together with the object behind the events of that step
pub work-stands : (state : State) (abstract : AbstractState) (me : ℕ) → (needs_of state.rules).top < 2 ^ count_bits → length state.places < 2 ^ 16 → length state.row ≡ 1 + 2 * length state.places
    → (here : me < length state.places) → (s : RefinesAs state abstract) → (stepped : StepRefines (needs_of state.rules) (length state.places) (row_of state) (place_of state) abstract me (place_of state me).stage)
    → RefinesAs (worked_at state me).machine stepped.last
work-stands state abstract me wide bounded words here s stepped =
    stands-set (needs_of state.rules) state.row state.places (word_at (operation_at state me)) (written_by (operation_at state me) (found_by state (operation_at state me))) me
    (place_after (place_of state me) (next_of (needs_of state.rules) me (place_of state me) (place_of state me).stage (found_by state (operation_at state me)))) stepped.last
    (omega (arith, stepped.inside, words)) here stepped.invariant

-- a machine at which one place begins a call, or is done with one at once
pub start-stands : (state : State) (abstract : AbstractState) (me : ℕ) (call : WordCall) → (needs_of state.rules).top < 2 ^ count_bits → me < length state.places → RefinesAs state abstract
    → is_quiet (place_of state me).stage ≡ true → is_taken (is_lock state) call ≡ true
    → RefinesAs (record state { places = slice_set state.places me (place_after (place_of state me) (started (needs_of state.rules) (place_of state me) call)) }) abstract
start-stands state abstract me call wide here s quiet taken =
    stands-placed (needs_of state.rules) state.row state.places me (place_after (place_of state me) (started (needs_of state.rules) (place_of state me) call)) abstract here
    (starts (needs_of state.rules) wide (length state.places) (row_of state) (place_of state) abstract me call here s (quiet-stage (place_of state me).stage quiet) taken)

-- a place that goes on leaves the sizes as they are
pub start-sized : (state : State) (me : ℕ) (place : Place) → IsSized state → IsSized (record state { places = slice_set state.places me place })
start-sized state me place sized = record {
  wide = sized.wide;
  bounded = subst (λ n. n < 2 ^ 16) (sym (length-set state.places me place)) sized.bounded;
  words = sized.words ∙ ap (λ n. 1 + 2 * n) (sym (length-set state.places me place));
}

pub work-sized : (state : State) (me : ℕ) → IsSized state → IsSized (worked_at state me).machine
work-sized state me sized =
    let operation : Operation = operation_at state me in
    let place : Place = place_after (place_of state me) (next_by (needs_of state.rules) me (place_of state me) (found_by state operation)) in
    record {
      wide = sized.wide;
      bounded = subst (λ n. n < 2 ^ 16) (sym (length-set state.places me place)) sized.bounded;
      words = length-set state.row (word_at operation) (written_by operation (found_by state operation)) ∙ sized.words
          ∙ ap (λ n. 1 + 2 * n) (sym (length-set state.places me place));
    }

pub opened-sized : (rules : Rules) (count places : ℕ) → (needs_of rules).top < 2 ^ count_bits → places < 2 ^ 16 → IsSized (opened rules count places)
opened-sized rules count places wide bounded = record {
  wide = wide;
  bounded = subst (λ n. n < 2 ^ 16) (sym (length-replicate places idle_place)) bounded;
  words =
      let row : length {A = ℕ} (replicate (2 * places) 0) ≡ 2 * places = length-replicate (2 * places) 0 in
      let all : length (replicate places idle_place) ≡ places = length-replicate places idle_place in
      omega (arith, row, all);
}

-- A machine as it is made

pub replicated : {A : Type 0} (count : ℕ) (value : A) (index : ℕ) → get_or (replicate count value) index value ≡ value
replicated zero value index = refl
replicated (suc count) value zero = refl
replicated (suc count) value (suc index) = replicated count value index

pub opened-stands : (rules : Rules) (count places : ℕ) → (needs_of rules).top < 2 ^ count_bits → count ≤ (needs_of rules).top
    → RefinesAs (opened rules count places) (opening count)
opened-stands rules count places wide small =
    subst (λ (n : ℕ). Invariant (needs_of rules) n (row_of (opened rules count places)) (place_of (opened rules count places)) (opening count))
    (sym (length-replicate places idle_place))
    (subst (λ (r : ℕ → ℕ). Invariant (needs_of rules) places r (place_of (opened rules count places)) (opening count))
    (all-same (opening_row count) (row_of (opened rules count places)) (opened-row count (2 * places)))
    (subst (λ (f : ℕ → Place). Invariant (needs_of rules) places (opening_row count) f (opening count))
    (all-same (λ place. idle_place) (place_of (opened rules count places)) (λ place. sym (replicated places idle_place place)))
    (opens (needs_of rules) wide places count small)))
  where
    opened-row : (count others index : ℕ) → opening_row count index ≡ get_or (count ∷ replicate others 0) index 0
    opened-row count others zero = refl
    opened-row count others (suc index) = let test : suc index == 0 ≡ false = grind (arith, nat_tests) in rw test (sym (replicated others 0 index))

-- a step is what a place in a call does
pub stepped-worked : (state : State) (me : ℕ) → is_quiet (place_of state me).stage ≡ false → worked_at state me ≡ stepped_at state me
stepped-worked state me busy = rw busy refl

-- what a place in a call does, by its parts
pub worked-is : (state : State) (me at count : ℕ) (place : Place) (operation : Operation) (found : ℕ) (next : Next) (behind : Place) (step : Step) (row : List ℕ) (operations last_word : ℕ)
    → place ≡ place_of state me → count ≡ length state.places → operation ≡ operation_by (needs_of state.rules) count me place
    → found ≡ slice_index state.row (word_at operation) → next ≡ next_by (needs_of state.rules) me place found
    → behind ≡ place_after place next → step ≡ step_of next → at ≡ me
    → row ≡ slice_set state.row (word_at operation) (written_by operation found) → operations ≡ state.operations + 1 → last_word ≡ word_at operation
    → made_of state.rules step row (set state.places at behind) operations last_word ≡ worked_at state me
worked-is state me at count place operation found next behind step row operations last_word reads counts makes finds nexts goes steps same writes counted touched =
    let needs : Needs = needs_of state.rules in
    let own : Place = place_of state me in
    let op : Operation = operation_at state me in
    let makes2 : operation ≡ op = makes ∙ ap (λ n. operation_by needs n me place) counts ∙ ap (λ (p : Place). operation_by needs (length state.places) me p) reads in
    let finds2 : found ≡ found_by state op = finds ∙ ap (λ o. found_by state o) makes2 in
    let nexts2 : next ≡ next_by needs me own (found_by state op) = nexts ∙ ap (λ (p : Place). next_by needs me p found) reads ∙ ap (λ n. next_by needs me own n) finds2 in
    let goes2 : behind ≡ place_after own (next_by needs me own (found_by state op)) = goes ∙ ap (λ p. place_after p next) reads ∙ ap (λ n. place_after own n) nexts2 in
    let steps2 : step ≡ step_of (next_by needs me own (found_by state op)) = steps ∙ ap step_of nexts2 in
    let writes2 : row ≡ set state.row (word_at op) (written_by op (found_by state op)) =
    writes ∙ ap (λ o. set state.row (word_at o) (written_by o found)) makes2 ∙ ap (λ n. set state.row (word_at op) (written_by op n)) finds2 in
    let places2 : set state.places at behind ≡ set state.places me (place_after own (next_by needs me own (found_by state op))) =
    ap (λ n. set state.places n behind) same ∙ ap (λ p. set state.places me p) goes2 in
    ap (λ s. made_of state.rules s row (set state.places at behind) operations last_word) steps2
    ∙ ap (λ r. made_of state.rules (step_of (next_by needs me own (found_by state op))) r (set state.places at behind) operations last_word) writes2
    ∙ ap (λ ps. made_of state.rules (step_of (next_by needs me own (found_by state op))) (set state.row (word_at op) (written_by op (found_by state op))) ps operations last_word) places2
    ∙ ap (λ n. made_of state.rules (step_of (next_by needs me own (found_by state op))) (set state.row (word_at op) (written_by op (found_by state op))) (set state.places me (place_after own (next_by needs me own (found_by state op)))) n last_word) counted
    ∙ ap (λ n. made_of state.rules (step_of (next_by needs me own (found_by state op))) (set state.row (word_at op) (written_by op (found_by state op))) (set state.places me (place_after own (next_by needs me own (found_by state op)))) (state.operations + 1) n) (touched ∙ ap word_at makes2)

-- a move makes no place and takes none away
pub gone-places : (state : State) (move : Move) → length (gone state move).machine.places ≡ length state.places
gone-places state (Start me call) =
    elim (cases_Bool (is_quiet (place_of state me).stage)) [
      | inl quiet ↦ rw quiet (length-set state.places me (place_after (place_of state me) (started_by (needs_of state.rules) (place_of state me) call)))
      | inr busy ↦ rw busy refl
    ]
gone-places state (Go me) =
    elim (cases_Bool (is_quiet (place_of state me).stage)) [
      | inl quiet ↦ rw quiet refl
      | inr busy ↦ rw busy (length-set state.places me
          (place_after (place_of state me) (next_by (needs_of state.rules) me (place_of state me) (found_by state (operation_at state me)))))
    ]

-- and leaves the rules
pub gone-rules : (state : State) (move : Move) → (gone state move).machine.rules ≡ state.rules
gone-rules state (Start me call) =
    elim (cases_Bool (is_quiet (place_of state me).stage)) [ inl quiet ↦ rw quiet refl | inr busy ↦ rw busy refl ]
gone-rules state (Go me) =
    elim (cases_Bool (is_quiet (place_of state me).stage)) [ inl quiet ↦ rw quiet refl | inr busy ↦ rw busy refl ]

-- a place in a call makes the one operation that is next
pub worked-exact : (me : ℕ) (state : State) (operation : Operation) (found : ℕ) (place : Place) (next : Next)
    → IsOneStep (Go me) (step_of next) state (record state {
      row = set state.row (word_at operation) (written_by operation found);
      places = set state.places me (place_after place next);
      operations = state.operations + 1;
      last_word = word_at operation;
    })
worked-exact me state operation found place (GoesOn behind) = (_, _, refl)
worked-exact me state operation found place HasToWait = (_, _, refl)
worked-exact me state operation found place (IsDone behind answer) = (_, _, refl)

-- and one that starts a call makes none
pub begun-exact : (me : ℕ) (call : WordCall) (state : State) (place : Place) (next : Next)
    → IsOneStep (Start me call) (step_of next) state (record state { places = set state.places me (place_after place next) })
begun-exact me call state place (GoesOn behind) = (_, refl)
begun-exact me call state place HasToWait = (_, refl)
begun-exact me call state place (IsDone behind answer) = (_, refl)

-- so a move is one step
pub gone-exact : (state : State) (move : Move) → IsOneStep move (gone state move).step state (gone state move).machine
gone-exact state (Start me call) =
    elim (cases_Bool (is_quiet (place_of state me).stage)) [
      | inl quiet ↦ rw quiet (begun-exact me call state (place_of state me) (started_by (needs_of state.rules) (place_of state me) call))
      | inr busy ↦ rw busy refl
    ]
gone-exact state (Go me) =
    elim (cases_Bool (is_quiet (place_of state me).stage)) [
      | inl quiet ↦ rw quiet refl
      | inr busy ↦ rw busy (worked-exact me state (operation_at state me) (found_by state (operation_at state me)) (place_of state me)
          (next_by (needs_of state.rules) me (place_of state me) (found_by state (operation_at state me))))
    ]

-- the same of what a call answered, and of a machine as it is written down by its parts
pub exact-as : (state machine : State) (move : Move) (step : Step) → step ≡ (gone state move).step → machine ≡ (gone state move).machine
    → IsOneStep move step state machine
exact-as state machine move step step_is machine_is =
    subst (λ (n : Step). IsOneStep move n state machine) (sym step_is)
    (subst (λ (m : State). IsOneStep move (gone state move).step state m) (sym machine_is) (gone-exact state move))
