-- Visitors: their steps go by no number, and they rest as they began.
use Rattle.std.proofs.Common.{◌≡◌, ℕ, ◌<◌, ◌≤◌, ◌+◌, ◌==◌, ◌&&◌, ◌||◌, not, nat_lt, Bool, true, false, if◌then◌else◌, Option, Some, None, refl, sym, ap, subst, ◌∙◌, arith, inr}
use Rattle.saa_core_words.specs.declared.word.Word.{Word}
use Rattle.saa_core_words.specs.declared.line_word.LineWord.{LineWord}
use Rattle.saa_core_words.specs.Words.{count_bits, word_number, word_of, line_word_of}
use Rattle.saa_word_steps.specs.declared.call.Answer.TheVariants.{Bool as Says}
use Rattle.saa_word_steps.specs.declared.call.WordCall.{WordCall}
use Rattle.saa_word_steps.specs.declared.call.WordCall.TheVariants.{Try, Release}
use Rattle.saa_word_steps.specs.declared.operation.Operation.{Operation}
use Rattle.saa_word_steps.specs.declared.place.AfterShow.{AfterShow}
use Rattle.saa_word_steps.specs.declared.place.AfterShow.TheVariants.{Ends, Again}
use Rattle.saa_word_steps.specs.declared.place.Ask.{Ask}
use Rattle.saa_word_steps.specs.declared.place.AfterWalk.{AfterWalk}
use Rattle.saa_word_steps.specs.declared.place.AfterWalk.TheVariants.{Tells, Ends as EndsCall, Takes}
use Rattle.saa_word_steps.specs.declared.place.ReleaseAmount.{ReleaseAmount}
use Rattle.saa_word_steps.specs.declared.place.ReleaseAmount.TheVariants.{Requested}
use Rattle.saa_word_steps.specs.declared.place.Next.{Next}
use Rattle.saa_word_steps.specs.declared.place.Next.TheVariants.{Going, Waits, Done}
use Rattle.saa_word_steps.specs.declared.place.Place.{Place}
use Rattle.saa_word_steps.specs.declared.place.Registration.{Registration}
use Rattle.saa_word_steps.specs.declared.place.Registration.TheVariants.{Idle}
use Rattle.saa_word_steps.specs.declared.place.Stage.{Stage}
use Rattle.saa_word_steps.specs.declared.place.Stage.TheVariants.{Quiet, ReadLoad, AcquireLoad, AcquireExchange, Prepare, Join, ReleaseLoad, ReleaseExchange, BackLoad, BackStore, Forward, CutToClose, CutForRetry, Close, Empty, Retry, ShowLoad, ShowStore, Take, LookLoad, PoisonLoad, PoisonExchange, Clear}
use Rattle.saa_word_steps.specs.Needs.{Needs, fits_count, forgets, may_refuse}
use Rattle.saa_word_steps.specs.Readings.{is_taken, tried_answer}
use Rattle.saa_word_steps.specs.Steps.{closing, decided, finished, gave_nothing, given, given_to, granted, left_from, looked_at, next_of, operation_of, poisoning, released, shown_all, started, word_at}
use Rattle.saa_word_proofs.specs.Promises.{idle_place}
use Rattle.saa_word_proofs.specs.Refinement.{IsVisiting, uses_own}
use Rattle.saa_word_proofs.specs.StepRefinement.{place_after}
use Rattle.saa_word_threads.specs.Cells.{cells_of}
use Rattle.saa_word_threads.specs.declared.table.Role.TheVariants.{Acting}
use Rattle.saa_word_threads.specs.declared.table.View.{View}
use Rattle.saa_word_threads.specs.Called.{HasEvents, IsCalled, InCall}
use Rattle.saa_word_threads.specs.Straight.{grants_at, lowers_to, takes_flag}
use Rattle.saa_word_threads.specs.Moves.{IsNext, RestsAfter, Moves}
use Rattle.saa_word_threads.specs.Visits.{InVisit, VisitNext}
use Rattle.saa_word_threads.proofs.Calling.{in-call-begins, in-call-done, in-call-going, in-call-since, in-call-waits}
use Rattle.saa_word_threads.proofs.Going.{ask-goes, give-goes, same-number}

-- No number

-- a step that uses no word of its own is that of any number
pub same-next : (needs : Needs) (one other : ℕ) (place : Place) (stage : Stage) (found : ℕ) → uses_own stage ≡ false
    → next_of needs one place stage found ≡ next_of needs other place stage found
same-next needs one other place (LookLoad seen current newer previous) found free = absurd (cc)
same-next needs one other place stage found free = refl

pub same-operation : (needs : Needs) (places one other : ℕ) (stage : Stage) → uses_own stage ≡ false
    → operation_of needs places one stage ≡ operation_of needs places other stage
same-operation needs places one other (Prepare request seen) free = absurd (cc)
same-operation needs places one other (Join request seen) free = absurd (cc)
same-operation needs places one other (Take taking) free = absurd (cc)
same-operation needs places one other stage free = refl

-- At rest

-- a place goes on as it was, but for its stage
abbrev Keeps : Place → Next → Type 0
Keeps place next = place_after place next ≡ record place { stage = (place_after place next).stage }

keeps-either : (place : Place) (test : Bool) (one other : Next) → Keeps place one → Keeps place other → Keeps place (if test then one else other)
keeps-either place true one other o t = o
keeps-either place false one other o t = t

-- what is never so isn't gone on with
keeps-never : (place : Place) (test : Bool) (one other : Next) → test ≡ false → Keeps place other → Keeps place (if test then one else other)
keeps-never place true one other never t = absurd (cc)
keeps-never place false one other never t = t

keeps-finished : (place : Place) (back : AfterWalk) → Keeps place (finished place back)
keeps-finished place Tells = refl
keeps-finished place EndsCall = refl
keeps-finished place (Takes request) = refl

keeps-granted : (needs : Needs) (place : Place) (ask : Ask) → ask.joins ≡ false → Keeps place (granted needs place ask)
keeps-granted needs place ask tries = keeps-never place ask.joins _ _ tries refl

keeps-decided : (needs : Needs) (place : Place) (ask : Ask) (seen : Word) → ask.joins ≡ false → Keeps place (decided needs place ask seen)
keeps-decided needs place ask seen tries =
    keeps-either place seen.is_poisoned _ _
    (keeps-never place ask.joins _ _ tries refl)
    (keeps-either place (not (seen.tail == 0) || not (fits_count needs seen.count ask.request)) _ _
    (keeps-never place ask.joins _ _ tries refl)
    (keeps-either place (needs.takes ask.request == 0) _ _ (keeps-granted needs place ask tries) refl))

keeps-nothing : (place : Place) (back : AfterWalk) → Keeps place (gave_nothing place back)
keeps-nothing place Tells = refl
keeps-nothing place EndsCall = refl
keeps-nothing place (Takes request) = refl

keeps-left : (place : Place) (what : ReleaseAmount) (seen : Word) (left : Option ℕ) → Keeps place (given_to place what seen left)
keeps-left place what seen None = keeps-nothing place place.back
keeps-left place what seen (Some left) = refl

keeps-given : (needs : Needs) (place : Place) (what : ReleaseAmount) (seen : Word) → Keeps place (given needs place what seen)
keeps-given needs place what seen =
    keeps-either place (forgets needs seen.is_poisoned) _ _ (keeps-nothing place place.back) (keeps-left place what seen (left_from needs seen.count what))

keeps-shown : (place : Place) (afterwards : AfterShow) → Keeps place (shown_all place afterwards)
keeps-shown place Ends = keeps-finished place place.back
keeps-shown place (Again seen) = refl

keeps-looked : (needs : Needs) (place : Place) (seen : Word) (current count : ℕ) (line : LineWord) → Keeps place (looked_at needs place seen current count line)
keeps-looked needs place seen current count line =
    keeps-either place (fits_count needs count line.request) _ _
    (keeps-either place (current == seen.tail) _ _ refl refl)
    (keeps-either place (line.older == 0) _ _ refl refl)

keeps-closing : (place : Place) (seen : Word) (count top found : ℕ) → Keeps place (closing place seen count top found)
keeps-closing place seen count top found =
    keeps-either place (found == word_number count_bits seen) _ _
    (keeps-either place (top == 0) _ _ (keeps-finished place place.back) refl)
    (keeps-either place ((word_of count_bits found).count == seen.count) _ _ refl refl)

keeps-poisoning : (needs : Needs) (place : Place) (seen : Word) → Keeps place (poisoning needs place seen)
keeps-poisoning needs place seen =
    keeps-either place (seen.is_poisoned || not (may_refuse needs seen.count)) _ _ refl
    (keeps-either place seen.is_flagged _ _ refl refl)

keeps-next : (needs : Needs) (me : ℕ) (place : Place) (stage : Stage) (found : ℕ) → IsVisiting stage → Keeps place (next_of needs me place stage found)
keeps-next needs me place Quiet found visits = refl
keeps-next needs me place (ReadLoad reading) found visits = refl
keeps-next needs me place (AcquireLoad ask) found visits = keeps-decided needs place ask (word_of count_bits found) visits.0
keeps-next needs me place (AcquireExchange ask seen) found visits =
    keeps-either place (found == word_number count_bits seen) _ _ (keeps-granted needs place ask visits.0)
    (keeps-decided needs place ask (word_of count_bits found) visits.0)
keeps-next needs me place (ReleaseLoad what) found visits = keeps-given needs place what (word_of count_bits found)
keeps-next needs me place (ReleaseExchange what seen) found visits =
    keeps-either place (found == word_number count_bits seen) _ _
    (keeps-either place (not (seen.tail == 0) && not seen.is_flagged) _ _ refl (keeps-finished place place.back))
    (keeps-given needs place what (word_of count_bits found))
keeps-next needs me place (BackLoad seen current newer) found visits = refl
keeps-next needs me place (BackStore seen current newer line) found visits = keeps-either place (line.older == 0) _ _ refl refl
keeps-next needs me place (Forward seen current count) found visits = keeps-looked needs place seen current count (line_word_of found)
keeps-next needs me place (CutToClose seen current count line) found visits = refl
keeps-next needs me place (CutForRetry seen current count line) found visits = refl
keeps-next needs me place (Close seen count top) found visits = keeps-closing place seen count top found
keeps-next needs me place (Empty seen current count line) found visits =
    keeps-either place (found == word_number count_bits seen) _ _ refl (keeps-either place (line.older == 0) _ _ refl refl)
keeps-next needs me place (Retry seen count top) found visits = keeps-either place (top == 0) _ _ refl refl
keeps-next needs me place (ShowLoad current value afterwards) found visits = refl
keeps-next needs me place (ShowStore current next value afterwards) found visits = keeps-either place (next == 0) _ _ (keeps-shown place afterwards) refl
keeps-next needs me place PoisonLoad found visits = keeps-poisoning needs place (word_of count_bits found)
keeps-next needs me place (PoisonExchange seen) found visits =
    keeps-either place (found == word_number count_bits seen) _ _ (keeps-either place (seen.tail == 0) _ _ (keeps-finished place place.back) refl)
    (keeps-poisoning needs place (word_of count_bits found))
keeps-next needs me place Clear found visits = refl
keeps-next needs me place stage found visits = let uses = visits.1 in let joins = visits.0 in absurd (cc)

-- The steps of a call

-- it begins
pub visit-first : (needs : Needs) (places : ℕ) (call : WordCall) (first : Place) (v : View) → v.position ≡ idle_place → places ≤ v.number
    → is_taken needs.is_lock call ≡ true → started needs idle_place call ≡ Going first → first ≡ record idle_place { stage = first.stage }
    → IsVisiting first.stage → InVisit needs places call v first v
visit-first needs places call first v rests beyond takes is rested visits = record {
  in_call = in-call-begins needs places v.number call idle_place first v (λ slot. absurd (cc))
      (subst (λ (p : Place). RestsAfter p idle_place) (sym rests) (refl, refl)) takes is;
  rested = rested;
  beyond = beyond;
  visits = visits;
}

module _ (needs : Needs) (withheld places : ℕ) (call : WordCall) (began : View) (place : Place) (v : View) (m : InVisit needs places call began place v) where
  -- the operation of its stage is what it makes next
  pub visit-makes : v.role ≡ Acting → (operation : Operation) → operation ≡ operation_of needs places 0 place.stage → IsNext needs places v.number place operation v
  visit-makes dealt operation makes =
      let is : operation ≡ operation_of needs places v.number place.stage = makes ∙ same-operation needs places 0 v.number place.stage m.visits.1 in
      record {
        role = dealt;
        number = refl;
        here = inr m.visits;
        begins = m.in_call.begins;
        makes = is;
        inside = subst (λ (o : Operation). word_at o < places + places + 1) (sym is) m.in_call.ready.1;
      }

  module _ (w : View) (found : ℕ) where
    rests-next : (next : Place) → next ≡ record place { stage = next.stage } → next ≡ record idle_place { stage = next.stage }
    rests-next next keeps = keeps ∙ ap (λ (p : Place). record p { stage = next.stage }) m.rested

    visit-by : (next : Next) → next ≡ next_of needs v.number place place.stage found → Keeps place next → Moves needs withheld places place next found v w
        → VisitNext needs withheld places call began place w next
    visit-by (Going next) is keeps moved = record {
      in_call = subst (λ (n : ℕ). InCall needs places n call Idle began next w) (sym moved.extends.number)
          (in-call-going needs withheld places v.number call Idle began place v w found m.in_call refl next is moved);
      rested = rests-next next keeps;
      beyond = subst (λ (n : ℕ). places ≤ n) (sym moved.extends.number) m.beyond;
      visits = subst (λ (p : Place). IsVisiting p.stage) moved.position (moved.visits m.beyond);
    }
    visit-by Waits is keeps moved = record {
      in_call = subst (λ (n : ℕ). InCall needs places n call Idle began place w) (sym moved.extends.number)
          (in-call-waits needs withheld places v.number call Idle began place v w found m.in_call refl is moved);
      rested = m.rested;
      beyond = subst (λ (n : ℕ). places ≤ n) (sym moved.extends.number) m.beyond;
      visits = m.visits;
    }
    visit-by (Done behind answer) is keeps moved =
        let has = in-call-done needs withheld places v.number call Idle began place v w found m.in_call refl behind answer is moved in
        let since = in-call-since needs withheld places v.number call Idle began place v w found m.in_call refl behind answer is moved in
        let rested : behind ≡ record idle_place { stage = behind.stage } = rests-next behind keeps in
        let idle : behind.registration ≡ Idle = ap (λ (p : Place). p.registration) rested in
        let place_is : behind ≡ idle_place = rested ∙ ap (λ (s : Stage). record idle_place { stage = s }) since.0 in (
          subst (λ (r : Registration). HasEvents needs withheld call Idle answer r began w) idle has,
          moved.position ∙ place_is,
        )

    -- how it goes on behind a step
    pub visit-next : Moves needs withheld places place (next_of needs v.number place place.stage found) found v w
        → VisitNext needs withheld places call began place w (next_of needs 0 place place.stage found)
    visit-next moved =
        subst (VisitNext needs withheld places call began place w) (same-next needs v.number 0 place place.stage found m.visits.1)
        (visit-by (next_of needs v.number place place.stage found) refl (keeps-next needs v.number place place.stage found m.visits) moved)

-- what a step tells of a visitor by other names
pub moves-so : (needs : Needs) (withheld places one me found : ℕ) (picked place : Place) (v w : View) → picked ≡ place → one ≡ me
    → Moves needs withheld places picked (next_of needs one picked picked.stage found) found v w → Moves needs withheld places place (next_of needs me place place.stage found) found v w
moves-so needs withheld places one me found picked place v w is_place is_me moved =
    subst (λ (n : ℕ). Moves needs withheld places place (next_of needs n place place.stage found) found v w) is_me
    (subst (λ (p : Place). Moves needs withheld places p (next_of needs one p p.stage found) found v w) is_place moved)

-- a visitor's number is none of a place
pub number-beyond : (places words other number : ℕ) → words ≡ cells_of places → other ≡ words → other ≤ cells_of number → places ≤ number
number-beyond places words other number wide same beyond = omega (arith, wide, same, beyond)

-- A call that goes straight

-- a word that grants a try sends it on to its exchange, and a release that is given back too
pub visit-asks : (needs : Needs) (withheld places : ℕ) (call : WordCall) (began v : View) (request found : ℕ) (seen : Word) → seen ≡ word_of count_bits found
    → grants_at needs seen (record { request = request; joins = false }) ≡ true
    → VisitNext needs withheld places call began (record idle_place { stage = AcquireLoad (record { request = request; joins = false }) }) v
    (next_of needs 0 (record idle_place { stage = AcquireLoad (record { request = request; joins = false }) }) (AcquireLoad (record { request = request; joins = false })) found)
    → InVisit needs places call began (record idle_place { stage = AcquireExchange (record { request = request; joins = false }) seen }) v
visit-asks needs withheld places call began v request found seen sees grants next =
    subst (VisitNext needs withheld places call began (record idle_place { stage = AcquireLoad (record { request = request; joins = false }) }) v)
    (ask-goes needs 0 idle_place (record { request = request; joins = false }) found seen sees grants) next

pub visit-gives : (needs : Needs) (withheld places : ℕ) (call : WordCall) (began v : View) (request left found : ℕ) (seen : Word) → seen ≡ word_of count_bits found
    → lowers_to needs seen request ≡ Some left
    → VisitNext needs withheld places call began (record idle_place { stage = ReleaseLoad (Requested request) }) v
    (next_of needs 0 (record idle_place { stage = ReleaseLoad (Requested request) }) (ReleaseLoad (Requested request)) found)
    → InVisit needs places call began (record idle_place { stage = ReleaseExchange (Requested request) seen }) v
visit-gives needs withheld places call began v request left found seen sees lowers next =
    subst (VisitNext needs withheld places call began (record idle_place { stage = ReleaseLoad (Requested request) }) v)
    (give-goes needs 0 idle_place request left found seen sees lowers) next

-- the exchange is made
pub visit-tried : (needs : Needs) (withheld places : ℕ) (call : WordCall) (began v : View) (request found : ℕ) (seen : Word) → found ≡ word_number count_bits seen
    → VisitNext needs withheld places call began (record idle_place { stage = AcquireExchange (record { request = request; joins = false }) seen }) v
    (next_of needs 0 (record idle_place { stage = AcquireExchange (record { request = request; joins = false }) seen }) (AcquireExchange (record { request = request; joins = false }) seen) found)
    → HasEvents needs withheld call Idle (tried_answer needs true) Idle began v × (v.position ≡ idle_place)
visit-tried needs withheld places call began v request found seen hit next =
    let test : found == word_number count_bits seen ≡ true = same-number found (word_number count_bits seen) hit in rw test at next

module _ (needs : Needs) (withheld places : ℕ) (call : WordCall) (began v : View) (request found : ℕ) (seen : Word) (hit : found ≡ word_number count_bits seen)
    (next : VisitNext needs withheld places call began (record idle_place { stage = ReleaseExchange (Requested request) seen }) v
    (next_of needs 0 (record idle_place { stage = ReleaseExchange (Requested request) seen }) (ReleaseExchange (Requested request) seen) found)) where
  pub visit-gave : takes_flag seen ≡ false → HasEvents needs withheld call Idle (Says true) Idle began v × (v.position ≡ idle_place)
  visit-gave rests = let test : found == word_number count_bits seen ≡ true = same-number found (word_number count_bits seen) hit in rw (test, rests) at next

  -- it holds the flag, and goes on to walk the queue
  pub visit-settles : takes_flag seen ≡ true → (first : Word) → first ≡ released needs seen (Requested request)
      → InVisit needs places call began (record idle_place { stage = BackLoad first first.tail 0 }) v
  visit-settles holds first same =
      let test : found == word_number count_bits seen ≡ true = same-number found (word_number count_bits seen) hit in rw same (rw (test, holds) at next)

-- the same by other names
module _ (needs : Needs) (withheld places : ℕ) (call picked : WordCall) (began picked_began v : View) (place : Place) (request found : ℕ) (seen : Word)
    (is_call : picked ≡ call) (is_began : picked_began ≡ began) (is : place ≡ record idle_place { stage = ReleaseExchange (Requested request) seen })
    (hit : found ≡ word_number count_bits seen) (next : VisitNext needs withheld places picked picked_began place v (next_of needs 0 place place.stage found)) where
  so-next : VisitNext needs withheld places call began (record idle_place { stage = ReleaseExchange (Requested request) seen }) v
      (next_of needs 0 (record idle_place { stage = ReleaseExchange (Requested request) seen }) (ReleaseExchange (Requested request) seen) found)
  so-next =
      subst (λ (w : WordCall). VisitNext needs withheld places w began (record idle_place { stage = ReleaseExchange (Requested request) seen }) v
      (next_of needs 0 (record idle_place { stage = ReleaseExchange (Requested request) seen }) (ReleaseExchange (Requested request) seen) found)) is_call
      (subst (λ (u : View). VisitNext needs withheld places picked u (record idle_place { stage = ReleaseExchange (Requested request) seen }) v
      (next_of needs 0 (record idle_place { stage = ReleaseExchange (Requested request) seen }) (ReleaseExchange (Requested request) seen) found)) is_began
      (subst (λ (p : Place). VisitNext needs withheld places picked picked_began p v (next_of needs 0 p p.stage found)) is next))

  pub visit-gave-so : takes_flag seen ≡ false → HasEvents needs withheld call Idle (Says true) Idle began v × (v.position ≡ idle_place)
  visit-gave-so rests = visit-gave needs withheld places call began v request found seen hit so-next rests

-- Calls that need no word

pub try-above : (needs : Needs) (withheld count : ℕ) (v : View) → nat_lt needs.top count ≡ true → IsCalled needs withheld (Try count) Idle (Says false) Idle v v
try-above needs withheld count v more = rw more (refl, refl, refl)

pub release-above : (needs : Needs) (withheld count : ℕ) (v : View) → nat_lt needs.top count ≡ true → IsCalled needs withheld (Release count) Idle (Says false) Idle v v
release-above needs withheld count v more = rw more (refl, refl, refl)

pub release-nothing : (needs : Needs) (withheld count : ℕ) (v : View) → nat_lt needs.top count ≡ false → count == 0 ≡ true
    → IsCalled needs withheld (Release count) Idle (Says true) Idle v v
release-nothing needs withheld count v fits nothing = rw (fits, nothing) (refl, refl, refl)
