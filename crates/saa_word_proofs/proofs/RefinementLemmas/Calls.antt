-- A call's stages name its events by each kind of step, and once it is done its events name its answer.
use Rattle.std.proofs.Common.{◌≡◌, ◌≢◌, ℕ, true, false, List, [], ◌∷◌, ◌++◌, ◌==◌, Option, Some, None, if◌then◌else◌, refl, ap, inl, inr, arith, append-nil, ◌%◌}
use Rattle.std.proofs.lemmas.Bool.Decides.{nat_tests}
use Rattle.saa_core_spec.specs.Values.{granted_value}
use Rattle.saa_core_spec.proofs.Counts.{number_same, same_number}
use Rattle.saa_core_words.specs.declared.word.Word.{Word}
use Rattle.saa_core_words.specs.Words.{count_bits, word_number, word_of, answer_of}
use Rattle.saa_word_steps.specs.declared.call.WordCall.{WordCall}
use Rattle.saa_word_steps.specs.declared.call.WordCall.TheVariants.{Cancel}
use Rattle.saa_word_steps.specs.declared.call.Answer.{Answer}
use Rattle.saa_word_steps.specs.declared.call.Answer.TheVariants.{Bool as Says, Unit as Ended}
use Rattle.saa_word_steps.specs.declared.place.Place.{Place}
use Rattle.saa_word_steps.specs.declared.place.ReleaseAmount.{ReleaseAmount}
use Rattle.saa_word_steps.specs.declared.place.ReleaseAmount.TheVariants.{Requested}
use Rattle.saa_word_steps.specs.declared.place.AfterWalk.{AfterWalk}
use Rattle.saa_word_steps.specs.declared.place.AfterWalk.TheVariants.{Tells, Ends as EndsCall, Takes}
use Rattle.saa_word_steps.specs.declared.place.Ask.{Ask}
use Rattle.saa_word_steps.specs.declared.place.Registration.{Registration}
use Rattle.saa_word_steps.specs.declared.place.Registration.TheVariants.{Idle, AnsweredAtOnce, Queued}
use Rattle.saa_word_steps.specs.declared.place.PollMode.{PollMode}
use Rattle.saa_word_steps.specs.declared.place.PollMode.TheVariants.{Tries, Awaits, Gives}
use Rattle.saa_word_steps.specs.declared.place.Stage.{Stage}
use Rattle.saa_word_steps.specs.declared.place.Stage.TheVariants.{Take, Quiet, ReadLoad, AcquireLoad, AcquireExchange, Join, ReleaseLoad, ReleaseExchange, PoisonLoad, PoisonExchange, Clear}
use Rattle.saa_word_steps.specs.Needs.{Needs}
use Rattle.saa_word_steps.specs.declared.event.Event.{Event}
use Rattle.saa_word_steps.specs.declared.event.Event.TheVariants.{Acquired, Refused, AskedPoisoned, Cancelled, Poisoned, NotPoisoned, NotReady, AnswerTaken, Joined, Cleared, NotCleared}
use Rattle.saa_word_steps.specs.Steps.{decided, granted, finished, given, gave_nothing, taken_answer, poisoning, next_of}
use Rattle.saa_word_steps.specs.Readings.{refusing_answer, tried_answer, poisoned_word}
use Rattle.saa_word_proofs.specs.StepRefinement.{gave, gave_not, decided_events, given_events, taken_events, poisoning_events, named_at}
use Rattle.saa_word_proofs.specs.Calls.{answer_named, ask_named, poison_named, asked_by, is_taken_up, IsDropped, IsCancelled, IsAnswered}
use Rattle.saa_word_proofs.specs.CallStages.{IsGivingUp, IsLeavingLine, IsReleasing, IsTaking, IsUnder, IsUnderNext, IsWorking, given_by, is_poisoning}
use Rattle.saa_word_proofs.proofs.RefinementLemmas.Rows.{either}

-- Events that name an answer

-- an event that names an answer of a call is that call's; a cancel's events name none
answered : (needs : Needs) (call : WordCall) (registered : Registration) (event : Event) (answer : Answer) → answer_named needs call event ≡ Some answer
    → IsAnswered needs call registered (event ∷ []) answer
answered needs Cancel registered event answer names = absurd (cc)
answered needs call registered event answer names = (event, refl, names)

-- a cancel that has given back, or found nothing to give back, is one that has named so
gave-cancelled : (needs : Needs) (registered : Registration) (what : ReleaseAmount) (events last : List Event) → IsGivingUp needs registered what events
    → ((request : ℕ) → what ≡ Requested request → IsDropped request last) → IsCancelled needs registered (events ++ last)
gave-cancelled needs Idle what events last giving is = absurd giving
gave-cancelled needs (AnsweredAtOnce value asked) what events last giving is = rw giving.2 (giving.1, is asked giving.0)
gave-cancelled needs (Queued asked) what events last giving is = rw giving.2 (inr (inr (giving.1, (last, refl, is asked giving.0))))

module _ (needs : Needs) (call : WordCall) (registered : Registration) where
  -- an event names the answer of an ask
  ask-answered : (ask : Ask) (event : Event) (answer : Answer) → asked_by call ≡ Some ask → ask_named needs ask event ≡ Some answer
      → IsAnswered needs call registered (event ∷ []) answer
  ask-answered ask event answer is names = answered needs call registered event answer (grind (arith, is, names))

  -- what is given back is told, and so is what isn't held; a release isn't a cancel
  release-named : (what : ReleaseAmount) → given_by call ≡ Some what
      → (answer_named needs call (gave what) ≡ Some (Says true)) × (answer_named needs call (gave_not what) ≡ Some (Says false)) × (call ≢ Cancel)
  release-named what is = (grind (arith, nat_tests, is), grind (arith, nat_tests, is), λ cancel. grind (arith, is, cancel))

  -- a cancel is answered that it ended
  cancel-answered : (events : List Event) → call ≡ Cancel → IsCancelled needs registered events → IsAnswered needs call registered events Ended
  cancel-answered events is cancelled = rw is (refl, cancelled)

  -- Asks

  -- a call that is granted at once has named that it got what it asked
  granted-under : (stage : Stage) (place : Place) (ask : Ask) → asked_by call ≡ Some ask
      → IsUnderNext needs call registered place.back stage (Acquired ask.request ∷ []) (granted needs place ask)
  granted-under stage place ask is =
      let acquired = λ (answer : Answer). ask-answered ask (Acquired ask.request) answer is in
      grind (arith, nat_tests, acquired (Says true), acquired (tried_answer needs true))

  -- an ask that is decided
  decided-under : (stage : Stage) (place : Place) (ask : Ask) (seen : Word) → asked_by call ≡ Some ask
      → IsUnderNext needs call registered place.back stage (decided_events needs ask.request ask.joins seen) (decided needs place ask seen)
  decided-under stage place ask seen is =
      let poisoned = λ (answer : Answer). ask-answered ask AskedPoisoned answer is in
      let refused = ask-answered ask (Refused ask.request) (tried_answer needs false) is in
      grind (arith, nat_tests, is, granted-under stage place ask is, poisoned (Says true), poisoned (refusing_answer needs), refused)

  -- A call that is done with the line answers what it named, or takes its own answer next
  finished-under : (was : AfterWalk) (stage : Stage) (events : List Event) (place : Place) (back : AfterWalk) → IsWorking needs call registered back events
      → IsUnderNext needs call registered was stage events (finished place back)
  finished-under was stage events place Tells working = rw working.1 (answered needs call registered working.0 (Says true) working.2)
  finished-under was stage events place EndsCall working = cancel-answered events working.0 working.1
  finished-under was stage events place (Takes request) working = working

  -- Releases

  -- who gives back what it holds goes on with the line, or is done
  gave-working : (back : AfterWalk) (what : ReleaseAmount) (events : List Event) → IsReleasing needs call registered back what events
      → IsWorking needs call registered back (events ++ gave what ∷ [])
  gave-working Tells what events releasing =
      let names = release-named what releasing.0 in rw releasing.1 (gave what, refl, names.0, names.2)
  gave-working EndsCall what events releasing =
      (releasing.0, gave-cancelled needs registered what events (gave what ∷ []) releasing.1 (λ request is. inl (rw is refl)))
  gave-working (Takes asked) what events releasing = absurd releasing

  -- who finds nothing to give back is done
  gave-nothing-under : (was : AfterWalk) (stage : Stage) (place : Place) (back : AfterWalk) (what : ReleaseAmount) (events : List Event)
      → IsReleasing needs call registered back what events
      → IsUnderNext needs call registered was stage (events ++ gave_not what ∷ []) (gave_nothing place back)
  gave-nothing-under was stage place Tells what events releasing =
      rw releasing.1 (answered needs call registered (gave_not what) (Says false) (release-named what releasing.0).1)
  gave-nothing-under was stage place EndsCall what events releasing =
      cancel-answered (events ++ gave_not what ∷ []) releasing.0
      (gave-cancelled needs registered what events (gave_not what ∷ []) releasing.1 (λ request is. inr (rw is refl)))
  gave-nothing-under was stage place (Takes asked) what events releasing = absurd releasing

  -- a release that is decided
  given-under : (stage : Stage) (place : Place) (what : ReleaseAmount) (seen : Word) (events : List Event)
      → IsReleasing needs call registered place.back what events
      → IsUnderNext needs call registered place.back stage (events ++ given_events needs what seen) (given needs place what seen)
  given-under stage place what seen events releasing =
      grind (arith, releasing, append-nil events, gave-nothing-under place.back stage place place.back what events releasing)

  -- an answer that is taken, and none that is there; what is granted and took something is given back by a cancel
  taken-under : (place : Place) (taking : PollMode) (answer : Option ℕ) (events : List Event) → IsTaking call registered taking events
      → IsUnderNext needs call registered place.back (Take taking) (events ++ taken_events taking answer) (taken_answer needs place taking answer)
  taken-under place (Gives request) (Some value) events h =
      rw (h.2, h.0, h.1) (either (IsUnderNext needs Cancel (Queued request) place.back (Take (Gives request)) (AnswerTaken value ∷ []))
      (is_taken_up needs request value) _ _
      (λ up. (refl, (refl, grind (arith, up), ap (λ (n : ℕ). AnswerTaken n ∷ []) (same_number value granted_value (grind (arith, up))))))
      (λ free. (refl, inr (inl (value, refl, free)))))
  taken-under place Awaits (Some value) events h = rw h.1 (answered needs call registered (AnswerTaken value) _ (grind (arith, h.0)))
  taken-under place Tries (Some value) events h = rw h.1 (answered needs call registered (AnswerTaken value) _ (grind (arith, h.0)))
  taken-under place Tries None events h = rw h.1 (answered needs call registered NotReady _ (grind (arith, h.0)))
  taken-under place taking None events h = grind (arith, h, append-nil events)

  -- a cancel that left the line has named so; one that isn't found there works for the others, and then takes its own answer
  left-under : (back : AfterWalk) (events : List Event) → IsLeavingLine call registered back events
      → (call ≡ Cancel) × IsCancelled needs registered (events ++ Cancelled ∷ []) × IsWorking needs call registered back events
  left-under back events leaving = (grind (arith, leaving), grind (arith, leaving), grind (arith, leaving))

  -- Poison

  -- an event names the answer of poison and of a shut, which aren't a cancel
  poison-names : (event : Event) → is_poisoning needs.is_lock call ≡ true → (answer_named needs call event ≡ poison_named event) × (call ≢ Cancel)
  poison-names event is = (grind (arith, is), λ cancel. grind (arith, is, cancel))

  -- poison that is decided; where it waits, it stays where it was
  poisoning-under : (stage : Stage) (place : Place) (seen : Word)
      → is_poisoning needs.is_lock call ≡ true → place.back ≡ Tells → IsUnder needs call registered place.back stage []
      → IsUnderNext needs call registered place.back stage (poisoning_events needs seen) (poisoning needs place seen)
  poisoning-under stage place seen is tells stays =
      let refused = answered needs call registered NotPoisoned (Says false) (poison-names NotPoisoned is).0 in
      grind (arith, refused, is, tells, stays)

  -- A call at a stage goes on so, with the events that the stage names
  pub under-next : (me : ℕ) (place : Place) (stage : Stage) (found : ℕ) (events : List Event) → IsUnder needs call registered place.back stage events
      → IsUnderNext needs call registered place.back stage (events ++ named_at needs stage found) (next_of needs me place stage found)
  under-next me place Quiet found events h = absurd h
  under-next me place (ReadLoad reading) found events h = rw h.1 (answered needs call registered _ _ (grind (arith, h.0)))
  under-next me place (AcquireLoad ask) found events h = rw h.1 (decided-under (AcquireLoad ask) place ask (word_of count_bits found) h.0)
  under-next me place (AcquireExchange ask seen) found events h =
      let decides = decided-under (AcquireExchange ask seen) place ask (word_of count_bits found) h.0 in
      rw h.1 (grind (arith, granted-under (AcquireExchange ask seen) place ask h.0, decides))
  under-next me place (Join request seen) found events h =
      let ask : Ask = record { request = request; joins = true } in
      let joins = ask-answered ask (Joined request) (Says true) h.0 (rw (number_same request) refl) in
      rw h.1 (grind (arith, joins, decided-under (Join request seen) place ask (word_of count_bits found) h.0))
  under-next me place (ReleaseLoad what) found events h = given-under (ReleaseLoad what) place what (word_of count_bits found) events h
  under-next me place (ReleaseExchange what seen) found events h =
      let gives = gave-working place.back what events h in
      let ends = finished-under place.back (ReleaseExchange what seen) (events ++ gave what ∷ []) place place.back gives in
      grind (arith, gives, ends, given-under (ReleaseExchange what seen) place what (word_of count_bits found) events h)
  under-next me place (Take taking) found events h = taken-under place taking (answer_of (found % 65536)) events h
  under-next me place PoisonLoad found events h =
      rw h.2 (poisoning-under PoisonLoad place (word_of count_bits found) h.0 h.1 (h.0, h.1, refl))
  under-next me place (PoisonExchange seen) found events h =
      let names = poison-names Poisoned h.0 in
      let works : IsWorking needs call registered place.back (Poisoned ∷ []) = rw h.1 (Poisoned, refl, names.0, names.1) in
      let ends = finished-under place.back (PoisonExchange seen) (Poisoned ∷ []) place place.back works in
      rw h.2 (grind (arith, works, ends, poisoning-under (PoisonExchange seen) place (word_of count_bits found) h.0 h.1 (h.0, h.1, refl)))
  under-next me place Clear found events h =
      rw (h.1, h.0) (if found == word_number count_bits poisoned_word then Cleared else NotCleared, grind arith, grind arith)
  under-next me place stage found events h =
      let works = finished-under place.back stage events place place.back in
      grind (arith, h, append-nil events, works, cancel-answered (events ++ Cancelled ∷ []), left-under place.back events)
