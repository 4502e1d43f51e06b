-- A call that starts changes nothing of what stands in the words, and has named nothing.
use Rattle.std.proofs.Common.{◌^◌, ◌≡◌, ℕ, ◌<◌, ◌≤◌, true, false, List, [], ◌==◌, nat_lt, refl, sym, ap, subst, ◌∙◌, arith}
use Rattle.std.proofs.lemmas.Bool.Decides.{nat_tests}
use Rattle.saa_core_words.specs.Words.{count_bits}
use Rattle.saa_word_steps.specs.declared.call.WordCall.{WordCall}
use Rattle.saa_word_steps.specs.declared.call.WordCall.TheVariants.{Try, Register, Release, TryLock, TryShare, RegisterMode, ClearPoison, TryPoll, Poll, Cancel}
use Rattle.saa_word_steps.specs.declared.place.Place.{Place}
use Rattle.saa_word_steps.specs.declared.place.ReleaseAmount.TheVariants.{Requested}
use Rattle.saa_word_steps.specs.declared.place.AfterWalk.TheVariants.{Tells, Ends, Takes}
use Rattle.saa_word_steps.specs.declared.place.Registration.{Registration}
use Rattle.saa_word_steps.specs.declared.place.Registration.TheVariants.{Idle, AnsweredAtOnce, Queued}
use Rattle.saa_word_steps.specs.declared.place.PollMode.{PollMode}
use Rattle.saa_word_steps.specs.declared.place.PollMode.TheVariants.{Tries, Awaits}
use Rattle.saa_word_steps.specs.declared.place.Stage.TheVariants.{Quiet, AcquireLoad, ReleaseLoad, Take, FlagLoad, Clear}
use Rattle.saa_word_steps.specs.declared.place.Next.{Next}
use Rattle.saa_word_steps.specs.Needs.{Needs}
use Rattle.saa_word_steps.specs.AbstractState.{AbstractState}
use Rattle.saa_word_steps.specs.Steps.{IsRanged, polled_as, cancelled_as, registered_as, started}
use Rattle.saa_word_steps.specs.Readings.{is_idle, is_taken, mode_number}
use Rattle.saa_word_proofs.specs.Refinement.{joins_line, is_holder, gives_up, IsLocallyTrue, IsOwn, IsShowing, Invariant}
use Rattle.saa_word_proofs.specs.Rows.{line_of, updated}
use Rattle.saa_word_proofs.specs.Registering.{is_slot}
use Rattle.saa_word_proofs.specs.StepRefinement.{place_after}
use Rattle.saa_word_proofs.specs.Calls.{is_taken_up}
use Rattle.saa_word_proofs.specs.CallStages.{IsBegun}
use Rattle.saa_word_proofs.proofs.RefinementLemmas.Lists.{updated-same}
use Rattle.saa_word_proofs.proofs.RefinementLemmas.Rows.{either, moved}
use Rattle.saa_word_proofs.proofs.RefinementLemmas.Outcomes.{not-holder}

module _ (needs : Needs) (wide : needs.top < 2 ^ count_bits) (places : ℕ) (row : ℕ → ℕ) (standing : ℕ → Place) (state : AbstractState) (me : ℕ)
    (s : Invariant needs places row standing state) (quiet : (standing me).stage ≡ Quiet) where
  abbrev Stands : Place → Type 0
  Stands place = Invariant needs places row (updated standing me place) state

  -- a place that starts: no word was looked at, and no event happened
  begun : (place : Place) → (places ≤ me → joins_line place.stage ≡ false) → is_slot place.registration ≡ is_slot (standing me).registration
      → IsRanged needs place.stage → IsLocallyTrue needs place.registration place.back place.stage → gives_up place.back place.stage ≡ false
      → IsOwn (line_of row me) place.stage → IsShowing [] (s.answer_value me) place.stage → is_holder place.stage ≡ false → Stands place
  begun place free same ranged alone keeps own showing none =
      moved needs places row standing state me s place free same ranged alone
      (λ gives. (let wrong : true ≡ false = sym gives ∙ keeps in absurd (cc))) own
      (subst (λ (unshown : List (ℕ × ℕ)). IsShowing unshown (s.answer_value me) place.stage)
      (sym (subst (λ stage. IsShowing (s.unshown me) (s.answer_value me) stage) quiet (s.stages.showing me))) showing) (none ∙ ap is_holder (sym quiet))
      (λ it. absurd (not-holder needs places row standing state me s (ap is_holder quiet) it))

  -- a call that is done at once leaves its place as it was
  same-place : Stands (standing me)
  same-place = subst (λ (f : ℕ → Place). Invariant needs places row f state) (sym (updated-same standing me (standing me) refl)) s

  abbrev Starts : Next → Type 0
  Starts next = Stands (place_after (standing me) next)

  -- a try that starts
  try-starts : (request : ℕ) → request < 65536 → Stands (record (standing me) { stage = AcquireLoad (record { request = request; joins = false }) })
  try-starts request small =
      begun (record (standing me) { stage = AcquireLoad (record { request = request; joins = false }) }) (λ out. refl) refl tt (small, λ joins. absurd (cc)) refl tt refl refl

  -- a registration that starts
  register-starts : (request : ℕ) → (places ≤ me → joins_line (place_after (standing me) (registered_as (standing me) request)).stage ≡ false) → request < 65536
      → Stands (place_after (standing me) (registered_as (standing me) request))
  register-starts request free small =
      either Starts (is_idle (standing me).registration) _ _
      (λ idle. begun (record (standing me) { stage = AcquireLoad (record { request = request; joins = true }) }) (rw idle at free) refl tt
      (small, λ joins. grind (arith, idle)) refl tt refl refl)
      (λ refused. same-place)

  -- a poll that starts; it doesn't give up what it is registered as
  poll-starts : (taking : PollMode) (registration : Registration) → (standing me).registration ≡ registration
      → (is_slot registration ≡ true → IsLocallyTrue needs (standing me).registration (standing me).back (Take taking)) → gives_up (standing me).back (Take taking) ≡ false
      → Stands (place_after (standing me) (polled_as (standing me) taking registration))
  poll-starts taking Idle is alone keeps = same-place
  poll-starts taking (AnsweredAtOnce value request) is alone keeps =
      rw quiet (begun (record (standing me) { registration = Idle; stage = Quiet }) (λ out. refl) (ap is_slot (sym is)) tt tt refl tt refl refl)
  poll-starts taking (Queued request) is alone keeps = begun (record (standing me) { stage = Take taking }) (λ out. refl) refl tt (alone refl) keeps tt refl refl

  -- a cancel that starts: it gives back what it was granted, or looks for itself in the line
  cancel-starts : (registration : Registration) → (standing me).registration ≡ registration → Stands (place_after (standing me) (cancelled_as needs (standing me) registration))
  cancel-starts Idle is = same-place
  cancel-starts (AnsweredAtOnce value request) is =
      let releases : Place = record (standing me) { registration = Idle; stage = ReleaseLoad (Requested request); back = Ends } in
      let ends : Place = record (standing me) { registration = Idle; stage = Quiet } in
      either Starts (is_taken_up needs request value) _ _ (λ up. begun releases (λ out. refl) (ap is_slot (sym is)) tt refl refl tt refl refl)
      (λ free. begun ends (λ out. refl) (ap is_slot (sym is)) tt tt refl tt refl refl)
  cancel-starts (Queued request) is = begun (record (standing me) { stage = FlagLoad; back = Takes request }) (λ out. refl) refl tt is refl tt refl refl

  -- a call that starts, one that reads among others
  starting : (call : WordCall) → (places ≤ me → joins_line (place_after (standing me) (started needs (standing me) call)).stage ≡ false) → is_taken needs.is_lock call ≡ true
      → Stands (place_after (standing me) (started needs (standing me) call))
  starting (Try count) free taken =
      either Starts (nat_lt needs.top count) _ _ (λ more. same-place) (λ fits. try-starts count (grind (arith, nat_tests, fits, wide)))
  starting (Register count) free taken =
      either Starts (nat_lt needs.top count) _ _ (λ more. same-place) (λ fits. register-starts count (rw fits at free) (grind (arith, nat_tests, fits, wide)))
  starting (Release count) free taken =
      either Starts (nat_lt needs.top count) _ _ (λ more. same-place) (λ fits. either Starts (count == 0) _ _ (λ nothing. same-place)
      (λ some. begun (record (standing me) { stage = ReleaseLoad (Requested count); back = Tells }) (λ out. refl) refl tt refl refl tt refl refl))
  starting TryLock free taken = try-starts 0 (omega arith)
  starting TryShare free taken = try-starts 1 (omega arith)
  starting (RegisterMode mode) free taken = register-starts (mode_number mode) free (grind arith)
  starting ClearPoison free taken = begun (record (standing me) { stage = Clear }) free refl tt taken refl tt refl refl
  starting TryPoll free taken = poll-starts Tries (standing me).registration refl (λ slot. slot) refl
  starting Poll free taken = poll-starts Awaits (standing me).registration refl (λ slot. slot) refl
  starting Cancel free taken = cancel-starts (standing me).registration refl
  starting call free taken = begun (place_after (standing me) (started needs (standing me) call)) free refl tt (search) refl tt refl refl

-- A call that starts leaves all standing together; a visitor's doesn't go on to join the line
pub starts-anyone : (needs : Needs) → needs.top < 2 ^ count_bits → (places : ℕ) (row : ℕ → ℕ) (standing : ℕ → Place) (state : AbstractState) (me : ℕ) (call : WordCall)
    → (places ≤ me → joins_line (place_after (standing me) (started needs (standing me) call)).stage ≡ false)
    → Invariant needs places row standing state → (standing me).stage ≡ Quiet → is_taken needs.is_lock call ≡ true
    → Invariant needs places row (updated standing me (place_after (standing me) (started needs (standing me) call))) state
starts-anyone needs wide places row standing state me call free s quiet taken = starting needs wide places row standing state me s quiet call free taken

-- the same at a place
pub starts : (needs : Needs) → needs.top < 2 ^ count_bits → (places : ℕ) (row : ℕ → ℕ) (standing : ℕ → Place) (state : AbstractState) (me : ℕ) (call : WordCall)
    → me < places → Invariant needs places row standing state → (standing me).stage ≡ Quiet → is_taken needs.is_lock call ≡ true
    → Invariant needs places row (updated standing me (place_after (standing me) (started needs (standing me) call))) state
starts needs wide places row standing state me call here s quiet taken =
    starts-anyone needs wide places row standing state me call (λ out. absurd (omega (arith, out, here))) s quiet taken

-- A call that starts has named nothing
pub call-begun : (needs : Needs) (place : Place) (call : WordCall) → place.stage ≡ Quiet → is_taken needs.is_lock call ≡ true
    → IsBegun needs call place.registration (started needs place call)
call-begun needs place Cancel quiet taken = grind (arith, quiet)
call-begun needs place call quiet taken = grind (arith, quiet, taken)
