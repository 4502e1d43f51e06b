-- A call that moves alone is the call of the sequential object: a try, a registration and a poll, a reading call, a downgrade, poison, the clearing
-- of it, a shut, a release and a cancel.
use Rattle.std.proofs.Common.{◌≡◌, ℕ, zero, suc, ◌<◌, ◌≤◌, Bool, true, false, not, ◌&&◌, ◌||◌, List, [], ◌∷◌, ◌++◌, length, ◌==◌, nat_lt, Option, Some, None, Result, refl, sym, ap, ◌∙◌, arith, Err, append-nil, Ok, subst, inl, inr}
use Rattle.std.proofs.lemmas.Bool.Decides.{nat_tests}
use Rattle.saa_core_spec.specs.declared.lock.Mode.{Mode}
use Rattle.saa_core_spec.specs.declared.request.Full.{Full}
use Rattle.saa_core_spec.specs.declared.request.Request.{Request}
use Rattle.saa_core_spec.specs.Held.{Held, plus, asks_too_much, OfLock, Free, Shared}
use Rattle.saa_core_spec.specs.Lock.{is_poisoned, mode_request, try_answer, is_locked, downgraded_of, poisoned_of, cleared_of}
use Rattle.saa_core_spec.proofs.Refusing.{fits-poisoned}
use Rattle.saa_core_spec.specs.Object.{Object, After, Entry, Idle, Waiting, Answered, entry_at, with_entry, one_if, holds_slot, slots_in, used, is_nobody}
use Rattle.saa_core_spec.specs.Asking.{is_idle, is_granted_at_once, tried, joined, registered}
use Rattle.saa_core_spec.proofs.Counts.{one_if-le}
use Rattle.saa_core_words.specs.Words.{mode_of}
use Rattle.saa_word_steps.specs.declared.rules.Rules.{Rules}
use Rattle.saa_word_steps.specs.declared.rules.Rules.TheVariants.{Permits, Modes}
use Rattle.saa_word_steps.specs.declared.place.Registration.TheVariants.{Idle as IsIdle, AnsweredAtOnce, Queued}
use Rattle.saa_word_steps.specs.declared.call.Answer.{Answer}
use Rattle.saa_word_steps.specs.declared.call.Answer.TheVariants.{Bool as Says, Tried, Taken, Unit as SaysNothing}
use Rattle.saa_word_steps.specs.Needs.{Needs, needs_of, kept, lock_needs, AreNeeds}
use Rattle.saa_word_steps.specs.declared.event.Event.{Event}
use Rattle.saa_word_steps.specs.declared.event.Event.TheVariants.{Acquired, Refused, Joined, AskedPoisoned, AnswerTaken, NotReady, Lowered, NotLowered, Read, Poisoned as IsPoisonedNow, NotPoisoned, Cleared, NotCleared}
use Rattle.saa_word_steps.specs.AbstractState.{after_event, is_empty, must_wait, is_in, with_answer, AbstractState}
use Rattle.saa_word_steps.specs.Readings.{is_idle as is_unregistered, mode_number, read_as, is_taken}
use Rattle.saa_word_proofs.specs.Agrees.{Begins, Agrees}
use Rattle.saa_word_proofs.specs.Alone.{Configuration, PlacesAreQuiescent, PlacesRepresent, IsCalledAlone, IsDoneIn, IsEither, put}
use Rattle.saa_word_proofs.specs.Calls.{ask_named, poll_named, read_named, release_named, poison_named, clear_named, asked_by, is_taken_up, IsAnswered, IsCancelled}
use Rattle.saa_word_proofs.specs.Represents.{refusing, registering_says, waiters, called, Represents}
use Rattle.saa_word_proofs.proofs.SoloLemmas.Ends.{Course, along, moves-first}
use Rattle.saa_word_proofs.proofs.SoloLemmas.Mirroring.{bool_answer, Ended, one-event, answered-entries, at-end, leads, left-as, opening-event, waiters-append, plus-at, length-answered, entry-is, new-entry, same, same-entries, quiescent, idle-entry, shown-slot, waiting-entry, registered-at, dropped_by, end-cancel-once, end-cancel-slot, end-release, with_registration}
use Rattle.saa_core_spec.specs.declared.polling.Error.{Error}
use Rattle.saa_core_spec.specs.declared.polling.Error.TheVariants.{NotReady as IsNotReady, NotRegistered}
use Rattle.saa_core_spec.specs.declared.polling.How.TheVariants.{Try as TriesHow}
use Rattle.saa_core_spec.specs.Polling.{polled, dropped}
use Rattle.saa_core_spec.specs.Values.{lock_value, granted_value}
use Rattle.saa_word_steps.specs.declared.place.Ask.{Ask}
use Rattle.saa_word_steps.specs.declared.place.Place.{Place}
use Rattle.saa_word_steps.specs.declared.call.WordCall.TheVariants.{Poll, Try, Register, Release, Available, Shut, IsShut, TryLock, TryShare, RegisterMode, ReleaseLock, ReleaseShare, Downgrade, PoisonLock, ClearPoison, IsFree, IsLocked, IsShared, IsPoisoned, TryPoll, Cancel}
use Rattle.saa_word_proofs.specs.Refinement.{AreSeats}
use Rattle.saa_core_spec.specs.Semaphore.{shut_of}
use Rattle.saa_core_spec.specs.Settling.{answered_in}
use Rattle.saa_word_steps.specs.declared.place.Reading.{Reading}
use Rattle.saa_word_steps.specs.declared.place.ReleaseAmount.TheVariants.{AllButAShare}
use Rattle.saa_word_proofs.proofs.SoloLemmas.Events.{first-event, tells}
use Rattle.saa_word_proofs.proofs.SoloLemmas.Quiet.{at-rest, slot-is}
use Rattle.std.proofs.lemmas.Bool.{cases_Bool}
use Rattle.saa_word_steps.specs.declared.place.Reading.TheVariants.{Available as ReadsAvailable, IsFree as ReadsFree, IsLocked as ReadsLocked, IsShared as ReadsShared, IsPoisoned as ReadsPoisoned}
use Rattle.saa_word_steps.specs.declared.place.PollMode.{PollMode}
use Rattle.saa_word_steps.specs.declared.place.PollMode.TheVariants.{Tries, Awaits}
use Rattle.saa_word_steps.specs.declared.place.Registration.{Registration}
use Rattle.saa_word_steps.specs.declared.place.Stage.TheVariants.{Quiet}
use Rattle.saa_word_steps.specs.declared.place.Next.{Next}
use Rattle.saa_word_steps.specs.declared.place.Next.TheVariants.{Going, Waits, Done}
use Rattle.saa_word_steps.specs.declared.call.WordCall.{WordCall}
use Rattle.saa_word_steps.specs.Steps.{started, registered_as, polled_as, cancelled_as}
use Rattle.saa_word_steps.proofs.AbstractRuns.{permits-lawful}
use Rattle.saa_word_steps.proofs.LockNeeds.{locks-lawful}
use Rattle.saa_word_proofs.specs.Rows.{updated}
use Rattle.saa_word_proofs.proofs.RefinementLemmas.Starting.{starts, call-begun}

-- Grants at once

nobody-waits : (needs : Needs) (line : List (ℕ × ℕ)) → is_nobody (waiters needs line) ≡ is_empty line
nobody-waits needs line = grind arith

module _ {rules : Rules} {places me : ℕ} {now : Configuration} {s : Object} (b : Begins rules places me now s) (request : ℕ) where
  -- an ask is granted at once where it needn't wait, and nothing is refused
  pub granted-test : is_granted_at_once s ((needs_of rules).read request) ≡ (not b.state.poisoned && not (must_wait (needs_of rules) b.state request))
  granted-test =
      grind (arith, b.mirrors.held, b.mirrors.line, nobody-waits (needs_of rules) b.state.line, fits-poisoned ((needs_of rules).read request))

-- Tries

-- what a try answers that is granted or not, of a lock that is poisoned or not
abbrev try_says : (is_lock is_granted is_poison : Bool) → Answer
try_says false is_granted is_poison = Says is_granted
try_says true is_granted is_poison = Tried (try_answer is_granted is_poison)

abbrev pub tried_by : (is_lock : Bool) → Object → After Bool → After Answer
tried_by is_lock s after = record { state = after.state; reply = try_says is_lock after.reply (is_poisoned s.held) }

module _ {rules : Rules} {places me : ℕ} {now : Configuration} {s : Object} (b : Begins rules places me now s) (request : ℕ) {last : Configuration}
    (c : Course (needs_of rules) places me (Some (record { request = request; joins = false })) (now.standing me).registration b.state now.standing last)
    (over : PlacesAreQuiescent last.standing) where
  abbrev pub tries : After Answer
  tries = tried_by (needs_of rules).is_lock s (tried s ((needs_of rules).read request))

  pub end-try : (answer : Answer) (event : Event) → c.names ≡ event ∷ [] → ask_named (needs_of rules) (record { request = request; joins = false }) event ≡ Some answer
      → Ended b c over tries answer
  end-try answer (Acquired asked) names says =
      let held : Held = plus s.held ((needs_of rules).read request) in
      one-event b c over tries answer (Acquired asked) names (quiescent b).calm
      (λ allowed. (
        record s { held = held },
        grind (arith, nat_tests, says, allowed, granted-test b request),
        same-entries b (after_event (needs_of rules) b.state me (Acquired asked)) held s.line
            (grind (arith, nat_tests, says, allowed, b.mirrors.held, plus-at rules b.state.count request)) b.mirrors.line refl,
      ))
  end-try answer (Refused asked) names says =
      one-event b c over tries answer (Refused asked) names (quiescent b).calm
      (λ allowed. (s, grind (arith, nat_tests, says, allowed, granted-test b request, b.mirrors.held), same b))
  end-try answer AskedPoisoned names says =
      one-event b c over tries answer AskedPoisoned names (quiescent b).calm
      (λ poisoned. (s, grind (arith, says, poisoned, granted-test b request, b.mirrors.held), same b))
  end-try answer _ names says = absurd (grind (arith, says))

-- Registrations

-- what a registration answers
abbrev pub registered_by : After (Result Bool Full) → After Answer
registered_by after = record { state = after.state; reply = registering_says after.reply }

-- the number of a mode reads as its request
pub mode-read : (mode : Mode) → mode_of (mode_number mode) ≡ mode_request mode
mode-read mode = grind arith

-- a place that is no slot leaves room
slots-le : (book : List Entry) → slots_in book ≤ length book
slots-le [] = omega arith
slots-le (entry ∷ book) = omega (arith, slots-le book, one_if-le (holds_slot entry))

slots-room : (book : List Entry) (place : ℕ) → place < length book → holds_slot (entry_at book place) ≡ false → slots_in book < length book
slots-room [] place within free = absurd (omega (arith, within))
slots-room (entry ∷ book) zero within free = omega (arith, slots-le book, ap one_if free)
slots-room (entry ∷ book) (suc place) within free = omega (arith, slots-room book place (omega (arith, within)) free, one_if-le (holds_slot entry))

module _ {rules : Rules} {places me : ℕ} {now : Configuration} {s : Object} (b : Begins rules places me now s) (is_sync : Bool) (request : ℕ) where
  -- there is room for a place that is idle
  room-test : entry_at s.book me ≡ Idle → used s == s.room ≡ false
  room-test idle =
      grind (arith, nat_tests, b.mirrors.names, b.mirrors.room, b.mirrors.alone, slots-room s.book me (rw b.mirrors.names b.here) (ap holds_slot idle))

  -- what speaks against a registration: its place isn't idle, or it asks for more than there ever is
  pub refused-test : (not (is_idle (entry_at s.book me)) || asks_too_much s.held ((needs_of rules).read request))
      ≡ (not (is_unregistered (now.standing me).registration) || (not (needs_of rules).is_lock && nat_lt (needs_of rules).top request))
  refused-test =
      let entry = b.mirrors.entries me b.here in
      grind (arith, nat_tests, b.mirrors.held, entry.1)

module _ {rules : Rules} {places me : ℕ} {now : Configuration} {s : Object} (b : Begins rules places me now s) (is_sync : Bool) (request : ℕ) {last : Configuration}
    (idle : (now.standing me).registration ≡ IsIdle) (within : (not (needs_of rules).is_lock && nat_lt (needs_of rules).top request) ≡ false)
    (c : Course (needs_of rules) places me (Some (record { request = request; joins = true })) (now.standing me).registration b.state now.standing last)
    (over : PlacesAreQuiescent last.standing) where
  abbrev pub registers : After Answer
  registers = registered_by (registered s me ((needs_of rules).read request) is_sync)

  pub end-register : (answer : Answer) (event : Event) → c.names ≡ event ∷ []
      → ask_named (needs_of rules) (record { request = request; joins = true }) event ≡ Some answer → Ended b c over registers answer
  end-register answer (Acquired asked) names says =
      let held : Held = plus s.held ((needs_of rules).read request) in
      let entry : Entry = Answered 0 ((needs_of rules).read request) is_sync false in
      one-event b c over registers answer (Acquired asked) names (quiescent b).calm
      (λ allowed. (
        with_entry (record s { held = held }) me entry,
        grind (arith, nat_tests, says, allowed, idle, within, refused-test b is_sync request, granted-test b request, b.mirrors.held),
        new-entry b (after_event (needs_of rules) b.state me (Acquired asked)) held s.line entry (AnsweredAtOnce 0 asked) is_sync
            (grind (arith, nat_tests, says, allowed, b.mirrors.held, plus-at rules b.state.count request)) b.mirrors.line (λ other apart. refl)
            (grind (arith, nat_tests, says)),
      ))
  end-register answer AskedPoisoned names says =
      let entry : Entry = Answered 2 ((needs_of rules).read request) is_sync false in
      one-event b c over registers answer AskedPoisoned names (quiescent b).calm
      (λ poisoned. (
        with_entry s me entry,
        grind (arith, says, poisoned, idle, within, refused-test b is_sync request, b.mirrors.held),
        new-entry b b.state s.held s.line entry (AnsweredAtOnce 2 request) is_sync b.mirrors.held b.mirrors.line (λ other apart. refl) refl,
      ))
  end-register answer (Joined asked) names says =
      let asks : Request = (needs_of rules).read request in
      let room = room-test b is_sync request (entry-is b IsIdle (b.state.answered me) idle refl).1 in
      one-event b c over registers answer (Joined asked) names (quiescent b).calm
      (λ allowed. (
        joined s me asks is_sync,
        grind (arith, nat_tests, says, allowed, idle, within, refused-test b is_sync request, granted-test b request, b.mirrors.held, room),
        new-entry b (after_event (needs_of rules) b.state me (Joined asked)) s.held (s.line ++ (me, asks) ∷ []) (Waiting asks is_sync) (Queued asked) is_sync
            b.mirrors.held (grind (arith, nat_tests, says, b.mirrors.line, waiters-append (needs_of rules) b.state.line ((me, asked) ∷ []))) (λ other apart. refl)
            (grind (arith, nat_tests, says, allowed)),
      ))
  end-register answer _ names says = absurd (grind (arith, says))

-- Polls

-- what a poll answers
abbrev pub polled_by : After (Result ℕ Error) → After Answer
polled_by after = record { state = after.state; reply = Taken (lock_value after.reply) }

module _ {rules : Rules} {places me : ℕ} {now : Configuration} {s : Object} (b : Begins rules places me now s) {asks : Option Ask} {last : Configuration}
    (c : Course (needs_of rules) places me asks (now.standing me).registration b.state now.standing last) (over : PlacesAreQuiescent last.standing) where
  -- it takes an answer, or finds that there is none yet
  pub end-poll : (tries : Bool) (answer : Answer) (event : Event) → c.names ≡ event ∷ [] → poll_named tries event ≡ Some answer
      → Ended b c over (polled_by (polled s me TriesHow)) answer
  end-poll tries answer (AnswerTaken value) names says =
      one-event b c over (polled_by (polled s me TriesHow)) answer (AnswerTaken value) names (quiescent b).calm
      (λ answered.
      let slot = slot-is (now.standing me).registration (shown-slot b.invariant.seats me value answered) in
      let entry = entry-is b (Queued slot.0) (Some value) slot.1 answered in
      (with_entry s me Idle, grind (arith, says, entry.1), idle-entry b (with_answer me None b.state.answered) (λ other apart. grind (arith, nat_tests, apart))))
  end-poll tries answer NotReady names says =
      one-event b c over (polled_by (polled s me TriesHow)) answer NotReady names (quiescent b).calm
      (λ allowed.
      let entry = waiting-entry (needs_of rules) places me now.standing b.state s b.mirrors b.invariant.seats b.here (grind (arith, allowed, (quiescent b).calm.1 me)) in
      (s, grind (arith, says, entry.2), same b))
  end-poll tries answer _ names says = absurd (cc)

-- the sequential object answers a waiter that it isn't ready
pub unready : (needs : Needs) (places me : ℕ) (is_sync : Bool) (standing : ℕ → Place) (state : AbstractState) (s : Object) → PlacesRepresent needs places standing state s
    → AreSeats places standing state → me < places → is_in me state.line ≡ true
    → ((called needs.is_lock me is_sync Poll s).reply ≡ Taken (Err IsNotReady)) × ((called needs.is_lock me is_sync Poll s).state ≡ s)
unready needs places me is_sync standing state s m seats here there = grind (arith, (waiting-entry needs places me standing state s m seats here there).2)

-- a shut, or poison
abbrev pub poisoned_by : Rules → Object → After Bool
poisoned_by (Permits bound) s = shut_of s s.held
poisoned_by Modes s = poisoned_of s (is_locked s.held)

-- Calls of which the registration stays as it is

module _ {rules : Rules} {places me : ℕ} {now : Configuration} {s : Object} (b : Begins rules places me now s) {asks : Option Ask} {last : Configuration}
    (c : Course (needs_of rules) places me asks (now.standing me).registration b.state now.standing last) (over : PlacesAreQuiescent last.standing) where
  -- a reading call
  pub end-read : (reading : Reading) (reply answer : Answer) → reply ≡ read_as (needs_of rules) reading b.state.count b.state.poisoned
      → (event : Event) → c.names ≡ event ∷ [] → read_named (needs_of rules) reading event ≡ Some answer → Ended b c over (record { state = s; reply = reply }) answer
  end-read reading reply answer reads (Read count poisoned) names says =
      one-event b c over (record { state = s; reply = reply }) answer (Read count poisoned) names (quiescent b).calm
      (λ allowed. (s, grind (arith, says, reads, allowed), same b))
  end-read reading reply answer reads _ names says = absurd (cc)

  -- poison, or a shut: every waiter is answered so, or nothing changes where it is refused
  pub end-poison : (answer : Answer) (event : Event) → c.names ≡ event ∷ [] → poison_named event ≡ Some answer
      → Ended b c over (bool_answer (poisoned_by rules s)) answer
  end-poison answer IsPoisonedNow names named =
      let needs : Needs = needs_of rules in
      let first = first-event (quiescent b).calm (leads b c over names) in
      let seen = tells needs me b.state first.1 (quiescent b).calm (at-rest needs places last.row last.standing c.state c.invariant over).paid in
      let m : PlacesRepresent needs places last.standing b.state s = at-end b c over b.state s (left-as b c over names) (same b) in
      let done : poisoned_by rules s ≡ record {
        state = record s { held = refusing needs (kept needs b.state.count); line = []; book = answered_in 2 s.line s.book };
        reply = true;
      } = grind (arith, nat_tests, first.0, b.mirrors.held) in (
        rw done (record {
          held = grind (arith, seen.0, seen.3);
          line = sym (ap (waiters needs) seen.1);
          names = length-answered 2 s.line s.book ∙ m.names;
          entries = rw m.line
              (answered-entries 2 needs places (λ place. (last.standing place).registration) b.state s b.state.line [] c.state.answered m (quiescent b).once
              (sym (append-nil b.state.line)) seen.2 (shown-slot c.invariant.seats));
          room = m.room;
          alone = m.alone;
        }),
        grind (arith, named, done),
      )
  end-poison answer NotPoisoned names named =
      one-event b c over (bool_answer (poisoned_by rules s)) answer NotPoisoned names (quiescent b).calm
      (λ none. (s, grind (arith, nat_tests, named, none, b.mirrors.held, b.invariant.main.barren), same b))
  end-poison answer _ names named = absurd (cc)

-- Downgrades and the clearing of poison

module _ {places me : ℕ} {now : Configuration} {s : Object} (b : Begins Modes places me now s) {asks : Option Ask} {last : Configuration}
    (c : Course lock_needs places me asks (now.standing me).registration b.state now.standing last) (over : PlacesAreQuiescent last.standing) where
  -- a lock that one owner has is shared by one then, and the front of the line is granted
  pub end-downgrade : (answer : Answer) (event : Event) → c.names ≡ event ∷ [] → release_named AllButAShare event ≡ Some answer
      → Ended b c over (bool_answer (downgraded_of s (is_locked s.held))) answer
  end-downgrade answer Lowered names named =
      let lowered : Object = record s { held = OfLock (Shared 1) } in
      opening-event b c over (bool_answer (downgraded_of s (is_locked s.held))) answer (now.standing me).registration (left-as b c over names) b.state Lowered
      (quiescent b) (leads b c over names) (quiescent b).calm.1
      (λ owned. (
        lowered,
        grind (arith, nat_tests, named, owned, b.mirrors.held),
        same-entries b (after_event lock_needs b.state me Lowered) lowered.held s.line (grind (arith, owned)) b.mirrors.line refl,
      ))
  end-downgrade answer NotLowered names named =
      one-event b c over (bool_answer (downgraded_of s (is_locked s.held))) answer NotLowered names (quiescent b).calm
      (λ none. (s, grind (arith, nat_tests, named, none, b.mirrors.held, b.invariant.main.barren), same b))
  end-downgrade answer _ names named = absurd (cc)

  -- a poisoned lock is cleared, and is free then
  pub end-clear : (answer : Answer) (event : Event) → c.names ≡ event ∷ [] → clear_named event ≡ Some answer
      → Ended b c over (bool_answer (cleared_of s (is_poisoned s.held))) answer
  end-clear answer Cleared names named =
      one-event b c over (bool_answer (cleared_of s (is_poisoned s.held))) answer Cleared names (quiescent b).calm
      (λ allowed. (
        record s { held = OfLock Free },
        grind (arith, named, allowed, b.mirrors.held),
        same-entries b (after_event lock_needs b.state me Cleared) (OfLock Free) s.line
            (grind (arith, nat_tests, b.invariant.main.barren allowed.0)) b.mirrors.line refl,
      ))
  end-clear answer NotCleared names named =
      one-event b c over (bool_answer (cleared_of s (is_poisoned s.held))) answer NotCleared names (quiescent b).calm
      (λ calm. (s, grind (arith, nat_tests, named, calm, b.mirrors.held), same b))
  end-clear answer _ names named = absurd (cc)

-- the needs of any rules are those of a form
pub rules-lawful : (rules : Rules) → AreNeeds (needs_of rules)
rules-lawful (Permits bound) = permits-lawful bound
rules-lawful Modes = locks-lawful

quiet-put : (first : ℕ → Place) (me : ℕ) (place : Place) → PlacesAreQuiescent first → place.stage ≡ Quiet → PlacesAreQuiescent (updated first me place)
quiet-put first me place quiet is other = grind (arith, is, quiet other)

-- What a call is of the sequential object, by how it starts: as that has left it, it represents the end, and it has answered so
module _ {rules : Rules} {places me : ℕ} {now : Configuration} {s : Object} (b : Begins rules places me now s) where
  abbrev AgreesFrom : After Answer → Option Ask → (List Event → Answer → Type 0) → Next → Type 0
  AgreesFrom after asks named (Going place) =
      (answer : Answer) (last : Configuration) (c : Course (needs_of rules) places me asks place.registration b.state now.standing last) → named c.names answer
      → (over : PlacesAreQuiescent last.standing) → Ended b c over after answer
  AgreesFrom after asks named Waits = ⊥
  AgreesFrom after asks named (Done place said) =
      Represents (needs_of rules) places (with_registration now.standing me place.registration) b.state after.state × (after.reply ≡ said)

  -- a call that is done at once
  at-once : (registration : Registration) (said : Answer) (o : Object) {after : After Answer} → after ≡ record { state = o; reply = said }
      → Represents (needs_of rules) places (with_registration now.standing me registration) b.state o
      → Represents (needs_of rules) places (with_registration now.standing me registration) b.state after.state × (after.reply ≡ said)
  at-once registration said o is represents = rw is (represents, refl)

-- one event names the answer
abbrev IsNamed : (Event → Option Answer) → List Event → Answer → Type 0
IsNamed named names answer = (event : Event) × (names ≡ event ∷ []) × (named event ≡ Some answer)

module _ {rules : Rules} {places me : ℕ} {now : Configuration} {s : Object} (b : Begins rules places me now s) (is_sync : Bool) where
  -- a registration
  registrations : (request : ℕ) → (not (needs_of rules).is_lock && nat_lt (needs_of rules).top request) ≡ false
      → AgreesFrom b (registered_by (registered s me ((needs_of rules).read request) is_sync)) (Some (record { request = request; joins = true }))
      (IsNamed (ask_named (needs_of rules) (record { request = request; joins = true }))) (registered_as (now.standing me) request)
  registrations request within =
      elim (cases_Bool (is_unregistered (now.standing me).registration)) [
        | inl idle ↦
            rw idle (λ answer last c one over. end-register b is_sync request (grind (arith, idle)) within c over answer one.0 one.1 one.2)
        | inr busy ↦
            rw busy (at-once b (now.standing me).registration (Says false) s (grind (arith, busy, refused-test b is_sync request)) (same b))
      ]

  -- polls: only a place in the queue has steps to make
  polls : (tries : Bool) (taking : PollMode) (registration : Registration) → (now.standing me).registration ≡ registration
      → AgreesFrom b (polled_by (polled s me TriesHow)) None (IsNamed (poll_named tries)) (polled_as (now.standing me) taking registration)
  polls tries taking IsIdle is =
      at-once b (now.standing me).registration (Taken (Err NotRegistered)) s (grind (arith, (entry-is b IsIdle (b.state.answered me) is refl).1)) (same b)
  polls tries taking (AnsweredAtOnce value request) is =
      at-once b IsIdle (Taken (Ok (value == granted_value))) (with_entry s me Idle)
      (grind (arith, (entry-is b (AnsweredAtOnce value request) (b.state.answered me) is refl).1)) (idle-entry b b.state.answered (λ other apart. refl))
  polls tries taking (Queued request) is = λ answer last c one over. end-poll b c over tries answer one.0 one.1 one.2

  -- cancels: an answer that came at once is given back if it took something, and a place in the queue looks for itself
  cancels : (registration : Registration) → (now.standing me).registration ≡ registration
      → AgreesFrom b (dropped_by (dropped s me)) None (λ names answer. (answer ≡ SaysNothing) × IsCancelled (needs_of rules) registration names)
      (cancelled_as (needs_of rules) (now.standing me) registration)
  cancels IsIdle is =
      at-once b (now.standing me).registration SaysNothing s (grind (arith, (entry-is b IsIdle (b.state.answered me) is refl).1)) (same b)
  cancels (AnsweredAtOnce value request) is =
      elim (cases_Bool (is_taken_up (needs_of rules) request value)) [
        | inl took ↦
            rw took (λ answer last c cancelled over. rw cancelled.0 (end-cancel-once b c over value request refl is (took, cancelled.1.1)))
        | inr keeps ↦
            let entry = entry-is b (AnsweredAtOnce value request) (b.state.answered me) is refl in
            rw keeps
            (at-once b IsIdle SaysNothing (with_entry s me Idle) (grind (arith, entry.1, keeps, b.mirrors.held))
            (idle-entry b b.state.answered (λ other apart. refl)))
      ]
  cancels (Queued request) is = λ answer last c cancelled over. rw cancelled.0 (end-cancel-slot b c over request is cancelled.1)

agrees-from : (rules : Rules) {places me : ℕ} {now : Configuration} {s : Object} (b : Begins rules places me now s) (is_sync : Bool) (call : WordCall)
    → is_taken (needs_of rules).is_lock call ≡ true
    → AgreesFrom b (called (needs_of rules).is_lock me is_sync call s) (asked_by call) (IsAnswered (needs_of rules) call (now.standing me).registration)
    (started (needs_of rules) (now.standing me) call)
agrees-from (Permits bound) {me = me} {now = now} {s = s} b is_sync (Try count) taken =
    elim (cases_Bool (nat_lt bound count)) [
      | inl large ↦ rw large (at-once b (now.standing me).registration (Says false) s (grind (arith, nat_tests, large, granted-test b count)) (same b))
      | inr within ↦ rw within (λ answer last c one over. end-try b count c over answer one.0 one.1 one.2)
    ]
agrees-from (Permits bound) {me = me} {now = now} {s = s} b is_sync (Register count) taken =
    elim (cases_Bool (nat_lt bound count)) [
      | inl large ↦ rw large (at-once b (now.standing me).registration (Says false) s (grind (arith, large, refused-test b is_sync count)) (same b))
      | inr within ↦ rw within (registrations b is_sync count within)
    ]
agrees-from (Permits bound) {me = me} {now = now} {s = s} b is_sync (Release count) taken =
    elim (cases_Bool (nat_lt bound count)) [
      | inl large ↦
          rw large (at-once b (now.standing me).registration (Says false) s (grind (arith, nat_tests, large, b.invariant.main.bounded, b.mirrors.held)) (same b))
      | inr within ↦
          elim (cases_Bool (count == 0)) [
            | inl none ↦ rw (within, none) (same b, refl)
            | inr some ↦ rw (within, some) (λ answer last c one over. rw some at (end-release b count some c over answer one.0 one.1 one.2))
          ]
    ]
agrees-from (Permits bound) b is_sync Available taken =
    λ answer last c one over. end-read b c over ReadsAvailable _ answer (grind (arith, nat_tests, b.mirrors.held, b.invariant.main.barren)) one.0 one.1 one.2
agrees-from (Permits bound) b is_sync Shut taken = λ answer last c one over. end-poison b c over answer one.0 one.1 one.2
agrees-from (Permits bound) b is_sync IsShut taken =
    λ answer last c one over. end-read b c over ReadsPoisoned _ answer (grind (arith, nat_tests, b.mirrors.held, b.invariant.main.barren)) one.0 one.1 one.2
agrees-from (Permits bound) {me = me} {now = now} b is_sync TryPoll taken = polls b is_sync true Tries (now.standing me).registration refl
agrees-from (Permits bound) {me = me} {now = now} b is_sync Poll taken = polls b is_sync false Awaits (now.standing me).registration refl
agrees-from (Permits bound) {me = me} {now = now} b is_sync Cancel taken = cancels b is_sync (now.standing me).registration refl
agrees-from (Permits bound) b is_sync _ taken = absurd (cc)
agrees-from Modes b is_sync TryLock taken = λ answer last c one over. end-try b 0 c over answer one.0 one.1 one.2
agrees-from Modes b is_sync TryShare taken = λ answer last c one over. end-try b 1 c over answer one.0 one.1 one.2
agrees-from Modes {me = me} {now = now} {s = s} b is_sync (RegisterMode mode) taken =
    subst
    (λ (r : Request). AgreesFrom b (registered_by (registered s me r is_sync)) (asked_by (RegisterMode mode))
    (IsAnswered (needs_of Modes) (RegisterMode mode) (now.standing me).registration) (started (needs_of Modes) (now.standing me) (RegisterMode mode)))
    (mode-read mode) (registrations b is_sync (mode_number mode) refl)
agrees-from Modes b is_sync ReleaseLock taken = λ answer last c one over. end-release b 0 refl c over answer one.0 one.1 one.2
agrees-from Modes b is_sync ReleaseShare taken = λ answer last c one over. end-release b 1 refl c over answer one.0 one.1 one.2
agrees-from Modes b is_sync Downgrade taken = λ answer last c one over. end-downgrade b c over answer one.0 one.1 one.2
agrees-from Modes b is_sync PoisonLock taken = λ answer last c one over. end-poison b c over answer one.0 one.1 one.2
agrees-from Modes b is_sync ClearPoison taken = λ answer last c one over. end-clear b c over answer one.0 one.1 one.2
agrees-from Modes b is_sync IsFree taken =
    λ answer last c one over. end-read b c over ReadsFree _ answer (grind (arith, nat_tests, b.mirrors.held, b.invariant.main.barren)) one.0 one.1 one.2
agrees-from Modes b is_sync IsLocked taken =
    λ answer last c one over. end-read b c over ReadsLocked _ answer (grind (arith, nat_tests, b.mirrors.held, b.invariant.main.barren)) one.0 one.1 one.2
agrees-from Modes b is_sync IsShared taken =
    λ answer last c one over. end-read b c over ReadsShared _ answer (grind (arith, nat_tests, b.mirrors.held, b.invariant.main.barren)) one.0 one.1 one.2
agrees-from Modes b is_sync IsPoisoned taken =
    λ answer last c one over. end-read b c over ReadsPoisoned _ answer (grind (arith, nat_tests, b.mirrors.held, b.invariant.main.barren)) one.0 one.1 one.2
agrees-from Modes {me = me} {now = now} b is_sync TryPoll taken = polls b is_sync true Tries (now.standing me).registration refl
agrees-from Modes {me = me} {now = now} b is_sync Poll taken = polls b is_sync false Awaits (now.standing me).registration refl
agrees-from Modes {me = me} {now = now} b is_sync Cancel taken = cancels b is_sync (now.standing me).registration refl
agrees-from Modes b is_sync _ taken = absurd (cc)

-- A call that moves alone from a moment when no place is in a call is the call of the sequential object
pub alone : (rules : Rules) (places me : ℕ) (is_sync : Bool) (call : WordCall) (now : Configuration) (s : Object)
    (b : Begins rules places me now s) (steps : ℕ) (answer : Answer) (last : Configuration)
    → is_taken (needs_of rules).is_lock call ≡ true → IsCalledAlone (needs_of rules) places me call steps now answer last
    → Agrees (needs_of rules) places me is_sync call s answer last
alone rules places me is_sync call now s b steps answer last taken h =
    by-start (started (needs_of rules) (now.standing me) call) refl (agrees-from rules b is_sync call taken) h
  where
    by-start : (next : Next) → started (needs_of rules) (now.standing me) call ≡ next
        → AgreesFrom b (called (needs_of rules).is_lock me is_sync call s) (asked_by call) (IsAnswered (needs_of rules) call (now.standing me).registration) next
        → IsEither next (IsDoneIn (needs_of rules) places me steps (put me next now) answer last)
        (λ said. (steps ≡ 0) × (said ≡ answer) × (put me next now ≡ last))
        → Agrees (needs_of rules) places me is_sync call s answer last
    by-start (Going place) is agrees h =
        let a = along (rules-lawful rules) b.small b.room b.here call (now.standing me).registration answer last steps (put me (Going place) now)
        (moves-first b.small b.invariant b.quiet b.here call taken place is) h in
        let over : PlacesAreQuiescent last.standing = rw a.course.others (quiet-put now.standing me (last.standing me) b.quiet a.quiet) in
        let ended = agrees answer last a.course a.answered over in
        record { state = a.course.state; invariant = a.course.invariant; quiet = over; mirrors = ended.0; same = sym ended.1 }
    by-start Waits is agrees h = absurd h
    by-start (Done place said) is agrees h =
        let needs : Needs = needs_of rules in
        rw (← h.2)
        (record {
          state = b.state;
          invariant = rw is at (starts needs b.small places now.row now.standing b.state me call b.here b.invariant (b.quiet me) taken);
          quiet = quiet-put now.standing me place b.quiet (rw is at (call-begun needs (now.standing me) call (b.quiet me) taken));
          mirrors = rw (registered-at now.standing me place) at agrees.0;
          same = sym h.1 ∙ sym agrees.1;
        })
