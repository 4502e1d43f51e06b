-- The sequential object beside a call that starts while no place is in one: what a semaphore and a lock hold at a count, what represents the states
-- behind the events, and the end of the call, where the line is settled. Beside a release and a cancel: what is given back.
use Rattle.std.proofs.Common.{◌≡◌, ℕ, ◌+◌, true, refl, ap, ◌∙◌, arith, ◌<◌, List, [], ◌∷◌, ◌++◌, length, take, drop, if◌then◌else◌, slice_set, ◌==◌, ◌≤◌, Bool, false, Option, Some, None, ◌||◌, sym, subst, inl, inr}
use Rattle.std.proofs.lemmas.List.{get_or-set_same, get_or-set_other}
use Rattle.std.proofs.Math.ListN.{length-set}
use Rattle.std.proofs.lemmas.Bool.Decides.{nat_tests}
use Rattle.saa_core_spec.specs.Held.{fits, plus, Held}
use Rattle.saa_core_spec.specs.Object.{Entry, Idle, Waiter, entry_at, Object, Waiting, with_entry, After, Answered, without}
use Rattle.saa_core_spec.specs.Settling.{fitting_front, plus_all, answered_entry, answered_in, settled}
use Rattle.saa_core_spec.proofs.FittingFronts.{fitting_front-fits, fitting_front-blocked}
use Rattle.saa_word_steps.specs.declared.rules.Rules.{Rules}
use Rattle.saa_word_steps.specs.Needs.{Needs, fits_count, needs_of}
use Rattle.saa_word_steps.specs.AbstractState.{is_in, IsFront, IsSettledAt, takes_of, AbstractState, IsEnabled, after_event, held_by, answered_with, with_answer}
use Rattle.saa_word_proofs.specs.Represents.{waiters, Represents, entry_of, held_at, held_where}
use Rattle.saa_core_spec.specs.declared.request.Request.{Request}
use Rattle.saa_core_spec.proofs.Counts.{one_if-le}
use Rattle.saa_word_steps.specs.declared.place.Place.{Place}
use Rattle.saa_word_steps.specs.declared.place.Registration.{Registration}
use Rattle.saa_word_steps.specs.declared.place.Registration.TheVariants.{Idle as IsIdle, Queued, AnsweredAtOnce}
use Rattle.saa_word_steps.specs.declared.event.Event.{Event}
use Rattle.saa_word_steps.proofs.AbstractRuns.{run-once, waits-some}
use Rattle.saa_word_proofs.specs.Agrees.{Begins}
use Rattle.saa_word_proofs.specs.Alone.{Configuration, PlacesRepresent, PlacesAreQuiescent}
use Rattle.saa_word_proofs.specs.Promises.{WordsAreQuiescent}
use Rattle.saa_word_proofs.specs.Refinement.{AreSeats}
use Rattle.saa_word_proofs.specs.Registering.{is_slot, registration_after, registration_after_event}
use Rattle.saa_word_proofs.specs.Rows.{updated}
use Rattle.saa_word_proofs.proofs.SoloLemmas.Events.{IsCalm, NamedRun, Settles, first-event, no-events, settles}
use Rattle.saa_word_proofs.proofs.SoloLemmas.Quiet.{at-rest, slot-is, waits-slot, parts-none}
use Rattle.saa_word_proofs.proofs.SoloLemmas.Registered.{barren-step}
use Rattle.saa_word_steps.specs.declared.place.Ask.{Ask}
use Rattle.saa_word_steps.specs.declared.call.Answer.{Answer}
use Rattle.saa_word_proofs.proofs.RefinementLemmas.Lists.{all-same, in-append}
use Rattle.saa_word_proofs.proofs.SoloLemmas.Ends.{Course}
use Rattle.saa_core_spec.specs.Polling.{given_back, dropped}
use Rattle.saa_word_steps.specs.declared.place.ReleaseAmount.TheVariants.{Requested}
use Rattle.saa_word_steps.specs.declared.call.Answer.TheVariants.{Bool as Says, Unit as SaysNothing}
use Rattle.saa_word_steps.specs.declared.event.Event.TheVariants.{Released, ReleasedNothing, AnswerTaken, Cancelled}
use Rattle.saa_word_proofs.specs.Calls.{release_named, IsCancelled, IsDropped}

-- Grants

-- what is held with what fits it
pub plus-at : (rules : Rules) (count request : ℕ) → fits_count (needs_of rules) count request ≡ true
    → plus ((needs_of rules).held count) ((needs_of rules).read request) ≡ (needs_of rules).held (count + (needs_of rules).takes request)
plus-at rules count request fit = grind (arith, nat_tests)

-- Lines with the requests themselves

pub waiters-append : (needs : Needs) (front rest : List (ℕ × ℕ)) → waiters needs (front ++ rest) ≡ waiters needs front ++ waiters needs rest
waiters-append needs [] rest = refl
waiters-append needs (asker ∷ front) rest = ap (λ (l : List Waiter). (asker.0, needs.read asker.1) ∷ l) (waiters-append needs front rest)

pub take-waiters : (needs : Needs) (front rest : List (ℕ × ℕ)) → take (length front) (waiters needs (front ++ rest)) ≡ waiters needs front
take-waiters needs [] rest = refl
take-waiters needs (asker ∷ front) rest = ap (λ (l : List Waiter). (asker.0, needs.read asker.1) ∷ l) (take-waiters needs front rest)

pub drop-waiters : (needs : Needs) (front rest : List (ℕ × ℕ)) → drop (length front) (waiters needs (front ++ rest)) ≡ waiters needs rest
drop-waiters needs [] rest = refl
drop-waiters needs (asker ∷ front) rest = drop-waiters needs front rest

-- Fronts

-- the front that fits, where the rest is settled behind it, is the greatest
pub front-fitting : (rules : Rules) (count : ℕ) (front rest : List (ℕ × ℕ)) → IsFront (needs_of rules) count front
    → IsSettledAt (needs_of rules) (count + takes_of (needs_of rules) front) rest
    → fitting_front ((needs_of rules).held count) (waiters (needs_of rules) (front ++ rest)) ≡ length front
front-fitting rules count [] [] fits settled = refl
front-fitting rules count [] (asker ∷ rest) fits settled =
    let needs : Needs = needs_of rules in
    grind (arith, settled, fitting_front-blocked (needs.held count) (asker.0, needs.read asker.1) (waiters needs rest))
front-fitting rules count (asker ∷ front) rest fits settled =
    let needs : Needs = needs_of rules in
    let first = fitting_front-fits (needs.held count) (asker.0, needs.read asker.1) (waiters needs (front ++ rest)) fits.0 in
    let others = front-fitting rules (count + needs.takes asker.1) front rest fits.1 in
    grind (arith, fits.0, settled, first, plus-at rules count asker.1 fits.0, others)

-- what is held with what a front takes
pub front-plus : (rules : Rules) (count : ℕ) (front : List (ℕ × ℕ)) → IsFront (needs_of rules) count front
    → plus_all ((needs_of rules).held count) (waiters (needs_of rules) front) ≡ (needs_of rules).held (count + takes_of (needs_of rules) front)
front-plus rules count [] fits = ap (needs_of rules).held (omega arith)
front-plus rules count (asker ∷ front) fits =
    grind (arith, fits, plus-at rules count asker.1, front-plus rules (count + (needs_of rules).takes asker.1) front)

-- Books

pub length-answered : (value : ℕ) (waiting : List Waiter) (book : List Entry) → length (answered_in value waiting book) ≡ length book
length-answered value [] book = refl
length-answered value (waiter ∷ waiting) book =
    length-answered value waiting (slice_set book waiter.0 (answered_entry value (entry_at book waiter.0)))
    ∙ length-set book waiter.0 (answered_entry value (entry_at book waiter.0))

-- an entry once a front is answered
pub entry-answered : (value : ℕ) (needs : Needs) (front : List (ℕ × ℕ)) (book : List Entry) (place : ℕ) → place < length book
    → entry_at (answered_in value (waiters needs front) book) place
    ≡ (if is_in place front then answered_entry value (entry_at book place) else entry_at book place)
entry-answered value needs [] book place within = refl
entry-answered value needs (asker ∷ front) book place within =
    let entry : Entry = answered_entry value (entry_at book asker.0) in
    let longer : place < length (slice_set book asker.0 entry) = rw (length-set book asker.0 entry) within in
    let rest = entry-answered value needs front (slice_set book asker.0 entry) place longer in
    grind (arith, nat_tests, within, rest, get_or-set_same book asker.0 entry Idle, get_or-set_other book asker.0 place entry Idle)

-- Places that wait, or are shown an answer

-- who is shown an answer joined the line
pub shown-slot : {places : ℕ} {standing : ℕ → Place} {state : AbstractState} → AreSeats places standing state → (place value : ℕ) → state.answered place ≡ Some value
    → is_slot (standing place).registration ≡ true
shown-slot {places} {standing} {state} seats place value answered = grind (arith, seats.held place, answered)

-- the entry of a place in the line waits
pub waiting-entry : (needs : Needs) (places me : ℕ) (standing : ℕ → Place) (state : AbstractState) (s : Object) → PlacesRepresent needs places standing state s
    → AreSeats places standing state → me < places → is_in me state.line ≡ true
    → (request : Request) × (mode : Bool) × (entry_at s.book me ≡ Waiting request mode)
waiting-entry needs places me standing state s m seats here there =
    let h = m.entries me here in
    let waits = waits-slot places me standing state seats there in
    let slot = slot-is (standing me).registration waits.0 in
    (needs.read slot.0, h.0, grind (arith, h.1, slot.1, waits.1))

-- What is known while a call has opened nothing: nothing is open and no answer due, no place is held twice, and nobody waits where every request
-- is refused
pub record StateIsQuiescent (state : AbstractState) : Type 0 where
  pub calm : IsCalm state
  pub once : (place : ℕ) → held_by place state ≤ 1
  pub barren : state.poisoned ≡ true → state.line ≡ []

module _ {state : AbstractState} (needs : Needs) (me : ℕ) (event : Event) (quiescent : StateIsQuiescent state) (allowed : IsEnabled needs state me event) where
  pub once-after : (place : ℕ) → held_by place (after_event needs state me event) ≤ 1
  once-after = run-once needs state ((me, event) ∷ []) (after_event needs state me event) (allowed, refl) quiescent.once

  pub barren-after : (after_event needs state me event).poisoned ≡ true → (after_event needs state me event).line ≡ []
  barren-after = barren-step needs state me event allowed quiescent.barren

-- what the places are registered as, once one of them is registered so
abbrev pub with_registration : (ℕ → Place) → ℕ → Registration → ℕ → Registration
with_registration standing me registration = updated (λ place. (standing place).registration) me registration

module _ {rules : Rules} {places me : ℕ} {now : Configuration} {s : Object} (b : Begins rules places me now s) where
  pub quiescent : StateIsQuiescent b.state
  quiescent =
      let rest : WordsAreQuiescent (needs_of rules) now.row b.state = at-rest (needs_of rules) places now.row now.standing b.state b.invariant b.quiet in
      record {
        calm = (rest.closed, rest.paid);
        once = λ place. omega (arith, b.invariant.seats.held place, one_if-le (is_slot (now.standing place).registration));
        barren = λ poisoned. (b.invariant.main.barren poisoned).1;
      }

  -- the entry of its place, by what that is registered as and shown
  pub entry-is : (registration : Registration) (answered : Option ℕ) → (now.standing me).registration ≡ registration → b.state.answered me ≡ answered
      → (is_sync : Bool) × (entry_at s.book me ≡ entry_of (needs_of rules) registration answered is_sync)
  entry-is registration answered is says =
      let h = b.mirrors.entries me b.here in
      (h.0, h.1 ∙ (λ i. entry_of (needs_of rules) (is i) (says i) h.0))

  -- what the object holds, and its line, change, and no entry does
  pub same-entries : (after : AbstractState) (held : Held) (line : List Waiter) → held ≡ held_at (needs_of rules) after → line ≡ waiters (needs_of rules) after.line
      → after.answered ≡ b.state.answered
      → Represents (needs_of rules) places (with_registration now.standing me (now.standing me).registration) after (record s { held = held; line = line })
  same-entries after held line holds waits answered =
      record {
        held = holds;
        line = waits;
        names = b.mirrors.names;
        entries = λ other within.
            let h = b.mirrors.entries other within in
            (h.0, grind (arith, nat_tests, h.1, ap (λ (f : ℕ → Option ℕ). f other) answered));
        room = b.mirrors.room;
        alone = b.mirrors.alone;
      }

  -- nothing changes
  pub same : Represents (needs_of rules) places (with_registration now.standing me (now.standing me).registration) b.state s
  same = same-entries b.state s.held s.line b.mirrors.held b.mirrors.line refl

  -- its place is registered anew
  pub new-entry : (after : AbstractState) (held : Held) (line : List Waiter) (entry : Entry) (registration : Registration) (is_sync : Bool)
      → held ≡ held_at (needs_of rules) after → line ≡ waiters (needs_of rules) after.line → ((other : ℕ) → (other ≡ me → ⊥) → after.answered other ≡ b.state.answered other)
      → entry ≡ entry_of (needs_of rules) registration (after.answered me) is_sync
      → Represents (needs_of rules) places (with_registration now.standing me registration) after
      (record s { held = held; line = line; book = slice_set s.book me entry })
  new-entry after held line entry registration is_sync holds waits answered is = record {
    held = holds;
    line = waits;
    names = length-set s.book me entry ∙ b.mirrors.names;
    entries = λ other within.
        let h = b.mirrors.entries other within in
        let mine = get_or-set_same s.book me entry Idle (rw b.mirrors.names b.here) in (
          if other == me then is_sync else h.0,
          grind (arith, nat_tests, is, h.1, answered other, mine, get_or-set_other s.book me other entry Idle),
        );
    room = b.mirrors.room;
    alone = b.mirrors.alone;
  }

  -- it is idle, and nothing else changes but what it is shown
  pub idle-entry : (answered : ℕ → Option ℕ) → ((other : ℕ) → (other ≡ me → ⊥) → answered other ≡ b.state.answered other)
      → Represents (needs_of rules) places (with_registration now.standing me IsIdle) (record b.state { answered = answered }) (with_entry s me Idle)
  idle-entry answered others = new-entry (record b.state { answered = answered }) s.held s.line Idle IsIdle false b.mirrors.held b.mirrors.line others refl

-- Settling

-- the entries of a front are answered and shown, and no others
pub answered-entries : (value : ℕ) (needs : Needs) (places : ℕ) (registered : ℕ → Registration) (state : AbstractState) (s : Object) (front rest : List (ℕ × ℕ))
    (answered : ℕ → Option ℕ) → Represents needs places registered state s → ((place : ℕ) → held_by place state ≤ 1) → state.line ≡ front ++ rest
    → ((place : ℕ) → answered place ≡ answered_with value front state.answered place) → ((place value : ℕ) → answered place ≡ Some value → is_slot (registered place) ≡ true)
    → (place : ℕ) → place < places
    → (is_sync : Bool) × (entry_at (answered_in value (waiters needs front) s.book) place ≡ entry_of needs (registered place) (answered place) is_sync)
answered-entries value needs places registered state s front rest answered m once parts says slots place within =
    let h = m.entries place within in
    let entry = entry-answered value needs front s.book place (rw m.names within) in
    let there : is_in place state.line ≡ (is_in place front || is_in place rest) = ap (is_in place) parts ∙ in-append place front rest in
    let unshown : is_in place state.line ≡ true → state.answered place ≡ None =
    λ there. grind (arith, once place, waits-some place state.line there) in
    (h.0, grind (arith, h.1, entry, there, says place, slots place value, unshown))

-- settling is granting a front and showing it
pub settling : (rules : Rules) (places : ℕ) (registered : ℕ → Registration) (start last : AbstractState) (s : Object)
    → Represents (needs_of rules) places registered start s → ((place : ℕ) → held_by place start ≤ 1) → (start.poisoned ≡ true → start.line ≡ [])
    → ((place value : ℕ) → last.answered place ≡ Some value → is_slot (registered place) ≡ true) → Settles (needs_of rules) start last
    → Represents (needs_of rules) places registered last (settled s)
unfolding settled
settling rules places registered start last s m once barren slots g =
    let needs : Needs = needs_of rules in
    let front = front-fitting rules start.count g.front last.line g.fits in
    let sum = front-plus rules start.count g.front g.fits in
    -- the front that is granted is the greatest that fits, and adds up to what is held then
    let fits : (fitting_front s.held (waiters needs (g.front ++ last.line)) ≡ length g.front) × (plus_all s.held (waiters needs g.front) ≡ held_at needs last) =
    grind (arith, m.held, barren, parts-none g.front last.line, g.parts, g.count, g.same, g.settled, front, sum) in
    let line : s.line ≡ waiters needs (g.front ++ last.line) = m.line ∙ ap (waiters needs) g.parts in
    let greatest : fitting_front s.held s.line ≡ length g.front = ap (fitting_front s.held) line ∙ fits.0 in
    let first : take (fitting_front s.held s.line) s.line ≡ waiters needs g.front = (λ i. take (greatest i) (line i)) ∙ take-waiters needs g.front last.line in
    record {
      held = ap (plus_all s.held) first ∙ fits.1;
      line = (λ i. drop (greatest i) (line i)) ∙ drop-waiters needs g.front last.line;
      names = length-answered 0 (take (fitting_front s.held s.line) s.line) s.book ∙ m.names;
      entries = rw first (answered-entries 0 needs places registered start s g.front last.line last.answered m once g.parts g.answered slots);
      room = m.room;
      alone = m.alone;
    }

-- The end of a call

pub registered-at : (standing : ℕ → Place) (me : ℕ) (place : Place)
    → with_registration standing me place.registration ≡ (λ other. (updated standing me place other).registration)
registered-at standing me place =
    all-same (with_registration standing me place.registration) (λ other. (updated standing me place other).registration) (λ other. grind arith)

module _ {rules : Rules} {places me : ℕ} {now : Configuration} {s : Object} (b : Begins rules places me now s) {asks : Option Ask} {was : Registration}
    {last : Configuration} (c : Course (needs_of rules) places me asks was b.state now.standing last) (over : PlacesAreQuiescent last.standing) where
  -- the sequential object as a call of it has left it represents the end, and it has answered so
  abbrev pub Ended : {A : Type 0} → After A → A → Type 0
  Ended after reply = PlacesRepresent (needs_of rules) places last.standing c.state after.state × (after.reply ≡ reply)

  pub leads : {names : List Event} → c.names ≡ names → NamedRun (needs_of rules) me b.state c.state names
  leads is = record { events = c.far.events; run = c.far.run; named = c.far.named ∙ is }

  pub left-as : {names : List Event} → c.names ≡ names → (last.standing me).registration ≡ registration_after names asks was
  left-as is = c.left ∙ ap (λ (l : List Event). registration_after l asks was) is

  pub at-end : {registration : Registration} (state : AbstractState) (o : Object) → (last.standing me).registration ≡ registration
      → Represents (needs_of rules) places (with_registration now.standing me registration) state o → PlacesRepresent (needs_of rules) places last.standing state o
  at-end state o left represents =
      subst (λ (f : ℕ → Registration). Represents (needs_of rules) places f state o)
      ((λ i. with_registration now.standing me (sym left i)) ∙ registered-at now.standing me (last.standing me)
      ∙ (λ i place. (sym c.others i place).registration)) represents

  -- what an event leaves is represented, and was answered so
  abbrev pub EndsSo : {A : Type 0} → After A → A → (Object → Object) → Registration → AbstractState → Event → Type 0
  EndsSo after reply rests registration from event =
      IsEnabled (needs_of rules) from me event → (o : Object) × (after ≡ record { state = rests o; reply = reply })
      × Represents (needs_of rules) places (with_registration now.standing me registration) (after_event (needs_of rules) from me event) o

  -- behind an event that opens nothing nothing else happens
  pub only : {A : Type 0} (after : After A) (reply : A) (registration : Registration) → (last.standing me).registration ≡ registration
      → (from : AbstractState) (event : Event) → IsCalm from → NamedRun (needs_of rules) me from c.state (event ∷ [])
      → IsCalm (after_event (needs_of rules) from me event) → EndsSo after reply (λ o. o) registration from event → Ended after reply
  only after reply registration left from event before leads calm ends =
      let first = first-event before leads in
      let end = ends first.0 in (
        subst (λ (z : AbstractState). PlacesRepresent (needs_of rules) places last.standing z after.state) (no-events calm first.1)
            (at-end (after_event (needs_of rules) from me event) after.state left (rw end.1 end.2)),
        ap (λ a. a.reply) end.1,
      )

  -- that comes first
  pub one-event : {A : Type 0} (after : After A) (reply : A) (event : Event) → c.names ≡ event ∷ [] → IsCalm (after_event (needs_of rules) b.state me event)
      → EndsSo after reply (λ o. o) (registration_after_event event asks was) b.state event → Ended after reply
  one-event after reply event is = only after reply (registration_after_event event asks was) (left-as is) b.state event (quiescent b).calm (leads is)

  -- behind one that opens the line, that is settled
  pub opening-event : {A : Type 0} (after : After A) (reply : A) (registration : Registration) → (last.standing me).registration ≡ registration
      → (from : AbstractState) (event : Event) → StateIsQuiescent from → NamedRun (needs_of rules) me from c.state (event ∷ [])
      → ((place : ℕ) → (after_event (needs_of rules) from me event).granted place ≡ None) → EndsSo after reply settled registration from event → Ended after reply
  opening-event after reply registration left from event quiescent leads paid ends =
      let first = first-event quiescent.calm leads in
      let middle : AbstractState = after_event (needs_of rules) from me event in
      let end = ends first.0 in
      let rest = at-rest (needs_of rules) places last.row last.standing c.state c.invariant over in (
        rw end.1 (settling rules places (λ place. (last.standing place).registration) middle c.state end.0 (at-end middle end.0 left end.2)
            (once-after (needs_of rules) me event quiescent first.0) (barren-after (needs_of rules) me event quiescent first.0)
            (shown-slot c.invariant.seats) (settles last.row first.1 paid rest)),
        ap (λ a. a.reply) end.1,
      )

-- what a call answers that says yes or no
abbrev pub bool_answer : After Bool → After Answer
bool_answer after = record { state = after.state; reply = Says after.reply }

module _ {rules : Rules} {places me : ℕ} {now : Configuration} {s : Object} (b : Begins rules places me now s) (given : ℕ)
    (some : (needs_of rules).takes given == 0 ≡ false) {asks : Option Ask} {last : Configuration}
    (c : Course (needs_of rules) places me asks (now.standing me).registration b.state now.standing last) (over : PlacesAreQuiescent last.standing) where
  pub end-release : (answer : Answer) (event : Event) → c.names ≡ event ∷ [] → release_named (Requested given) event ≡ Some answer
      → Ended b c over (bool_answer (given_back s ((needs_of rules).read given))) answer
  end-release answer (Released request) names says =
      let needs : Needs = needs_of rules in
      opening-event b c over (bool_answer (given_back s (needs.read given))) answer (now.standing me).registration (left-as b c over names) b.state
      (Released request) (quiescent b) (leads b c over names) (quiescent b).calm.1
      (λ allowed. (
        record s { held = held_where needs b.state.poisoned allowed.1.0 },
        grind (arith, nat_tests, says, some, allowed, b.mirrors.held, b.invariant.main.bounded),
        same-entries b (after_event needs b.state me (Released request)) (held_where needs b.state.poisoned allowed.1.0) s.line
            (grind (arith, allowed)) b.mirrors.line refl,
      ))
  end-release answer (ReleasedNothing request) names says =
      one-event b c over (bool_answer (given_back s ((needs_of rules).read given))) answer (ReleasedNothing request) names (quiescent b).calm
      (λ allowed. (s, grind (arith, nat_tests, says, some, allowed, b.mirrors.held, b.invariant.main.bounded), same b))
  end-release answer _ names says = absurd (cc)

-- what a cancel answers
abbrev pub dropped_by : Object → After Answer
dropped_by left = record { state = left; reply = SaysNothing }

without-waiters : (needs : Needs) (me : ℕ) (line : List (ℕ × ℕ)) → without me (waiters needs line) ≡ waiters needs (without me line)
without-waiters needs me [] = refl
without-waiters needs me (asker ∷ rest) = grind (arith, without-waiters needs me rest)

module _ {rules : Rules} {places me : ℕ} {now : Configuration} {s : Object} (b : Begins rules places me now s) {asks : Option Ask} {was : Registration}
    {last : Configuration} (c : Course (needs_of rules) places me asks was b.state now.standing last) (over : PlacesAreQuiescent last.standing) where
  -- what it was granted took something, and is given back where it is still held; it may have taken its answer before
  gives-up : (request : ℕ) (mode slotted : Bool) → entry_at s.book me ≡ Answered 0 ((needs_of rules).read request) mode slotted
      → (needs_of rules).takes request == 0 ≡ false → (answered : ℕ → Option ℕ) → ((other : ℕ) → (other ≡ me → ⊥) → answered other ≡ b.state.answered other)
      → StateIsQuiescent (record b.state { answered = answered }) → (rest : List Event) → NamedRun (needs_of rules) me (record b.state { answered = answered }) c.state rest
      → (last.standing me).registration ≡ registration_after rest asks IsIdle → IsDropped request rest
      → Ended b c over (dropped_by (dropped s me)) SaysNothing
  gives-up request mode slotted entry some answered others quiescent rest leads left dropped_so =
      let needs : Needs = needs_of rules in
      let freed : Object = with_entry s me Idle in
      let from : AbstractState = record b.state { answered = answered } in
      elim dropped_so [
        | inl gave ↦
            opening-event b c over (dropped_by (dropped s me)) SaysNothing IsIdle (rw gave at left) from (Released request) quiescent
            (rw gave at leads) quiescent.calm.1
            (λ allowed.
            let held : Held = held_where needs b.state.poisoned allowed.1.0 in (
              record freed { held = held },
              grind (arith, nat_tests, entry, some, allowed, b.mirrors.held, b.invariant.main.bounded),
              new-entry b (after_event needs from me (Released request)) held s.line Idle IsIdle false (grind (arith, allowed)) b.mirrors.line
                  others refl,
            ))
        | inr nothing ↦
            only b c over (dropped_by (dropped s me)) SaysNothing IsIdle (rw nothing at left) from (ReleasedNothing request) quiescent.calm
            (rw nothing at leads) quiescent.calm
            (λ allowed. (freed, grind (arith, nat_tests, entry, some, allowed, b.mirrors.held, b.invariant.main.bounded), idle-entry b answered others))
      ]

  -- a cancel of an answer that was given at once, which took something: its place is idle from its start on
  pub end-cancel-once : (value request : ℕ) → was ≡ IsIdle → (now.standing me).registration ≡ AnsweredAtOnce value request
      → IsCancelled (needs_of rules) (AnsweredAtOnce value request) c.names → Ended b c over (dropped_by (dropped s me)) SaysNothing
  end-cancel-once value request idle once cancelled =
      let entry = entry-is b (AnsweredAtOnce value request) (b.state.answered me) once refl in
      gives-up request entry.0 false (grind (arith, nat_tests, entry.1, cancelled.0)) (grind (arith, cancelled.0)) b.state.answered (λ other apart. refl) (quiescent b)
      c.names (leads b c over refl) (c.left ∙ ap (registration_after c.names asks) idle) cancelled.1

  -- a cancel of a place that joined the line: it leaves the line, or takes its answer
  pub end-cancel-slot : (request : ℕ) → (now.standing me).registration ≡ Queued request → IsCancelled (needs_of rules) (Queued request) c.names
      → Ended b c over (dropped_by (dropped s me)) SaysNothing
  end-cancel-slot request slot (inl gone) =
      opening-event b c over (dropped_by (dropped s me)) SaysNothing IsIdle (left-as b c over gone) b.state Cancelled
      (quiescent b) (leads b c over gone) (quiescent b).calm.1
      (λ there. (
        record (with_entry s me Idle) { line = without me s.line },
        grind (arith, (waiting-entry (needs_of rules) places me now.standing b.state s b.mirrors b.invariant.seats b.here there).2, b.mirrors.held),
        new-entry b (after_event (needs_of rules) b.state me Cancelled) s.held (without me s.line) Idle IsIdle false b.mirrors.held
            (ap (without me) b.mirrors.line ∙ without-waiters (needs_of rules) me b.state.line) (λ other apart. refl) refl,
      ))
  end-cancel-slot request slot (inr (inl took)) =
      one-event b c over (dropped_by (dropped s me)) SaysNothing (AnswerTaken took.0) took.1 (quiescent b).calm
      (λ answered. (
        with_entry s me Idle,
        grind (arith, (entry-is b (Queued request) (Some took.0) slot answered).1, took.2, b.mirrors.held),
        idle-entry b (with_answer me None b.state.answered) (λ other apart. grind (arith, nat_tests, apart)),
      ))
  end-cancel-slot request slot (inr (inr gave)) =
      let first = first-event (quiescent b).calm (leads b c over gave.1.1) in
      let entry = entry-is b (Queued request) (Some 0) slot first.0 in
      gives-up request entry.0 true entry.1 (grind (arith, nat_tests, gave.0)) (with_answer me None b.state.answered) (λ other apart. grind (arith, nat_tests, apart))
      (record {
        calm = (quiescent b).calm;
        once = once-after (needs_of rules) me (AnswerTaken 0) (quiescent b) first.0;
        barren = barren-after (needs_of rules) me (AnswerTaken 0) (quiescent b) first.0;
      }) gave.1.0 first.1 (left-as b c over gave.1.1) gave.1.2
