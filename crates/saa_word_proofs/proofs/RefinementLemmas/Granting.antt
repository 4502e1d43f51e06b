-- The waiters of a front are granted: they leave the line, and the place that granted them has their answers to show.
use Rattle.std.proofs.Common.{◌≡◌, ℕ, ◌+◌, ◌<◌, ◌≤◌, Bool, true, false, List, [], ◌∷◌, ◌++◌, length, drop, ◌==◌, refl, sym, ap, subst, ◌∙◌, arith, inl, inr, ◌^◌}
use Rattle.std.proofs.lemmas.Bool.{cases_Bool}
use Rattle.std.proofs.lemmas.Bool.Decides.{nat_tests}
use Rattle.std.proofs.Math.ListN.{length-append}
use Rattle.saa_core_spec.specs.Object.{times}
use Rattle.saa_core_spec.proofs.Counts.{one_if-le, number_same, number_other, times-append}
use Rattle.saa_core_words.specs.declared.line_word.LineWord.{LineWord}
use Rattle.saa_core_words.specs.Words.{count_bits, word_number}
use Rattle.saa_word_steps.specs.declared.place.Place.{Place}
use Rattle.saa_word_steps.specs.declared.place.Stage.{Stage}
use Rattle.saa_word_steps.specs.Needs.{Needs, AreNeeds}
use Rattle.saa_word_steps.specs.declared.event.Event.{Event}
use Rattle.saa_word_steps.specs.declared.event.Event.TheVariants.{Granted, Closed}
use Rattle.saa_word_steps.specs.AbstractState.{AbstractState, after_event, IsRun, IsFront, IsSettledAt, is_empty, is_in, takes_of, answered_with, granted_by, held_by}
use Rattle.saa_word_steps.specs.Steps.{IsRanged, settled_word, word_at, operation_of, next_of}
use Rattle.saa_word_proofs.specs.Refinement.{joins_line, newest, is_holder, gives_up, IsLocallyTrue, IsOwn, IsShowing, IsHolding, IsMain, IsLine, AreSeats, AreGrants, Invariant}
use Rattle.saa_word_proofs.specs.Rows.{IsBehind, line_of, updated}
use Rattle.saa_word_proofs.specs.Registering.{is_slot}
use Rattle.saa_word_proofs.specs.History.{named, of_place}
use Rattle.saa_word_proofs.proofs.RefinementLemmas.Lists.{neither, each-updated, in-append, newest-append, newest-any, take-front, drop-front}
use Rattle.saa_word_proofs.proofs.RefinementLemmas.Frames.{stages-next}
use Rattle.saa_word_proofs.proofs.RefinementLemmas.Holders.{main-now, never-barren}
use Rattle.saa_word_proofs.specs.StepRefinement.{StepRefines, named_at, place_after, row_after}
use Rattle.saa_word_proofs.proofs.RefinementLemmas.Rows.{line-main, seats-next, answers-kept}

-- The object once a place has this answer for those of a front to show, with the rest of the line
abbrev pub answering : AbstractState → ℕ → ℕ → ℕ → List (ℕ × ℕ) → List (ℕ × ℕ) → Bool → Bool → AbstractState
answering state me value count front rest poisoned unclosed = record state {
  count = count;
  poisoned = poisoned;
  line = rest;
  unclosed = unclosed;
  granted = answered_with value front state.granted;
  granter = granted_by me front state.granter;
}

-- and once it granted them
abbrev pub granted : Needs → AbstractState → ℕ → List (ℕ × ℕ) → List (ℕ × ℕ) → Bool → AbstractState
granted needs state me front rest unclosed = answering state me 0 (state.count + takes_of needs front) front rest state.poisoned unclosed

-- The events of a grant: an answer names none of them
pub record IsGrant (needs : Needs) (state : AbstractState) (me : ℕ) (last : AbstractState) : Type 0 where
  pub events : List Event
  pub run : IsRun needs state (of_place me events) last
  pub names : named events ≡ []

-- a step whose events are those of a grant
pub by-grant : {needs : Needs} {places : ℕ} {row : ℕ → ℕ} {standing : ℕ → Place} {state last : AbstractState} {me : ℕ} {stage : Stage}
    → IsGrant needs state me last → [] ≡ named_at needs stage (row (word_at (operation_of needs places me stage)))
    → word_at (operation_of needs places me stage) < places + places + 1
    → Invariant needs places (row_after row (operation_of needs places me stage))
    (updated standing me (place_after (standing me) (next_of needs me (standing me) stage (row (word_at (operation_of needs places me stage)))))) last
    → StepRefines needs places row standing state me stage
by-grant {last = last} grant names inside invariant =
    record { events = grant.events; last = last; run = grant.run; names = grant.names ∙ names; inside = inside; invariant = invariant }

-- Lines

-- the newest of a line is that of its rest, where somebody stands in that
pub newest-rest : (older : ℕ) (front rest : List (ℕ × ℕ)) → is_empty rest ≡ false → newest older (front ++ rest) ≡ newest 0 rest
newest-rest older front rest some = newest-append older front rest ∙ newest-any (newest older front) 0 rest some

-- a line is settled by those of it that stand first
pub settled-append : (needs : Needs) (count : ℕ) (front behind : List (ℕ × ℕ)) → is_empty front ≡ false → IsSettledAt needs count front
    → IsSettledAt needs count (front ++ behind)
settled-append needs count front behind some settled = grind (arith, some, settled)

-- nobody fits in a settled line
pub settled-front : (needs : Needs) (count : ℕ) (line front rest : List (ℕ × ℕ)) → line ≡ front ++ rest → IsFront needs count front
    → IsSettledAt needs count line → front ≡ []
settled-front needs count line [] rest parts fits settled = refl
settled-front needs count line (asker ∷ more) rest parts fits settled = grind (arith, parts, fits.0, settled)

-- a front that fits stays within the greatest count
pub front-bounded : (needs : Needs) → AreNeeds needs → (count : ℕ) (front : List (ℕ × ℕ)) → IsFront needs count front → count ≤ needs.top
    → count + takes_of needs front ≤ needs.top
front-bounded needs lawful count [] fits small = omega (arith, small)
front-bounded needs lawful count (asker ∷ rest) fits small =
    omega (arith, front-bounded needs lawful (count + needs.takes asker.1) rest fits.1 (lawful.bounded count asker.1 fits.0))

-- a place that is seen in a line waits there
pub in-waits : (place : ℕ) (line : List (ℕ × ℕ)) → is_in place line ≡ true → 0 < times place line
in-waits place [] some = absurd (cc)
in-waits place (asker ∷ rest) some = grind (arith, some, in-waits place rest)

pub in-no : (place : ℕ) (line : List (ℕ × ℕ)) → is_in place line ≡ false → times place line ≡ 0
in-no place [] none = refl
in-no place (asker ∷ rest) none = grind (arith, none, in-no place rest)

-- how often a place stands in a line, by its parts
pub times-parts : (place : ℕ) (line front rest : List (ℕ × ℕ)) → line ≡ front ++ rest
    → times place line ≡ times place front + times place rest
times-parts place line front rest parts = ap (λ (l : List (ℕ × ℕ)). times place l) parts ∙ times-append place front rest

-- a line behind the granted waiters is linked, and so are they
pub parts-linked : (words : ℕ → LineWord) (line cut uncut front rest : List (ℕ × ℕ)) → IsLine words line cut uncut → cut ≡ front
    → line ≡ front ++ rest → IsBehind words 0 front × IsBehind words 0 rest
parts-linked words line cut uncut front rest was same parts =
    let whole : front ++ uncut ≡ front ++ rest = ap (λ (l : List (ℕ × ℕ)). l ++ uncut) (sym same) ∙ sym was.parts ∙ parts in
    let left : uncut ≡ rest = sym (drop-front front uncut) ∙ ap (λ (l : List (ℕ × ℕ)). drop (length front) l) whole ∙ drop-front front rest in
    (subst (λ (l : List (ℕ × ℕ)). IsBehind words 0 l) same was.granted, subst (λ (l : List (ℕ × ℕ)). IsBehind words 0 l) left was.stays)

-- Runs

-- the event of a grant, before the line is closed
after-granted : (needs : Needs) (state : AbstractState) (me : ℕ) (front rest : List (ℕ × ℕ)) → state.line ≡ front ++ rest
    → after_event needs state me (Granted (length front)) ≡ granted needs state me front rest state.unclosed
after-granted needs state me front rest parts = rw (parts, take-front front rest, drop-front front rest) refl

granted-none : (needs : Needs) (state : AbstractState) (me : ℕ) (rest : List (ℕ × ℕ)) → state.line ≡ rest → granted needs state me [] rest state.unclosed ≡ state
granted-none needs state me rest parts = let none : state.count + 0 ≡ state.count = omega arith in rw (none, ← parts) refl

-- Where a front is granted, and more happens then
grant-run : (needs : Needs) (state : AbstractState) (me : ℕ) (front rest : List (ℕ × ℕ)) (more : List Event) (last : AbstractState) → state.line ≡ front ++ rest
    → IsFront needs state.count front → (state.unclosed ≡ false → IsSettledAt needs state.count state.line) → named more ≡ []
    → IsRun needs (granted needs state me front rest state.unclosed) (of_place me more) last → IsGrant needs state me last
grant-run needs state me [] rest more last parts fits settled names run =
    record { events = more; run = rw (granted-none needs state me rest parts) at run; names = names }
grant-run needs state me (asker ∷ front) rest more last parts fits settled names run =
    elim (cases_Bool state.unclosed) [
      | inl opened ↦
          let first = subst (λ (l : List (ℕ × ℕ)). IsFront needs state.count l) (sym (take-front (asker ∷ front) rest)) fits in
          let within = ap (λ (l : List (ℕ × ℕ)). length l) parts ∙ length-append (asker ∷ front) rest in
          record {
            events = Granted (length (asker ∷ front)) ∷ more;
            run = (
              (opened, omega arith, omega (arith, within), rw parts first),
              rw (← after-granted needs state me (asker ∷ front) rest parts) at run,
            );
            names = names;
          }
      | inr closed ↦ let none = settled-front needs state.count state.line (asker ∷ front) rest parts fits (settled closed) in absurd (cc)
    ]

-- Where it is granted and the line stays open
pub round-run : (needs : Needs) (state : AbstractState) (me : ℕ) (front rest : List (ℕ × ℕ)) → state.line ≡ front ++ rest → IsFront needs state.count front
    → (state.unclosed ≡ false → IsSettledAt needs state.count state.line) → IsGrant needs state me (granted needs state me front rest state.unclosed)
round-run needs state me front rest parts fits settled = grant-run needs state me front rest [] _ parts fits settled refl refl

-- Where it is granted and the line is closed, or wasn't open
pub close-run : (needs : Needs) (state : AbstractState) (me : ℕ) (front rest : List (ℕ × ℕ)) → state.line ≡ front ++ rest → IsFront needs state.count front
    → IsSettledAt needs (state.count + takes_of needs front) rest
    → (state.unclosed ≡ false → IsSettledAt needs state.count state.line) → IsGrant needs state me (granted needs state me front rest false)
close-run needs state me front rest parts fits closes settled =
    elim (cases_Bool state.unclosed) [
      | inl opened ↦ grant-run needs state me front rest (Closed ∷ []) _ parts fits settled refl ((opened, closes), refl)
      | inr closed ↦ grant-run needs state me front rest [] _ parts fits settled refl (rw closed refl)
    ]

-- Seats and grants

-- nobody is held twice
pub held-once : (places : ℕ) (standing : ℕ → Place) (state : AbstractState) → AreSeats places standing state → (place : ℕ) → held_by place state ≤ 1
held-once places standing state seats place = omega (arith, seats.held place, one_if-le (is_slot (standing place).registration))

-- such an answer changes how a place is held, and not whether it is
held-granted : (state : AbstractState) (me value count : ℕ) (front rest : List (ℕ × ℕ)) (poisoned unclosed : Bool) (place : ℕ)
    → state.line ≡ front ++ rest → held_by place state ≤ 1 → held_by place (answering state me value count front rest poisoned unclosed) ≡ held_by place state
held-granted state me value count front rest poisoned unclosed place parts once =
    grind (arith, once, times-parts place state.line front rest parts, in-waits place front, in-no place front)

grants-granted : (words : ℕ → LineWord) (state : AbstractState) (unshown : ℕ → List (ℕ × ℕ)) (answer_value : ℕ → ℕ) (me value : ℕ) (front rest : List (ℕ × ℕ))
    → AreGrants words state.granted state.granter unshown answer_value → value < 256 → state.line ≡ front ++ rest → ((place : ℕ) → held_by place state ≤ 1) → unshown me ≡ [] → IsBehind words 0 front
    → AreGrants words (answered_with value front state.granted) (granted_by me front state.granter) (updated unshown me front) (updated answer_value me value)
grants-granted words state unshown answer_value me value front rest was fits parts once none linked = record {
  granted_to = λ place other there.
      grind (arith, nat_tests, there, was.granted_to place other, once other, times-parts other state.line front rest parts, in-waits other front);
  unshown_by = λ other granted. grind (arith, nat_tests, granted, number_same me, ap (is_in other) none, was.unshown_by other);
  once = λ place other. grind (arith, nat_tests, was.once place other, once other, times-parts other state.line front rest parts);
  links = each-updated (λ (n : ℕ) (l : List (ℕ × ℕ)). IsBehind words 0 l) unshown me front linked (λ other apart. was.links other);
  small = each-updated (λ (n value : ℕ). value < 256) answer_value me value fits (λ other apart. was.small other);
}

-- The whole

-- the link 0 is that of no place
pub nobody : (place : ℕ) → (0 == place + 1) ≡ false
nobody place = number_other 0 (place + 1) (λ is. absurd (omega (arith, is)))

-- where nobody holds the flag any more, nobody else did
pub holder-none : (holder me other : ℕ) → holder ≡ me + 1 → (other ≡ me → ⊥) → (holder == other + 1) ≡ (0 == other + 1)
holder-none holder me other mine apart = number_other holder (other + 1) (λ is. apart (omega (arith, mine, is))) ∙ sym (nobody other)

-- The main word of a line that is settled says what the object is once the line is closed
pub settled-main : (needs : Needs) → AreNeeds needs → (state : AbstractState) (me : ℕ) (front rest : List (ℕ × ℕ)) (count tail : ℕ) → state.poisoned ≡ false
    → count < 2 ^ count_bits → tail < 65536 → IsFront needs state.count front → state.count ≤ needs.top → count ≡ state.count + takes_of needs front
    → tail ≡ newest 0 rest → IsSettledAt needs count rest
    → IsMain needs (word_number count_bits (settled_word count tail)) (granted needs state me front rest false) 0
settled-main needs lawful state me front rest count tail calm small room fits bounded adds is settled =
    main-now needs (granted needs state me front rest false) 0 (settled_word count tail) small room adds is refl (sym calm)
    (never-barren needs (granted needs state me front rest false) calm) (front-bounded needs lawful state.count front fits bounded) (λ unheld. refl)
    (λ closed. rw (← adds) settled)

-- a place that is in no line is in no part of it
pub out-of-rest : (place : ℕ) (front rest line : List (ℕ × ℕ)) → line ≡ front ++ rest → is_in place line ≡ false → is_in place rest ≡ false
out-of-rest place front rest line parts out =
    (neither (is_in place front) (is_in place rest) (sym (ap (is_in place) parts ∙ in-append place front rest) ∙ out)).1

-- A place answers those of a front by a write to the main word, where nobody else holds the flag, and goes on at a stage
pub granting : (needs : Needs) (places : ℕ) (row : ℕ → ℕ) (standing : ℕ → Place) (state : AbstractState) (me : ℕ) (s : Invariant needs places row standing state)
    (number value count : ℕ) (front rest : List (ℕ × ℕ)) (next : ℕ) (poisoned unclosed : Bool)
    → value < 256 → ((other : ℕ) → s.holder ≡ other + 1 → other ≡ me) → s.unshown me ≡ []
    → state.line ≡ front ++ rest → IsBehind (line_of row) 0 front → IsBehind (line_of row) 0 rest
    → IsMain needs number (answering state me value count front rest poisoned unclosed) next
    → ((other : ℕ) → (other ≡ me → ⊥) → (s.holder == other + 1) ≡ (next == other + 1))
    → (stage : Stage) → (places ≤ me → joins_line stage ≡ false) → IsRanged needs stage → IsLocallyTrue needs (standing me).registration (standing me).back stage
    → (gives_up (standing me).back stage ≡ true → is_in me state.line ≡ false) → IsOwn (line_of row me) stage → IsShowing front value stage
    → is_holder stage ≡ (next == me + 1) → (next ≡ me + 1 → IsHolding needs (line_of row) me count rest [] stage)
    → Invariant needs places (updated row 0 number) (updated standing me (record (standing me) { stage = stage }))
    (answering state me value count front rest poisoned unclosed)
granting needs places row standing state me s number value count front rest next poisoned unclosed fits only none parts linked stays main others stage free ranged
    alone apart own showing holder holding =
    let once = held-once places standing state s.seats in
    let place : Place = record (standing me) { stage = stage } in
    let grants = grants-granted (line_of row) state s.unshown s.answer_value me value front rest s.grants fits parts once none linked in
    let stages = stages-next needs (line_of row) (line_of row) standing state.count count state.line rest s.cut []
    s.holder next s.unshown (updated s.unshown me front) s.answer_value (updated s.answer_value me value) me place s.stages
    ranged alone (λ gives. out-of-rest me front rest state.line parts (apart gives)) own (rw (number_same me) showing) holder holding
    (λ other differs. out-of-rest other front rest state.line parts) (λ other differs. s.stages.own other)
    (λ other differs. rw (number_other other me differs) refl) (λ other differs. rw (number_other other me differs) refl)
    others (λ other differs is. absurd (differs (only other is))) in
    record {
      holder = next;
      cut = [];
      uncut = rest;
      unshown = updated s.unshown me front;
      answer_value = updated s.answer_value me value;
      free = λ unheld. refl;
      main = main;
      line = record { parts = refl; granted = tt; stays = rw (line-main row number) stays; some = λ gone. refl };
      seats = seats-next places standing state (answering state me value count front rest poisoned unclosed) me place s.seats free refl
          (λ other. held-granted state me value count front rest poisoned unclosed other parts (once other));
      answers = answers-kept places row 0 number state.answered (omega arith) s.answers;
      grants = rw (line-main row number) grants;
      stages = rw (line-main row number) stages;
    }
