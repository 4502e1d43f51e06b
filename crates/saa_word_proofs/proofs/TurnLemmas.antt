-- Each event of those who take turns at the whole keeps that a turn is taken, or one is granted, exactly where the whole is held.
use Rattle.std.proofs.Common.{◌≡◌, ℕ, ◌+◌, ◌<◌, ◌⊎◌, ◌==◌, ◌||◌, ◌&&◌, Bool, true, false, if◌then◌else◌, List, [], ◌∷◌, ◌++◌, length, take, drop, take-append-drop, length-take, Some, None, refl, subst, arith}
use Rattle.std.proofs.lemmas.Bool.Decides.{nat_tests}
use Rattle.saa_core_spec.specs.Object.{without}
use Rattle.saa_word_steps.specs.declared.event.Event.{Event}
use Rattle.saa_word_steps.specs.declared.event.Event.TheVariants.{Granted, AnswerTaken}
use Rattle.saa_word_steps.specs.Needs.{Needs, fits_count}
use Rattle.saa_word_steps.specs.AbstractState.{AbstractState, IsEnabled, IsFront, IsRun, after_event, opening}
use Rattle.saa_word_proofs.specs.Turns.{AreTurns, AreTurnsFrom, IsOfTurns, IsWhole, NobodyIsAnswered, begins_turn, is_taken, is_taken_after, is_taken_from}

-- whether all waiters ask for the whole
abbrev ask_whole : ℕ → List (ℕ × ℕ) → Bool
ask_whole whole [] = true
ask_whole whole (asker ∷ rest) = (asker.1 == whole) && ask_whole whole rest

ask-append : (whole : ℕ) (front behind : List (ℕ × ℕ)) → ask_whole whole (front ++ behind) ≡ (ask_whole whole front && ask_whole whole behind)
ask-append whole [] behind = refl
ask-append whole (asker ∷ front) behind = grind (arith, ask-append whole front behind)

ask-without : (whole place : ℕ) (line : List (ℕ × ℕ)) → ask_whole whole line ≡ true → ask_whole whole (without place line) ≡ true
ask-without whole place [] all = all
ask-without whole place (asker ∷ line) all = grind (arith, ask-without whole place line)

-- a place has no answer, or is the one that was granted a turn, and hasn't taken it
abbrev IsAnswered : Bool → AbstractState → ℕ → Type 0
IsAnswered is_one state place =
    (is_one ≡ true) × (((state.granted place ≡ Some 0) × (state.answered place ≡ None)) ⊎ ((state.granted place ≡ None) × (state.answered place ≡ Some 0)))
    ⊎ (is_one ≡ false) × (state.granted place ≡ None) × (state.answered place ≡ None)

module _ (needs : Needs) (whole : ℕ) (w : IsWhole needs whole) where
  -- one waiter is granted at a time, if nothing is held
  record IsOneFront (count : ℕ) (front : List (ℕ × ℕ)) : Type 0 where
    pub asker : ℕ × ℕ
    pub is : front ≡ asker ∷ []
    pub asks : asker.1 ≡ whole
    pub free : count ≡ 0

  front-one : (count : ℕ) (front : List (ℕ × ℕ)) → ask_whole whole front ≡ true → IsFront needs count front → 0 < length front → IsOneFront count front
  front-one count [] all fits some = absurd (omega arith)
  front-one count (asker ∷ []) all fits some =
      record { asker = asker; is = refl; asks = grind (arith, nat_tests); free = w.alone count (grind (arith, nat_tests, fits)) }
  front-one count (asker ∷ (next ∷ rest)) all fits some =
      absurd (grind (arith, nat_tests, w.takes, w.alone (count + needs.takes asker.1), fits))

  -- The whole is held exactly while a turn is taken or one is granted, and of both there is one at most
  record InTurns (taken : Bool) (state : AbstractState) : Type 0 where
    pub some : Bool
    pub who : ℕ
    pub asks : ask_whole whole state.line ≡ true
    pub count : state.count ≡ (if taken || some then needs.takes whole else 0)
    pub apart : taken ≡ true → some ≡ false
    pub says : (place : ℕ) → IsAnswered (some && (who == place)) state place

  -- Each event of those who take turns
  event-keeps : (taken : Bool) (state : AbstractState) (place : ℕ) (event : Event) → InTurns taken state
      → IsEnabled needs state place event → IsOfTurns whole taken event → InTurns (is_taken_after taken event) (after_event needs state place event)
  event-keeps taken state place (Granted askers) s enabled allowed =
      let both : (ask_whole whole (take askers state.line) ≡ true) × (ask_whole whole (drop askers state.line) ≡ true) =
      grind (arith, s.asks, ask-append whole (take askers state.line) (drop askers state.line), take-append-drop askers state.line) in
      let front = front-one state.count (take askers state.line) both.0 enabled.3
      (grind (arith, enabled, length-take askers state.line)) in
      record {
        some = true;
        who = front.asker.0;
        asks = both.1;
        count = grind (arith, front.is, front.asks, front.free, s.count, w.takes);
        apart = grind (arith, front.free, s.count, w.takes);
        says = λ other. grind (arith, nat_tests, front.is, front.free, s.count, w.takes, s.says other);
      }
  event-keeps taken state place (AnswerTaken value) s enabled allowed = record {
    some = false;
    who = 0;
    asks = s.asks;
    count = grind (arith, s.count, s.says place, enabled);
    apart = λ is. refl;
    says = λ other. grind (arith, nat_tests, s.says place, s.says other, enabled);
  }
  event-keeps taken state place event s enabled allowed = record {
    some = s.some;
    who = s.who;
    asks = grind (arith, nat_tests, s.asks, allowed, ask-append whole state.line, ask-without whole place state.line);
    count = grind (arith, s.count, s.apart, w.alone state.count, w.takes, w.back, enabled, allowed);
    apart = grind (arith, s.count, s.apart, w.alone state.count, w.takes, w.back, enabled, allowed);
    says = λ other. grind (arith, nat_tests, s.says other, enabled, allowed);
  }

  along : (taken : Bool) (state : AbstractState) → InTurns taken state → (history : List (ℕ × Event)) (last : AbstractState)
      → IsRun needs state history last → AreTurnsFrom whole taken history → InTurns (is_taken_from taken history) last
  along taken state s [] last run turns = subst (λ (z : AbstractState). InTurns taken z) run s
  along taken state s (entry ∷ rest) last run turns =
      along (is_taken_after taken entry.1) (after_event needs state entry.0 entry.1) (event-keeps taken state entry.0 entry.1 s run.0 turns.0)
      rest last run.1 turns.1

  opens : InTurns false (opening 0)
  opens = record { some = false; who = 0; asks = refl; count = refl; apart = λ is. refl; says = λ place. grind arith }

  -- an event begins a turn only where none is taken
  apart-from : (taken : Bool) (state : AbstractState) → InTurns taken state → (before after : List (ℕ × Event)) (place : ℕ) (event : Event)
      (last : AbstractState) → IsRun needs state (before ++ (place, event) ∷ after) last → AreTurnsFrom whole taken (before ++ (place, event) ∷ after)
      → begins_turn event ≡ true → is_taken_from taken before ≡ false
  apart-from taken state s [] after place event last run turns begins =
      grind (arith, s.count, s.apart, s.says place, w.alone state.count, w.takes, run.0, turns.0, begins)
  apart-from taken state s (entry ∷ before) after place event last run turns begins =
      apart-from (is_taken_after taken entry.1) (after_event needs state entry.0 entry.1) (event-keeps taken state entry.0 entry.1 s run.0 turns.0)
      before after place event last run.1 turns.1 begins

  pub apart : (before after : List (ℕ × Event)) (place : ℕ) (event : Event) (last : AbstractState)
      → IsRun needs (opening 0) (before ++ (place, event) ∷ after) last → AreTurns whole (before ++ (place, event) ∷ after)
      → begins_turn event ≡ true → is_taken before ≡ false
  apart = apart-from false (opening 0) opens

  pub alone : (history : List (ℕ × Event)) (last : AbstractState) → IsRun needs (opening 0) history last → AreTurns whole history
      → is_taken history ≡ true → (fits_count needs last.count whole ≡ false) × NobodyIsAnswered last
  alone history last run turns taken =
      let s = along false (opening 0) opens history last run turns in
      (grind (arith, s.count, taken, w.alone last.count, w.takes), λ place. grind (arith, s.says place, s.apart taken))

  pub kept : (history : List (ℕ × Event)) (last : AbstractState) → IsRun needs (opening 0) history last → AreTurns whole history
      → is_taken history ≡ false → NobodyIsAnswered last → last.count ≡ 0
  kept history last run turns rests nobody_is =
      let s = along false (opening 0) opens history last run turns in grind (arith, nat_tests, s.count, s.says s.who, rests, nobody_is s.who)
