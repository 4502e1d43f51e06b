-- Steps of a place one after another, and what a line of a schedule is answered.
use Rattle.std.proofs.Common.{◌≡◌, ◌<◌, ℕ, zero, suc, ◌+◌, ◌-◌, true, false, List, ◌∷◌, length, Some, refl, sym, ap, ◌∙◌, arith}
use Rattle.std.specs.Option.{option_map_or}
use Rattle.saa_word.specs.declared.kind.Kind.{Kind}
use Rattle.saa_word.specs.declared.moves.Move.TheVariants.{Go as Goes}
use Rattle.saa_word.specs.declared.moves.Step.{Step}
use Rattle.saa_word.specs.declared.moves.Step.TheVariants.{Going}
use Rattle.saa_word.specs.Machine.{State, is_lock}
use Rattle.saa_word.specs.Moves.{gone}
use Rattle.saa_run.specs.declared.schedule.reply.ScheduleReply.{ScheduleReply}
use Rattle.saa_run.specs.declared.schedule.reply.ScheduleReply.TheVariants.{Step as Did, At}
use Rattle.saa_run.specs.declared.schedule.lines.ScheduleLine.{ScheduleLine}
use Rattle.saa_run.specs.Schedules.{schedule_line_of}
use Rattle.saa_run.specs.Scheduled.{answer_schedule, ended, goes_on, is_at, line_said, move_said, until_at}
use Rattle.saa_run.specs.ScheduleReplies.{schedule_words}
use Rattle.saa_run_text.specs.Text.{reply_line, with_front}
use Rattle.saa_run_text.specs.Steps.{bad_at}

module _ (state after : State) (me : ℕ) (step : Step) (did : step ≡ (gone state (Goes me)).step) (left_as : after ≡ (gone state (Goes me)).machine) where
  -- one step more, and the place goes on
  pub ended-going : (left : ℕ) → goes_on step ≡ true → 0 < left → ended (left - 1) after me ≡ ended left state me
  unfolding ended
  ended-going zero goes some = absurd (omega arith)
  ended-going (suc more) goes some =
      let test : goes_on (gone state (Goes me)).step ≡ true = ap goes_on (sym did) ∙ goes in
      let one : suc more - 1 ≡ more = omega arith in
      rw test (ap (λ n. ended n after me) one ∙ ap (λ s. ended more s me) left_as)

  -- one step more, and it is the last
  pub ended-stops : (left : ℕ) → goes_on step ≡ false → 0 < left → ended left state me ≡ gone state (Goes me)
  unfolding ended
  ended-stops zero stops some = absurd (omega arith)
  ended-stops (suc more) stops some =
      let test : goes_on (gone state (Goes me)).step ≡ false = ap goes_on (sym did) ∙ stops in
      rw test refl

  -- what is said of it
  pub step-said : (said : ScheduleReply) → said ≡ Did (is_lock after) step → said ≡ (move_said (gone state (Goes me))).said
  step-said said says = says ∙ ap (λ s. Did (is_lock after) s) did ∙ ap (λ m. Did (is_lock m) (gone state (Goes me)).step) left_as

  module _ (kind : Kind) (apart : is_at state me kind ≡ false) where
    -- the same where steps of a kind are looked for
    pub until-going : (left : ℕ) → goes_on step ≡ true → 0 < left → until_at (left - 1) after me kind ≡ until_at left state me kind
    unfolding until_at
    until-going zero goes some = absurd (omega arith)
    until-going (suc more) goes some =
        let test : goes_on (gone state (Goes me)).step ≡ true = ap goes_on (sym did) ∙ goes in
        let one : suc more - 1 ≡ more = omega arith in
        rw (apart, test) (ap (λ n. until_at n after me kind) one ∙ ap (λ s. until_at more s me kind) left_as)

    pub until-stops : (left : ℕ) → goes_on step ≡ false → 0 < left
        → until_at left state me kind ≡ move_said (gone state (Goes me))
    unfolding until_at
    until-stops zero stops some = absurd (omega arith)
    until-stops (suc more) stops some =
        let test : goes_on (gone state (Goes me)).step ≡ false = ap goes_on (sym did) ∙ stops in
        rw (apart, test) refl

-- no step is left
pub ended-out : (left : ℕ) (state : State) (me : ℕ) → left ≡ 0 → ended left state me ≡ record { step = Going; machine = state }
unfolding ended
ended-out zero state me none = refl
ended-out (suc more) state me none = absurd (omega arith)

-- a step of the kind is next
pub until-there : (left : ℕ) (state : State) (me : ℕ) (kind : Kind) → is_at state me kind ≡ true → until_at left state me kind ≡ record { said = At kind; machine = state }
unfolding until_at
until-there zero state me kind there = rw there refl
until-there (suc more) state me kind there = rw there refl

-- no step is left, and the next is of another kind
pub until-out : (left : ℕ) (state : State) (me : ℕ) (kind : Kind) → left ≡ 0 → is_at state me kind ≡ false → until_at left state me kind ≡ record { said = Did (is_lock state) Going; machine = state }
unfolding until_at
until-out zero state me kind none apart = rw apart refl
until-out (suc more) state me kind none apart = absurd (omega arith)

-- a good line is answered by what it says
pub schedule-good : (number : ℕ) (state after : State) (line : List ℕ) (good : ScheduleLine) (said : ScheduleReply) (others : List (List ℕ))
    → schedule_line_of (is_lock state) (length state.places) line ≡ Some good → said ≡ (line_said state good).said → after ≡ (line_said state good).machine
    → answer_schedule number state (line ∷ others) ≡ with_front (reply_line (schedule_words said)) (answer_schedule (number + 1) after others)
unfolding answer_schedule
schedule-good number state after line good said others means says leaves =
    ap (λ found. option_map_or (λ made. with_front (reply_line (schedule_words (line_said state made).said)) (answer_schedule (number + 1) (line_said state made).machine others)) found (bad_at number)) means
    ∙ ap (λ words. with_front (reply_line (schedule_words words)) (answer_schedule (number + 1) (line_said state good).machine others)) (sym says)
    ∙ ap (λ s. with_front (reply_line (schedule_words said)) (answer_schedule (number + 1) s others)) (sym leaves)
