-- What the functions that walk the queue at a stretch are held to. Internal: nobody has to believe this; private functions are held to it.
use Rattle.std.specs.Prelude.{◌≡◌, ℕ, ◌==◌, if◌then◌else◌, Option, Some, None}
use Rattle.saa_core_spec.specs.Values.{granted_value}
use Rattle.saa_core_words.specs.declared.line_word.LineWord.{LineWord}
use Rattle.saa_core_words.specs.declared.word.Word.{Word}
use Rattle.saa_word_steps.specs.declared.place.AfterShow.{AfterShow}
use Rattle.saa_word_steps.specs.declared.place.AfterShow.TheVariants.{Ends, Again}
use Rattle.saa_word_steps.specs.declared.place.Next.{Next}
use Rattle.saa_word_steps.specs.declared.place.Next.TheVariants.{Going, Waits, Done}
use Rattle.saa_word_steps.specs.declared.place.Place.{Place as Position}
use Rattle.saa_word_steps.specs.declared.place.Stage.{Stage}
use Rattle.saa_word_steps.specs.declared.place.Stage.TheVariants.{Close, CutToClose, Empty, ShowLoad}
use Rattle.saa_word_steps.specs.Needs.{Needs}
use Rattle.saa_word_steps.specs.Steps.{going, shown_all}
use Rattle.saa_word_threads.specs.declared.form.Form.{Form}
use Rattle.saa_word_threads.specs.declared.table.Role.TheVariants.{Acting}
use Rattle.saa_word_threads.specs.declared.table.View.{View}
use Rattle.saa_word_threads.specs.declared.walk.Front.{Front}
use Rattle.saa_word_threads.specs.declared.walk.Front.TheVariants.{All, Before}
use Rattle.saa_word_threads.specs.Called.{HasEvents, InCall}
use Rattle.saa_word_threads.specs.Pending.{Seat, needs, withheld}
use Rattle.saa_word_threads.specs.Moves.{RestsAfter}
use Rattle.saa_word_threads.specs.Beginnings.{Beginning}

-- a place at this stage
abbrev pub at_stage : Position → Stage → Position
at_stage place stage = record place { stage = stage }

-- a call that began so is under way at a seat, and its place is at this stage
abbrev pub IsUnderway : Form → Beginning → Position → Seat → Type 0
IsUnderway form begun place seat =
    (seat.table_id ≡ form.table.shared.table_id) × (seat.me.0.role ≡ Acting)
    × InCall (needs form) form.places seat.me.0.number begun.call begun.was begun.view place seat.me.0

-- how it goes on behind a step that isn't blocked: its place stands where the seat last did
abbrev pub NextUnderway : Needs → ℕ → ℕ → Beginning → View → Next → Type 0
NextUnderway needs withheld places begun v (Going next) = InCall needs places v.number begun.call begun.was begun.view next v × (v.position ≡ next)
NextUnderway needs withheld places begun v Waits = Unit {0}
NextUnderway needs withheld places begun v (Done behind answer) =
    HasEvents needs withheld begun.call begun.was answer behind.registration begun.view v × RestsAfter v.position behind × (v.position ≡ behind)

abbrev pub GoesOnUnderway : Form → Beginning → Next → Seat → Type 0
GoesOnUnderway form begun next seat =
    (seat.table_id ≡ form.table.shared.table_id) × (seat.me.0.role ≡ Acting) × NextUnderway (needs form) (withheld form) form.places begun seat.me.0 next

-- the stage behind a walk to the tail
abbrev pub stage_behind : Word → Front → Stage
stage_behind seen (All count line) = Empty seen seen.tail count line
stage_behind seen (Before count top) = Close seen count top

-- the stage of a waiter who stays
abbrev pub staying : Word → ℕ → ℕ → LineWord → Stage
staying seen current count line = if line.older == 0 then Close seen count 0 else CutToClose seen current count line

-- what comes behind the answers that are shown: nothing, or a walk from this word
abbrev pub afterwards_of : Option Word → AfterShow
afterwards_of None = Ends
afterwards_of (Some now) = Again now

-- a grant was published: it is shown to these, and then comes what is said
abbrev pub publishing : Position → Option ℕ → Option Word → Next
publishing place None now = shown_all place (afterwards_of now)
publishing place (Some top) now = going place (ShowLoad top granted_value (afterwards_of now))

-- the newest of those who are granted, if any is
abbrev pub top_of : ℕ → Option ℕ
top_of top = if top == 0 then None else Some top
