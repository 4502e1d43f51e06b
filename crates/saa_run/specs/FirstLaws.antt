-- What always holds of a script's first lines. `header::Header` asks for these facts of every language, and its impls name
-- them: so they stand here, though they are lemmas.
use Rattle.std.proofs.Common.{◌≡◌, ◌<◌, ℕ, List, [], length, None, ap, refl}
use Rattle.std.specs.Prelude.{if◌then◌else◌}
use Rattle.std.proofs.lemmas.Bool.{lt-ltb}
use Rattle.saa_run.specs.declared.script.command.FirstLine.{FirstLine}
use Rattle.saa_run.specs.declared.script.command.FirstLine.TheVariants.{Semaphore, Bounded, Lock, Gate, Barrier}
use Rattle.saa_run_text.specs.Fields.{fields_of}
use Rattle.saa_run.specs.Language.{first_line_in, first_line_of}
use Rattle.saa_run.specs.ScriptText.{answer_behind, answer_from, good_front}
use Rattle.saa_run_text.specs.Steps.{no_lines}

-- no line of more than 80 bytes is a first line
pub first-long : (line : List ℕ) → 80 < length line → first_line_of line ≡ None
unfolding first_line_of
first-long line long = ap (λ b. if b then None else first_line_in (fields_of line)) (lt-ltb 80 (length line) long)

-- the empty line is no first line
pub first-empty : first_line_of [] ≡ None
unfolding first_line_of
first-empty = refl

-- behind a good first line there is no answer where no line is left
pub behind-none : (first : FirstLine) → answer_behind first [] ≡ no_lines
unfolding answer_from good_front
behind-none (Semaphore permits room) = refl
behind-none (Bounded bound permits room) = refl
behind-none (Lock room) = refl
behind-none (Gate room) = refl
behind-none (Barrier size room) = refl
