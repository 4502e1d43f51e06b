-- What is none of these stages is one of a place that works on the line or shows answers: found by the tactics, it cost four processor seconds.
use Rattle.std.proofs.Common.{◌≡◌, ℕ, refl}
use Rattle.saa_core_words.specs.declared.word.Word.{Word}
use Rattle.saa_core_words.specs.declared.line_word.LineWord.{LineWord}
use Rattle.saa_word_steps.specs.declared.place.Ask.{Ask}
use Rattle.saa_word_steps.specs.declared.place.ReleaseAmount.{ReleaseAmount}
use Rattle.saa_word_steps.specs.declared.place.Reading.{Reading}
use Rattle.saa_word_steps.specs.declared.place.PollMode.{PollMode}
use Rattle.saa_word_steps.specs.declared.place.Stage.{Stage}
use Rattle.saa_word_steps.specs.declared.place.Stage.TheVariants.{Quiet, ReadLoad, AcquireLoad, AcquireExchange, Prepare, Join, ReleaseLoad, ReleaseExchange, Take, FlagLoad, FlagExchange, LookLoad, LookStore, Unlink, DropTail, PoisonLoad, PoisonExchange, Clear, BackLoad, BackStore, Forward, CutToClose, CutForRetry, Close, Empty, Retry, ShowLoad, ShowStore}
use Rattle.saa_word_steps.specs.Steps.{IsWork}
use Rattle.saa_word_steps.proofs.place.Place.resume.Goals as goal

works : (stage : Stage)
    → (stage ≡ Quiet → ⊥)
    → ((x0 : Reading) → stage ≡ ReadLoad x0 → ⊥)
    → ((x0 : Ask) → stage ≡ AcquireLoad x0 → ⊥)
    → ((x0 : Ask) (x1 : Word) → stage ≡ AcquireExchange x0 x1 → ⊥)
    → ((x0 : ℕ) (x1 : Word) → stage ≡ Prepare x0 x1 → ⊥)
    → ((x0 : ℕ) (x1 : Word) → stage ≡ Join x0 x1 → ⊥)
    → ((x0 : ReleaseAmount) → stage ≡ ReleaseLoad x0 → ⊥)
    → ((x0 : ReleaseAmount) (x1 : Word) → stage ≡ ReleaseExchange x0 x1 → ⊥)
    → ((x0 : PollMode) → stage ≡ Take x0 → ⊥)
    → (stage ≡ FlagLoad → ⊥)
    → ((x0 : Word) → stage ≡ FlagExchange x0 → ⊥)
    → ((x0 : Word) (x1 : ℕ) (x2 : ℕ) (x3 : LineWord) → stage ≡ LookLoad x0 x1 x2 x3 → ⊥)
    → ((x0 : Word) (x1 : ℕ) (x2 : ℕ) (x3 : LineWord) → stage ≡ LookStore x0 x1 x2 x3 → ⊥)
    → ((x0 : Word) (x1 : ℕ) (x2 : LineWord) (x3 : ℕ) → stage ≡ Unlink x0 x1 x2 x3 → ⊥)
    → ((x0 : Word) (x1 : ℕ) → stage ≡ DropTail x0 x1 → ⊥)
    → (stage ≡ PoisonLoad → ⊥)
    → ((x0 : Word) → stage ≡ PoisonExchange x0 → ⊥)
    → (stage ≡ Clear → ⊥)
    → IsWork stage
works Quiet a b c d e f g h i j k l m n o p q r = absurd (a refl)
works (ReadLoad x0) a b c d e f g h i j k l m n o p q r = absurd (b x0 refl)
works (AcquireLoad x0) a b c d e f g h i j k l m n o p q r = absurd (c x0 refl)
works (AcquireExchange x0 x1) a b c d e f g h i j k l m n o p q r = absurd (d x0 x1 refl)
works (Prepare x0 x1) a b c d e f g h i j k l m n o p q r = absurd (e x0 x1 refl)
works (Join x0 x1) a b c d e f g h i j k l m n o p q r = absurd (f x0 x1 refl)
works (ReleaseLoad x0) a b c d e f g h i j k l m n o p q r = absurd (g x0 refl)
works (ReleaseExchange x0 x1) a b c d e f g h i j k l m n o p q r = absurd (h x0 x1 refl)
works (Take x0) a b c d e f g h i j k l m n o p q r = absurd (i x0 refl)
works FlagLoad a b c d e f g h i j k l m n o p q r = absurd (j refl)
works (FlagExchange x0) a b c d e f g h i j k l m n o p q r = absurd (k x0 refl)
works (LookLoad x0 x1 x2 x3) a b c d e f g h i j k l m n o p q r = absurd (l x0 x1 x2 x3 refl)
works (LookStore x0 x1 x2 x3) a b c d e f g h i j k l m n o p q r = absurd (m x0 x1 x2 x3 refl)
works (Unlink x0 x1 x2 x3) a b c d e f g h i j k l m n o p q r = absurd (n x0 x1 x2 x3 refl)
works (DropTail x0 x1) a b c d e f g h i j k l m n o p q r = absurd (o x0 x1 refl)
works PoisonLoad a b c d e f g h i j k l m n o p q r = absurd (p refl)
works (PoisonExchange x0) a b c d e f g h i j k l m n o p q r = absurd (q x0 refl)
works Clear a b c d e f g h i j k l m n o p q r = absurd (r refl)
works (BackLoad x0 x1 x2) a b c d e f g h i j k l m n o p q r = tt
works (BackStore x0 x1 x2 x3) a b c d e f g h i j k l m n o p q r = tt
works (Forward x0 x1 x2) a b c d e f g h i j k l m n o p q r = tt
works (CutToClose x0 x1 x2 x3) a b c d e f g h i j k l m n o p q r = tt
works (CutForRetry x0 x1 x2 x3) a b c d e f g h i j k l m n o p q r = tt
works (Close x0 x1 x2) a b c d e f g h i j k l m n o p q r = tt
works (Empty x0 x1 x2 x3) a b c d e f g h i j k l m n o p q r = tt
works (Retry x0 x1 x2) a b c d e f g h i j k l m n o p q r = tt
works (ShowLoad x0 x1 x2) a b c d e f g h i j k l m n o p q r = tt
works (ShowStore x0 x1 x2 x3) a b c d e f g h i j k l m n o p q r = tt

pub resume_work-requires-clause-works : goal.resume_work-requires-clause-works
resume_work-requires-clause-works c =
    let n = c.in_default in
    works c.args.self.stage n.not-Quiet n.not-ReadLoad n.not-AcquireLoad n.not-AcquireExchange n.not-Prepare n.not-Join n.not-ReleaseLoad n.not-ReleaseExchange n.not-Take n.not-FlagLoad n.not-FlagExchange n.not-LookLoad n.not-LookStore n.not-Unlink n.not-DropTail n.not-PoisonLoad n.not-PoisonExchange n.not-Clear
