-- Which kind of atomic step is made at each stage. A reader of `next_kind` has to believe this.
use Rattle.std.specs.Prelude.{Option, Some, None}
use Rattle.saa_word_steps.specs.declared.place.Stage.{Stage}
use Rattle.saa_word_steps.specs.declared.place.Stage.TheVariants.{Quiet, ReadLoad, AcquireLoad, AcquireExchange, Prepare as Preparing, Join as Joining, ReleaseLoad, ReleaseExchange, BackLoad, BackStore, Forward, CutToClose, CutForRetry, Close, Empty, Retry, ShowLoad, ShowStore, Take as PollMode, FlagLoad, FlagExchange, LookLoad, LookStore, Unlink as Unlinking, DropTail, PoisonLoad, PoisonExchange, Clear as Clearing}
use Rattle.saa_word.specs.declared.kind.Kind.{Kind}
use Rattle.saa_word.specs.declared.kind.Kind.TheVariants.{Ask, Prepare, Join, Release, Walk, Publish, Show, Take, Flag, Unlink, Tail, Poison, Clear}

-- the kind of the step that is made at a stage; none where the place is in no call
abbrev pub kind_at : Stage → Option Kind
kind_at Quiet = None
kind_at (ReadLoad reading) = Some Ask
kind_at (AcquireLoad ask) = Some Ask
kind_at (AcquireExchange ask seen) = Some Ask
kind_at (Preparing request seen) = Some Prepare
kind_at (Joining request seen) = Some Join
kind_at (ReleaseLoad given) = Some Release
kind_at (ReleaseExchange given seen) = Some Release
kind_at (BackLoad seen current newer) = Some Walk
kind_at (BackStore seen current newer line) = Some Walk
kind_at (Forward seen current count) = Some Walk
kind_at (CutToClose seen current count line) = Some Walk
kind_at (CutForRetry seen current count line) = Some Walk
kind_at (Close seen count top) = Some Publish
kind_at (Empty seen current count line) = Some Publish
kind_at (Retry seen count top) = Some Publish
kind_at (ShowLoad current value afterwards) = Some Show
kind_at (ShowStore current next value afterwards) = Some Show
kind_at (PollMode taking) = Some Take
kind_at FlagLoad = Some Flag
kind_at (FlagExchange seen) = Some Flag
kind_at (LookLoad seen current newer previous) = Some Unlink
kind_at (LookStore seen current newer line) = Some Unlink
kind_at (Unlinking seen newer line older) = Some Unlink
kind_at (DropTail seen older) = Some Tail
kind_at PoisonLoad = Some Poison
kind_at (PoisonExchange seen) = Some Poison
kind_at Clearing = Some Clear
