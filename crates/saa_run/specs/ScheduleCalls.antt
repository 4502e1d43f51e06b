-- The calls of a schedule, in words: those of a semaphore, those of a lock, and those of both.
use Rattle.std.specs.Prelude.{ℕ, Bool, List, [], ◌∷◌, Option, Some, None, if◌then◌else◌, codes, option_and_then}
use Rattle.std.specs.Option.{option_map}
use Rattle.std.specs.Str.{bytes_eq}
use Rattle.saa_core_spec.specs.declared.lock.LockCall.{LockCall}
use Rattle.saa_core_spec.specs.declared.lock.LockCall.TheVariants.{TryLock, TryShare, ReleaseLock, ReleaseShare, Downgrade, PoisonLock, ClearPoison, IsFree, IsLocked, IsShared, IsPoisoned}
use Rattle.saa_word_steps.specs.declared.call.WordCall.{WordCall}
use Rattle.saa_word_steps.specs.declared.call.WordCall.TheVariants.{Try, Register, Release, Available, Shut, IsShut, TryLock as TriesLock, TryShare as TriesShare, RegisterMode, ReleaseLock as ReleasesLock, ReleaseShare as ReleasesShare, Downgrade as Downgrades, PoisonLock as PoisonsLock, ClearPoison as ClearsPoison, IsFree as AsksFree, IsLocked as AsksLocked, IsShared as AsksShared, IsPoisoned as AsksPoisoned, TryPoll, Poll, Cancel}
use Rattle.saa_run_text.specs.Fields.{number_of}
use Rattle.saa_run_text.specs.Fields.{either, meaning_in}
use Rattle.saa_run.specs.Language.{ask_in, lone_call_in}
use Rattle.saa_run.specs.LockWords.{lock_readings}

-- a lock's call as a machine makes it, whose words are those of scripts
abbrev pub in_steps : LockCall → WordCall
in_steps TryLock = TriesLock
in_steps TryShare = TriesShare
in_steps ReleaseLock = ReleasesLock
in_steps ReleaseShare = ReleasesShare
in_steps Downgrade = Downgrades
in_steps PoisonLock = PoisonsLock
in_steps ClearPoison = ClearsPoison
in_steps IsFree = AsksFree
in_steps IsLocked = AsksLocked
in_steps IsShared = AsksShared
in_steps IsPoisoned = AsksPoisoned

-- the calls of both that are one word
abbrev pub calls_of_both : List (List ℕ × WordCall)
calls_of_both = (codes "try_poll", TryPoll) ∷ (codes "poll", Poll) ∷ (codes "cancel", Cancel) ∷ []

unfoldable pub call_of_both : List ℕ → Option WordCall
call_of_both word = meaning_in calls_of_both word

-- the calls of a semaphore that are one word
abbrev pub semaphore_calls : List (List ℕ × WordCall)
semaphore_calls = (codes "available", Available) ∷ (codes "shut", Shut) ∷ (codes "is_shut", IsShut) ∷ []

unfoldable pub semaphore_call : List ℕ → Option WordCall
semaphore_call word = meaning_in semaphore_calls word

-- a call of a lock that is one word
unfoldable pub lock_call : List ℕ → Option WordCall
lock_call word = option_map in_steps (lone_call_in lock_readings word)

-- a call that is one word, of a lock or of a semaphore
unfoldable pub lone_call_of : Bool → List ℕ → Option WordCall
lone_call_of is_lock word = either (call_of_both word) (if is_lock then lock_call word else semaphore_call word)

-- the calls of a semaphore that are a word and a number
abbrev pub counted_calls : List (List ℕ × (ℕ → WordCall))
counted_calls = (codes "try", Try) ∷ (codes "reg", Register) ∷ (codes "release", Release) ∷ []

unfoldable pub counted_call_of : List ℕ → ℕ → Option WordCall
counted_call_of word n = option_map (λ call. call n) (meaning_in counted_calls word)

-- a registration at a lock: the word reg and a mode
unfoldable pub mode_call_of : List ℕ → List ℕ → Option WordCall
mode_call_of word mode = if bytes_eq word (codes "reg") then option_map RegisterMode (ask_in lock_readings (Some mode)) else None

-- a call that is a word and a field, of a lock or of a semaphore
unfoldable pub paired_call_of : Bool → List ℕ → List ℕ → Option WordCall
paired_call_of is_lock word field =
    if is_lock then mode_call_of word field else option_and_then (λ n. counted_call_of word n) (number_of field)
