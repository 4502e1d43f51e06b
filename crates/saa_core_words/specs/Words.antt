-- The words of a form that is kept in numbers: the main word, and of each place a line word and an answer word.
-- A place that stands in a word stands there by its number plus 1; 0 is nobody.
use Rattle.std.specs.Prelude.{ℕ, suc, zero, ◌+◌, ◌-◌, ◌*◌, ◌/◌, ◌%◌, ◌^◌, ◌==◌, if◌then◌else◌, Option, Some, None}
use Rattle.saa_core_spec.specs.declared.request.Request.{Request}
use Rattle.saa_core_spec.specs.declared.request.Request.TheVariants.{Exclusive, Shared, WaitExclusive, WaitShared, Permits}
use Rattle.saa_core_spec.specs.Held.{Held, OfSemaphore, OfShutSemaphore, OfLock, OfGate, OfBarrier, LockState, Free, Exclusive as Alone, Shared as Sharing, Poisoned}
use Rattle.saa_core_spec.specs.Object.{one_if}
use Rattle.saa_core_words.specs.declared.word.Word.{Word}
use Rattle.saa_core_words.specs.declared.line_word.LineWord.{LineWord}

-- how many bits of a main word are the count
abbrev pub count_bits : ℕ
count_bits = 16

-- the number of a main word whose count has so many bits: the count, the flag, poison, the tail
abbrev pub word_number : ℕ → Word → ℕ
word_number bits word = word.count + 2 ^ bits * (one_if word.is_flagged + 2 * one_if word.is_poisoned + 4 * word.tail)

-- the main word of a number
abbrev pub word_of : ℕ → ℕ → Word
word_of bits number = record {
  count = number % 2 ^ bits;
  is_flagged = number / 2 ^ bits % 2 == 1;
  is_poisoned = number / 2 ^ bits / 2 % 2 == 1;
  tail = number / 2 ^ bits / 4 % 65536;
}

-- the count of a lock in a main word: how many share it, and 63 for one owner alone
abbrev pub lock_count : LockState → ℕ
lock_count Free = 0
lock_count Alone = 63
lock_count Poisoned = 0
lock_count (Sharing owners) = owners

-- the count of what is held: the permits that are out, or the owners of a lock
abbrev pub held_count : Held → ℕ
held_count (OfSemaphore bound out) = out
held_count (OfShutSemaphore bound out) = out
held_count (OfLock lock) = lock_count lock
held_count (OfGate gate) = 0
held_count (OfBarrier size arrived round) = 0

-- the number of a line word: what is asked, the older neighbour, the newer one
abbrev pub line_number : LineWord → ℕ
line_number word = word.request + 65536 * (word.older + 65536 * word.newer)

-- the line word of a number
abbrev pub line_word_of : ℕ → LineWord
line_word_of number = record {
  request = number % 65536;
  older = number / 65536 % 65536;
  newer = number / 4294967296 % 65536;
}

-- the number of an answer word: 0 for none, else the value plus 1
abbrev pub answer_number : Option ℕ → ℕ
answer_number None = 0
answer_number (Some value) = value + 1

-- the answer of a number
abbrev pub answer_of : ℕ → Option ℕ
answer_of number = if number == 0 then None else Some ((number - 1) % 256)

-- what a number asks of a semaphore
abbrev pub permits_of : ℕ → Request
permits_of number = Permits number

-- what a number asks of a lock
abbrev pub mode_of : ℕ → Request
mode_of zero = Exclusive
mode_of (suc zero) = Shared
mode_of (suc (suc zero)) = WaitExclusive
mode_of (suc (suc (suc more))) = WaitShared
