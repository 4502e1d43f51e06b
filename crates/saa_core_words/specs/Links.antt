-- A line that is held by links: each place has a line word, with what it asks and the places right before and right behind.
-- The line words are a function of the place, so that they may stand in a list or in shared memory.
use Rattle.std.specs.Prelude.{◌≡◌, ℕ, suc, zero, pred, ◌+◌, ◌<◌, List, [], ◌∷◌, length, slice_index_or}
use Rattle.saa_core_spec.specs.declared.request.Request.{Request}
use Rattle.saa_core_spec.specs.Held.{request_number}
use Rattle.saa_core_spec.specs.Object.{Waiter, times}
use Rattle.saa_core_words.specs.declared.line_word.LineWord.{LineWord}
use Rattle.saa_core_words.specs.Words.{line_word_of}

-- the link to the oldest of a line, and to the place behind where the line is empty
abbrev pub first_link : List Waiter → ℕ → ℕ
first_link [] newer = newer
first_link (waiter ∷ rest) newer = waiter.0 + 1

-- the link to the newest of a line, and to the place before where the line is empty
abbrev pub last_link : ℕ → List Waiter → ℕ
last_link older [] = older
last_link older (waiter ∷ rest) = last_link (waiter.0 + 1) rest

-- the line words hold a line, oldest first, between these two links: each place once, with what it asks and its neighbours
abbrev pub IsChain : (ℕ → LineWord) → ℕ → List Waiter → ℕ → Type 0
IsChain words older [] newer = Unit {0}
IsChain words older (waiter ∷ rest) newer =
    (words waiter.0 ≡ record { request = request_number waiter.1; older = older; newer = first_link rest newer })
    × (times waiter.0 rest ≡ 0)
    × IsChain words (waiter.0 + 1) rest newer

-- what so many places ask that are met from a link along newer neighbours, oldest first
abbrev pub followed : (ℕ → LineWord) → (ℕ → Request) → ℕ → ℕ → List Waiter
followed words read zero link = []
followed words read (suc more) link =
    (pred link, read (words (pred link)).request) ∷ followed words read more (words (pred link)).newer

-- what a line asks can be read back from its numbers
abbrev pub AreRead : (ℕ → Request) → List Waiter → Type 0
AreRead read [] = Unit {0}
AreRead read (waiter ∷ rest) = (read (request_number waiter.1) ≡ waiter.1) × AreRead read rest

-- the line words of a list of numbers
abbrev pub words_in : List ℕ → ℕ → LineWord
words_in numbers place = line_word_of (slice_index_or numbers place 0)

-- What is seen of a line that is held by links: its waiters, oldest first, and how many places there are
pub record Waiters : Type 0 where
  pub line : List Waiter
  pub room : ℕ

-- how the parts of such a line agree: the words hold it, both ends are known, and its places are below the room
pub record IsLinked (read : ℕ → Request) (numbers : List ℕ) (oldest newest waiting : ℕ) (line : List Waiter) : Type 0 where
  pub chain : IsChain (words_in numbers) 0 line 0
  pub first : oldest ≡ first_link line 0
  pub last : newest ≡ last_link 0 line
  pub size : waiting ≡ length line
  pub asked : AreRead read line
  pub within : (place : ℕ) → 0 < times place line → place < length numbers
  pub small : length numbers < 65536
