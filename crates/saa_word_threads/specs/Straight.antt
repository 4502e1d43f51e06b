-- Which main words let a call go straight. Internal: nobody has to believe this; private functions are held to it.
use Rattle.std.specs.Prelude.{ℕ, Bool, not, ◌&&◌, ◌||◌, ◌==◌, if◌then◌else◌, Option, None}
use Rattle.saa_core_words.specs.declared.word.Word.{Word}
use Rattle.saa_word_steps.specs.declared.place.Ask.{Ask}
use Rattle.saa_word_steps.specs.Needs.{Needs, fits_count, left_count}

-- a word grants an ask by an exchange: it isn't poisoned, there is no waiter, what is asked for fits, and it takes something
abbrev pub grants_at : Needs → Word → Ask → Bool
grants_at needs seen ask =
    not seen.is_poisoned && (seen.tail == 0) && fits_count needs seen.count ask.request && not (needs.takes ask.request == 0)

-- a word makes a place that waits join the waiters: it isn't poisoned, and there is a waiter or what is asked for doesn't fit
abbrev pub joins_at : Needs → Word → ℕ → Bool
joins_at needs seen request = not seen.is_poisoned && (not (seen.tail == 0) || not (fits_count needs seen.count request))

-- the count that is left once a request is given back by an exchange: where the word isn't poisoned, and so much is taken
abbrev pub lowers_to : Needs → Word → ℕ → Option ℕ
lowers_to needs seen request = if seen.is_poisoned then None else left_count needs seen.count request

-- whether who lowers a word holds the flag then: there are waiters, and nobody holds it
abbrev pub takes_flag : Word → Bool
takes_flag seen = not (seen.tail == 0) && not seen.is_flagged
