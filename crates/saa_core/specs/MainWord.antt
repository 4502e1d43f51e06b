-- The main word of a core that grants: what is held and the newest waiter, as the lock-free form keeps them.
use Rattle.std.specs.Prelude.{false}
use Rattle.saa_core_spec.specs.Held.{refuses_all}
use Rattle.saa_core_words.specs.declared.word.Word.{Word}
use Rattle.saa_core_words.specs.Words.{held_count}
use Rattle.saa_core_words.specs.Links.{last_link}
use Rattle.saa_core.specs.Tickets.{Core}

-- its parts: nobody works on the line of a core between two calls, so the flag is clear. The bit of poison is that of a shut semaphore, too
abbrev pub core_word : Core → Word
core_word core = record {
  count = held_count core.held;
  is_flagged = false;
  is_poisoned = refuses_all core.held;
  tail = last_link 0 core.slots.line;
}
