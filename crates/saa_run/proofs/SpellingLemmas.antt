-- A line is good exactly where it is a command's spelling: once for all kinds, from a few facts of each.
use Rattle.std.proofs.Common.{◌≡◌, ◌≤◌, ◌<◌, ℕ, inl, inr, Bool, true, false, List, [], ◌∷◌, ◌++◌, Some, None, cond, length, length-append, sym, ap, subst, ◌∙◌, arith, refl}
use Rattle.std.specs.Prelude.{codes, decimal, nat_lt, option_and_then}
use Rattle.std.specs.Option.{option_map}
use Rattle.std.specs.Str.{bytes_eq}
use Rattle.std.specs.List.{AllByRecursion}
use Rattle.std.proofs.lemmas.Slice.Eq.{bytes_eq-Decides}
use Rattle.std.proofs.lemmas.Bool.Decides.{nat_tests}
use Rattle.saa_core_spec.specs.declared.run.CommandOf.TheVariants.{Call, Register, TryPoll, PollSync, PollAsync, Drop, Leave}
use Rattle.saa_run.specs.declared.script.command.Bound.{Bound}
use Rattle.saa_run.specs.declared.script.command.Bound.TheVariants.{One, Thousand, Greatest}
use Rattle.saa_run.specs.declared.script.command.FirstLine.{FirstLine}
use Rattle.saa_run.specs.declared.script.command.FirstLine.TheVariants.{Semaphore, Bounded, Lock, Gate, Barrier}
use Rattle.saa_run.specs.declared.script.command.ScriptLine.{ScriptLine}
use Rattle.saa_run.specs.declared.script.command.ScriptLine.TheVariants.{Do, Registered}
use Rattle.saa_run_text.specs.Fields.{fields_of, number_of}
use Rattle.saa_run_text.specs.Fields.{meaning_in}
use Rattle.saa_run.specs.Language.{Readings, pager_of, room_of, bound_of, bound_number, mode_of, pager_lines, lone_call_in, counted_call_in, ask_in, lone_line, counted_line, pager_line, registration, line_in, line_of, roomed_made, counted_made, bounded_made, first_line_in, first_line_of}
use Rattle.saa_run.specs.Spelling.{IsNumber, IsRoom, Spellings, AreNumbers, spelled, mode_word, line_fields, IsLineInRange, IsSpelled, first_fields, IsFirstInRange, SpellsLine, SpellsFirst}
use Rattle.saa_run_text.proofs.FieldLemmas.{number_found, number_said}
use Rattle.saa_run.proofs.WordLemmas.{IsWord, IsWord-literal, IsWord-decimal, fields_of-spelled, spelled-fields_of, length-spelled}
use Rattle.saa_run.proofs.ReadingLemmas.{pager_found, pager_said, room_found, room_said, bound_found, bound_said, mode_found, mode_said, meaning_in-found, option_map-found, option_and_then-found, either_found}

-- the fields of a spelling are words: without spaces, and short
abbrev pub AreWords : List (List ℕ) → Type 0
AreWords fields = AllByRecursion IsWord fields

mode_is_word : (is_sync : Bool) → IsWord (mode_word is_sync)
mode_is_word true = IsWord-literal (codes "sync") refl refl
mode_is_word false = IsWord-literal (codes "async") refl refl

-- one to four words
pub record Words (fields : List (List ℕ)) : Type 0 where
  pub are : AreWords fields
  pub some : 0 < length fields
  pub few : length fields ≤ 4

-- what makes a kind's readings and its spellings fit
pub record Fits {C K : Type 0} (readings : Readings C K) (spellings : Spellings C K) : Type 0 where
  pub lone_found : AllByRecursion (λ entry. (spellings.call_fields entry.1 ≡ entry.0 ∷ []) × AreNumbers (spellings.call_numbers entry.1)) readings.lone
  pub counted_found : AllByRecursion (λ entry. (n : ℕ) → n < 1000000 → (spellings.call_fields (entry.1 n) ≡ entry.0 ∷ decimal n ∷ []) × AreNumbers (spellings.call_numbers (entry.1 n))) readings.counted
  pub ask_found : (fields : List (List ℕ)) (ask : K) → readings.ask fields ≡ Some ask → (fields ≡ spellings.ask_fields ask) × AreNumbers (spellings.ask_numbers ask)
  pub call_said : (call : C) → AreNumbers (spellings.call_numbers call) → line_in readings (spellings.call_fields call) ≡ Some (Do (Call call))
  pub call_words : (call : C) → AreNumbers (spellings.call_numbers call) → Words (spellings.call_fields call)
  pub ask_said : (ask : K) → AreNumbers (spellings.ask_numbers ask) → readings.ask (spellings.ask_fields ask) ≡ Some ask
  pub ask_words : (ask : K) → AreNumbers (spellings.ask_numbers ask) → AreWords (spellings.ask_fields ask)
  pub ask_few : (ask : K) → length (spellings.ask_fields ask) ≤ 1

-- words behind words are words
AreWords-append : (front : List (List ℕ)) (word : List ℕ) → AreWords front → IsWord word → AreWords (front ++ word ∷ [])
AreWords-append [] word are is = (is, tt)
AreWords-append (next ∷ front) word are is = (are.0, AreWords-append front word are.1 is)

-- a word and a pager
pager_words : (word : List ℕ) (p : ℕ) → IsWord word → p < 100 → Words (word ∷ decimal p ∷ [])
pager_words word p is small = record { are = (is, (IsWord-decimal p (omega arith), tt)); some = omega arith; few = omega arith }

-- a spelling is at most 80 bytes
spelled_short : (fields : List (List ℕ)) → Words fields → nat_lt 80 (length (spelled fields)) ≡ false
spelled_short fields words = let bound = length-spelled fields words.are in let few = words.few in grind (arith, nat_tests)

-- the fields of a spelling are its words
fields_of-words : (fields : List (List ℕ)) → Words fields → fields_of (spelled fields) ≡ fields
fields_of-words [] words = absurd (omega (arith, words.some))
fields_of-words (word ∷ fields) words = fields_of-spelled word fields words.are

module _ {C K : Type 0} (readings : Readings C K) (spellings : Spellings C K) (fits : Fits readings spellings) where
  -- fields that make a line are its fields, with its numbers in range
  abbrev AreFields : List (List ℕ) → ScriptLine C K → Type 0
  AreFields fields line = (fields ≡ line_fields spellings line) × IsLineInRange spellings line

  -- a line of one word
  lone_is : (word : List ℕ) (line : ScriptLine C K) → lone_line readings word ≡ Some line → AreFields (word ∷ []) line
  unfolding lone_line lone_call_in
  lone_is word line found =
      let call = option_map-found (λ call. Do (Call call)) (meaning_in readings.lone word) line found in
      let entry = meaning_in-found (λ w c. (spellings.call_fields c ≡ w ∷ []) × AreNumbers (spellings.call_numbers c)) readings.lone fits.lone_found word call.0 call.1 in
      subst (AreFields (word ∷ [])) call.2 (sym entry.0, entry.1)

  -- a line of a word and a number
  counted_is : (word field : List ℕ) (line : ScriptLine C K) → counted_line readings word field ≡ Some line → AreFields (word ∷ field ∷ []) line
  unfolding counted_line counted_call_in
  counted_is word field line found =
      let number = option_and_then-found (λ n. option_map (λ call. Do (Call call)) (option_map (λ call. call n) (meaning_in readings.counted word))) (number_of field) line found in
      let call = option_map-found (λ call. Do (Call call)) (option_map (λ call. call number.0) (meaning_in readings.counted word)) line number.2 in
      let make = option_map-found (λ call. call number.0) (meaning_in readings.counted word) call.0 call.1 in
      let written = number_found field number.0 number.1 in
      let entry = meaning_in-found (λ w c. (n : ℕ) → n < 1000000 → (spellings.call_fields (c n) ≡ w ∷ decimal n ∷ []) × AreNumbers (spellings.call_numbers (c n))) readings.counted fits.counted_found word make.0 make.1 number.0 written.1 in
      let fields : (word ∷ field ∷ []) ≡ spellings.call_fields (make.0 number.0) = ap (λ f. word ∷ f ∷ []) written.0 ∙ sym entry.0 in
      subst (AreFields (word ∷ field ∷ [])) call.2 (subst (λ c. AreFields (word ∷ field ∷ []) (Do (Call c))) make.2 (fields, entry.1))

  -- a line of a word and a pager
  pager_is : (word field : List ℕ) (line : ScriptLine C K) → pager_line word field ≡ Some line → AreFields (word ∷ field ∷ []) line
  unfolding pager_line
  pager_is word field line found =
      let make = option_and_then-found (λ make. option_map make (pager_of field)) (meaning_in pager_lines word) line found in
      let pager = option_map-found make.0 (pager_of field) line make.2 in
      let written = pager_found field pager.0 pager.1 in
      subst (AreFields (word ∷ field ∷ [])) pager.2
      (subst (λ f. AreFields (word ∷ f ∷ []) (make.0 pager.0)) (sym written.0)
      (meaning_in-found (λ w m. (p : ℕ) → p < 100 → AreFields (w ∷ decimal p ∷ []) (m p)) pager_lines
      (λ p small. (refl, small), (λ p small. (refl, small), (λ p small. (refl, small), (λ p small. (refl, small), (λ p small. (refl, small), (λ p small. (refl, small), tt)))))) word make.0 make.1 pager.0 written.1))

  -- a registration
  registration_is : (word pager mode : List ℕ) (asked : List (List ℕ)) (line : ScriptLine C K) → registration word (pager_of pager) (readings.ask asked) (mode_of mode) ≡ Some line
      → AreFields (word ∷ pager ∷ (asked ++ mode ∷ [])) line
  unfolding registration
  registration_is word pager mode asked line found = with_reg (bytes_eq word (codes "reg")) (bytes_eq-Decides word (codes "reg")).0 found
    where
      with_reg : (b : Bool) → (b ≡ true → word ≡ codes "reg")
          → cond b (option_and_then (λ p. option_and_then (λ k. option_map (λ m. Do (Register p k m)) (mode_of mode)) (readings.ask asked)) (pager_of pager)) None ≡ Some line
          → AreFields (word ∷ pager ∷ (asked ++ mode ∷ [])) line
      with_reg true same e =
          let p = option_and_then-found (λ p. option_and_then (λ k. option_map (λ m. Do (Register p k m)) (mode_of mode)) (readings.ask asked)) (pager_of pager) line e in
          let k = option_and_then-found (λ k. option_map (λ m. Do (Register p.0 k m)) (mode_of mode)) (readings.ask asked) line p.2 in
          let m = option_map-found (λ m. Do (Register p.0 k.0 m)) (mode_of mode) line k.2 in
          let pager_written = pager_found pager p.0 p.1 in
          let ask_written = fits.ask_found asked k.0 k.1 in
          let is_word : word ≡ codes "reg" = same refl in
          let is_pager : pager ≡ decimal p.0 = pager_written.0 in
          let is_ask : asked ≡ spellings.ask_fields k.0 = ask_written.0 in
          let is_mode : mode ≡ mode_word m.0 = mode_found mode m.0 m.1 in
          let fields : (word ∷ pager ∷ (asked ++ mode ∷ [])) ≡ line_fields spellings (Do (Register p.0 k.0 m.0)) = cc in
          subst (AreFields (word ∷ pager ∷ (asked ++ mode ∷ []))) {x = Do (Register p.0 k.0 m.0)} m.2 (fields, (pager_written.1, ask_written.1))
      with_reg false same e = cc

  -- the fields of a good line are those of its spelling
  fields_are : (fields : List (List ℕ)) (line : ScriptLine C K) → line_in readings fields ≡ Some line → AreFields fields line
  unfolding ask_in
  fields_are [] line found = cc
  fields_are (word ∷ []) line found = lone_is word line found
  fields_are (word ∷ field ∷ []) line found = elim (either_found (pager_line word field) (counted_line readings word field) line found) [
    | inl pager ↦ pager_is word field line pager
    | inr counted ↦ counted_is word field line counted
  ]
  fields_are (word ∷ pager ∷ mode ∷ []) line found = registration_is word pager mode [] line found
  fields_are (word ∷ pager ∷ ask ∷ mode ∷ []) line found = registration_is word pager mode (ask ∷ []) line found
  fields_are (word ∷ pager ∷ ask ∷ mode ∷ field ∷ fields) line found = cc

  -- the fields of a registration are read as one
  registration_read : (word pager mode : List ℕ) (asked : List (List ℕ)) → length asked ≤ 1 → line_in readings (word ∷ pager ∷ (asked ++ mode ∷ [])) ≡ registration word (pager_of pager) (readings.ask asked) (mode_of mode)
  unfolding ask_in
  registration_read word pager mode [] few = refl
  registration_read word pager mode (ask ∷ []) few = refl
  registration_read word pager mode (ask ∷ next ∷ asked) few = absurd (omega arith)

  -- a registration whose parts are found is a line
  registration_said : (p : ℕ) (ask : K) (is_sync : Bool) → p < 100 → AreNumbers (spellings.ask_numbers ask)
      → registration {C = C} {K = K} (codes "reg") (pager_of (decimal p)) (readings.ask (spellings.ask_fields ask)) (mode_of (mode_word is_sync)) ≡ Some (Do (Register p ask is_sync))
  unfolding registration
  registration_said p ask is_sync small numbers = rw (pager_said p small, fits.ask_said ask numbers, mode_said is_sync) refl

  -- each spelling's fields make the line
  fields_said : (line : ScriptLine C K) → IsLineInRange spellings line → line_in readings (line_fields spellings line) ≡ Some line
  unfolding pager_line
  fields_said (Do (Call call)) small = fits.call_said call small
  fields_said (Do (Register p ask is_sync)) small =
      registration_read (codes "reg") (decimal p) (mode_word is_sync) (spellings.ask_fields ask) (fits.ask_few ask) ∙ registration_said p ask is_sync small.0 small.1
  fields_said (Do (TryPoll p)) small = rw (pager_said p small) refl
  fields_said (Do (PollSync p)) small = rw (pager_said p small) refl
  fields_said (Do (PollAsync p)) small = rw (pager_said p small) refl
  fields_said (Do (Drop p)) small = rw (pager_said p small) refl
  fields_said (Do (Leave p)) small = rw (pager_said p small) refl
  fields_said (Registered p) small = rw (pager_said p small) refl

  line_words : (line : ScriptLine C K) → IsLineInRange spellings line → Words (line_fields spellings line)
  line_words (Do (Call call)) small = fits.call_words call small
  line_words (Do (Register p ask is_sync)) small =
      let asked = length-append (spellings.ask_fields ask) (mode_word is_sync ∷ []) in
      let few = fits.ask_few ask in
      record {
        are = (IsWord-literal (codes "reg") refl refl, (IsWord-decimal p (omega (arith, small.0)), AreWords-append (spellings.ask_fields ask) (mode_word is_sync) (fits.ask_words ask small.1) (mode_is_word is_sync)));
        some = omega arith;
        few = omega (arith, asked, few);
      }
  line_words (Do (TryPoll p)) small = pager_words (codes "try_poll") p (IsWord-literal (codes "try_poll") refl refl) small
  line_words (Do (PollSync p)) small = pager_words (codes "poll_sync") p (IsWord-literal (codes "poll_sync") refl refl) small
  line_words (Do (PollAsync p)) small = pager_words (codes "poll_async") p (IsWord-literal (codes "poll_async") refl refl) small
  line_words (Do (Drop p)) small = pager_words (codes "drop") p (IsWord-literal (codes "drop") refl refl) small
  line_words (Do (Leave p)) small = pager_words (codes "leave") p (IsWord-literal (codes "leave") refl refl) small
  line_words (Registered p) small = pager_words (codes "registered") p (IsWord-literal (codes "registered") refl refl) small

  -- a good line is a spelling
  line_found : (bytes : List ℕ) (line : ScriptLine C K) → line_of readings bytes ≡ Some line → SpellsLine spellings bytes line
  unfolding line_of
  line_found bytes line found = short_enough (nat_lt 80 (length bytes)) found
    where
      short_enough : (b : Bool) → cond b None (line_in readings (fields_of bytes)) ≡ Some line → SpellsLine spellings bytes line
      short_enough true e = cc
      short_enough false e = let fields = fields_are (fields_of bytes) line e in (sym (spelled-fields_of bytes) ∙ ap spelled fields.0, fields.1)

  -- a spelling is a good line
  line_said : (bytes : List ℕ) (line : ScriptLine C K) → SpellsLine spellings bytes line → line_of readings bytes ≡ Some line
  unfolding line_of
  line_said bytes line spells =
      let words = line_words line spells.1 in
      let fields = fields_of-words (line_fields spellings line) words in
      rw (spells.0, spelled_short (line_fields spellings line) words, fields) (fields_said line spells.1)

  -- both
  pub is_spelled : IsSpelled readings spellings
  is_spelled = λ bytes line. (line_found bytes line, line_said bytes line)

-- the same of first lines: a word and a room
made_roomed : (name : List ℕ) (make : ℕ → FirstLine) (word room : List ℕ) (first : FirstLine) → word ≡ name
    → ((r : ℕ) → first_fields (make r) ≡ name ∷ decimal r ∷ []) → ((r : ℕ) → IsRoom r → IsFirstInRange (make r))
    → option_map make (room_of room) ≡ Some first
    → ((word ∷ room ∷ []) ≡ first_fields first) × IsFirstInRange first
made_roomed name make word room first is fields range e =
    let r = option_map-found make (room_of room) first e in
    let room_written = room_found room r.0 r.1 in
    let is_room : room ≡ decimal r.0 = room_written.0 in
    let spelled : name ∷ decimal r.0 ∷ [] ≡ first_fields (make r.0) = sym (fields r.0) in
    let written : (word ∷ room ∷ []) ≡ name ∷ decimal r.0 ∷ [] = cc in
    subst (λ f. ((word ∷ room ∷ []) ≡ first_fields f) × IsFirstInRange f) r.2 (written ∙ spelled, range r.0 room_written.1)

-- a word, a number and a room
made_counted : (name : List ℕ) (make : ℕ → ℕ → FirstLine) (word number room : List ℕ) (first : FirstLine) → word ≡ name
    → ((n r : ℕ) → first_fields (make n r) ≡ name ∷ decimal n ∷ decimal r ∷ []) → ((n r : ℕ) → IsNumber n → IsRoom r → IsFirstInRange (make n r))
    → option_and_then (λ n. option_map (λ r. make n r) (room_of room)) (number_of number) ≡ Some first
    → ((word ∷ number ∷ room ∷ []) ≡ first_fields first) × IsFirstInRange first
made_counted name make word number room first is fields range e =
    let n = option_and_then-found (λ n. option_map (λ r. make n r) (room_of room)) (number_of number) first e in
    let r = option_map-found (λ r. make n.0 r) (room_of room) first n.2 in
    let number_written = number_found number n.0 n.1 in
    let room_written = room_found room r.0 r.1 in
    let is_number : number ≡ decimal n.0 = number_written.0 in
    let is_room : room ≡ decimal r.0 = room_written.0 in
    let spelled : name ∷ decimal n.0 ∷ decimal r.0 ∷ [] ≡ first_fields (make n.0 r.0) = sym (fields n.0 r.0) in
    let written : (word ∷ number ∷ room ∷ []) ≡ name ∷ decimal n.0 ∷ decimal r.0 ∷ [] = cc in
    subst (λ f. ((word ∷ number ∷ room ∷ []) ≡ first_fields f) × IsFirstInRange f) r.2 (written ∙ spelled, range n.0 r.0 number_written.1 room_written.1)

roomed_found : (word room : List ℕ) (first : FirstLine) → roomed_made word (room_of room) ≡ Some first
    → ((word ∷ room ∷ []) ≡ first_fields first) × IsFirstInRange first
unfolding roomed_made
roomed_found word room first found =
    with_lock (bytes_eq word (codes "lock")) (bytes_eq-Decides word (codes "lock")).0 found
  where
    with_gate : (b : Bool) → (b ≡ true → word ≡ codes "gate")
        → cond b (option_map (λ r. Gate r) (room_of room)) None ≡ Some first
        → ((word ∷ room ∷ []) ≡ first_fields first) × IsFirstInRange first
    with_gate true same e = made_roomed (codes "gate") (λ r. Gate r) word room first (same refl) (λ r. refl) (λ r small. small) e
    with_gate false same e = cc

    with_lock : (b : Bool) → (b ≡ true → word ≡ codes "lock")
        → cond b (option_map (λ r. Lock r) (room_of room)) (cond (bytes_eq word (codes "gate")) (option_map (λ r. Gate r) (room_of room)) None) ≡ Some first
        → ((word ∷ room ∷ []) ≡ first_fields first) × IsFirstInRange first
    with_lock true same e = made_roomed (codes "lock") (λ r. Lock r) word room first (same refl) (λ r. refl) (λ r small. small) e
    with_lock false same e = with_gate (bytes_eq word (codes "gate")) (bytes_eq-Decides word (codes "gate")).0 e

counted_found : (word number room : List ℕ) (first : FirstLine) → counted_made word (number_of number) (room_of room) ≡ Some first
    → ((word ∷ number ∷ room ∷ []) ≡ first_fields first) × IsFirstInRange first
unfolding counted_made
counted_found word number room first found =
    with_semaphore (bytes_eq word (codes "semaphore")) (bytes_eq-Decides word (codes "semaphore")).0 found
  where
    with_barrier : (b : Bool) → (b ≡ true → word ≡ codes "barrier")
        → cond b (option_and_then (λ n. option_map (λ r. Barrier n r) (room_of room)) (number_of number)) None ≡ Some first
        → ((word ∷ number ∷ room ∷ []) ≡ first_fields first) × IsFirstInRange first
    with_barrier true same e = made_counted (codes "barrier") (λ n r. Barrier n r) word number room first (same refl) (λ n r. refl) (λ n r small fits. (small, fits)) e
    with_barrier false same e = cc

    with_semaphore : (b : Bool) → (b ≡ true → word ≡ codes "semaphore")
        → cond b (option_and_then (λ p. option_map (λ r. Semaphore p r) (room_of room)) (number_of number)) (cond (bytes_eq word (codes "barrier")) (option_and_then (λ n. option_map (λ r. Barrier n r) (room_of room)) (number_of number)) None) ≡ Some first
        → ((word ∷ number ∷ room ∷ []) ≡ first_fields first) × IsFirstInRange first
    with_semaphore true same e = made_counted (codes "semaphore") (λ p r. Semaphore p r) word number room first (same refl) (λ p r. refl) (λ p r small fits. (small, fits)) e
    with_semaphore false same e = with_barrier (bytes_eq word (codes "barrier")) (bytes_eq-Decides word (codes "barrier")).0 e

-- a word, a bound, a number and a room
bounded_found : (word bound number room : List ℕ) (first : FirstLine) → bounded_made word (bound_of bound) (number_of number) (room_of room) ≡ Some first
    → ((word ∷ bound ∷ number ∷ room ∷ []) ≡ first_fields first) × IsFirstInRange first
unfolding bounded_made
bounded_found word bound number room first found =
    with_bounded (bytes_eq word (codes "bounded")) (bytes_eq-Decides word (codes "bounded")).0 found
  where
    with_bounded : (b : Bool) → (b ≡ true → word ≡ codes "bounded")
        → cond b (option_and_then (λ m. option_and_then (λ p. option_map (λ r. Bounded m p r) (room_of room)) (number_of number)) (bound_of bound)) None ≡ Some first
        → ((word ∷ bound ∷ number ∷ room ∷ []) ≡ first_fields first) × IsFirstInRange first
    with_bounded true same e =
        let m = option_and_then-found (λ m. option_and_then (λ p. option_map (λ r. Bounded m p r) (room_of room)) (number_of number)) (bound_of bound) first e in
        let p = option_and_then-found (λ p. option_map (λ r. Bounded m.0 p r) (room_of room)) (number_of number) first m.2 in
        let r = option_map-found (λ r. Bounded m.0 p.0 r) (room_of room) first p.2 in
        let number_written = number_found number p.0 p.1 in
        let room_written = room_found room r.0 r.1 in
        let is_word : word ≡ codes "bounded" = same refl in
        let is_bound : bound ≡ decimal (bound_number m.0) = bound_found bound m.0 m.1 in
        let is_number : number ≡ decimal p.0 = number_written.0 in
        let is_room : room ≡ decimal r.0 = room_written.0 in
        let written : (word ∷ bound ∷ number ∷ room ∷ []) ≡ first_fields (Bounded m.0 p.0 r.0) = cc in
        subst (λ f. ((word ∷ bound ∷ number ∷ room ∷ []) ≡ first_fields f) × IsFirstInRange f) {x = Bounded m.0 p.0 r.0} r.2 (written, (number_written.1, room_written.1))
    with_bounded false same e = cc

first_fields_found : (fields : List (List ℕ)) (first : FirstLine) → first_line_in fields ≡ Some first → (fields ≡ first_fields first) × IsFirstInRange first
first_fields_found [] first found = cc
first_fields_found (word ∷ []) first found = cc
first_fields_found (word ∷ room ∷ []) first found = roomed_found word room first found
first_fields_found (word ∷ number ∷ room ∷ []) first found = counted_found word number room first found
first_fields_found (word ∷ bound ∷ number ∷ room ∷ []) first found = bounded_found word bound number room first found
first_fields_found (word ∷ bound ∷ number ∷ room ∷ field ∷ fields) first found = cc

first_fields_said : (first : FirstLine) → IsFirstInRange first → first_line_in (first_fields first) ≡ Some first
unfolding roomed_made counted_made bounded_made
first_fields_said (Semaphore permits room) small = rw (number_said permits small.0, room_said room small.1) refl
first_fields_said (Bounded bound permits room) small = rw (bound_said bound, number_said permits small.0, room_said room small.1) refl
first_fields_said (Lock room) small = rw (room_said room small) refl
first_fields_said (Gate room) small = rw (room_said room small) refl
first_fields_said (Barrier size room) small = rw (number_said size small.0, room_said room small.1) refl

-- a bound can be written
bound_small : (bound : Bound) → IsNumber (bound_number bound)
bound_small One = omega arith
bound_small Thousand = omega arith
bound_small Greatest = omega arith

first_words : (first : FirstLine) → IsFirstInRange first → Words (first_fields first)
first_words (Semaphore permits room) small = record {
  are = (IsWord-literal (codes "semaphore") refl refl, (IsWord-decimal permits small.0, (IsWord-decimal room (omega (arith, small.1)), tt)));
  some = omega arith;
  few = omega arith;
}
first_words (Bounded bound permits room) small = record {
  are = (IsWord-literal (codes "bounded") refl refl, (IsWord-decimal (bound_number bound) (bound_small bound), (IsWord-decimal permits small.0, (IsWord-decimal room (omega (arith, small.1)), tt))));
  some = omega arith;
  few = omega arith;
}
first_words (Lock room) small = record {
  are = (IsWord-literal (codes "lock") refl refl, (IsWord-decimal room (omega (arith, small)), tt));
  some = omega arith;
  few = omega arith;
}
first_words (Gate room) small = record {
  are = (IsWord-literal (codes "gate") refl refl, (IsWord-decimal room (omega (arith, small)), tt));
  some = omega arith;
  few = omega arith;
}
first_words (Barrier size room) small = record {
  are = (IsWord-literal (codes "barrier") refl refl, (IsWord-decimal size small.0, (IsWord-decimal room (omega (arith, small.1)), tt)));
  some = omega arith;
  few = omega arith;
}

pub first_found : (bytes : List ℕ) (first : FirstLine) → first_line_of bytes ≡ Some first → SpellsFirst bytes first
unfolding first_line_of
first_found bytes first found = short_enough (nat_lt 80 (length bytes)) found
  where
    short_enough : (b : Bool) → cond b None (first_line_in (fields_of bytes)) ≡ Some first → SpellsFirst bytes first
    short_enough true e = cc
    short_enough false e = let fields = first_fields_found (fields_of bytes) first e in (sym (spelled-fields_of bytes) ∙ ap spelled fields.0, fields.1)

pub first_said : (bytes : List ℕ) (first : FirstLine) → SpellsFirst bytes first → first_line_of bytes ≡ Some first
unfolding first_line_of
first_said bytes first spells =
    let words = first_words first spells.1 in
    let fields = fields_of-words (first_fields first) words in
    rw (spells.0, spelled_short (first_fields first) words, fields) (first_fields_said first spells.1)
