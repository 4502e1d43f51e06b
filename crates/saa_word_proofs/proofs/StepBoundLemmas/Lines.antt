-- Ways along the line, and along those whose answers are to be shown, where words, places and the abstract state stand together.
use Rattle.std.proofs.Common.{◌≡◌, ℕ, ◌+◌, ◌<◌, ◌≤◌, pred, false, ◌==◌, List, [], ◌∷◌, ◌++◌, length, refl, sym, ap, subst, ◌∙◌, arith, length-append, append_assoc}
use Rattle.std.specs.Prelude.{nat_lt}
use Rattle.std.proofs.lemmas.Bool.Decides.{nat_tests}
use Rattle.saa_core_spec.specs.Object.{one_if, times}
use Rattle.saa_core_spec.proofs.Counts.{number_same, one_if-le, times-append}
use Rattle.saa_core_words.specs.declared.word.Word.{Word}
use Rattle.saa_core_words.specs.declared.line_word.LineWord.{LineWord}
use Rattle.saa_core_words.specs.Words.{line_number, line_word_of}
use Rattle.saa_word_steps.specs.declared.place.Place.{Place}
use Rattle.saa_word_steps.specs.Needs.{Needs}
use Rattle.saa_word_steps.specs.AbstractState.{AbstractState, held_by}
use Rattle.saa_word_steps.proofs.AbstractRuns.{waits-none}
use Rattle.saa_word_proofs.specs.Refinement.{newest, Work, IsAt, IsBack, IsFound, Invariant}
use Rattle.saa_word_proofs.specs.Rows.{IsBehind, line_of, main_of, updated}
use Rattle.saa_word_proofs.proofs.RefinementLemmas.Lists.{newest-uncut, newest-append, newest-last}
use Rattle.saa_word_proofs.proofs.RefinementLemmas.Rows.{row-other}
use Rattle.saa_word_proofs.proofs.RefinementLemmas.Linking.{IsLooked, looked}
use Rattle.saa_word_proofs.proofs.RefinementLemmas.Frames.{newest-stands}
use Rattle.saa_word_proofs.specs.StepBound.{way, waiting}
use Rattle.saa_word_proofs.proofs.StepBoundLemmas.Ways.{IsWay, way-front, way-older, way-length, older-length, apart-way, once-in, link-way}

-- what is known of a place at which the holder writes a newer link
pub record IsBackWay (places : ℕ) (row : ℕ → ℕ) (current newer : ℕ) (line : LineWord) : Type 0 where
  pub some : 0 < current
  pub older : way places row current ≡ way places row line.older + 1
  pub stored : (line_word_of (line_number (record line { newer = newer }))).older ≡ (line_word_of (row current)).older

-- what a cut leaves: as many are met from the link that it takes away as stand in the front, and as many wait as stand behind it
pub record IsCut (places : ℕ) (row new : ℕ → ℕ) (older front behind joined : ℕ) : Type 0 where
  pub main : new 0 ≡ row 0
  pub some : 0 < behind
  pub front_ways : way places new older ≡ front
  pub rest_was : waiting (way places row) (row 0) ≡ front + (behind + joined)
  pub rest_ways : waiting (way places new) (row 0) ≡ behind + joined

-- what unlinking leaves: so many stay before the place that leaves, so many are behind it, and so many were enqueued since
pub record IsPast (places : ℕ) (row new : ℕ → ℕ) (older newer tail before behind joined : ℕ) : Type 0 where
  pub main : new 0 ≡ row 0
  pub some : 0 < behind
  pub older_was : way places row older ≡ before
  pub older_ways : way places new older ≡ before
  pub newer_ways : way places new newer ≡ before + 1
  pub tail_was : way places row tail ≡ before + behind + 1
  pub tail_ways : way places new tail ≡ before + behind
  pub rest_was : waiting (way places row) (row 0) ≡ before + behind + joined + 1
  pub rest_ways : waiting (way places new) (row 0) ≡ before + behind + joined

module _ (needs : Needs) (places : ℕ) (row : ℕ → ℕ) (standing : ℕ → Place) (state : AbstractState) (s : Invariant needs places row standing state) where
  -- what is held is a place, once
  seat : (place : ℕ) → held_by place state ≤ one_if (nat_lt place places)
  seat place = grind (arith, nat_tests, s.seats.held place, s.seats.within place)

  held-way : (link : ℕ) (part : List (ℕ × ℕ)) → IsBehind (line_of row) 0 part → link ≡ newest 0 part
      → ((place : ℕ) → times place part ≤ held_by place state) → IsWay places row link part
  held-way link part behind leads held = record { behind = behind; leads = leads; seats = λ place. omega (arith, held place, seat place) }

  -- a place whose answer is to be shown isn't in the line, and one in the line has none to be shown
  pub unshown-held : (shows place : ℕ) → times place (s.unshown shows) + times place state.line ≤ held_by place state
  unshown-held shows place = grind (arith, s.grants.once shows place, s.grants.granted_to shows place, waits-none place (s.unshown shows))

  pub unshown-none : (shows place : ℕ) → 0 < times place state.line → times place (s.unshown shows) ≡ 0
  unshown-none shows place there = omega (arith, there, unshown-held shows place, seat place, one_if-le (nat_lt place places))

  -- the newest whose answer a place has to show leads along all of them
  pub unshown-way : (shows link : ℕ) → link ≡ newest 0 (s.unshown shows) → IsWay places row link (s.unshown shows)
  unshown-way shows link leads = held-way link (s.unshown shows) (s.grants.links shows) leads (λ place. omega (arith, unshown-held shows place))

  -- the tail leads along the places that aren't cut off, and the newest of those that are along them
  parts-times : (place : ℕ) → times place state.line ≡ times place s.cut + times place s.uncut
  parts-times place = ap (times place) s.line.parts ∙ times-append place s.cut s.uncut

  pub uncut-way : IsWay places row (main_of row).tail s.uncut
  uncut-way =
      held-way _ s.uncut s.line.stays (s.main.tail ∙ newest-uncut state.line s.cut s.uncut s.line.parts s.line.some) (λ place. omega (arith, parts-times place))

  pub cut-way : (link : ℕ) → link ≡ newest 0 s.cut → IsWay places row link s.cut
  cut-way link leads = held-way link s.cut s.line.granted leads (λ place. omega (arith, parts-times place))

  -- where nobody is cut off, the newest of a front of the line leads along it
  line-way : s.cut ≡ [] → IsWay places row (main_of row).tail state.line
  line-way whole =
      let is : state.line ≡ s.uncut = grind (arith, s.line.parts, whole) in rw is uncut-way

  pub part-way : s.cut ≡ [] → (part rest : List (ℕ × ℕ)) → state.line ≡ part ++ rest → (link : ℕ) → link ≡ newest 0 part → IsWay places row link part
  part-way whole = way-front places row (main_of row).tail state.line (line-way whole)

  -- The line as the holder of the flag sees it

  module _ (seen : Word) (work : Work state.count state.line seen) (whole : s.cut ≡ []) where
    -- the tail that was seen leads along the front and those behind it
    pub tail-length : way places row seen.tail ≡ length work.front + length work.behind
    tail-length =
        way-length places row seen.tail (work.front ++ work.behind)
        (part-way whole (work.front ++ work.behind) work.joined (work.parts ∙ sym (append_assoc work.front work.behind work.joined)) seen.tail work.tail)
        ∙ length-append work.front work.behind

    -- so many wait as the front, those behind it and those enqueued since
    pub line-length : waiting (way places row) (row 0) ≡ length work.front + (length work.behind + length work.joined)
    line-length =
        omega (
          arith,
          way-length places row (main_of row).tail state.line (line-way whole),
          ap length work.parts,
          length-append work.front (work.behind ++ work.joined),
          length-append work.behind work.joined,
        )

    -- the newest of the front leads along it, and a newer link that the holder writes there leaves all ways
    pub back-way : (current newer : ℕ) (line : LineWord) → IsBack (line_of row) work.front work.behind current newer → line ≡ line_of row (pred current)
        → IsBackWay places row current newer line
    back-way current newer line back read =
        let linked = newest-stands work.front current back.1 back.0 in
        let leads = part-way whole work.front (work.behind ++ work.joined) work.parts current back.0 in
        let found : line ≡ line_word_of (row current) = read ∙ ap (λ (n : ℕ). line_word_of (row n)) (sym linked.1) in
        record {
          some = omega (arith, linked.1);
          older = grind (arith, older-length places row current work.front leads back.1, found);
          stored = omega (arith, ap (λ (w : LineWord). w.older) found, ap (λ (w : LineWord). w.request) found);
        }

    -- the first of those behind the front leads along the front and itself, and its newer link to one more
    pub look : (current : ℕ) → IsAt (line_of row) work.behind current → IsLooked (line_of row) state.count state.line seen work current
    look current = looked (line_of row) state.count state.line seen work current (line-way whole).behind

    pub look-parts : (current : ℕ) (l : IsLooked (line_of row) state.count state.line seen work current)
        → state.line ≡ work.front ++ l.asker ∷ (l.rest ++ work.joined)
    look-parts current l = work.parts ∙ ap (λ (behind : List (ℕ × ℕ)). work.front ++ (behind ++ work.joined)) l.behind

    pub look-there : (current : ℕ) (l : IsLooked (line_of row) state.count state.line seen work current) → 0 < times l.asker.0 state.line
    look-there current l =
        omega (
          arith,
          ap (times l.asker.0) (look-parts current l),
          times-append l.asker.0 work.front (l.asker ∷ (l.rest ++ work.joined)),
          ap one_if (number_same l.asker.0),
        )

    pub at-way : (current : ℕ) (l : IsLooked (line_of row) state.count state.line seen work current)
        → IsWay places row current (work.front ++ l.asker ∷ [])
    at-way current l =
        part-way whole (work.front ++ l.asker ∷ []) (l.rest ++ work.joined)
        (look-parts current l ∙ sym (append_assoc work.front (l.asker ∷ []) (l.rest ++ work.joined))) current (l.link ∙ sym (newest-last 0 work.front l.asker))

    pub at-length : (current : ℕ) → IsAt (line_of row) work.behind current → (way places row current ≡ length work.front + 1) × (0 < length work.behind)
    at-length current at =
        let l = look current at in
        (way-length places row current _ (at-way current l) ∙ length-append work.front (l.asker ∷ []), omega (arith, ap length l.behind))

    pub next-length : (behind : List (ℕ × ℕ)) (current : ℕ) → work.behind ≡ behind → IsAt (line_of row) behind current → current == seen.tail ≡ false
        → way places row (line_word_of (row current)).newer ≡ length work.front + 2
    next-length [] current is at more = absurd (cc)
    next-length (asker ∷ []) current is at more = absurd (grind (arith, nat_tests, more, work.tail, is, newest-last 0 work.front asker, at.0))
    next-length (asker ∷ (next ∷ rest)) current is at more =
        let both : List (ℕ × ℕ) = work.front ++ asker ∷ (next ∷ []) in
        let parts : state.line ≡ both ++ (rest ++ work.joined) = grind (arith, work.parts, is, append_assoc work.front (asker ∷ (next ∷ []))) in
        let link : (line_word_of (row current)).newer ≡ newest 0 both = grind (arith, at, newest-append 0 work.front (asker ∷ (next ∷ []))) in
        way-length places row _ both (part-way whole both (rest ++ work.joined) parts _ link) ∙ length-append work.front (asker ∷ (next ∷ []))

    -- where the first of those behind the front is linked to the newest of some of the front, the tail leads along those and all behind the front
    link-line : (index older : ℕ) (line : LineWord) (l : IsLooked (line_of row) state.count state.line seen work index) (before : List (ℕ × ℕ))
        → line ≡ line_of row (pred index) → older ≡ newest 0 before → older < 65536 → IsBehind (line_of row) 0 before
        → ((place : ℕ) → times place before ≤ times place work.front)
        → IsWay places (updated row index (line_number (record line { older = older }))) (main_of row).tail (before ++ l.asker ∷ (l.rest ++ work.joined))
    link-line index older line l before read older_is small behind fewer =
        let leads = subst (λ (all : List (ℕ × ℕ)). IsWay places row (main_of row).tail all) (look-parts index l) (line-way whole) in
        let place_is : pred index ≡ l.asker.0 = omega (arith, l.link) in
        let number : ℕ = line_number (record line { older = older }) in
        let line_is : line ≡ line_of row l.asker.0 = read ∙ ap (line_of row) place_is in
        let request : (line_word_of number).request ≡ (line_of row l.asker.0).request = omega (arith, small, ap (λ (w : LineWord). w.request) line_is) in
        let linked : (line_word_of number).older ≡ newest 0 before = omega (arith, small, older_is, ap (λ (w : LineWord). w.request) line_is) in
        let tail : (main_of row).tail ≡ newest 0 (before ++ l.asker ∷ (l.rest ++ work.joined)) =
        leads.leads ∙ newest-append 0 work.front (l.asker ∷ (l.rest ++ work.joined)) ∙ sym (newest-append 0 before (l.asker ∷ (l.rest ++ work.joined))) in
        let after = link-way places row (main_of row).tail work.front before (l.rest ++ work.joined) l.asker number leads behind fewer request linked in
        rw (l.link, tail) after

    -- where it is cut off from the front
    pub cut-line : (current : ℕ) (line : LineWord) → IsAt (line_of row) work.behind current → line ≡ line_of row (pred current)
        → IsCut places row (updated row current (line_number (record line { older = 0 }))) line.older (length work.front) (length work.behind)
        (length work.joined)
    cut-line current line at read =
        let l = look current at in
        let number : ℕ = line_number (record line { older = 0 }) in
        let leads = subst (λ (all : List (ℕ × ℕ)). IsWay places row (main_of row).tail all) (look-parts current l) (line-way whole) in
        let before = part-way whole work.front (work.behind ++ work.joined) work.parts line.older (ap (λ (w : LineWord). w.older) read ∙ l.older) in
        let after = link-line current 0 line l [] read refl (omega arith) tt (λ place. omega arith) in
        record {
          main = row-other row current number 0 (λ wrong. absurd (omega (arith, wrong, l.link)));
          some = omega (arith, ap length l.behind);
          front_ways = rw l.link (way-length places (updated row (l.asker.0 + 1) number) line.older work.front
              (apart-way places row line.older work.front l.asker.0 number before
              (once-in places row (main_of row).tail work.front (l.rest ++ work.joined) l.asker leads).0));
          rest_was = line-length;
          rest_ways = way-length places (updated row current number) (main_of row).tail _ after
              ∙ omega (arith, ap length l.behind, length-append l.rest work.joined);
        }

    -- where the holder found itself as the last of the front, its older link leads along those before it
    pub found-way : (me older : ℕ) (found : IsFound me work.front older) → IsWay places row older found.0 × (older < 65536)
    found-way me older found =
        let parts = work.parts ∙ ap (λ (l : List (ℕ × ℕ)). l ++ (work.behind ++ work.joined)) found.2 in
        let before = way-older places row _ found.0 (me, found.1)
        (part-way whole (found.0 ++ (me, found.1) ∷ []) (work.behind ++ work.joined) parts _ refl) in
        let older_is : older ≡ (line_of row me).older = found.3 ∙ sym before.leads in
        (subst (λ (n : ℕ). IsWay places row n found.0) (sym older_is) before, omega (arith, older_is))

    -- and where the first of those behind it is linked past it
    pub past-line : (me newer older : ℕ) (line : LineWord) (found : IsFound me work.front older) → IsAt (line_of row) work.behind newer
        → line ≡ line_of row (pred newer)
        → IsPast places row (updated row newer (line_number (record line { older = older }))) older newer seen.tail (length found.0) (length work.behind)
        (length work.joined)
    past-line me newer older line found at read =
        let l = look newer at in
        let before : List (ℕ × ℕ) = found.0 in
        let rest : List (ℕ × ℕ) = l.rest ++ work.joined in
        let size : length work.front ≡ length before + 1 = ap length found.2 ∙ length-append before ((me, found.1) ∷ []) in
        let sizes : length work.behind ≡ length l.rest + 1 = ap length l.behind ∙ omega arith in
        let old = found-way me older found in
        let new : ℕ → ℕ = updated row newer (line_number (record line { older = older })) in
        let after = link-line newer older line l before read found.3 old.1 old.0.behind
        (λ place. omega (arith, ap (times place) found.2, times-append place before ((me, found.1) ∷ []))) in
        let part : (part others : List (ℕ × ℕ)) → before ++ l.asker ∷ rest ≡ part ++ others → (link : ℕ) → link ≡ newest 0 part
        → way places new link ≡ length part =
        λ part others is link leads. way-length places new link part (way-front places new _ (before ++ l.asker ∷ rest) after part others is link leads) in
        let tail : seen.tail ≡ newest 0 (before ++ l.asker ∷ l.rest) =
        work.tail ∙ newest-append 0 work.front work.behind ∙ ap (newest (newest 0 work.front)) l.behind ∙ sym (newest-append 0 before (l.asker ∷ l.rest)) in
        record {
          main = row-other row newer (line_number (record line { older = older })) 0 (λ wrong. absurd (omega (arith, wrong, l.link)));
          some = omega (arith, sizes);
          older_was = way-length places row older before old.0;
          older_ways = part before (l.asker ∷ rest) refl older found.3;
          newer_ways = part (before ++ l.asker ∷ []) rest (sym (append_assoc before (l.asker ∷ []) rest)) newer (l.link ∙ sym (newest-last 0 before l.asker))
              ∙ length-append before (l.asker ∷ []);
          tail_was = omega (arith, tail-length, size);
          tail_ways = part (before ++ l.asker ∷ l.rest) work.joined (sym (append_assoc before (l.asker ∷ l.rest) work.joined)) seen.tail tail
              ∙ omega (arith, length-append before (l.asker ∷ l.rest), sizes);
          rest_was = omega (arith, line-length, size);
          rest_ways = way-length places new (main_of row).tail (before ++ l.asker ∷ rest) after
              ∙ omega (arith, length-append before (l.asker ∷ rest), length-append l.rest work.joined, sizes);
        }
