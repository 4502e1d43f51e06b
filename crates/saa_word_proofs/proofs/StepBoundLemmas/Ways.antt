-- Ways along older links: as long as the line that they lead along, whatever a store leaves of that line.
use Rattle.std.proofs.Common.{◌≡◌, ℕ, suc, zero, ◌+◌, ◌<◌, ◌≤◌, false, List, [], ◌∷◌, ◌++◌, length, refl, ap, subst, ◌∙◌, arith, inl, inr, length-append}
use Rattle.std.specs.Prelude.{nat_lt}
use Rattle.std.proofs.lemmas.Bool.{cases_Bool}
use Rattle.std.proofs.lemmas.Bool.Decides.{nat_tests}
use Rattle.saa_core_spec.specs.Object.{one_if, times, without}
use Rattle.saa_core_spec.proofs.Counts.{length-without, times-without_same, times-without_other, number_same, times-append, one_if-le}
use Rattle.saa_core_words.specs.declared.line_word.LineWord.{LineWord}
use Rattle.saa_core_words.specs.Words.{line_word_of}
use Rattle.saa_word_steps.specs.AbstractState.{is_empty}
use Rattle.saa_word_proofs.specs.Refinement.{newest}
use Rattle.saa_word_proofs.specs.Rows.{IsBehind, line_of, updated}
use Rattle.saa_word_proofs.proofs.RefinementLemmas.Lists.{all-same, newest-last, empty-nil, split-last, behind-append, behind-frame, behind-front, behind-rest}
use Rattle.saa_word_proofs.proofs.RefinementLemmas.Rows.{line-at}
use Rattle.saa_word_proofs.specs.StepBound.{met, way}

-- A way that leads along a line

-- a link leads to the newest of a line, in which each place stands once
pub record IsWay (places : ℕ) (row : ℕ → ℕ) (link : ℕ) (line : List (ℕ × ℕ)) : Type 0 where
  pub behind : IsBehind (line_of row) 0 line
  pub leads : link ≡ newest 0 line
  pub seats : (place : ℕ) → times place line ≤ one_if (nat_lt place places)

-- no more places stand in it than there are
length-places : (places : ℕ) (line : List (ℕ × ℕ)) → ((place : ℕ) → times place line ≤ one_if (nat_lt place places)) → length line ≤ places
length-places zero [] seats = omega arith
length-places zero (asker ∷ rest) seats = absurd (grind (arith, nat_tests, seats asker.0))
length-places (suc n) line seats =
    let fewer = length-places n (without n line) (λ place.
    grind (arith, nat_tests, seats place, times-without_same n line, times-without_other n place line)) in
    omega (arith, fewer, length-without n line, seats n, one_if-le (nat_lt n (suc n)))

-- nobody is met from no link
pub met-nobody : (places : ℕ) (row : ℕ → ℕ) (fuel : ℕ) → met places row fuel 0 ≡ 0
met-nobody places row fuel = grind arith

-- a front is led along from its newest, and the line before the newest from the older link of that
pub way-front : (places : ℕ) (row : ℕ → ℕ) (link : ℕ) (line : List (ℕ × ℕ)) → IsWay places row link line → (front behind : List (ℕ × ℕ))
    → line ≡ front ++ behind → (at : ℕ) → at ≡ newest 0 front → IsWay places row at front
way-front places row link line leads front behind is at newest_is = record {
  behind = behind-front (line_of row) 0 front behind (subst (λ (l : List (ℕ × ℕ)). IsBehind (line_of row) 0 l) is leads.behind);
  leads = newest_is;
  seats = λ place. omega (arith, leads.seats place, ap (times place) is, times-append place front behind);
}

pub way-older : (places : ℕ) (row : ℕ → ℕ) (link : ℕ) (before : List (ℕ × ℕ)) (last : ℕ × ℕ) → IsWay places row link (before ++ last ∷ [])
    → IsWay places row (line_of row last.0).older before
way-older places row link before last leads =
    way-front places row link (before ++ last ∷ []) leads before (last ∷ []) refl (line_of row last.0).older
    (behind-rest (line_of row) 0 before (last ∷ []) leads.behind).1

met-length : (places : ℕ) (row : ℕ → ℕ) (fuel link : ℕ) (line : List (ℕ × ℕ)) → length line ≤ fuel → IsWay places row link line
    → met places row fuel link ≡ length line
met-length places row zero link line room leads = omega (arith, room)
met-length places row (suc more) link line room leads =
    elim (cases_Bool (is_empty line)) [
      | inl none ↦ rw (leads.leads, empty-nil line none) refl
      | inr some ↦
          let parts = split-last line some in
          let whole = subst (λ (l : List (ℕ × ℕ)). IsWay places row link l) parts.is leads in
          let size : length line ≡ length parts.before + 1 = ap length parts.is ∙ length-append parts.before (parts.last ∷ []) in
          let rest = met-length places row more (line_of row parts.last.0).older parts.before (omega (arith, room, size))
          (way-older places row link parts.before parts.last whole) in
          grind (
            arith,
            nat_tests,
            whole.leads,
            newest-last 0 parts.before parts.last,
            whole.seats parts.last.0,
            times-append parts.last.0 parts.before (parts.last ∷ []),
            rest,
            size,
          )
    ]

-- a way is as long as the line that it leads along
pub way-length : (places : ℕ) (row : ℕ → ℕ) (link : ℕ) (line : List (ℕ × ℕ)) → IsWay places row link line → way places row link ≡ length line
way-length places row link line leads =
    met-length places row places link line (length-places places line leads.seats) leads

-- one more is met from the newest of a line than from its older link
pub older-length : (places : ℕ) (row : ℕ → ℕ) (link : ℕ) (line : List (ℕ × ℕ)) → IsWay places row link line → is_empty line ≡ false
    → way places row link ≡ way places row (line_word_of (row link)).older + 1
older-length places row link line leads some =
    let parts = split-last line some in
    let whole = subst (λ (l : List (ℕ × ℕ)). IsWay places row link l) parts.is leads in
    omega (
      arith,
      ap (λ (n : ℕ). way places row (line_word_of (row n)).older) (whole.leads ∙ newest-last 0 parts.before parts.last),
      way-length places row link (parts.before ++ parts.last ∷ []) whole,
      way-length places row (line_of row parts.last.0).older parts.before (way-older places row link parts.before parts.last whole),
      length-append parts.before (parts.last ∷ []),
    )

-- What a store leaves

met-same : (places : ℕ) (row new : ℕ → ℕ) (fuel link : ℕ)
    → ((at : ℕ) → 0 < at → at ≤ places → (line_word_of (new at)).older ≡ (line_word_of (row at)).older)
    → met places new fuel link ≡ met places row fuel link
met-same places row new zero link same = refl
met-same places row new (suc more) link same =
    grind (arith, nat_tests, same link, met-same places row new more (line_word_of (row link)).older same)

-- a store that leaves an older link leaves all ways, as one does that isn't made on a line word
pub ways-store : (places : ℕ) (row : ℕ → ℕ) (index number : ℕ)
    → (0 < index → index ≤ places → (line_word_of number).older ≡ (line_word_of (row index)).older)
    → way places (updated row index number) ≡ way places row
ways-store places row index number same =
    all-same (way places (updated row index number)) (way places row) (λ link. met-same places row (updated row index number) places link
    (λ at some within. grind (arith, nat_tests, same)))

-- a store to the line word of a place outside a line leaves the links of the line
apart-line : (row : ℕ → ℕ) (line : List (ℕ × ℕ)) (place number other : ℕ) → times place line ≡ 0 → 0 < times other line
    → ((line_of (updated row (place + 1) number) other).request ≡ (line_of row other).request)
    × ((line_of (updated row (place + 1) number) other).older ≡ (line_of row other).older)
apart-line row line place number other none there = grind (arith, nat_tests, none, there)

pub apart-way : (places : ℕ) (row : ℕ → ℕ) (link : ℕ) (line : List (ℕ × ℕ)) (place number : ℕ) → IsWay places row link line
    → times place line ≡ 0 → IsWay places (updated row (place + 1) number) link line
apart-way places row link line place number leads none = record {
  behind = behind-frame (line_of row) (line_of (updated row (place + 1) number)) 0 line (λ other. apart-line row line place number other none) leads.behind;
  leads = leads.leads;
  seats = leads.seats;
}

-- a place of a line stands in it once
pub once-in : (places : ℕ) (row : ℕ → ℕ) (link : ℕ) (front rest : List (ℕ × ℕ)) (asker : ℕ × ℕ) → IsWay places row link (front ++ asker ∷ rest)
    → (times asker.0 front ≡ 0) × (times asker.0 rest ≡ 0)
once-in places row link front rest asker leads =
    grind (arith, leads.seats asker.0, one_if-le (nat_lt asker.0 places), number_same asker.0, times-append asker.0 front (asker ∷ rest))

-- where a place of a line is linked to the newest of some before it, it leads along those and the rest
pub link-way : (places : ℕ) (row : ℕ → ℕ) (link : ℕ) (front before rest : List (ℕ × ℕ)) (asker : ℕ × ℕ) (number : ℕ)
    → IsWay places row link (front ++ asker ∷ rest) → IsBehind (line_of row) 0 before → ((place : ℕ) → times place before ≤ times place front)
    → (line_word_of number).request ≡ (line_of row asker.0).request → (line_word_of number).older ≡ newest 0 before
    → IsWay places (updated row (asker.0 + 1) number) (newest 0 (before ++ asker ∷ rest)) (before ++ asker ∷ rest)
link-way places row link front before rest asker number leads behind fewer request older =
    let linked = behind-rest (line_of row) 0 front (asker ∷ rest) leads.behind in
    let once = once-in places row link front rest asker leads in
    let at = line-at row asker.0 number in
    record {
      behind = behind-append (line_of (updated row (asker.0 + 1) number)) 0 before (asker ∷ rest)
          (behind-frame (line_of row) (line_of (updated row (asker.0 + 1) number)) 0 before
          (λ other. apart-line row before asker.0 number other (omega (arith, fewer asker.0, once.0))) behind) (
            ap (λ (w : LineWord). w.request) at ∙ request ∙ linked.0,
            ap (λ (w : LineWord). w.older) at ∙ older,
            behind-frame (line_of row) (line_of (updated row (asker.0 + 1) number)) (asker.0 + 1) rest
                (λ other. apart-line row rest asker.0 number other once.1) linked.2,
          );
      leads = refl;
      seats = λ place. omega (arith, fewer place, leads.seats place, times-append place front (asker ∷ rest), times-append place before (asker ∷ rest));
    }
