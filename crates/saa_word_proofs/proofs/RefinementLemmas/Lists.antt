-- Lines of places as lists: their ends, their members, and what their line words say.
use Rattle.std.proofs.Common.{◌≡◌, ℕ, ◌+◌, ◌<◌, ◌≤◌, Bool, true, false, ◌||◌, List, [], ◌∷◌, ◌++◌, length, take, drop, if◌then◌else◌, ◌==◌, refl, sym, ap, subst, ◌∙◌, arith}
use Rattle.std.proofs.lemmas.Bool.Decides.{nat_tests}
use Rattle.saa_core_spec.specs.Object.{times}
use Rattle.saa_core_spec.proofs.Counts.{number_same, same_number, one_if-same}
use Rattle.saa_core_words.specs.declared.line_word.LineWord.{LineWord}
use Rattle.saa_word_steps.specs.Needs.{Needs, AreNeeds}
use Rattle.saa_word_steps.specs.AbstractState.{is_empty, is_in, IsFront, takes_of}
use Rattle.saa_word_proofs.specs.Refinement.{newest, oldest, IsAhead}
use Rattle.saa_word_proofs.specs.Rows.{IsBehind, updated}

pub neither : (one other : Bool) → one || other ≡ false → (one ≡ false) × (other ≡ false)
neither one other is = (grind (arith, is), grind (arith, is))

-- functions that agree everywhere are one
pub all-same : {A : Type 0} (f g : ℕ → A) → ((n : ℕ) → f n ≡ g n) → f ≡ g
all-same f g same = λ i n. same n i

-- an update that writes what stood there changes nothing
pub updated-same : {A : Type 0} (old : ℕ → A) (at : ℕ) (value : A) → value ≡ old at → updated old at value ≡ old
updated-same old at value is = all-same _ _ (λ other. grind (arith, nat_tests, is))

pub updated-at : {A : Type 0} (old : ℕ → A) (at : ℕ) (value : A) → updated old at value at ≡ value
updated-at old at value = rw (number_same at) refl

pub updated-other : {A : Type 0} (old : ℕ → A) (at : ℕ) (value : A) (other : ℕ) → other == at ≡ false → updated old at value other ≡ old other
updated-other old at value other apart = rw apart refl

-- what holds of each place holds after one of them changed, where it holds of what that became
pub each-updated : {A : Type 0} (P : ℕ → A → Type 0) (old : ℕ → A) (at : ℕ) (value : A)
    → P at value → ((other : ℕ) → (other ≡ at → ⊥) → P other (old other)) → (other : ℕ) → P other (updated old at value other)
each-updated P old at value here others other = by (other == at) refl
  where
    by : (test : Bool) → other == at ≡ test → P other (if test then value else old other)
    by true same = subst (λ n. P n value) (sym (same_number other at same)) here
    by false apart = others other (λ is. let wrong : other == at ≡ true = ap (λ n. n == at) is ∙ number_same at in absurd (cc))

-- Who stands in a line

pub in-none : (place : ℕ) (line : List (ℕ × ℕ)) → times place line ≡ 0 → is_in place line ≡ false
in-none place [] none = refl
in-none place (asker ∷ rest) none = grind (arith, none, in-none place rest)

pub in-append : (place : ℕ) (front behind : List (ℕ × ℕ)) → is_in place (front ++ behind) ≡ (is_in place front || is_in place behind)
in-append place [] behind = refl
in-append place (asker ∷ rest) behind = grind (arith, in-append place rest behind)

-- whose times are counted is in
pub in-some : (place : ℕ) (line : List (ℕ × ℕ)) → 0 < times place line → is_in place line ≡ true
in-some place [] some = absurd (omega (arith, some))
in-some place (asker ∷ rest) some = grind (arith, some, in-some place rest)

-- Ends of a line

pub newest-append : (older : ℕ) (front behind : List (ℕ × ℕ)) → newest older (front ++ behind) ≡ newest (newest older front) behind
newest-append older [] behind = refl
newest-append older (asker ∷ rest) behind = newest-append (asker.0 + 1) rest behind

-- the newest of a line that isn't empty doesn't depend on the place before the line
pub newest-any : (one other : ℕ) (line : List (ℕ × ℕ)) → is_empty line ≡ false → newest one line ≡ newest other line
newest-any one other line some = grind (arith, some)

pub newest-some : (older : ℕ) (line : List (ℕ × ℕ)) → is_empty line ≡ false → 0 < newest older line
newest-some older [] some = absurd (cc)
newest-some older (asker ∷ rest) some = grind (arith, newest-some (asker.0 + 1) rest)

-- nobody is the newest exactly where nobody stands in the line
pub newest-empty : (line : List (ℕ × ℕ)) → newest 0 line == 0 ≡ is_empty line
newest-empty line = grind (arith, nat_tests, newest-some 0 line)

-- and the newest of those that aren't cut off is the newest of all
pub newest-uncut : (line cut uncut : List (ℕ × ℕ)) → line ≡ cut ++ uncut → (is_empty uncut ≡ true → cut ≡ []) → newest 0 line ≡ newest 0 uncut
newest-uncut line cut uncut parts some = grind (arith, parts, some, newest-append 0 cut uncut, newest-any (newest 0 cut) 0 uncut)

-- nobody is the oldest exactly where nobody stands in the line
pub oldest-empty : (line : List (ℕ × ℕ)) → oldest line == 0 ≡ is_empty line
oldest-empty line = grind (arith, nat_tests)

-- the newest stands in the line
pub newest-in : (older place : ℕ) (line : List (ℕ × ℕ)) → is_empty line ≡ false → newest older line ≡ place + 1 → 0 < times place line
newest-in older place [] some is = absurd (cc)
newest-in older place (asker ∷ rest) some is = grind (arith, nat_tests, is, newest-in (asker.0 + 1) place rest)

pub empty-nil : (line : List (ℕ × ℕ)) → is_empty line ≡ true → line ≡ []
empty-nil line none = grind (arith, none)

-- the newest of a front is there exactly where somebody stands in it
pub front-none : (front : List (ℕ × ℕ)) (top : ℕ) → top ≡ newest 0 front → top == 0 ≡ true → front ≡ []
front-none front top is none = empty-nil front (sym (newest-empty front) ∙ ap (λ (n : ℕ). n == 0) (sym is) ∙ none)

pub front-some : (front : List (ℕ × ℕ)) (top : ℕ) → top ≡ newest 0 front → top == 0 ≡ false → is_empty front ≡ false
front-some front top is some = sym (newest-empty front) ∙ ap (λ (n : ℕ). n == 0) (sym is) ∙ some

-- a line in which somebody stands has a newest
pub record IsSplit (line : List (ℕ × ℕ)) : Type 0 where
  pub before : List (ℕ × ℕ)
  pub last : ℕ × ℕ
  pub is : line ≡ before ++ last ∷ []

pub split-last : (line : List (ℕ × ℕ)) → is_empty line ≡ false → IsSplit line
split-last [] some = absurd (cc)
split-last (asker ∷ []) some = record { before = []; last = asker; is = refl }
split-last (asker ∷ (next ∷ rest)) some =
    let of_rest = split-last (next ∷ rest) refl in
    record { before = asker ∷ of_rest.before; last = of_rest.last; is = ap (λ (l : List (ℕ × ℕ)). asker ∷ l) of_rest.is }

pub newest-last : (older : ℕ) (before : List (ℕ × ℕ)) (last : ℕ × ℕ) → newest older (before ++ last ∷ []) ≡ last.0 + 1
newest-last older before last = newest-append older before (last ∷ [])

-- What line words say of a line

-- line words that are the same for the members of a line say the same of it
pub behind-frame : (old new : ℕ → LineWord) (older : ℕ) (line : List (ℕ × ℕ))
    → ((place : ℕ) → 0 < times place line → ((new place).request ≡ (old place).request) × ((new place).older ≡ (old place).older))
    → IsBehind old older line → IsBehind new older line
behind-frame old new older [] same h = tt
behind-frame old new older (asker ∷ rest) same h =
    let here = same asker.0 (omega (arith, one_if-same asker.0)) in
    (here.0 ∙ h.0, here.1 ∙ h.1, behind-frame old new (asker.0 + 1) rest (λ place there. same place (omega (arith, there))) h.2)

-- and so do line words that are the same in all
pub behind-same : (old new : ℕ → LineWord) (older : ℕ) (line : List (ℕ × ℕ)) → ((place : ℕ) → 0 < times place line → new place ≡ old place)
    → IsBehind old older line → IsBehind new older line
behind-same old new older line same =
    behind-frame old new older line (λ place there. (ap (λ (w : LineWord). w.request) (same place there), ap (λ (w : LineWord). w.older) (same place there)))

pub behind-append : (words : ℕ → LineWord) (older : ℕ) (front behind : List (ℕ × ℕ))
    → IsBehind words older front → IsBehind words (newest older front) behind → IsBehind words older (front ++ behind)
behind-append words older [] behind f b = b
behind-append words older (asker ∷ rest) behind f b = (f.0, f.1, behind-append words (asker.0 + 1) rest behind f.2 b)

pub behind-front : (words : ℕ → LineWord) (older : ℕ) (front behind : List (ℕ × ℕ)) → IsBehind words older (front ++ behind) → IsBehind words older front
behind-front words older [] behind h = tt
behind-front words older (asker ∷ rest) behind h = (h.0, h.1, behind-front words (asker.0 + 1) rest behind h.2)

pub behind-rest : (words : ℕ → LineWord) (older : ℕ) (front behind : List (ℕ × ℕ))
    → IsBehind words older (front ++ behind) → IsBehind words (newest older front) behind
behind-rest words older [] behind h = h
behind-rest words older (asker ∷ rest) behind h = behind-rest words (asker.0 + 1) rest behind h.2

pub ahead-frame : (old new : ℕ → LineWord) (line : List (ℕ × ℕ))
    → ((place : ℕ) → 0 < times place line → (new place).newer ≡ (old place).newer) → IsAhead old line → IsAhead new line
ahead-frame old new [] same h = tt
ahead-frame old new (asker ∷ []) same h = tt
ahead-frame old new (asker ∷ (next ∷ rest)) same h =
    (same asker.0 (omega (arith, one_if-same asker.0)) ∙ h.0, ahead-frame old new (next ∷ rest) (λ place there. same place (omega (arith, there))) h.1)

-- the first of a line is followed, where its newer link is that of the next
pub ahead-cons : (words : ℕ → LineWord) (asker : ℕ × ℕ) (rest : List (ℕ × ℕ))
    → (words asker.0).newer ≡ oldest rest → IsAhead words rest → IsAhead words (asker ∷ rest)
ahead-cons words asker rest is h = grind (arith, is, h)

-- Fronts

pub front-append : (needs : Needs) (count : ℕ) (front behind : List (ℕ × ℕ))
    → IsFront needs count front → IsFront needs (count + takes_of needs front) behind → IsFront needs count (front ++ behind)
front-append needs count [] behind f b = subst (λ n. IsFront needs n behind) (omega arith) b
front-append needs count (asker ∷ rest) behind f b =
    (f.0, front-append needs (count + needs.takes asker.1) rest behind f.1 (subst (λ n. IsFront needs n behind) (omega arith) b))

pub takes-append : (needs : Needs) (front behind : List (ℕ × ℕ)) → takes_of needs (front ++ behind) ≡ takes_of needs front + takes_of needs behind
takes-append needs [] behind = omega arith
takes-append needs (asker ∷ rest) behind = omega (arith, takes-append needs rest behind)

-- what fits a count fits every lower one
pub front-lower : (needs : Needs) → AreNeeds needs → (lower count : ℕ) (front : List (ℕ × ℕ)) → lower ≤ count → IsFront needs count front → IsFront needs lower front
front-lower needs lawful lower count [] le h = tt
front-lower needs lawful lower count (asker ∷ rest) le h = (
  lawful.lower lower count asker.1 le h.0,
  front-lower needs lawful (lower + needs.takes asker.1) (count + needs.takes asker.1) rest (omega (arith, le)) h.1,
)

-- a front is those first of the line that it begins
pub take-front : (front behind : List (ℕ × ℕ)) → take (length front) (front ++ behind) ≡ front
take-front [] behind = refl
take-front (asker ∷ rest) behind = ap (λ (l : List (ℕ × ℕ)). asker ∷ l) (take-front rest behind)

pub drop-front : (front behind : List (ℕ × ℕ)) → drop (length front) (front ++ behind) ≡ behind
drop-front [] behind = refl
drop-front (asker ∷ rest) behind = drop-front rest behind
