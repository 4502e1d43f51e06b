-- Lines that are held by links: what reads them, and what each change of a link keeps. Each lemma is over the line words as a
-- function of the place, before and after.
use Rattle.std.proofs.Common.{◌≡◌, ◌⊎◌, ◌≢◌, ℕ, pred, ◌+◌, ◌<◌, true, false, Some, drop, slice_get, List, [], ◌∷◌, ◌++◌, length, ◌==◌, if◌then◌else◌, refl, sym, ap, ◌∙◌, arith, inl, inr}
use Rattle.std.proofs.lemmas.Bool.{cases_Bool}
use Rattle.std.proofs.lemmas.Bool.Decides.{nat_tests}
use Rattle.saa_core_spec.specs.declared.request.Request.{Request}
use Rattle.saa_core_spec.specs.Object.{Waiter, one_if, times, without}
use Rattle.saa_core_spec.proofs.Counts.{one_if-same, number_same, same_number, times-append, times-without_other, without-absent}
use Rattle.saa_core_words.specs.declared.line_word.LineWord.{LineWord}
use Rattle.saa_core_spec.specs.Held.{request_number}
use Rattle.saa_core_words.specs.Links.{first_link, last_link, IsChain, followed, AreRead}

-- the first of a line stands in it
times-first : (waiter : Waiter) (rest : List Waiter) → 0 < times waiter.0 (waiter ∷ rest)
times-first waiter rest = omega (arith, one_if-same waiter.0)

-- a place behind the first is in the line
times-behind : (place : ℕ) (waiter : Waiter) (rest : List Waiter) → 0 < times place rest → 0 < times place (waiter ∷ rest)
times-behind place waiter rest stands = omega (arith, stands)

-- two numbers that differ do so the other way round
one_if-apart : (one other : ℕ) → one_if (one == other) ≡ 0 → one_if (other == one) ≡ 0
one_if-apart one other apart =
    elim (cases_Bool (other == one)) [
      | inl same ↦
          let test : one_if (one == other) ≡ 1 = ap (λ (n : ℕ). one_if (one == n)) (same_number other one same) ∙ one_if-same one in
          absurd (omega (arith, apart, test))
      | inr differs ↦ ap one_if differs
    ]

-- a link to somebody isn't that to nobody
next-apart : (place : ℕ) → place + 1 == 0 ≡ false
next-apart place = grind (arith, nat_tests)

-- words that are the same at each place of a line hold it as well
pub chain-frame : (old new : ℕ → LineWord) (older : ℕ) (line : List Waiter) (newer : ℕ)
    → ((place : ℕ) → 0 < times place line → new place ≡ old place)
    → IsChain old older line newer → IsChain new older line newer
chain-frame old new older [] newer same h = tt
chain-frame old new older (waiter ∷ rest) newer same h = (
  same waiter.0 (times-first waiter rest) ∙ h.0,
  h.1,
  chain-frame old new (waiter.0 + 1) rest newer (λ place stands. same place (times-behind place waiter rest stands)) h.2,
)

-- a line that is held is what is met from its oldest on
pub chain-followed : (words : ℕ → LineWord) (read : ℕ → Request) (older : ℕ) (line : List Waiter) (newer : ℕ)
    → AreRead read line → IsChain words older line newer → followed words read (length line) (first_link line newer) ≡ line
chain-followed words read older [] newer asked h = refl
chain-followed words read older (waiter ∷ rest) newer asked h =
    let place : pred (waiter.0 + 1) ≡ waiter.0 = omega arith in
    let tail = chain-followed words read (waiter.0 + 1) rest newer asked.1 h.2 in
    rw (place, h.0, asked.0) (ap (λ (ws : List Waiter). waiter ∷ ws) tail)

-- nobody stands twice in a line that is held
pub chain-once : (words : ℕ → LineWord) (older : ℕ) (waiter : Waiter) (rest : List Waiter) (newer : ℕ) → IsChain words older (waiter ∷ rest) newer → times waiter.0 (waiter ∷ rest) ≡ 1
chain-once words older waiter rest newer h = omega (arith, one_if-same waiter.0, h.1)

-- a line without its oldest, which is in it once, is what stands behind
pub without-oldest : (line : List Waiter) (oldest : Waiter) → slice_get line 0 ≡ Some oldest → times oldest.0 line ≡ 1 → without oldest.0 line ≡ drop 1 line
without-oldest [] oldest is once = absurd (cc)
without-oldest (waiter ∷ rest) oldest is once =
    let same : waiter ≡ oldest = cc in
    let test : waiter.0 == oldest.0 ≡ true = ap (λ (w : Waiter). waiter.0 == w.0) (sym same) ∙ number_same waiter.0 in
    let none : times oldest.0 rest ≡ 0 = omega (arith, once, ap one_if test) in
    rw test (without-absent oldest.0 rest none)

-- the newest of a line that one more joined is that one
pub last_link-push : (older : ℕ) (line : List Waiter) (last : Waiter) → last_link older (line ++ last ∷ []) ≡ last.0 + 1
last_link-push older [] last = refl
last_link-push older (waiter ∷ rest) last = last_link-push (waiter.0 + 1) rest last

-- the oldest of a line that one more joined is the oldest that was there
pub first_link-push : (line : List Waiter) (last : Waiter) (newer : ℕ) → first_link (line ++ last ∷ []) newer ≡ first_link line (last.0 + 1)
first_link-push [] last newer = refl
first_link-push (waiter ∷ rest) last newer = refl

-- what a line asks with one more, which can be read back
pub AreRead-push : (read : ℕ → Request) (line : List Waiter) (last : Waiter) → AreRead read line → read (request_number last.1) ≡ last.1 → AreRead read (line ++ last ∷ [])
AreRead-push read [] last asked is = (is, tt)
AreRead-push read (waiter ∷ rest) last asked is = (asked.0, AreRead-push read rest last asked.1 is)

-- what a line asks without one
pub AreRead-without : (read : ℕ → Request) (place : ℕ) (line : List Waiter) → AreRead read line → AreRead read (without place line)
AreRead-without read place [] asked = tt
AreRead-without read place (waiter ∷ rest) asked =
    elim (cases_Bool (waiter.0 == place)) [
      | inl same ↦ rw same (AreRead-without read place rest asked.1)
      | inr apart ↦ rw apart (asked.0, AreRead-without read place rest asked.1)
    ]

-- the newest of a line stands in it
pub last_link-within : (older : ℕ) (waiter : Waiter) (rest : List Waiter) (place : ℕ) → place + 1 ≡ last_link older (waiter ∷ rest) → 0 < times place (waiter ∷ rest)
last_link-within older waiter [] place is =
    let same : place ≡ waiter.0 = omega (arith, is) in
    rw same (times-first waiter [])
last_link-within older waiter (next ∷ rest) place is = times-behind place waiter (next ∷ rest) (last_link-within (waiter.0 + 1) next rest place is)

-- One more joins a line: the newest gets it as its newer neighbour, and it gets the newest as its older one
pub chain-joined : (old new : ℕ → LineWord) (older : ℕ) (line : List Waiter) (place : ℕ) (request : Request)
    → times place line ≡ 0
    → ((other : ℕ) → 0 < times other line → (other + 1 ≡ last_link older line → ⊥) → new other ≡ old other)
    → ((other : ℕ) → 0 < times other line → other + 1 ≡ last_link older line → new other ≡ record (old other) { newer = place + 1 })
    → new place ≡ record { request = request_number request; older = last_link older line; newer = 0 }
    → IsChain old older line 0 → IsChain new older (line ++ (place, request) ∷ []) 0
chain-joined old new older [] place request absent same linked written h = (written, refl, tt)
chain-joined old new older (waiter ∷ []) place request absent same linked written h =
    let stands = times-first waiter [] in
    let apart : one_if (waiter.0 == place) ≡ 0 = omega (arith, absent) in
    let turned : one_if (place == waiter.0) ≡ 0 = omega (arith, one_if-apart waiter.0 place apart) in (
      linked waiter.0 stands refl ∙ ap (λ (w : LineWord). record w { newer = place + 1 }) h.0,
      omega (arith, turned),
      (written, refl, tt),
    )
chain-joined old new older (waiter ∷ next ∷ rest) place request absent same linked written h =
    let stands = times-first waiter (next ∷ rest) in
    let apart : one_if (waiter.0 == place) ≡ 0 = omega (arith, absent) in
    let turned : one_if (place == waiter.0) ≡ 0 = omega (arith, one_if-apart waiter.0 place apart) in
    let isnt_last : waiter.0 + 1 ≡ last_link older (waiter ∷ next ∷ rest) → ⊥ =
    λ is. absurd (omega (arith, h.1, last_link-within (waiter.0 + 1) next rest waiter.0 is)) in (
      same waiter.0 stands isnt_last ∙ h.0,
      omega (arith, h.1, turned, times-append waiter.0 (next ∷ rest) ((place, request) ∷ [])),
      chain-joined old new (waiter.0 + 1) (next ∷ rest) place request (omega (arith, absent))
          (λ other there. same other (times-behind other waiter (next ∷ rest) there))
          (λ other there. linked other (times-behind other waiter (next ∷ rest) there))
          written h.2,
    )

-- a neighbour of a member of a line is the end that is known there, or is in it too
pub chain-older : (words : ℕ → LineWord) (older : ℕ) (line : List Waiter) (newer place : ℕ) → IsChain words older line newer → 0 < times place line
    → ((words place).older ≡ older) ⊎ ((other : ℕ) × ((words place).older ≡ other + 1) × (0 < times other line))
chain-older words older [] newer place h stands = absurd (omega arith)
chain-older words older (waiter ∷ rest) newer place h stands =
    elim (cases_Bool (waiter.0 == place)) [
      | inl same ↦
          let is : place ≡ waiter.0 = sym (same_number waiter.0 place same) in
          inl (rw (is, h.0) refl)
      | inr apart ↦
          let none : one_if (waiter.0 == place) ≡ 0 = ap one_if apart in
          elim (chain-older words (waiter.0 + 1) rest newer place h.2 (omega (arith, none))) [
            | inl first ↦ inr (waiter.0, first, times-first waiter rest)
            | inr behind ↦ inr (behind.0, behind.1, times-behind behind.0 waiter rest behind.2)
          ]
    ]

pub chain-newer : (words : ℕ → LineWord) (older : ℕ) (line : List Waiter) (newer place : ℕ) → IsChain words older line newer → 0 < times place line
    → ((words place).newer ≡ newer) ⊎ ((other : ℕ) × ((words place).newer ≡ other + 1) × (0 < times other line))
chain-newer words older [] newer place h stands = absurd (omega arith)
chain-newer words older (waiter ∷ []) newer place h stands =
    elim (cases_Bool (waiter.0 == place)) [
      | inl same ↦
          let is : place ≡ waiter.0 = sym (same_number waiter.0 place same) in
          inl (rw (is, h.0) refl)
      | inr apart ↦
          let none : one_if (waiter.0 == place) ≡ 0 = ap one_if apart in
          absurd (omega (arith, none))
    ]
chain-newer words older (waiter ∷ next ∷ rest) newer place h stands =
    elim (cases_Bool (waiter.0 == place)) [
      | inl same ↦
          let is : place ≡ waiter.0 = sym (same_number waiter.0 place same) in
          inr (next.0, rw (is, h.0) refl, times-behind next.0 waiter (next ∷ rest) (times-first next rest))
      | inr apart ↦
          let none : one_if (waiter.0 == place) ≡ 0 = ap one_if apart in
          elim (chain-newer words (waiter.0 + 1) (next ∷ rest) newer place h.2 (omega (arith, none))) [
            | inl last ↦ inl last
            | inr behind ↦ inr (behind.0, behind.1, times-behind behind.0 waiter (next ∷ rest) behind.2)
          ]
    ]

-- a place that isn't in a line, and isn't its newer end, isn't the first of it
first_link-apart : (place newer : ℕ) (line : List Waiter) → times place line ≡ 0 → (place + 1 ≡ newer → ⊥) → place + 1 ≡ first_link line newer → ⊥
first_link-apart place newer [] absent apart is = apart is
first_link-apart place newer (waiter ∷ rest) absent apart is =
    let same : waiter.0 ≡ place = omega (arith, is) in
    let test : one_if (waiter.0 == place) ≡ 1 = ap (λ (n : ℕ). one_if (n == place)) same ∙ one_if-same place in
    omega (arith, absent, test)

-- What a place's leaving does to the words of a line: the neighbours that it has are linked to each other
pub record IsUnlinked (old new : ℕ → LineWord) (line : List Waiter) (older newer : ℕ) : Type 0 where
  pub same : (other : ℕ) → 0 < times other line → (other + 1 ≡ older → ⊥) → (other + 1 ≡ newer → ⊥) → new other ≡ old other
  pub before : (other : ℕ) → 0 < times other line → other + 1 ≡ older → (other + 1 ≡ newer → ⊥) → new other ≡ record (old other) { newer = newer }
  pub behind : (other : ℕ) → 0 < times other line → other + 1 ≡ newer → (other + 1 ≡ older → ⊥) → new other ≡ record (old other) { older = older }

-- so it is of a line's rest
IsUnlinked-rest : (old new : ℕ → LineWord) (waiter : Waiter) (rest : List Waiter) (older newer : ℕ) → IsUnlinked old new (waiter ∷ rest) older newer → IsUnlinked old new rest older newer
IsUnlinked-rest old new waiter rest older newer h = record {
  same = λ other there. h.same other (times-behind other waiter rest there);
  before = λ other there. h.before other (times-behind other waiter rest there);
  behind = λ other there. h.behind other (times-behind other waiter rest there);
}

-- the first of a line leaves it
chain-left_first : (old new : ℕ → LineWord) (older : ℕ) (waiter : Waiter) (rest : List Waiter) (newer : ℕ)
    → IsChain old older (waiter ∷ rest) newer
    → ((other : ℕ) → other + 1 ≡ older → times other rest ≡ 0)
    → IsUnlinked old new rest older (first_link rest newer)
    → IsChain new older rest newer
chain-left_first old new older waiter [] newer h no_older unlinked = tt
chain-left_first old new older waiter (next ∷ more) newer h no_older unlinked =
    let there = times-first next more in
    let apart : next.0 + 1 ≡ older → ⊥ = λ is. absurd (omega (arith, there, no_older next.0 is)) in (
      unlinked.behind next.0 there refl apart ∙ ap (λ (w : LineWord). record w { older = older }) h.2.0,
      h.2.1,
      chain-frame old new (next.0 + 1) more newer
          (λ other stands. unlinked.same other (times-behind other next more stands)
          (λ is. absurd (omega (arith, times-behind other next more stands, no_older other is)))
          (λ is. let one : times other more ≡ times next.0 more = ap (λ (n : ℕ). times n more) (omega (arith, is)) in absurd (omega (arith, stands, one, h.2.1))))
          h.2.2,
    )

-- a place right before one that leaves, or further ahead, is linked to what follows then
chain-left_word : (old new : ℕ → LineWord) (older : ℕ) (waiter : Waiter) (rest : List Waiter) (newer place : ℕ)
    → IsChain old older (waiter ∷ rest) newer
    → 0 < times place rest
    → (waiter.0 + 1 ≡ newer → ⊥)
    → IsUnlinked old new (waiter ∷ rest) (old place).older (old place).newer
    → new waiter.0 ≡ record { request = request_number waiter.1; older = older; newer = first_link (without place rest) newer }
chain-left_word old new older waiter [] newer place h stands apart_newer unlinked = absurd (omega arith)
chain-left_word old new older waiter (next ∷ more) newer place h stands apart_newer unlinked =
    let there = times-first waiter (next ∷ more) in
    elim (cases_Bool (next.0 == place)) [
      | inl same ↦
          let is : place ≡ next.0 = sym (same_number next.0 place same) in
          let word : old place ≡ record { request = request_number next.1; older = waiter.0 + 1; newer = first_link more newer } = ap old is ∙ h.2.0 in
          let link_older : (old place).older ≡ waiter.0 + 1 = ap (λ (w : LineWord). w.older) word in
          let link_newer : (old place).newer ≡ first_link more newer = ap (λ (w : LineWord). w.newer) word in
          let absent : times place more ≡ 0 = ap (λ (n : ℕ). times n more) is ∙ h.2.1 in
          let alone : times waiter.0 more ≡ 0 = omega (arith, h.1) in
          let apart : waiter.0 + 1 ≡ (old place).newer → ⊥ = λ it. first_link-apart waiter.0 newer more alone apart_newer (it ∙ link_newer) in
          let now = unlinked.before waiter.0 there (sym link_older) apart in
          rw (same, without-absent place more absent) (now ∙ ap (λ (w : LineWord). record w { newer = (old place).newer }) h.0
          ∙ ap (λ (n : ℕ). let w : LineWord = record { request = request_number waiter.1; older = older; newer = n } in w) link_newer)
      | inr differs ↦
          let none : one_if (next.0 == place) ≡ 0 = ap one_if differs in
          let behind : 0 < times place more = omega (arith, stands, none) in
          let apart_first : waiter.0 ≡ next.0 → ⊥ = λ it.
          let test : one_if (next.0 == waiter.0) ≡ 1 = ap (λ (n : ℕ). one_if (next.0 == n)) it ∙ one_if-same next.0 in
          absurd (omega (arith, h.1, test)) in
          let apart_older : waiter.0 + 1 ≡ (old place).older → ⊥ = λ it.
          elim (chain-older old (next.0 + 1) more newer place h.2.2 behind) [
            | inl first ↦ apart_first (omega (arith, it, first))
            | inr found ↦
                let one : times found.0 more ≡ times waiter.0 more = ap (λ (n : ℕ). times n more) (omega (arith, it, found.1)) in
                absurd (omega (arith, one, found.2, h.1))
          ] in
          let apart_behind : waiter.0 + 1 ≡ (old place).newer → ⊥ = λ it.
          elim (chain-newer old (next.0 + 1) more newer place h.2.2 behind) [
            | inl last ↦ apart_newer (it ∙ last)
            | inr found ↦
                let one : times found.0 more ≡ times waiter.0 more = ap (λ (n : ℕ). times n more) (omega (arith, it, found.1)) in
                absurd (omega (arith, one, found.2, h.1))
          ] in
          rw differs (unlinked.same waiter.0 there apart_older apart_behind ∙ h.0)
    ]

-- A place leaves a line wherever it stands: its neighbours are linked to each other
pub chain-left : (old new : ℕ → LineWord) (older : ℕ) (line : List Waiter) (newer place : ℕ)
    → IsChain old older line newer
    → 0 < times place line
    → ((other : ℕ) → other + 1 ≡ older → times other line ≡ 0)
    → ((other : ℕ) → other + 1 ≡ newer → times other line ≡ 0)
    → IsUnlinked old new line (old place).older (old place).newer
    → IsChain new older (without place line) newer
chain-left old new older [] newer place h stands no_older no_newer unlinked = absurd (omega arith)
chain-left old new older (waiter ∷ rest) newer place h stands no_older no_newer unlinked =
    elim (cases_Bool (waiter.0 == place)) [
      | inl same ↦
          let is : place ≡ waiter.0 = sym (same_number waiter.0 place same) in
          let word : old place ≡ record { request = request_number waiter.1; older = older; newer = first_link rest newer } = ap old is ∙ h.0 in
          let link_older : (old place).older ≡ older = ap (λ (w : LineWord). w.older) word in
          let link_newer : (old place).newer ≡ first_link rest newer = ap (λ (w : LineWord). w.newer) word in
          let absent : times place rest ≡ 0 = ap (λ (n : ℕ). times n rest) is ∙ h.1 in
          let of_rest = IsUnlinked-rest old new waiter rest (old place).older (old place).newer unlinked in
          rw (same, without-absent place rest absent) (chain-left_first old new older waiter rest newer h
          (λ other it. omega (arith, no_older other it))
          (rw (← link_older, ← link_newer) of_rest))
      | inr differs ↦
          let none : one_if (waiter.0 == place) ≡ 0 = ap one_if differs in
          let behind : 0 < times place rest = omega (arith, stands, none) in
          let apart : place ≢ waiter.0 = λ it.
          let test : one_if (waiter.0 == place) ≡ 1 = ap (λ (n : ℕ). one_if (waiter.0 == n)) it ∙ one_if-same waiter.0 in
          absurd (omega (arith, none, test)) in
          let apart_newer : waiter.0 + 1 ≡ newer → ⊥ = λ it. absurd (omega (arith, no_newer waiter.0 it, times-first waiter rest)) in
          rw differs (
            chain-left_word old new older waiter rest newer place h behind apart_newer unlinked,
            times-without_other place waiter.0 rest apart ∙ h.1,
            chain-left old new (waiter.0 + 1) rest newer place h.2 behind
                (λ other it. ap (λ (n : ℕ). times n rest) (omega (arith, it)) ∙ h.1)
                (λ other it. omega (arith, no_newer other it))
                (IsUnlinked-rest old new waiter rest (old place).older (old place).newer unlinked),
          )
    ]

-- where a place leaves that nobody stands before, the oldest is who stood behind it
pub first_link-left : (words : ℕ → LineWord) (line : List Waiter) (place : ℕ) → IsChain words 0 line 0 → 0 < times place line
    → first_link (without place line) 0 ≡ (if (words place).older == 0 then (words place).newer else first_link line 0)
first_link-left words [] place h stands = absurd (omega arith)
first_link-left words (waiter ∷ rest) place h stands =
    elim (cases_Bool (waiter.0 == place)) [
      | inl same ↦
          let is : place ≡ waiter.0 = sym (same_number waiter.0 place same) in
          let word : words place ≡ record { request = request_number waiter.1; older = 0; newer = first_link rest 0 } = ap words is ∙ h.0 in
          let absent : times place rest ≡ 0 = ap (λ (n : ℕ). times n rest) is ∙ h.1 in
          rw (same, without-absent place rest absent, word) refl
      | inr differs ↦
          let none : one_if (waiter.0 == place) ≡ 0 = ap one_if differs in
          let before : (words place).older == 0 ≡ false =
          elim (chain-older words (waiter.0 + 1) rest 0 place h.2 (omega (arith, stands, none))) [
            | inl first ↦ ap (λ (n : ℕ). n == 0) first ∙ next-apart waiter.0
            | inr found ↦ ap (λ (n : ℕ). n == 0) found.1 ∙ next-apart found.0
          ] in
          rw (differs, before) refl
    ]

-- where a place leaves that nobody stands behind, the newest is who stood before it
pub last_link-left : (words : ℕ → LineWord) (older : ℕ) (line : List Waiter) (place : ℕ) → IsChain words older line 0 → 0 < times place line
    → last_link older (without place line) ≡ (if (words place).newer == 0 then (words place).older else last_link older line)
last_link-left words older [] place h stands = absurd (omega arith)
last_link-left words older (waiter ∷ []) place h stands =
    elim (cases_Bool (waiter.0 == place)) [
      | inl same ↦
          let is : place ≡ waiter.0 = sym (same_number waiter.0 place same) in
          let word : words place ≡ record { request = request_number waiter.1; older = older; newer = 0 } = ap words is ∙ h.0 in
          rw (same, word) refl
      | inr differs ↦
          let none : one_if (waiter.0 == place) ≡ 0 = ap one_if differs in
          absurd (omega (arith, stands, none))
    ]
last_link-left words older (waiter ∷ next ∷ more) place h stands =
    elim (cases_Bool (waiter.0 == place)) [
      | inl same ↦
          let is : place ≡ waiter.0 = sym (same_number waiter.0 place same) in
          let word : words place ≡ record { request = request_number waiter.1; older = older; newer = next.0 + 1 } = ap words is ∙ h.0 in
          let absent : times place (next ∷ more) ≡ 0 = ap (λ (n : ℕ). times n (next ∷ more)) is ∙ h.1 in
          rw (same, without-absent place (next ∷ more) absent, word, next-apart next.0) refl
      | inr differs ↦
          let none : one_if (waiter.0 == place) ≡ 0 = ap one_if differs in
          rw differs (last_link-left words (waiter.0 + 1) (next ∷ more) place h.2 (omega (arith, stands, none)))
    ]
