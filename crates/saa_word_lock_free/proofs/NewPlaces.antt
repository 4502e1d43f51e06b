-- New places of a table are of that table, and registered as nothing.
use Rattle.std.proofs.Common.{◌≡◌, ℕ, ◌+◌, List, [], ◌∷◌, ap, rules}
use Rattle.std.proofs.lemmas.List.Elements.{All-cons}
use Rattle.std.specs.Prelude.{All}
use Rattle.atomic_table.specs.Seated.{TableId}
use Rattle.saa_word_steps.specs.declared.place.Place.{Place as Position}
use Rattle.saa_word_threads.specs.declared.place.Place.{Place}
use Rattle.saa_word_threads.specs.declared.lock.Place.{Place as LockPlace}
use Rattle.saa_word_threads.specs.Dealt.{AreNew}
use Rattle.saa_word_threads.specs.Locks.{AreNew as AreNewOfLock}
use Rattle.saa_word_lock_free.specs.OfSemaphore.{Rests, home_of}
use Rattle.saa_word_lock_free.specs.OfLock.{Rests as RestsOfLock, home_of as home_of_lock}

pub new-rest : (table : TableId) (number : ℕ) (places : List Place) → AreNew table number places → All (λ place. (home_of place ≡ table) × Rests place) places
new-rest table number [] new = search rules
new-rest table number (place ∷ rest) new =
    All-cons (λ place. (home_of place ≡ table) × Rests place) place rest (new.0.0, ap (λ (position : Position). position.registration) new.0.2)
    (new-rest table (number + 1) rest new.1)

pub new-rest-of-lock : (table : TableId) (number : ℕ) (places : List LockPlace) → AreNewOfLock table number places
    → All (λ place. (home_of_lock place ≡ table) × RestsOfLock place) places
new-rest-of-lock table number [] new = search rules
new-rest-of-lock table number (place ∷ rest) new =
    All-cons (λ place. (home_of_lock place ≡ table) × RestsOfLock place) place rest (new.0.0, ap (λ (position : Position). position.registration) new.0.2)
    (new-rest-of-lock table (number + 1) rest new.1)
