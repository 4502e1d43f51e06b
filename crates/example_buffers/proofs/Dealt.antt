-- Places that are new at a table are dealt by the semaphore whose table it is.
use Rattle.std.specs.Prelude.{◌≡◌, ℕ, ◌+◌, [], ◌∷◌, All}
use Rattle.std.proofs.lemmas.List.Elements.{All-nil, All-cons}
use Rattle.saa_word_forms.specs.WordPlaces.{AreNew}

pub new_dealt : (table : _) (number : ℕ) (places : _) → AreNew table number places → All (λ place. place.seat.table_id ≡ table) places
new_dealt table number [] are = All-nil (λ place. place.seat.table_id ≡ table)
new_dealt table number (place ∷ rest) are =
    All-cons (λ place. place.seat.table_id ≡ table) place rest are.0.0 (new_dealt table (number + 1) rest are.1)
