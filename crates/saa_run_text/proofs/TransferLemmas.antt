-- Texts that are put out in pieces.
use Rattle.std.proofs.Common.{◌≡◌, ◌<◌, ℕ, ◌+◌, ◌-◌, suc, List, ◌∷◌, ◌++◌, Option, length, take, drop, get_or, sym, ap, subst, ◌∙◌, append_assoc, take-append-drop, arith, length-drop}
use Rattle.std.proofs.lemmas.List.{take_all}
use Rattle.std.proofs.Math.Seq.{take-add, drop-cons}
use Rattle.std.specs.Io.KnownBytes.{Appends}
use Rattle.std.proofs.KnownBytes.{Appends-trans}
use Rattle.saa_run_text.specs.Transfer.{IsBeginning, IsProperBeginning}

-- the rest of a text, as a slice of it
pub take-drop-rest : (text : List ℕ) (at : ℕ) → take (length text - at) (drop at text) ≡ drop at text
take-drop-rest text at = take_all (length text - at) (drop at text) (omega (arith, length-drop at text))

-- a front is a beginning, and not all where the text goes on
pub IsProperBeginning-take : (text : List ℕ) (at : ℕ) → at < length text → IsProperBeginning (take at text) text
IsProperBeginning-take text at within = (get_or text at 0, drop (suc at) text, sym (take-append-drop at text) ∙ ap (λ rest. take at text ++ rest) (drop-cons text at 0 within))

-- a beginning that isn't all is a beginning
pub IsBeginning-proper : (front whole : List ℕ) → IsProperBeginning front whole → IsBeginning front whole
IsBeginning-proper front whole begins = (begins.0 ∷ begins.1, begins.2)

-- the front of a text that went out grows by what a write took of the rest
pub Appends-front : (old mid new : Option (List ℕ)) (text : List ℕ) (at n : ℕ) → Appends old mid (take at text) → Appends mid new (take n (take (length text - at) (drop at text))) → Appends old new (take (at + n) text)
Appends-front old mid new text at n before taken =
    let more : Appends mid new (take n (drop at text)) = subst (λ part. Appends mid new (take n part)) (take-drop-rest text at) taken in
    subst (Appends old new) (sym (take-add at n text)) (Appends-trans old mid new (take at text) (take n (drop at text)) before more)

-- a beginning goes on behind what stands before it
pub IsBeginning-behind : (first front whole : List ℕ) → IsBeginning front whole → IsBeginning (first ++ front) (first ++ whole)
IsBeginning-behind first front whole begins = (begins.0, ap (λ rest. first ++ rest) begins.1 ∙ sym (append_assoc first front begins.0))

-- a beginning stays one where the text goes on
pub IsBeginning-more : (front whole more : List ℕ) → IsBeginning front whole → IsBeginning front (whole ++ more)
IsBeginning-more front whole more begins = (begins.0 ++ more, ap (λ all. all ++ more) begins.1 ∙ append_assoc front begins.0 more)

-- the same where it isn't all
pub IsProperBeginning-behind : (first front whole : List ℕ) → IsProperBeginning front whole → IsProperBeginning (first ++ front) (first ++ whole)
IsProperBeginning-behind first front whole begins =
    (begins.0, begins.1, ap (λ rest. first ++ rest) begins.2 ∙ sym (append_assoc first front (begins.0 ∷ begins.1)))

pub IsProperBeginning-more : (front whole more : List ℕ) → IsProperBeginning front whole → IsProperBeginning front (whole ++ more)
IsProperBeginning-more front whole more begins =
    (begins.0, begins.1 ++ more, ap (λ all. all ++ more) begins.2 ∙ append_assoc front (begins.0 ∷ begins.1) more)
