-- No two words have one cell, and each word has one.
use Rattle.std.proofs.Common.{◌≡◌, ◌≢◌, ℕ, ◌+◌, ◌*◌, ◌-◌, ◌<◌, ◌≤◌, ◌⊎◌, ◌==◌, nat_lt, refl, arith, inl, inr}
use Rattle.std.proofs.lemmas.Bool.Decides.{nat_tests}
use Rattle.std.proofs.lemmas.Bool.{cases_Bool}
use Rattle.saa_core_spec.proofs.Counts.{same_number}
use Rattle.saa_word_threads.specs.Cells.{cell_of, cells_of}

-- where a word lies: it is the main word, a line word, or an answer word
abbrev Lies : ℕ → ℕ → Type 0
Lies places word =
    ((word ≡ 0) × (cell_of places word ≡ 0))
    ⊎ (((0 < word) × (word ≤ places) × (cell_of places word ≡ word + 8))
    ⊎ ((places < word) × (cell_of places word ≡ places + 8 + 8 * (word - places))))

lies : (places word : ℕ) → Lies places word
lies places word =
    elim (cases_Bool (word == 0)) [
      | inl main ↦ inl (same_number word 0 main, rw main refl)
      | inr some ↦
          elim (cases_Bool (nat_lt places word)) [
            | inl beyond ↦ inr (inr (grind (arith, nat_tests, beyond), rw some (rw beyond refl)))
            | inr within ↦ inr (inl (grind (arith, nat_tests, some), grind (arith, nat_tests, within), rw some (rw within refl)))
          ]
    ]

pub cell-inside : (places word : ℕ) → word < places + places + 1 → cell_of places word < cells_of places
cell-inside places word inside =
    elim (lies places word) [
      | inl main ↦ (let at = main.1 in omega (arith, at))
      | inr other ↦
          elim other [
            | inl line ↦ (let at = line.2 in let within = line.1 in omega (arith, at, within))
            | inr answer ↦ (let at = answer.1 in let beyond = answer.0 in omega (arith, at, beyond, inside))
          ]
    ]

pub cells-apart : (places one other : ℕ) → one ≢ other → cell_of places one ≢ cell_of places other
cells-apart places one other apart same =
    apart (elim (lies places one) [
      | inl main ↦ elim (lies places other) [
        | inl also ↦ (let a = main.0 in let b = also.0 in omega (arith, a, b))
        | inr else ↦ elim else [
          | inl line ↦ (let a = main.1 in let b = line.2 in omega (arith, a, b, same))
          | inr answer ↦ (let a = main.1 in let b = answer.1 in omega (arith, a, b, same))
        ]
      ]
      | inr here ↦ elim here [
        | inl line ↦ elim (lies places other) [
          | inl main ↦ (let a = line.2 in let b = main.1 in omega (arith, a, b, same))
          | inr else ↦ elim else [
            | inl also ↦ (let a = line.2 in let b = also.2 in omega (arith, a, b, same))
            | inr answer ↦ (let a = line.2 in let w = line.1 in let b = answer.1 in let c = answer.0 in omega (arith, a, w, b, c, same))
          ]
        ]
        | inr answer ↦ elim (lies places other) [
          | inl main ↦ (let a = answer.1 in let b = main.1 in omega (arith, a, b, same))
          | inr else ↦ elim else [
            | inl line ↦ (let a = answer.1 in let c = answer.0 in let b = line.2 in let w = line.1 in omega (arith, a, w, b, c, same))
            | inr also ↦ (let a = answer.1 in let c = answer.0 in let b = also.1 in let d = also.0 in omega (arith, a, b, c, d, same))
          ]
        ]
      ]
    ])
