use Rattle.std.proofs.Common.{◌≡◌, map, drop}
use Rattle.saa_run_text.specs.Fields.{meaning_in}
use Rattle.saa_run.proofs.words.meaning.Given as goal

-- no entry before this one has the word
abbrev pub invariant-loop-name : goal.invariant-loop-name
invariant-loop-name g l = meaning_in (map (λ entry. (entry.0.now, entry.1)) (drop l.name-index l.table)) l.word ≡ meaning_in (map (λ entry. (entry.0.now, entry.1)) l.table) l.word
