use Rattle.std.proofs.Common.{◌≡◌, ℕ}
use Rattle.saa_core_spec.specs.declared.lock.Mode.TheVariants.{Exclusive}
use Rattle.saa_word_forms.specs.Turns.{AreRefused}
use Rattle.saa_word_forms.proofs.place_at.PlaceAt.lock.Given as goal

abbrev pub invariant-loop : goal.invariant-loop
invariant-loop g l = record {
  lock : l.self.lock ≡ l.fn.self.lock;
  refused : (refusals : ℕ) × AreRefused Exclusive refusals l.fn.self.place l.self.place;
}
