use Rattle.std.proofs.Common.{◌≡◌, ℕ}
use Rattle.saa_core_spec.specs.declared.lock.Mode.TheVariants.{Shared}
use Rattle.saa_word_forms.specs.Turns.{AreRefused}
use Rattle.saa_word_forms.proofs.place_at.PlaceAt.share.Given as goal

abbrev pub invariant-loop : goal.invariant-loop
invariant-loop g l = record {
  lock : l.self.lock ≡ l.fn.self.lock;
  refused : (refusals : ℕ) × AreRefused Shared refusals l.fn.self.place l.self.place;
}
