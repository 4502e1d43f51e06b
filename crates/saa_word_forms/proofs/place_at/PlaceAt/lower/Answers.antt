use Rattle.std.proofs.Common.{inl, inr, sym}
use Rattle.saa_word_forms.proofs.place_at.PlaceAt.lower.Goals as goal

pub returns-then-not-ask_lower-clause-lowered : goal.returns-then-not-ask_lower-clause-lowered
returns-then-not-ask_lower-clause-lowered g c =
    let called = c.if-not-ask_lower.ensures.called in
    inr (c.ask_lower.new.self.place, called.0, sym called.1, called.2, c.share.ensures.taken)

pub returns-else-not-ask_lower-clause-granted : goal.returns-else-not-ask_lower-clause-granted
returns-else-not-ask_lower-clause-granted g c =
    let called = c.if-not-ask_lower.ensures.called in
    ∣ (c.args.self.now.place, inr (inr (c.requires, (called.0, sym called.1, called.2)))) ∣₁

pub returns-else-not-ask_lower-clause-lowered : goal.returns-else-not-ask_lower-clause-lowered
returns-else-not-ask_lower-clause-lowered g c =
    let called = c.if-not-ask_lower.ensures.called in
    inl (called.0, sym called.1, called.2)
