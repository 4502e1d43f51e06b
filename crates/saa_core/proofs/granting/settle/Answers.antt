use Rattle.std.proofs.Common.{◌≡◌, List, [], ◌∷◌, length, refl, sym, arith}
use Rattle.saa_core_spec.specs.Object.{Waiter}
use Rattle.saa_core_spec.specs.Held.{Held}
use Rattle.saa_core_spec.specs.Settling.{fitting_front}
use Rattle.saa_core.proofs.GrantingLemmas.SettlingSteps.{settled-none}
use Rattle.saa_core.proofs.granting.settle.Goals as goal

-- nobody is granted where nobody waits
nobody-fits : (held : Held) (line : List Waiter) → length line ≡ 0 → fitting_front held line ≡ 0
nobody-fits held [] none = refl
nobody-fits held (waiter ∷ line) none = absurd (omega (arith, none))

pub returns-then-waiting-eq0-clause-settled : goal.returns-then-waiting-eq0-clause-settled
returns-then-waiting-eq0-clause-settled g c =
    let none : length c.args.line.now.line ≡ 0 = omega (arith, c.waiting.ensures, c.if-waiting-eq0.true) in
    sym (settled-none (record { held = g.N.Needs.held c.args.needs.now; slots = c.args.line.now })
    (nobody-fits (g.N.Needs.held c.args.needs.now) c.args.line.now.line none))
