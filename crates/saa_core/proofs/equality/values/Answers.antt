-- Two registrations of one kind are `==` where their parts are, and two of different kinds never.
use Rattle.std.proofs.Common.{◌≡◌, ◌&&◌, ℕ, Bool, true, false, refl, rules}
use Rattle.std.specs.Prelude.{◌↔◌, IsTrue}
use Rattle.std.specs.contracts.prelude.U8PartialEq.TheImpl.{ghosts as u8_impl}
use Rattle.std.specs.contracts.prelude.U16PartialEq.TheImpl.{ghosts as u16_impl}
use Rattle.std.specs.contracts.prelude.BoolPartialEq.TheImpl.{ghosts as bool_impl}
use Rattle.saa_core_spec.specs.declared.request.Request.{Request}
use Rattle.saa_core_spec.specs.contracts.request.RequestPartialEq.TheImpl.{ghosts as request_impl}
use Rattle.saa_core.specs.declared.ticket.Registration.{Registration}
use Rattle.saa_core.specs.declared.ticket.Registration.TheVariants.{Unregistered, AtOnce, InSlot}
use Rattle.saa_core.specs.contracts.ticket.RegistrationPartialEq.TheImpl.{ghosts as registration_impl}
use Rattle.saa_core.proofs.equality.values.Goals as goal

all_true : (x y z : Bool) → IsTrue (x && (y && z)) → IsTrue x × (IsTrue y × IsTrue z)
all_true true true z h = (refl, (refl, h))
all_true true false z h = cc
all_true false y z h = cc

true_all : (x y z : Bool) → IsTrue x → IsTrue y → IsTrue z → IsTrue (x && (y && z))
true_all true true z hx hy hz = hz
true_all true false z hx hy hz = hy
true_all false y z hx hy hz = hx

same_flag : (s t : Bool) → IsTrue (bool_impl.eq s t) ↔ (s ≡ t)
same_flag s t = search rules

same_value : (v w : ℕ) → IsTrue (u8_impl.eq v w) ↔ (v ≡ w)
same_value v w = search rules

same_slot : (v w : ℕ) → IsTrue (u16_impl.eq v w) ↔ (v ≡ w)
same_slot v w = search rules

module _ (same_request : (q r : Request) → IsTrue (request_impl.eq q r) ↔ (q ≡ r)) where
  same : (a b : Registration) → IsTrue (registration_impl.eq a b) ↔ (a ≡ b)
  same Unregistered Unregistered = search rules
  same Unregistered (AtOnce w r t) = search rules
  same Unregistered (InSlot w r t) = search rules
  same (AtOnce v q s) Unregistered = search rules
  same (AtOnce v q s) (AtOnce w r t) = (
    (λ equal.
        let parts = all_true (u8_impl.eq v w) (request_impl.eq q r) (bool_impl.eq s t) equal in
        let value : v ≡ w = (same_value v w).0 parts.0 in
        let request : q ≡ r = (same_request q r).0 parts.1.0 in
        let flag : s ≡ t = (same_flag s t).0 parts.1.1 in
        cc),
    (λ equal.
        let value : v ≡ w = cc in
        let request : q ≡ r = cc in
        let flag : s ≡ t = cc in
        true_all (u8_impl.eq v w) (request_impl.eq q r) (bool_impl.eq s t) ((same_value v w).1 value) ((same_request q r).1 request) ((same_flag s t).1 flag)),
  )
  same (AtOnce v q s) (InSlot w r t) = search rules
  same (InSlot v q s) Unregistered = search rules
  same (InSlot v q s) (AtOnce w r t) = search rules
  same (InSlot v q s) (InSlot w r t) = (
    (λ equal.
        let parts = all_true (u16_impl.eq v w) (request_impl.eq q r) (bool_impl.eq s t) equal in
        let slot : v ≡ w = (same_slot v w).0 parts.0 in
        let request : q ≡ r = (same_request q r).0 parts.1.0 in
        let flag : s ≡ t = (same_flag s t).0 parts.1.1 in
        cc),
    (λ equal.
        let slot : v ≡ w = cc in
        let request : q ≡ r = cc in
        let flag : s ≡ t = cc in
        true_all (u16_impl.eq v w) (request_impl.eq q r) (bool_impl.eq s t) ((same_slot v w).1 slot) ((same_request q r).1 request) ((same_flag s t).1 flag)),
  )

pub returns-clause-registration : goal.returns-clause-registration
returns-clause-registration g c = same c.codes.ensures.request
