-- How often a call that asks looks, and then yields, before it joins the waiters.
use Rattle.saa_core_waits.specs.declared.spin_policy.SpinPolicy.{SpinPolicy}

-- that of a call that waits
abbrev pub waiting : SpinPolicy
waiting = record { looks = 16; yields = 100 }

-- it looks once, and joins at once
abbrev pub none : SpinPolicy
none = record { looks = 0; yields = 0 }
