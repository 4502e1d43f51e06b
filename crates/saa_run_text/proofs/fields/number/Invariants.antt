use Rattle.std.proofs.Common.{◌≡◌, ◌<◌, ◌^◌, true, take}
use Rattle.std.specs.Str.{all_ascii_digits}
use Rattle.std.specs.Str.Parse.{digits_value}
use Rattle.saa_run_text.proofs.fields.number.Given as goal

-- the digits so far, and their number
abbrev pub invariant-loop-digit : goal.invariant-loop-digit
invariant-loop-digit l = record {
  digits : all_ascii_digits (take l.digit-index l.field) ≡ true;
  value : l.value ≡ digits_value 10 (take l.digit-index l.field);
  small : l.value < 10 ^ l.digit-index;
}
