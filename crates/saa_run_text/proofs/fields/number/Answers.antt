use Rattle.std.proofs.Common.{add-one, ◌≡◌, ◌≤◌, arith, inl, inr, get_or, true, ap, subst, ◌∙◌}
use Rattle.std.proofs.lemmas.Bool.Decides.{nat_tests}
use Rattle.std.proofs.lemmas.List.{take_all}
use Rattle.std.specs.Str.{all_ascii_digits}
use Rattle.std.specs.Str.Parse.{digits_value}
use Rattle.saa_run_text.proofs.FieldLemmas.{number_of-length, number_of-zero, number_of-other, number_of-digits, digits-more, digits_value-more, numerals}
use Rattle.std.proofs.lemmas.Str.Parse.{digit_at}
use Rattle.saa_run_text.proofs.fields.number.Goals as goal
use Rattle.saa_run_text.proofs.fields.number.Goals.{then-is_empty-via-then-is_empty, then-is_empty-via-else-is_empty+then-field-gt6, else-field-eq48-via-then-field-eq48+else-field-gt1, else-field-eq48-via-else-field-eq48}

pub returns-then-is_empty : goal.returns-then-is_empty
returns-then-is_empty c =
    number_of-length c.args.field.now (elim c.then-is_empty.branch [
      | then-is_empty-via-then-is_empty w ↦ inl (grind (arith, nat_tests, w.if-is_empty.ensures))
      | then-is_empty-via-else-is_empty+then-field-gt6 w ↦ inr (omega arith)
    ])

pub returns-then-field-gt1 : goal.returns-then-field-gt1
returns-then-field-gt1 c = number_of-zero c.args.field.now c.if-field-eq48.true c.if-field-gt1.true

pub returns-then-not-is_ascii_digit : goal.returns-then-not-is_ascii_digit
returns-then-not-is_ascii_digit c = number_of-other c.args.field.now c.loop-digit.digit-index (omega arith) c.if-not-is_ascii_digit.ensures.cases

pub loop-digit-preserved : goal.loop-digit-preserved
loop-digit-preserved c =
    let low : 48 ≤ get_or c.args.field.now c.loop-digit.digit-index 0 = c.if-not-is_ascii_digit.ensures.cases.0 in
    let high : get_or c.args.field.now c.loop-digit.digit-index 0 ≤ 57 = c.if-not-is_ascii_digit.ensures.cases.1 in
    let value = digits_value-more c.args.field.now c.loop-digit.digit-index (omega arith) low high in
    record {
      digits = digits-more c.args.field.now c.loop-digit.digit-index (omega arith) low high c.loop-digit.invariant.digits;
      value = omega (arith, value);
      small = rw add-one (omega arith);
    }

pub returns : goal.returns
returns c =
    let field = c.args.field.now in
    let all = take_all c.loop-digit.digit-index field (omega arith) in
    let digits : all_ascii_digits field ≡ true = subst (λ part. all_ascii_digits part ≡ true) all c.loop-digit.invariant.digits in
    let value : c.loop-digit.value ≡ digits_value 10 field = c.loop-digit.invariant.value ∙ ap (digits_value 10) all in
    let some = c.if-is_empty.ensures in
    let first = digit_at field 0 (numerals.to field digits) (grind (arith, nat_tests, some)) in
    rw value (number_of-digits field (grind (arith, nat_tests, some)) (omega arith) digits
    (elim c.else-field-eq48.branch [
      | else-field-eq48-via-then-field-eq48+else-field-gt1 w ↦ inr (grind (arith, nat_tests, some))
      | else-field-eq48-via-else-field-eq48 w ↦ inl (omega (arith, first.0))
    ]))
