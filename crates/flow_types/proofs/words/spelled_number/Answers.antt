use Rattle.std.proofs.Common.{◌≡◌, ◌<◌, ◌^◌, sym, false, true, arith, refl, get_or, length, take}
use Rattle.std.specs.Char.{is_ascii_digit}
use Rattle.std.specs.Str.{all_ascii_digits}
use Rattle.std.specs.Str.Parse.{AllDigits, digits_value}
use Rattle.std.proofs.lemmas.Int.Digits.{digits_value-lt}
use Rattle.std.proofs.lemmas.List.{take_all}
use Rattle.std.proofs.lemmas.Str.Parse.{tells_all_ascii_digits, numerals_by_value}
use Rattle.flow_types.proofs.WordFacts.{next_digit, not_all_digits}
use Rattle.flow_types.proofs.words.spelled_number.Goals as goal

pub returns-then-not-is_ascii_digit-clause-value : goal.returns-then-not-is_ascii_digit-clause-value
returns-then-not-is_ascii_digit-clause-value c =
    let other : is_ascii_digit (get_or c.args.bytes.now c.loop-byte.byte-index 0) ≡ false =
    sym c.if-not-is_ascii_digit.ensures.value in
    rw (not_all_digits c.args.bytes.now c.loop-byte.byte-index c.loop-byte-test.true other) refl

pub overflow_mul-value : goal.overflow_mul-value
overflow_mul-value c =
    let next = next_digit 37 c.args.bytes.now c.loop-byte.byte-index c.requires
    c.loop-byte.invariant.1 c.if-not-is_ascii_digit.ensures.bound
    c.loop-byte-test.true in
    omega (arith, c.loop-byte.invariant.0)

pub overflow_add-value : goal.overflow_add-value
overflow_add-value c =
    let next = next_digit 37 c.args.bytes.now c.loop-byte.byte-index c.requires
    c.loop-byte.invariant.1 c.if-not-is_ascii_digit.ensures.bound
    c.loop-byte-test.true in
    omega (arith, c.loop-byte.invariant.0, c.from.ensures)

pub loop-byte-preserved : goal.loop-byte-preserved
loop-byte-preserved c =
    let next = next_digit 37 c.args.bytes.now c.loop-byte.byte-index c.requires
    c.loop-byte.invariant.1 c.if-not-is_ascii_digit.ensures.bound
    c.loop-byte-test.true in
    (omega (arith, c.loop-byte.invariant.0, c.from.ensures), next.digits)

pub returns : goal.returns
returns c =
    let whole : take c.loop-byte.byte-index c.args.bytes.now ≡ c.args.bytes.now =
    take_all c.loop-byte.byte-index c.args.bytes.now (omega (arith, c.loop-byte-test.false)) in
    let digits : AllDigits 10 c.args.bytes.now = rw whole at c.loop-byte.invariant.1 in
    let all : all_ascii_digits c.args.bytes.now ≡ true =
    (numerals_by_value _ tells_all_ascii_digits).from c.args.bytes.now digits in
    let below : digits_value 10 c.args.bytes.now < 10 ^ length c.args.bytes.now =
    digits_value-lt 10 c.args.bytes.now digits in
    record {
      value = rw (all, c.loop-byte.invariant.0, whole) refl;
      small = rw (c.loop-byte.invariant.0, whole) below;
    }
