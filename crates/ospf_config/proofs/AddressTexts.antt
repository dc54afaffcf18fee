-- The parts of a text that spells a prefix are found at its first slash.
use Rattle.std.proofs.Common.{◌≡◌, ℕ, ◌^◌, ◌<◌, ◌≤◌, List, length, get_or, decimal, Option, Some, None, IfNone, Result, Ok, Err, Bor, sym, ap, ◌∙◌, arith}
use Rattle.std.specs.Option.{MatchOption}
use Rattle.std.specs.Str.Parse.{AllDigits, digits_value, ParsesUnsigned}
use Rattle.std.proofs.lemmas.Bool.Decides.{nat_tests}
use Rattle.std.proofs.lemmas.Fmt.{decimal_is_IsNumeral, decimal-digits_value, first_decimal}
use Rattle.std.proofs.lemmas.Str.Parse.{IsNumeralModel, numerals_by_value, tells_digits, digit_at, parse_plain}
use Rattle.std.proofs.lemmas.Str.Pattern.{IsSplitOnceResult, split_after}
use Rattle.ospf_base.specs.Text.{IsDottedNumber}
use Rattle.ospf_base.proofs.Dotted.{HasNo, dotted_has_no}
use Rattle.ospf_config.specs.Texts.{IsPrefixText}

-- ---- the slash

pub dotted_no_slash : (text : List ℕ) (n : ℕ) → IsDottedNumber text n → HasNo 47 text
dotted_no_slash text n h = dotted_has_no 47 (λ k. grind (arith, nat_tests)) text n h

-- where the first slash of a text that spells a prefix is, its two parts stand
pub parts_of : (text : List ℕ) (r : Option (Bor (List ℕ) × Bor (List ℕ))) (address n : ℕ) (p : IsPrefixText text address n)
    → IsSplitOnceResult 47 text r → MatchOption r ⊥ (λ x. (x.0.now ≡ p.dotted) × (x.1.now ≡ decimal n))
parts_of text r address n p split =
    split_after 47 text p.dotted (decimal n) r split (omega arith) p.spelled (λ i within. dotted_no_slash p.dotted address p.address_spelled i 0 within)

-- ---- the length

numerals : IsNumeralModel (AllDigits 10) (digits_value 10)
numerals = numerals_by_value (AllDigits 10) tells_digits

-- digits that do not begin with a zero are the decimal number that is read in them
pub read_is_decimal : {E : Type 0} (bs : List ℕ) (n : ℕ) (r : Result ℕ E) → r ≡ Ok n → ParsesUnsigned 8 10 bs r → 48 < get_or bs 0 0 → get_or bs 0 0 ≤ 57 → bs ≡ decimal n
read_is_decimal {E} bs n r is parsed low high =
    let read = parse_plain numerals 8 bs r parsed (λ e. omega arith) in
    let ok = rw is at read in
    let small : digits_value 10 bs < 2 ^ 64 = omega (arith, ok.0.2) in
    let back : decimal (digits_value 10 bs) ≡ bs = decimal-digits_value numerals bs ok.0.0 ok.0.1 (λ e. absurd (omega arith)) small in
    sym back ∙ ap decimal (sym ok.1)

-- where nothing is read, there is no decimal number
pub no_read_no_decimal : {E : Type 0} (bs : List ℕ) (n : ℕ) (r : Result ℕ E) (e : E) → r ≡ Err e → ParsesUnsigned 8 10 bs r → n < 256 → 0 < n → bs ≡ decimal n → ⊥
no_read_no_decimal {E} bs n r e is parsed small some spelled =
    let numeral = decimal_is_IsNumeral n (omega arith) in
    let first : 48 < get_or (decimal n) 0 0 = first_decimal n some (omega arith) in
    let first_here : 48 < get_or bs 0 0 = rw spelled first in
    let read = parse_plain numerals 8 bs r parsed (λ z. omega arith) in
    let not_read = rw is at read in
    not_read (rw spelled (numeral.0.1, numeral.0.0, (let v : digits_value 10 (decimal n) ≡ n = numeral.1 in omega arith)))

-- a decimal number above zero begins with a digit that is no zero
pub decimal_begins : (bs : List ℕ) (n : ℕ) → 1 ≤ n → n ≤ 31 → bs ≡ decimal n → (48 < get_or bs 0 0) × (get_or bs 0 0 ≤ 57) × (0 < length bs)
decimal_begins bs n low high spelled =
    let numeral = decimal_is_IsNumeral n (omega arith) in
    let first : 48 < get_or (decimal n) 0 0 = first_decimal n (omega arith) (omega arith) in
    let long : 0 < length (decimal n) = numeral.0.0 in
    let digit = digit_at (decimal n) 0 numeral.0.1 long in
    rw spelled (first, omega (arith, digit), long)

-- ---- options

pub if_none : {A : Type 0} (o : Option A) (P : Type 0) → P → IfNone o P
if_none None P p = p
if_none (Some x) P p = tt
