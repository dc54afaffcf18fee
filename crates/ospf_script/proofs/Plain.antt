-- What spells a value is ASCII, and so is text.
use Rattle.std.proofs.Common.{◌≡◌, ◌<◌, ◌≤◌, ◌^◌, ◌++◌, ℕ, List, [], ◌∷◌, codes, length, decimal, Option, Some, None, IfNone, Result, Ok, Err, IfErr, IsErrAnd, arith, subst, sym}
use Rattle.std.specs.Char.{digit_value}
use Rattle.std.specs.Str.{IsAscii, IsUtf8}
use Rattle.std.specs.Str.Parse.{AllDigits, digits_value}
use Rattle.std.proofs.lemmas.Bool.Decides.{nat_tests}
use Rattle.std.proofs.lemmas.Int.Digits.{digits_value-lt}
use Rattle.std.proofs.lemmas.Fmt.{IsAscii-decimal, decimal_is_IsNumeral}
use Rattle.std.proofs.lemmas.Str.{IsAscii-append, IsUtf8-from_ascii}
use Rattle.std.proofs.lemmas.Str.Ascii.{IsAscii-nil, IsAscii-cons}
use Rattle.ospf_base.specs.Text.{IsDottedNumber}
use Rattle.ospf_base.specs.declared.ids.RouterId.{RouterId}
use Rattle.ospf_script.specs.Values.{IsRouterWord}
use Rattle.ospf_script.specs.Words.{Finds}

pub if_none : {A : Type 0} (o : Option A) (P : Type 0) → P → IfNone o P
if_none None P p = p
if_none (Some x) P p = tt

-- of an error that is handed on
pub err_of : {T E : Type 0} (r : Result T E) (f : E) (P : E → Type 0) → IsErrAnd r (λ e. e ≡ f) → P f → IfErr r P
err_of (Ok x) f P h p = absurd h
err_of (Err e) f P h p = subst P (sym h) p

-- of nothing that is found
pub finds_none : {A : Type 0} (o : Option A) (P : A → Type 0) → o ≡ None → ((value : A) → P value → ⊥) → Finds o P
finds_none None P is none = none
finds_none (Some x) P is none = let both : Some x ≡ None = is in cc

digit_is_ascii : (c : ℕ) → digit_value c < 36 → c < 128
digit_is_ascii c h = grind (arith, nat_tests)

pub digits_are_ascii : (radix : ℕ) (ds : List ℕ) → radix ≤ 36 → AllDigits radix ds → IsAscii ds
digits_are_ascii radix [] small h = IsAscii-nil
digits_are_ascii radix (d ∷ ds) small h =
    IsAscii-cons d ds (digit_is_ascii d (omega (arith, h.0))) (digits_are_ascii radix ds small h.1)

pub digits_are_text : (radix : ℕ) (ds : List ℕ) → radix ≤ 36 → AllDigits radix ds → IsUtf8 ds
digits_are_text radix ds small h = IsUtf8-from_ascii ds (digits_are_ascii radix ds small h)

dot_is_ascii : IsAscii (codes ".")
dot_is_ascii = IsAscii-cons 46 [] (omega arith) IsAscii-nil

pub dotted_is_ascii : (text : List ℕ) (n : ℕ) → IsDottedNumber text n → IsAscii text
dotted_is_ascii text n h =
    let f = h.fit in
    let one = IsAscii-decimal h.a (omega (arith, f.0)) in
    let two = IsAscii-decimal h.b (omega (arith, f.1)) in
    let three = IsAscii-decimal h.c (omega (arith, f.2)) in
    let four = IsAscii-decimal h.d (omega (arith, f.3)) in
    let spelled = IsAscii-append _ _ (IsAscii-append _ _ (IsAscii-append _ _ (IsAscii-append _ _ (IsAscii-append _ _ (IsAscii-append _ _ one dot_is_ascii) two) dot_is_ascii) three) dot_is_ascii) four in
    subst IsAscii (sym h.spelled) spelled

pub dotted_is_text : (text : List ℕ) (n : ℕ) → IsDottedNumber text n → IsUtf8 text
dotted_is_text text n h = IsUtf8-from_ascii text (dotted_is_ascii text n h)

-- eight hexadecimal digits spell a number of 32 bits
pub eight_digits_fit : (ds : List ℕ) → AllDigits 16 ds → length ds ≡ 8 → digits_value 16 ds < 2 ^ 32
eight_digits_fit ds digits eight =
    let below : digits_value 16 ds < 16 ^ length ds = digits_value-lt 16 ds digits in
    let P : ℕ → Type 0 = λ n. digits_value 16 ds < 16 ^ n in
    subst P eight below

-- ---- digits and dots are below letters

abbrev AreLow : List ℕ → Type 0
AreLow [] = Unit {0}
AreLow (b ∷ bs) = (b < 58) × AreLow bs

low_append : (xs ys : List ℕ) → AreLow xs → AreLow ys → AreLow (xs ++ ys)
low_append [] ys a b = b
low_append (x ∷ xs) ys a b = (a.0, low_append xs ys a.1 b)

digit_is_low : (c : ℕ) → digit_value c < 10 → c < 58
digit_is_low c h = grind (arith, nat_tests)

digits_are_low : (ds : List ℕ) → AllDigits 10 ds → AreLow ds
digits_are_low [] h = tt
digits_are_low (d ∷ ds) h = (digit_is_low d h.0, digits_are_low ds h.1)

decimal_is_low : (n : ℕ) → n < 2 ^ 64 → AreLow (decimal n)
decimal_is_low n h = digits_are_low (decimal n) (decimal_is_IsNumeral n h).0.1

dot_is_low : AreLow (codes ".")
dot_is_low = (omega arith, tt)

dotted_is_low : (text : List ℕ) (n : ℕ) → IsDottedNumber text n → AreLow text
dotted_is_low text n h =
    let f = h.fit in
    let one = decimal_is_low h.a (omega (arith, f.0)) in
    let two = decimal_is_low h.b (omega (arith, f.1)) in
    let three = decimal_is_low h.c (omega (arith, f.2)) in
    let four = decimal_is_low h.d (omega (arith, f.3)) in
    let spelled = low_append _ _ (low_append _ _ (low_append _ _ (low_append _ _ (low_append _ _ (low_append _ _ one dot_is_low) two) dot_is_low) three) dot_is_low) four in
    subst AreLow (sym h.spelled) spelled

-- the word `headline` is no Router ID
pub headline_is_no_router : (word : List ℕ) (router : RouterId) → word ≡ codes "headline" → IsRouterWord word router → ⊥
headline_is_no_router word router is spelled =
    let low : AreLow (codes "headline") = subst AreLow is (dotted_is_low word router.0 spelled.0) in
    omega (arith, low.0)
