-- Hexadecimal digits with zeros in front.
use Rattle.std.proofs.Common.{◌≡◌, ℕ, ◌-◌, ◌^◌, List, [], ◌++◌, length, replicate, false, ap, ◌∙◌, append-nil, arith}
use Rattle.std.specs.Fmt.{char_count, digits, format_spec, padded_integral}
use Rattle.ospf_script.specs.Texts.{hexadecimal}

-- no sign, no prefix, and no fill behind
padded_is : (width : ℕ) (numeral : List ℕ) → padded_integral (format_spec 32 0 4 width (2 ^ 64 - 1)) false [] numeral ≡ replicate (width - length numeral) 48 ++ numeral
unfolding padded_integral char_count
padded_is width numeral =
    let e : width - length numeral - 0 - 0 ≡ width - length numeral = omega arith in
    ap (λ n. replicate n 48 ++ (numeral ++ [])) e ∙ ap (λ (ds : List ℕ). replicate (width - length numeral) 48 ++ ds) (append-nil numeral)

pub hexadecimal_is : (width n : ℕ) → padded_integral (format_spec 32 0 4 width (2 ^ 64 - 1)) false [] (digits 16 false n) ≡ hexadecimal width n
unfolding hexadecimal
hexadecimal_is width n = padded_is width (digits 16 false n)
