-- Hexadecimal text is ASCII.
use Rattle.std.proofs.Common.{◌≡◌, ℕ, ◌<◌, List, Ok, Err, IsErr, true, arith, rules, refl}
use Rattle.std.specs.List.{AllPass}
use Rattle.std.proofs.lemmas.List.Elements.{All-weaker}
use Rattle.std.proofs.lemmas.Bool.Decides.{nat_tests}
use Rattle.std.specs.Str.{IsUtf8}
use Rattle.std.proofs.lemmas.Str.{IsUtf8-from_ascii}
use Rattle.std.proofs.lemmas.Str.Ascii.{IsAscii-from_all}
use Rattle.hex.specs.Hex.{decode_of, is_hex_digit}
use Rattle.hex.proofs.HexLemmas.{decode_of-ok}

digit-ascii : (c : ℕ) → is_hex_digit c ≡ true → c < 128
digit-ascii c h = grind (arith, nat_tests)

-- text of hexadecimal digits is UTF-8
pub digits-IsUtf8 : (text : List ℕ) → AllPass is_hex_digit text → IsUtf8 text
digits-IsUtf8 text h = IsUtf8-from_ascii text (IsAscii-from_all text (All-weaker (λ (c : ℕ). is_hex_digit c ≡ true) (λ (c : ℕ). c < 128) digit-ascii text h))

-- bytes that are no text spell no bytes
pub no_text-spells_none : (text : List ℕ) → ¬ (IsUtf8 text) → IsErr (decode_of text)
no_text-spells_none text not_text =
    elim (decode_of text) as (λ r. decode_of text ≡ r → IsErr r) [
      | Ok bytes ↦ λ e. absurd (not_text (digits-IsUtf8 text (decode_of-ok text bytes e).1))
      | Err error ↦ λ e. search rules
    ] refl
