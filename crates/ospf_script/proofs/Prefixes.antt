-- A word spells one prefix at most, whose parts stand around its first slash.
use Rattle.std.proofs.Common.{◌≡◌, ℕ, ◌∷◌, Option, Bor, sym, ap, ◌∙◌, subst, arith}
use Rattle.std.specs.Net.Grammar.{IsNumber}
use Rattle.std.specs.Option.{MatchOption}
use Rattle.std.specs.Prelude.{bit_and}
use Rattle.std.specs.Str.{IsUtf8}
use Rattle.std.specs.Str.Parse.{digits_value}
use Rattle.std.proofs.lemmas.Bool.Decides.{nat_tests}
use Rattle.std.proofs.lemmas.Str.{IsAscii-append, IsUtf8-from_ascii}
use Rattle.std.proofs.lemmas.Str.Ascii.{IsAscii-cons}
use Rattle.std.proofs.lemmas.Str.Pattern.{IsSplitOnceResult, split_after}
use Rattle.ospf_base.specs.Masks.{mask_of}
use Rattle.ospf_base.specs.Text.{IsDottedNumber}
use Rattle.ospf_base.specs.declared.ids.Addr.{Addr}
use Rattle.ospf_base.specs.declared.prefix.Prefix.{Prefix}
use Rattle.ospf_base.proofs.Dotted.{HasNo, dotted_has_no, one_cut}
use Rattle.ospf_base.proofs.PrefixLaws.{prefix_same}
use Rattle.ospf_script.specs.Values.{IsAddress, IsDotted32, IsPrefix}
use Rattle.ospf_script.specs.Words.{Text}
use Rattle.ospf_script.proofs.Plain.{digits_are_ascii, dotted_is_ascii}
use Rattle.ospf_script.proofs.OneValue.{number_one}

-- ---- the slash

dotted_no_slash : (text : Text) (n : ℕ) → IsDottedNumber text n → HasNo 47 text
dotted_no_slash text n h = dotted_has_no 47 (λ k. grind (arith, nat_tests)) text n h

-- where the first slash of a word that spells a prefix is, its parts stand
pub parts_of : (word : Text) (r : Option (Bor Text × Bor Text)) (prefix : Prefix) (p : IsPrefix word prefix)
    → IsSplitOnceResult 47 word r → MatchOption r ⊥ (λ x. (x.0.now ≡ p.dotted) × (x.1.now ≡ p.digits))
parts_of word r prefix p split =
    split_after 47 word p.dotted p.digits r split (omega arith) p.spelled
    (λ i within. dotted_no_slash p.dotted prefix.address.0 p.address_spelled.0 i 0 within)

-- ---- the word

pub prefix_is_text : (word : Text) (prefix : Prefix) → IsPrefix word prefix → IsUtf8 word
prefix_is_text word prefix p =
    let dotted = dotted_is_ascii p.dotted prefix.address.0 p.address_spelled.0 in
    let digits = digits_are_ascii 10 p.digits (omega arith) p.length_spelled.0.1 in
    IsUtf8-from_ascii word (rw p.spelled (IsAscii-append p.dotted (47 ∷ p.digits) dotted (IsAscii-cons 47 p.digits (omega arith) digits)))

pub prefix_spelled_one : (word : Text) (p q : Prefix) → IsPrefix word p → IsPrefix word q → p ≡ q
prefix_spelled_one word p q h k =
    let parts = one_cut 47 h.dotted h.digits k.dotted k.digits
    (dotted_no_slash h.dotted p.address.0 h.address_spelled.0) (dotted_no_slash k.dotted q.address.0 k.address_spelled.0) (sym h.spelled ∙ k.spelled) in
    let there : IsDotted32 k.dotted p.address.0 = subst (λ (text : Text). IsDotted32 text p.address.0) parts.0 h.address_spelled in
    let address : p.address.0 ≡ q.address.0 = number_one k.dotted p.address.0 q.address.0 there k.address_spelled in
    let length_is : p.length ≡ q.length = sym h.length_spelled.1 ∙ ap (digits_value 10) parts.1 ∙ k.length_spelled.1 in
    prefix_same p q address length_is

-- where a bit of the address that is read is outside the mask, no prefix is spelled
pub not_masked : (word d b : Text) (prefix : Prefix) (p : IsPrefix word prefix) (address : Addr) (n mask : ℕ) → d ≡ p.dotted → b ≡ p.digits
    → IsAddress d address → IsNumber 10 b n → mask ≡ mask_of n → (bit_and address.0 mask ≡ address.0 → ⊥) → ⊥
not_masked word d b prefix p address n mask front back spelled counted mask_is not =
    let here : IsDotted32 p.dotted address.0 = subst (λ (text : Text). IsDotted32 text address.0) front spelled in
    let one : prefix.address.0 ≡ address.0 = number_one p.dotted prefix.address.0 address.0 p.address_spelled here in
    let two : prefix.length ≡ n = sym p.length_spelled.1 ∙ ap (digits_value 10) (sym back) ∙ counted.1 in
    let masked : bit_and address.0 (mask_of n) ≡ address.0 = rw (← one, ← two) p.masked in
    not (rw mask_is masked)
