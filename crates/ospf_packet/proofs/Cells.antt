-- Bytes that are read are written as they stood: fields and entries of a fixed size.
use Rattle.std.proofs.Common.{◌≡◌, ℕ, ◌+◌, ◌≤◌, List, [], ◌∷◌, ◌++◌, length, get_or, take, refl, sym, ap, ◌∙◌, arith}
use Rattle.std.specs.Int.{w32, cast_signed, cast_unsigned}
use Rattle.std.proofs.lemmas.Int.{of_z-to_z}
use borrow.Author.Gap.{read_sfits}
use Rattle.ospf_base.specs.Bytes.{number_at, number_bytes, AreBytes}
use Rattle.ospf_base.proofs.Numbers.{four_bytes, two_bytes}
use Rattle.ospf_lsa.specs.Header.{header_of, HeaderFits}
use Rattle.ospf_packet.specs.Fields.{hello_at, hello_bytes, HelloFits, description_at, description_bytes, DescriptionFits}
use Rattle.ospf_packet.specs.Headers.{AgedFits}
use Rattle.ospf_packet.specs.Meaning.{head_bytes}
use Rattle.ospf_lsa.specs.Attached.{router_bytes, RouterFits}
use Rattle.ospf_packet.proofs.Routers.{router_at}
use Rattle.ospf_packet.specs.Requests.{request_entry_at, request_entry_bytes, RequestEntryFits}
use Rattle.ospf_packet.specs.Spelling.{HeaderEntry, header_entry_bytes, HeaderEntryFits}

-- ---- what holds of so many cells, and bytes behind them, holds of bytes that are so many

four_cells : (P : List ℕ → Type 0) (bytes : List ℕ) → 4 ≤ length bytes
    → ((a b c d : ℕ) (rest : List ℕ) → length bytes ≡ 4 + length rest → P (a ∷ b ∷ c ∷ d ∷ rest)) → P bytes
four_cells P [] long f = absurd (omega arith)
four_cells P (a ∷ []) long f = absurd (omega arith)
four_cells P (a ∷ b ∷ []) long f = absurd (omega arith)
four_cells P (a ∷ b ∷ c ∷ []) long f = absurd (omega arith)
four_cells P (a ∷ b ∷ c ∷ d ∷ rest) long f = f a b c d rest (omega arith)

eight_cells : (P : List ℕ → Type 0) (bytes : List ℕ) → 8 ≤ length bytes
    → ((a b c d e f g h : ℕ) (rest : List ℕ) → length bytes ≡ 8 + length rest → P (a ∷ b ∷ c ∷ d ∷ e ∷ f ∷ g ∷ h ∷ rest)) → P bytes
eight_cells P bytes long F =
    four_cells P bytes (omega arith) (λ a b c d t l. four_cells (λ (x : List ℕ). P (a ∷ b ∷ c ∷ d ∷ x)) t (omega arith)
    (λ e f g h u k. F a b c d e f g h u (omega arith)))

twelve_cells : (P : List ℕ → Type 0) (bytes : List ℕ) → 12 ≤ length bytes
    → ((a b c d e f g h i j k l : ℕ) (rest : List ℕ) → length bytes ≡ 12 + length rest → P (a ∷ b ∷ c ∷ d ∷ e ∷ f ∷ g ∷ h ∷ i ∷ j ∷ k ∷ l ∷ rest)) → P bytes
twelve_cells P bytes long F =
    eight_cells P bytes (omega arith) (λ a b c d e f g h t m. four_cells (λ (x : List ℕ). P (a ∷ b ∷ c ∷ d ∷ e ∷ f ∷ g ∷ h ∷ x)) t (omega arith)
    (λ i j k l u n. F a b c d e f g h i j k l u (omega arith)))

pub sixteen_cells : (P : List ℕ → Type 0) (bytes : List ℕ) → 16 ≤ length bytes
    → ((a b c d e f g h i j k l m n o p : ℕ) (rest : List ℕ) → P (a ∷ b ∷ c ∷ d ∷ e ∷ f ∷ g ∷ h ∷ i ∷ j ∷ k ∷ l ∷ m ∷ n ∷ o ∷ p ∷ rest)) → P bytes
sixteen_cells P bytes long F =
    twelve_cells P bytes (omega arith) (λ a b c d e f g h i j k l t q. four_cells (λ (x : List ℕ). P (a ∷ b ∷ c ∷ d ∷ e ∷ f ∷ g ∷ h ∷ i ∷ j ∷ k ∷ l ∷ x)) t (omega arith)
    (λ m n o p u r. F a b c d e f g h i j k l m n o p u))

twenty_cells : (P : List ℕ → Type 0) (bytes : List ℕ) → 20 ≤ length bytes
    → ((a b c d e f g h i j k l m n o p q r s t : ℕ) (rest : List ℕ) → P (a ∷ b ∷ c ∷ d ∷ e ∷ f ∷ g ∷ h ∷ i ∷ j ∷ k ∷ l ∷ m ∷ n ∷ o ∷ p ∷ q ∷ r ∷ s ∷ t ∷ rest)) → P bytes
twenty_cells P bytes long F =
    twelve_cells P bytes (omega arith) (λ a b c d e f g h i j k l u v. eight_cells (λ (x : List ℕ). P (a ∷ b ∷ c ∷ d ∷ e ∷ f ∷ g ∷ h ∷ i ∷ j ∷ k ∷ l ∷ x)) u (omega arith)
    (λ m n o p q r s t w x. F a b c d e f g h i j k l m n o p q r s t w))

-- ---- fields

pub hello_again : (bytes : List ℕ) → AreBytes bytes → 20 ≤ length bytes → hello_bytes (hello_at bytes) ≡ take 20 bytes
hello_again bytes fits long =
    twenty_cells (λ (x : List ℕ). AreBytes x → hello_bytes (hello_at x) ≡ take 20 x) bytes long
    (λ a b c d e f g h i j k l m n o p q r s t rest fit.
    let mask = four_bytes a b c d [] (fit 0) (fit 1) (fit 2) (fit 3) in
    let interval = two_bytes e f [] (fit 4) (fit 5) in
    let dead = four_bytes i j k l [] (fit 8) (fit 9) (fit 10) (fit 11) in
    let designated = four_bytes m n o p [] (fit 12) (fit 13) (fit 14) (fit 15) in
    let backup = four_bytes q r s t [] (fit 16) (fit 17) (fit 18) (fit 19) in
    cc) fits

pub hello_fits : (bytes : List ℕ) → AreBytes bytes → HelloFits (hello_at bytes)
hello_fits bytes fit =
    let f0 = fit 0 in let f1 = fit 1 in let f2 = fit 2 in let f3 = fit 3 in let f4 = fit 4 in let f5 = fit 5 in
    let f8 = fit 8 in let f9 = fit 9 in let f10 = fit 10 in let f11 = fit 11 in let f12 = fit 12 in let f13 = fit 13 in
    let f14 = fit 14 in let f15 = fit 15 in let f16 = fit 16 in let f17 = fit 17 in let f18 = fit 18 in let f19 = fit 19 in
    record {
      mask = omega arith;
      hello_interval = omega arith;
      options = fit 6;
      priority = fit 7;
      dead_interval = omega arith;
      designated = omega arith;
      backup = omega arith;
    }

pub description_again : (bytes : List ℕ) → AreBytes bytes → 8 ≤ length bytes → description_bytes (description_at bytes) ≡ take 8 bytes
description_again bytes fits long =
    eight_cells (λ (x : List ℕ). AreBytes x → description_bytes (description_at x) ≡ take 8 x) bytes long
    (λ a b c d e f g h rest len fit.
    let mtu = two_bytes a b [] (fit 0) (fit 1) in
    let number = four_bytes e f g h [] (fit 4) (fit 5) (fit 6) (fit 7) in
    cc) fits

pub description_fits : (bytes : List ℕ) → AreBytes bytes → DescriptionFits (description_at bytes)
description_fits bytes fit =
    let f0 = fit 0 in let f1 = fit 1 in let f4 = fit 4 in let f5 = fit 5 in let f6 = fit 6 in let f7 = fit 7 in
    record { mtu = omega arith; options = fit 2; flags = fit 3; number = omega arith }

-- ---- entries

pub router_again : (bytes : List ℕ) → AreBytes bytes → 4 ≤ length bytes → router_bytes (router_at bytes) ≡ take 4 bytes
router_again bytes fits long =
    four_cells (λ (x : List ℕ). AreBytes x → router_bytes (router_at x) ≡ take 4 x) bytes long
    (λ a b c d rest len fit. four_bytes a b c d [] (fit 0) (fit 1) (fit 2) (fit 3)) fits

pub router_fits : (bytes : List ℕ) → AreBytes bytes → 4 ≤ length bytes → RouterFits (router_at bytes)
router_fits bytes fit long = let f0 = fit 0 in let f1 = fit 1 in let f2 = fit 2 in let f3 = fit 3 in omega arith

pub entry_again : (bytes : List ℕ) → AreBytes bytes → 12 ≤ length bytes → request_entry_bytes (request_entry_at bytes) ≡ take 12 bytes
entry_again bytes fits long =
    twelve_cells (λ (x : List ℕ). AreBytes x → request_entry_bytes (request_entry_at x) ≡ take 12 x) bytes long
    (λ a b c d e f g h i j k l rest len fit.
    let kind = four_bytes a b c d [] (fit 0) (fit 1) (fit 2) (fit 3) in
    let id = four_bytes e f g h [] (fit 4) (fit 5) (fit 6) (fit 7) in
    let router = four_bytes i j k l [] (fit 8) (fit 9) (fit 10) (fit 11) in
    cc) fits

pub entry_fits : (bytes : List ℕ) → AreBytes bytes → 12 ≤ length bytes → RequestEntryFits (request_entry_at bytes)
entry_fits bytes fit long =
    let f0 = fit 0 in let f1 = fit 1 in let f2 = fit 2 in let f3 = fit 3 in let f4 = fit 4 in let f5 = fit 5 in
    let f6 = fit 6 in let f7 = fit 7 in let f8 = fit 8 in let f9 = fit 9 in let f10 = fit 10 in let f11 = fit 11 in
    record { kind = omega arith; id = omega arith; router = omega arith }

-- ---- LSA headers

-- the header in the first 20 bytes, with its age field
abbrev pub header_entry_at : List ℕ → HeaderEntry
header_entry_at bytes = record { header = header_of bytes; age_field = number_at 0 2 bytes }

pub header_again : (bytes : List ℕ) → AreBytes bytes → 20 ≤ length bytes → header_entry_bytes (header_entry_at bytes) ≡ take 20 bytes
header_again bytes fits long =
    twenty_cells (λ (x : List ℕ). AreBytes x → header_entry_bytes (header_entry_at x) ≡ take 20 x) bytes long
    (λ a b c d e f g h i j k l m n o p q r s t rest fit.
    let age = two_bytes a b [] (fit 0) (fit 1) in
    let id = four_bytes e f g h [] (fit 4) (fit 5) (fit 6) (fit 7) in
    let router = four_bytes i j k l [] (fit 8) (fit 9) (fit 10) (fit 11) in
    let bits = four_bytes m n o p [] (fit 12) (fit 13) (fit 14) (fit 15) in
    let sum = two_bytes q r [] (fit 16) (fit 17) in
    let len = two_bytes s t [] (fit 18) (fit 19) in
    let number = number_at 0 4 (m ∷ n ∷ o ∷ p ∷ []) in
    let f12 = fit 12 in let f13 = fit 13 in let f14 = fit 14 in let f15 = fit 15 in
    let signed : cast_unsigned w32 (cast_signed w32 number) ≡ number = of_z-to_z w32 number (omega arith) in
    rw signed (cc)) fits

header_fits : (bytes : List ℕ) → AreBytes bytes → HeaderFits (header_of bytes)
header_fits bytes fit =
    let f4 = fit 4 in let f5 = fit 5 in let f6 = fit 6 in let f7 = fit 7 in let f8 = fit 8 in let f9 = fit 9 in let f10 = fit 10 in let f11 = fit 11 in
    let f16 = fit 16 in let f17 = fit 17 in let f18 = fit 18 in let f19 = fit 19 in
    record {
      options = fit 2;
      kind = fit 3;
      id = omega arith;
      router = omega arith;
      number = read_sfits w32 (number_at 12 4 bytes);
      sum = omega arith;
      length_fits = omega arith;
    }

pub aged_fits : (bytes : List ℕ) → AreBytes bytes → 20 ≤ length bytes → AgedFits (header_of bytes)
aged_fits bytes fit long = record { age = omega arith; rest = header_fits bytes fit }

pub header_entry_fits : (bytes : List ℕ) → AreBytes bytes → 20 ≤ length bytes → HeaderEntryFits (header_entry_at bytes)
header_entry_fits bytes fit long =
    let f0 = fit 0 in let f1 = fit 1 in
    record { age_fits = omega arith; age_is = refl; rest = header_fits bytes fit }

-- ---- the header of a packet

-- what is asked of the first 16 bytes of a packet, whose length and checksum are these
abbrev HeadIs : ℕ → ℕ → List ℕ → Type 0
HeadIs len sum x =
    take 16 x ≡ head_bytes (get_or x 1 0) len (record { 0 = number_at 4 4 x }) (record { 0 = number_at 8 4 x }) ++ number_bytes 2 sum ++ (0 ∷ 0 ∷ [])

pub head_again : (bytes : List ℕ) → AreBytes bytes → 16 ≤ length bytes → get_or bytes 0 0 ≡ 2 → (len sum : ℕ) → number_at 2 2 bytes ≡ len
    → number_at 12 2 bytes ≡ sum → number_at 14 2 bytes ≡ 0
    → take 16 bytes ≡ head_bytes (get_or bytes 1 0) len (record { 0 = number_at 4 4 bytes }) (record { 0 = number_at 8 4 bytes }) ++ number_bytes 2 sum ++ (0 ∷ 0 ∷ [])
head_again bytes fits long version len sum len_is sum_is auth =
    sixteen_cells (λ (x : List ℕ). AreBytes x → get_or x 0 0 ≡ 2 → number_at 2 2 x ≡ len → number_at 12 2 x ≡ sum → number_at 14 2 x ≡ 0 → HeadIs len sum x) bytes long
    (λ a b c d e f g h i j k l m n o p rest fit v le su au.
    let length_bytes = ap (number_bytes 2) (sym le) ∙ two_bytes c d [] (fit 2) (fit 3) in
    let router = four_bytes e f g h [] (fit 4) (fit 5) (fit 6) (fit 7) in
    let area = four_bytes i j k l [] (fit 8) (fit 9) (fit 10) (fit 11) in
    let sum_bytes = ap (number_bytes 2) (sym su) ∙ two_bytes m n [] (fit 12) (fit 13) in
    let high : o ≡ 0 = omega arith in
    let low : p ≡ 0 = omega arith in
    cc) fits version len_is sum_is auth
