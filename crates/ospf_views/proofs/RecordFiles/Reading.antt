-- A capture comes apart in one way.
use Rattle.std.proofs.Common.{◌≡◌, ℕ, ◌^◌, ◌<◌, List, [], ◌∷◌, ◌++◌, length, take, drop, refl, sym, ap, ◌∙◌, arith}
use Rattle.std.specs.List.{flat_map, AllByRecursion}
use Rattle.std.proofs.lemmas.List.{take_at, drop_at}
use Rattle.ospf_base.specs.Bytes.{number_at, number_bytes}
use Rattle.ospf_base.proofs.Numbers.{four_back}
use Rattle.ospf_views.specs.RecordFiles.Pcap.{Captured, CapturedFits, record_bytes, capture_bytes}

-- one number is read at the front of four bytes
same_number : (m n : ℕ) (xs ys : List ℕ) → m < 2 ^ 32 → n < 2 ^ 32 → number_bytes 4 m ++ xs ≡ number_bytes 4 n ++ ys → m ≡ n
same_number m n xs ys hm hn e = sym (four_back m xs hm) ∙ ap (number_at 0 4) e ∙ four_back n ys hn

same_captured : (a b c d : ℕ) (p q : List ℕ) → a ≡ c → b ≡ d → p ≡ q
    → let x : Captured = record { seconds = a; microseconds = b; packet = p } in x ≡ record { seconds = c; microseconds = d; packet = q }
same_captured a b c d p q ea eb ep = cc

-- the packet at the front, and what stands behind it
first_of : (x y : Captured) (xs ys : List ℕ) → CapturedFits x → CapturedFits y → record_bytes x ++ xs ≡ record_bytes y ++ ys → (x ≡ y) × (xs ≡ ys)
first_of x y xs ys fx fy e =
    let seconds = same_number x.seconds y.seconds _ _ fx.seconds fy.seconds e in
    let micros = same_number x.microseconds y.microseconds _ _ (omega (arith, fx.microseconds)) (omega (arith, fy.microseconds)) (ap (drop 4) e) in
    let size = same_number (length x.packet) (length y.packet) _ _ (omega (arith, fx.size)) (omega (arith, fy.size)) (ap (drop 8) e) in
    let behind : x.packet ++ xs ≡ y.packet ++ ys = ap (drop 16) e in
    let packet = sym (take_at x.packet xs (length x.packet) refl) ∙ ap (take (length x.packet)) behind ∙ take_at y.packet ys (length x.packet) (sym size) in
    let rest = sym (drop_at x.packet xs (length x.packet) refl) ∙ ap (drop (length x.packet)) behind ∙ drop_at y.packet ys (length x.packet) (sym size) in
    (same_captured _ _ _ _ _ _ seconds micros packet, rest)

same_packets : (xs ys : List Captured) → AllByRecursion CapturedFits xs → AllByRecursion CapturedFits ys → flat_map record_bytes xs ≡ flat_map record_bytes ys → xs ≡ ys
same_packets [] [] fx fy e = refl
same_packets [] (y ∷ ys) fx fy e = absurd (cc)
same_packets (x ∷ xs) [] fx fy e = absurd (cc)
same_packets (x ∷ xs) (y ∷ ys) fx fy e =
    let first = first_of x y (flat_map record_bytes xs) (flat_map record_bytes ys) fx.0 fy.0 e in
    let rest = same_packets xs ys fx.1 fy.1 first.1 in
    let here = first.0 in
    cc

pub one_reading : (xs ys : List Captured) → AllByRecursion CapturedFits xs → AllByRecursion CapturedFits ys → capture_bytes xs ≡ capture_bytes ys → xs ≡ ys
one_reading xs ys fx fy e = same_packets xs ys fx fy (ap (drop 24) e)
