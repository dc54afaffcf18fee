-- The checksum is put into a packet that stands behind other bytes.
use Rattle.std.proofs.Common.{◌≡◌, ℕ, ◌+◌, ◌-◌, ◌≤◌, List, [], ◌∷◌, ◌++◌, length, take, drop, refl, sym, ap, ◌∙◌, append_assoc, arith}
use Rattle.std.specs.Prelude.{slice_set}
use Rattle.std.proofs.lemmas.List.{take_at, drop_at, take-append-drop, length-take, length-drop, set-append_right}
use Rattle.ospf_base.specs.Sums.{packet_checksum}
use Rattle.ospf_packet.specs.Meaning.{Meaning, packet_body_type, packet_body_bytes, head_bytes, no_authentication, bytes_with_sum, packet_bytes, with_packet_sum}
use Rattle.ospf_packet.proofs.Cells.{sixteen_cells}

-- two bytes are set in a packet
set_sum : (packet : List ℕ) (high low : ℕ) → 24 ≤ length packet
    → slice_set (slice_set packet 12 high) 13 low ≡ take 12 packet ++ (high ∷ low ∷ []) ++ drop 14 packet
set_sum packet high low long =
    sixteen_cells (λ (x : List ℕ). slice_set (slice_set x 12 high) 13 low ≡ take 12 x ++ (high ∷ low ∷ []) ++ drop 14 x) packet (omega arith)
    (λ a b c d e f g h i j k l m n o p rest. refl)

-- a byte is set behind others
set_behind : (before packet : List ℕ) (start at byte : ℕ) → length before ≡ start → slice_set (before ++ packet) (start + at) byte ≡ before ++ slice_set packet at byte
set_behind before packet start at byte len =
    let here : start + at - start ≡ at = omega arith in
    set-append_right before packet start (start + at) byte len (omega arith) ∙ ap (λ n. before ++ slice_set packet n byte) here

-- two bytes are set in the packet that begins at `start`
pub set_sum_behind : (bytes : List ℕ) (start high low : ℕ) → start + 24 ≤ length bytes
    → slice_set (slice_set bytes (start + 12) high) (start + 13) low
    ≡ take start bytes ++ (take 12 (drop start bytes) ++ (high ∷ low ∷ []) ++ drop 14 (drop start bytes))
set_sum_behind bytes start high low long =
    let before = take start bytes in
    let packet = drop start bytes in
    let len : length before ≡ start = omega (arith, length-take start bytes) in
    ap (λ (x : List ℕ). slice_set (slice_set x (start + 12) high) (start + 13) low) (sym (take-append-drop start bytes))
    ∙ ap (λ (x : List ℕ). slice_set x (start + 13) low) (set_behind before packet start 12 high len)
    ∙ set_behind before (slice_set packet 12 high) start 13 low len
    ∙ ap (λ (x : List ℕ). before ++ x) (set_sum packet high low (omega (arith, length-drop start bytes)))

-- a header without its checksum and a body are the packet with zeros for its checksum
pub unsealed : (m : Meaning) (kind size : ℕ) (before headed whole : List ℕ)
    → headed ≡ before ++ (head_bytes kind size m.router m.area ++ (0 ∷ 0 ∷ no_authentication)) → whole ≡ headed ++ packet_body_bytes m.body
    → kind ≡ packet_body_type m.body → size ≡ 24 + length (packet_body_bytes m.body) → whole ≡ before ++ bytes_with_sum m 0
unsealed m kind size before headed whole head_is body_is kind_is size_is =
    body_is ∙ ap (λ (x : List ℕ). x ++ packet_body_bytes m.body) head_is
    ∙ append_assoc before (head_bytes kind size m.router m.area ++ (0 ∷ 0 ∷ no_authentication)) (packet_body_bytes m.body)
    ∙ ap (λ k. before ++ ((head_bytes k size m.router m.area ++ (0 ∷ 0 ∷ no_authentication)) ++ packet_body_bytes m.body)) kind_is
    ∙ ap (λ n. before ++ ((head_bytes (packet_body_type m.body) n m.router m.area ++ (0 ∷ 0 ∷ no_authentication)) ++ packet_body_bytes m.body)) size_is

-- a packet that was written with zeros for its checksum, and then got it
pub sealed_behind : (m : Meaning) (before bytes : List ℕ) (start : ℕ) → length before ≡ start → bytes ≡ before ++ bytes_with_sum m 0
    → take start bytes ++ with_packet_sum (drop start bytes) (packet_checksum (drop start bytes)) ≡ before ++ packet_bytes m
sealed_behind m before bytes start len are =
    let packet = bytes_with_sum m 0 in
    let front = ap (take start) are ∙ take_at before packet start len in
    let behind = ap (drop start) are ∙ drop_at before packet start len in
    ap (λ (x : List ℕ). x ++ with_packet_sum (drop start bytes) (packet_checksum (drop start bytes))) front
    ∙ ap (λ (x : List ℕ). before ++ with_packet_sum x (packet_checksum x)) behind
