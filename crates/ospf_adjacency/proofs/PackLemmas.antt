-- One LSA more is packed.
use Rattle.std.proofs.Common.{◌≡◌, ℕ, ◌+◌, ◌-◌, ◌||◌, Bool, true, false, List, [], ◌∷◌, ◌++◌, length, map, ap, ◌∙◌, arith, nat_le, if◌then◌else◌}
use Rattle.ospf_base.specs.declared.ids.Addr.{Addr}
use Rattle.ospf_area.specs.Outboxes.{OutboxValue, and_packets}
use Rattle.ospf_area.proofs.OutboxLemmas.{packets_more}
use Rattle.ospf_neighbour.specs.Neighbour.{is_empty}
use Rattle.ospf_adjacency.specs.Packing.{bytes_in, goes_in, packed}
use Rattle.ospf_adjacency.proofs.Words.{update_to}

bytes_in-push : (batch : List (List ℕ)) (lsa : List ℕ) → bytes_in (batch ++ lsa ∷ []) ≡ bytes_in batch + length lsa
bytes_in-push [] lsa = omega arith
bytes_in-push (x ∷ xs) lsa = omega (arith, bytes_in-push xs lsa)

pub left_behind : (room left : ℕ) (batch : List (List ℕ)) (lsa : List ℕ) → left ≡ room - bytes_in batch → left - length lsa ≡ room - bytes_in (batch ++ lsa ∷ [])
left_behind room left batch lsa is = omega (arith, is, bytes_in-push batch lsa)

pub goes_by : (room left : ℕ) (batch : List (List ℕ)) (lsa : List ℕ) (goes : Bool) → left ≡ room - bytes_in batch → goes ≡ is_empty batch || nat_le (length lsa) left → goes ≡ goes_in room batch lsa
goes_by room left batch lsa goes is by = by ∙ ap (λ (k : ℕ). is_empty batch || nat_le (length lsa) k) is

-- it goes into the Update
pub packs_in : (room : ℕ) (to : Addr) (batch : List (List ℕ)) (lsa : List ℕ) (rest : List (List ℕ)) (out : OutboxValue) → true ≡ goes_in room batch lsa
    → and_packets out (map (update_to to) (packed room (batch ++ lsa ∷ []) rest)) ≡ and_packets out (map (update_to to) (packed room batch (lsa ∷ rest)))
packs_in room to batch lsa rest out goes = ap (λ (b : Bool). and_packets out (map (update_to to) (if b then packed room (batch ++ lsa ∷ []) rest else batch ∷ packed room (lsa ∷ []) rest))) goes

-- it begins the next one
pub packs_next : (room : ℕ) (to : Addr) (batch : List (List ℕ)) (lsa : List ℕ) (rest : List (List ℕ)) (out : OutboxValue) → false ≡ goes_in room batch lsa
    → and_packets (and_packets out (update_to to batch ∷ [])) (map (update_to to) (packed room (lsa ∷ []) rest)) ≡ and_packets out (map (update_to to) (packed room batch (lsa ∷ rest)))
packs_next room to batch lsa rest out goes =
    packets_more out (update_to to batch ∷ []) (map (update_to to) (packed room (lsa ∷ []) rest))
    ∙ ap (λ (b : Bool). and_packets out (map (update_to to) (if b then packed room (batch ++ lsa ∷ []) rest else batch ∷ packed room (lsa ∷ []) rest))) goes

-- an empty Update has all its room
pub left_whole : (room left : ℕ) (batch : List (List ℕ)) → left ≡ room → batch ≡ [] → left ≡ room - bytes_in batch
left_whole room left batch is none = let e : bytes_in batch ≡ 0 = ap bytes_in none in omega (arith, is, e)

-- and is as it was but for the LSA
pub packs_after : (room : ℕ) (to : Addr) (batch batch' : List (List ℕ)) (lsa : List ℕ) (rest : List (List ℕ)) (out out' : OutboxValue) → true ≡ goes_in room batch lsa
    → out' ≡ out → batch' ≡ batch ++ lsa ∷ []
    → and_packets out' (map (update_to to) (packed room batch' rest)) ≡ and_packets out (map (update_to to) (packed room batch (lsa ∷ rest)))
packs_after room to batch batch' lsa rest out out' goes same is =
    ap (λ (x : OutboxValue). and_packets x (map (update_to to) (packed room batch' rest))) same ∙ ap (λ (x : List (List ℕ)). and_packets out (map (update_to to) (packed room x rest))) is ∙ packs_in room to batch lsa rest out goes

pub packs_anew : (room : ℕ) (to : Addr) (batch batch' : List (List ℕ)) (lsa : List ℕ) (rest : List (List ℕ)) (out out' : OutboxValue) → false ≡ goes_in room batch lsa
    → out' ≡ and_packets out (update_to to batch ∷ []) → batch' ≡ lsa ∷ []
    → and_packets out' (map (update_to to) (packed room batch' rest)) ≡ and_packets out (map (update_to to) (packed room batch (lsa ∷ rest)))
packs_anew room to batch batch' lsa rest out out' goes sent is =
    ap (λ (x : OutboxValue). and_packets x (map (update_to to) (packed room batch' rest))) sent ∙ ap (λ (x : List (List ℕ)). and_packets (and_packets out (update_to to batch ∷ [])) (map (update_to to) (packed room x rest))) is
    ∙ packs_next room to batch lsa rest out goes
