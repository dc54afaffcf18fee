-- Updates have all copies, in order, as many in each as fit.
use Rattle.std.proofs.Common.{◌≡◌, ◌≢◌, ◌⊎◌, inl, inr, ◌+◌, ◌-◌, ◌<◌, ◌≤◌, ℕ, zero, suc, Bool, true, false, if◌then◌else◌, Option, None, List, [], ◌∷◌, ◌++◌, Some, length, length-append, get_or, map, refl, sym, ap, ◌∙◌, arith, add-one, append_assoc}
use Rattle.std.specs.List.{AllByRecursion, flat_map, slice_get}
use Rattle.std.proofs.lemmas.Bool.{leb-true, le-leb}
use Rattle.std.proofs.lemmas.Option.{none-some, same_Some}
use Rattle.ospf_base.specs.Rising.{IsRisingBy}
use Rattle.ospf_base.specs.Keys.{Precedes}
use Rattle.ospf_base.specs.declared.ids.LsaKey.{LsaKey}
use Rattle.ospf_lsdb.specs.Database.{Entry, Held, IsDatabase, entry_of, key_at}
use Rattle.ospf_packet.specs.Meaning.{update}
use Rattle.ospf_packet.specs.Slices.{lsas_bytes}
use Rattle.ospf_packet.specs.declared.entry.RequestEntry.{RequestEntry}
use Rattle.ospf_exchange.specs.Requests.{all_held, is_asked}
use Rattle.ospf_area.specs.Packing.{IsFull, IsWithin, ip_length}
use Rattle.ospf_area.specs.Sending.{packet_from}
use Rattle.ospf_area.specs.declared.sending.RouterContext.{RouterContext}
use Rattle.ospf_area.proofs.PackLemmas.{ip_length-is}
use Rattle.ospf_adjacency.specs.Answers.{answered_keys}
use Rattle.ospf_adjacency.specs.ResendLaws.{KeysGoInOrder, UpdatesArePacked}
use Rattle.ospf_adjacency.specs.Packing.{bytes_in, copies_of, goes_in, packed}
use Rattle.ospf_adjacency.proofs.Words.{asked_keys, update_room, with_copy, is_key_due}
use Rattle.ospf_adjacency.proofs.KeyLists.{filter_rises, keys_rise}

-- ---- the whole list

-- joined, they are the first ones and then these
abbrev Joins : ℕ → List (List ℕ) → List (List ℕ) → Type 0
Joins room first lsas = flat_map (λ (one : List (List ℕ)). one) (packed room first lsas) ≡ first ++ lsas

whole : (room : ℕ) (batch lsas : List (List ℕ)) → flat_map (λ (one : List (List ℕ)). one) (packed room batch lsas) ≡ batch ++ lsas
whole room [] [] = refl
whole room (b ∷ bs) [] = refl
whole room batch (lsa ∷ lsas) = by_test (goes_in room batch lsa) (whole room (batch ++ lsa ∷ []) lsas) (whole room (lsa ∷ []) lsas)
  where
    by_test : (goes : Bool) → Joins room (batch ++ lsa ∷ []) lsas → Joins room (lsa ∷ []) lsas → flat_map (λ (one : List (List ℕ)). one) (if goes then packed room (batch ++ lsa ∷ []) lsas else batch ∷ packed room (lsa ∷ []) lsas) ≡ batch ++ lsa ∷ lsas
    by_test true more next = more ∙ append_assoc batch (lsa ∷ []) lsas
    by_test false more next = ap (λ (l : List (List ℕ)). batch ++ l) next

-- ---- how long an Update is

bytes_joined : (lsas : List (List ℕ)) → length (lsas_bytes lsas) ≡ bytes_in lsas
bytes_joined [] = refl
bytes_joined (lsa ∷ lsas) = omega (arith, bytes_joined lsas, length-append lsa (lsas_bytes lsas))

update_sized : (own : RouterContext) (lsas : List (List ℕ)) → ip_length (packet_from own (update lsas)) ≡ 48 + bytes_in lsas
update_sized own lsas = omega (arith, ip_length-is own (update lsas), bytes_joined lsas)

bytes_more : (batch : List (List ℕ)) (lsa : List ℕ) → bytes_in (batch ++ lsa ∷ []) ≡ bytes_in batch + length lsa
bytes_more [] lsa = omega arith
bytes_more (x ∷ xs) lsa = omega (arith, bytes_more xs lsa)

-- an LSA that goes in behind others fits
room_left : (mtu : ℕ) (b : List ℕ) (bs : List (List ℕ)) (lsa : List ℕ) → 0 < length lsa → goes_in (update_room mtu) (b ∷ bs) lsa ≡ true → 48 + bytes_in ((b ∷ bs) ++ lsa ∷ []) ≤ mtu
room_left mtu b bs lsa some goes =
    let fits : length lsa ≤ update_room mtu - bytes_in (b ∷ bs) = leb-true (length lsa) (update_room mtu - bytes_in (b ∷ bs)) goes in
    omega (arith, fits, bytes_more (b ∷ bs) lsa)

-- one that does not would not have
room_gone : (mtu : ℕ) (batch : List (List ℕ)) (lsa : List ℕ) → goes_in (update_room mtu) batch lsa ≡ false → mtu < 48 + bytes_in (batch ++ lsa ∷ [])
room_gone mtu [] lsa stays = absurd (cc)
room_gone mtu (b ∷ bs) lsa stays =
    let over : length lsa ≤ update_room mtu - bytes_in (b ∷ bs) → ⊥ = λ fits. absurd (let goes = le-leb (length lsa) (update_room mtu - bytes_in (b ∷ bs)) fits in cc) in
    omega (arith, over, bytes_more (b ∷ bs) lsa)

-- ---- each Update

-- what is in the first Update already fits, or is one LSA at most
abbrev IsSound : ℕ → List (List ℕ) → Type 0
IsSound mtu batch = (48 + bytes_in batch ≤ mtu) ⊎ (length batch ≤ 1)

goes_on : (mtu : ℕ) (batch : List (List ℕ)) (lsa : List ℕ) → 0 < length lsa → goes_in (update_room mtu) batch lsa ≡ true → IsSound mtu (batch ++ lsa ∷ [])
goes_on mtu [] lsa some goes = inr (omega arith)
goes_on mtu (b ∷ bs) lsa some goes = inl (room_left mtu b bs lsa some goes)

is_out : (own : RouterContext) (mtu : ℕ) (batch : List (List ℕ)) → batch ≢ [] → IsSound mtu batch → IsWithin (λ lsas. packet_from own (update lsas)) mtu batch ⊎ (length batch ≡ 1)
is_out own mtu batch some (inl fits) = inl (omega (arith, update_sized own batch))
is_out own mtu [] some (inr one) = absurd (some refl)
is_out own mtu (b ∷ bs) some (inr one) = inr (omega arith)

has_some : (mtu : ℕ) (batch : List (List ℕ)) (lsa : List ℕ) → goes_in (update_room mtu) batch lsa ≡ false → batch ≢ []
has_some mtu batch lsa stays none = absurd (let goes : goes_in (update_room mtu) batch lsa ≡ true = ap (λ (l : List (List ℕ)). goes_in (update_room mtu) l lsa) none in cc)

abbrev AllSome : List (List (List ℕ)) → Type 0
AllSome packets = AllByRecursion (λ (one : List (List ℕ)). one ≢ []) packets

none_empty : (mtu : ℕ) (batch lsas : List (List ℕ)) → AllSome (packed (update_room mtu) batch lsas)
none_empty mtu [] [] = tt
none_empty mtu (b ∷ bs) [] = ((λ none. absurd (cc)), tt)
none_empty mtu batch (lsa ∷ lsas) = by_test (goes_in (update_room mtu) batch lsa) refl (none_empty mtu (batch ++ lsa ∷ []) lsas) (none_empty mtu (lsa ∷ []) lsas)
  where
    by_test : (goes : Bool) → goes_in (update_room mtu) batch lsa ≡ goes → AllSome (packed (update_room mtu) (batch ++ lsa ∷ []) lsas) → AllSome (packed (update_room mtu) (lsa ∷ []) lsas)
        → AllSome (if goes then packed (update_room mtu) (batch ++ lsa ∷ []) lsas else batch ∷ packed (update_room mtu) (lsa ∷ []) lsas)
    by_test true is more next = more
    by_test false is more next = (has_some mtu batch lsa is, next)

abbrev AllFit : RouterContext → ℕ → List (List (List ℕ)) → Type 0
AllFit own mtu packets = AllByRecursion (λ (one : List (List ℕ)). IsWithin (λ lsas. packet_from own (update lsas)) mtu one ⊎ (length one ≡ 1)) packets

all_fit : (own : RouterContext) (mtu : ℕ) (batch lsas : List (List ℕ)) → IsSound mtu batch → AllByRecursion (λ (lsa : List ℕ). 0 < length lsa) lsas
    → AllFit own mtu (packed (update_room mtu) batch lsas)
all_fit own mtu [] [] sound some = tt
all_fit own mtu (b ∷ bs) [] sound some = (is_out own mtu (b ∷ bs) (λ none. absurd (cc)) sound, tt)
all_fit own mtu batch (lsa ∷ lsas) sound some =
    by_test (goes_in (update_room mtu) batch lsa) refl (λ ok. all_fit own mtu (batch ++ lsa ∷ []) lsas ok some.1) (all_fit own mtu (lsa ∷ []) lsas (inr (omega arith)) some.1)
  where
    by_test : (goes : Bool) → goes_in (update_room mtu) batch lsa ≡ goes → (IsSound mtu (batch ++ lsa ∷ []) → AllFit own mtu (packed (update_room mtu) (batch ++ lsa ∷ []) lsas)) → AllFit own mtu (packed (update_room mtu) (lsa ∷ []) lsas)
        → AllFit own mtu (if goes then packed (update_room mtu) (batch ++ lsa ∷ []) lsas else batch ∷ packed (update_room mtu) (lsa ∷ []) lsas)
    by_test true is more next = more (goes_on mtu batch lsa some.0 is)
    by_test false is more next = (is_out own mtu batch (has_some mtu batch lsa is) sound, next)

-- ---- what comes next

-- an Update begins with what it had first
begins : (room : ℕ) (b : List ℕ) (bs lsas : List (List ℕ)) (next : List ℕ) (later : List (List ℕ)) → slice_get (packed room (b ∷ bs) lsas) 0 ≡ Some (next ∷ later) → next ≡ b
begins room b bs [] next later is = ap (λ (l : List (List ℕ)). get_or l 0 b) (sym (same_Some (b ∷ bs) (next ∷ later) is))
begins room b bs (lsa ∷ lsas) next later is = by_test (goes_in room (b ∷ bs) lsa) (λ more. begins room b (bs ++ lsa ∷ []) lsas next later more) is
  where
    by_test : (goes : Bool) → (slice_get (packed room (b ∷ (bs ++ lsa ∷ [])) lsas) 0 ≡ Some (next ∷ later) → next ≡ b) → slice_get (if goes then packed room (b ∷ (bs ++ lsa ∷ [])) lsas else (b ∷ bs) ∷ packed room (lsa ∷ []) lsas) 0 ≡ Some (next ∷ later) → next ≡ b
    by_test true rec is' = rec is'
    by_test false rec is' = ap (λ (l : List (List ℕ)). get_or l 0 b) (sym (same_Some (b ∷ bs) (next ∷ later) is'))

-- where two packets stand one behind the other, the first is full
abbrev FullAt : RouterContext → ℕ → List (List (List ℕ)) → ℕ → List (List ℕ) → List ℕ → List (List ℕ) → Type 0
FullAt own mtu packets i one next later = slice_get packets i ≡ Some one → slice_get packets (suc i) ≡ Some (next ∷ later) → IsFull (λ lsas. packet_from own (update lsas)) mtu one next

last_one : (own : RouterContext) (mtu : ℕ) (batch : List (List ℕ)) (k : ℕ) (one : List (List ℕ)) (next : List ℕ) (later : List (List ℕ))
    → slice_get (packed (update_room mtu) batch []) (suc k) ≡ Some (next ∷ later) → IsFull (λ lsas. packet_from own (update lsas)) mtu one next
last_one own mtu [] k one next later there = absurd (none-some (next ∷ later) there)
last_one own mtu (b ∷ bs) k one next later there = absurd (none-some (next ∷ later) there)

all_full : (own : RouterContext) (mtu : ℕ) (batch lsas : List (List ℕ)) (k : ℕ) (one : List (List ℕ)) (next : List ℕ) (later : List (List ℕ))
    → slice_get (packed (update_room mtu) batch lsas) k ≡ Some one → slice_get (packed (update_room mtu) batch lsas) (suc k) ≡ Some (next ∷ later) → IsFull (λ lsas. packet_from own (update lsas)) mtu one next
all_full own mtu batch [] k one next later here there = last_one own mtu batch k one next later there
all_full own mtu batch (lsa ∷ lsas) k one next later here there =
    by_test (goes_in (update_room mtu) batch lsa) refl k
    (λ i at_i at_next. all_full own mtu (batch ++ lsa ∷ []) lsas i one next later at_i at_next) (λ i at_i at_next. all_full own mtu (lsa ∷ []) lsas i one next later at_i at_next)
    here there
  where
    by_test : (goes : Bool) → goes_in (update_room mtu) batch lsa ≡ goes → (i : ℕ)
        → ((j : ℕ) → FullAt own mtu (packed (update_room mtu) (batch ++ lsa ∷ []) lsas) j one next later) → ((j : ℕ) → FullAt own mtu (packed (update_room mtu) (lsa ∷ []) lsas) j one next later)
        → FullAt own mtu (if goes then packed (update_room mtu) (batch ++ lsa ∷ []) lsas else batch ∷ packed (update_room mtu) (lsa ∷ []) lsas) i one next later
    by_test true is i more after at_i at_next = more i at_i at_next
    by_test false is zero more after at_i at_next =
        let first : next ≡ lsa = begins (update_room mtu) lsa [] lsas next later at_next in
        let same : batch ++ lsa ∷ [] ≡ one ++ next ∷ [] = ap (λ (l : List ℕ). batch ++ l ∷ []) (sym first) ∙ ap (λ (l : List (List ℕ)). l ++ next ∷ []) (same_Some batch one at_i) in
        omega (arith, room_gone mtu batch lsa is, ap bytes_in same, update_sized own (one ++ next ∷ []))
    by_test false is (suc i) more after at_i at_next = after i at_i at_next

-- ---- copies

-- each copy has an age at least
some_bytes : (db : List Held) (delay : ℕ) (keys : List LsaKey) → AllByRecursion (λ (lsa : List ℕ). 0 < length lsa) (copies_of db delay keys)
some_bytes db delay [] = tt
some_bytes db delay (k ∷ ks) = by_entry (entry_of db k) (some_bytes db delay ks)
  where
    by_entry : (o : Option Entry) → AllByRecursion (λ (lsa : List ℕ). 0 < length lsa) (copies_of db delay ks) → AllByRecursion (λ (lsa : List ℕ). 0 < length lsa) (with_copy delay o (copies_of db delay ks))
    by_entry None rest = rest
    by_entry (Some e) rest = (omega arith, rest)

pub updates_are_packed : UpdatesArePacked
updates_are_packed own destination mtu delay db keys =
    let lsas = copies_of db delay keys in (
      packed (update_room mtu) [] lsas,
      refl,
      record {
        whole = whole (update_room mtu) [] lsas;
        some = none_empty mtu [] lsas;
        fits = all_fit own mtu [] lsas (inr (omega arith)) (some_bytes db delay keys);
        full = λ k one next later here there. all_full own mtu [] lsas k one next later here (rw add-one at there);
      },
    )

-- ---- keys

answered_rise : (db : List Held) (entries : List RequestEntry) → IsDatabase db → IsRisingBy Precedes (answered_keys db entries)
answered_rise db entries is = by_test (all_held db entries)
  where
    by_test : (b : Bool) → IsRisingBy Precedes (if b then asked_keys db entries else [])
    by_test true = filter_rises (is_asked entries) (map key_at db) (keys_rise db is.rising)
    by_test false = tt

pub keys_go_in_order : KeysGoInOrder
keys_go_in_order = record {
  answered = answered_rise;
  again = λ retransmit tick db n is. filter_rises (is_key_due retransmit tick n) (map key_at db) (keys_rise db is.rising);
}
