-- Copies that go to all: what they leave as it is, what goes on waiting, and whom they reach.
use Rattle.std.proofs.Common.{◌≡◌, ◌||◌, ◌⊎◌, inl, inr, if◌then◌else◌, ℕ, Bool, true, false, Option, None, Some, List, [], ◌∷◌, ◌++◌, refl, sym, ap, subst, ◌∙◌}
use Rattle.std.specs.List.{slice_get}
use Rattle.std.specs.Option.{option_map}
use Rattle.std.proofs.lemmas.Option.{none-some, same_Some}
use Rattle.ospf_base.proofs.SameKeys.{same_key-eq, same_key-refl}
use Rattle.ospf_base.specs.Keys.{same_key}
use Rattle.ospf_base.specs.declared.ids.Instance.{Instance}
use Rattle.ospf_base.specs.declared.ids.LsaKey.{LsaKey}
use Rattle.ospf_base.specs.declared.ids.RouterId.{RouterId}
use Rattle.ospf_flood.specs.Offers.{instance_with}
use Rattle.ospf_lsa.specs.Header.{header_of}
use Rattle.ospf_lsa.specs.Lsa.{key_of}
use Rattle.ospf_lsdb.specs.Database.{Entry, Held, header_at, held_of, key_at, key_in, lsa_of}
use Rattle.ospf_lsdb.specs.Moments.{among}
use Rattle.ospf_neighbour.specs.Machine.{is_exchanging}
use Rattle.ospf_neighbour.specs.Neighbour.{NeighbourValue}
use Rattle.ospf_area.proofs.LawLemmas.{flooded_there, turns_there}
use Rattle.ospf_area.proofs.WaitLemmas.{flood_waits, reaches, turn_waits}
use Rattle.ospf_area.specs.Flooding.{goes_anywhere}
use Rattle.ospf_area.specs.Laws.{IsSpared}
use Rattle.ospf_area.specs.Sending.{and_sends, context_of}
use Rattle.ospf_area.specs.State.{AreaValue, Awaits, WaitsIn, database_entry, kept_number, neighbour}
use Rattle.ospf_area.specs.Acting.{Becomes, InTurn}
use Rattle.ospf_area.specs.Outputs.{OutputsValue}
use Rattle.ospf_area.proofs.SendingLemmas.{sends_more, sends_none}
use Rattle.ospf_area.specs.Updates.Aging.{SendsCopy, copy_flooded, turned_area}
use Rattle.ospf_area.proofs.Updates.Words.{copies_out, copies_sent, copy_flooded_by, copy_out, copy_sent, noted, flooded_area}
use Rattle.ospf_area.proofs.Words.{flooded_neighbour}

-- ---- what stays as it is

-- a copy that goes to all changes lists and marks alone
pub record KeepsAll (s t : AreaValue) : Type 0 where
  pub database : t.database ≡ s.database
  pub numbers : (key : LsaKey) → kept_number t key ≡ kept_number s key

pub copy_keeps : (key : LsaKey) (s : AreaValue) → KeepsAll s (copy_sent key s)
copy_keeps key s = by_copy (database_entry s key)
  where
    by_noted : (e : Entry) (b : Bool) → KeepsAll s (turned_area (noted key b (flooded_area (lsa_of e) None s)))
    by_noted e true = record { database = refl; numbers = λ k. refl }
    by_noted e false = record { database = refl; numbers = λ k. refl }

    by_copy : (o : Option Entry) → KeepsAll s (turned_area (copy_flooded_by o key s))
    by_copy None = record { database = refl; numbers = λ k. refl }
    by_copy (Some e) = by_noted e (goes_anywhere (key_of (lsa_of e)) (header_of (lsa_of e)) None s.links)

pub copies_keep : (keys : List LsaKey) (s : AreaValue) → KeepsAll s (copies_sent keys s)
copies_keep [] s = record { database = refl; numbers = λ k. refl }
copies_keep (key ∷ keys) s =
    let one = copy_keeps key s in
    let rest = copies_keep keys (copy_sent key s) in
    record { database = rest.database ∙ one.database; numbers = λ k. rest.numbers k ∙ one.numbers k }

-- ---- the copy of a key has the key

found_key : (db : List Held) (key : LsaKey) (h : Held) → held_of db key ≡ Some h → key_at h ≡ key
found_key [] key h is = absurd (none-some h is)
found_key (x ∷ xs) key h is = by_test (same_key (key_at x) key) refl is (found_key xs key h)
  where
    by_test : (b : Bool) → same_key (key_at x) key ≡ b → (if b then Some x else held_of xs key) ≡ Some h → (held_of xs key ≡ Some h → key_at h ≡ key) → key_at h ≡ key
    by_test true e is' rest = ap key_at (sym (same_Some x h is')) ∙ same_key-eq (key_at x) key e
    by_test false e is' rest = rest is'

pub copy_key : (s : AreaValue) (key : LsaKey) (e : Entry) → database_entry s key ≡ Some e → key_of (lsa_of e) ≡ key
unfolding key_in
copy_key s key e is = by_held (held_of s.database key) refl is
  where
    by_held : (o : Option Held) → held_of s.database key ≡ o → option_map (λ h. h.entry) o ≡ Some e → key_of (lsa_of e) ≡ key
    by_held None at is' = absurd (none-some e is')
    by_held (Some h) at is' = ap (λ (x : Entry). key_of (lsa_of x)) (sym (same_Some h.entry e is')) ∙ found_key s.database key h at

-- ---- what goes on waiting

-- LoadingDone and Requests leave it
turn_keeps : (s : AreaValue) (l : ℕ) (q : RouterId) (j : Instance) → Awaits s l q j → Awaits (turned_area s) l q j
turn_keeps s l q j waits =
    subst (λ (o : Option NeighbourValue). WaitsIn o j) (sym (turns_there (context_of s) s.links l q))
    ((turn_waits (context_of s) (slice_get s.links l) (neighbour s l q) j).1 waits)

noted_neighbour : (key : LsaKey) (b : Bool) (s : AreaValue) (l : ℕ) (q : RouterId) → neighbour (noted key b s) l q ≡ neighbour s l q
noted_neighbour key true s l q = refl
noted_neighbour key false s l q = refl

-- a neighbour once the copy was flooded
pub flooded_copy : (key : LsaKey) (e : Entry) (s : AreaValue) → database_entry s key ≡ Some e → (l : ℕ) (q : RouterId)
    → neighbour (copy_flooded key s) l q ≡ option_map (flooded_neighbour key (header_at e) None s.tick) (neighbour s l q)
flooded_copy key e s at l q =
    ap (λ (o : Option Entry). neighbour (copy_flooded_by o key s) l q) at
    ∙ noted_neighbour key (goes_anywhere (key_of (lsa_of e)) (header_of (lsa_of e)) None s.links) (flooded_area (lsa_of e) None s) l q
    ∙ flooded_there (key_of (lsa_of e)) (header_of (lsa_of e)) None s.tick s.links l q
    ∙ ap (λ (k : LsaKey). option_map (flooded_neighbour k (header_at e) None s.tick) (neighbour s l q)) (copy_key s key e at)

pub copy_waits : (key : LsaKey) (s : AreaValue) (l : ℕ) (q : RouterId) (j : Instance) → Awaits s l q j → Awaits (copy_sent key s) l q j ⊎ (j.key ≡ key)
copy_waits key s l q j waits = elim (by_copy (database_entry s key) refl) [
  | inl on ↦ inl (turn_keeps (copy_flooded key s) l q j on)
  | inr is ↦ inr is
]
  where
    by_copy : (o : Option Entry) → database_entry s key ≡ o → Awaits (copy_flooded key s) l q j ⊎ (j.key ≡ key)
    by_copy None at = inl (subst (λ (o : Option Entry). Awaits (copy_flooded_by o key s) l q j) (sym at) waits)
    by_copy (Some e) at =
        subst (λ (o : Option NeighbourValue). WaitsIn o j ⊎ (j.key ≡ key)) (sym (flooded_copy key e s at l q)) (flood_waits key (header_at e) None s.tick (neighbour s l q) j waits)

-- some of them is the key's
pub copies_wait : (keys : List LsaKey) (s : AreaValue) (l : ℕ) (q : RouterId) (j : Instance) → Awaits s l q j → Awaits (copies_sent keys s) l q j ⊎ (among keys j.key ≡ true)
copies_wait [] s l q j waits = inl waits
copies_wait (key ∷ keys) s l q j waits = elim (copy_waits key s l q j waits) [
  | inl on ↦ elim (copies_wait keys (copy_sent key s) l q j on) [ inl still ↦ inl still | inr is ↦ inr (later (same_key key j.key) (among keys j.key) is) ]
  | inr is ↦ inr (ap (λ (b : Bool). b || among keys j.key) (subst (λ (k : LsaKey). same_key key k ≡ true) (sym is) (same_key-refl key)))
]
  where
    later : (a b : Bool) → b ≡ true → (a || b) ≡ true
    later true b is = refl
    later false b is = is

-- ---- whom a copy reaches

pub copy_reaches : (key : LsaKey) (e : Entry) (s : AreaValue) → database_entry s key ≡ Some e → (l : ℕ) (q : RouterId) (n : NeighbourValue) → neighbour s l q ≡ Some n → is_exchanging n.state ≡ true
    → Awaits (copy_sent key s) l q (instance_with key (header_at e)) ⊎ IsSpared key (header_at e) None n
copy_reaches key e s at l q n is up = elim (reaches key (header_at e) None s.tick n up) [
  | inl waits ↦
      inl (turn_keeps (copy_flooded key s) l q (instance_with key (header_at e))
      (subst (λ (o : Option NeighbourValue). WaitsIn o (instance_with key (header_at e)))
      (sym (flooded_copy key e s at l q ∙ ap (option_map (flooded_neighbour key (header_at e) None s.tick)) is)) waits))
  | inr why ↦ inr why
]

-- ---- one after the other

-- what comes of all of them, and what goes out
pub copies_become : (keys : List LsaKey) (s t : AreaValue) (o o' : OutputsValue) → InTurn SendsCopy keys s o o' t → Becomes (copies_sent keys s) (and_sends o (copies_out keys s)) o' t
copies_become [] s t o o' is = record { state = is.state; outputs = is.outputs ∙ sends_none o }
copies_become (key ∷ keys) s t o o' (mid, so_far, one, others) =
    let later = copies_become keys mid t so_far o' others in
    record {
      state = later.state ∙ ap (λ (x : AreaValue). copies_sent keys x) one.state;
      outputs =
          later.outputs ∙ ap (λ (x : AreaValue). and_sends so_far (copies_out keys x)) one.state
          ∙ ap (λ (x : OutputsValue). and_sends x (copies_out keys (copy_sent key s))) one.outputs
          ∙ sends_more o (copy_out key s) (copies_out keys (copy_sent key s));
    }

-- and one more
pub copies_more : (keys : List LsaKey) (key : LsaKey) (s m e : AreaValue) (o p q : OutputsValue) → InTurn SendsCopy keys s o p m → SendsCopy key m p q e → InTurn SendsCopy (keys ++ key ∷ []) s o q e
copies_more [] key s m e o p q none one =
    (e, q, subst (λ (x : AreaValue). SendsCopy key x o q e) none.state (subst (λ (x : OutputsValue). SendsCopy key m x q e) none.outputs one), record { state = refl; outputs = refl })
copies_more (k ∷ keys) key s m e o p q some one = (some.0, some.1, some.2, copies_more keys key some.0 m e some.1 p q some.3 one)
