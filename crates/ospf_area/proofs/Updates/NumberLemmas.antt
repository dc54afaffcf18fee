-- Kept numbers after each call.
use Rattle.std.proofs.Common.{◌≡◌, ◌&&◌, ◌||◌, ◌++◌, inl, inr, ℕ, ℤ, Bool, true, false, if◌then◌else◌, Option, None, Some, List, [], ◌∷◌, map, refl, sym, ap, subst, arith, ◌∙◌}
use Rattle.std.specs.Prelude.{◌≤ℤ◌}
use Rattle.std.specs.Int.{int_max}
use Rattle.std.specs.List.{list_any}
use Rattle.std.specs.Option.{option_map}
use Rattle.std.proofs.lemmas.Int.{ints, clamps}
use Rattle.ospf_base.proofs.SameKeys.{same_key-eq, same_key-refl}
use Rattle.ospf_base.specs.Constants.{max_age}
use Rattle.ospf_base.specs.Keys.{same_key}
use Rattle.ospf_base.specs.declared.ids.LsaKey.{LsaKey}
use Rattle.ospf_base.specs.declared.ids.RouterId.{RouterId}
use Rattle.ospf_lsa.specs.Header.{header_of}
use Rattle.ospf_lsa.specs.Lsa.{key_of}
use Rattle.ospf_lsa.specs.declared.header.LsaHeader.{LsaHeader}
use Rattle.ospf_lsdb.specs.Database.{Held, held_of, is_expired, reached_at, removed}
use Rattle.ospf_lsdb.specs.Moments.{among}
use Rattle.ospf_area.proofs.NumberLemmas.{own_counted}
use Rattle.ospf_area.specs.Numbers.{is_own}
use Rattle.ospf_area.specs.Outputs.{OutputsValue}
use Rattle.ospf_area.specs.State.{AreaValue, kept_number, numbering_of}
use Rattle.ospf_area.proofs.Words.{kept_in, is_numbering_of}
use Rattle.ospf_area.specs.declared.flooding.PacketSource.{PacketSource}
use Rattle.ospf_area.specs.declared.state.Numbering.{Numbering}
use Rattle.ospf_area.specs.Updates.Aging.{Flushes, TickAges}
use Rattle.ospf_area.specs.Updates.Laws.{is_installed}
use Rattle.ospf_area.specs.Updates.Meets.{MeetsLsa, Stores, header_met, rule_met}
use Rattle.ospf_area.specs.Updates.Removal.{RemovesOne, ends_run, lowest_number, reset}
use Rattle.ospf_area.proofs.Updates.Words.{RemovesAll, TakesSlices, is_last, reset_one}
use Rattle.ospf_area.specs.Updates.Updates.{TakesSlice, TakesUpdate}
use Rattle.ospf_area.specs.Updates.Updates.TakesSlice.{Met, PassedOver}
use Rattle.ospf_area.proofs.Updates.CopyLemmas.{copies_become, copies_keep, copy_keeps}
use Rattle.ospf_area.proofs.Updates.MeetLemmas.{header_keeps, met_cases}
use Rattle.ospf_area.proofs.Updates.PassLemmas.{passed}

-- ---- an LSA of an Update, and a header of an Acknowledgment

stored_number : (lsa : List ℕ) (from : Option PacketSource) (s t : AreaValue) → Stores lsa from s t → (key : LsaKey)
    → kept_number t key ≡ (if same_key (key_of lsa) key && is_own s.router key then int_max (kept_number s key) (header_of lsa).number else kept_number s key)
stored_number lsa from s t stores key =
    ap (λ (x : AreaValue). kept_number x key) stores.rest ∙ own_counted s.router (key_of lsa) key (header_of lsa).number s.floor s.numbering

pub met_numbers : (f : PacketSource) (lsa : List ℕ) (s : AreaValue) (o o' : OutputsValue) (t : AreaValue) → MeetsLsa f lsa s o o' t → (key : LsaKey)
    → kept_number t key
    ≡ (if is_installed (rule_met s f lsa) && (same_key (key_of lsa) key && is_own s.router key) then int_max (kept_number s key) (header_of lsa).number else kept_number s key)
met_numbers f lsa s o o' t meets key = elim (met_cases f lsa s o o' t meets) [
  | inl (stored, is) ↦ is.keeps.numbers key ∙ stored_number lsa (Some f) s is.mid is.stores key ∙ sym (counted stored)
  | inr (other, keeps) ↦ keeps.numbers key ∙ sym (counted other)
]
  where
    counted : {b : Bool} → is_installed (rule_met s f lsa) ≡ b
        → (if is_installed (rule_met s f lsa) && (same_key (key_of lsa) key && is_own s.router key) then int_max (kept_number s key) (header_of lsa).number else kept_number s key)
        ≡ (if b && (same_key (key_of lsa) key && is_own s.router key) then int_max (kept_number s key) (header_of lsa).number else kept_number s key)
    counted e = ap (λ (b : Bool). if b && (same_key (key_of lsa) key && is_own s.router key) then int_max (kept_number s key) (header_of lsa).number else kept_number s key) e

pub header_numbers : (f : PacketSource) (h : LsaHeader) (s : AreaValue) (key : LsaKey) → kept_number (header_met f h s) key ≡ kept_number s key
header_numbers f h s key = (header_keeps f h s).numbers key

-- ---- an Update

no_less : (b : Bool) (x y n : ℤ) → y ≡ (if b then int_max x n else x) → x ≤ℤ y
no_less true x y n is = omega (arith, ints, clamps, is)
no_less false x y n is = omega (arith, ints, is)

slice_numbers : (f : PacketSource) (bytes : List ℕ) (s : AreaValue) (o o' : OutputsValue) (t : AreaValue) → TakesSlice f bytes s o o' t → (key : LsaKey) → kept_number s key ≤ℤ kept_number t key
slice_numbers f bytes s o o' t (Met is mid so_far meets state outputs) key =
    no_less (is_installed (rule_met s f bytes) && (same_key (key_of bytes) key && is_own s.router key)) (kept_number s key) (kept_number t key) (header_of bytes).number
    (ap (λ (x : AreaValue). kept_number x key) state ∙ met_numbers f bytes s o so_far mid meets key)
slice_numbers f bytes s o o' t (PassedOver not_lsa is outputs) key = no_less false (kept_number s key) (kept_number t key) (kept_number s key) (ap (λ (x : AreaValue). kept_number x key) (passed s.passes_over f bytes s t is).state)

slices_numbers : (f : PacketSource) (slices : List (List ℕ)) (s : AreaValue) (o o' : OutputsValue) (t : AreaValue) → TakesSlices f slices s o o' t → (key : LsaKey) → kept_number s key ≤ℤ kept_number t key
slices_numbers f [] s o o' t is key = no_less false (kept_number s key) (kept_number t key) (kept_number s key) (ap (λ (x : AreaValue). kept_number x key) is.state)
slices_numbers f (bytes ∷ slices) s o o' t (mid, so_far, one, rest) key =
    let first = slice_numbers f bytes s o so_far mid one key in
    let next = slices_numbers f slices mid so_far o' t rest key in
    omega (arith, ints, first, next)

pub update_numbers : (f : PacketSource) (slices : List (List ℕ)) (s : AreaValue) (o o' : OutputsValue) (t : AreaValue) → TakesUpdate f slices s o o' t → (key : LsaKey)
    → kept_number s key ≤ℤ kept_number t key
update_numbers f slices s o o' t is key =
    subst (λ (n : ℤ). kept_number s key ≤ℤ n) (sym (ap (λ (x : AreaValue). kept_number x key) is.state)) (slices_numbers f slices s o is.so_far is.mid is.takes key)

-- ---- copies that go to all

pub flush_numbers : (key : LsaKey) (s : AreaValue) (o o' : OutputsValue) (t : AreaValue) → Flushes key s o o' t → (k : LsaKey) → kept_number t k ≡ kept_number s k
flush_numbers key s o o' t is k =
    ap (λ (x : AreaValue). kept_number x k) is.sends.state ∙ (copy_keeps key is.mid).numbers k ∙ ap (λ (x : AreaValue). kept_number x k) is.rest

pub ages_numbers : (s : AreaValue) (o o' : OutputsValue) (t : AreaValue) → TickAges s o o' t → (key : LsaKey) → kept_number t key ≡ kept_number s key
ages_numbers s o o' t is key =
    ap (λ (x : AreaValue). kept_number x key) (copies_become (reached_at max_age is.mid.database) is.mid t o o' is.sends).state ∙ (copies_keep (reached_at max_age is.mid.database) is.mid).numbers key
    ∙ ap (λ (x : AreaValue). kept_number x key) is.rest

-- ---- numbering runs that end

abbrev new_run : LsaKey → Numbering
new_run key = record { key = key; kept = lowest_number; issued_at = None }

-- the numbers of the key begin again
reset_here : (key : LsaKey) (floor : ℤ) (ns : List Numbering) → kept_in floor (numbering_of (reset key ns) key) ≡ lowest_number
reset_here key floor ns = by_test (list_any (is_numbering_of key) ns) refl
  where
    in_all : (ns : List Numbering) → list_any (is_numbering_of key) ns ≡ true → kept_in floor (numbering_of (map (reset_one key) ns) key) ≡ lowest_number
    in_all [] some = absurd (cc)
    in_all (x ∷ xs) some = by_key (same_key x.key key) refl some (in_all xs)
      where
        by_key : (b : Bool) → same_key x.key key ≡ b → (b || list_any (is_numbering_of key) xs) ≡ true
            → (list_any (is_numbering_of key) xs ≡ true → kept_in floor (numbering_of (map (reset_one key) xs) key) ≡ lowest_number)
            → kept_in floor (numbering_of ((if b then record x { kept = lowest_number } else x) ∷ map (reset_one key) xs) key) ≡ lowest_number
        by_key true e some' rest = ap (λ (c : Bool). kept_in floor (if c then Some (record x { kept = lowest_number }) else numbering_of (map (reset_one key) xs) key)) e
        by_key false e some' rest = ap (λ (c : Bool). kept_in floor (if c then Some x else numbering_of (map (reset_one key) xs) key)) e ∙ rest some'

    behind : (ns : List Numbering) → list_any (is_numbering_of key) ns ≡ false → kept_in floor (numbering_of (ns ++ new_run key ∷ []) key) ≡ lowest_number
    behind [] none = ap (λ (c : Bool). kept_in floor (if c then Some (new_run key) else None)) (same_key-refl key)
    behind (x ∷ xs) none = by_key (same_key x.key key) none (behind xs)
      where
        by_key : (b : Bool) → (b || list_any (is_numbering_of key) xs) ≡ false → (list_any (is_numbering_of key) xs ≡ false → kept_in floor (numbering_of (xs ++ new_run key ∷ []) key) ≡ lowest_number)
            → kept_in floor (if b then Some x else numbering_of (xs ++ new_run key ∷ []) key) ≡ lowest_number
        by_key true none' rest = absurd (cc)
        by_key false none' rest = rest none'

    by_test : (b : Bool) → list_any (is_numbering_of key) ns ≡ b → kept_in floor (numbering_of (if b then map (reset_one key) ns else ns ++ new_run key ∷ []) key) ≡ lowest_number
    by_test true e = in_all ns e
    by_test false e = behind ns e

-- and those of no other
reset_there : (key k : LsaKey) (floor : ℤ) (ns : List Numbering) → same_key key k ≡ false → kept_in floor (numbering_of (reset key ns) k) ≡ kept_in floor (numbering_of ns k)
reset_there key k floor ns apart = by_test (list_any (is_numbering_of key) ns)
  where
    in_all : (ns : List Numbering) → kept_in floor (numbering_of (map (reset_one key) ns) k) ≡ kept_in floor (numbering_of ns k)
    in_all [] = refl
    in_all (x ∷ xs) = by_key (same_key x.key key) refl (in_all xs)
      where
        stays : (c : Bool) → kept_in floor (numbering_of (map (reset_one key) xs) k) ≡ kept_in floor (numbering_of xs k)
            → kept_in floor (if c then Some x else numbering_of (map (reset_one key) xs) k) ≡ kept_in floor (if c then Some x else numbering_of xs k)
        stays true rest = refl
        stays false rest = rest

        by_key : (b : Bool) → same_key x.key key ≡ b → kept_in floor (numbering_of (map (reset_one key) xs) k) ≡ kept_in floor (numbering_of xs k)
            → kept_in floor (numbering_of ((if b then record x { kept = lowest_number } else x) ∷ map (reset_one key) xs) k) ≡ kept_in floor (numbering_of (x ∷ xs) k)
        by_key true e rest =
            let other : same_key x.key k ≡ false = ap (λ (j : LsaKey). same_key j k) (same_key-eq x.key key e) ∙ apart in
            ap (λ (c : Bool). kept_in floor (if c then Some (record x { kept = lowest_number }) else numbering_of (map (reset_one key) xs) k)) other ∙ rest
            ∙ sym (ap (λ (c : Bool). kept_in floor (if c then Some x else numbering_of xs k)) other)
        by_key false e rest = stays (same_key x.key k) rest

    behind : (ns : List Numbering) → kept_in floor (numbering_of (ns ++ new_run key ∷ []) k) ≡ kept_in floor (numbering_of ns k)
    behind [] = ap (λ (c : Bool). kept_in floor (if c then Some (new_run key) else None)) apart
    behind (x ∷ xs) = by_key (same_key x.key k) (behind xs)
      where
        by_key : (c : Bool) → kept_in floor (numbering_of (xs ++ new_run key ∷ []) k) ≡ kept_in floor (numbering_of xs k)
            → kept_in floor (if c then Some x else numbering_of (xs ++ new_run key ∷ []) k) ≡ kept_in floor (if c then Some x else numbering_of xs k)
        by_key true rest = refl
        by_key false rest = rest

    by_test : (b : Bool) → kept_in floor (numbering_of (if b then map (reset_one key) ns else ns ++ new_run key ∷ []) k) ≡ kept_in floor (numbering_of ns k)
    by_test true = in_all ns
    by_test false = behind ns

-- one leaves
one_numbers : (k : LsaKey) (s : AreaValue) (o p : OutputsValue) (m : AreaValue) → RemovesOne k s o p m → (key : LsaKey)
    → kept_number m key ≡ (if same_key k key && ends_run s key then lowest_number else kept_number s key)
one_numbers k s o p m one key = ap (λ (x : AreaValue). kept_number x key) one.rest ∙ by_key (same_key k key) refl
  where
    here : (b : Bool) → kept_in s.floor (numbering_of (if b then reset key s.numbering else s.numbering) key) ≡ (if b then lowest_number else kept_number s key)
    here true = reset_here key s.floor s.numbering
    here false = refl

    there : (b : Bool) → same_key k key ≡ false → kept_in s.floor (numbering_of (if b then reset k s.numbering else s.numbering) key) ≡ kept_number s key
    there true e = reset_there k key s.floor s.numbering e
    there false e = refl

    by_key : (b : Bool) → same_key k key ≡ b → kept_in s.floor (numbering_of (if ends_run s k then reset k s.numbering else s.numbering) key) ≡ (if b && ends_run s key then lowest_number else kept_number s key)
    by_key true e = ap (λ (j : LsaKey). kept_in s.floor (numbering_of (if ends_run s j then reset j s.numbering else s.numbering) key)) (same_key-eq k key e) ∙ here (ends_run s key)
    by_key false e = there (ends_run s k) e

abbrev is_last_held : Option Held → Bool
is_last_held o = is_last (option_map (λ h. h.entry) o)

-- a copy that left ends no run
removed_last : (o : Option Held) → is_last_held o ≡ false → is_last_held (removed o) ≡ false
unfolding removed
removed_last None not_last = refl
removed_last (Some h) not_last = by_test (is_expired h)
  where
    by_test : (b : Bool) → is_last_held (if b then None else Some h) ≡ false
    by_test true = refl
    by_test false = not_last

-- a run that did not end by the first of them, and was not the first's, is as it was
run_after : (k : LsaKey) (s : AreaValue) (o p : OutputsValue) (m : AreaValue) → RemovesOne k s o p m → (key : LsaKey) → same_key k key ≡ false → ends_run m key ≡ ends_run s key
run_after k s o p m one key apart =
    let router = ap (λ (x : AreaValue). x.router) one.rest in
    let held : held_of m.database key ≡ held_of s.database key = one.database key ∙ ap (λ (b : Bool). if b then removed (held_of s.database k) else held_of s.database key) apart in
    ap (λ (r : RouterId). is_own r key && is_last_held (held_of m.database key)) router ∙ ap (λ (h : Option Held). is_own s.router key && is_last_held h) held

run_gone : (k : LsaKey) (s : AreaValue) (o p : OutputsValue) (m : AreaValue) → RemovesOne k s o p m → (key : LsaKey) → same_key k key ≡ true → ends_run s key ≡ false → ends_run m key ≡ false
run_gone k s o p m one key is ends =
    let router = ap (λ (x : AreaValue). x.router) one.rest in
    let held : held_of m.database key ≡ removed (held_of s.database key) =
    one.database key ∙ ap (λ (b : Bool). if b then removed (held_of s.database k) else held_of s.database key) is ∙ ap (λ (j : LsaKey). removed (held_of s.database j)) (same_key-eq k key is) in
    ap (λ (r : RouterId). is_own r key && is_last_held (held_of m.database key)) router ∙ ap (λ (h : Option Held). is_own s.router key && is_last_held h) held
    ∙ by_own (is_own s.router key) ends
  where
    by_own : (b : Bool) → (b && is_last_held (held_of s.database key)) ≡ false → (b && is_last_held (removed (held_of s.database key))) ≡ false
    by_own true e = removed_last (held_of s.database key) e
    by_own false e = refl

pub removes_numbers : (keys : List LsaKey) (s : AreaValue) (o o' : OutputsValue) (t : AreaValue) → RemovesAll keys s o o' t → (key : LsaKey)
    → kept_number t key ≡ (if among keys key && ends_run s key then lowest_number else kept_number s key)
removes_numbers [] s o o' t same key = ap (λ (x : AreaValue). kept_number x key) same.state
removes_numbers (k ∷ keys) s o o' t (m, so_far, one, rest) key =
    by_key (same_key k key) refl (one_numbers k s o so_far m one key) (removes_numbers keys m so_far o' t rest key)
  where
    again : (a : Bool) (x : ℤ) → x ≡ lowest_number → (if a then lowest_number else x) ≡ lowest_number
    again true x is = refl
    again false x is = is

    never : (a : Bool) (x : ℤ) → (if a && false then lowest_number else x) ≡ x
    never true x = refl
    never false x = refl

    by_run : (e : Bool) → ends_run s key ≡ e → same_key k key ≡ true → kept_number m key ≡ (if e then lowest_number else kept_number s key)
        → kept_number t key ≡ (if among keys key && ends_run m key then lowest_number else kept_number m key) → kept_number t key ≡ (if e then lowest_number else kept_number s key)
    by_run true ends is mid last = last ∙ again (among keys key && ends_run m key) (kept_number m key) mid
    by_run false ends is mid last =
        last ∙ ap (λ (b : Bool). if among keys key && b then lowest_number else kept_number m key) (run_gone k s o so_far m one key is ends)
        ∙ never (among keys key) (kept_number m key) ∙ mid

    by_key : (b : Bool) → same_key k key ≡ b → kept_number m key ≡ (if b && ends_run s key then lowest_number else kept_number s key)
        → kept_number t key ≡ (if among keys key && ends_run m key then lowest_number else kept_number m key)
        → kept_number t key ≡ (if (b || among keys key) && ends_run s key then lowest_number else kept_number s key)
    by_key true is mid last = by_run (ends_run s key) refl is mid last
    by_key false is mid last =
        last ∙ ap (λ (b : Bool). if among keys key && b then lowest_number else kept_number m key) (run_after k s o so_far m one key is)
        ∙ ap (λ (x : ℤ). if among keys key && ends_run s key then lowest_number else x) mid
