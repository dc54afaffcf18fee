-- What leaves the database at the end of a step, from the contract of the crate below.
use Rattle.std.proofs.Common.{◌≡◌, ◌⊎◌, inl, inr, ◌==◌, ◌&&◌, ◌||◌, ◌++◌, ℤ, Bool, true, false, cond, not, List, [], ◌∷◌, map, filter, find, Option, None, Some, refl, sym, ap, subst, ◌∙◌}
use Rattle.std.specs.Prelude.{if◌then◌else◌}
use Rattle.std.specs.List.{list_any}
use Rattle.std.specs.Option.{option_map}
use Rattle.std.proofs.lemmas.Bool.{false≢true, cases_Bool, cond-true, cond-false}
use Rattle.ospf_base.specs.declared.ids.LsaKey.{LsaKey}
use Rattle.ospf_lsdb.specs.Database as lsdb
use Rattle.ospf_lsdb.specs.Database.{Entry, Held, IsDatabase, held_of, key_at, removed, entries, instance_at}
use Rattle.ospf_lsdb.proofs.Words.{AreKeysRising}
use Rattle.ospf_lsdb.proofs.MapLemmas.{after-none}
use Rattle.ospf_base.specs.Keys.{same_key}
use Rattle.ospf_base.proofs.SameKeys.{same_key-eq}
use Rattle.ospf_area.specs.Numbers.{is_own}
use Rattle.ospf_area.specs.Outputs.{OutputsValue, no_outputs}
use Rattle.ospf_area.specs.Updates.Removal.{is_leaving, leaving, ends_run, reset, RemovesOne, lowest_number}
use Rattle.ospf_area.proofs.Updates.Words.{RemovesAll, Removes, key_of_entry, is_last, reset_one, and_ends, some_awaits}
use Rattle.ospf_area.specs.State.{AreaValue, database_entry, kept_number, numbering_of, some_link_loading}
use Rattle.ospf_area.proofs.Words.{kept_in, is_numbering_of}
use Rattle.ospf_area.specs.declared.state.Numbering.{Numbering}
use Rattle.ospf_router.specs.AreaStep.Parts.{RemovalPart, leaves_if}
use Rattle.ospf_lsdb.specs.Moments.{among}
use Rattle.ospf_router.proofs.AreaStep.StateFacts.{find-map, find-some, ends_run_if}
use Rattle.ospf_router.proofs.AreaStep.NumberFacts.{first_found, find-append, any_found, none_found}
use Rattle.ospf_base.specs.Constants.{max_age}

-- ---- bools

or_false : (a : Bool) → a || false ≡ a
or_false true = refl
or_false false = refl

or_assoc : (a b c : Bool) → (a || b) || c ≡ a || (b || c)
or_assoc true b c = refl
or_assoc false b c = refl

and_false : (a : Bool) → a && false ≡ false
and_false true = refl
and_false false = refl

any_append : (p : LsaKey → Bool) (xs ys : List LsaKey) → list_any p (xs ++ ys) ≡ list_any p xs || list_any p ys
any_append p [] ys = refl
any_append p (x ∷ xs) ys = ap (λ b. p x || b) (any_append p xs ys) ∙ sym (or_assoc (p x) (list_any p xs) (list_any p ys))

-- ---- one removal

gone : Option Entry → Option Entry
gone None = None
gone (Some e) = cond (e.age == max_age) None (Some e)

gone-twice : (o : Option Entry) → gone (gone o) ≡ gone o
unfolding gone
gone-twice None = refl
gone-twice (Some e) = by (e.age == max_age) refl
  where
    by : (b : Bool) → (e.age == max_age) ≡ b → gone (cond b None (Some e)) ≡ cond b None (Some e)
    by true is = refl
    by false is = ap (λ b. cond b None (Some e)) is

removed-gone : (o : Option Held) → option_map (λ h. h.entry) (removed o) ≡ gone (option_map (λ h. h.entry) o)
unfolding removed gone
removed-gone None = refl
removed-gone (Some h) = go (h.entry.age == max_age)
  where
    go : (b : Bool) → option_map (λ h. h.entry) (cond b None (Some h)) ≡ cond b None (Some h.entry)
    go true = refl
    go false = refl

-- what is gone is no last one
last-gone : (o : Option Entry) → (is_last (gone o) ≡ is_last o) ⊎ (is_last (gone o) ≡ false)
unfolding gone
last-gone None = inl refl
last-gone (Some e) = go (e.age == max_age)
  where
    go : (b : Bool) → (is_last (cond b None (Some e)) ≡ is_last (Some e)) ⊎ (is_last (cond b None (Some e)) ≡ false)
    go true = inr refl
    go false = inl refl

one_entry : (key : LsaKey) (s t : AreaValue) (out out' : OutputsValue) → RemovesOne key s out out' t → (k : LsaKey) → database_entry t k ≡ (if same_key key k then gone (database_entry s k) else database_entry s k)
one_entry key s t out out' r k =
    ap (option_map (λ h. h.entry)) (r.database k) ∙ go (same_key key k) refl
  where
    go : (b : Bool) → same_key key k ≡ b → option_map (λ h. h.entry) (cond b (removed (held_of s.database key)) (held_of s.database k)) ≡ cond b (gone (database_entry s k)) (database_entry s k)
    go true is = removed-gone (held_of s.database key) ∙ ap (λ q. gone (database_entry s q)) (same_key-eq key k is)
    go false is = refl

one-key : (key : LsaKey) (n : Numbering) → (reset_one key n).key ≡ n.key
one-key key n = go (is_numbering_of key n)
  where
    go : (b : Bool) → (cond b (record n { kept = lowest_number }) n).key ≡ n.key
    go true = refl
    go false = refl

reset-kept : (key : LsaKey) (floor : ℤ) (ns : List Numbering) (k : LsaKey) → kept_in floor (numbering_of (reset key ns) k) ≡ (if same_key key k then lowest_number else kept_in floor (numbering_of ns k))
unfolding first_found
reset-kept key floor ns k = go (list_any (is_numbering_of key) ns) refl (same_key key k) refl
  where
    mapped : numbering_of (map (reset_one key) ns) k ≡ option_map (reset_one key) (numbering_of ns k)
    mapped = find-map (λ n. same_key n.key k) (reset_one key) ns (λ n. ap (λ q. same_key q k) (one-key key n))

    this_one : (n : Numbering) → same_key n.key key ≡ true → (reset_one key n).kept ≡ lowest_number
    this_one n is = ap (λ m. m.kept) (cond-true (is_numbering_of key n) (record n { kept = lowest_number }) n is)

    other_one : (o : Option Numbering) → numbering_of ns k ≡ o → same_key key k ≡ false → kept_in floor (option_map (reset_one key) o) ≡ kept_in floor o
    other_one None at other = refl
    other_one (Some n) at other = ap (λ m. m.kept) (cond-false (is_numbering_of key n) (record n { kept = lowest_number }) n not_key)
      where
        not_key : same_key n.key key ≡ false
        not_key = elim (cases_Bool (same_key n.key key)) [
          | inl same ↦ absurd (false≢true (sym other ∙ (ap (λ q. same_key q k) (sym (same_key-eq n.key key same)) ∙ (find-some (λ n. same_key n.key k) ns n at).1)))
          | inr differs ↦ differs
        ]

    go : (any : Bool) → list_any (is_numbering_of key) ns ≡ any → (b : Bool) → same_key key k ≡ b → kept_in floor (numbering_of (cond any (map (reset_one key) ns) (ns ++ record { key = key; kept = lowest_number; issued_at = None } ∷ [])) k) ≡ cond b lowest_number (kept_in floor (numbering_of ns k))
    go true any true same =
        let (n, found, is) = any_found (is_numbering_of key) ns any in
        ap (kept_in floor) (mapped ∙ ap (option_map (reset_one key)) (ap (numbering_of ns) (sym (same_key-eq key k same)) ∙ found)) ∙ this_one n is
    go true any false other = ap (kept_in floor) mapped ∙ other_one (numbering_of ns k) refl other
    go false none true same =
        ap (kept_in floor) (find-append (λ n. same_key n.key k) ns (record { key = key; kept = lowest_number; issued_at = None } ∷ [])
        ∙ (ap (λ o. first_found o (find (λ n. same_key n.key k) (record { key = key; kept = lowest_number; issued_at = None } ∷ []))) (ap (numbering_of ns) (sym (same_key-eq key k same)) ∙ none_found (is_numbering_of key) ns none)
        ∙ cond-true (same_key key k) (Some (record { key = key; kept = lowest_number; issued_at = None })) None same))
    go false none false other = ap (kept_in floor) (find-append (λ n. same_key n.key k) ns (record { key = key; kept = lowest_number; issued_at = None } ∷ [])) ∙ by (numbering_of ns k)
      where
        by : (o : Option Numbering) → kept_in floor (first_found o (find (λ n. same_key n.key k) (record { key = key; kept = lowest_number; issued_at = None } ∷ []))) ≡ kept_in floor o
        by (Some n) = refl
        by None = ap (kept_in floor) (cond-false (same_key key k) (Some (record { key = key; kept = lowest_number; issued_at = None })) None other)

one_kept : (key : LsaKey) (s t : AreaValue) (out out' : OutputsValue) → RemovesOne key s out out' t → (k : LsaKey) → kept_number t k ≡ (if ends_run s key && same_key key k then lowest_number else kept_number s k)
one_kept key s t out out' r k = ap (λ s. kept_number s k) r.rest ∙ go (ends_run s key)
  where
    go : (b : Bool) → kept_in s.floor (numbering_of (cond b (reset key s.numbering) s.numbering) k) ≡ cond (b && same_key key k) lowest_number (kept_number s k)
    go true = reset-kept key s.floor s.numbering k
    go false = refl

one_ended : (key : LsaKey) (s t : AreaValue) (out out' : OutputsValue) → RemovesOne key s out out' t → (k : LsaKey) → among out'.ended k ≡ among out.ended k || (ends_run s key && same_key key k)
one_ended key s t out out' r k = ap (λ o. among o.ended k) r.outputs ∙ go (ends_run s key)
  where
    go : (b : Bool) → among (cond b (and_ends out key) out).ended k ≡ among out.ended k || (b && same_key key k)
    go true = any_append (λ q. same_key q k) out.ended (key ∷ []) ∙ ap (λ b. among out.ended k || b) (or_false (same_key key k))
    go false = sym (or_false (among out.ended k))

-- ---- all of them

-- what becomes of one key
record RemovedAt (keys : List LsaKey) (s t : AreaValue) (out out' : OutputsValue) (k : LsaKey) : Type 0 where
  entry : database_entry t k ≡ (if among keys k then gone (database_entry s k) else database_entry s k)
  kept : kept_number t k ≡ (if among keys k && ends_run s k then lowest_number else kept_number s k)
  ended : among out'.ended k ≡ among out.ended k || (among keys k && ends_run s k)

record RestStays (s t : AreaValue) (out out' : OutputsValue) : Type 0 where
  links : t.links ≡ s.links
  router : t.router ≡ s.router
  direct : t.direct ≡ s.direct
  sent : out'.sent ≡ out.sent
  taken : out'.taken ≡ out.taken
  issued : out'.issued ≡ out.issued

one_stays : (key : LsaKey) (s t : AreaValue) (out out' : OutputsValue) → RemovesOne key s out out' t → RestStays s t out out'
one_stays key s t out out' r = record {
  links = ap (λ s. s.links) r.rest;
  router = ap (λ s. s.router) r.rest;
  direct = ap (λ s. s.direct) r.rest;
  sent = ap (λ o. o.sent) r.outputs ∙ in_sent (ends_run s key);
  taken = ap (λ o. o.taken) r.outputs ∙ in_taken (ends_run s key);
  issued = ap (λ o. o.issued) r.outputs ∙ in_issued (ends_run s key);
}
  where
    in_sent : (b : Bool) → (cond b (and_ends out key) out).sent ≡ out.sent
    in_sent true = refl
    in_sent false = refl

    in_taken : (b : Bool) → (cond b (and_ends out key) out).taken ≡ out.taken
    in_taken true = refl
    in_taken false = refl

    in_issued : (b : Bool) → (cond b (and_ends out key) out).issued ≡ out.issued
    in_issued true = refl
    in_issued false = refl

all_stay : (keys : List LsaKey) (s t : AreaValue) (out out' : OutputsValue) → RemovesAll keys s out out' t → RestStays s t out out'
all_stay [] s t out out' same = record { links = ap (λ s. s.links) same.state; router = ap (λ s. s.router) same.state; direct = ap (λ s. s.direct) same.state; sent = ap (λ o. o.sent) same.outputs; taken = ap (λ o. o.taken) same.outputs; issued = ap (λ o. o.issued) same.outputs }
all_stay (key ∷ keys) s t out out' (m, so_far, one, rest) =
    let a = one_stays key s m out so_far one in
    let b = all_stay keys m t so_far out' rest in
    record { links = b.links ∙ a.links; router = b.router ∙ a.router; direct = b.direct ∙ a.direct; sent = b.sent ∙ a.sent; taken = b.taken ∙ a.taken; issued = b.issued ∙ a.issued }

-- the bools of two removals, of the key itself or of others
two_ended : (before same later here then_ : Bool) → (same ≡ true → (then_ ≡ here) ⊎ (then_ ≡ false)) → (same ≡ false → then_ ≡ here) → (before || (here && same)) || (later && then_) ≡ before || ((same || later) && here)
two_ended true same later here then_ p q = refl
two_ended false true later true then_ p q = refl
two_ended false true later false then_ p q = elim (p refl) [ inl is ↦ ap (λ b. later && b) is ∙ and_false later | inr is ↦ ap (λ b. later && b) is ∙ and_false later ]
two_ended false false later true then_ p q = ap (λ b. later && b) (q refl)
two_ended false false later false then_ p q = ap (λ b. later && b) (q refl)

all_removed : (keys : List LsaKey) (s t : AreaValue) (out out' : OutputsValue) → RemovesAll keys s out out' t → (k : LsaKey) → RemovedAt keys s t out out' k
all_removed [] s t out out' same k = record {
  entry = ap (λ s. database_entry s k) same.state;
  kept = ap (λ s. kept_number s k) same.state;
  ended = ap (λ o. among o.ended k) same.outputs ∙ sym (or_false (among out.ended k));
}
all_removed (key ∷ keys) s t out out' (m, so_far, one, rest) k =
    let r = all_removed keys m t so_far out' rest k in
    record {
      entry = r.entry ∙ (ap (λ o. cond (among keys k) (gone o) o) (one_entry key s m out so_far one k) ∙ entries_by (same_key key k) (among keys k) (database_entry s k));
      kept = r.kept ∙ (ap (λ n. cond (among keys k && ends_run m k) lowest_number n) (one_kept key s m out so_far one k) ∙ kept_by (same_key key k) refl (among keys k));
      ended = r.ended ∙ (ap (λ b. b || (among keys k && ends_run m k)) (one_ended key s m out so_far one k ∙ ap (λ b. among out.ended k || b) (here (same_key key k) refl))
          ∙ two_ended (among out.ended k) (same_key key k) (among keys k) (ends_run s k) (ends_run m k) same_run other_run);
    }
  where
    entries_by : (a b : Bool) (o : Option Entry) → cond b (gone (cond a (gone o) o)) (cond a (gone o) o) ≡ cond (a || b) (gone o) o
    entries_by true true o = gone-twice o
    entries_by true false o = refl
    entries_by false true o = refl
    entries_by false false o = refl

    here : (b : Bool) → same_key key k ≡ b → ends_run s key && b ≡ ends_run s k && b
    here true is = ap (λ q. ends_run s q && true) (same_key-eq key k is)
    here false is = and_false (ends_run s key) ∙ sym (and_false (ends_run s k))

    same_owner : m.router ≡ s.router
    same_owner = ap (λ s. s.router) one.rest

    run_at : (o : Option Entry) → database_entry m k ≡ o → ends_run m k ≡ is_own s.router k && is_last o
    run_at o at = ap (λ r. is_own r k && is_last (database_entry m k)) same_owner ∙ ap (λ o. is_own s.router k && is_last o) at

    same_run : same_key key k ≡ true → (ends_run m k ≡ ends_run s k) ⊎ (ends_run m k ≡ false)
    same_run is =
        let at : database_entry m k ≡ gone (database_entry s k) = one_entry key s m out so_far one k ∙ cond-true (same_key key k) _ _ is in
        elim (last-gone (database_entry s k)) [
          | inl as_before ↦ inl (run_at (gone (database_entry s k)) at ∙ ap (λ b. is_own s.router k && b) as_before)
          | inr none ↦ inr (run_at (gone (database_entry s k)) at ∙ (ap (λ b. is_own s.router k && b) none ∙ and_false (is_own s.router k)))
        ]

    other_run : same_key key k ≡ false → ends_run m k ≡ ends_run s k
    other_run is = run_at (database_entry s k) (one_entry key s m out so_far one k ∙ cond-false (same_key key k) _ _ is)

    numbers : (same later here then_ : Bool) → (same ≡ true → (then_ ≡ here) ⊎ (then_ ≡ false)) → (same ≡ false → then_ ≡ here) → (low n : ℤ) → cond (later && then_) low (cond (here && same) low n) ≡ cond ((same || later) && here) low n
    numbers true true true true p q low n = refl
    numbers true true true false p q low n = refl
    numbers true true false then_ p q low n = ap (λ b. cond b low n) (elim (p refl) [ inl is ↦ is | inr is ↦ is ])
    numbers true false true then_ p q low n = refl
    numbers true false false then_ p q low n = refl
    numbers false later true then_ p q low n = ap (λ b. cond (later && b) low n) (q refl)
    numbers false later false then_ p q low n = ap (λ b. cond (later && b) low n) (q refl)

    kept_by : (b : Bool) → same_key key k ≡ b → (later : Bool) → cond (later && ends_run m k) lowest_number (cond (ends_run s key && same_key key k) lowest_number (kept_number s k)) ≡ cond ((same_key key k || later) && ends_run s k) lowest_number (kept_number s k)
    kept_by b is later =
        ap (λ x. cond (later && ends_run m k) lowest_number (cond x lowest_number (kept_number s k))) (here (same_key key k) refl)
        ∙ numbers (same_key key k) later (ends_run s k) (ends_run m k) same_run other_run lowest_number (kept_number s k)

-- ---- which leave

passes : (Entry → Bool) → Option Entry → Bool
passes p None = false
passes p (Some e) = p e

-- a key is among those of the entries that pass a test, where its entry passes
keys_pass : (p : Entry → Bool) (db : List Held) (k : LsaKey) → AreKeysRising db → among (map key_of_entry (filter p (entries db))) k ≡ passes p (lsdb.entry_of db k)
unfolding passes
keys_pass p [] k rises = refl
keys_pass p (h ∷ hs) k rises = go (p h.entry) refl (same_key (key_at h) k) refl (keys_pass p hs k rises.1)
  where
    found : (b : Bool) → same_key (key_at h) k ≡ b → lsdb.entry_of (h ∷ hs) k ≡ cond b (Some h.entry) (lsdb.entry_of hs k)
    found b is = ap (λ c. option_map (λ h. h.entry) (cond c (Some h) (held_of hs k))) is ∙ by b
      where
        by : (c : Bool) → option_map (λ h. h.entry) (cond c (Some h) (held_of hs k)) ≡ cond c (Some h.entry) (lsdb.entry_of hs k)
        by true = refl
        by false = refl

    none_later : same_key (key_at h) k ≡ true → lsdb.entry_of hs k ≡ None
    none_later is = ap (option_map (λ h. h.entry)) (subst (λ q. held_of hs q ≡ None) (same_key-eq (key_at h) k is) (after-none (key_at h) hs rises.0))

    go : (b : Bool) → p h.entry ≡ b → (c : Bool) → same_key (key_at h) k ≡ c → among (map key_of_entry (filter p (entries hs))) k ≡ passes p (lsdb.entry_of hs k) → among (map key_of_entry (cond b (h.entry ∷ filter p (entries hs)) (filter p (entries hs)))) k ≡ passes p (lsdb.entry_of (h ∷ hs) k)
    go true pass true same rec = ap (λ c. c || among (map key_of_entry (filter p (entries hs))) k) same ∙ (sym pass ∙ sym (ap (passes p) (found true same)))
    go true pass false other rec = ap (λ c. c || among (map key_of_entry (filter p (entries hs))) k) other ∙ (rec ∙ sym (ap (passes p) (found false other)))
    go false fails true same rec = rec ∙ (ap (passes p) (none_later same) ∙ (sym fails ∙ sym (ap (passes p) (found true same))))
    go false fails false other rec = rec ∙ sym (ap (passes p) (found false other))

leaves_with : Bool → AreaValue → Option Entry → Bool
leaves_with loading s None = false
leaves_with loading s (Some e) = not loading && is_leaving s.links e

none_leaves : (s : AreaValue) (o : Option Entry) → leaves_with true s o ≡ false
unfolding leaves_with
none_leaves s None = refl
none_leaves s (Some e) = refl

some_leave : (s : AreaValue) (o : Option Entry) → passes (is_leaving s.links) o ≡ leaves_with false s o
unfolding leaves_with passes
some_leave s None = refl
some_leave s (Some e) = refl

as_leaves : (s : AreaValue) (o : Option Entry) → leaves_with (some_link_loading s.links) s o ≡ leaves_if s o
unfolding leaves_with
as_leaves s None = refl
as_leaves s (Some e) = refl

leaving_by : (s : AreaValue) (k : LsaKey) → IsDatabase s.database → among (leaving s) k ≡ leaves_if s (database_entry s k)
leaving_by s k is = go (some_link_loading s.links) ∙ as_leaves s (database_entry s k)
  where
    go : (b : Bool) → among (cond b [] (map key_of_entry (filter (is_leaving s.links) (entries s.database)))) k ≡ leaves_with b s (database_entry s k)
    go true = sym (none_leaves s (database_entry s k))
    go false = keys_pass (is_leaving s.links) s.database k is.rising ∙ some_leave s (database_entry s k)

-- what leaves is gone
gone_leaves : (s : AreaValue) (o : Option Entry) → (if leaves_if s o then gone o else o) ≡ (if leaves_if s o then None else o)
unfolding gone
gone_leaves s None = refl
gone_leaves s (Some e) = go (not (some_link_loading s.links)) (e.age == max_age) (not (some_awaits (instance_at e) s.links))
  where
    go : (a b c : Bool) → cond (a && (b && c)) (cond b None (Some e)) (Some e) ≡ cond (a && (b && c)) None (Some e)
    go true true true = refl
    go true true false = refl
    go true false c = refl
    go false b c = refl

ends_by : (s : AreaValue) (k : LsaKey) (o : Option Entry) → leaves_if s o && (is_own s.router k && is_last o) ≡ ends_run_if s k o
ends_by s k None = refl
ends_by s k (Some e) = refl

-- the removals that end a step (14, 12.1.6)
pub Removes-is_part : (before after : AreaValue) (out : OutputsValue) → IsDatabase before.database → Removes before no_outputs out after → RemovalPart before out after
Removes-is_part before after out is r = record {
  database = λ k. (all_removed (leaving before) before after no_outputs out r k).entry ∙ (ap (λ b. cond b (gone (database_entry before k)) (database_entry before k)) (leaving_by before k is) ∙ gone_leaves before (database_entry before k));
  same_links = rest.links;
  same_router = rest.router;
  same_direct = rest.direct;
  numbering = λ k. (all_removed (leaving before) before after no_outputs out r k).kept ∙ ap (λ b. cond b lowest_number (kept_number before k)) (sym (all_removed (leaving before) before after no_outputs out r k).ended);
  sent = rest.sent;
  taken = rest.taken;
  issued = rest.issued;
  ended = λ k. (all_removed (leaving before) before after no_outputs out r k).ended ∙ (ap (λ b. b && ends_run before k) (leaving_by before k is) ∙ ends_by before k (database_entry before k));
}
  where
    rest : RestStays before after no_outputs out
    rest = all_stay (leaving before) before after no_outputs out r
