-- LSAs that leave keep what a router keeps for its own LSAs.
use Rattle.std.proofs.Common.{◌≡◌, ◌≤ℤ◌, ◌&&◌, ℕ, Bool, true, false, List, [], ◌∷◌, map, filter, not, Option, None, Some, option_map, refl, sym, ap, subst, ◌∙◌, if◌then◌else◌}
use Rattle.std.specs.List.{AllByRecursion}
use Rattle.std.proofs.lemmas.Option.{none-some, same_Some}
use Rattle.ospf_base.proofs.SameKeys.{same_key-apart, same_key-eq, same_key-refl}
use Rattle.ospf_base.specs.Keys.{Precedes, same_key}
use Rattle.ospf_base.specs.declared.ids.LsaKey.{LsaKey}
use Rattle.ospf_lsdb.specs.Database.{Entry, Held, IsDatabase, entries, header_at, held_of, instance_at, is_expired, key_at, removed}
use Rattle.ospf_lsdb.proofs.Words.{AreKeysRising}
use Rattle.ospf_area.specs.Numbers.{is_own}
use Rattle.ospf_area.specs.Outputs.{OutputsValue}
use Rattle.ospf_area.specs.State.{AreaValue, database_entry, kept_number, some_link_loading}
use Rattle.ospf_area.specs.Updates.Removal.{RemovesOne, ends_run, is_leaving, leaving, lowest_number, reset}
use Rattle.ospf_area.proofs.Updates.Words.{RemovesAll, Removes, key_of_entry, is_last, some_awaits}
use Rattle.ospf_originate.specs.Sound.{IsSound}
use Rattle.ospf_originate.proofs.SoundLemmas.{Numbers, ended_numbers, fewer, known, last_is_high, numbers_of, sound_of}
use Rattle.ospf_area.proofs.ShortLemmas.{removed_was}
use Rattle.ospf_originate.proofs.Wants.WantedLemmas.{map_all}

-- the copy of a key, if there is one, is at MaxAge
IsOld : AreaValue → LsaKey → Type 0
IsOld s key = (h : Held) → held_of s.database key ≡ Some h → is_expired h ≡ true

removed_old : (o : Option Held) → ((h : Held) → o ≡ Some h → is_expired h ≡ true) → removed o ≡ None
unfolding removed
removed_old None old = refl
removed_old (Some x) old = ap (λ (b : Bool). if b then None else Some x) (old x refl)

-- one that leaves
module _ (k : LsaKey) (s : AreaValue) (o o' : OutputsValue) (s' : AreaValue) (is : RemovesOne k s o o' s') where
  old_after : (key : LsaKey) → IsOld s key → IsOld s' key
  unfolding IsOld
  old_after key old h at = by_test (same_key k key) refl (sym (is.database key) ∙ at)
    where
      by_test : (b : Bool) → same_key k key ≡ b → (if b then removed (held_of s.database k) else held_of s.database key) ≡ Some h → is_expired h ≡ true
      by_test true one e = old h (ap (λ (j : LsaKey). held_of s.database j) (sym (same_key-eq k key one)) ∙ removed_was (held_of s.database k) h e)
      by_test false two e = old h e

  -- it is gone, and the others are as they were
  gone : IsOld s k → (key : LsaKey) (c : List ℕ) → known s'.database key ≡ Some c → (same_key k key ≡ false) × (known s.database key ≡ Some c)
  unfolding IsOld known
  gone old key c at = by_test (same_key k key) refl (sym (ap (option_map (λ (h : Held). h.entry.contents)) (is.database key)) ∙ at)
    where
      by_test : (b : Bool) → same_key k key ≡ b → option_map (λ (h : Held). h.entry.contents) (if b then removed (held_of s.database k) else held_of s.database key) ≡ Some c
          → (same_key k key ≡ false) × (option_map (λ (h : Held). h.entry.contents) (held_of s.database key) ≡ Some c)
      by_test true one e = absurd (none-some c (ap (option_map (λ (h : Held). h.entry.contents)) (sym (removed_old (held_of s.database k) old)) ∙ e))
      by_test false two e = (two, e)

  low : IsSound s → ends_run s k ≡ true → lowest_number ≤ℤ s.max_seq
  low sound ends = by_own (is_own s.router k) refl ends
    where
      by_copy : (copy : Option Entry) → database_entry s k ≡ copy → is_own s.router k ≡ true → is_last copy ≡ true → lowest_number ≤ℤ s.max_seq
      by_copy None at own last = absurd (cc)
      by_copy (Some e) at own last = last_is_high (header_at e).number (kept_number s k) s.max_seq last (sound.counted k e at own) (sound.max_seq k)

      by_own : (b : Bool) → is_own s.router k ≡ b → (b && is_last (database_entry s k)) ≡ true → lowest_number ≤ℤ s.max_seq
      by_own true own last = by_copy (database_entry s k) refl own last
      by_own false other last = absurd (cc)

  one_sound : IsOld s k → IsSound s → IsSound s'
  one_sound old sound = subst (λ (x : AreaValue). IsSound x) (sym is.rest) (sound_of now sound.links sound.stubs (by_test (ends_run s k) refl))
    where
      now : AreaValue
      now = record s { database = s'.database; numbering = if ends_run s k then reset k s.numbering else s.numbering }

      by_test : (b : Bool) → ends_run s k ≡ b → Numbers s.router s'.database (if b then reset k s.numbering else s.numbering) s.floor s.max_seq
      by_test true ends = ended_numbers s.router s.database s'.database s.numbering s.floor s.max_seq k (gone old) (low sound ends) (numbers_of s sound)
      by_test false stays = fewer s.router s.database s'.database s.numbering s.floor s.max_seq (λ key c at. (gone old key c at).1) (numbers_of s sound)

all_sound : (keys : List LsaKey) (s : AreaValue) (o o' : OutputsValue) (s' : AreaValue) → RemovesAll keys s o o' s' → AllByRecursion (IsOld s) keys → IsSound s → IsSound s'
all_sound [] s o o' s' is old sound = subst (λ (x : AreaValue). IsSound x) (sym is.state) sound
all_sound (k ∷ keys) s o o' s' (mid, so_far, one, others) old sound =
    all_sound keys mid so_far o' s' others (map_all (IsOld s) (IsOld mid) (old_after k s o so_far mid one) keys old.1) (one_sound k s o so_far mid one old.0 sound)

-- ---- those that leave are at MaxAge

each_found : (db : List Held) → AreKeysRising db → AllByRecursion (λ h. held_of db (key_at h) ≡ Some h) db
each_found [] rises = tt
each_found (x ∷ xs) rises = (ap (λ (b : Bool). if b then Some x else held_of xs (key_at x)) (same_key-refl (key_at x)), later xs rises.0 (each_found xs rises.1))
  where
    later : (ys : List Held) → AllByRecursion (λ o. Precedes (key_at x) (key_at o)) ys → AllByRecursion (λ h. held_of xs (key_at h) ≡ Some h) ys → AllByRecursion (λ h. held_of (x ∷ xs) (key_at h) ≡ Some h) ys
    later [] before found = tt
    later (y ∷ ys) before found =
        (ap (λ (b : Bool). if b then Some x else held_of xs (key_at y)) (same_key-apart (key_at x) (key_at y) before.0) ∙ found.0, later ys before.1 found.1)

leaving_old : (s : AreaValue) (ds : List Held) → AllByRecursion (λ h. held_of s.database (key_at h) ≡ Some h) ds → AllByRecursion (IsOld s) (map key_of_entry (filter (is_leaving s.links) (map (λ (h : Held). h.entry) ds)))
unfolding IsOld
leaving_old s [] found = tt
leaving_old s (h ∷ hs) found = by_test (is_leaving s.links h.entry) refl (leaving_old s hs found.1)
  where
    rest : List Entry
    rest = filter (is_leaving s.links) (map (λ (h : Held). h.entry) hs)

    first_of : (a b : Bool) → (a && b) ≡ true → a ≡ true
    first_of true b e = refl
    first_of false b e = e

    by_test : (b : Bool) → is_leaving s.links h.entry ≡ b → AllByRecursion (IsOld s) (map key_of_entry rest) → AllByRecursion (IsOld s) (map key_of_entry (if b then h.entry ∷ rest else rest))
    by_test true leaves others =
        ((λ h' at. subst (λ (x : Held). is_expired x ≡ true) (same_Some h h' (sym found.0 ∙ at)) (first_of (is_expired h) (not (some_awaits (instance_at h.entry) s.links)) leaves)), others)
    by_test false stays others = others

pub removal_sound : (s : AreaValue) (o o' : OutputsValue) (s' : AreaValue) → IsDatabase s.database → Removes s o o' s' → IsSound s → IsSound s'
removal_sound s o o' s' is removes sound = all_sound (leaving s) s o o' s' removes (by_loading (some_link_loading s.links)) sound
  where
    by_loading : (b : Bool) → AllByRecursion (IsOld s) (if b then [] else map key_of_entry (filter (is_leaving s.links) (entries s.database)))
    by_loading true = tt
    by_loading false = leaving_old s s.database (each_found s.database is.rising)
