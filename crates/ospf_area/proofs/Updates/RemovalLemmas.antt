-- LSAs leave one after the other.
use Rattle.std.proofs.Common.{◌≡◌, ◌||◌, Bool, true, false, if◌then◌else◌, Option, None, Some, ap, ◌∙◌, List, [], ◌∷◌, ◌++◌, refl, subst, arith, filter, length, map}
use Rattle.ospf_base.specs.declared.ids.LsaKey.{LsaKey}
use Rattle.std.specs.List.{AllByRecursion}
use Rattle.ospf_base.proofs.SameKeys.{same_key-apart, same_key-eq, same_key-refl}
use Rattle.ospf_base.specs.Keys.{Precedes, same_key}
use Rattle.ospf_lsdb.specs.Database.{Held, IsDatabase, entries, held_of, is_expired, is_some_and, key_at, removed}
use Rattle.ospf_lsdb.proofs.Words.{AreKeysRising}
use Rattle.ospf_lsdb.specs.Moments.{among}
use Rattle.ospf_area.specs.Outputs.{OutputsValue}
use Rattle.ospf_area.specs.Updates.Removal.{RemovesOne, is_leaving, leaving}
use Rattle.ospf_area.proofs.Updates.Words.{RemovesAll, key_of_entry}
use Rattle.ospf_area.specs.State.{AreaValue, LinkValue, some_link_loading}

-- one more
pub RemovesAll-more : (keys : List LsaKey) (key : LsaKey) (s m e : AreaValue) (o p q : OutputsValue) → RemovesAll keys s o p m → RemovesOne key m p q e → RemovesAll (keys ++ key ∷ []) s o q e
RemovesAll-more [] key s m e o p q none one =
    (e, q, subst (λ (x : AreaValue). RemovesOne key x o q e) none.state (subst (λ (x : OutputsValue). RemovesOne key m x q e) none.outputs one), record { state = refl; outputs = refl })
RemovesAll-more (k ∷ keys) key s m e o p q some one =
    (some.0, some.1, some.2, RemovesAll-more keys key some.0 m e some.1 p q some.3 one)

-- what is gone stays gone, and what stays stays
removed_twice : (o : Option Held) → removed (removed o) ≡ removed o
unfolding removed
removed_twice None = refl
removed_twice (Some h) = by_test (is_expired h) refl
  where
    by_test : (b : Bool) → is_expired h ≡ b → removed (if b then None else Some h) ≡ (if b then None else Some h)
    by_test true e = refl
    by_test false e = ap (λ (b : Bool). if b then None else Some h) e

-- a key that leaves, and those after it
one_of : (k key : LsaKey) (first mid last : Option Held) (rest : Bool) (at : LsaKey → Option Held) → at key ≡ first → mid ≡ (if same_key k key then removed (at k) else first)
    → last ≡ (if rest then removed mid else mid) → last ≡ (if same_key k key || rest then removed first else first)
one_of k key first mid last rest at is_first is_mid is_last = by_key (same_key k key) refl is_mid
  where
    either : (b : Bool) (o : Option Held) → (if b then removed (removed o) else removed o) ≡ removed o
    either true o = removed_twice o
    either false o = refl

    by_key : (b : Bool) → same_key k key ≡ b → mid ≡ (if b then removed (at k) else first) → last ≡ (if b || rest then removed first else first)
    by_key true e is =
        let here : mid ≡ removed first = is ∙ ap (λ (j : LsaKey). removed (at j)) (same_key-eq k key e) ∙ ap removed is_first in
        is_last ∙ ap (λ (o : Option Held). if rest then removed o else o) here ∙ either rest first
    by_key false e is = is_last ∙ ap (λ (o : Option Held). if rest then removed o else o) is

pub removed_all : (keys : List LsaKey) (s e : AreaValue) (o q : OutputsValue) → RemovesAll keys s o q e → (key : LsaKey)
    → held_of e.database key ≡ (if among keys key then removed (held_of s.database key) else held_of s.database key)
removed_all [] s e o q none key = ap (λ (x : AreaValue). held_of x.database key) none.state
removed_all (k ∷ keys) s e o q some key =
    one_of k key (held_of s.database key) (held_of some.0.database key) (held_of e.database key) (among keys key) (held_of s.database) refl (some.2.database key)
    (removed_all keys some.0 e some.1 q some.3 key)

-- ---- none is at MaxAge

none_leaves : (links : List LinkValue) (db : List Held) → length (filter is_expired db) ≡ 0 → filter (is_leaving links) (entries db) ≡ []
none_leaves links [] none = refl
none_leaves links (h ∷ hs) none = by (is_expired h) refl (none_leaves links hs)
  where
    by : (b : Bool) → is_expired h ≡ b → (length (filter is_expired hs) ≡ 0 → filter (is_leaving links) (entries hs) ≡ []) → filter (is_leaving links) (entries (h ∷ hs)) ≡ []
    by true e later = absurd (let some = simp e at none in omega (arith, some))
    by false e later = let rest = simp e at none in rw e (later rest)

-- then none leaves
pub leaving_none : (s : AreaValue) → length (filter is_expired s.database) ≡ 0 → leaving s ≡ []
leaving_none s none = by (some_link_loading s.links) refl
  where
    by : (b : Bool) → some_link_loading s.links ≡ b → leaving s ≡ []
    by true e = rw e refl
    by false e = rw e (ap (λ es. map key_of_entry es) (none_leaves s.links s.database none))

-- ---- they are among the keys of those at MaxAge

-- an entry is held at its key
each_held : (db : List Held) → AreKeysRising db → AllByRecursion (λ h. held_of db (key_at h) ≡ Some h) db
each_held [] rises = tt
each_held (x ∷ xs) rises = (let same = same_key-refl (key_at x) in rw same refl, later xs rises.0 (each_held xs rises.1))
  where
    later : (hs : List Held) → AllByRecursion (λ o. Precedes (key_at x) (key_at o)) hs → AllByRecursion (λ h. held_of xs (key_at h) ≡ Some h) hs → AllByRecursion (λ h. held_of (x ∷ xs) (key_at h) ≡ Some h) hs
    later [] after held = tt
    later (h ∷ hs) after held = (let no = same_key-apart (key_at x) (key_at h) after.0 in rw no held.0, later hs after.1 held.1)

-- the entry at a key leaves
abbrev pub leaves : List LinkValue → List Held → LsaKey → Bool
leaves links db key = is_some_and (λ h. is_leaving links h.entry) (held_of db key)

-- those that leave are among the keys of those at MaxAge
abbrev AreAmong : List LinkValue → List Held → List Held → Type 0
AreAmong links db hs = filter (leaves links db) (map key_at (filter is_expired hs)) ≡ map key_of_entry (filter (is_leaving links) (entries hs))

leaving_among : (links : List LinkValue) (db hs : List Held) → AllByRecursion (λ h. held_of db (key_at h) ≡ Some h) hs → AreAmong links db hs
leaving_among links db [] held = refl
leaving_among links db (h ∷ hs) held = by (is_expired h) refl (leaving_among links db hs held.1)
  where
    leaves_it : leaves links db (key_at h) ≡ is_leaving links h.entry
    leaves_it = ap (λ (o : Option Held). is_some_and (λ g. is_leaving links g.entry) o) held.0

    one : (b : Bool) → is_leaving links h.entry ≡ b → AreAmong links db hs → filter (leaves links db) (key_at h ∷ map key_at (filter is_expired hs)) ≡ map key_of_entry (filter (is_leaving links) (entries (h ∷ hs)))
    one true e rest = let goes = leaves_it ∙ e in rw (goes, e) (ap (λ ks. key_at h ∷ ks) rest)
    one false e rest = let stays = leaves_it ∙ e in rw (stays, e) rest

    by : (b : Bool) → is_expired h ≡ b → AreAmong links db hs → AreAmong links db (h ∷ hs)
    by true e rest =
        let first : filter is_expired (h ∷ hs) ≡ h ∷ filter is_expired hs = rw e refl in
        ap (λ (gs : List Held). filter (leaves links db) (map key_at gs)) first ∙ one (is_leaving links h.entry) refl rest
    by false e rest = rw e rest

pub leaving_expired : (links : List LinkValue) (db : List Held) → IsDatabase db → filter (leaves links db) (map key_at (filter is_expired db)) ≡ map key_of_entry (filter (is_leaving links) (entries db))
leaving_expired links db is = leaving_among links db db (each_held db is.rising)
