-- What changes of the LSAs that a router lists (RFC 2328, sections 12.1, 13.2 and 14).
use Rattle.std.specs.Prelude.{◌==◌, ◌&&◌, ◌||◌, ◌++◌, ◌∷◌, ℕ, Bool, false, List, [], Option, None, Some, bytes_eq, drop, find, flat_map, is_some, slice_index, if◌then◌else◌}
use Rattle.std.specs.List.{list_any}
use Rattle.ospf_base.specs.Constants.{max_age}
use Rattle.ospf_base.specs.Keys.{same_key}
use Rattle.ospf_base.specs.declared.ids.Instance.{Instance}
use Rattle.ospf_base.specs.declared.ids.LsaKey.{LsaKey}
use Rattle.ospf_base.specs.declared.ids.RouterId.{RouterId}
use Rattle.ospf_lsa.specs.Lsa.{key_of, with_age}
use Rattle.ospf_notes.specs.declared.lsa_changes.LsaChange.{LsaChange}
use Rattle.ospf_notes.specs.declared.lsa_changes.LsaEvent.{LsaEvent}
use Rattle.ospf_notes.specs.declared.lsa_changes.LsaEvent.TheVariants.{Installed, Refreshed, AgedOut, Flushed}

-- ---- one LSA

-- the LSA of a key, if it is listed
abbrev pub lsa_at : List (List ℕ) → LsaKey → Option (List ℕ)
lsa_at lsas key = find (λ l. same_key (key_of l) key) lsas

-- the two have the same bytes but for the age (12.1.1)
abbrev pub is_same_but_age : List ℕ → List ℕ → Bool
is_same_but_age a b = bytes_eq (drop 2 a) (drop 2 b)

-- the two say the same: in the options, the length, and all behind the header (13.2)
abbrev pub says_the_same : List ℕ → List ℕ → Bool
says_the_same a b = (slice_index a 2 == slice_index b 2) && bytes_eq (drop 18 a) (drop 18 b)

-- ---- what becomes of it

-- the LSA was listed before, at whatever age
abbrev pub was_listed : Option (List ℕ) → List ℕ → Bool
was_listed None lsa = false
was_listed (Some old) lsa = is_same_but_age old lsa

-- an LSA takes the place of another instance of its key, or of none: it refreshes one that says
-- the same (12.4), and is installed otherwise (13.2)
abbrev pub put_event : Option (List ℕ) → List ℕ → LsaEvent
put_event None lsa = Installed
put_event (Some old) lsa = if says_the_same old lsa then Refreshed else Installed

-- what becomes of an LSA that is listed, where this was listed of its key before
abbrev pub put_from : Option (List ℕ) → List ℕ → List LsaChange
put_from before lsa =
    if was_listed before lsa then [] else record { event = put_event before lsa; lsa = lsa } ∷ []

-- what becomes of an LSA that is listed now
abbrev pub put_change : List (List ℕ) → List ℕ → List LsaChange
put_change before lsa = put_from (lsa_at before (key_of lsa)) lsa

-- one of these instances is of the key
abbrev pub is_taken : List Instance → LsaKey → Bool
is_taken taken key = list_any (λ i. same_key i.key key) taken

-- an LSA comes to MaxAge: it is flushed where a copy at MaxAge was taken from a neighbor, or where
-- it is the router's own, which never grows so old (14.1); otherwise it is aged out (14)
abbrev pub left_event : RouterId → List Instance → LsaKey → LsaEvent
left_event own taken key =
    if (key.router.0 == own.0) || is_taken taken key then Flushed else AgedOut

-- what becomes of an LSA that was listed: one that is no more came to MaxAge
abbrev pub left_change : RouterId → List Instance → List (List ℕ) → List ℕ → List LsaChange
left_change own taken now lsa =
    if is_some (lsa_at now (key_of lsa)) then []
    else record { event = left_event own taken (key_of lsa); lsa = with_age max_age lsa } ∷ []

-- ---- all of them

-- what changes from one listing of a router to the other by a step that took these instances from
-- its neighbors: the LSAs that are listed, and then those that are no more, each by key
abbrev pub lsa_changes
    : RouterId → List Instance → (before now : List (List ℕ)) → List LsaChange
lsa_changes own taken before now =
    flat_map (put_change before) now ++ flat_map (left_change own taken now) before
