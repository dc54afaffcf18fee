-- How far the numbers of the router's own keys have advanced (RFC 2328, section 12.1.6).
use Rattle.std.specs.Prelude.{◌==◌, ◌++◌, ◌||◌, ◌&&◌, ℤ, Bool, false, true, None, List, [], ◌∷◌, filter, map, not, if◌then◌else◌}
use Rattle.std.specs.Int.{int_max}
use Rattle.std.specs.BTreeSet.{insert_key}
use Rattle.std.specs.List.{list_any}
use Rattle.ospf_base.specs.Keys.{same_key, key_cmp}
use Rattle.ospf_base.specs.declared.ids.Kind.TheVariants.{Router, Network}
use Rattle.ospf_base.specs.declared.ids.LsaKey.{LsaKey}
use Rattle.ospf_base.specs.declared.ids.RouterId.{RouterId}
use Rattle.ospf_area.specs.State.{AreaValue, LinkValue}
use Rattle.ospf_area.specs.declared.state.Numbering.{Numbering}

-- ---- kept numbers

-- the key is one that the router numbers
abbrev pub is_own : RouterId → LsaKey → Bool
is_own router key = key.router.0 == router.0

-- the router's numbers once an LSA of the key was installed with this one: of a key of its own
-- the greater of the two is kept, of this one and the number kept so far, or else the floor
abbrev pub counts : LsaKey → ℤ → AreaValue → List Numbering
counts key number s =
    if is_own s.router key
    then if list_any (λ n. same_key n.key key) s.numbering
    then map (λ (n : Numbering).
    if same_key n.key key then record n { kept = int_max n.kept number } else n) s.numbering
    else s.numbering ++ record { key = key; kept = int_max s.floor number; issued_at = None } ∷ []
    else s.numbering

-- ---- the LSAs to which the router itself responds

-- the LSA is self-originated: its Advertising Router is this one, or it is of a network whose DR's
-- address is one of the router's own (13.4)
abbrev pub is_self_originated : RouterId → List LinkValue → LsaKey → Bool
is_self_originated router links key =
    is_own router key
    || (elim key.kind [ Router ↦ false | Network ↦ true ]
    && list_any (λ (link : LinkValue). link.iface.settings.address.0 == key.id) links)

-- ---- what went out in this tick

-- the keys whose copy was sent in this tick, once the copy of this key is installed, and was sent
-- in an Update or was not (13, step 8): the key is at its place in the order of keys, or is not
-- listed
abbrev pub marked : LsaKey → Bool → List LsaKey → List LsaKey
marked key went sent =
    if went then insert_key key_cmp sent key else filter (λ k. not (same_key k key)) sent
