-- What is warned of about failures: the root, costs that no LSA contains, and missing routes.
use Rattle.std.specs.Prelude.{◌≡◌, ◌⊎◌, ◌==◌, ◌&&◌, ◌++◌, ℕ, Bool, false, List, [], codes, filter, flat_map, map}
use Rattle.serde_json.specs.Data.{Data, string}
use Rattle.ospf_base.specs.Text.{number_text}
use Rattle.ospf_base.specs.declared.ids.RouterId.{RouterId}
use Rattle.ospf_graph.specs.Advertisements.{Advertisement, IsListed}
use Rattle.ospf_graph.specs.EdgeLists.Listed.{advertisements_of}
use Rattle.ospf_table.specs.Output.{unlisted_line}
use Rattle.ospf_table.specs.Outside.{reasons_text}
use Rattle.ospf_whatif.specs.declared.failure.AreaFailure.{AreaFailure}
use Rattle.ospf_whatif.specs.declared.failure.AreaFailure.TheVariants.{Attachment, Router}
use Rattle.ospf_harm.specs.Carrier.{AreHiddenBy}
use Rattle.ospf_harm.specs.declared.carrier.Carrier.{Carrier}
use Rattle.ospf_harm.specs.declared.hidden.HiddenCost.{HiddenCost}

-- the interface whose cost it is, by the router and the network
abbrev pub hidden_name : HiddenCost → List ℕ
hidden_name h = number_text h.router.0 ++ codes "@" ++ number_text h.network

-- the line of one
abbrev pub hidden_line : HiddenCost → List ℕ
hidden_line h =
    hidden_name h ++ codes ": its cost after a failure of " ++ number_text h.other.0
    ++ codes " is not in the LSAs\n"

-- those of some
abbrev pub hidden_text : List HiddenCost → List ℕ
hidden_text hidden = flat_map hidden_line hidden

-- the failure is that of the other router, or of its interface to the network
abbrev pub is_cause : AreaFailure → HiddenCost → Bool
is_cause (Router gone) h = gone.0 == h.other.0
is_cause (Attachment router network) h = (router.0 == h.other.0) && (network == h.network)
is_cause _ h = false

-- the names of those that a failure brings about
abbrev pub hidden_names : List HiddenCost → AreaFailure → List Data
hidden_names hidden f = map (λ h. string (hidden_name h)) (filter (is_cause f) hidden)

-- ---- warnings

-- the warning about a root: a line if its router-LSA is not listed, and otherwise nothing
abbrev pub TellsOfRoot : List Advertisement → RouterId → List ℕ → Type 0
TellsOfRoot adverts root text =
    ((IsListed adverts root → ⊥) × (text ≡ unlisted_line root))
    ⊎ (IsListed adverts root × (text ≡ []))

-- the warnings about the failures of an area, for this carrier of the links: a line for each cost
-- that no LSA contains, and then why routes may be missing: routes outside the area are not
-- computed, or a part of the area is not reached, as far as the LSAs show
abbrev pub WarnsOfArea : Carrier → List (List ℕ) → List ℕ → Type 0
WarnsOfArea carrier listing text =
    (hidden : List HiddenCost) × AreHiddenBy carrier (advertisements_of listing) hidden
    × (text ≡ hidden_text hidden ++ reasons_text listing)

-- at a router they follow the warning about it
abbrev pub WarnsAt : RouterId → Carrier → List (List ℕ) → List ℕ → Type 0
WarnsAt root carrier listing text =
    (own more : List ℕ) × TellsOfRoot (advertisements_of listing) root own
    × WarnsOfArea carrier listing more × (text ≡ own ++ more)
