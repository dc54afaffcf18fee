-- What carries the links of an area, and what fails together for that (RFC 2328, sections 9.2 and
-- 12.4.1). An interface goes down where its cable goes dark, and not where a switch at the far end
-- of the cable keeps it lit.
use Rattle.std.specs.Prelude.{◌≡◌, ◌⊎◌, ◌==◌, ◌&&◌, ◌||◌, ◌∷◌, [], ℕ, Bool, false, List, count_by, flat_map, if◌then◌else◌}
use Rattle.ospf_base.specs.declared.ids.RouterId.{RouterId}
use Rattle.ospf_lsa.specs.Listing.{IsListing}
use Rattle.ospf_graph.specs.Advertisements.{Advertisement}
use Rattle.ospf_graph.specs.EdgeLists.Listed.{advertisements_of}
use Rattle.ospf_harm.specs.Hidden.{AreHidden}
use Rattle.ospf_whatif.specs.Name.{area_failure_text}
use Rattle.ospf_whatif.specs.Single.{IsFailure}
use Rattle.ospf_harm.specs.declared.carrier.Carrier.{Carrier}
use Rattle.ospf_harm.specs.declared.carrier.Carrier.TheVariants.{Direct, Process, Switch}
use Rattle.ospf_whatif.specs.declared.failure.AreaFailure.{AreaFailure}
use Rattle.ospf_harm.specs.declared.hidden.HiddenCost.{HiddenCost}
use Rattle.ospf_whatif.specs.declared.failure.AreaFailure.TheVariants as fails

-- ---- what may fail

-- behind switches no link fails whole, and each of its two ends does; all else that may fail in the
-- area may fail on each carrier
abbrev pub IsFailureBy : Carrier → List Advertisement → AreaFailure → Type 0
IsFailureBy Switch adverts (fails.Link a b subnet) = ⊥
IsFailureBy Switch adverts (fails.End router other subnet) =
    IsFailure adverts (fails.Link router other subnet)
    ⊎ IsFailure adverts (fails.Link other router subnet)
IsFailureBy Switch adverts f = IsFailure adverts f
IsFailureBy Direct adverts f = IsFailure adverts f
IsFailureBy Process adverts f = IsFailure adverts f

-- no two of these have one name
abbrev pub CarriedNamesTellApart : Type 0
CarriedNamesTellApart =
    (carrier : Carrier) (lsas : List (List ℕ)) (f g : AreaFailure) → IsListing lsas
    → IsFailureBy carrier (advertisements_of lsas) f
    → IsFailureBy carrier (advertisements_of lsas) g → area_failure_text f ≡ area_failure_text g
    → f ≡ g

-- ---- what fails together

-- the attachment of some router to the network
abbrev pub is_attached_to : ℕ → AreaFailure → Bool
is_attached_to n (fails.Attachment router m) = m == n
is_attached_to n _ = false

-- of all that may fail in the area, two attachments are to the network: it is a cable
abbrev pub is_cable : List AreaFailure → ℕ → Bool
is_cable single n = count_by (is_attached_to n) single == 2

-- on direct cables a router that leaves a network of two takes the network with it
abbrev pub leaving_network : List AreaFailure → RouterId → ℕ → AreaFailure
leaving_network single router n =
    if is_cable single n then fails.Network n else fails.Attachment router n

-- what goes with the router's power, of something that may fail: the link that is one of its
-- cables, the network that is one of them, and the router itself
abbrev pub powered : List AreaFailure → RouterId → AreaFailure → List AreaFailure
powered single gone (fails.Link a b subnet) =
    if (a.0 == gone.0) || (b.0 == gone.0) then fails.Link a b subnet ∷ [] else []
powered single gone (fails.End router other subnet) = []
powered single gone (fails.Links a b) = []
powered single gone (fails.Attachment router n) =
    if (router.0 == gone.0) && is_cable single n then fails.Network n ∷ [] else []
powered single gone (fails.Network n) = []
powered single gone (fails.Router router) =
    if router.0 == gone.0 then fails.Router router ∷ [] else []
powered single gone (fails.Stub router prefix) = []

-- what fails together on direct cables, of all that may fail in the area
abbrev pub together_direct : List AreaFailure → AreaFailure → List AreaFailure
together_direct single (fails.Router gone) = flat_map (powered single gone) single
together_direct single (fails.Attachment router n) = leaving_network single router n ∷ []
together_direct single f = f ∷ []

-- what fails together: behind switches, and where only the process of a router dies, each failure
-- comes alone
abbrev pub together : Carrier → List AreaFailure → AreaFailure → List AreaFailure
together Direct single f = together_direct single f
together Switch single f = f ∷ []
together Process single f = f ∷ []

-- ---- costs that no LSA contains

-- on direct cables no stub router is left alone on a network of two: it goes whole
abbrev pub AreHiddenBy : Carrier → List Advertisement → List HiddenCost → Type 0
AreHiddenBy Direct adverts hidden = hidden ≡ []
AreHiddenBy Switch adverts hidden = AreHidden adverts hidden
AreHiddenBy Process adverts hidden = AreHidden adverts hidden

-- ---- on the way

-- behind switches a link gives its two ends
abbrev pub EndGiven : AreaFailure → AreaFailure → Type 0
EndGiven (fails.Link a b subnet) f = (f ≡ fails.End a b subnet) ⊎ (f ≡ fails.End b a subnet)
EndGiven (fails.End router other subnet) f = f ≡ fails.End router other subnet
EndGiven (fails.Links a b) f = f ≡ fails.Links a b
EndGiven (fails.Attachment router n) f = f ≡ fails.Attachment router n
EndGiven (fails.Network n) f = f ≡ fails.Network n
EndGiven (fails.Router router) f = f ≡ fails.Router router
EndGiven (fails.Stub router prefix) f = f ≡ fails.Stub router prefix
