-- Which words say what is expected.
use Rattle.std.specs.Prelude.{◌≡◌, ◌⊎◌, ℕ, Option, None, Some, List, [], ◌∷◌, codes}
use Rattle.std.specs.List.{AllZip}
use Rattle.ospf_base.specs.declared.ids.Addr.{Addr}
use Rattle.ospf_base.specs.declared.ids.RouterId.{RouterId}
use Rattle.ospf_base.specs.declared.prefix.Prefix.{Prefix}
use Rattle.ospf_script.specs.Values.{AreManySpelled, IsAddress, IsDecimal, IsHopWord, IsPrefix, IsRouterWord}
use Rattle.ospf_script.specs.Words.{Text}
use Rattle.ospf_neighbour.specs.Text.{state_text}
use Rattle.ospf_neighbour.specs.declared.machine.NeighbourState.{NeighbourState}
use Rattle.ospf_neighbour.specs.declared.machine.NeighbourState.TheVariants.{Full}
use Rattle.ospf_script.specs.declared.expected.Expected.{Expected}
use Rattle.ospf_script.specs.declared.expected.Expected.TheVariants.{Router, Walk, Agree, Headline, Settled}
use Rattle.ospf_script.specs.declared.expected.Wanted.{Wanted}
use Rattle.ospf_script.specs.declared.expected.Wanted.TheVariants.{Neighbour, NoNeighbour, Dr, Route, NoRoute}

-- the word `neighbour`, in either spelling
abbrev pub IsNeighbour : Text → Type 0
IsNeighbour word = (word ≡ codes "neighbour") ⊎ (word ≡ codes "neighbor")

-- the name of a neighbour's state, as it is printed (RFC 2328, section 10.1)
abbrev pub IsStateWord : Text → NeighbourState → Type 0
IsStateWord word state = word ≡ state_text state

-- a Router ID and the number of one of its links, and then other words
abbrev pub BeginsLink : List Text → RouterId → ℕ → List Text → Type 0
BeginsLink (a ∷ b ∷ ws) router link rest =
    IsRouterWord a router × IsDecimal 64 b link × (ws ≡ rest)
BeginsLink _ router link rest = ⊥

-- the address of a Designated Router, and of a Backup, where one is given (section 9)
abbrev pub AreElected : List Text → Addr → Option Addr → Type 0
AreElected (a ∷ []) dr None = IsAddress a dr
AreElected (a ∷ b ∷ []) dr (Some backup) = IsAddress a dr × IsAddress b backup
AreElected _ dr backup = ⊥

-- the word `arrived`, and a cost, where one is given
abbrev pub SpellsArrival : List Text → Option ℕ → Type 0
SpellsArrival (a ∷ []) None = a ≡ codes "arrived"
SpellsArrival (a ∷ b ∷ []) (Some cost) = (a ≡ codes "arrived") × IsDecimal 64 b cost
SpellsArrival _ _ = ⊥

-- a Router ID, a prefix and a cost, and then other words
abbrev pub BeginsRoute : List Text → RouterId → Prefix → ℕ → List Text → Type 0
BeginsRoute (a ∷ b ∷ c ∷ ws) router prefix cost rest =
    IsRouterWord a router × IsPrefix b prefix × IsDecimal 64 c cost × (ws ≡ rest)
BeginsRoute _ router prefix cost rest = ⊥

-- the words behind `expect` where something is wanted of a router
abbrev pub IsWanted : RouterId → Wanted → List Text → Type 0
IsWanted router (Neighbour other state) (w ∷ a ∷ b ∷ []) =
    (w ≡ codes "full") × IsRouterWord a router × IsRouterWord b other × (state ≡ Full)
IsWanted router (Neighbour other state) (w ∷ a ∷ b ∷ c ∷ []) =
    IsNeighbour w × IsRouterWord a router × IsRouterWord b other × IsStateWord c state
IsWanted router (NoNeighbour link) (v ∷ w ∷ a ∷ b ∷ []) =
    (v ≡ codes "no") × IsNeighbour w × IsRouterWord a router × IsDecimal 64 b link
IsWanted router (Dr link dr backup) (w ∷ a ∷ b ∷ ws) =
    (w ≡ codes "dr") × IsRouterWord a router × IsDecimal 64 b link × AreElected ws dr backup
IsWanted router (Route prefix cost hops) (w ∷ ws) =
    (w ≡ codes "route") × (rest : List Text) × BeginsRoute ws router prefix cost rest
    × AllZip IsHopWord rest hops.items
IsWanted router (NoRoute prefix) (v ∷ w ∷ a ∷ b ∷ []) =
    (v ≡ codes "no") × (w ≡ codes "route") × IsRouterWord a router × IsPrefix b prefix
IsWanted router _ _ = ⊥

-- the word `headline`, and a Router ID, where one is given
abbrev pub SpellsHeadline : Option RouterId → List Text → Type 0
SpellsHeadline None (w ∷ []) = w ≡ codes "headline"
SpellsHeadline (Some router) (w ∷ a ∷ []) = (w ≡ codes "headline") × IsRouterWord a router
SpellsHeadline _ _ = ⊥

-- the words behind `expect`
abbrev pub IsExpected : List Text → Expected → Type 0
IsExpected ws (Router router wanted) = IsWanted router wanted ws
IsExpected ws (Headline router) = SpellsHeadline router ws
IsExpected (w ∷ a ∷ b ∷ ws) (Walk from address cost) =
    (w ≡ codes "walk") × IsRouterWord a from × IsAddress b address × SpellsArrival ws cost
IsExpected (w ∷ []) Agree = w ≡ codes "agree"
IsExpected (w ∷ []) Settled = w ≡ codes "settled"
IsExpected _ _ = ⊥

-- they begin with `route`
abbrev pub IsOfRoute : List Text → Type 0
IsOfRoute ws = (rest : List Text) × (ws ≡ codes "route" ∷ rest)

-- they expect a route with one next hop or more
abbrev pub IsLongRoute : List Text → Type 0
IsLongRoute [] = ⊥
IsLongRoute (w ∷ ws) =
    (w ≡ codes "route") × (router : RouterId) × (prefix : Prefix) × (cost : ℕ) × (rest : List Text)
    × BeginsRoute ws router prefix cost rest
    × AreManySpelled IsHopWord rest
