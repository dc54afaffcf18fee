-- Laws of drawings.
use Rattle.std.specs.Prelude.{◌≡◌, ◌^◌, ◌<◌, ℕ, List}
use Rattle.ospf_base.specs.Prefixes.{IsPrefixOf}
use Rattle.ospf_base.specs.Text.{prefix_text}
use Rattle.ospf_base.specs.declared.prefix.Prefix.{Prefix}
use Rattle.ospf_inspect.specs.AreaDrawing.Graph.{network_node, prefix_under, router_node}

-- the text of the addresses under a mask is the text of their prefix
abbrev pub PrefixesAreDrawn : Type 0
PrefixesAreDrawn =
    (address mask : ℕ) (prefix : Prefix) → IsPrefixOf address mask prefix
    → prefix_under address mask ≡ prefix_text prefix

-- what a drawing names
pub data Drawn : Type 0 where
  router : (id : ℕ) → Drawn
  network : (id : ℕ) → Drawn

-- the name of what is drawn
abbrev pub node_name : Drawn → List ℕ
node_name (router id) = router_node id
node_name (network id) = network_node id

-- the number fits its field
abbrev pub DrawnFits : Drawn → Type 0
DrawnFits (router id) = id < 2 ^ 32
DrawnFits (network id) = id < 2 ^ 32

-- different things have different names
abbrev pub NamesTellApart : Type 0
NamesTellApart = (a b : Drawn) → DrawnFits a → DrawnFits b → node_name a ≡ node_name b → a ≡ b
