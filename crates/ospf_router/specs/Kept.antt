-- What is stored with routes.
use Rattle.std.specs.Prelude.{⊤, ◌≡◌, ℕ, List, [], Option, None, Some}
use Rattle.ospf_base.specs.declared.ids.RouterId.{RouterId}
use Rattle.ospf_base.specs.declared.prefix.Prefix.{Prefix}
use Rattle.ospf_graph.specs.EdgeLists.Listed.{advertisements_of}
use Rattle.ospf_graph.specs.Routes.{IsTable}
use Rattle.ospf_graph.specs.declared.route.Route.{Route}
use Rattle.ospf_router.specs.declared.followed.Grown.{Grown}
use Rattle.ospf_router.specs.Ends.{HoldsPrefixes}
use Rattle.ospf_spf.specs.Spared.{SparesBut}
use Rattle.ospf_router.specs.Growing.{GrowingValue}

-- the LSAs of the stored tree, if one is stored
abbrev pub kept_lsas_in : Option GrowingValue → List (List ℕ)
kept_lsas_in None = []
kept_lsas_in (Some tree) = tree.listing

-- the tree is the router's and the table is that of its listing, if one is stored
abbrev pub IsServed : RouterId → List Route → Option GrowingValue → Type 0
IsServed router table None = ⊤
IsServed router table (Some tree) =
    (tree.root ≡ router) × IsTable (advertisements_of tree.listing) router table

-- the tree grows from another one: the touched prefixes include these, and except for touched
-- prefixes the routes over both are the same
pub record IsGrownFrom (tree : GrowingValue) (before : List Prefix) (grown : Grown) : Type 0 where
  pub root : grown.tree.root ≡ tree.root
  pub kept : HoldsPrefixes before grown.touched.items
  pub spares : SparesBut grown.touched.items (advertisements_of tree.listing)
      (advertisements_of grown.tree.listing) tree.root
