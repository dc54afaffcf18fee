-- What a printing line of a script prints, besides what it shows of a router.
use Rattle.std.specs.Prelude.{Bool, ◌++◌, String, codes, decimal, string_bytes}
use Rattle.std.specs.declared.alloc.Global.{Global}
use Rattle.ospf_base.specs.Text.{number_text}
use Rattle.ospf_base.specs.declared.ids.Addr.{Addr}
use Rattle.ospf_base.specs.declared.ids.RouterId.{RouterId}
use Rattle.ospf_world.specs.declared.walk.WalkEnd.{WalkEnd}
use Rattle.ospf_world.specs.declared.walk.WalkEnd.TheVariants.{Arrived, NoRoute, NotRunning, Turns}
use Rattle.ospf_views.specs.Texts.{routers_text}
use Rattle.ospf_script.specs.Words.{Text}
use Rattle.ospf_views.specs.Shown.{headed}
use Rattle.ospf_world.specs.declared.walk.Walk.{Walk}

-- how a walk ended
abbrev pub end_text : WalkEnd → Text
end_text Arrived = codes "arrived"
end_text NoRoute = codes "no route"
end_text NotRunning = codes "not running"
end_text Turns = codes "turns"

-- a walk: the routers on its path, its cost, and how it ended
abbrev pub walk_line : Walk → Text
walk_line walk =
    routers_text walk.routers.items ++ codes "cost " ++ decimal walk.cost ++ codes " "
    ++ end_text walk.end ++ codes "\n"

-- the text of `say`
abbrev pub said_line : String Global → Text
said_line said = string_bytes said ++ codes "\n"

-- the heading of a walk: from where to where
abbrev pub ends_text : RouterId → Addr → Text
ends_text from address =
    codes "walk from " ++ number_text from.0 ++ codes " to " ++ number_text address.0

-- and what its line lists
abbrev pub walk_heading : RouterId → Addr → Text
walk_heading from address = ends_text from address ++ codes ": routers, cost, end\n"

-- a walk, with its heading if labels are on
abbrev pub walked_lines : Bool → RouterId → Addr → Walk → Text
walked_lines is_labelled from address walk =
    headed is_labelled (walk_heading from address) (walk_line walk)
