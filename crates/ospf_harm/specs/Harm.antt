-- How much a failure harms. A route that is lost to what fails itself, as to the subnet of a link,
-- is counted apart from a route that is lost to anything else.
use Rattle.std.specs.Prelude.{◌-◌, ◌+◌, ◌*◌, ◌^◌, ◌<◌, ◌==◌, ◌&&◌, ◌||◌, ℕ, Bool, true, false, not, List, ◌++◌, codes, count_by, decimal, fold, max}
use Rattle.ospf_base.specs.declared.prefix.Prefix.{Prefix}
use Rattle.ospf_graph.specs.declared.route.Route.{Route}
use Rattle.ospf_table.specs.Changes.{is_dearer, is_moved}
use Rattle.ospf_whatif.specs.Name.{area_failure_text}
use Rattle.ospf_whatif.specs.declared.effect.Loss.{Loss}
use Rattle.ospf_whatif.specs.declared.effect.Loss.TheVariants.{Cut, Dearer, Gone, Moved}
use Rattle.ospf_whatif.specs.declared.effect.RouteChange.{RouteChange}
use Rattle.ospf_whatif.specs.declared.failure.AreaFailure.{AreaFailure}
use Rattle.ospf_whatif.specs.declared.failure.AreaFailure.TheVariants.{Attachment, End, Link, Links, Network, Router, Stub}
use Rattle.ospf_harm.specs.declared.harm.Harm.{Harm}

-- ---- one route

-- the prefix is the subnet of the link that fails, or of which an end fails
abbrev pub is_link_subnet : AreaFailure → Prefix → Bool
is_link_subnet (Link a b subnet) p =
    (p.address.0 == subnet.address.0) && (p.length == subnet.length)
is_link_subnet (End router other subnet) p =
    (p.address.0 == subnet.address.0) && (p.length == subnet.length)
is_link_subnet (Links a b) p = false
is_link_subnet (Attachment router network) p = false
is_link_subnet (Network network) p = false
is_link_subnet (Router router) p = false
is_link_subnet (Stub router prefix) p = false

-- the route is lost with what fails: nothing advertises its prefix any more, or it is the subnet of
-- the link that fails
abbrev pub is_own_loss : AreaFailure → Prefix → Loss → Bool
is_own_loss f p Gone = true
is_own_loss f p Cut = is_link_subnet f p
is_own_loss f p (Dearer after) = false
is_own_loss f p (Moved after) = false

-- the route is lost though its prefix, which is not that subnet, is still advertised
abbrev pub is_other_loss : AreaFailure → Prefix → Loss → Bool
is_other_loss f p Gone = false
is_other_loss f p Cut = not (is_link_subnet f p)
is_other_loss f p (Dearer after) = false
is_other_loss f p (Moved after) = false

-- a change that is such a loss
abbrev pub loses_own : AreaFailure → RouteChange → Bool
loses_own f c = is_own_loss f c.before.prefix c.loss

-- a change that is a loss of the other sort
abbrev pub loses_other : AreaFailure → RouteChange → Bool
loses_other f c = is_other_loss f c.before.prefix c.loss

-- another route takes its place: at a higher cost, or by other next hops
abbrev pub is_rerouted : RouteChange → Bool
is_rerouted c = is_dearer c.loss || is_moved c.loss

-- by how much its cost rises
abbrev pub rise_to : Route → Loss → ℕ
rise_to before Gone = 0
rise_to before Cut = 0
rise_to before (Dearer after) = after.cost - before.cost
rise_to before (Moved after) = 0

-- by how much a change raises the cost of its route
abbrev pub rise_of : RouteChange → ℕ
rise_of c = rise_to c.before c.loss

-- ---- the routes of a table

-- the highest of these
abbrev pub worst_rise : List RouteChange → ℕ
worst_rise changes = fold (λ worst c. max worst (rise_of c)) 0 changes

-- how many routes of each sort a failure changes, and the worst rise of a cost
abbrev pub harm_at : AreaFailure → List RouteChange → Harm
harm_at f changes = record {
  lost = count_by (loses_other f) changes;
  rerouted = count_by is_rerouted changes;
  rise = worst_rise changes;
  own = count_by (loses_own f) changes;
}

-- ---- more than one table

-- none yet
abbrev pub no_harm : Harm
no_harm = record { lost = 0; rerouted = 0; rise = 0; own = 0 }

-- the routes of both, and the worse rise
abbrev pub harm_plus : Harm → Harm → Harm
harm_plus h more = record {
  lost = h.lost + more.lost;
  rerouted = h.rerouted + more.rerouted;
  rise = max h.rise more.rise;
  own = h.own + more.own;
}

-- so many routers more can be added
pub record HasHarmRoom (n : ℕ) (h : Harm) : Type 0 where
  pub lost : h.lost + 2 ^ 64 * n < 2 ^ 128
  pub rerouted : h.rerouted + 2 ^ 64 * n < 2 ^ 128
  pub own : h.own + 2 ^ 64 * n < 2 ^ 128

-- ---- as text

-- how much harm
abbrev pub harm_text : Harm → List ℕ
harm_text h =
    codes "lost " ++ decimal h.lost ++ codes " rerouted " ++ decimal h.rerouted ++ codes " rise "
    ++ decimal h.rise ++ codes " own " ++ decimal h.own

-- a failure, and how much it harms
abbrev pub harm_line : AreaFailure → Harm → List ℕ
harm_line f h = area_failure_text f ++ codes " " ++ harm_text h ++ codes "\n"
