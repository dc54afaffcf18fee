use Rattle.std.proofs.Common.{rules, ◌≡◌, ◌-◌, ◌++◌, arith, refl, string_bytes}
use Rattle.ospf_graph.specs.EdgeLists.Listed.{advertisements_of}
use Rattle.ospf_graph.specs.declared.hop.NextHop.TheVariants as hops
use Rattle.ospf_inspect.specs.Path.{HasNoRouteFor}
use Rattle.ospf_inspect.proofs.Ways.{arrives_said, hop_linked, leads_on, leg_said, strays_said, takes_it, turns_said}
use Rattle.ospf_inspect.proofs.path.add_leg.Goals as goal

pub returns-in_default : goal.returns-in_default
returns-in_default c =
    let adverts = advertisements_of c.args.listing.now in
    let none : HasNoRouteFor adverts c.args.address.0 c.args.way.at = record { table = c.in_ok-table.table; is_table = c.in_ok-table.ensures; none = c.in_default.ensures.none } in
    let pushed : string_bytes c.push_str.new.self ≡ string_bytes c.args.text.now ++ string_bytes c.in_ok-no_route_line.field-0 = search rules in
    strays_said adverts c.args.address.0 c.args.way.most c.args.way.choices.now c.args.way.at c.args.way.paid (string_bytes c.args.text.now) (string_bytes c.push_str.new.self)
    (string_bytes c.in_ok-no_route_line.field-0) none c.in_ok-no_route_line.ensures pushed

pub returns-in_default-next_of : goal.returns-in_default-next_of
returns-in_default-next_of c =
    let adverts = advertisements_of c.args.listing.now in
    let first = c.first_of-choice.ensures.first in
    let here = c.in_default-next_of.ensures.none in
    let takes = takes_it adverts c.args.address.0 c.args.way.choices.now c.first_of-choice.result.0 c.args.way.at c.in_ok-table.table c.in-Some.route.now c.hop_at-hop.result hops.Attached
    c.in_ok-table.ensures c.in-Some.ensures.found c.hop_at-hop.ensures first here in
    let leg = leg_said c.args.way.choices.now c.first_of-choice.result.0 c.args.way.at c.in-Some.route.now c.hop_at-hop.result hops.Attached c.in-Some.route.now.cost c.leg_of.result
    (string_bytes c.in_ok-leg_line.field-0) c.in_ok-leg_line.ensures c.leg_of.ensures first here in
    let mid : string_bytes c.push_str-in_default-next_of.new.self ≡ string_bytes c.args.text.now ++ string_bytes c.in_ok-leg_line.field-0 = search rules in
    let new : string_bytes c.push_str-in_default-next_of-2.new.self ≡ string_bytes c.push_str-in_default-next_of.new.self ++ string_bytes c.in_ok-arrived_line.field-0 = search rules in
    arrives_said adverts c.args.address.0 c.args.way.most c.args.way.choices.now c.args.way.at c.args.way.paid (string_bytes c.args.text.now)
    (string_bytes c.push_str-in_default-next_of-2.new.self) c.in-Some.route.now (string_bytes c.in_ok-leg_line.field-0) (string_bytes c.in_ok-arrived_line.field-0)
    (string_bytes c.push_str-in_default-next_of.new.self) takes leg c.in_ok-arrived_line.ensures mid new

pub returns-then-way-eq0 : goal.returns-then-way-eq0
returns-then-way-eq0 c =
    let adverts = advertisements_of c.args.listing.now in
    let takes = takes_it adverts c.args.address.0 c.args.way.choices.now c.first_of-choice.result.0 c.args.way.at c.in_ok-table.table c.in-Some.route.now c.hop_at-hop.result c.hop_at-hop.result
    c.in_ok-table.ensures c.in-Some.ensures.found c.hop_at-hop.ensures c.first_of-choice.ensures.first refl in
    let pushed : string_bytes c.push_str-then-way-eq0.new.self ≡ string_bytes c.args.text.now ++ string_bytes c.in_ok-turns_line.field-0 = search rules in
    turns_said adverts c.args.address.0 c.args.way.most c.args.way.choices.now c.args.way.at c.args.way.paid (string_bytes c.args.text.now) (string_bytes c.push_str-then-way-eq0.new.self)
    c.in-Some.route.now c.hop_at-hop.result c.in-Some-next_of.next (string_bytes c.in_ok-turns_line.field-0) (omega (arith, c.if-way-eq0.true)) takes c.in-Some-next_of.ensures.found
    c.in_ok-turns_line.ensures pushed

pub cost_of-cost-requires : goal.cost_of-cost-requires
cost_of-cost-requires c =
    hop_linked (advertisements_of c.args.listing.now) c.args.way.at c.in_ok-table.table c.args.address.0 c.in-Some.route.now _ c.hop_at-hop.result c.in_ok-table.ensures
    c.in-Some.ensures.found c.hop_at-hop.ensures c.in-Some-next_of.ensures.other

pub returns : goal.returns
returns c =
    let adverts = advertisements_of c.args.listing.now in
    let first = c.first_of-choice.ensures.first in
    let takes = takes_it adverts c.args.address.0 c.args.way.choices.now c.first_of-choice.result.0 c.args.way.at c.in_ok-table.table c.in-Some.route.now c.hop_at-hop.result c.hop_at-hop.result
    c.in_ok-table.ensures c.in-Some.ensures.found c.hop_at-hop.ensures first refl in
    let leg = leg_said c.args.way.choices.now c.first_of-choice.result.0 c.args.way.at c.in-Some.route.now c.hop_at-hop.result c.hop_at-hop.result c.cost_of-cost.result c.leg_of-2.result
    (string_bytes c.in_ok-leg_line-2.field-0) c.in_ok-leg_line-2.ensures c.leg_of-2.ensures first refl in
    let pushed : string_bytes c.push_str-2.new.self ≡ string_bytes c.args.text.now ++ string_bytes c.in_ok-leg_line-2.field-0 = search rules in
    leads_on adverts c.args.address.0 c.args.way.most c.args.way.choices.now c.args.way.at c.args.way.paid (string_bytes c.args.text.now) (string_bytes c.push_str-2.new.self) c.in-Some.route.now
    c.hop_at-hop.result c.in-Some-next_of.next c.cost_of-cost.result (c.args.way.most - 1) c.first_of-choice.result.1.now (string_bytes c.in_ok-leg_line-2.field-0)
    (omega (arith, c.if-way-eq0.false)) (omega arith) takes c.in-Some-next_of.ensures.found c.cost_of-cost.ensures c.first_of-choice.ensures.later leg pushed
