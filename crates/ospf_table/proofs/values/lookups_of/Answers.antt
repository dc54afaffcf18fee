use Rattle.std.proofs.Common.{rules, ◌≡◌, ◌≤◌, ◌++◌, ◌∷◌, List, [], arith, length, map, subst}
use Rattle.std.proofs.lemmas.List.{take_all}
use Rattle.serde_json.specs.View.{view}
use Rattle.ospf_base.specs.declared.ids.Addr.{Addr}
use Rattle.ospf_table.specs.Values.{AreFound}
use Rattle.ospf_table.proofs.ValueLemmas.{found_next}
use Rattle.ospf_table.proofs.values.lookups_of.Goals as goal

pub loop-address-preserved : goal.loop-address-preserved
loop-address-preserved c =
    let items : c.push.new.self.items ≡ c.loop-address.values.items ++ c.in_ok-lookup_value.field-0 ∷ [] = search rules in
    found_next c.args.table.now c.args.addresses.now c.loop-address.address-index _ c.loop-address.values.items c.push.new.self.items c.in_ok-lookup_value.field-0
    c.loop-address-test.true items c.loop-address.invariant c.in_ok-lookup_value.ensures

pub returns : goal.returns
returns c =
    let end : length c.args.addresses.now ≤ c.loop-address.address-index = omega (arith, c.loop-address-test.false) in
    subst (λ (front : List Addr). AreFound c.args.table.now front (map view c.loop-address.values.items)) (take_all c.loop-address.address-index c.args.addresses.now end)
    c.loop-address.invariant
