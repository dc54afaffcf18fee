use Rattle.std.proofs.Common.{rules, ◌≡◌, ◌≤◌, ◌++◌, List, [], length, subst, sym, arith, string_bytes}
use Rattle.std.proofs.lemmas.List.{take_all}
use Rattle.ospf_base.specs.declared.ids.Addr.{Addr}
use Rattle.ospf_table.specs.Output.{AreLookups, no_more}
use Rattle.ospf_table.proofs.Looked.{next_lookup}
use Rattle.ospf_table.proofs.output.lookups_text.Goals as goal

pub loop-address-init : goal.loop-address-init
loop-address-init c = subst (AreLookups c.args.table.now []) (sym (search (rules, c.new-text.ensures.bytes))) no_more

pub loop-address-preserved : goal.loop-address-preserved
loop-address-preserved c =
    let text : string_bytes c.push_str.new.self ≡ string_bytes c.loop-address.text ++ string_bytes c.in_ok-line.line = search rules in
    next_lookup c.args.table.now c.args.addresses.now c.loop-address.address-index _ (string_bytes c.loop-address.text) (string_bytes c.in_ok-line.line)
    (string_bytes c.push_str.new.self) c.loop-address-test.true text c.loop-address.invariant c.in_ok-line.ensures

pub returns : goal.returns
returns c =
    let end : length c.args.addresses.now ≤ c.loop-address.address-index = omega (arith, c.loop-address-test.false) in
    subst (λ (front : List Addr). AreLookups c.args.table.now front (string_bytes c.loop-address.text)) (take_all c.loop-address.address-index c.args.addresses.now end)
    c.loop-address.invariant
