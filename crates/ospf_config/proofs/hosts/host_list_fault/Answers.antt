use Rattle.std.proofs.Common.{◌≡◌, length, sym, ◌∙◌, true, false, arith}
use Rattle.toml.specs.Text.{are_tables}
use Rattle.toml.specs.View.{items_view}
use Rattle.ospf_config.specs.Tables.{tables_among}
use Rattle.ospf_config.proofs.TableLists.{all_tables, length_tables}
use Rattle.ospf_config.proofs.HostLists.{hosts_no_tables, hosts_out, hosts_in}
use Rattle.ospf_config.proofs.hosts.host_list_fault.Goals as goal

pub returns-then-not-are_all_tables : goal.returns-then-not-are_all_tables
returns-then-not-are_all_tables c =
    let are : are_tables (items_view c.deref.result.now) ≡ false = sym (all_tables c.deref.result.now) ∙ sym c.are_all_tables.ensures ∙ c.if-not-are_all_tables.true in
    let here : are_tables (items_view c.in-Some-as_array.values.now.items) ≡ false = rw c.deref.ensures.value at are in
    hosts_no_tables _ _ _ c.in-Some.ensures c.in-Some-as_array.ensures here

pub returns-then-len-gt-MOST_HOSTS : goal.returns-then-len-gt-MOST_HOSTS
returns-then-len-gt-MOST_HOSTS c =
    let are : are_tables (items_view c.deref.result.now) ≡ true = sym (all_tables c.deref.result.now) ∙ sym c.are_all_tables.ensures ∙ c.if-not-are_all_tables.false in
    let here : are_tables (items_view c.in-Some-as_array.values.now.items) ≡ true = rw c.deref.ensures.value at are in
    let long : length (tables_among (items_view c.in-Some-as_array.values.now.items)) ≡ length c.in-Some-as_array.values.now.items = length_tables _ here in
    hosts_out _ _ _ c.in-Some.ensures c.in-Some-as_array.ensures here (λ few. omega (arith, long))

pub returns-else-len-gt-MOST_HOSTS : goal.returns-else-len-gt-MOST_HOSTS
returns-else-len-gt-MOST_HOSTS c =
    let are : are_tables (items_view c.deref.result.now) ≡ true = sym (all_tables c.deref.result.now) ∙ sym c.are_all_tables.ensures ∙ c.if-not-are_all_tables.false in
    let here : are_tables (items_view c.in-Some-as_array.values.now.items) ≡ true = rw c.deref.ensures.value at are in
    let long : length (tables_among (items_view c.in-Some-as_array.values.now.items)) ≡ length c.in-Some-as_array.values.now.items = length_tables _ here in
    hosts_in _ _ _ c.in-Some.ensures c.in-Some-as_array.ensures here (omega (arith, long))
