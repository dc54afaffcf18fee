use Rattle.std.proofs.Common.{◌≡◌, sym, ◌∙◌, true, false}
use Rattle.toml.specs.Text.{are_tables}
use Rattle.toml.specs.View.{items_view}
use Rattle.ospf_config.proofs.TableLists.{all_tables, list_tables, list_none}
use Rattle.ospf_config.proofs.faults.tables_at.Goals as goal

pub returns-then-are_all_tables-clause-tables : goal.returns-then-are_all_tables-clause-tables
returns-then-are_all_tables-clause-tables c =
    let are : are_tables (items_view c.deref.result.now) ≡ true = sym (all_tables c.deref.result.now) ∙ sym c.are_all_tables.ensures ∙ c.if-are_all_tables.true in
    let here : are_tables (items_view c.in-Some-as_array.values.now.items) ≡ true = rw c.deref.ensures.value at are in
    rw c.deref-then-are_all_tables.ensures.value (list_tables _ _ _ c.in-Some.ensures c.in-Some-as_array.ensures here)

pub returns-else-are_all_tables-clause-tables : goal.returns-else-are_all_tables-clause-tables
returns-else-are_all_tables-clause-tables c =
    let are : are_tables (items_view c.deref.result.now) ≡ false = sym (all_tables c.deref.result.now) ∙ sym c.are_all_tables.ensures ∙ c.if-are_all_tables.false in
    let here : are_tables (items_view c.in-Some-as_array.values.now.items) ≡ false = rw c.deref.ensures.value at are in
    list_none _ _ _ c.in-Some.ensures c.in-Some-as_array.ensures here
