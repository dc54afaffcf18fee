use Rattle.std.proofs.Common.{◌≡◌, length, sym, ◌∙◌, true, false, arith}
use Rattle.std.proofs.lemmas.Bool.{iff_false}
use Rattle.toml.specs.Text.{are_tables}
use Rattle.toml.specs.View.{items_view}
use Rattle.ospf_config.specs.Keys.{IsActive}
use Rattle.ospf_config.specs.Tables.{tables_among}
use Rattle.ospf_config.proofs.PassiveLists.{active_some, some_active}
use Rattle.ospf_config.proofs.TableLists.{all_tables, any_table, any_value, length_tables, list_no_tables, list_out, list_in}
use Rattle.ospf_config.proofs.faults.list_fault.Goals as goal

pub returns-then-not-are_all_tables : goal.returns-then-not-are_all_tables
returns-then-not-are_all_tables c =
    let are : are_tables (items_view c.deref.result.now) ≡ false = sym (all_tables c.deref.result.now) ∙ sym c.are_all_tables.ensures ∙ c.if-not-are_all_tables.true in
    let here : are_tables (items_view c.in-Some-as_array.values.now.items) ≡ false = rw c.deref.ensures.value at are in
    list_no_tables _ _ _ c.in-Some.ensures c.in-Some-as_array.ensures here

pub returns-then-not-is_any_active : goal.returns-then-not-is_any_active
returns-then-not-is_any_active c =
    let are : are_tables (items_view c.deref.result.now) ≡ true = sym (all_tables c.deref.result.now) ∙ sym c.are_all_tables.ensures ∙ c.if-not-are_all_tables.false in
    let here : are_tables (items_view c.in-Some-as_array.values.now.items) ≡ true = rw c.deref.ensures.value at are in
    let none = rw c.deref-in-Some-as_array.ensures.value at (iff_false c.is_any_active.ensures c.if-not-is_any_active.true) in
    list_out _ _ _ c.in-Some.ensures c.in-Some-as_array.ensures here (λ low high. none (any_value IsActive _ (active_some _ low)))

pub returns-then-len-gt-MOST_INTERFACES : goal.returns-then-len-gt-MOST_INTERFACES
returns-then-len-gt-MOST_INTERFACES c =
    let are : are_tables (items_view c.deref.result.now) ≡ true = sym (all_tables c.deref.result.now) ∙ sym c.are_all_tables.ensures ∙ c.if-not-are_all_tables.false in
    let here : are_tables (items_view c.in-Some-as_array.values.now.items) ≡ true = rw c.deref.ensures.value at are in
    let long : length (tables_among (items_view c.in-Some-as_array.values.now.items)) ≡ length c.in-Some-as_array.values.now.items = length_tables _ here in
    list_out _ _ _ c.in-Some.ensures c.in-Some-as_array.ensures here (λ low high. omega (arith, long))

pub returns-else-len-gt-MOST_INTERFACES : goal.returns-else-len-gt-MOST_INTERFACES
returns-else-len-gt-MOST_INTERFACES c =
    let are : are_tables (items_view c.deref.result.now) ≡ true = sym (all_tables c.deref.result.now) ∙ sym c.are_all_tables.ensures ∙ c.if-not-are_all_tables.false in
    let here : are_tables (items_view c.in-Some-as_array.values.now.items) ≡ true = rw c.deref.ensures.value at are in
    let long : length (tables_among (items_view c.in-Some-as_array.values.now.items)) ≡ length c.in-Some-as_array.values.now.items = length_tables _ here in
    let some = rw c.deref-in-Some-as_array.ensures.value at (c.is_any_active.ensures.0 c.if-not-is_any_active.false) in
    list_in _ _ _ c.in-Some.ensures c.in-Some-as_array.ensures here (some_active _ (any_table IsActive _ some)) (omega (arith, long))
