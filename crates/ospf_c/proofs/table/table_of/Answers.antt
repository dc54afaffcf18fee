use Rattle.std.proofs.Common.{rules, ◌∙◌, List, subst, string_bytes}
use Rattle.ospf_base.specs.declared.ids.Addr.{Addr}
use Rattle.ospf_table.specs.Output.{IsOutput, IsTableWarning}
use Rattle.ospf_c.specs.Tables.{of_table}
use Rattle.ospf_c.proofs.table.table_of.Goals as goal

pub returns : goal.returns
returns c = λ bytes reads. of_table (record {
  listing = c.args.listing.now;
  reads = reads;
  table = c.in_ok-table.table;
  is_table = c.in_ok-table.ensures;
  warned = subst (λ (a : List Addr). IsTableWarning c.args.listing.now c.args.root c.in_ok-table.table a (string_bytes c.in_ok-warnings.warnings))
      (c.deref.ensures.value ∙ c.in_ok-addresses.ensures) c.in_ok-warnings.ensures;
  output = subst (λ (a : List Addr). IsOutput c.in_ok-table.table a (string_bytes c.in_ok-text.text))
      (c.deref-2.ensures.value ∙ c.in_ok-addresses.ensures) c.in_ok-text.ensures;
}) (search rules)
