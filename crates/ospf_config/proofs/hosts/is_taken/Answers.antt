use Rattle.std.proofs.Common.{inl, inr}
use Rattle.std.proofs.lemmas.Bool.{iff_false}
use Rattle.toml.specs.View.{table_view}
use Rattle.ospf_config.specs.Tables.{IsAtHost, IsAtInterface}
use Rattle.ospf_config.proofs.TableLists.{any_table, any_value}
use Rattle.ospf_config.proofs.hosts.is_taken.Goals as goal

pub returns-then-is_at_any_interface : goal.returns-then-is_at_any_interface
returns-then-is_at_any_interface c =
    let t = table_view c.args.host.now in
    ((λ _. inl (any_table (IsAtInterface c.args.rfc3021 t) _ (c.is_at_any_interface.ensures.0 c.if-is_at_any_interface.true))), λ _. c.if-is_at_any_interface.true)

pub returns-else-is_at_any_interface : goal.returns-else-is_at_any_interface
returns-else-is_at_any_interface c =
    let t = table_view c.args.host.now in (
      (λ yes. inr (any_table (IsAtHost t) _ (c.is_at_any_host.ensures.0 yes))),
      λ taken. elim taken [
        | inl at ↦ absurd (iff_false c.is_at_any_interface.ensures c.if-is_at_any_interface.false (any_value (IsAtInterface c.args.rfc3021 t) _ at))
        | inr at ↦ c.is_at_any_host.ensures.1 (any_value (IsAtHost t) _ at)
      ],
    )
