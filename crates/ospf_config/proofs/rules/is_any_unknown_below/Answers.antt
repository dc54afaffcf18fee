use Rattle.std.proofs.Common.{inl, inr}
use Rattle.std.proofs.lemmas.Bool.{iff_false}
use Rattle.ospf_config.specs.Tables.{HasOtherKey, interface_keys, host_keys}
use Rattle.ospf_config.proofs.TableLists.{any_table, any_value}
use Rattle.ospf_config.proofs.rules.is_any_unknown_below.Goals as goal

pub returns-then-has_any_unknown_key : goal.returns-then-has_any_unknown_key
returns-then-has_any_unknown_key c =
    let found = rw c.interface_names.ensures at (c.has_any_unknown_key.ensures.0 c.if-has_any_unknown_key.true) in
    let below = rw c.interface_values.ensures.tables at (any_table (HasOtherKey interface_keys) _ found) in
    ((λ _. inl below), λ _. c.if-has_any_unknown_key.true)

pub returns-else-has_any_unknown_key : goal.returns-else-has_any_unknown_key
returns-else-has_any_unknown_key c =
    let interfaces = rw c.interface_names.ensures at c.has_any_unknown_key.ensures in
    let hosts = rw c.host_names.ensures at c.has_any_unknown_key-else-has_any_unknown_key.ensures in (
      (λ yes. inr (let found = any_table (HasOtherKey host_keys) _ (hosts.0 yes) in rw c.host_values.ensures.tables at found)),
      λ other. elim other [
        | inl below ↦ absurd (iff_false interfaces c.if-has_any_unknown_key.false (any_value (HasOtherKey interface_keys) _ (rw c.interface_values.ensures.tables below)))
        | inr below ↦ hosts.1 (any_value (HasOtherKey host_keys) _ (rw c.host_values.ensures.tables below))
      ],
    )
