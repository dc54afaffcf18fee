use Rattle.std.proofs.Common.{map}
use Rattle.ospf_config.specs.Tables.{IsOtherKey}
use Rattle.ospf_config.proofs.KeyLists.{key_of_members, key_of_map}
use Rattle.ospf_config.proofs.rules.has_other_key.Goals as goal

pub returns : goal.returns
returns c =
    let P = IsOtherKey (map (λ k. k.now) c.args.known.now) in (
      (λ yes. key_of_members P c.args.table.now.entries (c.is_any_other.ensures.0 yes)),
      λ has. c.is_any_other.ensures.1 (key_of_map P c.args.table.now.entries has),
    )
