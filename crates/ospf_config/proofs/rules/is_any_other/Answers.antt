use Rattle.std.proofs.Common.{List, Bor, ℕ, String, Global, map, rules, string_bytes}
use borrow.Author.Tests.{tests}
use Rattle.std.proofs.lemmas.Iterator.{cases_from_any}
use Rattle.std.proofs.lemmas.Iterator.Consumers.{YieldsList-from_first}
use Rattle.std.specs.BTreeMap.{keys}
use Rattle.ospf_config.specs.Tables.{IsOtherKey}
use Rattle.ospf_config.proofs.TableLists.{any_by}
use Rattle.ospf_config.proofs.rules.is_any_other.Goals as goal

-- the key of a map is none of the names
abbrev Other : List (Bor (List ℕ)) → String Global → Type 0
Other names k = IsOtherKey (map (λ n. n.now) names) (string_bytes k)

pub returns : goal.returns
returns c =
    any_by (Other c.args.known.now) c.any.result (keys c.args.table.now)
    (cases_from_any _ _ _ (Other c.args.known.now) (λ k. Other c.args.known.now k → ⊥) c.any.ensures.ran (YieldsList-from_first (λ k. k.now) (λ s. s) (keys c.args.table.now) c.keys.ensures.rest)
    (λ x q k. search (rules, tests)) (λ x q k. search (rules, tests)))
