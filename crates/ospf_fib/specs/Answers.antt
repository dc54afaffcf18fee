-- What a lookup answers (RFC 2328, section 11.1).
use Rattle.std.specs.Prelude.{◌≡◌, ℕ, ◌%◌, List, Contains, length, slice_get, Option, Some, MatchOption}
use Rattle.ospf_base.specs.declared.ids.Addr.{Addr}
use Rattle.ospf_base.specs.Prefixes.{Holds}
use Rattle.ospf_graph.specs.declared.route.Route.{Route}
use Rattle.ospf_graph.specs.Walk.{IsBest}
use Rattle.ospf_fib.specs.PrefixIndex.Known.{Table}
use Rattle.ospf_fib.specs.declared.answer.Answer.{Answer}
use Rattle.ospf_fib.specs.Versions.{IsLastTable}

-- no route's prefix holds the address
abbrev pub IsUnreached : Table → Addr → Type 0
IsUnreached table address =
    (route : Route) → Contains table route → Holds route.prefix address.0 → ⊥

-- the answer of a table under its version: a route of longest prefix, with the hop that the choice
-- picks
pub record IsFound (table : Table) (version : ℕ) (address : Addr) (choice : ℕ) (answer : Answer)
    : Type 0 where
  pub route : Route
  pub best : IsBest table address.0 route
  pub version_is : answer.version ≡ version
  pub prefix_is : answer.prefix ≡ route.prefix
  pub cost_is : answer.cost ≡ route.cost
  pub hops_is : answer.hops ≡ length route.hops
  pub hop_is : slice_get route.hops (choice % length route.hops) ≡ Some answer.hop

-- what a lookup in one table answers
abbrev pub IsAnswer : Table → ℕ → Addr → ℕ → Option Answer → Type 0
IsAnswer table version address choice answer =
    MatchOption answer (IsUnreached table address) (IsFound table version address choice)

-- the answer of the last of the tables
pub record IsAnswerOfLast (tables : List Table) (address : Addr) (choice : ℕ)
    (answer : Option Answer) : Type 0 where
  pub version : ℕ
  pub table : Table
  pub last : IsLastTable tables version table
  pub answers : IsAnswer table version address choice answer
