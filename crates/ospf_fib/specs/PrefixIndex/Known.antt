-- What is known of the published tables of one forwarding table.
use Rattle.std.specs.Prelude.{ℕ, List, [], ◌∷◌}
use Rattle.logbook.specs.Pages.{Book}
use Rattle.ospf_graph.specs.declared.route.Route.{Route}

-- what is published as a table: routes
abbrev pub Table : Type 0
Table = List Route

-- the list at the start: the empty opening table, which is version 0
abbrev pub opening : List Table
opening = [] ∷ []

-- which forwarding table it is, and the tables that are known to be
-- published there, version by version
pub record Known : Type 0 where
  pub fib : Book
  pub tables : List Table

-- the whole of it, and the steps that the list counts: how often it was opened, got a table or
-- was closed
pub record WholeList : Type 0 where
  pub known : Known
  pub steps : ℕ
