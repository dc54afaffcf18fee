-- Where tables are printed while routers run.
use Rattle.std.specs.Prelude.{ℕ, List, Option}

-- after how many ticks each table is printed, and the output so far, if it is known
pub record TablesValue : Type 0 where
  pub every : ℕ
  pub contents : Option (List ℕ)
