-- What is printed if a forwarding table was not opened, or no longer answers.
use Rattle.std.specs.Prelude.{ℕ, List, codes}

-- the name where one was not opened
abbrev pub open_refused_text : List ℕ
open_refused_text = codes "OpenRefused"

-- the name where the writer is gone
abbrev pub closed_text : List ℕ
closed_text = codes "Closed"
