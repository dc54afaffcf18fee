-- What one listing has that another has not.
use Rattle.std.specs.Prelude.{Bool, List, ℕ, Option, None, Some, find, not, option_map}
use Rattle.std.specs.List.{list_any}
use Rattle.ospf_base.specs.Instances.{same_instance}
use Rattle.ospf_base.specs.declared.ids.Instance.{Instance}
use Rattle.ospf_lsa.specs.Lsa.{instance_of}
use Rattle.ospf_journal.specs.declared.differs.Difference.{Difference}
use Rattle.ospf_journal.specs.declared.differs.Difference.TheVariants.{Lacks, Lists}

-- an LSA of the instance is among these
abbrev pub lists_instance : List (List ℕ) → Instance → Bool
lists_instance lsas i = list_any (λ l. same_instance (instance_of l) i) lsas

-- the first instance that one of these LSAs has, and none of the others
abbrev pub first_extra : List (List ℕ) → List (List ℕ) → Option Instance
first_extra lsas others =
    option_map instance_of (find (λ l. not (lists_instance others (instance_of l))) lsas)

-- what is missing comes before what is more
abbrev pub difference_by : (missing more : Option Instance) → Option Difference
difference_by (Some i) more = Some (Lacks i)
difference_by None (Some i) = Some (Lists i)
difference_by None None = None

-- the first LSA of mine that is not among theirs; else the first of theirs that is not among mine
abbrev pub difference_between : (mine theirs : List (List ℕ)) → Option Difference
difference_between mine theirs = difference_by (first_extra mine theirs) (first_extra theirs mine)
