-- Parts of definitions of specs/ by names of their own, for the proofs.
use Rattle.std.specs.Prelude.{ℕ, ◌<◌, ◌≤◌, length, Bool, not, List, Option, find, option_map}
use Rattle.std.specs.List.{AllWithin, list_any}
use Rattle.ospf_base.specs.declared.ids.Instance.{Instance}
use Rattle.ospf_base.specs.declared.ids.LsaKey.{LsaKey}
use Rattle.ospf_lsa.specs.declared.header.LsaHeader.{LsaHeader}
use Rattle.ospf_neighbour.specs.Lists.{is_header_of}
use Rattle.ospf_base.specs.Keys.{same_key}
use Rattle.ospf_neighbour.specs.Neighbour.{NeighbourValue}
use Rattle.ospf_neighbour.specs.declared.neighbour.Listed.{Listed}

-- the header that is not of the key's LSA
abbrev pub is_of_other : LsaKey → LsaHeader → Bool
is_of_other key h = not (is_header_of key h)

-- a header of the key is on the list
abbrev pub is_requested : LsaKey → List LsaHeader → Bool
is_requested key hs = list_any (is_header_of key) hs

-- the entry is of the key
abbrev pub is_of_key : LsaKey → Listed → Bool
is_of_key key l = same_key l.instance.key key

-- `at` is the place of the first neighbour that has no lower Router ID, or the end
pub record IsNeighbourPlace (ns : List NeighbourValue) (q : ℕ) (at : ℕ) : Type 0 where
  pub within : at ≤ length ns
  pub before : AllWithin (λ n. n.router.0 < q) ns 0 at
  pub from : AllWithin (λ n. q ≤ n.router.0) ns at (length ns)

-- the first instance of the key
abbrev pub instance_of : LsaKey → List Listed → Option Instance
instance_of key ls = option_map (λ l. l.instance) (find (is_of_key key) ls)
