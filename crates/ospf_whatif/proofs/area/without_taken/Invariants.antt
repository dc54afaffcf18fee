use Rattle.std.proofs.Common.{◌≡◌, ℕ, List, map, take}
use Rattle.std.specs.List.{AllZip, Contains}
use Rattle.ospf_lsa.specs.Lsa.{key_of}
use Rattle.ospf_graph.specs.EdgeLists.Listed.{advertisement_of}
use Rattle.ospf_whatif.specs.Failure.{IsLeftBy, IsLeftLarge, kept_links, left_of_lsa}
use Rattle.ospf_whatif.proofs.area.without_taken.Given as goal

abbrev pub invariant-loop-lsa : goal.invariant-loop-lsa
invariant-loop-lsa l = record {
  told : map advertisement_of l.left ≡ map (left_of_lsa l.inner l.failure) (map advertisement_of (take l.lsa-index l.lsa-items));
  bytes : AllZip (IsLeftBy (kept_links l.inner l.failure)) (take l.lsa-index l.lsa-items) l.left;
  small : (lsa : List ℕ) → Contains (take l.lsa-index l.lsa-items) lsa → IsLeftLarge l.inner l.failure (advertisement_of lsa) → ⊥;
  keys : map key_of l.left ≡ map key_of (take l.lsa-index l.lsa-items);
}
