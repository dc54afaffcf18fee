use Rattle.std.proofs.Common.{◌≡◌, ℕ, List, map, take}
use Rattle.std.specs.List.{AllZip, Contains}
use Rattle.ospf_lsa.specs.Lsa.{key_of}
use Rattle.ospf_graph.specs.EdgeLists.Listed.{advertisement_of}
use Rattle.ospf_whatif.specs.Failure.{IsLeftBy}
use Rattle.ospf_change.specs.Edit.Change.{IsChangedLarge, changed_lsa, priced_links}
use Rattle.ospf_change.proofs.edit.applied.priced.Given as goal

abbrev pub invariant-loop-lsa : goal.invariant-loop-lsa
invariant-loop-lsa l = record {
  told : map advertisement_of l.new ≡ map (changed_lsa (priced_links l.change)) (map advertisement_of (take l.lsa-index l.lsa-items));
  bytes : AllZip (IsLeftBy (priced_links l.change)) (take l.lsa-index l.lsa-items) l.new;
  small : (lsa : List ℕ) → Contains (take l.lsa-index l.lsa-items) lsa → IsChangedLarge (priced_links l.change) (advertisement_of lsa) → ⊥;
  keys : map key_of l.new ≡ map key_of (take l.lsa-index l.lsa-items);
}
