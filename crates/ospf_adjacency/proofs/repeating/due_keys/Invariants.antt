use Rattle.std.proofs.Common.{◌≡◌, take}
use Rattle.std.specs.BTreeSet.{IsOrdered}
use Rattle.std.specs.List.{list_any}
use Rattle.ospf_base.specs.declared.ids.LsaKey.{LsaKey}
use Rattle.ospf_base.specs.Keys.{key_cmp}
use Rattle.ospf_lsdb.specs.Moments.{among}
use Rattle.ospf_adjacency.proofs.DueLemmas.{is_due_of}
use Rattle.ospf_adjacency.proofs.repeating.due_keys.Given as goal

-- the keys of those that are due so far
abbrev pub invariant-loop-listed : goal.invariant-loop-listed
invariant-loop-listed l = record {
  whole : (q : LsaKey) → among l.keys.keys q ≡ list_any (is_due_of l.retransmit l.tick l.database q) (take l.listed-index l.listed-items);
  ordered : IsOrdered key_cmp l.keys;
}
