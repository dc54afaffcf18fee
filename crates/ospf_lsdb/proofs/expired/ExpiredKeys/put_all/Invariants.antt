use Rattle.std.proofs.Common.{◌≡◌, ◌+◌, ◌≤◌, ◌++◌, ◌||◌, length}
use Rattle.ospf_base.specs.Rising.{IsRisingBy}
use Rattle.ospf_base.specs.Keys.{Precedes}
use Rattle.ospf_base.specs.declared.ids.LsaKey.{LsaKey}
use Rattle.ospf_lsdb.specs.Moments.{among}
use Rattle.ospf_lsdb.proofs.expired.ExpiredKeys.put_all.Given as goal

abbrev pub invariant-loop-key : goal.invariant-loop-key
invariant-loop-key l = record {
  walked : l.fn.keys ≡ l.yielded ++ l.key-iterator;
  keys : (k : LsaKey) → among l.self.keys k ≡ (among l.yielded k || among l.fn.self.keys k);
  rising : IsRisingBy Precedes l.self.keys;
  fits : length l.self.keys + length l.key-iterator ≤ l.self.room;
  room : l.fn.self.room ≤ l.self.room;
}
