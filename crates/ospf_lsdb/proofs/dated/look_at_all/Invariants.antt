use Rattle.std.proofs.Common.{◌≡◌, ◌++◌, length, option_map, if◌then◌else◌}
use Rattle.std.specs.BTreeMap.{IsOrdered}
use Rattle.ospf_base.specs.declared.ids.LsaKey.{LsaKey}
use Rattle.ospf_base.specs.Keys.{key_cmp}
use Rattle.ospf_lsdb.specs.Moments.{among}
use Rattle.ospf_lsdb.specs.Timers.{stored_of, timer_stopped}
use Rattle.ospf_lsdb.proofs.dated.look_at_all.Given as goal

abbrev pub invariant-loop-key : goal.invariant-loop-key
invariant-loop-key l = record {
  walked : l.fn.keys ≡ l.yielded ++ l.key-iterator;
  looks : l.looks ≡ length l.yielded;
  entry : (q : LsaKey) → stored_of l.entries.entries q ≡ (if among l.yielded q then option_map timer_stopped (stored_of l.fn.entries.entries q) else stored_of l.fn.entries.entries q);
  ordered : IsOrdered key_cmp l.entries;
}
