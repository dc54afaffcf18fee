use Rattle.std.proofs.Common.{◌≡◌, ◌+◌, ◌*◌, ◌≤◌, take, sum}
use Rattle.ospf_base.specs.Sums.{weighted_sum}
use Rattle.ospf_base.proofs.sums.add_few.Given as goal

abbrev pub invariant-loop-byte : goal.invariant-loop-byte
invariant-loop-byte l = record {
  plain : l.plain ≡ l.fn.start.plain + sum (take l.byte-index l.bytes);
  weighted : l.weighted ≡ l.fn.start.weighted + l.byte-index * l.fn.start.plain + weighted_sum (take l.byte-index l.bytes);
  plain_low : l.plain ≤ 254 + 255 * l.byte-index;
  weighted_low : l.weighted ≤ 254 + 1044734 * l.byte-index;
}
