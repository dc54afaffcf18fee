use Rattle.std.proofs.Common.{◌<◌, IfSome}
use Rattle.ospf_table.proofs.Lines.{CountsTo, LeadsTo}
use Rattle.ospf_table.proofs.table.read_entries.Given as goal

abbrev pub invariant-loop-number : goal.invariant-loop-number
invariant-loop-number g l = record {
  reads : IfSome (g.R.Read.remaining l.fn.input) (λ whole. LeadsTo whole (g.R.Read.remaining l.input) l.entries l.number);
  counts : IfSome (g.R.Read.remaining l.fn.input) (λ whole. CountsTo whole (g.R.Read.remaining l.input) l.left_out);
  fewer : l.left_out < l.number;
}
