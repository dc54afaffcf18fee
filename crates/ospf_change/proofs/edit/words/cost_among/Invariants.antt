use Rattle.std.proofs.Common.{◌≡◌, ◌++◌}
use Rattle.ospf_change.specs.Edit.Words.{IsCostWordOf}
use Rattle.ospf_change.specs.declared.edit.change.Change.{Change}
use Rattle.ospf_change.proofs.edit.words.cost_among.Given as goal

-- the word is of no link before
abbrev pub invariant-loop-link : goal.invariant-loop-link
invariant-loop-link l = record {
  walked : l.fn.links ≡ l.yielded ++ l.link-iterator;
  none : (c : Change) → IsCostWordOf l.router l.yielded l.word c → ⊥;
}
