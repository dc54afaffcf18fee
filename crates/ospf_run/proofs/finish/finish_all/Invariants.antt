use Rattle.std.proofs.Common.{drop, take}
use Rattle.ospf_run.specs.Runs.{AreOutcomes, RoutersRan, Terms}
use Rattle.ospf_run.proofs.finish.finish_all.Given as goal

-- the outcomes so far, and those whose outcome is not known yet
abbrev pub invariant-loop-place : goal.invariant-loop-place
invariant-loop-place g l = record {
  some : (terms : Terms) × RoutersRan g.M.Machine.rules terms (drop l.place l.configs) l.driven.rest.items l.seats.rest.items;
  so_far : (terms : Terms) → RoutersRan g.M.Machine.rules terms l.fn.configs l.fn.driven.items l.fn.seats.items
      → RoutersRan g.M.Machine.rules terms (drop l.place l.configs) l.driven.rest.items l.seats.rest.items
      × AreOutcomes g.M.Machine.rules l.lookup terms (take l.place l.files) (take l.place l.configs) l.outcomes.items;
}
