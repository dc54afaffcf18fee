use Rattle.std.proofs.Common.{rules}
use Rattle.ospf_area.proofs.Updates.PassLemmas.{acknowledged, left_alone}
use Rattle.ospf_area.proofs.update.updates.pass_over.Goals.{else-area-via-then-area+then-is_taken+else-is_other_lsa, else-area-via-then-area+else-is_taken, else-area-via-else-area}
use Rattle.ospf_area.proofs.update.updates.pass_over.Goals as goal

pub returns-in_ok-push : goal.returns-in_ok-push
returns-in_ok-push c = acknowledged c.args.area.now.passes_over c.args.from c.args.bytes.now c.args.area.now _ (search rules) (search rules) (search rules) (search rules)

pub returns-else-area : goal.returns-else-area
returns-else-area c = left_alone c.args.area.now.passes_over c.args.from c.args.bytes.now c.args.area.now (λ passes taken other. elim c.else-area.branch [
  | else-area-via-then-area+then-is_taken+else-is_other_lsa w ↦ search rules
  | else-area-via-then-area+else-is_taken w ↦ search rules
  | else-area-via-else-area w ↦ search rules
])
