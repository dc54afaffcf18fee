use Rattle.std.proofs.Common.{◌≡◌, take}
use Rattle.std.specs.List.{Contains}
use Rattle.ospf_base.specs.Text.{number_text}
use Rattle.ospf_base.specs.declared.ids.RouterId.{RouterId}
use Rattle.ospf_whatif.specs.declared.failure.AreaFailure.{AreaFailure}
use Rattle.ospf_whatif.specs.declared.failure.AreaFailure.TheVariants.{Router}
use Rattle.ospf_change.proofs.edit.words.find_router.Given as goal

-- the word is of no router before
abbrev pub invariant-loop-failure : goal.invariant-loop-failure
invariant-loop-failure l =
    (f : AreaFailure) → Contains (take l.failure-index l.single) f → (router : RouterId) → f ≡ Router router → number_text router.0 ≡ l.word → ⊥
