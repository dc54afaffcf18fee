use Rattle.std.proofs.Common.{sym, ◌∙◌}
use Rattle.std.proofs.lemmas.Bool.{false≢true}
use Rattle.ospf_files.specs.Explained.{told, not_told}
use Rattle.ospf_files.proofs.PlaceLists.{adds_nothing, adds_one}
use Rattle.ospf_files.proofs.places.add_where.Goals as goal

pub returns-in_ok-push : goal.returns-in_ok-push
returns-in_ok-push c = rw c.in_ok-push.ensures.items (adds_one _ _ _ (told c.if-holds.true c.in_ok-key_of.ensures))

pub returns-else-holds : goal.returns-else-holds
returns-else-holds c = adds_nothing _ _ (not_told (λ yes. false≢true (sym c.if-holds.false ∙ yes)))
