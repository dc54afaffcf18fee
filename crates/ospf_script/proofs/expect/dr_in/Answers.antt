use Rattle.ospf_script.specs.Expected.{AreElected}
use Rattle.ospf_script.specs.Words.{line_words}
use Rattle.std.proofs.Common.{subst}
use Rattle.ospf_script.proofs.Expecting.{behind_link_one, only_dr}
use Rattle.ospf_script.proofs.Plain.{finds_none}
use Rattle.ospf_script.proofs.expect.dr_in.Goals as goal

pub returns-in_err-router : goal.returns-in_err-router
returns-in_err-router c =
    let none = rw c.in_err-router.was at c.link_in.ensures.none in
    finds_none _ _ c.from_residual.ensures (only_dr _ (λ router link rest dr backup begins elected. none router link rest begins))

pub returns-in_err-dr : goal.returns-in_err-dr
returns-in_err-dr c =
    let link = rw c.in_ok-router.was at c.link_in.ensures.some in
    let none = rw c.in_err-dr.was at c.elected_in.ensures in
    finds_none _ _ c.from_residual-in_err-dr.ensures (only_dr _ (λ router number rest dr backup begins elected.
    none (dr, backup) (subst (λ ws. AreElected ws dr backup) (behind_link_one _ router c.in_ok-router.router number c.in_ok-router.link rest (line_words c.in_ok-router.rest.now) begins link) elected)))
