use Rattle.ospf_files.proofs.Cut.{err_then}
use Rattle.ospf_files.proofs.Written.{whatever}
use Rattle.ospf_views.specs.Shown.{heading, view_lines}
use Rattle.ospf_views.proofs.HeadedTexts.{below_begun, line_begun}
use Rattle.ospf_views.proofs.headed.write_shown.Goals as goal

pub returns-in_err-write_heading-clause-begun : goal.returns-in_err-write_heading-clause-begun
returns-in_err-write_heading-clause-begun g c =
    whatever _ (line_begun c.args.is_labelled (heading c.args.shown.0 c.args.shown.1) (view_lines c.args.shown.0 c.args.router.now) _ _ c.if-not-is_labelled.false c.in_err-write_heading.ensures.begun)

pub returns-clause-begun : goal.returns-clause-begun
returns-clause-begun g c =
    err_then c.write_view-2.result
    (λ begun. below_begun c.args.is_labelled (heading c.args.shown.0 c.args.shown.1) (view_lines c.args.shown.0 c.args.router.now) _ _ _ c.if-not-is_labelled.false c.in_ok-write_heading.ensures.written begun)
    c.write_view-2.ensures.begun
