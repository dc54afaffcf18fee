use Rattle.std.proofs.Common.{◌∙◌, ◌++◌, ap, append-nil, flat_map, sym}
use Rattle.ospf_files.proofs.Cut.{ok_then}
use Rattle.ospf_base.specs.Sums.{contents}
use Rattle.ospf_views.proofs.SameContents.{same_in_a_row}
use Rattle.ospf_views.proofs.sight.push_listed.Goals as goal

pub returns-in-Some : goal.returns-in-Some
returns-in-Some c =
    ok_then c.push_contents.result
    (λ put. put ∙ ap (λ rest. c.args.seen.now.items ++ rest) (ap (flat_map contents) c.lsas.ensures.lsas ∙ same_in_a_row _ _ c.in-Some.ensures.same)) c.push_contents.ensures

pub returns-in-None : goal.returns-in-None
returns-in-None c =
    sym (ap (λ lsas. c.args.seen.now.items ++ flat_map contents lsas) (c.kept_listing.ensures.none c.in-None.is) ∙ append-nil _)
