use Rattle.std.proofs.Common.{[], get_or}
use Rattle.std.proofs.lemmas.List.{get_or_default}
use Rattle.ospf_lsa.proofs.listing.place_of.Goals as goal

pub returns-in-Ok-clause-taken : goal.returns-in-Ok-clause-taken
returns-in-Ok-clause-taken c =
    let at = c.in-Ok.field-0 in
    let x = get_or c.args.lsas.now at [] in
    (at, x, c.in-Ok.ensures.found.0, get_or_default c.args.lsas.now at x [] c.in-Ok.ensures.found.0, c.in-Ok.ensures.found.1 [])
