use Rattle.std.proofs.Common.{rules, ◌≡◌, codes}
use Rattle.ospf_script.proofs.Expecting.{neighbour_is_not_route, only_absent}
use Rattle.ospf_script.proofs.Plain.{finds_none}
use Rattle.ospf_script.proofs.expect.absent_in.Goals as goal

pub returns-in_err-prefix : goal.returns-in_err-prefix
returns-in_err-prefix c =
    let three = rw c.in_ok-word.was at c.three_words.ensures.some in
    let none = rw c.in_err-prefix.was at c.prefix_of.ensures in
    let route : c.in_ok-word.word.now ≡ codes "route" = search rules in
    finds_none _ _ c.from_residual-in_err-prefix.ensures
    (rw three (only_absent _ _ _ (λ router prefix word own spelled. none prefix spelled) (λ router link word own spelled. neighbour_is_not_route _ word route)))
