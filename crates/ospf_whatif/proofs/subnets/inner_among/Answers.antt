use Rattle.std.proofs.Common.{rules, ◌++◌, ◌∷◌, [], List, ap, ◌∙◌}
use Rattle.std.proofs.lemmas.Fn.{filter_same}
use Rattle.ospf_lsa.specs.declared.link.Link.{Link}
use Rattle.std.specs.List.{filter}
use Rattle.ospf_whatif.specs.Subnets.{indices, is_inside}
use Rattle.ospf_whatif.proofs.SubnetLemmas.{is_inner}
use Rattle.ospf_whatif.proofs.subnets.inner_among.Goals as goal

pub returns : goal.returns
returns c =
    let test = is_inner c.args.subnet c.args.a c.args.b c.args.mine.now c.args.theirs.now in
    c.in_ok-push_indices.ensures ∙ ap (λ (l : List Link). l ++ filter (is_inside c.args.subnet) (indices ∷ []))
    (filter_same _ test _ (λ x b f' k. search rules) _ _ c.retain.ensures.filtered ∙ ap (filter test) c.in_ok-inner.ensures.items)
