use Rattle.std.proofs.Common.{◌≡◌, ◌∙◌, List, ℕ, subst, sym, string_bytes}
use Rattle.std.proofs.lemmas.Result.{IfOk-weaker}
use Rattle.ospf_base.specs.declared.ids.Kind.{Kind}
use Rattle.ospf_base.specs.declared.ids.Kind.TheVariants as kind
use Rattle.ospf_graph.specs.EdgeLists.Listed.{advertisements_of}
use Rattle.ospf_lsa.specs.Lsa.{kind_of}
use Rattle.ospf_inspect.specs.Lsas.{SaysOfLsa, SaysOfLsaKind}
use Rattle.ospf_inspect.proofs.lsas.lsa_text.Goals as goal

pub returns-in-Network : goal.returns-in-Network
returns-in-Network c =
    let lsa = c.view-view.result in
    let is_network : kind.Network ≡ kind_of lsa = sym c.in-Network.is ∙ c.kind.ensures.value in
    IfOk-weaker c.network_text.result _ _ (λ text is. subst (λ (l : List ℕ). SaysOfLsa (advertisements_of c.args.listing.now) l (string_bytes text)) c.view-view.ensures.same
    (subst (λ (k : Kind). SaysOfLsaKind (advertisements_of c.args.listing.now) lsa k (string_bytes text)) is_network is)) c.network_text.ensures
