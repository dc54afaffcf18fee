use Rattle.std.proofs.Common.{◌≡◌, ◌∙◌, List, ℕ, subst, sym}
use Rattle.std.proofs.lemmas.Result.{IfOk-weaker}
use Rattle.serde_json.specs.View.{view}
use Rattle.ospf_base.specs.declared.ids.Kind.{Kind}
use Rattle.ospf_base.specs.declared.ids.Kind.TheVariants as kind
use Rattle.ospf_graph.specs.EdgeLists.Listed.{advertisements_of}
use Rattle.ospf_lsa.specs.Lsa.{kind_of}
use Rattle.ospf_inspect.specs.Values.{TellsLsa, TellsLsaKind}
use Rattle.ospf_inspect.proofs.values.lsa_value.Goals as goal

pub returns-in-Network : goal.returns-in-Network
returns-in-Network c =
    let lsa = c.view-view.result in
    let is_network : kind.Network ≡ kind_of lsa = sym c.in-Network.is ∙ c.kind.ensures.value in
    IfOk-weaker c.network_value.result _ _ (λ value is. subst (λ (l : List ℕ). TellsLsa (advertisements_of c.args.listing.now) l (view value)) c.view-view.ensures.same
    (subst (λ (k : Kind). TellsLsaKind (advertisements_of c.args.listing.now) lsa k (view value)) is_network is)) c.network_value.ensures
