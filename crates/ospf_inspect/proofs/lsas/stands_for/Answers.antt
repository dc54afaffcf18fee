use Rattle.std.proofs.Common.{◌≡◌, ◌≤◌, List, ℕ, refl, ap, ◌∙◌}
use Rattle.std.proofs.lemmas.Bool.{leb-true, le-leb}
use Rattle.ospf_base.specs.Bytes.{number_at}
use Rattle.ospf_base.specs.declared.ids.LsaKey.{LsaKey}
use Rattle.ospf_graph.proofs.EdgeLists.ListedLemmas.{stands_to, stands_from, stands_none}
use Rattle.ospf_inspect.proofs.lsas.stands_for.Goals as goal

pub returns-in-Some : goal.returns-in-Some
returns-in-Some c =
    let at : c.key.result.router.0 ≡ number_at 8 4 c.in-Some.lsa.now = ap (λ (k : LsaKey). k.router.0) c.key.ensures ∙ ap (λ (l : List ℕ). number_at 8 4 l) c.view.ensures.same in (
      λ yes.
          let low : c.key.result.router.0 ≤ c.args.router.0 = leb-true c.key.result.router.0 c.args.router.0 yes in
          stands_to c.args.listing.now c.network.ensures.listing c.args.id c.args.router c.in-Some.lsa.now c.in-Some.ensures.found (rw (← at) low),
      λ stands.
          let low : number_at 8 4 c.in-Some.lsa.now ≤ c.args.router.0 =
          stands_from c.args.listing.now c.network.ensures.listing c.args.id c.args.router c.in-Some.lsa.now c.in-Some.ensures.found stands in
          le-leb c.key.result.router.0 c.args.router.0 (rw at low),
    )

pub returns-in-None : goal.returns-in-None
returns-in-None c = ((λ yes. stands_none c.args.listing.now c.network.ensures.listing c.args.id c.args.router c.in-None.ensures.none), (λ stands. refl))
