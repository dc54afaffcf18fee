use Rattle.std.proofs.Common.{◌≡◌, ◌≤◌, ◌∙◌, ℕ, List, Global, Vec, ap, arith, filter, length, map, subst, sym, take}
use Rattle.std.proofs.lemmas.List.{take_all}
use Rattle.serde_json.proofs.Views.{view-Array}
use Rattle.serde_json.specs.View.{view}
use Rattle.serde_json.specs.declared.value.Value.{Value}
use Rattle.ospf_base.specs.declared.ids.LsaKey.{LsaKey}
use Rattle.ospf_graph.specs.EdgeLists.Listed.{advertisements_of}
use Rattle.ospf_lsa.specs.Lsa.{key_of, kind_of}
use Rattle.ospf_inspect.specs.Json.{AreValues}
use Rattle.ospf_inspect.specs.Tables.{TellsRoot, TellsRootOf, is_router}
use Rattle.ospf_inspect.proofs.ValueLemmas.{left_next, none_yet, passed_next}
use Rattle.ospf_inspect.proofs.tables.tables_value.Goals as goal
use Rattle.ospf_inspect.proofs.tables.tables_value.Goals.{in-Router+in_ok-root_value-in-Router+in_ok-push-in-Router, in-Network}

pub returns : goal.returns
returns c =
    let end : length c.lsas-lsa-items.result.now ≤ c.loop-lsa.lsa-index = omega (arith, c.loop-lsa-test.false) in
    let all : take c.loop-lsa.lsa-index c.lsas-lsa-items.result.now ≡ c.args.listing.now = take_all c.loop-lsa.lsa-index c.lsas-lsa-items.result.now end ∙ c.lsas-lsa-items.ensures.lsas in (
      map view c.loop-lsa.items.items,
      subst (λ (xs : List (List ℕ)). AreValues (TellsRootOf (advertisements_of c.args.listing.now)) (filter (λ lsa. is_router (kind_of lsa)) xs) (map view c.loop-lsa.items.items)) all c.loop-lsa.invariant,
      view-Array c.loop-lsa.items,
    )

pub loop-lsa-init : goal.loop-lsa-init
loop-lsa-init c = none_yet (TellsRootOf (advertisements_of c.args.listing.now)) c.new-items.result.items c.new-items.ensures.items

pub loop-lsa-preserved : goal.loop-lsa-preserved
loop-lsa-preserved c =
    let key : c.key-key.result ≡ key_of c.lsa-item.result = c.key-key.ensures ∙ ap key_of c.view.ensures.same in
    elim c.match-key.branch [
      | in-Router+in_ok-root_value-in-Router+in_ok-push-in-Router w ↦
          passed_next (TellsRootOf (advertisements_of c.args.listing.now)) (λ lsa. is_router (kind_of lsa)) c.lsas-lsa-items.result.now c.loop-lsa.lsa-index c.lsa-item.result
          c.loop-lsa-test.true c.lsa-item.is c.loop-lsa.items.items c.match-key.items.items _
          (ap (λ (k : LsaKey). is_router k.kind) (sym key) ∙ ap is_router w.in-Router.is)
          (ap (λ (v : Vec Value Global). v.items) w.items-is ∙ w.in_ok-push-in-Router.ensures.items) c.loop-lsa.invariant
          (subst (λ (k : LsaKey). TellsRoot (advertisements_of c.args.listing.now) k.router.0 (view w.in_ok-root_value-in-Router.field-0)) key w.in_ok-root_value-in-Router.ensures)
      | in-Network w ↦
          left_next (TellsRootOf (advertisements_of c.args.listing.now)) (λ lsa. is_router (kind_of lsa)) c.lsas-lsa-items.result.now c.loop-lsa.lsa-index c.lsa-item.result
          c.loop-lsa-test.true c.lsa-item.is c.loop-lsa.items.items c.match-key.items.items
          (ap (λ (k : LsaKey). is_router k.kind) (sym key) ∙ ap is_router w.in-Network.is) (ap (λ (v : Vec Value Global). v.items) w.items-is) c.loop-lsa.invariant
    ]
