use Rattle.std.proofs.Common.{inl, inr, refl, sym, subst, ◌∙◌}
use Rattle.ospf_graph.specs.Reached.{starts_of}
use Rattle.ospf_graph.specs.Search.{BringsStarts}
use Rattle.ospf_graph.proofs.ReachedLemmas.{fresh_at, settled_at}
use Rattle.ospf_graph.proofs.paths.take.Goals as goal

pub returns-in_ok-bring-in-None-clause-taken : goal.returns-in_ok-bring-in-None-clause-taken
returns-in_ok-bring-in-None-clause-taken c =
    inl (record {
      fresh = fresh_at _ c.args.reached.now.items c.requires.places c.args.candidate.edge.to (sym c.place_of.ensures ∙ c.in-None.is);
      settled_is = c.in_ok-bring-in-None.ensures.settled ∙ c.in_ok-reach-in-None.ensures.settled;
      candidates_are = c.in_ok-add_candidates-in-None.ensures.joins;
      brings = subst (λ l. BringsStarts c.args.candidate.edge l (starts_of c.bring.new.reached.items)) c.in_ok-reach-in-None.ensures.starts c.in_ok-bring-in-None.ensures.starts;
    })

pub returns-in_ok-bring-in-Some-clause-taken : goal.returns-in_ok-bring-in-Some-clause-taken
returns-in_ok-bring-in-Some-clause-taken c =
    inr (record {
      near = c.index.result.now.distance;
      at = settled_at _ c.args.reached.now.items c.requires.places c.args.candidate.edge.to c.in-Some.to (sym c.place_of.ensures ∙ c.in-Some.is) c.index.result.now c.index.ensures;
      settled_is = c.in_ok-bring-in-Some.ensures.settled;
      candidates_is = refl;
      nearest_is = refl;
      brings = inl (c.if-index-candidate.true, c.in_ok-bring-in-Some.ensures.starts);
    })

pub returns-else-index-candidate-clause-taken : goal.returns-else-index-candidate-clause-taken
returns-else-index-candidate-clause-taken c =
    inr (record {
      near = c.index.result.now.distance;
      at = settled_at _ c.args.reached.now.items c.requires.places c.args.candidate.edge.to c.in-Some.to (sym c.place_of.ensures ∙ c.in-Some.is) c.index.result.now c.index.ensures;
      settled_is = refl;
      candidates_is = refl;
      nearest_is = refl;
      brings = inr (c.if-index-candidate.false, refl);
    })
