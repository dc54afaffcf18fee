use Rattle.std.proofs.Common.{arith, nat_eq, refl}
use Rattle.std.specs.HashMap.{get}
use Rattle.std.proofs.lemmas.List.Sorted.{length_permutation}
use Rattle.ospf_graph.specs.Reached.{settled_of, starts_of}
use Rattle.ospf_graph.proofs.ReachedLemmas.{none_some}
use Rattle.ospf_graph.proofs.SameStarts.{tree_same}
use Rattle.ospf_graph.proofs.SearchState.{state_started, state_taken, state_tree, state_near, candidate_small, unreached_root, work_falls, work_taken}
use Rattle.ospf_graph.proofs.paths.search.Goals as goal

pub loop-candidate-init : goal.loop-candidate-init
loop-candidate-init c =
    let edges = c.args.edges.now in
    let joins = rw c.new-candidates.ensures at c.in_ok-add_candidates.ensures.joins in
    let few = rw c.new-candidates.ensures at c.in_ok-add_candidates.ensures.looks in
    record {
      state = state_started edges c.requires.fit c.args.root c.requires.root_fits _ _ _ _ _
          c.in_ok-reach_root.ensures.settled c.in_ok-reach_root.ensures.starts (λ q near is. none_some _ near (rw c.new-nearest.ensures.empty refl) is) joins;
      places = c.in_ok-reach_root.ensures.places;
      looks = rw c.in_ok-reach_root.ensures.settled (let rest = unreached_root edges c.args.root in let less = joins.few in omega (arith, few));
    }

pub take-requires-clause-near : goal.take-requires-clause-near
take-requires-clause-near c =
    let s = settled_of c.loop-candidate.reached.items in
    let b = starts_of c.loop-candidate.reached.items in
    candidate_small c.args.edges.now c.requires.fit c.args.root c.requires.root_fits s s b b (get nat_eq c.loop-candidate.nearest) (get nat_eq c.loop-candidate.nearest)
    c.loop-candidate.candidates.list c.take_least.new.self.list c.take_least.new.self.list c.in-Some.candidate c.loop-candidate.invariant.state c.in-Some.ensures.taken

pub loop-candidate-smaller : goal.loop-candidate-smaller
loop-candidate-smaller c =
    work_falls c.args.edges.now c.requires.fit c.args.root c.requires.root_fits _ _ _ _ _ _ _ _ _ c.in-Some.candidate
    c.loop-candidate.invariant.state c.in-Some.ensures.taken c.in_ok-take.ensures.taken

pub loop-candidate-preserved : goal.loop-candidate-preserved
loop-candidate-preserved c =
    record {
      state = state_taken c.args.edges.now c.requires.fit c.args.root c.requires.root_fits _ _ _ _ _ _ _ _ _ c.in-Some.candidate
          c.loop-candidate.invariant.state c.in-Some.ensures.taken c.in-Some.ensures.least c.in_ok-take.ensures.taken;
      places = c.in_ok-take.ensures.places;
      looks =
          let before = c.loop-candidate.invariant.looks in
          let one = c.in-Some.ensures.looks in
          let more = c.in_ok-take.ensures.looks in
          omega (arith, length_permutation _ _ c.in-Some.ensures.taken, work_taken c.args.edges.now _ _ _ _ _ _ _ _ c.in-Some.candidate c.in_ok-take.ensures.taken);
    }

pub returns-clause-tree : goal.returns-clause-tree
returns-clause-tree c =
    tree_same c.args.edges.now c.args.root c.loop-candidate.reached.items c.tidy_all.new.reached.items c.tidy_all.ensures.settled c.tidy_all.ensures.starts
    (state_tree c.args.edges.now c.requires.fit c.args.root _ _ _ _ c.loop-candidate.invariant.state c.in_default.ensures.none.0)

pub returns-clause-near : goal.returns-clause-near
returns-clause-near c = rw c.tidy_all.ensures.settled (state_near c.args.edges.now c.args.root _ _ _ _ c.loop-candidate.invariant.state)
