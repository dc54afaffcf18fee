use Rattle.std.proofs.Common.{arith, ◌≤◌, ◌≡◌, ◌∙◌, ℕ, None, Option, Some, length, refl, sym}
use Rattle.std.proofs.lemmas.List.{take_all}
use Rattle.ospf_spf.proofs.ReachLemmas.{reach_kept, reach_more}
use Rattle.ospf_spf.proofs.routes.reaches_by.Goals.{in-Some+in_ok-push, in_default}
use Rattle.ospf_spf.proofs.routes.reaches_by.Goals as goal

none_some : (d : ℕ) → None ≡ Some d → ⊥
none_some d is = cc

same_some : (o : Option ℕ) (j k : ℕ) → o ≡ Some j → o ≡ Some k → j ≡ k
same_some o j k a b = let both : Some j ≡ Some k = sym a ∙ b in cc

pub loop-end-preserved : goal.loop-end-preserved
loop-end-preserved g c =
    let settled = (g.P.Paths.kept c.args.paths.now).settled in
    elim c.match-distance.branch [
      | in-Some+in_ok-push w ↦
          rw w.reaches-is
          (reach_more c.args.ends.now settled c.loop-end.end-index c.end-item.result c.loop-end-test.true c.loop-end.reaches.items c.loop-end.invariant
          (rw (← c.end-item.is) (λ j k p q. same_some _ j k ((w.in-Some.ensures.distance j).1 p) ((w.in-Some.ensures.distance k).1 q)))
          w.in-Some.distance (rw (← c.end-item.is) ((w.in-Some.ensures.distance w.in-Some.distance).0 refl)) w.push.new.self.items (rw (← c.end-item.is) w.in_ok-push.ensures.items))
      | in_default w ↦
          rw w.reaches-is
          (reach_kept c.args.ends.now settled c.loop-end.end-index c.end-item.result c.loop-end-test.true c.loop-end.reaches.items c.loop-end.invariant
          (rw (← c.end-item.is) (λ d at. none_some d ((w.in_default.ensures.distance d).1 at))))
    ]

pub returns : goal.returns
returns g c =
    let end : length c.args.ends.now ≤ c.loop-end.end-index = omega arith in
    rw take_all at c.loop-end.invariant
