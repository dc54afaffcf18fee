use Rattle.std.proofs.Common.{◌≡◌, ◌↔◌, ◌∙◌, ℕ, Some, nat_eq, ap, false, subst, sym, true}
use Rattle.std.specs.HashMap.{get}
use Rattle.ospf_graph.specs.Search.{AtIn}
use Rattle.ospf_spf.specs.IncrementalSpf.Left.{is_anew}
use Rattle.ospf_spf.proofs.IncrementalSpf.KeptGrowth.{told_distance}
use Rattle.ospf_spf.proofs.IncrementalSpf.LeftLemmas.{distance_anew, distance_kept}
use Rattle.ospf_spf.proofs.incremental.left.LeftPathsPaths.distance.Goals as goal

pub returns-then-is_anew-clause-distance : goal.returns-then-is_anew-clause-distance
returns-then-is_anew-clause-distance c =
    let s = c.self.inside in
    let v = c.args.vertex in
    let gone = ap (λ l. is_anew s.is_all l v) c.deref.ensures.value in
    let on : is_anew s.is_all s.gone.items v ≡ true = sym gone ∙ (sym c.is_anew.ensures ∙ c.if-is_anew.true) in
    subst (λ k. (d : ℕ) → (c.distance_of.result ≡ Some d) ↔ AtIn k.settled v d) c.self.view_is
    (distance_anew s.whole.now s.less.now s.is_all s.gone.items s.own.reached.items v on c.distance_of.result
    (told_distance (get nat_eq s.own.places) s.own.reached.items c.self.invariant.places v c.distance_of.result c.distance_of.ensures.some c.distance_of.ensures.none))

pub returns-else-is_anew-clause-distance : goal.returns-else-is_anew-clause-distance
returns-else-is_anew-clause-distance c =
    let s = c.self.inside in
    let v = c.args.vertex in
    let gone = ap (λ l. is_anew s.is_all l v) c.deref.ensures.value in
    let off : is_anew s.is_all s.gone.items v ≡ false = sym gone ∙ (sym c.is_anew.ensures ∙ c.if-is_anew.false) in
    subst (λ k. (d : ℕ) → (c.distance_of-else-is_anew.result ≡ Some d) ↔ AtIn k.settled v d) c.self.view_is
    (distance_kept s.whole.now s.less.now s.is_all s.gone.items s.own.reached.items v off c.distance_of-else-is_anew.result c.distance_of-else-is_anew.ensures.distance)
