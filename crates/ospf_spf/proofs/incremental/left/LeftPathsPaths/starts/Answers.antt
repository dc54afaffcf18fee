use Rattle.std.proofs.Common.{◌≡◌, ◌↔◌, ◌∙◌, ap, false, subst, sym, true}
use Rattle.std.specs.List.{Contains}
use Rattle.ospf_graph.specs.Search.{StartsIn}
use Rattle.ospf_graph.specs.declared.graph.Start.{Start}
use Rattle.ospf_spf.specs.IncrementalSpf.Left.{is_anew}
use Rattle.ospf_spf.proofs.IncrementalSpf.LeftLemmas.{starts_anew, starts_kept}
use Rattle.ospf_spf.proofs.incremental.left.LeftPathsPaths.starts.Goals as goal

pub returns-then-is_anew : goal.returns-then-is_anew
returns-then-is_anew c =
    let s = c.self.inside in
    let v = c.args.vertex in
    let gone = ap (λ l. is_anew s.is_all l v) c.deref.ensures.value in
    let on : is_anew s.is_all s.gone.items v ≡ true = sym gone ∙ (sym c.is_anew.ensures ∙ c.if-is_anew.true) in
    subst (λ k. (x : Start) → Contains c.starts_of.result.now x ↔ StartsIn k.starts v x) c.self.view_is
    (starts_anew s.whole.now s.less.now s.is_all s.gone.items s.own.reached.items v on c.starts_of.result.now c.starts_of.ensures)

pub returns-else-is_anew : goal.returns-else-is_anew
returns-else-is_anew c =
    let s = c.self.inside in
    let v = c.args.vertex in
    let gone = ap (λ l. is_anew s.is_all l v) c.deref.ensures.value in
    let off : is_anew s.is_all s.gone.items v ≡ false = sym gone ∙ (sym c.is_anew.ensures ∙ c.if-is_anew.false) in
    subst (λ k. (x : Start) → Contains c.starts_of-else-is_anew.result.now x ↔ StartsIn k.starts v x) c.self.view_is
    (starts_kept s.whole.now s.less.now s.is_all s.gone.items s.own.reached.items v off c.starts_of-else-is_anew.result.now c.starts_of-else-is_anew.ensures.starts)
