use Rattle.std.proofs.Common.{◌≡◌, ◌-◌, length, Some, slice_get, ap, sym, ◌∙◌, subst}
use Rattle.ospf_fib.specs.Versions.{found_of}
use Rattle.ospf_fib.proofs.Lists.{ends_with}
use Rattle.ospf_fib.proofs.publisher.OpenPublisher.shown.Goals as goal

pub returns : goal.returns
returns c =
    let shown = c.published.result.now in
    let tables = shown.known.tables in
    let live = ap (λ s. s.live) c.published.ensures ∙ c.self.invariant.1.0 in
    let last : slice_get tables (length tables - 1) ≡ Some shown.table = subst (λ b. found_of b shown.table tables ≡ Some shown.table) live shown.ends in
    let e = ends_with tables shown.table last in
    let same = ap (λ s. s.known) c.published.ensures ∙ c.self.invariant.1.1 ∙ ap (λ o. o.list) c.self.view_is in
    (e.0, sym (ap (λ k. k.tables) same) ∙ e.1)
