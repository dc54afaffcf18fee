use Rattle.std.proofs.Common.{subst}
use Rattle.ospf_graph.specs.Search.{AtIn}
use Rattle.std.proofs.lemmas.List.Sorted.{Contains-permutation, IsPermutation-sym}
use Rattle.ospf_spf.proofs.TableOf.{table_is}
use Rattle.ospf_spf.proofs.routes.table_of.Goals as goal

pub reaches_of-requires-clause-one : goal.reaches_of-requires-clause-one
reaches_of-requires-clause-one c =
    λ v d k a b. c.requires.told.one v d k
    (subst (λ l. AtIn l v d) c.deref.ensures.value a) (subst (λ l. AtIn l v k) c.deref.ensures.value b)

pub returns : goal.returns
returns c =
    let reaches = c.sort_reaches.new.reaches.items in
    let made = rw c.deref.ensures.value at c.in_ok-reaches.ensures in
    λ adverts root listed tree ends_are.
    table_is adverts root c.args.ends.now c.args.paths.now.settled.items c.args.paths.now.starts.items reaches
    listed tree
    (λ r. (
      λ m. (made r).0 (Contains-permutation _ _ r (IsPermutation-sym _ _ c.sort_reaches.ensures.same) m),
      λ m. Contains-permutation _ _ r c.sort_reaches.ensures.same ((made r).1 m),
    ))
    ends_are
    c.in_ok-routes.routes.items
    c.in_ok-routes.ensures.in_order
    (rw c.deref-2.ensures.value at c.in_ok-routes.ensures.complete)
    (rw (c.deref-2.ensures.value, c.deref-3.ensures.value) at c.in_ok-routes.ensures.sound)
