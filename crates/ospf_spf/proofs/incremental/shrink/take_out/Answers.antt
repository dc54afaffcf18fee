use Rattle.std.proofs.Common.{◌≡◌, ◌+◌, ◌-◌, ◌<◌, ◌≤◌, ◌∙◌, ℕ, None, Some, ap, arith, cond, get_or, length, nat_eq, subst, sym, vec_len}
use Rattle.std.specs.HashMap.{get}
use Rattle.ospf_graph.specs.Search.{vertex_code}
use Rattle.ospf_graph.specs.declared.reached.Reached.{Reached}
use Rattle.ospf_spf.proofs.IncrementalSpf.ShrinkSteps.{at_key, at_other, leaves_none, leaves_out, moved_other, places_out}
use Rattle.ospf_spf.proofs.incremental.shrink.take_out.Goals as goal

pub returns-in_default-clause-left : goal.returns-in_default-clause-left
returns-in_default-clause-left c =
    leaves_none (get nat_eq c.args.found.now.places) c.args.found.now.reached.items c.requires c.args.vertex (sym c.place_of.ensures ∙ c.in_default.is)

pub returns-in_ok-insert-clause-places : goal.returns-in_ok-insert-clause-places
returns-in_ok-insert-clause-places c =
    let rs = c.args.found.now.reached.items in
    let rs' = c.swap_remove.new.self.items in
    let k = c.in-Some.place in
    let out = c.index.result.now in
    let old = get nat_eq c.args.found.now.places in
    let mid = get nat_eq c.remove.new.self in
    let at : old (vertex_code c.args.vertex) ≡ Some k = sym c.place_of.ensures ∙ c.in-Some.is in
    let whole : vec_len c.args.found.now.reached ≡ length rs = omega arith in
    let long : length rs' + 1 ≡ length rs = (let l = c.swap_remove.ensures.len in omega arith) in
    let moved : (d : Reached) → k + 1 < length rs → get_or rs' k d ≡ get_or rs (length rs - 1) d =
    λ d lt. subst (λ n. get_or rs' k d ≡ get_or rs (n - 1) d) whole (c.swap_remove.ensures.by_index.0 d (omega arith)) in
    let stay : (j : ℕ) (d : Reached) → (j ≡ k → ⊥) → j + 1 < length rs → get_or rs' j d ≡ get_or rs j d =
    λ j d ne lt. c.swap_remove.ensures.by_index.1 j d ne (omega arith) in
    let first : (q : ℕ) → mid q ≡ cond (nat_eq (vertex_code c.args.vertex) q) None (old q) =
    subst (λ a. (q : ℕ) → mid q ≡ cond (nat_eq a q) None (old q)) c.vertex_order.ensures c.remove.ensures.updates.0 in
    let new = get nat_eq c.insert.new.self in
    let within : k < length rs' = (let lt = c.if-place-len.true in omega arith) in
    let last : (q : ℕ) → new q ≡ cond (nat_eq (vertex_code (get_or rs' k out).vertex) q) (Some k) (mid q) =
    subst (λ a. (q : ℕ) → new q ≡ cond (nat_eq a q) (Some k) (mid q)) (c.vertex_order-moved.ensures ∙ ap (λ r. vertex_code r.vertex) c.index.ensures) c.in_ok-insert.ensures.updates.0 in
    places_out old new rs rs' c.requires c.args.vertex k at out long moved stay
    (at_other mid new _ (Some k) last _ (λ same. moved_other old rs rs' c.requires c.args.vertex k at out long moved within (sym same)) ∙ at_key old mid _ None first)
    (λ q ne apart. at_other mid new _ (Some k) last q (apart within) ∙ at_other old mid _ None first q ne)
    (λ _. at_key mid new _ (Some k) last)

pub returns-in_ok-insert-clause-left : goal.returns-in_ok-insert-clause-left
returns-in_ok-insert-clause-left c =
    let rs = c.args.found.now.reached.items in
    let rs' = c.swap_remove.new.self.items in
    let k = c.in-Some.place in
    let out = c.index.result.now in
    let old = get nat_eq c.args.found.now.places in
    let mid = get nat_eq c.remove.new.self in
    let at : old (vertex_code c.args.vertex) ≡ Some k = sym c.place_of.ensures ∙ c.in-Some.is in
    let whole : vec_len c.args.found.now.reached ≡ length rs = omega arith in
    let long : length rs' + 1 ≡ length rs = (let l = c.swap_remove.ensures.len in omega arith) in
    let moved : (d : Reached) → k + 1 < length rs → get_or rs' k d ≡ get_or rs (length rs - 1) d =
    λ d lt. subst (λ n. get_or rs' k d ≡ get_or rs (n - 1) d) whole (c.swap_remove.ensures.by_index.0 d (omega arith)) in
    let stay : (j : ℕ) (d : Reached) → (j ≡ k → ⊥) → j + 1 < length rs → get_or rs' j d ≡ get_or rs j d =
    λ j d ne lt. c.swap_remove.ensures.by_index.1 j d ne (omega arith) in
    let first : (q : ℕ) → mid q ≡ cond (nat_eq (vertex_code c.args.vertex) q) None (old q) =
    subst (λ a. (q : ℕ) → mid q ≡ cond (nat_eq a q) None (old q)) c.vertex_order.ensures c.remove.ensures.updates.0 in
    let new = get nat_eq c.insert.new.self in
    let within : k < length rs' = (let lt = c.if-place-len.true in omega arith) in
    let last : (q : ℕ) → new q ≡ cond (nat_eq (vertex_code (get_or rs' k out).vertex) q) (Some k) (mid q) =
    subst (λ a. (q : ℕ) → new q ≡ cond (nat_eq a q) (Some k) (mid q)) (c.vertex_order-moved.ensures ∙ ap (λ r. vertex_code r.vertex) c.index.ensures) c.in_ok-insert.ensures.updates.0 in
    leaves_out old new rs rs' c.requires c.args.vertex k at out long moved stay
    (at_other mid new _ (Some k) last _ (λ same. moved_other old rs rs' c.requires c.args.vertex k at out long moved within (sym same)) ∙ at_key old mid _ None first)
    (λ q ne apart. at_other mid new _ (Some k) last q (apart within) ∙ at_other old mid _ None first q ne)
    (λ _. at_key mid new _ (Some k) last)

pub returns-else-place-len-clause-places : goal.returns-else-place-len-clause-places
returns-else-place-len-clause-places c =
    let rs = c.args.found.now.reached.items in
    let rs' = c.swap_remove.new.self.items in
    let k = c.in-Some.place in
    let out = c.swap_remove.result in
    let old = get nat_eq c.args.found.now.places in
    let mid = get nat_eq c.remove.new.self in
    let at : old (vertex_code c.args.vertex) ≡ Some k = sym c.place_of.ensures ∙ c.in-Some.is in
    let whole : vec_len c.args.found.now.reached ≡ length rs = omega arith in
    let long : length rs' + 1 ≡ length rs = (let l = c.swap_remove.ensures.len in omega arith) in
    let moved : (d : Reached) → k + 1 < length rs → get_or rs' k d ≡ get_or rs (length rs - 1) d =
    λ d lt. subst (λ n. get_or rs' k d ≡ get_or rs (n - 1) d) whole (c.swap_remove.ensures.by_index.0 d (omega arith)) in
    let stay : (j : ℕ) (d : Reached) → (j ≡ k → ⊥) → j + 1 < length rs → get_or rs' j d ≡ get_or rs j d =
    λ j d ne lt. c.swap_remove.ensures.by_index.1 j d ne (omega arith) in
    let first : (q : ℕ) → mid q ≡ cond (nat_eq (vertex_code c.args.vertex) q) None (old q) =
    subst (λ a. (q : ℕ) → mid q ≡ cond (nat_eq a q) None (old q)) c.vertex_order.ensures c.remove.ensures.updates.0 in
    let past : length rs' ≤ k = (let le = c.if-place-len.false in omega arith) in
    places_out old mid rs rs' c.requires c.args.vertex k at out long moved stay (at_key old mid _ None first) (λ q ne _. at_other old mid _ None first q ne)
    (λ within. absurd (omega arith))

pub returns-else-place-len-clause-left : goal.returns-else-place-len-clause-left
returns-else-place-len-clause-left c =
    let rs = c.args.found.now.reached.items in
    let rs' = c.swap_remove.new.self.items in
    let k = c.in-Some.place in
    let out = c.swap_remove.result in
    let old = get nat_eq c.args.found.now.places in
    let mid = get nat_eq c.remove.new.self in
    let at : old (vertex_code c.args.vertex) ≡ Some k = sym c.place_of.ensures ∙ c.in-Some.is in
    let whole : vec_len c.args.found.now.reached ≡ length rs = omega arith in
    let long : length rs' + 1 ≡ length rs = (let l = c.swap_remove.ensures.len in omega arith) in
    let moved : (d : Reached) → k + 1 < length rs → get_or rs' k d ≡ get_or rs (length rs - 1) d =
    λ d lt. subst (λ n. get_or rs' k d ≡ get_or rs (n - 1) d) whole (c.swap_remove.ensures.by_index.0 d (omega arith)) in
    let stay : (j : ℕ) (d : Reached) → (j ≡ k → ⊥) → j + 1 < length rs → get_or rs' j d ≡ get_or rs j d =
    λ j d ne lt. c.swap_remove.ensures.by_index.1 j d ne (omega arith) in
    let first : (q : ℕ) → mid q ≡ cond (nat_eq (vertex_code c.args.vertex) q) None (old q) =
    subst (λ a. (q : ℕ) → mid q ≡ cond (nat_eq a q) None (old q)) c.vertex_order.ensures c.remove.ensures.updates.0 in
    let past : length rs' ≤ k = (let le = c.if-place-len.false in omega arith) in
    leaves_out old mid rs rs' c.requires c.args.vertex k at out long moved stay (at_key old mid _ None first) (λ q ne _. at_other old mid _ None first q ne)
    (λ within. absurd (omega arith))
