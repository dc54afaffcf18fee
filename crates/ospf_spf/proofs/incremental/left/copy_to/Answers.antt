use Rattle.std.proofs.Common.{◌≡◌, ◌∙◌, get_or, nat_eq, is_some, ap, refl, subst, sym}
use Rattle.std.specs.HashMap.{get}
use Rattle.ospf_spf.specs.IncrementalSpf.Left.{Copies}
use Rattle.ospf_spf.proofs.IncrementalSpf.LeftLemmas.{copies_more, copies_none, copies_there, is_reached, near_copies}
use Rattle.ospf_spf.proofs.incremental.left.copy_to.Goals as goal

pub returns-in_default-clause-copies : goal.returns-in_default-clause-copies
returns-in_default-clause-copies c =
    copies_none (get nat_eq c.args.found.now.places) c.args.found.now.reached.items c.args.own.now.reached.items c.requires.places c.args.vertex c.requires.copies
    (sym c.place_of.ensures ∙ c.in_default.is)

pub returns-then-is_some-clause-copies : goal.returns-then-is_some-clause-copies
returns-then-is_some-clause-copies c =
    let own = c.args.own.now in
    let there = is_reached (get nat_eq own.places) own.reached.items c.requires.own_places c.args.vertex
    (ap is_some (sym c.place_of-2.ensures) ∙ (sym c.is_some.ensures ∙ c.if-is_some.true)) in
    copies_there (get nat_eq c.args.found.now.places) c.args.found.now.reached.items own.reached.items c.requires.places c.args.vertex c.requires.copies there.0 there.1

pub returns-clause-copies : goal.returns-clause-copies
returns-clause-copies c =
    let f = c.args.found.now.reached.items in
    let own = c.args.own.now.reached.items in
    let one = c.index-one.result.now in
    let is : one ≡ get_or f c.in-Some.place one = (let e = c.index-one.ensures in search) in
    let starts : c.in_ok-starts.starts.items ≡ one.starts.items = c.in_ok-starts.ensures.items ∙ c.deref.ensures.value in
    subst (λ l. Copies c.args.vertex f own l) (sym c.in_ok-push.ensures.items)
    (copies_more (get nat_eq c.args.found.now.places) f own c.requires.places c.args.vertex c.requires.copies c.in-Some.place (sym c.place_of.ensures ∙ c.in-Some.is) one _ is refl refl starts)

pub returns-clause-near : goal.returns-clause-near
returns-clause-near c =
    near_copies c.args.found.now.reached.items c.push.new.self.items (returns-clause-copies c).copies c.requires.near
