use Rattle.std.proofs.Common.{◌≡◌, ◌∙◌, Some, cond, false, ap, sym, subst}
use Rattle.std.specs.HashSet.{contains}
use Rattle.std.specs.List.{position}
use Rattle.ospf_neighbour.specs.Lists.{AreNamesOf, is_header_of, name_eq, requests_without}
use Rattle.ospf_neighbour.specs.OneAKey.{AsksOnce}
use Rattle.ospf_neighbour.specs.declared.requests.LsaName.{LsaName}
use Rattle.ospf_neighbour.proofs.NameLemmas.{AreNamesOf-remove}
use Rattle.ospf_neighbour.proofs.OneLemmas.{no_request_leaves, request_leaves}
use Rattle.ospf_neighbour.proofs.RequestLemmas.{AsksOnce-filter}
use Rattle.ospf_neighbour.proofs.Words.{is_of_other}
use Rattle.ospf_neighbour.proofs.requests.Requests.remove.Goals as goal

pub invariant_of-self : goal.invariant_of-self
invariant_of-self c =
    let key = c.args.key.now in
    let old = c.self.inside.entries.items in
    let has = contains name_eq c.self.inside.names in
    let now = contains name_eq c.remove-in-Some.new.self in
    let found : position (is_header_of key) old ≡ Some c.in-Some.at = ap (position (is_header_of key)) c.self.view_is ∙ sym c.place_of.ensures ∙ c.in-Some.is in
    let left : requests_without key old ≡ c.remove.new.self.items =
    sym (request_leaves key old c.in-Some.at c.remove.result c.self.invariant.1 found) ∙ sym c.remove.ensures.items in (
      subst (AreNamesOf now) left
          (AreNamesOf-remove has now key old c.self.invariant.0
          (λ n. c.remove-in-Some.ensures.updates.0 n ∙ ap (λ (name : LsaName). cond (name_eq name n) false (has n)) c.name_of_key.ensures)),
      subst AsksOnce left (AsksOnce-filter (is_of_other key) old c.self.invariant.1),
    )

pub returns-in-Some : goal.returns-in-Some
returns-in-Some c =
    let key = c.args.key.now in
    let old = c.self.inside.entries.items in
    let found : position (is_header_of key) old ≡ Some c.in-Some.at = ap (position (is_header_of key)) c.self.view_is ∙ sym c.place_of.ensures ∙ c.in-Some.is in
    c.remove.ensures.items ∙ request_leaves key old c.in-Some.at c.remove.result c.self.invariant.1 found ∙ ap (requests_without key) c.self.view_is

pub returns-in_default : goal.returns-in_default
returns-in_default c = no_request_leaves c.args.key.now c.args.self.now (sym c.place_of.ensures ∙ c.in_default.is)
