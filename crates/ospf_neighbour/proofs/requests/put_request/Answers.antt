use Rattle.std.proofs.Common.{◌≡◌, ◌∙◌, List, Some, None, cond, true, ap, sym, subst}
use Rattle.std.specs.HashSet.{contains}
use Rattle.std.specs.List.{position}
use Rattle.ospf_lsa.specs.declared.header.LsaHeader.{LsaHeader}
use Rattle.ospf_neighbour.specs.Lists.{AreNamesOf, name_eq}
use Rattle.ospf_neighbour.specs.OneAKey.{is_of_one_lsa}
use Rattle.ospf_neighbour.specs.declared.requests.LsaName.{LsaName}
use Rattle.ospf_neighbour.proofs.NameLemmas.{AreNamesOf-placed, AreNamesOf-put}
use Rattle.ospf_neighbour.proofs.RequestLemmas.{put_found, put_new}
use Rattle.ospf_neighbour.proofs.requests.put_request.Goals as goal

pub returns-in-Some-clause-ok : goal.returns-in-Some-clause-ok
returns-in-Some-clause-ok c =
    put_found c.args.header.now c.args.all.now.items c.in-Some.at (ap (λ (l : List LsaHeader). position (is_of_one_lsa c.args.header.now) l) (sym c.deref.ensures.value) ∙ sym c.place_of.ensures ∙ c.in-Some.is)

pub returns-in-Some-clause-names : goal.returns-in-Some-clause-names
returns-in-Some-clause-names c =
    let header = c.args.header.now in
    let all = c.args.all.now.items in
    let found : position (is_of_one_lsa header) all ≡ Some c.in-Some.at =
    ap (λ (l : List LsaHeader). position (is_of_one_lsa header) l) (sym c.deref.ensures.value) ∙ sym c.place_of.ensures ∙ c.in-Some.is in
    subst (AreNamesOf (contains name_eq c.args.names.now)) (sym (put_found header all c.in-Some.at found))
    (AreNamesOf-placed (contains name_eq c.args.names.now) header all c.in-Some.at found c.requires)

pub returns-in_ok-push-in-None-clause-ok : goal.returns-in_ok-push-in-None-clause-ok
returns-in_ok-push-in-None-clause-ok c =
    c.in_ok-push-in-None.ensures.items
    ∙ put_new c.args.header.now c.args.all.now.items (ap (λ (l : List LsaHeader). position (is_of_one_lsa c.args.header.now) l) (sym c.deref.ensures.value) ∙ sym c.place_of.ensures ∙ c.in-None.is)

pub returns-in_ok-push-in-None-clause-names : goal.returns-in_ok-push-in-None-clause-names
returns-in_ok-push-in-None-clause-names c =
    let header = c.args.header.now in
    let all = c.args.all.now.items in
    let has = contains name_eq c.args.names.now in
    let now = contains name_eq c.insert.new.self in
    let new : position (is_of_one_lsa header) all ≡ None =
    ap (λ (l : List LsaHeader). position (is_of_one_lsa header) l) (sym c.deref.ensures.value) ∙ sym c.place_of.ensures ∙ c.in-None.is in
    subst (AreNamesOf now) (sym (c.in_ok-push-in-None.ensures.items ∙ put_new header all new))
    (AreNamesOf-put has now header all c.requires
    (λ n. c.in_ok-insert-in-None.ensures.updates.0 n ∙ ap (λ (name : LsaName). cond (name_eq name n) true (has n)) c.name_of.ensures))
